use Rattle.std.proofs.Common.{◌≡◌, Some, sym, ◌∙◌, ap, subst, arith}
use Rattle.commit_path.specs.Committing.{Answer, written_in, arrays_behind, commit_rest}
use Rattle.std.specs.Prelude.{[]}
use Rattle.std.proofs.lemmas.Option.{get_or_from_slice_get}
use Rattle.snapshot_file.specs.declared.nodes.ManifestRef.{ManifestRef}
use Rattle.commit_path.specs.inside.Working.{Turns}
use Rattle.session.specs.Sessions.{SessionState}
use Rattle.changed_snapshot.specs.Rows.{own_manifests}
use Rattle.commit_path.proofs.Walking.{turn-more, turn-got}
use Rattle.commit_path.proofs.commit.Commit.turn.Goals as goal

pub returns-then-len-clause-turns : goal.returns-then-len-clause-turns
returns-then-len-clause-turns c =
    let s = c.args.self.now in
    let own = c.manifests-manifests.ensures ∙ ap (λ (x : SessionState). own_manifests x.rows c.in-Some.array.now.path c.in-Some.array.now.node) c.as_session-session.ensures in
    let there = c.at.ensures ∙ ap (λ (m : ManifestRef). Some m) (sym c.in-Ok.ensures) in
    rw c.follow.ensures (turn-more s.session s.message (written_in s) s.arrays.left c.in-Some.array.now c.args.got.items c.manifests-manifests.result c.len-then-len.result c.in-Ok.manifest c.in-Some.ensures own (omega (arith, c.args.got.ok.0)) (omega arith) (sym (get_or_from_slice_get c.manifests-manifests.result c.len-then-len.result c.in-Ok.manifest c.in-Ok.manifest there)), tt)

pub returns-clause-turns : goal.returns-clause-turns
returns-clause-turns c =
    let s = c.args.self.now in
    let own = c.manifests-manifests.ensures ∙ ap (λ (x : SessionState). own_manifests x.rows c.in-Some.array.now.path c.in-Some.array.now.node) c.as_session-session.ensures in
    let t = c.write_array.new.self in
    subst (λ (p : Answer). Turns p (arrays_behind t.session t.message (written_in t) t.arrays.left []) (commit_rest t) c.write_array.result)
    (sym (turn-got s.session s.message (written_in s) s.arrays.left c.in-Some.array.now c.args.got.items c.manifests-manifests.result c.in-Some.ensures own (omega (arith, c.args.got.ok.0))))
    c.write_array.ensures.turns
