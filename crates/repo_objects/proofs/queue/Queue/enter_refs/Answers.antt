use Rattle.std.proofs.Common.{List, ap, sym, ◌∙◌, arith}
use Rattle.std.proofs.lemmas.List.{drop_all}
use Rattle.snapshot_file.specs.declared.nodes.ManifestRef.{ManifestRef}
use Rattle.held_snapshot.proofs.Made.{from_here}
use Rattle.repo_objects.specs.Lines.{enter_refs}
use Rattle.repo_objects.proofs.queue.Queue.enter_refs.Goals as goal

pub loop-at-preserved : goal.loop-at-preserved
loop-at-preserved c =
    let here = ap (λ (ms : List ManifestRef). enter_refs ms c.loop-at.self) (from_here c.args.manifests.now c.loop-at.at c.at.result c.at.ensures) in
    rw (c.in_ok-enter.ensures, c.id.ensures) (sym here ∙ c.loop-at.invariant)

pub returns : goal.returns
returns c = ap (λ (ms : List ManifestRef). enter_refs ms c.loop-at.self) (sym (drop_all c.loop-at.at c.args.manifests.now (omega (arith, c.len-at-end.ensures)))) ∙ c.loop-at.invariant
