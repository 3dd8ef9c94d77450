use Rattle.std.proofs.Common.{◌≡◌, sym, ap, subst, ◌∙◌}
use Rattle.std.specs.Prelude.{unwrap_or}
use Rattle.repo_objects.specs.Trees.{nodes_in}
use Rattle.manifest_file.specs.declared.manifest.Place.{Place}
use Rattle.zarr_tree.specs.Held.{Held}
use Rattle.zarr_changes.specs.Edits.{without_chunks}
use Rattle.store_api.specs.Program.{Lands}
use Rattle.store_api.specs.Running.{Program}
use Rattle.rebase.specs.declared.machine.Rebased.{Rebased}
use Rattle.rebase.specs.Rebasing.{rebase_rest}
use Rattle.rebase.specs.inside.Working.{commits_behind}
use Rattle.rebase.proofs.Rebases.{with-it, commit-solved}
use Rattle.rebase.proofs.machine.Rebase.on_lists.Goals as goal

pub returns-clause-lands : goal.returns-clause-lands
returns-clause-lands c =
    let m = c.args.self.now in
    let l = c.args.solving in
    let s = c.session-session.result.now in
    let left : Held Place = unwrap_or c.in-Ok-without.held s.held in
    let w : left ≡ without_chunks c.held_of-held.result.now c.in-Ok.out =
    ap (λ (own : Held Place). unwrap_or c.in-Ok-without.held own) (sym c.changes.ensures) ∙ c.in-Ok-without.ensures
    ∙ ap (λ (own : Held Place). without_chunks (unwrap_or l.held own) c.as_slice.result.now) c.changes.ensures
    ∙ ap (λ (held : Held Place). without_chunks held c.as_slice.result.now) (sym c.held_of-held.ensures) ∙ ap (without_chunks c.held_of-held.result.now) c.as_slice.ensures in
    subst (λ (p : Program Rebased). Lands p (rebase_rest c.on_solved.new.self) c.on_solved.result)
    (with-it m.session s (λ s. commits_behind m.policy s l.named l.count l.oldest l.later (unwrap_or c.in-Ok-without.held s.held)) c.session-session.ensures
    ∙ sym (commit-solved m.policy m.session s l c.args.lists.now c.held_of-held.result.now left (nodes_in c.before_of-before.result.now.nodes) c.in-Ok.out c.session-session.ensures c.held_of-held.ensures c.before_of-before.ensures c.in-Ok.ensures.clears w))
    c.on_solved.ensures.lands
