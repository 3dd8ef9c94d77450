use Rattle.std.proofs.Common.{sym, ap, subst, ◌∙◌, ◌++◌, ◌∷◌, [], append-nil, take, ◌-◌, List}
use Rattle.std.specs.Prelude.{option_to_list}
use Rattle.snapshot_file.specs.declared.snapshot.SnapshotFile.{SnapshotFile}
use Rattle.store_api.specs.Program.{Lands}
use Rattle.store_api.specs.Running.{Program}
use Rattle.rebase.specs.declared.machine.Rebased.{Rebased}
use Rattle.rebase.specs.Rebasing.{rebase_rest}
use Rattle.rebase.proofs.Rebases.{later-lands, none-later}
use Rattle.rebase.proofs.machine.Rebase.on_solved.Goals as goal

pub returns-in_default-clause-lands : goal.returns-in_default-clause-lands
returns-in_default-clause-lands c =
    subst (λ (p : Program Rebased). Lands p (rebase_rest c.finish.new.self) c.finish.result)
    (sym (none-later c.args.self.now.policy c.args.self.now.session c.args.named c.args.count c.args.commit c.args.later c.args.held (sym c.into_vec-later.ensures ∙ c.in_default.ensures.items ∙ append-nil c.pop.new.self.items ∙ c.pop.ensures.rest ∙ ap (λ n. take (n - 1) c.into_vec-later.result.items) c.in_default.ensures.cases.0)))
    c.finish.ensures.lands

pub returns-clause-lands : goal.returns-clause-lands
returns-clause-lands c = rw c.follow.ensures
    (later-lands c.args.self.now.policy c.args.self.now.session c.args.named c.args.count c.args.commit c.in-Some.oldest c.args.later c.from_vec.result c.args.held c.requires.live
    (sym c.into_vec-later.ensures ∙ c.pop.ensures.items ∙ ap (λ o. c.pop.new.self.items ++ option_to_list o) c.in-Some.is ∙ ap (λ (xs : List SnapshotFile). xs ++ c.in-Some.oldest ∷ []) (sym c.from_vec.ensures)))
