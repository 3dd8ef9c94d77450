use Rattle.std.proofs.Common.{sym, ap, ◌∙◌}
use Rattle.ice_ids.specs.declared.Id12.{Id12}
use Rattle.ice_ids.specs.Text.{same_id12}
use Rattle.rebase.proofs.Rebases.{not-true, named-walks}
use Rattle.rebase.proofs.machine.Rebase.on_named.Goals as goal

pub returns-then-ne-clause-lands : goal.returns-then-ne-clause-lands
returns-then-ne-clause-lands c = rw c.follow.ensures
    (named-walks c.args.self.now.policy c.args.self.now.session c.session.result.now c.args.named c.new.result c.session.ensures
    (ap (λ (base : Id12). same_id12 c.args.named.id base) (sym c.base.ensures) ∙ not-true _ (sym c.ne.ensures ∙ c.if-ne.true)) c.new.ensures)
