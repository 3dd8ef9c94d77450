use Rattle.std.proofs.Common.{sym, ◌∙◌}
use Rattle.session.proofs.ReadSteps.{first_some, first_none}
use Rattle.session.proofs.getting.first_listed.Goals as goal

pub returns-in-Some : goal.returns-in-Some
returns-in-Some c = λ want node index. first_some want node index c.args.ids c.in-Some.id (sym c.id_at.ensures.value ∙ c.in-Some.is) c.id_at.ensures.few

pub returns-in-None : goal.returns-in-None
returns-in-None c = λ want node index. first_none want node index c.args.ids (sym c.id_at.ensures.value ∙ c.in-None.is)
