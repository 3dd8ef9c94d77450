use Rattle.std.proofs.Common.{rules}
use Rattle.object_store.specs.declared.events.StoreFault.TheVariants.{Failed}
use Rattle.mem_store.specs.Lent.{op_lent}
use Rattle.mem_store.proofs.Calls.{MadeFail-fails}
use Rattle.mem_store.proofs.making.MemStoreFailing.fail.Goals as goal

pub returns-in-Ok-clause-failed : goal.returns-in-Ok-clause-failed
returns-in-Ok-clause-failed g c = MadeFail-fails g.R.Rule.may g.C.Clock.gives c.args.done (op_lent c.args.op.now) Failed c.args.self.now c.log.new.self (search rules)

pub returns-in-Err-clause-failed : goal.returns-in-Err-clause-failed
returns-in-Err-clause-failed g c = MadeFail-fails g.R.Rule.may g.C.Clock.gives c.args.done (op_lent c.args.op.now) _ c.args.self.now c.log.new.self (search rules)
