use Rattle.mirror.proofs.Landing.{link-none, link-some}
use Rattle.mirror.proofs.mirror.Mirror.next_link.Goals as goal

pub returns-in-None-clause-lands : goal.returns-in-None-clause-lands
returns-in-None-clause-lands c = link-none c.args.self.now _ c.in-None.ensures

pub returns-in-Some-clause-lands : goal.returns-in-Some-clause-lands
returns-in-Some-clause-lands c = link-some c.args.self.now c.in-Some.link _ c.in-Some.ensures
