use Rattle.mirror.proofs.Landing.{chunk-none, chunk-some}
use Rattle.mirror.proofs.mirror.Mirror.next_chunk.Goals as goal

pub returns-in-None-clause-lands : goal.returns-in-None-clause-lands
returns-in-None-clause-lands c = chunk-none c.args.self.now _ c.in-None.ensures

pub returns-in-Some-clause-lands : goal.returns-in-Some-clause-lands
returns-in-Some-clause-lands c = chunk-some c.args.self.now c.in-Some.id _ c.in-Some.ensures
