use Rattle.std.proofs.Common.{refl}
use Rattle.chunk_gc.proofs.Acting.{sweep-end, sweep-more}
use Rattle.chunk_gc.proofs.removing.next_removal.Goals as goal

pub returns-in-None-clause-comes : goal.returns-in-None-clause-comes
returns-in-None-clause-comes c = sweep-end c.args.keys c.args.removed _ c.in-None.ensures.0 refl

pub returns-in-Some-clause-comes : goal.returns-in-Some-clause-comes
returns-in-Some-clause-comes c = sweep-more c.args.keys _ _ c.args.removed _ c.in-Some.ensures refl
