use Rattle.std.proofs.Common.{inl}
use Rattle.mirror.proofs.Landing.{ref-differs}
use Rattle.mirror.proofs.mirror.Mirror.refuse_ref.Goals as goal

pub returns-in-Ok-clause-lands : goal.returns-in-Ok-clause-lands
returns-in-Ok-clause-lands c =
    let m = c.args.self.now in
    inl (rw (c.refuse.ensures, c.in-Ok.ensures) (ref-differs m c.first.result.now c.first.ensures.0 c.first.ensures.1))
