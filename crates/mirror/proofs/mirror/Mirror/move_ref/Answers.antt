use Rattle.std.proofs.Common.{refl}
use Rattle.two_stores.specs.declared.side.Side.TheVariants.{To}
use Rattle.mirror.specs.Programs.{move_ref}
use Rattle.mirror.specs.inside.Working.{work_of}
use Rattle.mirror.proofs.Answering.{asks-first}
use Rattle.mirror.proofs.mirror.Mirror.move_ref.Goals as goal

pub returns : goal.returns
returns c =
    let m = c.args.self.now in
    asks-first m.register.names c.first.ensures.0 c.first.result.now (work_of m) (λ r next. move_ref r m.target (work_of m) next c.args.old) m.register.phase To _ c.first.ensures.1 (refl, rw (c.in_ok-key.ensures, c.in_ok-reference.ensures) refl)
