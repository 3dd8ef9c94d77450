use Rattle.std.proofs.Common.{◌≡◌, subst, arith, length}
use Rattle.std.specs.Prelude.{nat_le, true, false}
use Rattle.std.proofs.lemmas.Bool.Decides.{nat_tests}
use Rattle.store_api.specs.Running.{Program}
use Rattle.session.specs.Chunks.{most_inline}
use Rattle.session.specs.Sessions.{SessionState}
use Rattle.session.specs.Setting.{SetBegun}
use Rattle.session.proofs.Chunking.{held_by}
use Rattle.session.proofs.session.Session.set_held.Goals as goal

pub returns-then-len-le-MOST_INLINE : goal.returns-then-len-le-MOST_INLINE
returns-then-len-le-MOST_INLINE c =
    let short : nat_le (length c.args.bytes) most_inline ≡ true = grind (arith, nat_tests, c.len.ensures, c.if-len-le-MOST_INLINE.true) in
    subst (λ (p : Program SessionState). SetBegun p c.args.self c.set_inline.result) (held_by c.args.self c.args.node c.args.index c.args.bytes true short) c.set_inline.ensures

pub returns-else-len-le-MOST_INLINE : goal.returns-else-len-le-MOST_INLINE
returns-else-len-le-MOST_INLINE c =
    let long : nat_le (length c.args.bytes) most_inline ≡ false = grind (arith, nat_tests, c.len.ensures, c.if-len-le-MOST_INLINE.false) in
    subst (λ (p : Program SessionState). SetBegun p c.args.self c.set_object.result) (held_by c.args.self c.args.node c.args.index c.args.bytes false long) c.set_object.ensures.sets
