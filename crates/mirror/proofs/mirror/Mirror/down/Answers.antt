use Rattle.std.proofs.Common.{sym, ◌∙◌, arith}
use Rattle.mirror.proofs.Stepping.{down-copied, down-deep, down-more}
use Rattle.mirror.proofs.mirror.Mirror.down.Goals as goal

pub returns-then-contains-clause-lands : goal.returns-then-contains-clause-lands
returns-then-contains-clause-lands c =
    let m = c.args.self.now in
    c.next_link.ensures.lands ∙ sym (down-copied m.left m.line _ _ c.args.id (sym c.contains.ensures ∙ c.if-contains.true))

pub returns-then-self-eq0-clause-lands : goal.returns-then-self-eq0-clause-lands
returns-then-self-eq0-clause-lands c =
    let m = c.args.self.now in
    rw c.refuse.ensures (sym (down-deep m.left m.line _ _ c.args.id (sym c.contains.ensures ∙ c.if-contains.false) c.if-self-eq0.true))

pub returns-else-self-eq0-clause-lands : goal.returns-else-self-eq0-clause-lands
returns-else-self-eq0-clause-lands c =
    let m = c.args.self.now in
    sym (down-more m.left m.line _ _ c.args.id (sym c.contains.ensures ∙ c.if-contains.false) (omega (arith, c.if-self-eq0.false)))
