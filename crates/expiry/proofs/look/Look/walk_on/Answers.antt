use Rattle.std.proofs.Common.{◌≡◌, ◌∙◌, None, Some, ap, sym}
use Rattle.expiry.specs.Looks.{next_of, look_below}
use Rattle.expiry.proofs.StepsLook.{below-ends, below-deep, below-live, state-over}
use Rattle.expiry.proofs.look.Look.walk_on.Goals as goal

pub returns-in-None-clause-lands : goal.returns-in-None-clause-lands
returns-in-None-clause-lands c =
    let e : next_of c.args.last.file ≡ None = sym c.in-None.ensures in
    (below-ends c.args.left c.args.self.now.terms.cutoff c.args.last _ e, state-over _ _ _ c.requires)

pub returns-then-left-eq0-clause-lands : goal.returns-then-left-eq0-clause-lands
returns-then-left-eq0-clause-lands c =
    let e : next_of c.args.last.file ≡ Some c.in-Some.next = sym c.in-Some.ensures in
    (state-over _ _ _ c.requires, λ n. below-deep c.args.left c.args.self.now.terms.cutoff c.args.last _ c.in-Some.next e c.if-left-eq0.true)

pub returns-else-left-eq0-clause-lands : goal.returns-else-left-eq0-clause-lands
returns-else-left-eq0-clause-lands c =
    let e : next_of c.args.last.file ≡ Some c.in-Some.next = sym c.in-Some.ensures in
    rw (c.go_to.ensures.again, c.go_to.ensures.state) (ap (look_below c.args.left c.args.self.now.terms.cutoff c.args.last) e, below-live c.args.left c.args.self.now.terms.cutoff c.args.last c.in-Some.next c.if-left-eq0.false)
