use Rattle.std.proofs.Common.{◌<◌, refl, arith}
use Rattle.chunk_gc.proofs.Stepping.{marking-end, marking-deep, marking-taken, tells-by}
use Rattle.chunk_gc.proofs.mark.Mark.take_snapshot.Goals as goal

pub returns-then-self-eq0-clause-lands : goal.returns-then-self-eq0-clause-lands
returns-then-self-eq0-clause-lands c = (rw c.requires.ended tt, λ n. marking-deep _ _ _ _ _ c.in-Some.ensures.0 c.if-self-eq0.true)

pub returns-in-None-clause-lands : goal.returns-in-None-clause-lands
returns-in-None-clause-lands c = rw (c.go_to.ensures.again, c.go_to.ensures.state) (rw c.in-None.ensures.1 (marking-end _ _ _ c.in-None.ensures.0 c.requires.passed), tt)

pub returns-else-self-eq0-clause-lands : goal.returns-else-self-eq0-clause-lands
returns-else-self-eq0-clause-lands c = rw (c.go_to-in-Some.ensures.again, c.go_to-in-Some.ensures.state) (let h : 0 < c.args.self.now.left = omega (arith, c.if-self-eq0.false) in marking-taken _ _ _ _ _ c.in-Some.ensures h, tt)

pub returns-then-self-eq0-clause-told : goal.returns-then-self-eq0-clause-told
returns-then-self-eq0-clause-told c = tells-by _ _ _ (marking-deep _ _ _ _ _ c.in-Some.ensures.0 c.if-self-eq0.true) refl

pub returns-in-None-clause-told : goal.returns-in-None-clause-told
returns-in-None-clause-told c = tells-by _ _ _ (marking-end _ _ _ c.in-None.ensures.0 c.requires.passed) tt

pub returns-else-self-eq0-clause-told : goal.returns-else-self-eq0-clause-told
returns-else-self-eq0-clause-told c = let h : 0 < c.args.self.now.left = omega (arith, c.if-self-eq0.false) in tells-by _ _ _ (marking-taken _ _ _ _ _ c.in-Some.ensures h) tt
