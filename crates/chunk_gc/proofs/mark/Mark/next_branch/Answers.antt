use Rattle.chunk_gc.proofs.Stepping.{refs-end, refs-more}
use Rattle.chunk_gc.proofs.mark.Mark.next_branch.Goals as goal

pub returns-in-None-clause-lands : goal.returns-in-None-clause-lands
returns-in-None-clause-lands c = rw (c.go_to.ensures.again, c.go_to.ensures.state) (refs-end _ _ _ _ c.in-None.ensures.0, tt)

pub returns-in-Some-clause-lands : goal.returns-in-Some-clause-lands
returns-in-Some-clause-lands c = rw (c.go_to-in-Some.ensures.again, c.go_to-in-Some.ensures.state) (refs-more _ _ _ _ _ _ c.in-Some.ensures, tt)
