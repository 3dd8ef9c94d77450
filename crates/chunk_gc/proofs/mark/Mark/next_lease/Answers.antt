use Rattle.chunk_gc.proofs.Stepping.{refs-end, refs-more}
use Rattle.chunk_gc.proofs.mark.Mark.next_lease.Goals as goal

pub returns-in-None-clause-lands : goal.returns-in-None-clause-lands
returns-in-None-clause-lands c = rw (refs-end _ _ _ _ c.in-None.ensures.0) c.next_snapshot.ensures.lands

pub returns-in-Some-clause-lands : goal.returns-in-Some-clause-lands
returns-in-Some-clause-lands c = rw (c.go_to.ensures.again, c.go_to.ensures.state) (refs-more _ _ _ _ _ _ c.in-Some.ensures, tt)
