use Rattle.chunk_gc.proofs.Stepping.{files-end, files-taken}
use Rattle.chunk_gc.proofs.mark.Mark.next_manifest.Goals as goal

pub returns-in-None-clause-lands : goal.returns-in-None-clause-lands
returns-in-None-clause-lands c = rw (files-end _ _ _ c.in-None.ensures.0) (rw c.in-None.ensures.1 at c.next_snapshot.ensures.lands)

pub returns-in-Some-clause-lands : goal.returns-in-Some-clause-lands
returns-in-Some-clause-lands c = rw (c.go_to.ensures.again, c.go_to.ensures.state) (files-taken _ _ _ _ c.in-Some.ensures, tt)
