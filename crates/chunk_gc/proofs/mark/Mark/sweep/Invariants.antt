use Rattle.std.proofs.Common.{◌≡◌, ◌++◌, drop}
use Rattle.chunk_gc.specs.Programs.{swept, dooms}
use Rattle.chunk_gc.specs.inside.Working.{work_of}
use Rattle.chunk_gc.proofs.mark.Mark.sweep.Given as goal

abbrev pub invariant-loop-entry : goal.invariant-loop-entry
invariant-loop-entry l = (l.self.doomed ++ swept (dooms (work_of l.fn.self)) (drop l.entry-index l.entries) ≡ l.fn.self.doomed ++ swept (dooms (work_of l.fn.self)) l.entries) × (l.self ≡ record l.fn.self { doomed = l.self.doomed })
