use Rattle.std.proofs.Common.{◌≡◌, ◌≤◌, ◌++◌, length}
use Rattle.std.specs.Prelude.{IsTrue}
use Rattle.whole_files.proofs.reading.bytes_of.Given as goal

abbrev pub invariant-loop-turn : goal.invariant-loop-turn
invariant-loop-turn g l = (l.turn ≤ length l.bytes) × (IsTrue g.F.Folder.tells → l.bytes ++ g.F.Folder.rest l.file ≡ g.F.Folder.rest l.fn.file)
