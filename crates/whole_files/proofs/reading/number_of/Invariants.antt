use Rattle.std.proofs.Common.{◌≡◌, ◌≤◌, ◌++◌, ℕ, List, length}
use Rattle.std.specs.Prelude.{IsTrue}
use Rattle.sha2.specs.Hashers.{Holds256}
use Rattle.whole_files.proofs.reading.number_of.Given as goal

abbrev pub invariant-loop-turn : goal.invariant-loop-turn
invariant-loop-turn g l =
    (l.turn ≤ l.taken) × ((read : List ℕ) × Holds256 l.hasher read × (l.taken ≤ length read) × (IsTrue g.F.Folder.tells → read ++ g.F.Folder.rest l.file ≡ g.F.Folder.rest l.fn.file))
