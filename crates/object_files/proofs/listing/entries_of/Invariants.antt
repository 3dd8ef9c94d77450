use Rattle.std.proofs.Common.{◌≡◌, ◌++◌, map}
use Rattle.object_files.specs.inside.Finding.{entry_of}
use Rattle.object_files.proofs.listing.entries_of.Given as goal

abbrev pub invariant-loop-key : goal.invariant-loop-key
invariant-loop-key l = map entry_of l.fn.found.entries ≡ l.entries ++ map entry_of l.key-iterator
