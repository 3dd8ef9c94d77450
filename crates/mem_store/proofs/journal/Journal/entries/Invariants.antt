use Rattle.std.proofs.Common.{◌≡◌, ◌++◌}
use Rattle.mem_store.specs.Listed.{entries_in}
use Rattle.mem_store.proofs.journal.Journal.entries.Given as goal

abbrev pub invariant-loop-key : goal.invariant-loop-key
invariant-loop-key l = entries_in l.self l.fn.rows ≡ l.list ++ entries_in l.self l.key-iterator
