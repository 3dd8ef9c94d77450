use Rattle.std.proofs.Common.{◌≡◌, ◌++◌, drop}
use Rattle.snapshot_file.proofs.copies.copy_list.Given as goal

-- the names copied so far, and those that are left
abbrev pub invariant-loop-name : goal.invariant-loop-name
invariant-loop-name l = l.copy.items ++ drop l.name-index l.name-items ≡ l.fn.names
