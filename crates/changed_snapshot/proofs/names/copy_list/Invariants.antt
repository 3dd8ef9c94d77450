use Rattle.std.proofs.Common.{◌≡◌, ◌++◌, drop}
use Rattle.changed_snapshot.specs.Rows.{names_of}
use Rattle.changed_snapshot.proofs.names.copy_list.Given as goal

-- the names copied so far, and those that are left
abbrev pub invariant-loop-name : goal.invariant-loop-name
invariant-loop-name l = l.copy.items ++ names_of (drop l.name-index l.name-items) ≡ names_of l.fn.names
