use Rattle.std.proofs.Common.{◌≡◌, ◌++◌, drop}
use Rattle.snapshot_file.proofs.properties.Props.copy.Given as goal

-- the properties copied so far, and those that are left
abbrev pub invariant-loop-name : goal.invariant-loop-name
invariant-loop-name l = l.rows.items ++ drop l.name-index l.name-items ≡ l.fn.self
