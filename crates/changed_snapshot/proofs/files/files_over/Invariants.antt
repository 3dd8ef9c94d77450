use Rattle.std.proofs.Common.{◌≡◌, ◌++◌, drop}
use Rattle.changed_snapshot.specs.Rows.{files_over}
use Rattle.changed_snapshot.proofs.files.files_over.Given as goal

-- the files kept so far, and those that are left
abbrev pub invariant-loop-file : goal.invariant-loop-file
invariant-loop-file l = l.kept.items ++ files_over (drop l.file-index l.files) l.rows ≡ files_over l.files l.rows
