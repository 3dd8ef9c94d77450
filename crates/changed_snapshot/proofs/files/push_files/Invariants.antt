use Rattle.std.proofs.Common.{◌≡◌, ◌++◌, take}
use Rattle.changed_snapshot.proofs.files.push_files.Given as goal

-- the manifests so far
abbrev pub invariant-loop-at : goal.invariant-loop-at
invariant-loop-at l = l.all.items ≡ l.fn.all.items ++ take l.at l.files
