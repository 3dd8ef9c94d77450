use Rattle.std.proofs.Common.{◌≡◌, ◌++◌, drop}
use Rattle.snapshot_file.proofs.copies.copy_manifests.Given as goal

-- the manifests copied so far, and those that are left
abbrev pub invariant-loop-manifest : goal.invariant-loop-manifest
invariant-loop-manifest l = l.copy.items ++ drop l.manifest-index l.manifests ≡ l.manifests
