use Rattle.std.proofs.Common.{◌≡◌, drop}
use Rattle.std.specs.FinMap as map
use Rattle.changed_snapshot.specs.inside.Named.{files_by_id}
use Rattle.changed_snapshot.proofs.files.by_id.Given as goal

-- the manifests from number k on, by their ids
abbrev pub invariant-loop-k : goal.invariant-loop-k
invariant-loop-k l = l.by_id.entries ≡ map.entries (files_by_id (drop l.k l.files))
