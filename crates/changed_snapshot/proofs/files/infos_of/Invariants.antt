use Rattle.std.proofs.Common.{◌≡◌, ◌++◌, drop}
use Rattle.changed_snapshot.specs.Rows.{infos_of}
use Rattle.changed_snapshot.proofs.files.infos_of.Given as goal

-- the new manifests so far, and those that are left
abbrev pub invariant-loop-list : goal.invariant-loop-list
invariant-loop-list l = l.infos.items ++ infos_of (drop l.list-index l.news) ≡ infos_of l.news
