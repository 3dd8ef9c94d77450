use Rattle.std.proofs.Common.{◌≡◌, drop}
use Rattle.zarr_tree.specs.Nodes.{chunk_length}
use Rattle.array_region.specs.Reading.{listed_kept}
use Rattle.array_region.specs.Getting.{kept_of}
use Rattle.array_region.proofs.plans.Plan.look_up.Given as goal

-- the list stays, and none of the manifests so far has the chunk
abbrev pub invariant-loop-next : goal.invariant-loop-next
invariant-loop-next l =
    (l.ids ≡ l.fn.ids) × (listed_kept (chunk_length l.self.array) l.self.node l.index (drop l.next l.ids) (kept_of l.kept) ≡ listed_kept (chunk_length l.self.array) l.self.node l.index (drop l.fn.at l.fn.ids) (kept_of l.kept))
