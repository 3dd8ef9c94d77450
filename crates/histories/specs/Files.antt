-- How what a store holds is read.
use Rattle.std.specs.Prelude.{ℕ, List, Option}
use Rattle.ice_ids.specs.declared.Id12.{Id12}
use Rattle.zarr_tree.specs.Trees.{Tree}
use Rattle.object_store.specs.declared.events.Event.{Event}

-- The snapshot that the bytes of a ref name, the tree of a snapshot that was put, and the parent
-- that a snapshot named when it was first put.
pub record Files : Type 0 where
  pub ref : List ℕ → Option Id12
  pub tree : Id12 → Option Tree
  pub parent : List Event → Id12 → Option Id12
