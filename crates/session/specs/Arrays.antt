-- The arrays of a session's tree.
use Rattle.std.specs.Prelude.{ℕ, List, Option, Some, None, option_map, ok_or, Result, Ok, Err}
use Rattle.std.specs.FinMap.{get}
use Rattle.ice_ids.specs.declared.Id8.{Id8}
use Rattle.zarr_meta.specs.declared.views.ArrayView.{ArrayView}
use Rattle.zarr_tree.specs.declared.edit.EditFault.TheVariants as E
use Rattle.zarr_tree.specs.Nodes.{Node, array_in}
use Rattle.store_api.specs.declared.machines.Refusal.{Refusal}
use Rattle.store_api.specs.declared.machines.Refusal.TheVariants as R
use Rattle.session.specs.declared.seeing.ArrayAt.{ArrayAt}
use Rattle.session.specs.Sessions.{SessionState, nodes_seen}

-- the array that a node is, with the node's id
abbrev pub array_of : Option Node → Result (Id8 × ArrayView) Refusal
array_of None = Err (R.Edit E.NoNode)
array_of (Some n) =
    ok_or (option_map (λ array. (n.id, array)) (array_in n.text)) (R.Edit E.NotArray)

-- the array at a path: NoNode, NotArray
abbrev pub array_at : SessionState → (path : List ℕ) → Result (Id8 × ArrayView) Refusal
array_at s path = array_of (get (nodes_seen s) path)

-- what a look for an array answers
abbrev pub array_told : Result ArrayAt Refusal → Result (Id8 × ArrayView) Refusal
array_told (Ok found) = Ok (found.node, found.array.now)
array_told (Err why) = Err why
