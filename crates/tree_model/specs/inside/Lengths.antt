-- How many bytes a chunk of a node has, or why it has none; no public contract cites this.
use Rattle.std.specs.Prelude.{ℕ, List, if◌then◌else◌, Option, Some, None, Result, Ok, Err}
use Rattle.zarr_meta.specs.declared.views.ArrayView.{ArrayView}
use Rattle.zarr_tree.specs.declared.edit.EditFault.{EditFault}
use Rattle.zarr_tree.specs.declared.edit.EditFault.TheVariants.{NoNode, NotArray, OutOfGrid}
use Rattle.zarr_tree.specs.Nodes.{Node, array_in, in_grid, chunk_length}

abbrev pub length_in : (index : List ℕ) → Option ArrayView → Result ℕ EditFault
length_in i None = Err NotArray
length_in i (Some array) = if in_grid array i then Ok (chunk_length array) else Err OutOfGrid

abbrev pub length_at : (index : List ℕ) → Option Node → Result ℕ EditFault
length_at i None = Err NoNode
length_at i (Some n) = length_in i (array_in n.text)
