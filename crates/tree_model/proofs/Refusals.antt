-- Refusals of edits of chunks, and of additions, by the node at the path.
use Rattle.std.proofs.Common.{◌≡◌, ◌≢◌, ℕ, Bool, true, false, cond, not, ◌&&◌, List, length, Option, Some, None, refl}
use Rattle.std.specs.Prelude.{◌==◌, Ok, Err}
use Rattle.std.specs.FinMap.{FinMap, get}
use Rattle.zarr_path.specs.Paths.{path_cmp, same_path, root}
use Rattle.zarr_path.proofs.OrderLaws.{same_path-false}
use Rattle.zarr_meta.specs.declared.views.ArrayView.{ArrayView}
use Rattle.zarr_tree.specs.declared.edit.EditFault.{EditFault}
use Rattle.zarr_tree.specs.declared.edit.EditFault.TheVariants.{NoParent, Full, OutOfGrid, ChunkLength}
use Rattle.zarr_tree.specs.Nodes.{Node, array_in, in_grid, chunk_length}
use Rattle.zarr_tree.specs.Edits.{Set, Unset, refusal, at_node, at_array}
use Rattle.tree_model.specs.Models.{tree_with}
use Rattle.tree_model.specs.inside.Lengths.{length_in}
use Rattle.tree_model.specs.inside.Refusing.{other_length, any_length, set_refusal, unset_refusal}

abbrev asked : (index : List ℕ) → (got : ℕ) → ArrayView → Option EditFault
asked i got a = cond (not (in_grid a i)) (Some OutOfGrid) (cond (not (got == chunk_length a)) (Some (ChunkLength (chunk_length a) got)) None)

of_array : (i : List ℕ) (got : ℕ) (a : ArrayView) → other_length got (length_in i (Some a)) ≡ asked i got a
of_array i got a = by_grid (in_grid a i) (got == chunk_length a)
  where
    by_grid : (b same : Bool) → other_length got (cond b (Ok (chunk_length a)) (Err OutOfGrid)) ≡ cond (not b) (Some OutOfGrid) (cond (not (got == chunk_length a)) (Some (ChunkLength (chunk_length a) got)) None)
    by_grid false same = refl
    by_grid true same = by_length (got == chunk_length a)
      where
        by_length : (b : Bool) → cond b None (Some (ChunkLength (chunk_length a) got)) ≡ cond (not b) (Some (ChunkLength (chunk_length a) got)) None
        by_length true = refl
        by_length false = refl

of_view : (i : List ℕ) (got : ℕ) (a : Option ArrayView) → other_length got (length_in i a) ≡ at_array a (asked i got)
of_view i got None = refl
of_view i got (Some a) = of_array i got a

pub set_refused : (nodes : FinMap path_cmp Node) (p i bytes : List ℕ) → set_refusal i (length bytes) (get nodes p) ≡ refusal (tree_with nodes) (Set p i bytes)
set_refused nodes p i bytes = by_node (get nodes p)
  where
    by_node : (there : Option Node) → set_refusal i (length bytes) there ≡ at_node there (λ n. at_array (array_in n.text) (asked i (length bytes)))
    by_node None = refl
    by_node (Some n) = of_view i (length bytes) (array_in n.text)

of_view_unset : (i : List ℕ) (a : Option ArrayView) → any_length (length_in i a) ≡ at_array a (λ array. cond (not (in_grid array i)) (Some OutOfGrid) None)
of_view_unset i None = refl
of_view_unset i (Some a) = by_grid (in_grid a i)
  where
    by_grid : (b : Bool) → any_length (cond b (Ok (chunk_length a)) (Err OutOfGrid)) ≡ cond (not b) (Some OutOfGrid) None
    by_grid true = refl
    by_grid false = refl

pub unset_refused : (nodes : FinMap path_cmp Node) (p i : List ℕ) → unset_refusal i (get nodes p) ≡ refusal (tree_with nodes) (Unset p i)
unset_refused nodes p i = by_node (get nodes p)
  where
    by_node : (there : Option Node) → unset_refusal i there ≡ at_node there (λ n. at_array (array_in n.text) (λ array. cond (not (in_grid array i)) (Some OutOfGrid) None))
    by_node None = refl
    by_node (Some n) = of_view_unset i (array_in n.text)

-- a path that isn't `/`, and no group at its parent
pub no_parent : (p : List ℕ) (alone full : Bool) → p ≢ root → alone ≡ false
    → cond (not (same_path p root) && not alone) (Some NoParent) (cond full (Some Full) None) ≡ Some NoParent
no_parent p alone full other is = λ i. cond (not (same_path-false p root other i) && not (is i)) (Some NoParent) (cond full (Some Full) None)
