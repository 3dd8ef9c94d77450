-- The lists of a log are in order exactly where those of what changes touch are.
use Rattle.std.proofs.Common.{◌≡◌, ℕ, true, List, [], ◌∷◌, map, Option, None, Some, refl, ap}
use Rattle.std.specs.declared.cmp.Ordering.{Ordering}
use Rattle.std.specs.declared.cmp.Ordering.TheVariants.{Less, Equal, Greater}
use Rattle.std.specs.Ordering.{is_lt, nat_cmp}
use Rattle.std.specs.Cmp.Lexicographic.{slice_cmp, nat_list_cmp_total}
use Rattle.std.specs.List.{AllByRecursion}
use Rattle.std.specs.List.Sorted.{IsStrictlySortedBy}
use Rattle.ice_ids.specs.declared.Id12.{Id12}
use Rattle.flat_tables.specs.Rows.{Ascends}
use Rattle.file_fields.specs.Fields.{id_key, index_key}
use Rattle.zarr_tree.specs.declared.lists.ArrayChunks.{ArrayChunks}
use Rattle.zarr_tree.specs.declared.lists.Touched.{Touched}
use Rattle.zarr_tree.specs.Touched as touched
use Rattle.txn_file.specs.Logs.{array_key}
use Rattle.txn_file.specs.Layout.{IsOrdered}
use Rattle.txn_file.specs.Laws.{TouchedLaw}
use Rattle.txn_file.proofs.Each.{each}

less_is : (o : Ordering) → is_lt o ≡ true → o ≡ Less
less_is Less e = refl
less_is Equal e = cc
less_is Greater e = cc

-- ---- a list by a key
module _ {A : Type 0} (key : A → List ℕ) where
  abbrev by_key : A → A → Ordering
  by_key x y = slice_cmp nat_cmp (key x) (key y)

  abbrev AreAbove : A → List A → Type 0
  AreAbove x xs = AllByRecursion (λ y. by_key x y ≡ Less) xs

  ascends_behind : (x : A) (xs : List A) → AreAbove x xs → IsStrictlySortedBy by_key xs → Ascends key (Some (key x)) xs
  unfolding IsStrictlySortedBy
  ascends_behind x [] above sorted = tt
  ascends_behind x (y ∷ ys) above sorted = (ap is_lt above.0, ascends_behind y ys sorted.0 sorted.1)

  ascends : (xs : List A) → IsStrictlySortedBy by_key xs → Ascends key None xs
  unfolding IsStrictlySortedBy
  ascends [] sorted = tt
  ascends (x ∷ xs) sorted = (refl, ascends_behind x xs sorted.0 sorted.1)

  all_above : (x y : A) (xs : List A) → by_key x y ≡ Less → AreAbove y xs → AreAbove x xs
  all_above x y xs less above = each (λ z more. nat_list_cmp_total.trans (key x) (key y) (key z) less more) xs above

  sorted_behind : (x : A) (xs : List A) → Ascends key (Some (key x)) xs → AreAbove x xs × IsStrictlySortedBy by_key xs
  unfolding IsStrictlySortedBy
  sorted_behind x [] rises = (tt, tt)
  sorted_behind x (y ∷ ys) rises =
      let less = less_is (by_key x y) rises.0 in
      let rest = sorted_behind y ys rises.1 in
      ((less, all_above x y ys less rest.0), rest)

  sorted : (xs : List A) → Ascends key None xs → IsStrictlySortedBy by_key xs
  unfolding IsStrictlySortedBy
  sorted [] rises = tt
  sorted (x ∷ xs) rises = sorted_behind x xs rises.1

-- ---- arrays by the ids of their nodes
arrays_ascend : (before : Option (List ℕ)) (arrays : List ArrayChunks) → Ascends id_key before (map (λ array. array.node) arrays) → Ascends array_key before arrays
arrays_ascend before [] rises = tt
arrays_ascend before (array ∷ arrays) rises = (rises.0, arrays_ascend (Some (array_key array)) arrays rises.1)

nodes_ascend : (before : Option (List ℕ)) (arrays : List ArrayChunks) → Ascends array_key before arrays → Ascends id_key before (map (λ array. array.node) arrays)
nodes_ascend before [] rises = tt
nodes_ascend before (array ∷ arrays) rises = (rises.0, nodes_ascend (Some (array_key array)) arrays rises.1)

-- ---- the lists of a log
log_ordered : (id : Id12) (s : Touched) → touched.IsOrdered s → IsOrdered (record { id = id; lists = s })
log_ordered id s order = record {
  new_groups = ascends id_key s.new_groups order.new_groups;
  new_arrays = ascends id_key s.new_arrays order.new_arrays;
  deleted_groups = ascends id_key s.deleted_groups order.deleted_groups;
  deleted_arrays = ascends id_key s.deleted_arrays order.deleted_arrays;
  updated_arrays = ascends id_key s.updated_arrays order.updated_arrays;
  updated_groups = ascends id_key s.updated_groups order.updated_groups;
  arrays = arrays_ascend None s.updated_chunks (ascends id_key (map (λ array. array.node) s.updated_chunks) order.arrays);
  chunks = each (λ (array : ArrayChunks). ascends index_key array.chunks) s.updated_chunks order.chunks;
}

touched_ordered : (id : Id12) (s : Touched) → IsOrdered (record { id = id; lists = s }) → touched.IsOrdered s
touched_ordered id s order = record {
  new_groups = sorted id_key s.new_groups order.new_groups;
  new_arrays = sorted id_key s.new_arrays order.new_arrays;
  deleted_groups = sorted id_key s.deleted_groups order.deleted_groups;
  deleted_arrays = sorted id_key s.deleted_arrays order.deleted_arrays;
  updated_arrays = sorted id_key s.updated_arrays order.updated_arrays;
  updated_groups = sorted id_key s.updated_groups order.updated_groups;
  arrays = sorted id_key (map (λ array. array.node) s.updated_chunks) (nodes_ascend None s.updated_chunks order.arrays);
  chunks = each (λ (array : ArrayChunks). sorted index_key array.chunks) s.updated_chunks order.chunks;
}

pub both_orders : TouchedLaw
both_orders = record { writable = log_ordered; listed = touched_ordered }
