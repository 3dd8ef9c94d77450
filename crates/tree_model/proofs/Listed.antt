-- Lists that agree with those that the definition puts in order list what is touched.
use Rattle.std.proofs.Common.{◌≡◌, ◌∙◌, ◌↔◌, ℕ, Bool, true, false, cond, ◌&&◌, ◌||◌, List, [], ◌∷◌, map, Some, is_some, refl, sym, ap, subst}
use Rattle.std.specs.List.{filter}
use Rattle.std.specs.FinMap.{FinMap, get, entries}
use Rattle.ice_ids.specs.declared.Id8.{Id8}
use Rattle.ice_ids.specs.Text.{same_id8}
use Rattle.zarr_path.specs.Paths.{path_cmp}
use Rattle.zarr_tree.specs.declared.lists.ArrayChunks.{ArrayChunks}
use Rattle.zarr_tree.specs.Nodes.{Node, is_group, is_array}
use Rattle.zarr_tree.specs.Trees.{Tree}
use Rattle.zarr_tree.specs.Changes.{is_gone, has_id}
use Rattle.zarr_tree.specs.declared.lists.Touched.{Touched}
use Rattle.zarr_tree.specs.Touched.{Touches, lists, lists_index, lists_chunk}
use Rattle.zarr_tree.specs.Held.{Held, Rows, HeldEntry, meta_in, nodes_over, changes_of, ids_of, indices_of, indices_in_order, touched}
use Rattle.zarr_tree.proofs.Apply.{id-true}
use Rattle.zarr_tree.proofs.Ordered.{lists-in_order, lists_index-in_order}
use Rattle.zarr_tree.proofs.Listing.{touched-law}
use Rattle.tree_model.specs.inside.Listing.{ids_where, has_chunks, chunks_where}

filter-filter : {A : Type 0} (f g : A → Bool) (xs : List A) → filter g (filter f xs) ≡ filter (λ x. f x && g x) xs
filter-filter f g [] = refl
filter-filter f g (x ∷ xs) = by_tests (f x) (g x) refl (filter-filter f g xs)
  where
    by_tests : (a b : Bool) → g x ≡ b → filter g (filter f xs) ≡ filter (λ y. f y && g y) xs
        → filter g (cond a (x ∷ filter f xs) (filter f xs)) ≡ cond (a && b) (x ∷ filter (λ y. f y && g y) xs) (filter (λ y. f y && g y) xs)
    by_tests false b k rest = rest
    by_tests true true k rest = ap (λ c. cond c (x ∷ filter g (filter f xs)) (filter g (filter f xs))) k ∙ ap (λ ys. x ∷ ys) rest
    by_tests true false k rest = ap (λ c. cond c (x ∷ filter g (filter f xs)) (filter g (filter f xs))) k ∙ rest

abbrev of_kind : (List ℕ → Bool) → List ℕ × Node → Bool
of_kind kind row = kind row.1.text

-- ids in order, and as they are found
pub found_ids : (kind : List ℕ → Bool) (es : Rows) (id : Id8) → lists (ids_of kind es) id ≡ lists (ids_where (of_kind kind) es) id
found_ids kind es id = lists-in_order (map (λ (row : List ℕ × Node). row.1.id) (filter (of_kind kind) es)) id

pub tested_ids : (kind : List ℕ → Bool) (test : List ℕ × Node → Bool) (es : Rows) (id : Id8) → lists (ids_of kind (filter test es)) id ≡ lists (ids_where (λ row. test row && of_kind kind row) es) id
tested_ids kind test es id =
    found_ids kind (filter test es) id ∙ ap (λ (rows : Rows). lists (map (λ (row : List ℕ × Node). row.1.id) rows) id) (filter-filter test (of_kind kind) es)

-- arrays, each with the list that its id has
absorbed : (l x : Bool) → (x || (l && x)) ≡ x
absorbed l true = refl
absorbed true false = refl
absorbed false false = refl

lists-chunks : (f : Id8 → List (List ℕ)) (ids : List Id8) (id : Id8) (i : List ℕ) → lists_chunk (map (λ x. record { node = x; chunks = f x }) ids) id i ≡ (lists ids id && lists_index (f id) i)
lists-chunks f [] id i = refl
lists-chunks f (x ∷ xs) id i = elim (same_id8 x id) as (λ b. same_id8 x id ≡ b → ((b && lists_index (f x) i) || lists_chunk (map (λ x. record { node = x; chunks = f x }) xs) id i) ≡ ((b || lists xs id) && lists_index (f id) i)) [
  | true ↦ λ e. (λ j. lists_index (f (id-true x id e j)) i || lists-chunks f xs id i j) ∙ absorbed (lists xs id) (lists_index (f id) i)
  | false ↦ λ e. lists-chunks f xs id i
] refl

abbrev made : (Id8 → List (List ℕ)) → Id8 → ArrayChunks
made f x = record { node = x; chunks = f x }

rows-ids : (f : Id8 → List (List ℕ)) (es : Rows) → map (λ (row : List ℕ × Node). made f row.1.id) es ≡ map (made f) (map (λ (row : List ℕ × Node). row.1.id) es)
rows-ids f [] = refl
rows-ids f (e ∷ es) = ap (λ (xs : List ArrayChunks). record { node = e.1.id; chunks = f e.1.id } ∷ xs) (rows-ids f es)

pub found_chunks : (chunks : List (HeldEntry (List ℕ))) (es : Rows) (id : Id8) (i : List ℕ)
    → lists_chunk (map (λ id. record { node = id; chunks = indices_in_order (indices_of chunks id) }) (ids_of is_array (filter (λ row. has_chunks chunks row.1.id) es))) id i
    ≡ lists_chunk (chunks_where chunks es) id i
found_chunks chunks es id i =
    lists-chunks (λ x. indices_in_order (indices_of chunks x)) (ids_of is_array (filter (λ row. has_chunks chunks row.1.id) es)) id i
    ∙ (λ j. tested_ids is_array (λ (row : List ℕ × Node). has_chunks chunks row.1.id) es id j && lists_index-in_order (indices_of chunks id) i j)
    ∙ sym (lists-chunks (indices_of chunks) (ids_where (λ row. has_chunks chunks row.1.id && is_array row.1.text) es) id i)
    ∙ ap (λ (arrays : List ArrayChunks). lists_chunk arrays id i) (sym (rows-ids (indices_of chunks) (filter (λ row. has_chunks chunks row.1.id && is_array row.1.text) es)))

-- ---- all seven
pub record Agrees (s mine : Touched) : Type 0 where
  pub new_groups : (id : Id8) → lists s.new_groups id ≡ lists mine.new_groups id
  pub new_arrays : (id : Id8) → lists s.new_arrays id ≡ lists mine.new_arrays id
  pub deleted_groups : (id : Id8) → lists s.deleted_groups id ≡ lists mine.deleted_groups id
  pub deleted_arrays : (id : Id8) → lists s.deleted_arrays id ≡ lists mine.deleted_arrays id
  pub updated_arrays : (id : Id8) → lists s.updated_arrays id ≡ lists mine.updated_arrays id
  pub updated_groups : (id : Id8) → lists s.updated_groups id ≡ lists mine.updated_groups id
  pub updated_chunks : (id : Id8) (i : List ℕ) → lists_chunk s.updated_chunks id i ≡ lists_chunk mine.updated_chunks id i

module _ (h : Held (List ℕ)) (t : Tree) where
  turned : {X : Type 0} (a b : Bool) → a ≡ b → (a ≡ true) ↔ X → (b ≡ true) ↔ X
  turned {X} a b e = subst (λ c. (c ≡ true) ↔ X) e

  pub touches : (mine : Touched) → Agrees (touched h t.nodes) mine → Touches (changes_of (λ (b : List ℕ). Some b) h) t mine
  touches mine a =
      let law = touched-law (λ (b : List ℕ). Some b) h t in
      record {
        new_groups = λ id. turned _ _ (a.new_groups id) (law.new_groups id);
        new_arrays = λ id. turned _ _ (a.new_arrays id) (law.new_arrays id);
        deleted_groups = λ id. turned _ _ (a.deleted_groups id) (law.deleted_groups id);
        deleted_arrays = λ id. turned _ _ (a.deleted_arrays id) (law.deleted_arrays id);
        updated_arrays = λ id. turned _ _ (a.updated_arrays id) (law.updated_arrays id);
        updated_groups = λ id. turned _ _ (a.updated_groups id) (law.updated_groups id);
        updated_chunks = λ id i. turned _ _ (a.updated_chunks id i) (law.updated_chunks id i);
      }

  -- of the lists that the code makes
  pub listed : (mine : Touched) (under : FinMap path_cmp Node) → under ≡ nodes_over h t.nodes
      → mine.new_groups ≡ ids_where (of_kind is_group) (entries h.added) → mine.new_arrays ≡ ids_where (of_kind is_array) (entries h.added)
      → mine.deleted_groups ≡ ids_where (λ row. is_gone (lists h.dropped) t.nodes row.0 && is_group row.1.text) (entries t.nodes)
      → mine.deleted_arrays ≡ ids_where (λ row. is_gone (lists h.dropped) t.nodes row.0 && is_array row.1.text) (entries t.nodes)
      → mine.updated_arrays ≡ ids_where (λ row. (has_id row.1.id (get under row.0) && is_some (meta_in h.metas row.1.id)) && is_array row.1.text) (entries t.nodes)
      → mine.updated_groups ≡ ids_where (λ row. (has_id row.1.id (get under row.0) && is_some (meta_in h.metas row.1.id)) && is_group row.1.text) (entries t.nodes)
      → mine.updated_chunks ≡ chunks_where h.chunks (entries under)
      → Touches (changes_of (λ (b : List ℕ). Some b) h) t mine
  listed mine under is ng na dg da ua ug uc = touches mine (record {
    new_groups = λ id. found_ids is_group (entries h.added) id ∙ as_ids (sym ng) id;
    new_arrays = λ id. found_ids is_array (entries h.added) id ∙ as_ids (sym na) id;
    deleted_groups = λ id. tested_ids is_group (λ row. is_gone (lists h.dropped) t.nodes row.0) (entries t.nodes) id ∙ as_ids (sym dg) id;
    deleted_arrays = λ id. tested_ids is_array (λ row. is_gone (lists h.dropped) t.nodes row.0) (entries t.nodes) id ∙ as_ids (sym da) id;
    updated_arrays = λ id. tested_ids is_array (stays (nodes_over h t.nodes)) (entries t.nodes) id
        ∙ ap (λ (m : FinMap path_cmp Node). lists (ids_where (λ row. stays m row && is_array row.1.text) (entries t.nodes)) id) (sym is) ∙ as_ids (sym ua) id;
    updated_groups = λ id. tested_ids is_group (stays (nodes_over h t.nodes)) (entries t.nodes) id
        ∙ ap (λ (m : FinMap path_cmp Node). lists (ids_where (λ row. stays m row && is_group row.1.text) (entries t.nodes)) id) (sym is) ∙ as_ids (sym ug) id;
    updated_chunks = λ id i. found_chunks h.chunks (entries (nodes_over h t.nodes)) id i
        ∙ ap (λ (m : FinMap path_cmp Node). lists_chunk (chunks_where h.chunks (entries m)) id i) (sym is)
        ∙ ap (λ (arrays : List ArrayChunks). lists_chunk arrays id i) (sym uc);
  })
    where
      stays : FinMap path_cmp Node → List ℕ × Node → Bool
      stays m row = has_id row.1.id (get m row.0) && is_some (meta_in h.metas row.1.id)

      as_ids : {ids others : List Id8} → ids ≡ others → (id : Id8) → lists ids id ≡ lists others id
      as_ids e id = ap (λ (x : List Id8). lists x id) e
