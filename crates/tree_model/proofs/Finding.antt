-- Rows of a map, and what is found among them.
use Rattle.std.proofs.Common.{◌≡◌, ◌∙◌, ℕ, Bool, true, false, cond, ◌&&◌, ◌||◌, List, [], ◌∷◌, map, Some, refl, sym, ap}
use Rattle.std.specs.Cmp.{both_ways}
use Rattle.std.specs.List.{list_any, filter}
use Rattle.std.specs.FinMap.{FinMap, get, entries, entries_sorted, get-entries}
use Rattle.ice_ids.specs.declared.Id8.{Id8}
use Rattle.ice_ids.specs.Text.{same_id8}
use Rattle.zarr_path.specs.Paths.{path_cmp, is_within}
use Rattle.zarr_tree.specs.Nodes.{Node}
use Rattle.zarr_tree.specs.Changes.{is_gone, has_id_within}
use Rattle.zarr_tree.specs.Touched.{lists}
use Rattle.zarr_tree.specs.Held.{Rows}
use Rattle.zarr_tree.proofs.Apply.{Gone, gone-intro, gone-elim, IdWithin, id_within-elim, id_within-intro, id-true, id-refl, both, first, second}
use Rattle.zarr_tree.proofs.FoundRows.{FoundRow, any-row, row-any}
use Rattle.tree_model.specs.Models.{tree_with}
use Rattle.tree_model.specs.inside.Entering.{ids_within}

module _ (m : FinMap path_cmp Node) (f : List ℕ → Node → Bool) where
  -- the same by look-ups
  pub any-entry : list_any (λ (e : List ℕ × Node). f e.0 e.1) (entries m) ≡ true → (q : List ℕ) × (x : Node) × (get m q ≡ Some x) × (f q x ≡ true)
  any-entry h = let r : FoundRow (entries m) f = any-row (entries m) f (entries_sorted m) h in (r.path, r.node, get-entries m r.path ∙ r.found, r.holds)

  pub entry-any : (q : List ℕ) (x : Node) → get m q ≡ Some x → f q x ≡ true → list_any (λ (e : List ℕ × Node). f e.0 e.1) (entries m) ≡ true
  entry-any q x h g = row-any (entries m) f q x (sym (get-entries m q) ∙ h) g

-- ---- what is gone, and the ids within a path, row by row
pub gone_rows : (d : Id8 → Bool) (nodes : FinMap path_cmp Node) (p : List ℕ) → list_any (λ (e : List ℕ × Node). is_within e.0 p && d e.1.id) (entries nodes) ≡ is_gone d nodes p
gone_rows d nodes p = both_ways _ _ to from
  where
    to : list_any (λ (e : List ℕ × Node). is_within e.0 p && d e.1.id) (entries nodes) ≡ true → is_gone d nodes p ≡ true
    to h =
        let r = any-entry nodes (λ q n. is_within q p && d n.id) h in
        gone-intro d (tree_with nodes) p (record { path = r.0; node = r.1; found = r.2; dropped_id = second (is_within r.0 p) (d r.1.id) r.3; within = first (is_within r.0 p) (d r.1.id) r.3 })

    from : is_gone d nodes p ≡ true → list_any (λ (e : List ℕ × Node). is_within e.0 p && d e.1.id) (entries nodes) ≡ true
    from h =
        let g : Gone d (tree_with nodes) p = gone-elim d (tree_with nodes) p h in
        entry-any nodes (λ q n. is_within q p && d n.id) g.path g.node g.found (both (is_within g.path p) (d g.node.id) g.within g.dropped_id)

pub within_rows : (nodes : FinMap path_cmp Node) (p : List ℕ) (id : Id8) → list_any (λ (e : List ℕ × Node). is_within p e.0 && same_id8 e.1.id id) (entries nodes) ≡ has_id_within nodes p id
within_rows nodes p id = both_ways _ _ to from
  where
    to : list_any (λ (e : List ℕ × Node). is_within p e.0 && same_id8 e.1.id id) (entries nodes) ≡ true → has_id_within nodes p id ≡ true
    to h =
        let r = any-entry nodes (λ q n. is_within p q && same_id8 n.id id) h in
        id_within-intro (tree_with nodes) p id (record { path = r.0; node = r.1; found = r.2; same = id-true r.1.id id (second (is_within p r.0) (same_id8 r.1.id id) r.3); within = first (is_within p r.0) (same_id8 r.1.id id) r.3 })

    from : has_id_within nodes p id ≡ true → list_any (λ (e : List ℕ × Node). is_within p e.0 && same_id8 e.1.id id) (entries nodes) ≡ true
    from h =
        let w : IdWithin (tree_with nodes) p id = id_within-elim (tree_with nodes) p id h in
        entry-any nodes (λ q n. is_within p q && same_id8 n.id id) w.path w.node w.found (both (is_within p w.path) (same_id8 w.node.id id) w.within (ap (λ (k : Id8). same_id8 k id) w.same ∙ id-refl id))

-- the ids of rows that pass a test
pub lists-where : (test : List ℕ × Node → Bool) (es : Rows) (id : Id8) → lists (map (λ (e : List ℕ × Node). e.1.id) (filter test es)) id ≡ list_any (λ (e : List ℕ × Node). test e && same_id8 e.1.id id) es
lists-where test [] id = refl
lists-where test (e ∷ es) id = elim (test e) as (λ b. lists (map (λ (e : List ℕ × Node). e.1.id) (cond b (e ∷ filter test es) (filter test es))) id ≡ ((b && same_id8 e.1.id id) || list_any (λ (e : List ℕ × Node). test e && same_id8 e.1.id id) es)) [
  | true ↦ ap (λ b. same_id8 e.1.id id || b) (lists-where test es id)
  | false ↦ lists-where test es id
]

pub ids_listed : (nodes : FinMap path_cmp Node) (p : List ℕ) (id : Id8) → lists (ids_within p (entries nodes)) id ≡ has_id_within nodes p id
ids_listed nodes p id = lists-where (λ (e : List ℕ × Node). is_within p e.0) (entries nodes) id ∙ within_rows nodes p id
