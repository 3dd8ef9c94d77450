-- The entries of an array, and what they say of an index.
use Rattle.std.proofs.Common.{◌≡◌, ◌∙◌, ℕ, Bool, true, false, cond, ◌&&◌, ◌||◌, List, [], ◌∷◌, map, Option, Some, None, option_map, refl, sym, ap}
use Rattle.std.specs.Prelude.{find, bytes_eq}
use Rattle.std.specs.List.{filter}
use Rattle.std.proofs.lemmas.Map.Text.{is_eq-slice_cmp}
use Rattle.ice_ids.specs.declared.Id8.{Id8}
use Rattle.ice_ids.specs.Text.{same_id8}
use Rattle.zarr_tree.specs.Nodes.{same_numbers}
use Rattle.zarr_tree.specs.Held.{HeldEntry, entry_in}
use Rattle.zarr_changes.specs.Sets.{chunks_of, has_chunks}
use Rattle.manifest_file.specs.declared.manifest.Place.{Place}
use Rattle.manifest_index.specs.Merging.{ChunkChange, changed_at}

abbrev Entries : Type 0
Entries = List (HeldEntry Place)

abbrev found : (HeldEntry Place → Bool) → Entries → Option (Option Place)
found test rows = option_map (λ (row : HeldEntry Place). row.2) (find test rows)

abbrev is_it : Id8 → List ℕ → HeldEntry Place → Bool
is_it id i r = same_id8 r.0 id && same_numbers r.1 i

-- the first entry of an array for an index is the first of its entries with the index
pub first-entry : (rows : Entries) (id : Id8) (i : List ℕ) → changed_at i (chunks_of rows id) ≡ entry_in rows id i
first-entry [] id i = refl
first-entry (row ∷ rows) id i = by_id (first-entry rows id i) (same_id8 row.0 id)
  where
    by_index : (rest : changed_at i (chunks_of rows id) ≡ found (is_it id i) rows) (b : Bool) → option_map (λ (c : ChunkChange). c.1) (cond b (Some (row.1, row.2)) (find (λ (c : ChunkChange). bytes_eq c.0 i) (chunks_of rows id))) ≡ option_map (λ (r : HeldEntry Place). r.2) (cond b (Some row) (find (is_it id i) rows))
    by_index rest true = refl
    by_index rest false = rest

    by_id : (rest : changed_at i (chunks_of rows id) ≡ found (is_it id i) rows) (b : Bool) → changed_at i (map (λ (r : HeldEntry Place). (r.1, r.2)) (cond b (row ∷ filter (λ (r : HeldEntry Place). same_id8 r.0 id) rows) (filter (λ (r : HeldEntry Place). same_id8 r.0 id) rows)))
        ≡ option_map (λ (r : HeldEntry Place). r.2) (cond (b && same_numbers row.1 i) (Some row) (find (is_it id i) rows))
    by_id rest true =
        ap (λ b. option_map (λ (c : ChunkChange). c.1) (cond b (Some (row.1, row.2)) (find (λ (c : ChunkChange). bytes_eq c.0 i) (chunks_of rows id)))) (sym (is_eq-slice_cmp row.1 i))
        ∙ by_index rest (same_numbers row.1 i)
    by_id rest false = rest

-- an array without entries has none for an index
pub no-entry : (rows : Entries) (id : Id8) (i : List ℕ) → has_chunks rows id ≡ false → entry_in rows id i ≡ None
no-entry [] id i h = refl
no-entry (row ∷ rows) id i h = by_id (no-entry rows id i) (same_id8 row.0 id) h
  where
    by_id : (rest : has_chunks rows id ≡ false → entry_in rows id i ≡ None) (b : Bool) → (b || has_chunks rows id) ≡ false
        → option_map (λ (r : HeldEntry Place). r.2) (cond (b && same_numbers row.1 i) (Some row) (find (λ (r : HeldEntry Place). same_id8 r.0 id && same_numbers r.1 i) rows)) ≡ None
    by_id rest true k = cc
    by_id rest false k = rest k
