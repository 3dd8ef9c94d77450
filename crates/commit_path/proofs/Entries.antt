-- The entries of chunks that are left after an edit.
use Rattle.std.proofs.Common.{◌≡◌, ◌⊎◌, inl, inr, ℕ, Bool, true, false, cond, not, ◌&&◌, List, [], ◌∷◌, ◌++◌, refl, sym, ◌∙◌, ap}
use Rattle.std.specs.Prelude.{Option, Some, None, option_map, find}
use Rattle.std.specs.Option.{option_or}
use Rattle.std.specs.List.{filter}
use Rattle.std.specs.Ordering.{is_lt, ordering_then}
use Rattle.ice_ids.specs.declared.Id8.{Id8}
use Rattle.ice_ids.specs.Text.{same_id8, id8_cmp}
use Rattle.zarr_path.specs.Indices.{index_cmp}
use Rattle.zarr_path.proofs.OrderLaws.{same_path-true}
use Rattle.zarr_tree.specs.Nodes.{same_numbers}
use Rattle.zarr_tree.specs.Held.{HeldEntry, entry_in}
use Rattle.zarr_tree.proofs.Apply.{id-true}
use Rattle.zarr_changes.specs.Edits.{with_entry, without_entry}

both-parts : (a b : Bool) → (a && b) ≡ true → (a ≡ true) × (b ≡ true)
both-parts true b e = (refl, e)
both-parts false b e = cc

module _ {P : Type 0} where
  abbrev at : Id8 → List ℕ → HeldEntry P → Bool
  at node j row = same_id8 row.0 node && same_numbers row.1 j

  -- the entries that pass
  abbrev those : (Id8 → List ℕ → Bool) → List (HeldEntry P) → List (HeldEntry P)
  those g rows = filter (λ (r : HeldEntry P). g r.0 r.1) rows

  nothing : (b : Bool) → ◌≡◌ {A = Option (Option P)} None (cond b None None)
  nothing true = refl
  nothing false = refl

  -- a test of arrays and indices alone keeps all entries of a chunk, or none
  pub entry-filter : (g : Id8 → List ℕ → Bool) (rows : List (HeldEntry P)) (node : Id8) (j : List ℕ) → entry_in (filter (λ (row : HeldEntry P). g row.0 row.1) rows) node j ≡ cond (g node j) (entry_in rows node j) None
  entry-filter g [] node j = nothing (g node j)
  entry-filter g (row ∷ rows) node j = by_row (at node j row) refl (entry-filter g rows node j)
    where
      later : (b : Bool) → at node j row ≡ false → option_map (λ (r : HeldEntry P). r.2) (find (at node j) (cond b (row ∷ (those g rows)) (those g rows))) ≡ entry_in (those g rows) node j
      later true e = ap (λ t. option_map (λ (r : HeldEntry P). r.2) (cond t (Some row) (find (at node j) (those g rows)))) e
      later false e = refl

      here : (b : Bool) → entry_in (those g rows) node j ≡ cond (g node j) (entry_in rows node j) None → g row.0 row.1 ≡ b → g row.0 row.1 ≡ g node j → at node j row ≡ true → option_map (λ (r : HeldEntry P). r.2) (find (at node j) (cond b (row ∷ (those g rows)) (those g rows))) ≡ cond (g node j) (Some row.2) None
      here true ih e s t = ap (λ x. option_map (λ (r : HeldEntry P). r.2) (cond x (Some row) (find (at node j) (those g rows)))) t ∙ ap (λ b. cond b (Some row.2) None) (sym e ∙ s)
      here false ih e s t = ih ∙ ap (λ b. cond b (entry_in rows node j) None) (sym s ∙ e) ∙ ap (λ b. cond b (Some row.2) None) (sym e ∙ s)

      by_row : (t : Bool) → at node j row ≡ t → entry_in (those g rows) node j ≡ cond (g node j) (entry_in rows node j) None → option_map (λ (r : HeldEntry P). r.2) (find (at node j) (cond (g row.0 row.1) (row ∷ (those g rows)) (those g rows))) ≡ cond (g node j) (option_map (λ (r : HeldEntry P). r.2) (cond (at node j row) (Some row) (find (at node j) rows))) None
      by_row true t ih =
          let parts = both-parts (same_id8 row.0 node) (same_numbers row.1 j) t in
          let same : g row.0 row.1 ≡ g node j = λ k. g (id-true row.0 node parts.0 k) (same_path-true row.1 j parts.1 k) in
          here (g row.0 row.1) ih refl same t ∙ ap (λ x. cond (g node j) (option_map (λ (r : HeldEntry P). r.2) (cond x (Some row) (find (at node j) rows))) None) (sym t)
      by_row false t ih =
          later (g row.0 row.1) t ∙ ih ∙ ap (λ x. cond (g node j) (option_map (λ (r : HeldEntry P). r.2) (cond x (Some row) (find (at node j) rows))) None) (sym t)

  pub entry-append : (xs ys : List (HeldEntry P)) (node : Id8) (j : List ℕ) → entry_in (xs ++ ys) node j ≡ option_or (entry_in xs node j) (entry_in ys node j)
  entry-append [] ys node j = refl
  entry-append (x ∷ xs) ys node j = elim (at node j x) as (λ b. option_map (λ (r : HeldEntry P). r.2) (cond b (Some x) (find (at node j) (xs ++ ys))) ≡ option_or (option_map (λ (r : HeldEntry P). r.2) (cond b (Some x) (find (at node j) xs))) (entry_in ys node j)) [ true ↦ refl | false ↦ entry-append xs ys node j ]

  -- no entries but old ones
  abbrev pub AreFewer : List (HeldEntry P) → List (HeldEntry P) → Type 0
  AreFewer old new = (node : Id8) (j : List ℕ) (x : Option P) → entry_in new node j ≡ Some x → entry_in old node j ≡ Some x

  where-some : (b : Bool) (o : Option (Option P)) (x : Option P) → cond b o None ≡ Some x → o ≡ Some x
  where-some true o x e = e
  where-some false o x e = cc

  pub filter-fewer : (g : Id8 → List ℕ → Bool) (rows : List (HeldEntry P)) → AreFewer rows (filter (λ (row : HeldEntry P). g row.0 row.1) rows)
  filter-fewer g rows node j x e = where-some (g node j) (entry_in rows node j) x (sym (entry-filter g rows node j) ∙ e)

  pub without-fewer : (rows : List (HeldEntry P)) (id : Id8) (i : List ℕ) → AreFewer rows (without_entry rows id i)
  without-fewer rows id i = filter-fewer (λ node j. not (same_id8 node id && same_numbers j i)) rows

  -- an entry is this one, or an old one
  or-some : (o p : Option (Option P)) (x : Option P) → option_or o p ≡ Some x → (o ≡ Some x) ⊎ (p ≡ Some x)
  or-some None p x e = inr e
  or-some (Some y) p x e = inl e

  abbrev pub IsThis : Id8 → List ℕ → Option P → Id8 → List ℕ → Option P → Type 0
  IsThis id i e node j x = (id ≡ node) × (i ≡ j) × (e ≡ x)

  abbrev before : List (HeldEntry P) → Id8 → List ℕ → List (HeldEntry P)
  before rows id i = filter (λ (row : HeldEntry P). is_lt (ordering_then (id8_cmp row.0 id) (index_cmp row.1 i))) rows

  abbrev behind : List (HeldEntry P) → Id8 → List ℕ → List (HeldEntry P)
  behind rows id i = filter (λ (row : HeldEntry P). is_lt (ordering_then (id8_cmp id row.0) (index_cmp i row.1))) rows

  pub entered : (rows : List (HeldEntry P)) (id : Id8) (i : List ℕ) (e : Option P) (node : Id8) (j : List ℕ) (x : Option P) → entry_in (with_entry rows id i e) node j ≡ Some x → IsThis id i e node j x ⊎ (entry_in rows node j ≡ Some x)
  entered rows id i e node j x k = elim (or-some (entry_in (before rows id i) node j) (entry_in ((id, i, e) ∷ (behind rows id i)) node j) x (sym (entry-append (before rows id i) ((id, i, e) ∷ (behind rows id i)) node j) ∙ k)) [
    | inl b ↦ inr (filter-fewer (λ n m. is_lt (ordering_then (id8_cmp n id) (index_cmp m i))) rows node j x b)
    | inr b ↦ by_this (same_id8 id node && same_numbers i j) refl b
  ]
    where
      by_this : (t : Bool) → (same_id8 id node && same_numbers i j) ≡ t → option_map (λ (r : HeldEntry P). r.2) (cond t (Some (id, i, e)) (find (at node j) (behind rows id i))) ≡ Some x → IsThis id i e node j x ⊎ (entry_in rows node j ≡ Some x)
      by_this true t h = let parts = both-parts (same_id8 id node) (same_numbers i j) t in inl (id-true id node parts.0, same_path-true i j parts.1, cc)
      by_this false t h = inr (filter-fewer (λ n m. is_lt (ordering_then (id8_cmp id n) (index_cmp i m))) rows node j x h)
