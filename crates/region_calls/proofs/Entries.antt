-- The entries of chunks where one was entered.
use Rattle.std.proofs.Common.{◌≡◌, ◌⊎◌, inl, inr, ℕ, Bool, true, false, cond, List, [], ◌∷◌, ◌++◌, refl, sym, ◌∙◌, ap, subst}
use Rattle.std.specs.Prelude.{◌&&◌, Option, Some, None, option_map, find}
use Rattle.std.specs.List.{filter}
use Rattle.std.specs.Ordering.{is_lt, ordering_then}
use Rattle.ice_ids.specs.declared.Id8.{Id8}
use Rattle.ice_ids.specs.Text.{same_id8, id8_cmp}
use Rattle.ice_ids.proofs.TextLaws.{same_id8-true}
use Rattle.zarr_path.specs.Indices.{index_cmp}
use Rattle.zarr_path.proofs.OrderLaws.{same_path-true}
use Rattle.zarr_tree.specs.Nodes.{same_numbers}
use Rattle.zarr_tree.specs.Held.{HeldEntry, entry_in}
use Rattle.zarr_changes.specs.Edits.{with_entry}

-- ---- what a search finds among those that are kept
module _ {A : Type 0} (test keep : A → Bool) where
  abbrev Passes : A → Type 0
  Passes x = (test x ≡ true) × (keep x ≡ true)

  kept-passes : (xs : List A) (x : A) → find test (filter keep xs) ≡ Some x → Passes x
  kept-passes [] x e = cc
  kept-passes (y ∷ ys) x e = elim (keep y) as (λ b. keep y ≡ b → find test (cond b (y ∷ filter keep ys) (filter keep ys)) ≡ Some x → Passes x) [
    | true ↦ λ k. elim (test y) as (λ b. test y ≡ b → cond b (Some y) (find test (filter keep ys)) ≡ Some x → Passes x) [
      | true ↦ λ t d. let same : y ≡ x = cc in subst Passes same (t, k)
      | false ↦ λ t d. kept-passes ys x d
    ] refl
    | false ↦ λ k d. kept-passes ys x d
  ] refl e

  -- it is the first among all, where those that the search takes are kept alike
  find-kept : ((a b : A) → test a ≡ true → test b ≡ true → keep a ≡ keep b) → (xs : List A) (x : A) → find test (filter keep xs) ≡ Some x → find test xs ≡ Some x
  find-kept alike [] x e = e
  find-kept alike (y ∷ ys) x e = elim (keep y) as (λ b. keep y ≡ b → find test (cond b (y ∷ filter keep ys) (filter keep ys)) ≡ Some x → cond (test y) (Some y) (find test ys) ≡ Some x) [
    | true ↦ λ k. elim (test y) as (λ b. cond b (Some y) (find test (filter keep ys)) ≡ Some x → cond b (Some y) (find test ys) ≡ Some x) [
      | true ↦ λ d. d
      | false ↦ λ d. find-kept alike ys x d
    ]
    | false ↦ λ k d. elim (test y) as (λ b. test y ≡ b → cond b (Some y) (find test ys) ≡ Some x) [
      | true ↦ λ t. let p = kept-passes ys x d in let same : false ≡ true = sym k ∙ alike y x t p.0 ∙ p.1 in cc
      | false ↦ λ t. find-kept alike ys x d
    ] refl
  ] refl e

find-middle : {A : Type 0} (test : A → Bool) (xs : List A) (y : A) (ys : List A) (x : A) → find test (xs ++ y ∷ ys) ≡ Some x → (find test xs ≡ Some x) ⊎ (((test y ≡ true) × (y ≡ x)) ⊎ (find test ys ≡ Some x))
find-middle test [] y ys x e = elim (test y) as (λ b. test y ≡ b → cond b (Some y) (find test ys) ≡ Some x → (None ≡ Some x) ⊎ (((test y ≡ true) × (y ≡ x)) ⊎ (find test ys ≡ Some x))) [
  | true ↦ λ t d. inr (inl (t, cc))
  | false ↦ λ t d. inr (inr d)
] refl e
find-middle test (z ∷ zs) y ys x e = elim (test z) as (λ b. cond b (Some z) (find test (zs ++ y ∷ ys)) ≡ Some x → (cond b (Some z) (find test zs) ≡ Some x) ⊎ (((test y ≡ true) × (y ≡ x)) ⊎ (find test ys ≡ Some x))) [
  | true ↦ λ d. inl d
  | false ↦ λ d. find-middle test zs y ys x d
] e

pub both-true : (a b : Bool) → (a && b) ≡ true → (a ≡ true) × (b ≡ true)
both-true true b e = (refl, e)
both-true false b e = cc

-- ---- entries
module _ {P : Type 0} (node : Id8) (i : List ℕ) where
  -- whether an entry is for this chunk
  abbrev is_for : HeldEntry P → Bool
  is_for row = same_id8 row.0 node && same_numbers row.1 i

  for-this : (row : HeldEntry P) → is_for row ≡ true → (row.0 ≡ node) × (row.1 ≡ i)
  for-this row e = let p = both-true (same_id8 row.0 node) (same_numbers row.1 i) e in (same_id8-true row.0 node p.0, same_path-true row.1 i p.1)

  -- a test by the chunk alone keeps its entries alike
  alike : (keep : Id8 → List ℕ → Bool) (a b : HeldEntry P) → is_for a ≡ true → is_for b ≡ true → keep a.0 a.1 ≡ keep b.0 b.1
  alike keep a b s t =
      let x = for-this a s in
      let y = for-this b t in
      λ k. keep ((x.0 ∙ sym y.0) k) ((x.1 ∙ sym y.1) k)

  entry-is : (rows : List (HeldEntry P)) (o : Option (HeldEntry P)) (e : Option P) → find is_for rows ≡ o → option_map (λ (row : HeldEntry P). row.2) o ≡ Some e → (row : HeldEntry P) × (find is_for rows ≡ Some row) × (row.2 ≡ e)
  entry-is rows None e f d = cc
  entry-is rows (Some row) e f d = (row, f, cc)

  -- an entry is the one that was entered, or stood there before
  pub entered : (rows : List (HeldEntry P)) (id : Id8) (j : List ℕ) (new e : Option P) → entry_in (with_entry rows id j new) node i ≡ Some e → ((j ≡ i) × (new ≡ e)) ⊎ (entry_in rows node i ≡ Some e)
  entered rows id j new e d =
      let x = entry-is (with_entry rows id j new) (find is_for (with_entry rows id j new)) e refl d in
      let before : Id8 → List ℕ → Bool = λ m k. is_lt (ordering_then (id8_cmp m id) (index_cmp k j)) in
      let behind : Id8 → List ℕ → Bool = λ m k. is_lt (ordering_then (id8_cmp id m) (index_cmp j k)) in
      let old : find is_for rows ≡ Some x.0 → entry_in rows node i ≡ Some e = λ f. ap (option_map (λ (row : HeldEntry P). row.2)) f ∙ ap (λ o. Some o) x.2 in
      elim (find-middle is_for (filter (λ (row : HeldEntry P). before row.0 row.1) rows) (id, j, new) (filter (λ (row : HeldEntry P). behind row.0 row.1) rows) x.0 x.1) [
        | inl f ↦ inr (old (find-kept is_for (λ row. before row.0 row.1) (alike before) rows x.0 f))
        | inr o ↦ elim o [
          | inl f ↦ inl ((for-this (id, j, new) f.0).1, ap (λ (row : HeldEntry P). row.2) f.1 ∙ x.2)
          | inr f ↦ inr (old (find-kept is_for (λ row. behind row.0 row.1) (alike behind) rows x.0 f))
        ]
      ]
