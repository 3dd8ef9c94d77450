-- Nodes that a log hides.
use Rattle.std.proofs.Common.{◌≡◌, ◌∙◌, ℕ, ◌+◌, ◌≤◌, Bool, true, false, cond, ◌||◌, List, [], ◌∷◌, map, drop, length, Some, None, option_map, refl, sym, ap, subst, arith, eqb-true}
use Rattle.std.specs.Prelude.{◌&&◌, ◌==◌, not, is_some, find, slice_get}
use Rattle.std.specs.FinMap.{FinMap, entries}
use Rattle.std.specs.Ordering.{is_eq}
use Rattle.std.specs.declared.cmp.Ordering.TheVariants.{Less}
use Rattle.std.specs.List.{AllByRecursion}
use Rattle.std.specs.List.Sorted.{IsStrictlySortedBy}
use Rattle.ice_ids.specs.declared.Id8.{Id8}
use Rattle.ice_ids.specs.Text.{same_id8, id8_cmp}
use Rattle.ice_ids.proofs.TextLaws.{same_id8-true, same_id8-self}
use Rattle.zarr_path.specs.Paths.{path_cmp}
use Rattle.zarr_tree.specs.Nodes.{Node, frozen_change}
use Rattle.zarr_tree.specs.Touched.{lists, IdsAscend}
use Rattle.zarr_tree.specs.Held.{Rows, meta_in}
use Rattle.zarr_changes.proofs.IdLaws.{same_ids}
use Rattle.conflicts.proofs.Steps.{next-row, no-row, any-same}
use Rattle.rebase.specs.Along.{is_kept, first_hidden}
use Rattle.rebase.specs.inside.Working.{keeps_text, keeps_other, kept_among, first_unlisted}

-- ---- the rows of a snapshot
or-assoc : (a b c : Bool) → ((a || b) || c) ≡ (a || (b || c))
or-assoc true b c = refl
or-assoc false b c = refl

or-false : (a : Bool) → (a || false) ≡ a
or-false true = refl
or-false false = refl

pub and-true : (a : Bool) → (a && true) ≡ a
and-true true = refl
and-true false = refl

module _ (metas : List (Id8 × List ℕ)) (rows : Rows) (at : ℕ) (id : Id8) where
  -- a row more
  pub one-kept : (old new : List Id8) (row : List ℕ × Node) → slice_get rows at ≡ Some row → lists new id ≡ (lists old id || (same_id8 row.1.id id && keeps_other metas row.1))
      → (lists old id || kept_among metas (drop at rows) id) ≡ kept_among metas rows id → (lists new id || kept_among metas (drop (at + 1) rows) id) ≡ kept_among metas rows id
  one-kept old new row e is h =
      ap (λ b. b || kept_among metas (drop (at + 1) rows) id) is
      ∙ or-assoc (lists old id) (same_id8 row.1.id id && keeps_other metas row.1) (kept_among metas (drop (at + 1) rows) id)
      ∙ ap (λ (es : Rows). lists old id || kept_among metas es id) (sym (next-row rows at row e)) ∙ h

  -- all rows
  pub all-kept : (set : List Id8) → length rows ≤ at → (lists set id || kept_among metas (drop at rows) id) ≡ kept_among metas rows id → lists set id ≡ kept_among metas rows id
  all-kept set le h = sym (or-false (lists set id)) ∙ ap (λ (es : Rows). lists set id || kept_among metas es id) (sym (no-row rows at le)) ∙ h

-- ---- the other texts
-- of a node with this id the text that is held for it is this one
row-kept : (metas : List (Id8 × List ℕ)) (id : Id8) (text : List ℕ) (row : List ℕ × Node) → meta_in metas id ≡ Some text
    → (same_id8 row.1.id id && keeps_other metas row.1) ≡ (same_id8 row.1.id id && not (is_some (frozen_change row.1.text text)))
row-kept metas id text row e = by_test (same_id8 row.1.id id) refl
  where
    by_test : (b : Bool) → same_id8 row.1.id id ≡ b → (b && keeps_other metas row.1) ≡ (b && not (is_some (frozen_change row.1.text text)))
    by_test true s = ap (keeps_text row.1.text) (ap (meta_in metas) (same_id8-true row.1.id id s) ∙ e)
    by_test false s = refl

-- the first one that isn't kept is the first that the set hasn't
pub hidden-is : (nodes : FinMap path_cmp Node) (metas : List (Id8 × List ℕ)) (kept : List Id8) → ((id : Id8) → lists kept id ≡ kept_among metas (entries nodes) id)
    → (rows : List (Id8 × List ℕ)) → AllByRecursion (λ (row : Id8 × List ℕ). meta_in metas row.0 ≡ Some row.1) rows → first_hidden nodes rows ≡ first_unlisted (map (λ (row : Id8 × List ℕ). row.0) rows) kept
hidden-is nodes metas kept h [] a = refl
hidden-is nodes metas kept h (row ∷ rows) a = λ i. cond (same i) (hidden-is nodes metas kept h rows a.1 i) (Some row.0)
  where
    same : is_kept nodes row.0 row.1 ≡ lists kept row.0
    same = sym (h row.0 ∙ any-same (λ (r : List ℕ × Node). same_id8 r.1.id row.0 && keeps_other metas r.1) (λ (r : List ℕ × Node). same_id8 r.1.id row.0 && not (is_some (frozen_change r.1.text row.1))) (entries nodes) (λ r. row-kept metas row.0 row.1 r a.0))

-- ids that rise are different
below-other : (x y : Id8) → id8_cmp x y ≡ Less → same_id8 x y ≡ false
below-other x y l = by_test (same_id8 x y) refl
  where
    by_test : (b : Bool) → same_id8 x y ≡ b → b ≡ false
    by_test false s = refl
    by_test true s =
        let e = same_id8-true x y s in
        let less : id8_cmp x x ≡ Less = ap (id8_cmp x) e ∙ l in
        sym (same_id8-self x) ∙ same_ids x x ∙ ap is_eq less

-- each id has its own text
pub own-texts : (metas : List (Id8 × List ℕ)) → IdsAscend (map (λ (row : Id8 × List ℕ). row.0) metas) → AllByRecursion (λ (row : Id8 × List ℕ). meta_in metas row.0 ≡ Some row.1) metas
unfolding IsStrictlySortedBy
own-texts [] s = tt
own-texts (m ∷ ms) s = (at_test true (same_id8-self m.0), later ms s.0 (own-texts ms s.1))
  where
    at_test : (b : Bool) → same_id8 m.0 m.0 ≡ b → meta_in (m ∷ ms) m.0 ≡ option_map (λ (row : Id8 × List ℕ). row.1) (cond b (Some m) (find (λ (row : Id8 × List ℕ). same_id8 row.0 m.0) ms))
    at_test b e = ap (λ x. option_map (λ (row : Id8 × List ℕ). row.1) (cond x (Some m) (find (λ (row : Id8 × List ℕ). same_id8 row.0 m.0) ms))) e

    later : (rows : List (Id8 × List ℕ)) → AllByRecursion (λ (y : Id8). id8_cmp m.0 y ≡ Less) (map (λ (row : Id8 × List ℕ). row.0) rows)
        → AllByRecursion (λ (row : Id8 × List ℕ). meta_in ms row.0 ≡ Some row.1) rows → AllByRecursion (λ (row : Id8 × List ℕ). meta_in (m ∷ ms) row.0 ≡ Some row.1) rows
    later [] l a = tt
    later (r ∷ rs) l a = (
      ap (λ x. option_map (λ (row : Id8 × List ℕ). row.1) (cond x (Some m) (find (λ (row : Id8 × List ℕ). same_id8 row.0 r.0) ms))) (below-other m.0 r.0 l.0) ∙ a.0,
      later rs l.1 a.1,
    )

-- what the code finds
pub finds-hidden : (nodes : FinMap path_cmp Node) (metas : List (Id8 × List ℕ)) (kept ids : List Id8) → ids ≡ map (λ (row : Id8 × List ℕ). row.0) metas → IdsAscend ids
    → ((id : Id8) → lists kept id ≡ kept_among metas (entries nodes) id) → first_unlisted ids kept ≡ first_hidden nodes metas
finds-hidden nodes metas kept ids e s h =
    ap (λ (xs : List Id8). first_unlisted xs kept) e ∙ sym (hidden-is nodes metas kept h metas (own-texts metas (subst IdsAscend e s)))

-- where there are no other texts
pub none-hidden : (nodes : FinMap path_cmp Node) (metas : List (Id8 × List ℕ)) (ids : List Id8) → ids ≡ map (λ (row : Id8 × List ℕ). row.0) metas → (length ids == 0) ≡ true → None ≡ first_hidden nodes metas
none-hidden nodes [] ids e z = refl
none-hidden nodes (m ∷ ms) [] e z = absurd (cc)
none-hidden nodes (m ∷ ms) (id ∷ ids) e z = let none : length (id ∷ ids) ≡ 0 = eqb-true _ _ z in absurd (omega arith)
