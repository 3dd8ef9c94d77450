-- Ids in the order of their bytes.
use Rattle.std.proofs.Common.{◌≡◌, ℕ, Bool, true, false, cond, ◌||◌, T, List, [], ◌∷◌, ◌++◌, map, Option, Some, None, option_map, Bor, append_assoc, refl, sym, ap, subst, ◌∙◌}
use Rattle.std.specs.Prelude.{find}
use Rattle.std.specs.Option.{option_copied}
use Rattle.std.specs.declared.cmp.Ordering.{Ordering}
use Rattle.std.specs.declared.cmp.Ordering.TheVariants.{Less, Equal, Greater}
use Rattle.std.specs.Ordering.{eq_by_cmp, is_eq, is_lt}
use Rattle.std.specs.Cmp.{IsTotalOrder, Equal-is, both_ways, tied_itself}
use Rattle.std.specs.Cmp.Lexicographic.{nat_list_cmp_total}
use Rattle.std.specs.List.{list_any, list_all, filter, AllByRecursion}
use Rattle.std.specs.List.Sorted.{IsStrictlySortedBy}
use Rattle.std.specs.Map.{lookup, keys_of}
use Rattle.std.specs.BTreeMap.{is_at, insert_entry}
use Rattle.std.specs.BTreeSet.{insert_key}
use Rattle.std.specs.FinMap.{IsAntisymmetric, is_sorted, put, slice_cmp-IsAntisymmetric, nat_cmp-IsAntisymmetric}
use Rattle.ice_ids.specs.declared.Id8.{Id8}
use Rattle.ice_ids.specs.Text.{same_id8, id8_cmp}
use Rattle.zarr_meta.specs.declared.metas.Meta.{Meta}
use Rattle.zarr_tree.specs.Touched.{lists, IdsAscend}
use Rattle.zarr_tree.specs.Held.{meta_in}
use Rattle.zarr_tree.proofs.Apply.{id-true, id-refl}
use Rattle.zarr_changes.specs.Edits.{with_id, with_row}
use Rattle.zarr_changes.specs.inside.Kept.{text_rows}
use Rattle.zarr_tree.proofs.RowLaws.{both, T-true, entries-put, entries-insert_last, seen-insert}

pub id_total : IsTotalOrder id8_cmp
id_total = record {
  antisymm = λ x y. nat_list_cmp_total.antisymm x.0 y.0;
  trans = λ x y z. nat_list_cmp_total.trans x.0 y.0 z.0;
  congr = λ x y z. nat_list_cmp_total.congr x.0 y.0 z.0;
}

pub id_exact : IsAntisymmetric id8_cmp
id_exact x y e = let bytes : x.0 ≡ y.0 = slice_cmp-IsAntisymmetric nat_cmp-IsAntisymmetric x.0 y.0 e in λ i. record { 0 = bytes i }

tied : (r : Ordering) → is_eq r ≡ true → r ≡ Equal
tied r e = (Equal-is r).0 e

pub same_ids : (x q : Id8) → same_id8 x q ≡ eq_by_cmp id8_cmp q x
same_ids x q = both_ways _ _
    (λ e. ap (eq_by_cmp id8_cmp q) (id-true x q e) ∙ ap is_eq (tied_itself id_total q))
    (λ e. ap (same_id8 x) (id_exact q x (tied (id8_cmp q x) e)) ∙ id-refl x)

-- ---- sets
pub contains_lists : (xs : List Id8) (q : Id8) → list_any (is_at (id8_cmp q)) xs ≡ lists xs q
contains_lists [] q = refl
contains_lists (x ∷ xs) q = λ i. sym (same_ids x q) i || contains_lists xs q i

module _ {A : Type 0} (R : A → A → Ordering) where
  below_rows : {X : Type 0} (x : A) (es : List (A × X)) → AllByRecursion (λ y. R x y ≡ Less) (keys_of es) → T (list_all (λ (e : A × X). is_lt (R x e.0)) es)
  below_rows x [] h = tt
  below_rows {X} x (e ∷ es) h = both (is_lt (R x e.0)) (list_all (λ (e : A × X). is_lt (R x e.0)) es) (T-true _ (ap is_lt h.0)) (below_rows x es h.1)

  -- rows whose keys rise
  pub rows-sorted : {X : Type 0} (es : List (A × X)) → IsStrictlySortedBy R (keys_of es) → T (is_sorted R es)
  unfolding IsStrictlySortedBy
  rows-sorted [] h = tt
  rows-sorted {X} (e ∷ es) h = both (list_all (λ (x : A × X). is_lt (R e.0 x.0)) es) (is_sorted R es) (below_rows e.0 es h.0) (rows-sorted es h.1)

abbrev pub marks : List Id8 → List (Id8 × Unit {0})
marks xs = map (λ (x : Id8). (x, tt {0})) xs

keys-marks : (xs : List Id8) → keys_of (marks xs) ≡ xs
keys-marks [] = refl
keys-marks (x ∷ xs) = ap (λ (y : List Id8). x ∷ y) (keys-marks xs)

sorted-marks : (xs : List Id8) → IdsAscend xs → T (is_sorted id8_cmp (marks xs))
sorted-marks xs h = rows-sorted id8_cmp (marks xs) (subst IdsAscend (sym (keys-marks xs)) h)

mark-cons : (x : Id8) (xs : List Id8) (k : Id8) → marks (insert_key id8_cmp xs k) ≡ put id8_cmp k (tt {0}) (marks xs)
    → (r : Ordering) → id8_cmp k x ≡ r → marks (insert_key id8_cmp (x ∷ xs) k) ≡ put id8_cmp k (tt {0}) (marks (x ∷ xs))
mark-cons x xs k rest Less h = rw h refl
mark-cons x xs k rest Equal h = rw h refl
mark-cons x xs k rest Greater h = rw h (ap (λ (y : List (Id8 × Unit {0})). (x, tt {0}) ∷ y) rest)

marks-insert : (xs : List Id8) (k : Id8) → marks (insert_key id8_cmp xs k) ≡ put id8_cmp k (tt {0}) (marks xs)
marks-insert [] k = refl
marks-insert (x ∷ xs) k = mark-cons x xs k (marks-insert xs k) (id8_cmp k x) refl

-- one more id
pub insert_with : (xs : List Id8) (k : Id8) → IdsAscend xs → insert_key id8_cmp xs k ≡ with_id xs k
insert_with xs k h =
    sym (keys-marks (insert_key id8_cmp xs k)) ∙ ap keys_of (marks-insert xs k)
    ∙ ap keys_of (sym (entries-put id8_cmp id_total id_exact (marks xs) k (tt {0}) (sorted-marks xs h)))

-- ---- texts
pub keys-texts : (es : List (Id8 × Meta)) → keys_of (text_rows es) ≡ keys_of es
keys-texts [] = refl
keys-texts (e ∷ es) = ap (λ (y : List Id8). e.0 ∷ y) (keys-texts es)

-- the text of what a look-up finds
pub looked_up : (es : List (Id8 × Meta)) (q : Id8) → option_map (λ (m : Meta). m.text) (lookup (is_at (id8_cmp q)) es) ≡ meta_in (text_rows es) q
looked_up [] q = refl
looked_up (e ∷ es) q =
    by_test (eq_by_cmp id8_cmp q e.0) (looked_up es q)
    ∙ ap (λ b. option_map (λ (row : Id8 × List ℕ). row.1) (cond b (Some (e.0, e.1.text)) (find (λ (row : Id8 × List ℕ). same_id8 row.0 q) (text_rows es)))) (sym (same_ids e.0 q))
  where
    by_test : (b : Bool) → option_map (λ (m : Meta). m.text) (lookup (is_at (id8_cmp q)) es) ≡ meta_in (text_rows es) q
        → option_map (λ (m : Meta). m.text) (cond b (Some e.1) (lookup (is_at (id8_cmp q)) es)) ≡ option_map (λ (row : Id8 × List ℕ). row.1) (cond b (Some (e.0, e.1.text)) (find (λ (row : Id8 × List ℕ). same_id8 row.0 q) (text_rows es)))
    by_test true h = refl
    by_test false h = h

-- one more text
pub insert_row : (es : List (Id8 × Meta)) (k : Id8) (m : Meta) → IdsAscend (keys_of es) → text_rows (insert_entry id8_cmp es k m) ≡ with_row (text_rows es) k m.text
insert_row es k m h =
    seen-insert id8_cmp id8_cmp (λ (x : Id8). x) (λ (m : Meta). m.text) (λ x y. refl) es k m
    ∙ sym (entries-put id8_cmp id_total id_exact (text_rows es) k m.text (rows-sorted id8_cmp (text_rows es) (subst IdsAscend (sym (keys-texts es)) h)))

pub text_copied : (r : Option (Bor Meta)) → option_map (λ (m : Bor Meta). m.now.text) r ≡ option_map (λ (m : Meta). m.text) (option_copied r)
text_copied None = refl
text_copied (Some m) = refl

-- texts in order
pub texts-sorted : (es : List (Id8 × Meta)) → IdsAscend (keys_of es) → T (is_sorted id8_cmp (text_rows es))
texts-sorted es h = rows-sorted id8_cmp (text_rows es) (subst IdsAscend (sym (keys-texts es)) h)

-- the next text, behind those before it
pub text_next : (copy rest all : List (Id8 × List ℕ)) (k : Id8) (text : List ℕ) → T (is_sorted id8_cmp all) → copy ++ (k, text) ∷ rest ≡ all → with_row copy k text ++ rest ≡ all
text_next copy rest all k text h e =
    ap (λ (x : List (Id8 × List ℕ)). x ++ rest) (entries-insert_last id8_cmp id_total id_exact copy k text rest (subst (λ (x : List (Id8 × List ℕ)). T (is_sorted id8_cmp x)) (sym e) h))
    ∙ append_assoc copy ((k, text) ∷ []) rest ∙ e

-- those texts whose ids pass a test
pub texts-filter : (test : Id8 → Bool) (es : List (Id8 × Meta)) → text_rows (filter (λ (e : Id8 × Meta). test e.0) es) ≡ filter (λ (row : Id8 × List ℕ). test row.0) (text_rows es)
texts-filter test [] = refl
texts-filter test (e ∷ es) = by_test (test e.0) (texts-filter test es)
  where
    by_test : (b : Bool) → text_rows (filter (λ (x : Id8 × Meta). test x.0) es) ≡ filter (λ (row : Id8 × List ℕ). test row.0) (text_rows es)
        → text_rows (cond b (e ∷ filter (λ (x : Id8 × Meta). test x.0) es) (filter (λ (x : Id8 × Meta). test x.0) es))
        ≡ cond b ((e.0, e.1.text) ∷ filter (λ (row : Id8 × List ℕ). test row.0) (text_rows es)) (filter (λ (row : Id8 × List ℕ). test row.0) (text_rows es))
    by_test true rest = ap (λ (rows : List (Id8 × List ℕ)). (e.0, e.1.text) ∷ rows) rest
    by_test false rest = rest
