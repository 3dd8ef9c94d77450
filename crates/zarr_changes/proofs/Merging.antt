-- Two lists of rows, walked as one.
use Rattle.std.proofs.Common.{◌≡◌, ℕ, Bool, true, false, cond, T, List, [], ◌∷◌, ◌++◌, append-nil, Option, Some, None, is_some, refl, sym, ap, subst, ◌∙◌, ◌⊎◌, inl, inr}
use Rattle.std.specs.Prelude.{MatchOption}
use Rattle.std.specs.Borrow.{Bor}
use Rattle.std.specs.declared.cmp.Ordering.{Ordering}
use Rattle.std.specs.declared.cmp.Ordering.TheVariants.{Less, Equal, Greater}
use Rattle.std.specs.Option.{option_or}
use Rattle.std.specs.Ordering.{is_lt, ordering_reverse}
use Rattle.std.specs.Cmp.{tied_itself}
use Rattle.std.specs.FinMap.{FinMap, find, get, entries, entries_sorted, is_sorted, from_entries, from_sorted, get-entries, entries-from_sorted, get-from_sorted}
use Rattle.zarr_path.specs.Paths.{path_cmp, same_path}
use Rattle.zarr_path.proofs.OrderLaws.{total, exact, same_path-true, same_path-refl}
use Rattle.zarr_tree.specs.declared.nodes.Found.{Found}
use Rattle.zarr_tree.specs.Nodes.{Node}
use Rattle.zarr_tree.specs.Held.{Rows}
use Rattle.zarr_tree.proofs.Maps.{same, get-made, find-append}
use Rattle.zarr_changes.specs.Rows.{overlay, rows_from}
use Rattle.zarr_tree.specs.Rows.{IsInOrder, row_found}
use Rattle.zarr_tree.proofs.RowLaws.{both, first, second, T-true, less, is_below, entries-made}

abbrev Row : Type 0
Row = List ℕ × Node

turned : (p q : List ℕ) (o : Ordering) → path_cmp p q ≡ o → path_cmp q p ≡ ordering_reverse o
turned p q o e = total.antisymm q p ∙ ap ordering_reverse e

-- what is found is above
below-found : (x q : List ℕ) (es : Rows) → T (is_below path_cmp x es) → is_some (find path_cmp q es) ≡ true → path_cmp x q ≡ Less
below-found x q [] h f = cc
below-found x q (e ∷ es) h f =
    elim (same_path q e.0) as (λ b. same_path q e.0 ≡ b → is_some (cond b (Some e.1) (find path_cmp q es)) ≡ true → path_cmp x q ≡ Less) [
      | true ↦ λ s g. ap (path_cmp x) (same_path-true q e.0 s) ∙ less (path_cmp x e.0) (first (is_lt (path_cmp x e.0)) (is_below path_cmp x es) h)
      | false ↦ λ s g. below-found x q es (second (is_lt (path_cmp x e.0)) (is_below path_cmp x es) h) g
    ] refl f

found-below : (x : List ℕ) (es : Rows) → ((q : List ℕ) → is_some (find path_cmp q es) ≡ true → path_cmp x q ≡ Less) → T (is_below path_cmp x es)
found-below x [] h = tt
found-below x (e ∷ es) h =
    both (is_lt (path_cmp x e.0)) (is_below path_cmp x es) (T-true _ (ap is_lt (h e.0 (ap (λ b. is_some (cond b (Some e.1) (find path_cmp e.0 es))) (same_path-refl e.0)))))
    (found-below x es (λ q f. h q (elim (same_path q e.0) as (λ b. is_some (cond b (Some e.1) (find path_cmp q es)) ≡ true) [ true ↦ refl | false ↦ f ])))

-- what is below the keys isn't found
below-none : (x : List ℕ) (es : Rows) → T (is_below path_cmp x es) → find path_cmp x es ≡ None
below-none x es h = by_case (find path_cmp x es) refl
  where
    by_case : (o : Option Node) → find path_cmp x es ≡ o → find path_cmp x es ≡ None
    by_case None e = e
    by_case (Some v) e = let k : path_cmp x x ≡ Less = below-found x x es h (ap is_some e) in let l : path_cmp x x ≡ Equal = tied_itself total x in cc

-- a first row before a map's own
first_row : (m n : FinMap path_cmp Node) (row : Row) → ((q : List ℕ) → get m q ≡ cond (same_path q row.0) (Some row.1) (get n q)) → ((q : List ℕ) → is_some (get n q) ≡ true → path_cmp row.0 q ≡ Less) → entries m ≡ row ∷ entries n
first_row m n row is above = ap entries whole ∙ entries-from_sorted path_cmp (row ∷ entries n) order
  where
    order : T (is_sorted path_cmp (row ∷ entries n))
    order = both (is_below path_cmp row.0 (entries n)) (is_sorted path_cmp (entries n)) (found-below row.0 (entries n) (λ q f. above q (ap is_some (get-entries n q) ∙ f))) (entries_sorted n)

    whole : m ≡ from_sorted (row ∷ entries n)
    whole = same _ _ (λ q. is q ∙ ap (cond (same_path q row.0) (Some row.1)) (get-entries n q) ∙ sym (get-from_sorted path_cmp (row ∷ entries n) q order))

-- ---- one step, by the orders of the two first rows
walk_second : (s : Row) (ss : Rows) → IsInOrder (s ∷ ss) → entries (overlay [] (s ∷ ss)) ≡ s ∷ entries (overlay [] ss)
walk_second s ss h =
    entries-made path_cmp total exact (s ∷ ss) h ∙ ap (λ (x : Rows). s ∷ x) (sym (entries-made path_cmp total exact ss (second (is_below path_cmp s.0 ss) (is_sorted path_cmp ss) h)))

walk_first : (f : Row) (fs : Rows) → IsInOrder (f ∷ fs) → entries (overlay (f ∷ fs) []) ≡ f ∷ entries (overlay fs [])
walk_first f fs h = ap (λ (x : Rows). entries (from_entries {R = path_cmp} (f ∷ x))) (append-nil fs) ∙ walk_second f fs h ∙ ap (λ (x : Rows). f ∷ entries (from_entries {R = path_cmp} x)) (sym (append-nil fs))

some_or : (x y : Option Node) → is_some (option_or x y) ≡ true → (is_some x ≡ true) ⊎ (is_some y ≡ true)
some_or None y h = inr h
some_or (Some v) y h = inl refl

-- below both lists is below all that stands in either
above_both : (x : List ℕ) (xs ys : Rows) → T (is_below path_cmp x xs) → T (is_below path_cmp x ys) → (q : List ℕ) → is_some (get (overlay xs ys) q) ≡ true → path_cmp x q ≡ Less
above_both x xs ys h g q f = by_case (some_or (find path_cmp q xs) (find path_cmp q ys) (ap is_some (sym (get-made (xs ++ ys) q ∙ find-append q xs ys)) ∙ f))
  where
    by_case : (is_some (find path_cmp q xs) ≡ true) ⊎ (is_some (find path_cmp q ys) ≡ true) → path_cmp x q ≡ Less
    by_case (inl k) = below-found x q xs h k
    by_case (inr k) = below-found x q ys g k

below_more : (x y : List ℕ) (es : Rows) → path_cmp x y ≡ Less → T (is_below path_cmp y es) → T (is_below path_cmp x es)
below_more x y [] e h = tt
below_more x y (r ∷ rs) e h =
    let lt : path_cmp x r.0 ≡ Less = total.trans x y r.0 e (less (path_cmp y r.0) (first (is_lt (path_cmp y r.0)) (is_below path_cmp y rs) h)) in
    both (is_lt (path_cmp x r.0)) (is_below path_cmp x rs) (T-true _ (ap is_lt lt)) (below_more x y rs e (second (is_lt (path_cmp y r.0)) (is_below path_cmp y rs) h))

below_rows : (x : List ℕ) (s : Row) (ss : Rows) → path_cmp x s.0 ≡ Less → T (is_below path_cmp s.0 ss) → T (is_below path_cmp x (s ∷ ss))
below_rows x s ss e h = both (is_lt (path_cmp x s.0)) (is_below path_cmp x ss) (T-true _ (ap is_lt e)) (below_more x s.0 ss e h)

walk_less : (f s : Row) (fs ss : Rows) → IsInOrder (f ∷ fs) → IsInOrder (s ∷ ss) → path_cmp f.0 s.0 ≡ Less → entries (overlay (f ∷ fs) (s ∷ ss)) ≡ f ∷ entries (overlay fs (s ∷ ss))
walk_less f s fs ss h g e = first_row (overlay (f ∷ fs) (s ∷ ss)) (overlay fs (s ∷ ss)) f gets
    (above_both f.0 fs (s ∷ ss) (first (is_below path_cmp f.0 fs) (is_sorted path_cmp fs) h) (below_rows f.0 s ss e (first (is_below path_cmp s.0 ss) (is_sorted path_cmp ss) g)))
  where
    gets : (q : List ℕ) → get (overlay (f ∷ fs) (s ∷ ss)) q ≡ cond (same_path q f.0) (Some f.1) (get (overlay fs (s ∷ ss)) q)
    gets q = get-made (f ∷ fs ++ s ∷ ss) q ∙ ap (cond (same_path q f.0) (Some f.1)) (sym (get-made (fs ++ s ∷ ss) q))

walk_equal : (f s : Row) (fs ss : Rows) → IsInOrder (f ∷ fs) → IsInOrder (s ∷ ss) → path_cmp f.0 s.0 ≡ Equal → entries (overlay (f ∷ fs) (s ∷ ss)) ≡ f ∷ entries (overlay fs ss)
walk_equal f s fs ss h g e = first_row (overlay (f ∷ fs) (s ∷ ss)) (overlay fs ss) f gets
    (above_both f.0 fs ss (first (is_below path_cmp f.0 fs) (is_sorted path_cmp fs) h) (subst (λ (x : List ℕ). T (is_below path_cmp x ss)) (sym same_key) (first (is_below path_cmp s.0 ss) (is_sorted path_cmp ss) g)))
  where
    same_key : f.0 ≡ s.0
    same_key = exact f.0 s.0 e

    hidden : (q : List ℕ) (b : Bool) → same_path q f.0 ≡ b → cond b (Some f.1) (option_or (find path_cmp q fs) (cond (same_path q s.0) (Some s.1) (find path_cmp q ss))) ≡ cond b (Some f.1) (option_or (find path_cmp q fs) (find path_cmp q ss))
    hidden q true k = refl
    hidden q false k = ap (λ c. option_or (find path_cmp q fs) (cond c (Some s.1) (find path_cmp q ss))) (ap (same_path q) (sym same_key) ∙ k)

    gets : (q : List ℕ) → get (overlay (f ∷ fs) (s ∷ ss)) q ≡ cond (same_path q f.0) (Some f.1) (get (overlay fs ss) q)
    gets q = get-made (f ∷ fs ++ s ∷ ss) q ∙ ap (cond (same_path q f.0) (Some f.1)) (find-append q fs (s ∷ ss)) ∙ hidden q (same_path q f.0) refl
        ∙ ap (cond (same_path q f.0) (Some f.1)) (sym (get-made (fs ++ ss) q ∙ find-append q fs ss))

walk_greater : (f s : Row) (fs ss : Rows) → IsInOrder (f ∷ fs) → IsInOrder (s ∷ ss) → path_cmp f.0 s.0 ≡ Greater → entries (overlay (f ∷ fs) (s ∷ ss)) ≡ s ∷ entries (overlay (f ∷ fs) ss)
walk_greater f s fs ss h g e = first_row (overlay (f ∷ fs) (s ∷ ss)) (overlay (f ∷ fs) ss) s gets (above_both s.0 (f ∷ fs) ss under (first (is_below path_cmp s.0 ss) (is_sorted path_cmp ss) g))
  where
    under : T (is_below path_cmp s.0 (f ∷ fs))
    under = below_rows s.0 f fs (turned f.0 s.0 Greater e) (first (is_below path_cmp f.0 fs) (is_sorted path_cmp fs) h)

    earlier : (q : List ℕ) (b : Bool) → same_path q s.0 ≡ b → option_or (find path_cmp q (f ∷ fs)) (cond b (Some s.1) (find path_cmp q ss)) ≡ cond b (Some s.1) (option_or (find path_cmp q (f ∷ fs)) (find path_cmp q ss))
    earlier q true k = ap (λ (x : Option Node). option_or x (Some s.1)) (ap (λ (x : List ℕ). find path_cmp x (f ∷ fs)) (same_path-true q s.0 k) ∙ below-none s.0 (f ∷ fs) under)
    earlier q false k = refl

    gets : (q : List ℕ) → get (overlay (f ∷ fs) (s ∷ ss)) q ≡ cond (same_path q s.0) (Some s.1) (get (overlay (f ∷ fs) ss) q)
    gets q = get-made ((f ∷ fs) ++ s ∷ ss) q ∙ find-append q (f ∷ fs) (s ∷ ss) ∙ earlier q (same_path q s.0) refl
        ∙ ap (cond (same_path q s.0) (Some s.1)) (sym (get-made ((f ∷ fs) ++ ss) q ∙ find-append q (f ∷ fs) ss))

-- ---- one step of the walk, as the code takes it
abbrev Next : Type 0
Next = Option (Bor (List ℕ) × Found)

-- what `next` answers, and what it leaves
abbrev pub Gives : Next → (before after : Rows) → Type 0
Gives r before after = MatchOption r (before ≡ []) (λ row. before ≡ row_found row ∷ after)

-- so the rows that were left stand behind the one that was taken
pub refilled : (r : Next) (before after : Rows) → Gives r before after → rows_from r after ≡ before
refilled None before after h = sym h
refilled (Some row) before after h = sym h

module _ (a b : Next) (xs ys : Rows) (v : Rows) (is : entries (overlay (rows_from a xs) (rows_from b ys)) ≡ v) where
  pub step_none : a ≡ None → b ≡ None → v ≡ []
  step_none e k = sym is ∙ (λ i. entries (overlay (rows_from (e i) xs) (rows_from (k i) ys))) ∙ entries-made path_cmp total exact [] tt

  module _ (f : Bor (List ℕ) × Found) (e : a ≡ Some f) (h : IsInOrder (rows_from a xs)) (r : Next) (after : Rows) (took : Gives r xs after) where
    pub step_first : b ≡ None → v ≡ row_found f ∷ entries (overlay (rows_from r after) (rows_from b ys))
    step_first k =
        sym is ∙ (λ i. entries (overlay (rows_from (e i) xs) (rows_from (k i) ys))) ∙ walk_first (row_found f) xs (subst (λ (x : Next). IsInOrder (rows_from x xs)) e h)
        ∙ (λ i. row_found f ∷ entries (overlay (sym (refilled r xs after took) i) (rows_from (sym k i) ys)))

    pub step_less : (s : Bor (List ℕ) × Found) → b ≡ Some s → IsInOrder (rows_from b ys) → path_cmp f.0.now s.0.now ≡ Less → v ≡ row_found f ∷ entries (overlay (rows_from r after) (rows_from b ys))
    step_less s k g o =
        sym is ∙ (λ i. entries (overlay (rows_from (e i) xs) (rows_from (k i) ys)))
        ∙ walk_less (row_found f) (row_found s) xs ys (subst (λ (x : Next). IsInOrder (rows_from x xs)) e h) (subst (λ (x : Next). IsInOrder (rows_from x ys)) k g) o
        ∙ (λ i. row_found f ∷ entries (overlay (sym (refilled r xs after took) i) (rows_from (sym k i) ys)))

    pub step_equal : (s : Bor (List ℕ) × Found) → b ≡ Some s → IsInOrder (rows_from b ys) → (q : Next) (left : Rows) → Gives q ys left → path_cmp f.0.now s.0.now ≡ Equal
        → v ≡ row_found f ∷ entries (overlay (rows_from r after) (rows_from q left))
    step_equal s k g q left t o =
        sym is ∙ (λ i. entries (overlay (rows_from (e i) xs) (rows_from (k i) ys)))
        ∙ walk_equal (row_found f) (row_found s) xs ys (subst (λ (x : Next). IsInOrder (rows_from x xs)) e h) (subst (λ (x : Next). IsInOrder (rows_from x ys)) k g) o
        ∙ (λ i. row_found f ∷ entries (overlay (sym (refilled r xs after took) i) (sym (refilled q ys left t) i)))

  module _ (s : Bor (List ℕ) × Found) (k : b ≡ Some s) (g : IsInOrder (rows_from b ys)) (q : Next) (left : Rows) (took : Gives q ys left) where
    pub step_second : a ≡ None → v ≡ row_found s ∷ entries (overlay (rows_from a xs) (rows_from q left))
    step_second e =
        sym is ∙ (λ i. entries (overlay (rows_from (e i) xs) (rows_from (k i) ys))) ∙ walk_second (row_found s) ys (subst (λ (x : Next). IsInOrder (rows_from x ys)) k g)
        ∙ (λ i. row_found s ∷ entries (overlay (rows_from (sym e i) xs) (sym (refilled q ys left took) i)))

    pub step_greater : (f : Bor (List ℕ) × Found) → a ≡ Some f → IsInOrder (rows_from a xs) → path_cmp f.0.now s.0.now ≡ Greater → v ≡ row_found s ∷ entries (overlay (rows_from a xs) (rows_from q left))
    step_greater f e h o =
        sym is ∙ (λ i. entries (overlay (rows_from (e i) xs) (rows_from (k i) ys)))
        ∙ walk_greater (row_found f) (row_found s) xs ys (subst (λ (x : Next). IsInOrder (rows_from x xs)) e h) (subst (λ (x : Next). IsInOrder (rows_from x ys)) k g) o
        ∙ (λ i. row_found s ∷ entries (overlay (rows_from (sym e i) xs) (sym (refilled q ys left took) i)))
