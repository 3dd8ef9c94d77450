-- Rows in the order of their keys, and the map that they make.
use Rattle.std.proofs.Common.{◌≡◌, Bool, true, false, ◌&&◌, T, List, [], ◌∷◌, ◌++◌, map, length, refl, sym, ap, subst, ◌∙◌}
use Rattle.std.specs.declared.cmp.Ordering.{Ordering}
use Rattle.std.specs.declared.cmp.Ordering.TheVariants.{Less, Equal, Greater}
use Rattle.std.specs.Ordering.{is_lt, ordering_reverse}
use Rattle.std.specs.List.{list_all}
use Rattle.std.specs.Cmp.{IsTotalOrder}
use Rattle.std.specs.BTreeMap.{insert_entry}
use Rattle.std.specs.FinMap.{FinMap, IsAntisymmetric, put, insert, is_sorted, same_map, entries, entries_sorted, entries-insert, from_entries, from_sorted, len, len-entries, get-entries, get-from_entries, entries-from_sorted, get-from_sorted}

pub both : (a b : Bool) → T a → T b → T (a && b)
both true b p q = q
both false b p q = p

pub first : (a b : Bool) → T (a && b) → T a
first true b p = tt
first false b p = p

pub second : (a b : Bool) → T (a && b) → T b
second true b p = p
second false b p = absurd p

pub less : (o : Ordering) → T (is_lt o) → o ≡ Less
less Less p = refl
less Equal p = absurd p
less Greater p = absurd p

pub T-true : (b : Bool) → b ≡ true → T b
T-true true e = tt
T-true false e = cc

pub true-T : (b : Bool) → T b → b ≡ true
true-T true h = refl
true-T false h = absurd h

module _ {K X : Type 0} (R : K → K → Ordering) (o : IsTotalOrder R) (one : IsAntisymmetric R) where
  -- rows in order are the map's own
  made-sorted : (es : List (K × X)) → T (is_sorted R es) → from_entries {R = R} es ≡ from_sorted es
  made-sorted es h = same_map o one _ _ (λ q. get-from_entries o es q ∙ sym (get-from_sorted R es q h))

  pub entries-made : (es : List (K × X)) → T (is_sorted R es) → entries (from_entries {R = R} es) ≡ es
  entries-made es h = ap entries (made-sorted es h) ∙ entries-from_sorted R es h

  pub len-made : (es : List (K × X)) → T (is_sorted R es) → len (from_entries {R = R} es) ≡ length es
  len-made es h = len-entries (from_entries {R = R} es) ∙ ap length (entries-made es h)

  pub entries-put : (es : List (K × X)) (k : K) (v : X) → T (is_sorted R es) → entries (insert (from_entries {R = R} es) k v) ≡ put R k v es
  entries-put es k v h = entries-insert o (from_entries {R = R} es) k v ∙ ap (put R k v) (entries-made es h)

  pub sorted-put : (es : List (K × X)) (k : K) (v : X) → T (is_sorted R es) → T (is_sorted R (put R k v es))
  sorted-put es k v h = subst (λ x. T (is_sorted R x)) (entries-put es k v h) (entries_sorted (insert (from_entries {R = R} es) k v))

  pub made_entries : (m : FinMap R X) → from_entries (entries m) ≡ m
  made_entries m = same_map o one _ _ (λ q. get-from_entries o (entries m) q ∙ sym (get-entries m q))

  pub made-put : (es : List (K × X)) (k : K) (v : X) → T (is_sorted R es) → from_entries {R = R} (put R k v es) ≡ insert (from_entries es) k v
  made-put es k v h = ap from_entries (sym (entries-put es k v h)) ∙ made_entries (insert (from_entries es) k v)

-- ---- what a map of the library keeps, seen by other keys and values
module _ {K L X Y : Type 0} (R : K → K → Ordering) (S : L → L → Ordering) (f : K → L) (g : X → Y) (alike : (x y : K) → S (f x) (f y) ≡ R x y) where
  abbrev seen : List (K × X) → List (L × Y)
  seen es = map (λ (e : K × X). (f e.0, g e.1)) es

  seen-cons : (e : K × X) (es : List (K × X)) (k : K) (v : X) → seen (insert_entry R es k v) ≡ put S (f k) (g v) (seen es)
      → (r : Ordering) → R k e.0 ≡ r → seen (insert_entry R (e ∷ es) k v) ≡ put S (f k) (g v) (seen (e ∷ es))
  seen-cons e es k v rest Less h = let i : S (f k) (f e.0) ≡ Less = alike k e.0 ∙ h in rw (h, i) refl
  seen-cons e es k v rest Equal h = let i : S (f k) (f e.0) ≡ Equal = alike k e.0 ∙ h in rw (h, i) refl
  seen-cons e es k v rest Greater h = let i : S (f k) (f e.0) ≡ Greater = alike k e.0 ∙ h in rw (h, i) (ap (λ (x : List (L × Y)). (f e.0, g e.1) ∷ x) rest)

  pub seen-insert : (es : List (K × X)) (k : K) (v : X) → seen (insert_entry R es k v) ≡ put S (f k) (g v) (seen es)
  seen-insert [] k v = refl
  seen-insert (e ∷ es) k v = seen-cons e es k v (seen-insert es k v) (R k e.0) refl

-- ---- a last row
-- x is below the keys of these rows, as `is_sorted` has it
abbrev pub is_below : {K X : Type 0} → (K → K → Ordering) → K → List (K × X) → Bool
is_below R x es = list_all (λ e. is_lt (R x e.0)) es

module _ {K X : Type 0} (R : K → K → Ordering) (o : IsTotalOrder R) (one : IsAntisymmetric R) where
  -- what stands in the middle of rows in order is above what comes before it
  above-first : (x : K) (es : List (K × X)) (k : K) (v : X) (rest : List (K × X)) → T (is_below R x (es ++ (k, v) ∷ rest)) → R x k ≡ Less
  above-first x [] k v rest h = less (R x k) (first (is_lt (R x k)) (is_below R x rest) h)
  above-first x (e ∷ es) k v rest h = above-first x es k v rest (second (is_lt (R x e.0)) (is_below R x (es ++ (k, v) ∷ rest)) h)

  -- so it is put behind them
  pub put-last : (es : List (K × X)) (k : K) (v : X) (rest : List (K × X)) → T (is_sorted R (es ++ (k, v) ∷ rest)) → put R k v es ≡ es ++ (k, v) ∷ []
  put-last [] k v rest h = refl
  put-last (e ∷ es) k v rest h =
      let lower : R e.0 k ≡ Less = above-first e.0 es k v rest (first (is_below R e.0 (es ++ (k, v) ∷ rest)) (is_sorted R (es ++ (k, v) ∷ rest)) h) in
      let turn : R k e.0 ≡ Greater = o.antisymm k e.0 ∙ ap ordering_reverse lower in
      rw turn (ap (λ (x : List (K × X)). e ∷ x) (put-last es k v rest (second (is_below R e.0 (es ++ (k, v) ∷ rest)) (is_sorted R (es ++ (k, v) ∷ rest)) h)))

  below-before : (x : K) (es fs : List (K × X)) → T (is_below R x (es ++ fs)) → T (is_below R x es)
  below-before x [] fs h = tt
  below-before x (e ∷ es) fs h = both (is_lt (R x e.0)) (is_below R x es) (first (is_lt (R x e.0)) (is_below R x (es ++ fs)) h) (below-before x es fs (second (is_lt (R x e.0)) (is_below R x (es ++ fs)) h))

  pub sorted-before : (es fs : List (K × X)) → T (is_sorted R (es ++ fs)) → T (is_sorted R es)
  sorted-before [] fs h = tt
  sorted-before (e ∷ es) fs h =
      both (is_below R e.0 es) (is_sorted R es) (below-before e.0 es fs (first (is_below R e.0 (es ++ fs)) (is_sorted R (es ++ fs)) h))
      (sorted-before es fs (second (is_below R e.0 (es ++ fs)) (is_sorted R (es ++ fs)) h))

  pub sorted-after : (es fs : List (K × X)) → T (is_sorted R (es ++ fs)) → T (is_sorted R fs)
  sorted-after [] fs h = h
  sorted-after (e ∷ es) fs h = sorted-after es fs (second (is_below R e.0 (es ++ fs)) (is_sorted R (es ++ fs)) h)

  -- one row more of a list in order
  pub entries-insert_last : (es : List (K × X)) (k : K) (v : X) (rest : List (K × X)) → T (is_sorted R (es ++ (k, v) ∷ rest)) → entries (insert (from_entries {R = R} es) k v) ≡ es ++ (k, v) ∷ []
  entries-insert_last es k v rest h = entries-put R o one es k v (sorted-before es ((k, v) ∷ rest) h) ∙ put-last es k v rest h
