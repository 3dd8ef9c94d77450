-- A search by halves in rows that ascend.
use Rattle.std.proofs.Common.{◌≡◌, ℕ, zero, suc, ◌+◌, ◌<◌, ◌≤◌, true, false, List, [], ◌∷◌, length, Option, None, Some, refl, sym, ap, subst, ◌∙◌, arith, inl, inr}
use Rattle.std.specs.Prelude.{slice_get, find, bytes_eq}
use Rattle.std.specs.Ordering.{nat_cmp, is_lt, ordering_reverse}
use Rattle.std.proofs.Common.{Ordering}
use Rattle.std.specs.declared.cmp.Ordering.TheVariants.{Less, Equal, Greater}
use Rattle.std.specs.Cmp.Lexicographic.{slice_cmp}
use Rattle.std.specs.FinMap.{slice_cmp-IsAntisymmetric, nat_cmp-IsAntisymmetric}
use Rattle.std.proofs.lemmas.Bool.{cases_lt}
use Rattle.std.proofs.lemmas.Cmp.{nat_list_cmp_total}
use Rattle.std.proofs.lemmas.Option.{slice_get_within}
use Rattle.flat_tables.specs.Rows.{Ascends}
use Rattle.held_manifest.proofs.Numbers.{same_test}

abbrev cmp : List ℕ → List ℕ → Ordering
cmp a b = slice_cmp nat_cmp a b

less_is : (o : Ordering) → is_lt o ≡ true → o ≡ Less
less_is Less h = refl
less_is Equal h = absurd cc
less_is Greater h = absurd cc

some_is : {A : Type 0} (x y : A) → (let o : Option A = Some x in o) ≡ Some y → x ≡ y
some_is x y e = cc

turned : (a b : List ℕ) → cmp a b ≡ Greater → cmp b a ≡ Less
turned a b h = nat_list_cmp_total.antisymm b a ∙ ap ordering_reverse h

turned_back : (a b : List ℕ) → cmp a b ≡ Less → cmp b a ≡ Greater
turned_back a b h = nat_list_cmp_total.antisymm b a ∙ ap ordering_reverse h

-- rows that stand behind a key are above it
above_key : {A : Type 0} (key : A → List ℕ) (before : List ℕ) (xs : List A) (k : ℕ) (y : A) → Ascends key (Some before) xs → slice_get xs k ≡ Some y → cmp before (key y) ≡ Less
above_key key before [] k y ascend at = absurd cc
above_key {A = A} key before (x ∷ xs) zero y ascend at = subst (λ (z : A). cmp before (key z) ≡ Less) (some_is x y at) (less_is (cmp before (key x)) ascend.0)
above_key key before (x ∷ xs) (suc k) y ascend at =
    nat_list_cmp_total.trans before (key x) (key y) (less_is (cmp before (key x)) ascend.0) (above_key key (key x) xs k y ascend.1 at)

-- each row is below each later one
ascends_far : {A : Type 0} (key : A → List ℕ) (before : Option (List ℕ)) (xs : List A) (j k : ℕ) (x y : A) → Ascends key before xs → j < k → slice_get xs j ≡ Some x → slice_get xs k ≡ Some y → cmp (key x) (key y) ≡ Less
ascends_far key before [] j k x y ascend lt at there = absurd cc
ascends_far key before (z ∷ xs) j zero x y ascend lt at there = absurd (omega arith)
ascends_far {A = A} key before (z ∷ xs) zero (suc k) x y ascend lt at there =
    subst (λ (w : A). cmp (key w) (key y) ≡ Less) (some_is z x at) (above_key key (key z) xs k y ascend.1 there)
ascends_far key before (z ∷ xs) (suc j) (suc k) x y ascend lt at there = ascends_far key (Some (key z)) xs j k x y ascend.1 (omega arith) at there

-- ---- the part of the rows that is left

pub record Narrowed {A : Type 0} (key : A → List ℕ) (rows : List A) (wanted : List ℕ) (low high : ℕ) : Type 0 where
  pub ends : low ≤ high
  pub within : high ≤ length rows
  pub below : (k : ℕ) (x : A) → k < low → slice_get rows k ≡ Some x → cmp (key x) wanted ≡ Less
  pub above : (k : ℕ) (x : A) → high ≤ k → slice_get rows k ≡ Some x → cmp (key x) wanted ≡ Greater

pub whole : {A : Type 0} (key : A → List ℕ) (rows : List A) (wanted : List ℕ) (high : ℕ) → high ≡ length rows → Narrowed key rows wanted 0 high
whole key rows wanted high len = record {
  ends = omega arith;
  within = omega (arith, len);
  below = λ k x lt at. absurd (omega arith);
  above = λ k x le at. let within = slice_get_within rows k x at in absurd (omega (arith, within, len));
}

pub upper_half : {A : Type 0} (key : A → List ℕ) (rows : List A) (wanted : List ℕ) (low high m : ℕ) (y : A) → Ascends key None rows → Narrowed key rows wanted low high → m < high → slice_get rows m ≡ Some y → cmp (key y) wanted ≡ Less → Narrowed key rows wanted (m + 1) high
upper_half {A = A} key rows wanted low high m y ascend n lt at less = record {
  ends = omega arith;
  within = n.within;
  below = λ k x before there. elim (cases_lt k m) [
    | inl under ↦ nat_list_cmp_total.trans (key x) (key y) wanted (ascends_far key None rows k m x y ascend under there at) less
    | inr ge ↦
        let e : m ≡ k = omega arith in
        let same = some_is y x (sym at ∙ ap (slice_get rows) e ∙ there) in
        subst (λ (z : A). cmp (key z) wanted ≡ Less) same less
  ];
  above = n.above;
}

pub lower_half : {A : Type 0} (key : A → List ℕ) (rows : List A) (wanted : List ℕ) (low high m : ℕ) (y : A) → Ascends key None rows → Narrowed key rows wanted low high → low ≤ m → m < high → slice_get rows m ≡ Some y → cmp (key y) wanted ≡ Greater → Narrowed key rows wanted low m
lower_half {A = A} key rows wanted low high m y ascend n le lt at more = record {
  ends = le;
  within = omega (arith, n.within);
  below = n.below;
  above = λ k x behind there. elim (cases_lt m k) [
    | inl under ↦ turned_back wanted (key x) (nat_list_cmp_total.trans wanted (key y) (key x) (turned (key y) wanted more) (ascends_far key None rows m k y x ascend under at there))
    | inr ge ↦
        let e : m ≡ k = omega arith in
        let same = some_is y x (sym at ∙ ap (slice_get rows) e ∙ there) in
        subst (λ (z : A). cmp (key z) wanted ≡ Greater) same more
  ];
}

-- ---- what was found

test_less : (a b : List ℕ) → cmp a b ≡ Less → bytes_eq a b ≡ false
test_less a b h = sym (same_test a b Less (sym h))

test_greater : (a b : List ℕ) → cmp a b ≡ Greater → bytes_eq a b ≡ false
test_greater a b h = sym (same_test a b Greater (sym h))

test_equal : (a b : List ℕ) → cmp a b ≡ Equal → bytes_eq a b ≡ true
test_equal a b h = sym (same_test a b Equal (sym h))

pub found_at : {A : Type 0} (key : A → List ℕ) (before : Option (List ℕ)) (rows : List A) (wanted : List ℕ) (m : ℕ) (x : A) → Ascends key before rows → slice_get rows m ≡ Some x → cmp (key x) wanted ≡ Equal → find (λ y. bytes_eq (key y) wanted) rows ≡ Some x
found_at key before [] wanted m x ascend at same = absurd cc
found_at {A = A} key before (y ∷ ys) wanted zero x ascend at same =
    let is = some_is y x at in
    let here : bytes_eq (key y) wanted ≡ true = subst (λ (z : A). bytes_eq (key z) wanted ≡ true) (sym is) (test_equal (key x) wanted same) in
    rw here at
found_at key before (y ∷ ys) wanted (suc m) x ascend at same =
    let is : key x ≡ wanted = slice_cmp-IsAntisymmetric nat_cmp-IsAntisymmetric (key x) wanted same in
    let less : cmp (key y) wanted ≡ Less = subst (λ (k : List ℕ). cmp (key y) k ≡ Less) is (above_key key (key y) ys m x ascend.1 at) in
    rw (test_less (key y) wanted less) (found_at key (Some (key y)) ys wanted m x ascend.1 at same)

nowhere : {A : Type 0} (key : A → List ℕ) (rows : List A) (wanted : List ℕ) → ((k : ℕ) (x : A) → slice_get rows k ≡ Some x → bytes_eq (key x) wanted ≡ false) → find (λ y. bytes_eq (key y) wanted) rows ≡ None
nowhere key [] wanted other = refl
nowhere key (y ∷ ys) wanted other = rw (other 0 y refl) (nowhere key ys wanted (λ k x at. other (suc k) x at))

pub not_found : {A : Type 0} (key : A → List ℕ) (rows : List A) (wanted : List ℕ) (low high : ℕ) → Narrowed key rows wanted low high → high ≤ low → find (λ y. bytes_eq (key y) wanted) rows ≡ None
not_found key rows wanted low high n le = nowhere key rows wanted (λ k x at. elim (cases_lt k low) [
  | inl under ↦ test_less (key x) wanted (n.below k x under at)
  | inr ge ↦ test_greater (key x) wanted (n.above k x (omega arith) at)
])
