-- Searches by halves among keys that rise.
use Rattle.std.proofs.Common.{◌≡◌, ◌∙◌, ℕ, zero, suc, ◌<◌, ◌≤◌, ◌+◌, Bool, true, false, cond, not, ◌&&◌, ◌||◌, List, [], ◌∷◌, ◌++◌, map, length, get_or, Result, Ok, Err, refl, sym, ap, subst, ◌⊎◌, inl, inr, arith, length-append}
use Rattle.std.specs.Prelude.{is_ok, nat_eq}
use Rattle.std.specs.declared.cmp.Ordering.{Ordering}
use Rattle.std.specs.declared.cmp.Ordering.TheVariants.{Less, Equal, Greater}
use Rattle.std.specs.Ordering.{is_lt, ordering_index, ordering_reverse, ordering_then, nat_cmp}
use Rattle.std.specs.Cmp.{IsTotalOrder, tied_itself, both_ways}
use Rattle.std.specs.FinMap.{IsAntisymmetric, nat_cmp-IsAntisymmetric}
use Rattle.std.specs.List.{list_any, starts_with}
use Rattle.std.specs.List.Sorted.{IsSearchInRange, IsBinarySearchResult, IsNonDecreasingBy, IsStrictlySortedBy}
use Rattle.std.proofs.lemmas.Bool.{cases_lt}
use Rattle.std.proofs.lemmas.Cmp.{nat_cmp_total}
use Rattle.std.proofs.lemmas.List.{length-map}
use Rattle.std.proofs.lemmas.List.Sorted.{searchable_from_sorted}
use Rattle.std.proofs.lemmas.Map.Keys.{Less-from_sorted}
use Rattle.std.proofs.lemmas.Slice.Eq.{starts_is}
use Rattle.zarr_path.specs.Paths.{path_cmp, same_path, root, folder, is_within, is_beneath}
use Rattle.zarr_path.proofs.OrderLaws.{total, exact, same_path-refl, same_path-true}
use Rattle.zarr_path.proofs.PathLaws.{by_numbers}
use Rattle.conflicts.proofs.Members.{In, any-in, in-any}

module _ {A K : Type 0} {R : K → K → Ordering} (o : IsTotalOrder R) (one : IsAntisymmetric R) (key : A → K) where
  get-map : (xs : List A) (i : ℕ) (d : A) → get_or (map key xs) i (key d) ≡ key (get_or xs i d)
  get-map [] i d = refl
  get-map (x ∷ xs) zero d = refl
  get-map (x ∷ xs) (suc i) d = get-map xs i d

  -- earlier keys are lower
  pub lower : (xs : List A) (i j : ℕ) (d : A) → IsStrictlySortedBy R (map key xs) → i < j → j < length xs → R (key (get_or xs i d)) (key (get_or xs j d)) ≡ Less
  lower xs i j d s lt within = (λ k. R (sym (get-map xs i d) k) (sym (get-map xs j d) k)) ∙ Less-from_sorted R (map key xs) i j (key d) s lt (rw length-map within)

  rises : (xs : List A) (q : K) → IsStrictlySortedBy R (map key xs) → IsNonDecreasingBy (λ x. ordering_index (R (key x) q)) xs
  rises xs q s = searchable_from_sorted o key xs q (λ k d low lt.
      let below : R (key (get_or xs k d)) (key (get_or xs (k + 1) d)) ≡ Less = lower xs k (k + 1) d s (omega arith) lt in
      ap is_lt (o.antisymm (key (get_or xs (k + 1) d)) (key (get_or xs k d)) ∙ ap ordering_reverse below))

  -- all before a place are lower than the key, and all from there on higher
  pub halved : (xs : List A) (q : K) (at : ℕ) → IsStrictlySortedBy R (map key xs) → IsBinarySearchResult (λ x. R (key x) q) xs (Err at)
      → ((k : ℕ) (d : A) → k < at → R (key (get_or xs k d)) q ≡ Less) × ((k : ℕ) (d : A) → at ≤ k → k < length xs → R (key (get_or xs k d)) q ≡ Greater)
  halved xs q at s found = let split = found (rises xs q s) in ((λ k d lt. split.0 k d (omega arith) lt), split.1)

  -- so none has the key
  pub apart : (xs : List A) (q : K) (at : ℕ) → IsStrictlySortedBy R (map key xs) → IsBinarySearchResult (λ x. R (key x) q) xs (Err at) → (k : ℕ) (d : A) → k < length xs → R (key (get_or xs k d)) q ≡ Equal → ⊥
  apart xs q at s found k d lt e =
      let h = halved xs q at s found in
      elim (cases_lt k at) [ inl below ↦ let less = h.0 k d below in cc | inr from ↦ let greater = h.1 k d from lt in cc ]

in-get : {A : Type 0} (xs : List A) (x : A) → In xs x → (k : ℕ) × (k < length xs) × ((d : A) → get_or xs k d ≡ x)
in-get [] x h = absurd h
in-get (y ∷ ys) x (inl e) = (0, omega arith, λ d. e)
in-get (y ∷ ys) x (inr h) = let r = in-get ys x h in (suc r.0, omega (arith, r.1), λ d. r.2 d)

get-in : {A : Type 0} (xs : List A) (k : ℕ) (d : A) → k < length xs → In xs (get_or xs k d)
get-in [] k d lt = absurd (omega arith)
get-in (x ∷ xs) zero d lt = inl refl
get-in (x ∷ xs) (suc k) d lt = inr (get-in xs k d (omega arith))

-- ---- paths
paths-same : (paths : List (List ℕ)) → map (λ (p : List ℕ). p) paths ≡ paths
paths-same [] = refl
paths-same (x ∷ xs) = ap (λ (ys : List (List ℕ)). x ∷ ys) (paths-same xs)

pub searched-paths : (paths : List (List ℕ)) (p : List ℕ) (r : Result ℕ ℕ) → IsStrictlySortedBy path_cmp paths → IsSearchInRange r (length paths) → IsBinarySearchResult (λ x. path_cmp x p) paths r
    → is_ok r ≡ list_any (same_path p) paths
searched-paths paths p (Ok at) s bound found =
    let here : get_or paths at p ≡ p = exact (get_or paths at p) p (found p) in
    sym (in-any (same_path p) paths (get_or paths at p) (get-in paths at p bound) (ap (same_path p) here ∙ same_path-refl p))
searched-paths paths p (Err at) s bound found = none (list_any (same_path p) paths) refl
  where
    none : (b : Bool) → list_any (same_path p) paths ≡ b → false ≡ b
    none false e = refl
    none true e =
        let m = any-in (same_path p) paths e in
        let k = in-get paths m.0 m.1 in
        let tied : path_cmp (get_or paths k.0 p) p ≡ Equal = ap (λ (x : List ℕ). path_cmp x p) (k.2 p ∙ sym (same_path-true p m.0 m.2)) ∙ tied_itself total p in
        absurd (apart total exact (λ (x : List ℕ). x) paths p at (subst (IsStrictlySortedBy path_cmp) (sym (paths-same paths)) s) found k.0 p k.1 tied)

-- ---- texts that begin with another
abbrev begins : List ℕ → List ℕ → Bool
begins folder text = starts_with nat_eq text folder

begun : (folder text : List ℕ) → begins folder text ≡ true → (rest : List ℕ) × (text ≡ folder ++ rest)
begun folder text h = (_, (starts_is by_numbers text folder _ refl).0 h)

begin : (folder rest : List ℕ) → begins folder (folder ++ rest) ≡ true
begin folder rest = (starts_is by_numbers (folder ++ rest) folder _ refl).1 rest refl

number-tied : (a b : ℕ) → nat_cmp a b ≡ Equal → a ≡ b
number-tied = nat_cmp-IsAntisymmetric

-- what stands between a text and one that begins with it begins with it
between : (folder text rest : List ℕ) → (path_cmp text folder ≡ Less → ⊥) → (path_cmp text (folder ++ rest) ≡ Greater → ⊥) → (r : List ℕ) × (text ≡ folder ++ r)
between [] text rest h f = (text, refl)
between (x ∷ xs) [] rest h f = absurd (h refl)
between (x ∷ xs) (y ∷ ys) rest h f = by_order (λ k l. between xs ys rest k l) (nat_cmp y x) refl h f
  where
    by_order : ((path_cmp ys xs ≡ Less → ⊥) → (path_cmp ys (xs ++ rest) ≡ Greater → ⊥) → (r : List ℕ) × (ys ≡ xs ++ r)) → (o : Ordering) → nat_cmp y x ≡ o → (ordering_then o (path_cmp ys xs) ≡ Less → ⊥) → (ordering_then o (path_cmp ys (xs ++ rest)) ≡ Greater → ⊥) → (r : List ℕ) × (y ∷ ys ≡ x ∷ (xs ++ r))
    by_order more Less e k l = absurd (k refl)
    by_order more Greater e k l = absurd (l refl)
    by_order more Equal e k l = let r = more k l in (r.0, λ i. number-tied y x e i ∷ r.1 i)

-- what begins with a text doesn't stand before it
not-before : (folder rest : List ℕ) → path_cmp (folder ++ rest) folder ≡ Less → ⊥
not-before [] [] h = cc
not-before [] (x ∷ xs) h = cc
not-before (x ∷ xs) rest h = not-before xs rest (ap (λ o. ordering_then o (path_cmp (xs ++ rest) xs)) (sym (tied_itself nat_cmp_total x)) ∙ h)

module _ {A : Type 0} (key : A → List ℕ) (texts : List A) (folder : List ℕ) (at : ℕ) (s : IsStrictlySortedBy path_cmp (map key texts))
    (low : (k : ℕ) (d : A) → k < at → path_cmp (key (get_or texts k d)) folder ≡ Less) (high : (k : ℕ) (d : A) → at ≤ k → k < length texts → path_cmp (key (get_or texts k d)) folder ≡ Less → ⊥) where
  -- one that begins with the text doesn't stand before the place
  from_place : (k : ℕ) (x : A) → k < length texts → ((d : A) → get_or texts k d ≡ x) → begins folder (key x) ≡ true → at ≤ k
  from_place k x lt is b = elim (cases_lt k at) [
    | inl below ↦
        let r = begun folder (key x) b in
        absurd (not-before folder r.0 (ap (λ t. path_cmp t folder) (sym r.1) ∙ ap (λ (y : A). path_cmp (key y) folder) (sym (is x)) ∙ low k x below))
    | inr from ↦ from
  ]

  first_begins : (d : A) → list_any (λ (x : A). begins folder (key x)) texts ≡ true → at < length texts → begins folder (key (get_or texts at d)) ≡ true
  first_begins d h lt =
      let m = any-in (λ (x : A). begins folder (key x)) texts h in
      let k = in-get texts m.0 m.1 in
      let r = begun folder (key m.0) m.2 in
      elim (cases_lt at k.0) [
        | inl below ↦
            let rises_to : path_cmp (key (get_or texts at d)) (folder ++ r.0) ≡ Less = ap (path_cmp (key (get_or texts at d))) (sym (ap key (k.2 d) ∙ r.1)) ∙ lower total exact key texts at k.0 d s below k.1 in
            let z = between folder (key (get_or texts at d)) r.0 (high at d (omega arith) lt) (λ e. cc) in
            ap (begins folder) z.1 ∙ begin folder z.0
        | inr from ↦
            let reached : at ≤ k.0 = from_place k.0 m.0 k.1 k.2 m.2 in
            let same : at ≡ k.0 = omega (arith, from, reached) in
            ap (λ j. begins folder (key (get_or texts j d))) same ∙ ap (λ (x : A). begins folder (key x)) (k.2 d) ∙ m.2
      ]

  -- the one at the place tells whether any begins with the text
  pub place_tells : (d : A) → at < length texts → begins folder (key (get_or texts at d)) ≡ list_any (λ (x : A). begins folder (key x)) texts
  place_tells d lt = both_ways _ _ (λ h. in-any (λ (x : A). begins folder (key x)) texts (get_or texts at d) (get-in texts at d lt) h) (λ h. first_begins d h lt)

  -- and where none stands there, none does
  pub none_begins : length texts ≤ at → false ≡ list_any (λ (x : A). begins folder (key x)) texts
  none_begins le = by_any (list_any (λ (x : A). begins folder (key x)) texts) refl
    where
      by_any : (b : Bool) → list_any (λ (x : A). begins folder (key x)) texts ≡ b → false ≡ b
      by_any false e = refl
      by_any true e =
          let m = any-in (λ (x : A). begins folder (key x)) texts e in
          let k = in-get texts m.0 m.1 in
          absurd (omega (arith, from_place k.0 m.0 k.1 k.2 m.2, k.1, le))

-- what a search answers, as such a place
module _ {A : Type 0} (key : A → List ℕ) (texts : List A) (folder : List ℕ) (s : IsStrictlySortedBy path_cmp (map key texts)) where
  pub place_low : (at : ℕ) (r : Result ℕ ℕ) → (r ≡ Ok at) ⊎ (r ≡ Err at) → IsSearchInRange r (length texts) → IsBinarySearchResult (λ (x : A). path_cmp (key x) folder) texts r → (k : ℕ) (d : A) → k < at → path_cmp (key (get_or texts k d)) folder ≡ Less
  place_low at (Ok i) (inl e) bound found k d lt =
      let is : i ≡ at = cc e in
      ap (path_cmp (key (get_or texts k d))) (sym (exact (key (get_or texts i d)) folder (found d))) ∙ lower total exact key texts k i d s (omega arith) bound
  place_low at (Ok i) (inr e) bound found k d lt = cc
  place_low at (Err i) (inl e) bound found k d lt = cc
  place_low at (Err i) (inr e) bound found k d lt = let is : i ≡ at = cc e in (halved total exact key texts folder i s found).0 k d (omega arith)

  pub place_high : (at : ℕ) (r : Result ℕ ℕ) → (r ≡ Ok at) ⊎ (r ≡ Err at) → IsSearchInRange r (length texts) → IsBinarySearchResult (λ (x : A). path_cmp (key x) folder) texts r → (k : ℕ) (d : A) → at ≤ k → k < length texts → path_cmp (key (get_or texts k d)) folder ≡ Less → ⊥
  place_high at (Ok i) (inl e) bound found k d le lt below =
      let is : i ≡ at = cc e in
      let here : key (get_or texts i d) ≡ folder = exact (key (get_or texts i d)) folder (found d) in
      elim (cases_lt i k) [
        | inl behind ↦
            let rises_to : path_cmp folder (key (get_or texts k d)) ≡ Less = ap (λ t. path_cmp t (key (get_or texts k d))) (sym here) ∙ lower total exact key texts i k d s behind lt in
            let back : path_cmp (key (get_or texts k d)) folder ≡ Greater = total.antisymm (key (get_or texts k d)) folder ∙ ap ordering_reverse rises_to in
            cc
        | inr from ↦
            let same : i ≡ k = omega (arith, from, le, is) in
            let tied : path_cmp (key (get_or texts k d)) folder ≡ Equal = ap (λ j. path_cmp (key (get_or texts j d)) folder) (sym same) ∙ found d in
            cc
      ]
  place_high at (Ok i) (inr e) bound found k d le lt below = cc
  place_high at (Err i) (inl e) bound found k d le lt below = cc
  place_high at (Err i) (inr e) bound found k d le lt below =
      let is : i ≡ at = cc e in
      let above : path_cmp (key (get_or texts k d)) folder ≡ Greater = (halved total exact key texts folder i s found).1 k d (omega arith) lt in
      cc

-- ---- paths beneath a path
-- what is beneath a path other than `/` begins with it and a slash
pub beneath-begins : (p q : List ℕ) → same_path p root ≡ false → is_beneath p q ≡ begins (p ++ 47 ∷ []) q
unfolding is_within
beneath-begins p q other = by_same (same_path q p) refl
  where
    longer : (xs ys : List ℕ) → length xs < length ys → xs ≡ ys → ⊥
    longer xs ys lt e = let same : length xs ≡ length ys = ap length e in omega arith

    no_end : (b : Bool) → begins (p ++ 47 ∷ []) p ≡ b → false ≡ b
    no_end false e = refl
    no_end true e =
        let r = begun (p ++ 47 ∷ []) p e in
        absurd (longer p ((p ++ 47 ∷ []) ++ r.0) (omega (arith, length-append (p ++ 47 ∷ []) r.0, length-append p (47 ∷ []))) r.1)

    by_same : (b : Bool) → same_path q p ≡ b → ((b || starts_with nat_eq q (folder p)) && not b) ≡ begins (p ++ 47 ∷ []) q
    by_same true e = no_end (begins (p ++ 47 ∷ []) p) refl ∙ ap (begins (p ++ 47 ∷ [])) (sym (same_path-true q p e))
    by_same false e = and_true (starts_with nat_eq q (folder p)) ∙ ap (λ b. starts_with nat_eq q (cond b root (p ++ 47 ∷ []))) other
      where
        and_true : (b : Bool) → (b && true) ≡ b
        and_true true = refl
        and_true false = refl
