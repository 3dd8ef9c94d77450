-- Entries in strict order: as a test and as a relation.
use Rattle.std.proofs.Common.{◌≡◌, ℕ, zero, suc, ◌<◌, Bool, true, false, cond, ◌&&◌, T, List, [], ◌∷◌, length, slice_index_or, Some, refl, sym, ap, subst, ◌∙◌, arith}
use Rattle.std.specs.declared.cmp.Ordering.{Ordering}
use Rattle.std.specs.declared.cmp.Ordering.TheVariants.{Less, Equal, Greater}
use Rattle.std.specs.Ordering.{is_lt, is_eq, ordering_reverse}
use Rattle.std.specs.List.{AllByRecursion}
use Rattle.std.specs.List.Sorted.{IsStrictlySortedBy}
use Rattle.std.specs.Map.{lookup, keys_of}
use Rattle.std.specs.BTreeMap.{is_at}
use Rattle.std.specs.FinMap.{is_sorted, find}
use Rattle.std.specs.FinMap.Entries.{below_all}
use Rattle.std.proofs.lemmas.Cmp.{nat_list_cmp_total, tied_itself}
use Rattle.zarr_path.specs.Indices.{index_cmp}
use Rattle.manifest_file.specs.declared.manifest.Place.{Place}
use Rattle.manifest_index.proofs.Collected.{Entries}

both_of : (a b : Bool) → T (a && b) → T a × T b
both_of true b h = (tt, h)
both_of false b h = absurd h

both_are : (a b : Bool) → T a → T b → T (a && b)
both_are true b h g = g
both_are false b h g = absurd h

less_is : (o : Ordering) → T (is_lt o) → o ≡ Less
less_is Less h = refl
less_is Equal h = absurd h
less_is Greater h = absurd h

less_tested : (o : Ordering) → o ≡ Less → T (is_lt o)
less_tested o e = subst (λ (x : Ordering). T (is_lt x)) (sym e) tt

-- ---- between the two

each_less : (k : List ℕ) (es : Entries) → T (below_all index_cmp k es) → AllByRecursion (λ x. index_cmp k x ≡ Less) (keys_of es)
each_less k [] h = tt
each_less k (e ∷ es) h =
    let both = both_of (is_lt (index_cmp k e.0)) (below_all index_cmp k es) h in
    (less_is (index_cmp k e.0) both.0, each_less k es both.1)

pub keys_sorted : (es : Entries) → T (is_sorted index_cmp es) → IsStrictlySortedBy index_cmp (keys_of es)
unfolding IsStrictlySortedBy
keys_sorted [] h = tt
keys_sorted (e ∷ es) h =
    let both = both_of (below_all index_cmp e.0 es) (is_sorted index_cmp es) h in
    (each_less e.0 es both.0, keys_sorted es both.1)

each_tested : (k : List ℕ) (es : Entries) → AllByRecursion (λ x. index_cmp k x ≡ Less) (keys_of es) → T (below_all index_cmp k es)
each_tested k [] h = tt
each_tested k (e ∷ es) h = both_are (is_lt (index_cmp k e.0)) (below_all index_cmp k es) (less_tested (index_cmp k e.0) h.0) (each_tested k es h.1)

pub sorted_tested : (es : Entries) → IsStrictlySortedBy index_cmp (keys_of es) → T (is_sorted index_cmp es)
unfolding IsStrictlySortedBy
sorted_tested [] h = tt
sorted_tested (e ∷ es) h = both_are (below_all index_cmp e.0 es) (is_sorted index_cmp es) (each_tested e.0 es h.0) (sorted_tested es h.1)

pub found_same : (es : Entries) (q : List ℕ) → lookup (is_at (index_cmp q)) es ≡ find index_cmp q es
found_same [] q = refl
found_same (e ∷ es) q = ap (cond (is_eq (index_cmp q e.0)) (Some e.1)) (found_same es q)

-- ---- an entry is found under its own index

less_at : (k : List ℕ) (es : Entries) (j : ℕ) (d : List ℕ × Place) → j < length es → AllByRecursion (λ x. index_cmp k x ≡ Less) (keys_of es) → index_cmp k (slice_index_or es j d).0 ≡ Less
less_at k [] j d below h = absurd (omega arith)
less_at k (e ∷ es) zero d below h = h.0
less_at k (e ∷ es) (suc j) d below h = less_at k es j d (omega (arith, below)) h.1

pub own_found : (es : Entries) (j : ℕ) (d : List ℕ × Place) → j < length es → IsStrictlySortedBy index_cmp (keys_of es) → find index_cmp (slice_index_or es j d).0 es ≡ Some (slice_index_or es j d).1
unfolding IsStrictlySortedBy
own_found [] j d below h = absurd (omega arith)
own_found (e ∷ es) zero d below h = ap (λ (o : Ordering). cond (is_eq o) (Some e.1) (find index_cmp e.0 es)) (tied_itself nat_list_cmp_total e.0)
own_found (e ∷ es) (suc j) d below h =
    let q : List ℕ = (slice_index_or es j d).0 in
    let greater : index_cmp q e.0 ≡ Greater = nat_list_cmp_total.antisymm q e.0 ∙ ap ordering_reverse (less_at e.0 es j d (omega (arith, below)) h.0) in
    ap (λ (o : Ordering). cond (is_eq o) (Some e.1) (find index_cmp q es)) greater ∙ own_found es j d (omega (arith, below)) h.1
