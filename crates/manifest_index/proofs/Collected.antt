-- The entries of a map as chunks in order.
use Rattle.std.proofs.Common.{◌≡◌, ℕ, Bool, true, false, cond, List, [], ◌∷◌, map, Option, Some, None, option_map, refl, sym, ap, ◌∙◌}
use Rattle.std.specs.Prelude.{find, bytes_eq}
use Rattle.std.specs.declared.cmp.Ordering.TheVariants.{Less}
use Rattle.std.specs.Ordering.{is_lt}
use Rattle.std.specs.List.{AllByRecursion}
use Rattle.std.specs.List.Sorted.{IsStrictlySortedBy}
use Rattle.std.specs.Map.{lookup, keys_of}
use Rattle.std.specs.BTreeMap.{is_at}
use Rattle.std.specs.Cmp.{both_ways}
use Rattle.std.proofs.lemmas.Map.Text.{is_eq-slice_cmp}
use Rattle.std.proofs.lemmas.Slice.Eq.{bytes_eq-Decides}
use Rattle.zarr_path.specs.Indices.{index_cmp}
use Rattle.flat_tables.specs.Rows.{follows, Ascends}
use Rattle.manifest_file.specs.declared.manifest.Place.{Place}
use Rattle.manifest_file.specs.declared.manifest.ChunkRef.{ChunkRef}
use Rattle.manifest_file.specs.Manifests.{ref_key}
use Rattle.held_manifest.specs.LookUp.{place_of}
use Rattle.manifest_index.specs.Merging.{entry_chunk}

abbrev pub Entries : Type 0
Entries = List (List ℕ × Place)

abbrev pub rows_of : Entries → List ChunkRef
rows_of es = map entry_chunk es

-- ---- in order

any_first : (ks : List (List ℕ)) → AllByRecursion (λ k. follows None k ≡ true) ks
any_first [] = tt
any_first (k ∷ ks) = (refl, any_first ks)

each_behind : (before : List ℕ) (ks : List (List ℕ)) → AllByRecursion (λ k. index_cmp before k ≡ Less) ks → AllByRecursion (λ k. follows (Some before) k ≡ true) ks
each_behind before [] h = tt
each_behind before (k ∷ ks) h = (ap is_lt h.0, each_behind before ks h.1)

rows_behind : (before : Option (List ℕ)) (es : Entries) → AllByRecursion (λ k. follows before k ≡ true) (keys_of es) → IsStrictlySortedBy index_cmp (keys_of es) → Ascends ref_key before (rows_of es)
unfolding IsStrictlySortedBy
rows_behind before [] behind sorted = tt
rows_behind before (e ∷ es) behind sorted = (behind.0, rows_behind (Some e.0) es (each_behind e.0 (keys_of es) sorted.0) sorted.1)

pub rows_ascend : (es : Entries) → IsStrictlySortedBy index_cmp (keys_of es) → Ascends ref_key None (rows_of es)
rows_ascend es sorted = rows_behind None es (any_first (keys_of es)) sorted

-- ---- what is found

pub same_back : (xs ys : List ℕ) → bytes_eq xs ys ≡ bytes_eq ys xs
same_back xs ys =
    both_ways _ _
    (λ e. ap (λ (z : List ℕ). bytes_eq z xs) (sym ((bytes_eq-Decides xs ys).0 e)) ∙ itself xs)
    (λ e. ap (λ (z : List ℕ). bytes_eq z ys) (sym ((bytes_eq-Decides ys xs).0 e)) ∙ itself ys)
  where
    itself : (zs : List ℕ) → bytes_eq zs zs ≡ true
    itself zs = (bytes_eq-Decides zs zs).1 refl

pub rows_found : (es : Entries) (q : List ℕ) → place_of q (rows_of es) ≡ lookup (is_at (index_cmp q)) es
rows_found [] q = refl
rows_found (e ∷ es) q =
    by_test (bytes_eq e.0 q) (rows_found es q)
    ∙ ap (λ b. cond b (Some e.1) (lookup (is_at (index_cmp q)) es)) (same_back e.0 q ∙ sym (is_eq-slice_cmp q e.0))
  where
    by_test : (b : Bool) → place_of q (rows_of es) ≡ lookup (is_at (index_cmp q)) es
        → option_map (λ (r : ChunkRef). r.place) (cond b (Some (entry_chunk e)) (find (λ (r : ChunkRef). bytes_eq r.index q) (rows_of es))) ≡ cond b (Some e.1) (lookup (is_at (index_cmp q)) es)
    by_test true h = refl
    by_test false h = h
