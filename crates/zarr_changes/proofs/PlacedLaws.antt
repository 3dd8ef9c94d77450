-- Entries that are put at once, and put back.
use Rattle.std.proofs.Common.{◌≡◌, ℕ, Bool, true, false, cond, List, [], ◌∷◌, ◌++◌, length, Option, Some, None, refl, sym, ap, ◌∙◌, arith}
use Rattle.std.specs.declared.cmp.Ordering.{Ordering}
use Rattle.std.specs.declared.cmp.Ordering.TheVariants.{Less, Equal, Greater}
use Rattle.std.specs.Ordering.{is_eq}
use Rattle.std.specs.Cmp.{IsTotalOrder, tied_itself}
use Rattle.std.specs.List.{AllByRecursion}
use Rattle.std.specs.List.Sorted.{IsStrictlySortedBy}
use Rattle.std.specs.Map.{keys_of, lookup, set_value, remove_entry}
use Rattle.std.specs.BTreeMap.{is_at, insert_entry}
use Rattle.std.proofs.lemmas.Map.{lookup-none}
use Rattle.std.proofs.lemmas.Map.Keys.{sorted_head, sorted_tail}
use Rattle.std.proofs.lemmas.Map.Entries.{none_below_head}
use Rattle.std.proofs.lemmas.Map.Steps.{set_value_same}
use Rattle.ice_ids.specs.declared.Id8.{Id8}
use Rattle.ice_ids.specs.Text.{id8_cmp}
use Rattle.zarr_path.specs.Indices.{index_cmp}
use Rattle.manifest_file.specs.declared.manifest.Place.{Place}
use Rattle.zarr_tree.specs.Touched.{IdsAscend, IndicesAscend}
use Rattle.zarr_tree.specs.Held.{HeldEntry}
use Rattle.zarr_changes.specs.declared.placing.Placed.{Placed}
use Rattle.zarr_changes.specs.declared.placing.Before.{Before}
use Rattle.zarr_changes.specs.Placing.{with_placed}
use Rattle.zarr_changes.specs.inside.Kept.{ChunkRows, array_rows, tagged, entry_rows}
use Rattle.zarr_changes.specs.inside.Placing.{rows_placed, put_back, all_back}
use Rattle.zarr_changes.proofs.IdLaws.{id_total}
use Rattle.zarr_changes.proofs.EntryLaws.{Kept, index_total, turned_down, all_above, insert_more}
use Rattle.zarr_changes.proofs.EntryKept.{Arrays, Chunks, all_of, arrays-ascend, rows-set, none_there, some_there, none_ascend}

-- ---- one entry more, and back
cons_sorted : {K : Type 0} (R : K → K → Ordering) (k : K) (ks : List K) → AllByRecursion (λ y. R k y ≡ Less) ks → IsStrictlySortedBy R ks → IsStrictlySortedBy R (k ∷ ks)
unfolding IsStrictlySortedBy
cons_sorted R k ks over h = (over, h)

module _ {K X : Type 0} (R : K → K → Ordering) (o : IsTotalOrder R) where
  -- one that was put where there was none is taken away
  taken_again : (es : List (K × X)) (k : K) (v : X) → lookup (is_at (R k)) es ≡ None → remove_entry (is_at (R k)) (insert_entry R es k v) ≡ es
  taken_again [] k v none = rw (tied_itself o k) refl
  taken_again (e ∷ es) k v none = by_order (taken_again es k v) (R k e.0) refl
    where
      by_order : (lookup (is_at (R k)) es ≡ None → remove_entry (is_at (R k)) (insert_entry R es k v) ≡ es) → (r : Ordering) → R k e.0 ≡ r → remove_entry (is_at (R k)) (insert_entry R (e ∷ es) k v) ≡ e ∷ es
      by_order rest Less g = rw (g, tied_itself o k) refl
      by_order rest Equal g =
          let bad : Some e.1 ≡ None = sym (ap (λ r. cond (is_eq r) (Some e.1) (lookup (is_at (R k)) es)) g) ∙ none in cc
      by_order rest Greater g = rw (g, g) (ap (λ (x : List (K × X)). e ∷ x) (rest (sym (ap (λ r. cond (is_eq r) (Some e.1) (lookup (is_at (R k)) es)) g) ∙ none)))

  -- one that took another's place gives it back
  set_again : (es : List (K × X)) (k : K) (v w : X) → IsStrictlySortedBy R (keys_of es) → lookup (is_at (R k)) es ≡ Some w → set_value (is_at (R k)) (insert_entry R es k v) w ≡ es
  set_again [] k v w h found = cc
  set_again (e ∷ es) k v w h found = by_order (set_again es k v w (sorted_tail R e.0 (keys_of es) h)) (R k e.0) refl
    where
      by_order : (lookup (is_at (R k)) es ≡ Some w → set_value (is_at (R k)) (insert_entry R es k v) w ≡ es) → (r : Ordering) → R k e.0 ≡ r → set_value (is_at (R k)) (insert_entry R (e ∷ es) k v) w ≡ e ∷ es
      by_order rest Less g =
          let bad : None ≡ Some w = sym (lookup-none (is_at (R k)) (e ∷ es) (none_below_head o k e es h g)) ∙ found in cc
      by_order rest Equal g =
          let its : e.1 ≡ w = cc (sym (ap (λ r. cond (is_eq r) (Some e.1) (lookup (is_at (R k)) es)) g) ∙ found) in
          rw (g, g) (λ t. (e.0, sym its t) ∷ es)
      by_order rest Greater g = rw (g, g) (ap (λ (x : List (K × X)). e ∷ x) (rest (sym (ap (λ r. cond (is_eq r) (Some e.1) (lookup (is_at (R k)) es)) g) ∙ found)))

  -- where there is one, another takes its place
  set_insert : (es : List (K × X)) (k : K) (v w : X) → IsStrictlySortedBy R (keys_of es) → lookup (is_at (R k)) es ≡ Some w → set_value (is_at (R k)) es v ≡ insert_entry R es k v
  set_insert [] k v w h found = cc
  set_insert (e ∷ es) k v w h found = by_order (set_insert es k v w (sorted_tail R e.0 (keys_of es) h)) (R k e.0) refl
    where
      by_order : (lookup (is_at (R k)) es ≡ Some w → set_value (is_at (R k)) es v ≡ insert_entry R es k v) → (r : Ordering) → R k e.0 ≡ r → set_value (is_at (R k)) (e ∷ es) v ≡ insert_entry R (e ∷ es) k v
      by_order rest Less g =
          let bad : None ≡ Some w = sym (lookup-none (is_at (R k)) (e ∷ es) (none_below_head o k e es h g)) ∙ found in cc
      by_order rest Equal g = rw g refl
      by_order rest Greater g = rw g (ap (λ (x : List (K × X)). e ∷ x) (rest (sym (ap (λ r. cond (is_eq r) (Some e.1) (lookup (is_at (R k)) es)) g) ∙ found)))

  -- the keys still rise
  each_key : (P : K → Type 0) (es : List (K × X)) (k : K) (v : X) → AllByRecursion P (keys_of es) → P k → AllByRecursion P (keys_of (insert_entry R es k v))
  each_key P [] k v each it = (it, tt)
  each_key P (e ∷ es) k v each it = by_order (each_key P es k v each.1 it) (R k e.0) refl
    where
      by_order : AllByRecursion P (keys_of (insert_entry R es k v)) → (r : Ordering) → R k e.0 ≡ r → AllByRecursion P (keys_of (insert_entry R (e ∷ es) k v))
      by_order rest Less g = rw g (it, each)
      by_order rest Equal g = rw g each
      by_order rest Greater g = rw g (each.0, rest)

  insert_sorted : (es : List (K × X)) (k : K) (v : X) → IsStrictlySortedBy R (keys_of es) → IsStrictlySortedBy R (keys_of (insert_entry R es k v))
  insert_sorted [] k v h = cons_sorted R k [] tt h
  insert_sorted (e ∷ es) k v h = by_order (insert_sorted es k v (sorted_tail R e.0 (keys_of es) h)) (R k e.0) refl
    where
      over : AllByRecursion (λ y. R e.0 y ≡ Less) (keys_of es)
      over = sorted_head R e.0 (keys_of es) h

      by_order : IsStrictlySortedBy R (keys_of (insert_entry R es k v)) → (r : Ordering) → R k e.0 ≡ r → IsStrictlySortedBy R (keys_of (insert_entry R (e ∷ es) k v))
      by_order rest Less g = rw g (cons_sorted R k (keys_of (e ∷ es)) (g, all_above R o k e.0 g (keys_of es) over) h)
      by_order rest Equal g = rw g h
      by_order rest Greater g = rw g (cons_sorted R e.0 (keys_of (insert_entry R es k v)) (each_key (λ y. R e.0 y ≡ Less) es k v over (turned_down R o k e.0 g)) rest)

-- where there is none, none is set
pub set_none : {K X : Type 0} (test : K → Bool) (es : List (K × X)) (w : X) → lookup test es ≡ None → set_value test es w ≡ es
set_none test [] w none = refl
set_none {K} {X} test (e ∷ es) w none = by_test (set_none test es w) (test e.0) refl
  where
    by_test : (lookup test es ≡ None → set_value test es w ≡ es) → (b : Bool) → test e.0 ≡ b → set_value test (e ∷ es) w ≡ e ∷ es
    by_test rest true g =
        let bad : Some e.1 ≡ None = sym (ap (λ b. cond b (Some e.1) (lookup test es)) g) ∙ none in cc
    by_test rest false g =
        ap (λ b. cond b ((e.0, w) ∷ es) (e ∷ set_value test es w)) g
        ∙ ap (λ (x : List (K × X)). e ∷ x) (rest (sym (ap (λ b. cond b (Some e.1) (lookup test es)) g) ∙ none))

-- ---- the entries of one array
put_back_again : (rows : ChunkRows) (i : List ℕ) (entry : Option Place) (was : Option (Option Place)) → IndicesAscend (keys_of rows) → was ≡ lookup (is_at (index_cmp i)) rows → put_back i was (insert_entry index_cmp rows i entry) ≡ rows
put_back_again rows i entry None h e = taken_again index_cmp index_total rows i entry (sym e)
put_back_again rows i entry (Some w) h e = set_again index_cmp index_total rows i entry w h (sym e)

pub none_back : (bs : List Before) (rows : ChunkRows) → length bs ≡ 0 → all_back bs rows ≡ rows
none_back [] rows e = refl
none_back (b ∷ bs) rows e = absurd (omega (arith, e))

pub back_last : (bs : List Before) (b : Before) (rows : ChunkRows) → all_back (bs ++ b ∷ []) rows ≡ all_back bs (put_back b.index b.entry rows)
back_last [] b rows = refl
back_last (x ∷ bs) b rows = ap (put_back x.index x.entry) (back_last bs b rows)

-- an entry was noted, and then put
pub noted : (bs : List Before) (i : List ℕ) (entry : Option Place) (was : Option (Option Place)) (rows : ChunkRows) → IndicesAscend (keys_of rows) → was ≡ lookup (is_at (index_cmp i)) rows
    → all_back (bs ++ (record { index = i; entry = was }) ∷ []) (insert_entry index_cmp rows i entry) ≡ all_back bs rows
noted bs i entry was rows h e = back_last bs (record { index = i; entry = was }) (insert_entry index_cmp rows i entry) ∙ ap (all_back bs) (put_back_again rows i entry was h e)

-- ---- of all arrays
rows-insert : (es : Arrays) (id : Id8) (w : Chunks) → array_rows (insert_entry id8_cmp es id w) ≡ insert_entry id8_cmp (array_rows es) id w.entries
rows-insert [] id w = refl
rows-insert (e ∷ es) id w = by_order (rows-insert es id w) (id8_cmp id e.0) refl
  where
    by_order : array_rows (insert_entry id8_cmp es id w) ≡ insert_entry id8_cmp (array_rows es) id w.entries → (r : Ordering) → id8_cmp id e.0 ≡ r
        → array_rows (insert_entry id8_cmp (e ∷ es) id w) ≡ insert_entry id8_cmp (array_rows (e ∷ es)) id w.entries
    by_order rest Less g = rw g refl
    by_order rest Equal g = rw g refl
    by_order rest Greater g = rw g (ap (λ (x : Kept). (e.0, e.1.entries) ∷ x) rest)

module _ (id : Id8) where
  abbrev the : Id8 → Bool
  the = is_at (id8_cmp id)

  -- an array without entries
  none_put : (es : Kept) → lookup the es ≡ None → entry_rows (insert_entry id8_cmp es id []) ≡ entry_rows es
  none_put [] none = refl
  none_put (e ∷ es) none = by_order (none_put es) (id8_cmp id e.0) refl
    where
      by_order : (lookup the es ≡ None → entry_rows (insert_entry id8_cmp es id []) ≡ entry_rows es) → (r : Ordering) → id8_cmp id e.0 ≡ r → entry_rows (insert_entry id8_cmp (e ∷ es) id []) ≡ entry_rows (e ∷ es)
      by_order rest Less g = rw g refl
      by_order rest Equal g =
          let bad : Some e.1 ≡ None = sym (ap (λ r. cond (is_eq r) (Some e.1) (lookup the es)) g) ∙ none in cc
      by_order rest Greater g = rw g (ap (λ (x : List (HeldEntry Place)). tagged e.0 e.1 ++ x) (rest (sym (ap (λ r. cond (is_eq r) (Some e.1) (lookup the es)) g) ∙ none)))

  placed_in : (placed : List Placed) (es : Kept) (rows : ChunkRows) → IdsAscend (keys_of es) → IndicesAscend (keys_of rows)
      → entry_rows (insert_entry id8_cmp es id (rows_placed rows placed)) ≡ with_placed (entry_rows (insert_entry id8_cmp es id rows)) id placed
  placed_in [] es rows h sorted = refl
  placed_in (p ∷ placed) es rows h sorted =
      placed_in placed es (insert_entry index_cmp rows p.index (Some p.place)) h (insert_sorted index_cmp index_total rows p.index (Some p.place) sorted)
      ∙ ap (λ (x : List (HeldEntry Place)). with_placed x id placed) (insert_more id p.index (Some p.place) es rows h sorted)

  module _ (es : Arrays) (h : IdsAscend (keys_of es)) where
    ascend : IdsAscend (keys_of (array_rows es))
    ascend = arrays-ascend es h

    -- of an array that has some
    pub all_entered : (placed : List Placed) (old new : Chunks) → lookup the es ≡ Some old → IndicesAscend (keys_of old.entries) → new.entries ≡ rows_placed old.entries placed → all_of (set_value the es new) ≡ with_placed (all_of es) id placed
    all_entered placed old new found sorted is =
        let some : lookup the (array_rows es) ≡ Some old.entries = some_there es id h old found in
        ap entry_rows
        (rows-set the es new ∙ ap (λ (rows : ChunkRows). set_value the (array_rows es) rows) is ∙ set_insert id8_cmp id_total (array_rows es) id (rows_placed old.entries placed) old.entries ascend some)
        ∙ placed_in placed (array_rows es) old.entries ascend sorted
        ∙ ap (λ (x : Kept). with_placed (entry_rows x) id placed)
        (sym (set_insert id8_cmp id_total (array_rows es) id old.entries old.entries ascend some) ∙ set_value_same the (array_rows es) old.entries some)

    -- of one that has none yet
    pub all_entered_new : (placed : List Placed) (new : Chunks) → lookup the es ≡ None → new.entries ≡ rows_placed [] placed → all_of (insert_entry id8_cmp es id new) ≡ with_placed (all_of es) id placed
    all_entered_new placed new none is =
        ap entry_rows (rows-insert es id new ∙ ap (λ (rows : ChunkRows). insert_entry id8_cmp (array_rows es) id rows) is)
        ∙ placed_in placed (array_rows es) [] ascend none_ascend
        ∙ ap (λ (x : List (HeldEntry Place)). with_placed x id placed) (none_put (array_rows es) (none_there es id h none))

pub none_placed : (rows : List (HeldEntry Place)) (id : Id8) (placed : List Placed) → length placed ≡ 0 → with_placed rows id placed ≡ rows
none_placed rows id [] e = refl
none_placed rows id (p ∷ placed) e = absurd (omega (arith, e))
