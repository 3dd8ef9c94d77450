-- Entries, as the code keeps them.
use Rattle.std.proofs.Common.{◌≡◌, ◌↔◌, ℕ, Bool, true, false, cond, not, T, ◌++◌, map, length, append_assoc, arith, List, [], ◌∷◌, Option, Some, None, Result, Ok, Err, option_map, refl, sym, ap, subst, ◌∙◌, ◌&&◌, ◌||◌, zero, suc, ◌+◌, ◌<◌, ◌≤◌, drop, slice_index_or, add-one}
use Rattle.std.specs.Prelude.{OnOk, OnErr, IfOk, nat_eq}
use Rattle.std.specs.Cmp.{both_ways}
use Rattle.std.specs.Option.{option_and_then, unwrap_or}
use Rattle.std.specs.List.{filter}
use Rattle.std.specs.List.Sorted.{IsStrictlySortedBy}
use Rattle.std.specs.Map.{keys_of, lookup, set_value, remove_entry}
use Rattle.std.specs.BTreeMap.{BTreeMap, is_at, insert_entry}
use Rattle.std.specs.FinMap as map
use Rattle.std.specs.FinMap.{is_sorted}
use Rattle.ice_ids.specs.declared.Id8.{Id8}
use Rattle.ice_ids.specs.Text.{same_id8, id8_cmp}
use Rattle.zarr_tree.specs.Nodes.{same_numbers}
use Rattle.zarr_path.specs.Indices.{index_cmp}
use Rattle.manifest_file.specs.declared.manifest.Place.{Place}
use Rattle.zarr_tree.specs.Touched.{IdsAscend, IndicesAscend}
use Rattle.zarr_tree.specs.Held.{HeldEntry, entry_in, indices_of, indices_in_order}
use Rattle.zarr_changes.specs.Edits.{with_entry, without_entry, lists_key}
use Rattle.zarr_changes.specs.Sets.{chunks_of, has_chunks}
use Rattle.zarr_changes.specs.inside.Kept.{ChunkRows, array_rows, tagged, entry_rows}
use Rattle.zarr_path.proofs.PathLaws.{by_numbers}
use Rattle.zarr_tree.proofs.RowLaws.{seen-insert, put-last, entries-made}
use Rattle.zarr_changes.proofs.IdLaws.{id_total, id_exact, rows-sorted}
use Rattle.zarr_changes.proofs.EditLaws.{same-turned}
use Rattle.zarr_changes.proofs.TouchLaws.{not_zero}
use Rattle.zarr_changes.proofs.ChunkLaws.{numbers-turned}
use Rattle.zarr_changes.proofs.EntryLaws.{Kept, without_row_at, row-inserted, put_new, set_old, gone_old, gone_none, entry_found, rows_found, has-rows, indices-rows, entries-filter, index_total, index_exact}

abbrev pub Chunks : Type 0
Chunks = BTreeMap (List ℕ) (Option Place)

abbrev pub Arrays : Type 0
Arrays = List (Id8 × Chunks)

abbrev pub all_of : Arrays → List (HeldEntry Place)
all_of es = entry_rows (array_rows es)

-- ---- the rows of arrays
pub keys-arrays : (es : Arrays) → keys_of (array_rows es) ≡ keys_of es
keys-arrays [] = refl
keys-arrays (e ∷ es) = ap (λ (x : List Id8). e.0 ∷ x) (keys-arrays es)

pub arrays-ascend : (es : Arrays) → IdsAscend (keys_of es) → IdsAscend (keys_of (array_rows es))
arrays-ascend es h = subst IdsAscend (sym (keys-arrays es)) h

pub rows-set : (test : Id8 → Bool) (es : Arrays) (w : Chunks) → array_rows (set_value test es w) ≡ set_value test (array_rows es) w.entries
rows-set test [] w = refl
rows-set test (e ∷ es) w = by_test (test e.0) (rows-set test es w)
  where
    by_test : (b : Bool) → array_rows (set_value test es w) ≡ set_value test (array_rows es) w.entries
        → array_rows (cond b ((e.0, w) ∷ es) (e ∷ set_value test es w)) ≡ cond b ((e.0, w.entries) ∷ array_rows es) ((e.0, e.1.entries) ∷ set_value test (array_rows es) w.entries)
    by_test true h = refl
    by_test false h = ap (λ (x : Kept). (e.0, e.1.entries) ∷ x) h

rows-lookup : (test : Id8 → Bool) (es : Arrays) → lookup test (array_rows es) ≡ option_map (λ (m : Chunks). m.entries) (lookup test es)
rows-lookup test [] = refl
rows-lookup test (e ∷ es) = by_test (test e.0) (rows-lookup test es)
  where
    by_test : (b : Bool) → lookup test (array_rows es) ≡ option_map (λ (m : Chunks). m.entries) (lookup test es)
        → cond b (Some e.1.entries) (lookup test (array_rows es)) ≡ option_map (λ (m : Chunks). m.entries) (cond b (Some e.1) (lookup test es))
    by_test true h = refl
    by_test false h = h

rows-filter : (test : Id8 → Bool) (es : Arrays) → array_rows (filter (λ (e : Id8 × Chunks). test e.0) es) ≡ filter (λ (e : Id8 × ChunkRows). test e.0) (array_rows es)
rows-filter test [] = refl
rows-filter test (e ∷ es) = by_test (test e.0) (rows-filter test es)
  where
    by_test : (b : Bool) → array_rows (filter (λ (x : Id8 × Chunks). test x.0) es) ≡ filter (λ (x : Id8 × ChunkRows). test x.0) (array_rows es)
        → array_rows (cond b (e ∷ filter (λ (x : Id8 × Chunks). test x.0) es) (filter (λ (x : Id8 × Chunks). test x.0) es))
        ≡ cond b ((e.0, e.1.entries) ∷ filter (λ (x : Id8 × ChunkRows). test x.0) (array_rows es)) (filter (λ (x : Id8 × ChunkRows). test x.0) (array_rows es))
    by_test true h = ap (λ (x : Kept). (e.0, e.1.entries) ∷ x) h
    by_test false h = h

pub left-entries : (test : Id8 → Bool) (es : Arrays) → all_of (filter (λ (e : Id8 × Chunks). test e.0) es) ≡ filter (λ (row : HeldEntry Place). test row.0) (all_of es)
left-entries test es = ap entry_rows (rows-filter test es) ∙ entries-filter test (array_rows es)

set_same : (test : Id8 → Bool) (es : Kept) (rows : ChunkRows) → lookup test es ≡ Some rows → set_value test es rows ≡ es
set_same test [] rows h = cc
set_same test (e ∷ es) rows h = by_test (set_same test es rows) (test e.0) refl
  where
    by_test : (lookup test es ≡ Some rows → set_value test es rows ≡ es) → (b : Bool) → test e.0 ≡ b → set_value test (e ∷ es) rows ≡ e ∷ es
    by_test rest true g =
        let its : e.1 ≡ rows = cc (sym (ap (λ b. cond b (Some e.1) (lookup test es)) g) ∙ h) in
        ap (λ b. cond b ((e.0, rows) ∷ es) (e ∷ set_value test es rows)) g ∙ (λ t. (e.0, sym its t) ∷ es)
    by_test rest false g =
        ap (λ b. cond b ((e.0, rows) ∷ es) (e ∷ set_value test es rows)) g
        ∙ ap (λ (x : Kept). e ∷ x) (rest (sym (ap (λ b. cond b (Some e.1) (lookup test es)) g) ∙ h))

module _ (es : Arrays) (id : Id8) (h : IdsAscend (keys_of es)) where
  abbrev the : Id8 → Bool
  the = is_at (id8_cmp id)

  pub none_there : lookup the es ≡ None → lookup the (array_rows es) ≡ None
  none_there none = rows-lookup the es ∙ ap (option_map (λ (m : Chunks). m.entries)) none

  pub some_there : (m : Chunks) → lookup the es ≡ Some m → lookup the (array_rows es) ≡ Some m.entries
  some_there m found = rows-lookup the es ∙ ap (option_map (λ (m : Chunks). m.entries)) found

  -- an entry more
  pub entered : (i : List ℕ) (entry : Option Place) (old new : Chunks) → lookup the es ≡ Some old → IndicesAscend (keys_of old.entries) → new.entries ≡ insert_entry index_cmp old.entries i entry
      → all_of (set_value the es new) ≡ with_entry (all_of es) id i entry
  entered i entry old new found sorted is =
      ap entry_rows (rows-set the es new)
      ∙ set_old id i entry (array_rows es) old.entries new.entries (arrays-ascend es h) (some_there old found) (is ∙ row-inserted old.entries i entry sorted)

  pub entered_new : (i : List ℕ) (entry : Option Place) (new : Chunks) → lookup the es ≡ None → new.entries ≡ (i, entry) ∷ [] → all_of (insert_entry id8_cmp es id new) ≡ with_entry (all_of es) id i entry
  entered_new i entry new none is =
      ap entry_rows (seen-insert id8_cmp id8_cmp (λ (x : Id8). x) (λ (m : Chunks). m.entries) (λ x y. refl) es id new)
      ∙ ap (λ (rows : ChunkRows). entry_rows (map.put id8_cmp id rows (array_rows es))) is
      ∙ put_new id i entry (array_rows es) (arrays-ascend es h) (none_there none)

  pub entered_not : (old new : Chunks) → lookup the es ≡ Some old → new.entries ≡ old.entries → all_of (set_value the es new) ≡ all_of es
  entered_not old new found is =
      ap entry_rows (rows-set the es new ∙ ap (λ (rows : ChunkRows). set_value the (array_rows es) rows) is ∙ set_same the (array_rows es) old.entries (some_there old found))

  -- an entry less
  pub forgotten : (i : List ℕ) (old new : Chunks) → lookup the es ≡ Some old → new.entries ≡ without_row_at old.entries i → all_of (set_value the es new) ≡ without_entry (all_of es) id i
  forgotten i old new found is = ap entry_rows (rows-set the es new) ∙ gone_old id i (array_rows es) old.entries new.entries (arrays-ascend es h) (some_there old found) is

  pub forgotten_not : (i : List ℕ) → lookup the es ≡ None → all_of es ≡ without_entry (all_of es) id i
  forgotten_not i none = gone_none id i (array_rows es) (none_there none)

  -- what is found
  entry_at : (i : List ℕ) → entry_in (all_of es) id i ≡ option_and_then (λ (m : Chunks). lookup (is_at (index_cmp i)) m.entries) (lookup the es)
  entry_at i = entry_found id i (array_rows es) (arrays-ascend es h) ∙ ap (option_and_then (lookup (is_at (index_cmp i)))) (rows-lookup the es) ∙ through (lookup the es)
    where
      through : (o : Option Chunks) → option_and_then (lookup (is_at (index_cmp i))) (option_map (λ (m : Chunks). m.entries) o) ≡ option_and_then (λ (m : Chunks). lookup (is_at (index_cmp i)) m.entries) o
      through None = refl
      through (Some m) = refl

  pub entry_none : (i : List ℕ) → lookup the es ≡ None → entry_in (all_of es) id i ≡ None
  entry_none i none = entry_at i ∙ ap (option_and_then (λ (m : Chunks). lookup (is_at (index_cmp i)) m.entries)) none

  pub entry_some : (i : List ℕ) (m : Chunks) → lookup the es ≡ Some m → entry_in (all_of es) id i ≡ lookup (is_at (index_cmp i)) m.entries
  entry_some i m found = entry_at i ∙ ap (option_and_then (λ (m : Chunks). lookup (is_at (index_cmp i)) m.entries)) found

  pub rows_none : lookup the es ≡ None → chunks_of (all_of es) id ≡ []
  rows_none none = rows_found id (array_rows es) (arrays-ascend es h) ∙ ap (λ (o : Option ChunkRows). unwrap_or o []) (none_there none)

  pub rows_some : (m : Chunks) → lookup the es ≡ Some m → chunks_of (all_of es) id ≡ m.entries
  rows_some m found = rows_found id (array_rows es) (arrays-ascend es h) ∙ ap (λ (o : Option ChunkRows). unwrap_or o []) (some_there m found)

-- where all is done, and where it isn't
pub done_ok : {A : Type 0} (r : Result (Unit {0}) A) → {X Y : Type 0} → OnOk r X → (X → Y) → OnOk r Y
done_ok (Ok u) h f = f h
done_ok (Err e) h f = tt

pub done_err : {A : Type 0} (r : Result (Unit {0}) A) → {X Y : Type 0} → OnErr r X → (X → Y) → OnErr r Y
done_err (Ok u) h f = tt
done_err (Err e) h f = f h

-- no array has entries
pub no_entries : (es : Arrays) → length es ≡ 0 → all_of es ≡ []
no_entries [] h = refl
no_entries (e ∷ es) h = absurd (omega arith)

-- ---- whether an array has entries
zero_or_not : (b : Bool) (n : ℕ) → (b ≡ true) ↔ (n ≡ 0) → b ≡ nat_eq n 0
zero_or_not b n h = both_ways _ _ (λ e. (by_numbers n 0).1 (h.0 e)) (λ e. h.1 ((by_numbers n 0).0 e))

pub has_some : (es : Arrays) (id : Id8) (m : Chunks) (empty : Bool) → IdsAscend (keys_of es) → lookup (is_at (id8_cmp id)) es ≡ Some m → (empty ≡ true) ↔ (length m.entries ≡ 0) → not empty ≡ has_chunks (all_of es) id
has_some es id m empty h found is =
    ap not (zero_or_not empty (length m.entries) is) ∙ ap (λ (rows : ChunkRows). not (nat_eq (length rows) 0)) (sym (rows_some es id h m found)) ∙ sym (has-rows (all_of es) id)

pub has_none : (es : Arrays) (id : Id8) → IdsAscend (keys_of es) → lookup (is_at (id8_cmp id)) es ≡ None → false ≡ has_chunks (all_of es) id
has_none es id h none = ap (λ (rows : ChunkRows). not (nat_eq (length rows) 0)) (sym (rows_none es id h none)) ∙ sym (has-rows (all_of es) id)

pub no_some : {A : Type 0} (r : Option A) → ((x : A) → r ≡ Some x → ⊥) → r ≡ None
no_some None h = refl
no_some (Some x) h = absurd (h x refl)

-- ---- copies
-- the next entry, behind those before it
pub row_next : (copy after : Chunks) (rest all : ChunkRows) (i : List ℕ) (entry : Option Place) → IndicesAscend (keys_of all) → after.entries ≡ insert_entry index_cmp copy.entries i entry
    → copy.entries ++ (i, entry) ∷ rest ≡ all → after.entries ++ rest ≡ all
row_next copy after rest all i entry h is e =
    ap (λ (x : ChunkRows). x ++ rest)
    (is ∙ sym (itself (insert_entry index_cmp copy.entries i entry))
    ∙ seen-insert index_cmp index_cmp (λ (x : List ℕ). x) (λ (x : Option Place). x) (λ x y. refl) copy.entries i entry
    ∙ ap (map.put index_cmp i entry) (itself copy.entries)
    ∙ put-last index_cmp index_total index_exact copy.entries i entry rest (subst (λ (x : ChunkRows). T (is_sorted index_cmp x)) (sym e) (rows-sorted index_cmp all h)))
    ∙ append_assoc copy.entries ((i, entry) ∷ []) rest ∙ e
  where
    itself : (rows : ChunkRows) → map (λ (row : List ℕ × Option Place). (row.0, row.1)) rows ≡ rows
    itself [] = refl
    itself (row ∷ rows) = ap (λ (x : ChunkRows). row ∷ x) (itself rows)

-- the next array
pub array_next : (copy after rest all : Arrays) (id : Id8) (m n : Chunks) → IdsAscend (keys_of all) → after ≡ insert_entry id8_cmp copy id n → n.entries ≡ m.entries
    → array_rows copy ++ (id, m.entries) ∷ array_rows rest ≡ array_rows all → array_rows after ++ array_rows rest ≡ array_rows all
array_next copy after rest all id m n h is same e =
    ap (λ (x : Arrays). array_rows x ++ array_rows rest) is
    ∙ ap (λ (x : Kept). x ++ array_rows rest)
    (seen-insert id8_cmp id8_cmp (λ (x : Id8). x) (λ (x : Chunks). x.entries) (λ x y. refl) copy id n
    ∙ ap (λ (rows : ChunkRows). map.put id8_cmp id rows (array_rows copy)) same
    ∙ put-last id8_cmp id_total id_exact (array_rows copy) id m.entries (array_rows rest) (subst (λ (x : Kept). T (is_sorted id8_cmp x)) (sym e) (rows-sorted id8_cmp (array_rows all) (arrays-ascend all h))))
    ∙ append_assoc (array_rows copy) ((id, m.entries) ∷ []) (array_rows rest) ∙ e

pub ok_map : {A B : Type 0} (r : Result A B) → {X Y : A → Type 0} → IfOk r X → ((x : A) → X x → Y x) → IfOk r Y
ok_map (Ok x) h f = f x h
ok_map (Err e) h f = tt

-- ---- indices
in_order : (indices : List (List ℕ)) → IndicesAscend indices → indices_in_order indices ≡ indices
in_order indices h =
    ap keys_of (entries-made index_cmp index_total index_exact (marked indices) (rows-sorted index_cmp (marked indices) (subst IndicesAscend (sym (unmarked indices)) h))) ∙ unmarked indices
  where
    marked : List (List ℕ) → List (List ℕ × Unit {0})
    marked indices = map (λ (i : List ℕ). (i, tt {0})) indices

    unmarked : (indices : List (List ℕ)) → keys_of (marked indices) ≡ indices
    unmarked [] = refl
    unmarked (i ∷ indices) = ap (λ (x : List (List ℕ)). i ∷ x) (unmarked indices)

pub indices_some : (es : Arrays) (id : Id8) (m : Chunks) → IdsAscend (keys_of es) → lookup (is_at (id8_cmp id)) es ≡ Some m → IndicesAscend (keys_of m.entries)
    → keys_of m.entries ≡ indices_in_order (indices_of (all_of es) id)
indices_some es id m h found sorted = sym (in_order (keys_of m.entries) sorted) ∙ ap indices_in_order (ap keys_of (sym (rows_some es id h m found)) ∙ sym (indices-rows (all_of es) id))

pub none_ascend : IndicesAscend []
unfolding IsStrictlySortedBy
none_ascend = tt

pub indices_none : (es : Arrays) (id : Id8) → IdsAscend (keys_of es) → lookup (is_at (id8_cmp id)) es ≡ None → [] ≡ indices_in_order (indices_of (all_of es) id)
indices_none es id h none = sym (in_order [] none_ascend) ∙ ap indices_in_order (ap keys_of (sym (rows_none es id h none)) ∙ sym (indices-rows (all_of es) id))

-- ---- the chunks that have entries
abbrev pub keys_in : List (HeldEntry Place) → List (Id8 × List ℕ)
keys_in rows = map (λ (row : HeldEntry Place). (row.0, row.1)) rows

-- those of one more array
pub keys_next : (before after : List (Id8 × List ℕ)) (id : Id8) (m : Chunks) (rest : Arrays) (all : List (Id8 × List ℕ)) → after ≡ before ++ map (λ (row : List ℕ × Option Place). (id, row.0)) m.entries
    → before ++ keys_in (tagged id m.entries ++ all_of rest) ≡ all → after ++ keys_in (all_of rest) ≡ all
keys_next before after id m rest all is e =
    ap (λ (x : List (Id8 × List ℕ)). x ++ keys_in (all_of rest)) is
    ∙ append_assoc before (map (λ (row : List ℕ × Option Place). (id, row.0)) m.entries) (keys_in (all_of rest))
    ∙ ap (λ (x : List (Id8 × List ℕ)). before ++ x) (sym (of_array m.entries)) ∙ e
  where
    of_array : (rows : ChunkRows) → keys_in (tagged id rows ++ all_of rest) ≡ map (λ (row : List ℕ × Option Place). (id, row.0)) rows ++ keys_in (all_of rest)
    of_array [] = refl
    of_array (row ∷ rows) = ap (λ (x : List (Id8 × List ℕ)). (id, row.0) ∷ x) (of_array rows)

-- ---- entries taken away one after another
filter-filter : {A : Type 0} (p q r : A → Bool) → ((x : A) → (p x && q x) ≡ r x) → (xs : List A) → filter p (filter q xs) ≡ filter r xs
filter-filter p q r same [] = refl
filter-filter {A} p q r same (x ∷ xs) = by_test (p x) refl (q x) (filter-filter p q r same xs) ∙ ap (λ b. cond b (x ∷ filter r xs) (filter r xs)) (same x)
  where
    by_test : (a : Bool) → p x ≡ a → (b : Bool) → filter p (filter q xs) ≡ filter r xs → filter p (cond b (x ∷ filter q xs) (filter q xs)) ≡ cond (p x && b) (x ∷ filter r xs) (filter r xs)
    by_test true e true h = ap (λ c. cond c (x ∷ filter p (filter q xs)) (filter p (filter q xs))) e ∙ ap (λ (y : List A). x ∷ y) h ∙ sym (ap (λ c. cond (c && true) (x ∷ filter r xs) (filter r xs)) e)
    by_test true e false h = h ∙ sym (ap (λ c. cond (c && false) (x ∷ filter r xs) (filter r xs)) e)
    by_test false e true h = ap (λ c. cond c (x ∷ filter p (filter q xs)) (filter p (filter q xs))) e ∙ h ∙ sym (ap (λ c. cond (c && true) (x ∷ filter r xs) (filter r xs)) e)
    by_test false e false h = h ∙ sym (ap (λ c. cond (c && false) (x ∷ filter r xs) (filter r xs)) e)

none_out : (rows : List (HeldEntry Place)) → filter (λ (row : HeldEntry Place). not (lists_key [] row.0 row.1)) rows ≡ rows
none_out [] = refl
none_out (row ∷ rows) = ap (λ (x : List (HeldEntry Place)). row ∷ x) (none_out rows)

pub out_end : (left : List (Id8 × List ℕ)) (rows all : List (HeldEntry Place)) → left ≡ [] → filter (λ (row : HeldEntry Place). not (lists_key left row.0 row.1)) rows ≡ all → rows ≡ all
out_end left rows all e h = sym (none_out rows) ∙ ap (λ (x : List (Id8 × List ℕ)). filter (λ (row : HeldEntry Place). not (lists_key x row.0 row.1)) rows) (sym e) ∙ h

either_not : (a b : Bool) → (not b && not a) ≡ not (a || b)
either_not true true = refl
either_not true false = refl
either_not false true = refl
either_not false false = refl

-- one chunk's is taken away before the others
pub out_next : (id : Id8) (i : List ℕ) (left : List (Id8 × List ℕ)) (rows : List (HeldEntry Place))
    → filter (λ (row : HeldEntry Place). not (lists_key left row.0 row.1)) (without_entry rows id i) ≡ filter (λ (row : HeldEntry Place). not (lists_key ((id, i) ∷ left) row.0 row.1)) rows
out_next id i left rows =
    filter-filter (λ (row : HeldEntry Place). not (lists_key left row.0 row.1)) (λ (row : HeldEntry Place). not (same_id8 row.0 id && same_numbers row.1 i)) (λ (row : HeldEntry Place). not (lists_key ((id, i) ∷ left) row.0 row.1))
    (λ row. (λ t. not (lists_key left row.0 row.1) && not (same-turned row.0 id t && numbers-turned row.1 i t)) ∙ either_not (same_id8 id row.0 && same_numbers i row.1) (lists_key left row.0 row.1)) rows

-- ---- what is left of a list
pub left_item : {A : Type 0} (xs : List A) (k : ℕ) (x : A) → k < length xs → x ≡ slice_index_or xs k x → x ∷ drop (k + 1) xs ≡ drop k xs
left_item {A} xs k x below is = ap (λ n. x ∷ drop n xs) (add-one k) ∙ from xs k below is
  where
    from : (ys : List A) (k : ℕ) → k < length ys → x ≡ slice_index_or ys k x → x ∷ drop (suc k) ys ≡ drop k ys
    from [] k below is = absurd (omega arith)
    from (y ∷ ys) zero below is = ap (λ (z : A). z ∷ ys) is
    from (y ∷ ys) (suc k) below is = from ys k (omega (arith, below)) is

pub none_left : {A : Type 0} (xs : List A) (k : ℕ) → length xs ≤ k → drop k xs ≡ []
none_left [] zero h = refl
none_left [] (suc k) h = refl
none_left (x ∷ xs) zero h = absurd (omega arith)
none_left (x ∷ xs) (suc k) h = none_left xs k (omega arith)

-- ---- an array without entries is let go of
rows-remove : (test : Id8 → Bool) (es : Arrays) → array_rows (remove_entry test es) ≡ remove_entry test (array_rows es)
rows-remove test [] = refl
rows-remove test (e ∷ es) = by_test (test e.0) (rows-remove test es)
  where
    by_test : (b : Bool) → array_rows (remove_entry test es) ≡ remove_entry test (array_rows es)
        → array_rows (cond b es (e ∷ remove_entry test es)) ≡ cond b (array_rows es) ((e.0, e.1.entries) ∷ remove_entry test (array_rows es))
    by_test true h = refl
    by_test false h = ap (λ (x : Kept). (e.0, e.1.entries) ∷ x) h

let_go : (test : Id8 → Bool) (es : Kept) → unwrap_or (lookup test es) [] ≡ [] → entry_rows (remove_entry test es) ≡ entry_rows es
let_go test [] h = refl
let_go test (e ∷ es) h = by_test (let_go test es) (test e.0) h
  where
    by_test : (unwrap_or (lookup test es) [] ≡ [] → entry_rows (remove_entry test es) ≡ entry_rows es) → (b : Bool) → unwrap_or (cond b (Some e.1) (lookup test es)) [] ≡ []
        → entry_rows (cond b es (e ∷ remove_entry test es)) ≡ tagged e.0 e.1 ++ entry_rows es
    by_test rest true g = ap (λ (rows : ChunkRows). tagged e.0 rows ++ entry_rows es) (sym g)
    by_test rest false g = ap (λ (x : List (HeldEntry Place)). tagged e.0 e.1 ++ x) (rest g)

no_rows : (rows : ChunkRows) → not (nat_eq (length rows) 0) ≡ false → rows ≡ []
no_rows [] h = refl
no_rows (row ∷ rows) h = let bad : true ≡ false = sym (ap not (not_zero (length rows))) ∙ h in cc

pub pruned : (es : Arrays) (id : Id8) → IdsAscend (keys_of es) → has_chunks (all_of es) id ≡ false → all_of (remove_entry (is_at (id8_cmp id)) es) ≡ all_of es
pruned es id h none =
    ap entry_rows (rows-remove (is_at (id8_cmp id)) es)
    ∙ let_go (is_at (id8_cmp id)) (array_rows es) (sym (rows_found id (array_rows es) (arrays-ascend es h)) ∙ no_rows (chunks_of (all_of es) id) (sym (has-rows (all_of es) id) ∙ none))
