-- Entries in the order of the ids and of the indices, one array's behind another's.
use Rattle.std.proofs.Common.{◌≡◌, ℕ, Bool, true, false, cond, not, ◌&&◌, ◌||◌, List, [], ◌∷◌, ◌++◌, map, length, append_assoc, append-nil, Option, Some, None, option_map, refl, sym, ap, subst, ◌∙◌}
use Rattle.std.specs.Prelude.{find, nat_eq}
use Rattle.std.specs.Option.{option_and_then, unwrap_or}
use Rattle.std.specs.declared.cmp.Ordering.{Ordering}
use Rattle.std.specs.declared.cmp.Ordering.TheVariants.{Less, Equal, Greater}
use Rattle.std.specs.Ordering.{is_eq, is_lt, ordering_reverse, ordering_then}
use Rattle.std.specs.Cmp.{IsTotalOrder, Equal-is, tied_itself}
use Rattle.std.specs.Cmp.Lexicographic.{nat_list_cmp_total}
use Rattle.std.specs.FinMap.{IsAntisymmetric, put, slice_cmp-IsAntisymmetric, nat_cmp-IsAntisymmetric}
use Rattle.std.specs.List.{filter, AllByRecursion}
use Rattle.std.specs.List.Sorted.{IsStrictlySortedBy}
use Rattle.std.specs.Map.{keys_of, lookup, set_value, remove_entry}
use Rattle.std.specs.BTreeMap.{is_at, insert_entry}
use Rattle.std.proofs.lemmas.List.Elements.{filter-append}
use Rattle.std.proofs.lemmas.Map.{lookup-none}
use Rattle.std.proofs.lemmas.Map.Keys.{sorted_head, sorted_tail}
use Rattle.std.proofs.lemmas.Map.Entries.{none_below_head}
use Rattle.ice_ids.specs.declared.Id8.{Id8}
use Rattle.ice_ids.specs.Text.{same_id8, id8_cmp}
use Rattle.zarr_path.specs.Indices.{index_cmp}
use Rattle.manifest_file.specs.declared.manifest.Place.{Place}
use Rattle.zarr_tree.specs.Nodes.{same_numbers}
use Rattle.zarr_tree.specs.Touched.{IdsAscend, IndicesAscend}
use Rattle.zarr_tree.specs.Held.{HeldEntry, entry_in, indices_of}
use Rattle.zarr_changes.specs.Edits.{entry_cmp, with_entry, without_entry}
use Rattle.zarr_changes.specs.Sets.{chunks_of, has_chunks}
use Rattle.zarr_changes.specs.inside.Kept.{ChunkRows, tagged, entry_rows}
use Rattle.zarr_changes.proofs.IdLaws.{id_total, id_exact, same_ids}
use Rattle.zarr_changes.proofs.TouchLaws.{not_zero}

abbrev pub Kept : Type 0
Kept = List (Id8 × ChunkRows)

-- ---- filters
module _ {A B : Type 0} (f : A → B) (test : B → Bool) where
  filter-all : ((a : A) → test (f a) ≡ true) → (xs : List A) → filter test (map f xs) ≡ map f xs
  filter-all h [] = refl
  filter-all h (x ∷ xs) = ap (λ b. cond b (f x ∷ filter test (map f xs)) (filter test (map f xs))) (h x) ∙ ap (λ (ys : List B). f x ∷ ys) (filter-all h xs)

  filter-none : ((a : A) → test (f a) ≡ false) → (xs : List A) → filter test (map f xs) ≡ []
  filter-none h [] = refl
  filter-none h (x ∷ xs) = ap (λ b. cond b (f x ∷ filter test (map f xs)) (filter test (map f xs))) (h x) ∙ filter-none h xs

  filter-map : (other : A → Bool) → ((a : A) → test (f a) ≡ other a) → (xs : List A) → filter test (map f xs) ≡ map f (filter other xs)
  filter-map other h [] = refl
  filter-map other h (x ∷ xs) = ap (λ b. cond b (f x ∷ filter test (map f xs)) (filter test (map f xs))) (h x) ∙ by_test (other x) (filter-map other h xs)
    where
      by_test : (b : Bool) → filter test (map f xs) ≡ map f (filter other xs) → cond b (f x ∷ filter test (map f xs)) (filter test (map f xs)) ≡ map f (cond b (x ∷ filter other xs) (filter other xs))
      by_test true e = ap (λ (ys : List B). f x ∷ ys) e
      by_test false e = e

map-append : {A B : Type 0} (f : A → B) (xs ys : List A) → map f (xs ++ ys) ≡ map f xs ++ map f ys
map-append f [] ys = refl
map-append {B = B} f (x ∷ xs) ys = ap (λ (zs : List B). f x ∷ zs) (map-append f xs ys)

-- ---- one entry more among rows in order
module _ {K : Type 0} (R : K → K → Ordering) (o : IsTotalOrder R) where
  turned_up : (x y : K) → R x y ≡ Less → R y x ≡ Greater
  turned_up x y h = o.antisymm y x ∙ ap ordering_reverse h

  pub turned_down : (x y : K) → R x y ≡ Greater → R y x ≡ Less
  turned_down x y h = o.antisymm y x ∙ ap ordering_reverse h

  pub all_above : (k x : K) → R k x ≡ Less → (ks : List K) → AllByRecursion (λ y. R x y ≡ Less) ks → AllByRecursion (λ y. R k y ≡ Less) ks
  all_above k x h [] g = tt
  all_above k x h (y ∷ ks) g = (o.trans k x y h g.0, all_above k x h ks g.1)

module _ {K X : Type 0} (R : K → K → Ordering) (o : IsTotalOrder R) (one : IsAntisymmetric R) where
  abbrev below : K → List (K × X) → List (K × X)
  below k es = filter (λ e. is_lt (R e.0 k)) es

  abbrev above : K → List (K × X) → List (K × X)
  above k es = filter (λ e. is_lt (R k e.0)) es

  none_below : (k : K) (es : List (K × X)) → AllByRecursion (λ y. R k y ≡ Less) (keys_of es) → below k es ≡ []
  none_below k [] h = refl
  none_below k (e ∷ es) h = ap (λ r. cond (is_lt r) (e ∷ below k es) (below k es)) (turned_up R o k e.0 h.0) ∙ none_below k es h.1

  each_above : (k : K) (es : List (K × X)) → AllByRecursion (λ y. R k y ≡ Less) (keys_of es) → above k es ≡ es
  each_above k [] h = refl
  each_above k (e ∷ es) h = ap (λ r. cond (is_lt r) (e ∷ above k es) (above k es)) h.0 ∙ ap (λ (x : List (K × X)). e ∷ x) (each_above k es h.1)

  insert-filters : (es : List (K × X)) (k : K) (v : X) → IsStrictlySortedBy R (keys_of es) → insert_entry R es k v ≡ below k es ++ (k, v) ∷ above k es
  insert-filters [] k v h = refl
  insert-filters (e ∷ es) k v h = by_order (insert-filters es k v (sorted_tail R e.0 (keys_of es) h)) (R k e.0) refl
    where
      rest : AllByRecursion (λ y. R e.0 y ≡ Less) (keys_of es)
      rest = sorted_head R e.0 (keys_of es) h

      by_order : insert_entry R es k v ≡ below k es ++ (k, v) ∷ above k es → (r : Ordering) → R k e.0 ≡ r → insert_entry R (e ∷ es) k v ≡ below k (e ∷ es) ++ (k, v) ∷ above k (e ∷ es)
      by_order later Less g =
          rw g (λ t. sym (none_below k (e ∷ es) (g, all_above R o k e.0 g (keys_of es) rest)) t ++ (k, v) ∷ (e ∷ sym (each_above k es (all_above R o k e.0 g (keys_of es) rest)) t))
      by_order later Equal g =
          let same : k ≡ e.0 = one k e.0 g in
          let over : AllByRecursion (λ y. R k y ≡ Less) (keys_of es) = subst (λ (x : K). AllByRecursion (λ y. R x y ≡ Less) (keys_of es)) (sym same) rest in
          let back : R e.0 k ≡ Equal = o.antisymm e.0 k ∙ ap ordering_reverse g in
          rw (g, back) (λ t. sym (none_below k es over) t ++ (sym same t, v) ∷ sym (each_above k es over) t)
      by_order later Greater g =
          let back : R e.0 k ≡ Less = turned_down R o k e.0 g in
          rw (g, back) (ap (λ (x : List (K × X)). e ∷ x) later)

  -- without the entry at a key
  removed : (es : List (K × X)) (k : K) → IsStrictlySortedBy R (keys_of es) → remove_entry (is_at (R k)) es ≡ filter (λ e. not (is_eq (R e.0 k))) es
  removed [] k h = refl
  removed (e ∷ es) k h = by_order (removed es k (sorted_tail R e.0 (keys_of es) h)) (R k e.0) refl
    where
      others : (fs : List (K × X)) → AllByRecursion (λ y. R k y ≡ Less) (keys_of fs) → filter (λ e. not (is_eq (R e.0 k))) fs ≡ fs
      others [] g = refl
      others (f ∷ fs) g = ap (λ r. cond (not (is_eq r)) (f ∷ filter (λ e. not (is_eq (R e.0 k))) fs) (filter (λ e. not (is_eq (R e.0 k))) fs)) (turned_up R o k f.0 g.0) ∙ ap (λ (x : List (K × X)). f ∷ x) (others fs g.1)

      by_order : remove_entry (is_at (R k)) es ≡ filter (λ e. not (is_eq (R e.0 k))) es → (r : Ordering) → R k e.0 ≡ r → remove_entry (is_at (R k)) (e ∷ es) ≡ filter (λ e. not (is_eq (R e.0 k))) (e ∷ es)
      by_order later Less g =
          let back : R e.0 k ≡ Greater = turned_up R o k e.0 g in
          rw (g, back) (ap (λ (x : List (K × X)). e ∷ x) later)
      by_order later Equal g =
          let same : k ≡ e.0 = one k e.0 g in
          let over : AllByRecursion (λ y. R k y ≡ Less) (keys_of es) = subst (λ (x : K). AllByRecursion (λ y. R x y ≡ Less) (keys_of es)) (sym same) (sorted_head R e.0 (keys_of es) h) in
          let back : R e.0 k ≡ Equal = o.antisymm e.0 k ∙ ap ordering_reverse g in
          rw (g, back) (sym (others es over))
      by_order later Greater g =
          let back : R e.0 k ≡ Less = turned_down R o k e.0 g in
          rw (g, back) (ap (λ (x : List (K × X)). e ∷ x) later)

-- ---- of one array
pub index_total : IsTotalOrder index_cmp
index_total = nat_list_cmp_total

pub index_exact : IsAntisymmetric index_cmp
index_exact = slice_cmp-IsAntisymmetric nat_cmp-IsAntisymmetric

abbrev pub with_row_at : ChunkRows → List ℕ → Option Place → ChunkRows
with_row_at rows i entry = filter (λ row. is_lt (index_cmp row.0 i)) rows ++ (i, entry) ∷ filter (λ row. is_lt (index_cmp i row.0)) rows

abbrev pub without_row_at : ChunkRows → List ℕ → ChunkRows
without_row_at rows i = filter (λ row. not (same_numbers row.0 i)) rows

pub row-inserted : (rows : ChunkRows) (i : List ℕ) (entry : Option Place) → IndicesAscend (keys_of rows) → insert_entry index_cmp rows i entry ≡ with_row_at rows i entry
row-inserted rows i entry h = insert-filters index_cmp index_total index_exact rows i entry h

pub row-removed : (rows : ChunkRows) (i : List ℕ) → IndicesAscend (keys_of rows) → remove_entry (is_at (index_cmp i)) rows ≡ without_row_at rows i
row-removed rows i h = removed index_cmp index_total index_exact rows i h

-- ---- of all arrays: an entry more
module _ (id : Id8) (i : List ℕ) (entry : Option Place) where
  abbrev it : HeldEntry Place
  it = (id, i, entry)

  abbrev before : List (HeldEntry Place) → List (HeldEntry Place)
  before rows = filter (λ row. is_lt (entry_cmp row it)) rows

  abbrev behind : List (HeldEntry Place) → List (HeldEntry Place)
  behind rows = filter (λ row. is_lt (entry_cmp it row)) rows

  lower-before : (k : Id8) (rows : ChunkRows) → id8_cmp k id ≡ Less → before (tagged k rows) ≡ tagged k rows
  lower-before k rows h = filter-all (λ (row : List ℕ × Option Place). (k, row.0, row.1)) (λ row. is_lt (entry_cmp row it)) (λ row. ap (λ r. is_lt (ordering_then r (index_cmp row.0 i))) h) rows

  lower-behind : (k : Id8) (rows : ChunkRows) → id8_cmp id k ≡ Greater → behind (tagged k rows) ≡ []
  lower-behind k rows h = filter-none (λ (row : List ℕ × Option Place). (k, row.0, row.1)) (λ row. is_lt (entry_cmp it row)) (λ row. ap (λ r. is_lt (ordering_then r (index_cmp i row.0))) h) rows

  upper-before : (k : Id8) (rows : ChunkRows) → id8_cmp k id ≡ Greater → before (tagged k rows) ≡ []
  upper-before k rows h = filter-none (λ (row : List ℕ × Option Place). (k, row.0, row.1)) (λ row. is_lt (entry_cmp row it)) (λ row. ap (λ r. is_lt (ordering_then r (index_cmp row.0 i))) h) rows

  upper-behind : (k : Id8) (rows : ChunkRows) → id8_cmp id k ≡ Less → behind (tagged k rows) ≡ tagged k rows
  upper-behind k rows h = filter-all (λ (row : List ℕ × Option Place). (k, row.0, row.1)) (λ row. is_lt (entry_cmp it row)) (λ row. ap (λ r. is_lt (ordering_then r (index_cmp i row.0))) h) rows

  own-before : (rows : ChunkRows) → before (tagged id rows) ≡ tagged id (filter (λ row. is_lt (index_cmp row.0 i)) rows)
  own-before rows = filter-map (λ (row : List ℕ × Option Place). (id, row.0, row.1)) (λ row. is_lt (entry_cmp row it)) (λ row. is_lt (index_cmp row.0 i)) (λ row. ap (λ r. is_lt (ordering_then r (index_cmp row.0 i))) (tied_itself id_total id)) rows

  own-behind : (rows : ChunkRows) → behind (tagged id rows) ≡ tagged id (filter (λ row. is_lt (index_cmp i row.0)) rows)
  own-behind rows = filter-map (λ (row : List ℕ × Option Place). (id, row.0, row.1)) (λ row. is_lt (entry_cmp it row)) (λ row. is_lt (index_cmp i row.0)) (λ row. ap (λ r. is_lt (ordering_then r (index_cmp i row.0))) (tied_itself id_total id)) rows

  rest-before : (es : Kept) → AllByRecursion (λ y. id8_cmp id y ≡ Less) (keys_of es) → before (entry_rows es) ≡ []
  rest-before [] h = refl
  rest-before (e ∷ es) h =
      filter-append (λ row. is_lt (entry_cmp row it)) (tagged e.0 e.1) (entry_rows es)
      ∙ (λ t. upper-before e.0 e.1 (turned_up id8_cmp id_total id e.0 h.0) t ++ rest-before es h.1 t)

  rest-behind : (es : Kept) → AllByRecursion (λ y. id8_cmp id y ≡ Less) (keys_of es) → behind (entry_rows es) ≡ entry_rows es
  rest-behind [] h = refl
  rest-behind (e ∷ es) h =
      filter-append (λ row. is_lt (entry_cmp it row)) (tagged e.0 e.1) (entry_rows es)
      ∙ (λ t. upper-behind e.0 e.1 h.0 t ++ rest-behind es h.1 t)

  step_lower : (e : Id8 × ChunkRows) (es : Kept) → id8_cmp id e.0 ≡ Greater → tagged e.0 e.1 ++ with_entry (entry_rows es) id i entry ≡ with_entry (entry_rows (e ∷ es)) id i entry
  step_lower e es h =
      let low : before (entry_rows (e ∷ es)) ≡ tagged e.0 e.1 ++ before (entry_rows es) =
      filter-append (λ row. is_lt (entry_cmp row it)) (tagged e.0 e.1) (entry_rows es) ∙ ap (λ (x : List (HeldEntry Place)). x ++ before (entry_rows es)) (lower-before e.0 e.1 (turned_down id8_cmp id_total id e.0 h)) in
      let high : behind (entry_rows (e ∷ es)) ≡ behind (entry_rows es) =
      filter-append (λ row. is_lt (entry_cmp it row)) (tagged e.0 e.1) (entry_rows es) ∙ ap (λ (x : List (HeldEntry Place)). x ++ behind (entry_rows es)) (lower-behind e.0 e.1 h) in
      sym (append_assoc (tagged e.0 e.1) (before (entry_rows es)) (it ∷ behind (entry_rows es))) ∙ (λ t. sym low t ++ it ∷ sym high t)

  -- of an array that has none yet
  pub put_new : (es : Kept) → IdsAscend (keys_of es) → lookup (is_at (id8_cmp id)) es ≡ None → entry_rows (put id8_cmp id ((i, entry) ∷ []) es) ≡ with_entry (entry_rows es) id i entry
  put_new [] h none = refl
  put_new (e ∷ es) h none = by_order (put_new es (sorted_tail id8_cmp e.0 (keys_of es) h)) (id8_cmp id e.0) refl
    where
      by_order : (lookup (is_at (id8_cmp id)) es ≡ None → entry_rows (put id8_cmp id ((i, entry) ∷ []) es) ≡ with_entry (entry_rows es) id i entry)
          → (r : Ordering) → id8_cmp id e.0 ≡ r → entry_rows (put id8_cmp id ((i, entry) ∷ []) (e ∷ es)) ≡ with_entry (entry_rows (e ∷ es)) id i entry
      by_order rest Less g =
          let over : AllByRecursion (λ y. id8_cmp id y ≡ Less) (keys_of (e ∷ es)) = (g, all_above id8_cmp id_total id e.0 g (keys_of es) (sorted_head id8_cmp e.0 (keys_of es) h)) in
          rw g (λ t. sym (rest-before (e ∷ es) over) t ++ it ∷ sym (rest-behind (e ∷ es) over) t)
      by_order rest Equal g =
          let bad : Some e.1 ≡ None = sym (ap (λ r. cond (is_eq r) (Some e.1) (lookup (is_at (id8_cmp id)) es)) g) ∙ none in cc
      by_order rest Greater g =
          let later : lookup (is_at (id8_cmp id)) es ≡ None = sym (ap (λ r. cond (is_eq r) (Some e.1) (lookup (is_at (id8_cmp id)) es)) g) ∙ none in
          rw g (ap (λ (x : List (HeldEntry Place)). tagged e.0 e.1 ++ x) (rest later) ∙ step_lower e es g)

  own_step : (rows : ChunkRows) (es : Kept) → AllByRecursion (λ y. id8_cmp id y ≡ Less) (keys_of es) → tagged id (with_row_at rows i entry) ++ entry_rows es ≡ with_entry (tagged id rows ++ entry_rows es) id i entry
  own_step rows es over =
      let low : ChunkRows = filter (λ row. is_lt (index_cmp row.0 i)) rows in
      let high : ChunkRows = filter (λ row. is_lt (index_cmp i row.0)) rows in
      let first : before (tagged id rows ++ entry_rows es) ≡ tagged id low =
      filter-append (λ row. is_lt (entry_cmp row it)) (tagged id rows) (entry_rows es) ∙ (λ t. own-before rows t ++ rest-before es over t) ∙ append-nil (tagged id low) in
      let second : behind (tagged id rows ++ entry_rows es) ≡ tagged id high ++ entry_rows es =
      filter-append (λ row. is_lt (entry_cmp it row)) (tagged id rows) (entry_rows es) ∙ (λ t. own-behind rows t ++ rest-behind es over t) in
      ap (λ (x : List (HeldEntry Place)). x ++ entry_rows es) (map-append (λ (row : List ℕ × Option Place). (id, row.0, row.1)) low ((i, entry) ∷ high))
      ∙ append_assoc (tagged id low) (it ∷ tagged id high) (entry_rows es)
      ∙ (λ t. sym first t ++ it ∷ sym second t)

  -- of an array that is put among the others
  pub insert_more : (es : Kept) (rows : ChunkRows) → IdsAscend (keys_of es) → IndicesAscend (keys_of rows)
      → entry_rows (insert_entry id8_cmp es id (insert_entry index_cmp rows i entry)) ≡ with_entry (entry_rows (insert_entry id8_cmp es id rows)) id i entry
  insert_more [] rows h sorted = ap (λ (x : ChunkRows). tagged id x ++ []) (row-inserted rows i entry sorted) ∙ own_step rows [] tt
  insert_more (e ∷ es) rows h sorted = by_order (insert_more es rows (sorted_tail id8_cmp e.0 (keys_of es) h) sorted) (id8_cmp id e.0) refl
    where
      by_order : entry_rows (insert_entry id8_cmp es id (insert_entry index_cmp rows i entry)) ≡ with_entry (entry_rows (insert_entry id8_cmp es id rows)) id i entry
          → (r : Ordering) → id8_cmp id e.0 ≡ r → entry_rows (insert_entry id8_cmp (e ∷ es) id (insert_entry index_cmp rows i entry)) ≡ with_entry (entry_rows (insert_entry id8_cmp (e ∷ es) id rows)) id i entry
      by_order rest Less g =
          let over : AllByRecursion (λ y. id8_cmp id y ≡ Less) (keys_of (e ∷ es)) = (g, all_above id8_cmp id_total id e.0 g (keys_of es) (sorted_head id8_cmp e.0 (keys_of es) h)) in
          rw g (ap (λ (x : ChunkRows). tagged id x ++ entry_rows (e ∷ es)) (row-inserted rows i entry sorted) ∙ own_step rows (e ∷ es) over)
      by_order rest Equal g =
          let same : id ≡ e.0 = id_exact id e.0 g in
          let over : AllByRecursion (λ y. id8_cmp id y ≡ Less) (keys_of es) = subst (λ (x : Id8). AllByRecursion (λ y. id8_cmp x y ≡ Less) (keys_of es)) (sym same) (sorted_head id8_cmp e.0 (keys_of es) h) in
          rw g
          ((λ t. tagged (sym same t) (row-inserted rows i entry sorted t) ++ entry_rows es) ∙ own_step rows es over ∙ (λ t. with_entry (tagged (same t) rows ++ entry_rows es) id i entry))
      by_order rest Greater g = rw g (ap (λ (x : List (HeldEntry Place)). tagged e.0 e.1 ++ x) rest ∙ step_lower e (insert_entry id8_cmp es id rows) g)

  -- of an array that has some
  pub set_old : (es : Kept) (rows after : ChunkRows) → IdsAscend (keys_of es) → lookup (is_at (id8_cmp id)) es ≡ Some rows → after ≡ with_row_at rows i entry
      → entry_rows (set_value (is_at (id8_cmp id)) es after) ≡ with_entry (entry_rows es) id i entry
  set_old [] rows after h found is = cc
  set_old (e ∷ es) rows after h found is = by_order (λ later. set_old es rows after (sorted_tail id8_cmp e.0 (keys_of es) h) later is) (id8_cmp id e.0) refl
    where
      by_order : (lookup (is_at (id8_cmp id)) es ≡ Some rows → entry_rows (set_value (is_at (id8_cmp id)) es after) ≡ with_entry (entry_rows es) id i entry)
          → (r : Ordering) → id8_cmp id e.0 ≡ r → entry_rows (set_value (is_at (id8_cmp id)) (e ∷ es) after) ≡ with_entry (entry_rows (e ∷ es)) id i entry
      by_order rest Less g =
          let bad : None ≡ Some rows = sym (lookup-none (is_at (id8_cmp id)) (e ∷ es) (none_below_head id_total id e es h g)) ∙ found in cc
      by_order rest Equal g =
          let same : id ≡ e.0 = id_exact id e.0 g in
          let its : e.1 ≡ rows = cc (sym (ap (λ r. cond (is_eq r) (Some e.1) (lookup (is_at (id8_cmp id)) es)) g) ∙ found) in
          let over : AllByRecursion (λ y. id8_cmp id y ≡ Less) (keys_of es) = subst (λ (x : Id8). AllByRecursion (λ y. id8_cmp x y ≡ Less) (keys_of es)) (sym same) (sorted_head id8_cmp e.0 (keys_of es) h) in
          ap (λ r. entry_rows (cond (is_eq r) ((e.0, after) ∷ es) (e ∷ set_value (is_at (id8_cmp id)) es after))) g
          ∙ (λ t. tagged (sym same t) (is t) ++ entry_rows es)
          ∙ own_step rows es over
          ∙ (λ t. with_entry (tagged (same t) (sym its t) ++ entry_rows es) id i entry)
      by_order rest Greater g =
          let later : lookup (is_at (id8_cmp id)) es ≡ Some rows = sym (ap (λ r. cond (is_eq r) (Some e.1) (lookup (is_at (id8_cmp id)) es)) g) ∙ found in
          ap (λ r. entry_rows (cond (is_eq r) ((e.0, after) ∷ es) (e ∷ set_value (is_at (id8_cmp id)) es after))) g
          ∙ ap (λ (x : List (HeldEntry Place)). tagged e.0 e.1 ++ x) (rest later) ∙ step_lower e es g

-- ---- what is said of one array
is_itself : (id : Id8) → same_id8 id id ≡ true
is_itself id = same_ids id id ∙ ap is_eq (tied_itself id_total id)

module _ (id : Id8) where
  not_same : (k : Id8) → id8_cmp id k ≡ Less → same_id8 k id ≡ false
  not_same k h = same_ids k id ∙ ap is_eq h

  -- the rows of arrays behind it
  abbrev Over : Kept → Type 0
  Over es = AllByRecursion (λ y. id8_cmp id y ≡ Less) (keys_of es)

  over_rest : (e : Id8 × ChunkRows) (es : Kept) → IdsAscend (keys_of (e ∷ es)) → id ≡ e.0 → Over es
  over_rest e es h same = subst (λ (x : Id8). AllByRecursion (λ y. id8_cmp x y ≡ Less) (keys_of es)) (sym same) (sorted_head id8_cmp e.0 (keys_of es) h)

  is_at_it : (k : Id8) → is_eq (id8_cmp id k) ≡ true → id ≡ k
  is_at_it k e = id_exact id k ((Equal-is (id8_cmp id k)).0 e)

  -- the entries without that of a chunk
  module _ (i : List ℕ) where
    abbrev other : HeldEntry Place → Bool
    other row = not (same_id8 row.0 id && same_numbers row.1 i)

    others-stay : (k : Id8) (rows : ChunkRows) → same_id8 k id ≡ false → filter other (tagged k rows) ≡ tagged k rows
    others-stay k rows h = filter-all (λ (row : List ℕ × Option Place). (k, row.0, row.1)) other (λ row. ap (λ b. not (b && same_numbers row.0 i)) h) rows

    own-stay : (rows : ChunkRows) → filter other (tagged id rows) ≡ tagged id (without_row_at rows i)
    own-stay rows = filter-map (λ (row : List ℕ × Option Place). (id, row.0, row.1)) other (λ row. not (same_numbers row.0 i)) (λ row. ap (λ b. not (b && same_numbers row.0 i)) (is_itself id)) rows

    rest-stay : (es : Kept) → Over es → filter other (entry_rows es) ≡ entry_rows es
    rest-stay [] h = refl
    rest-stay (e ∷ es) h = filter-append other (tagged e.0 e.1) (entry_rows es) ∙ (λ t. others-stay e.0 e.1 (not_same e.0 h.0) t ++ rest-stay es h.1 t)

    pub gone_old : (es : Kept) (rows after : ChunkRows) → IdsAscend (keys_of es) → lookup (is_at (id8_cmp id)) es ≡ Some rows → after ≡ without_row_at rows i
        → entry_rows (set_value (is_at (id8_cmp id)) es after) ≡ without_entry (entry_rows es) id i
    gone_old [] rows after h found is = cc
    gone_old (e ∷ es) rows after h found is = by_case (λ later. gone_old es rows after (sorted_tail id8_cmp e.0 (keys_of es) h) later is) (is_eq (id8_cmp id e.0)) refl
      where
        by_case : (lookup (is_at (id8_cmp id)) es ≡ Some rows → entry_rows (set_value (is_at (id8_cmp id)) es after) ≡ without_entry (entry_rows es) id i)
            → (b : Bool) → is_eq (id8_cmp id e.0) ≡ b → entry_rows (set_value (is_at (id8_cmp id)) (e ∷ es) after) ≡ without_entry (entry_rows (e ∷ es)) id i
        by_case rest true g =
            let same : id ≡ e.0 = is_at_it e.0 g in
            let its : e.1 ≡ rows = cc (sym (ap (λ b. cond b (Some e.1) (lookup (is_at (id8_cmp id)) es)) g) ∙ found) in
            ap (λ b. entry_rows (cond b ((e.0, after) ∷ es) (e ∷ set_value (is_at (id8_cmp id)) es after))) g
            ∙ (λ t. tagged (sym same t) (is t) ++ entry_rows es)
            ∙ (λ t. sym (own-stay rows) t ++ sym (rest-stay es (over_rest e es h same)) t)
            ∙ sym (filter-append other (tagged id rows) (entry_rows es))
            ∙ (λ t. filter other (tagged (same t) (sym its t) ++ entry_rows es))
        by_case rest false g =
            let later : lookup (is_at (id8_cmp id)) es ≡ Some rows = sym (ap (λ b. cond b (Some e.1) (lookup (is_at (id8_cmp id)) es)) g) ∙ found in
            ap (λ b. entry_rows (cond b ((e.0, after) ∷ es) (e ∷ set_value (is_at (id8_cmp id)) es after))) g
            ∙ (λ t. sym (others-stay e.0 e.1 (same_ids e.0 id ∙ g)) t ++ rest later t)
            ∙ sym (filter-append other (tagged e.0 e.1) (entry_rows es))

    pub gone_none : (es : Kept) → lookup (is_at (id8_cmp id)) es ≡ None → entry_rows es ≡ without_entry (entry_rows es) id i
    gone_none [] none = refl
    gone_none (e ∷ es) none = by_case (gone_none es) (is_eq (id8_cmp id e.0)) refl
      where
        by_case : (lookup (is_at (id8_cmp id)) es ≡ None → entry_rows es ≡ without_entry (entry_rows es) id i) → (b : Bool) → is_eq (id8_cmp id e.0) ≡ b → entry_rows (e ∷ es) ≡ without_entry (entry_rows (e ∷ es)) id i
        by_case rest true g = let bad : Some e.1 ≡ None = sym (ap (λ b. cond b (Some e.1) (lookup (is_at (id8_cmp id)) es)) g) ∙ none in cc
        by_case rest false g =
            let later : lookup (is_at (id8_cmp id)) es ≡ None = sym (ap (λ b. cond b (Some e.1) (lookup (is_at (id8_cmp id)) es)) g) ∙ none in
            (λ t. sym (others-stay e.0 e.1 (same_ids e.0 id ∙ g)) t ++ rest later t)
            ∙ sym (filter-append other (tagged e.0 e.1) (entry_rows es))

    -- the entry of a chunk
    abbrev its_chunk : HeldEntry Place → Bool
    its_chunk row = same_id8 row.0 id && same_numbers row.1 i

    not_among : (k : Id8) (rows : ChunkRows) (rest : List (HeldEntry Place)) → same_id8 k id ≡ false → entry_in (tagged k rows ++ rest) id i ≡ entry_in rest id i
    not_among k [] rest h = refl
    not_among k (row ∷ rows) rest h =
        ap (λ b. option_map (λ (r : HeldEntry Place). r.2) (cond (b && same_numbers row.0 i) (Some (k, row.0, row.1)) (find its_chunk (tagged k rows ++ rest)))) h ∙ not_among k rows rest h

    none_over : (es : Kept) → Over es → entry_in (entry_rows es) id i ≡ None
    none_over [] h = refl
    none_over (e ∷ es) h = not_among e.0 e.1 (entry_rows es) (not_same e.0 h.0) ∙ none_over es h.1

    turned_test : (j : List ℕ) → same_numbers j i ≡ is_eq (index_cmp i j)
    turned_test j = ap is_eq (index_total.antisymm j i) ∙ back (index_cmp i j)
      where
        back : (r : Ordering) → is_eq (ordering_reverse r) ≡ is_eq r
        back Less = refl
        back Equal = refl
        back Greater = refl

    among_own : (rows : ChunkRows) (rest : List (HeldEntry Place)) → entry_in rest id i ≡ None → entry_in (tagged id rows ++ rest) id i ≡ lookup (is_at (index_cmp i)) rows
    among_own [] rest none = none
    among_own (row ∷ rows) rest none =
        (λ t. option_map (λ (r : HeldEntry Place). r.2) (cond (is_itself id t && turned_test row.0 t) (Some (id, row.0, row.1)) (find its_chunk (tagged id rows ++ rest))))
        ∙ by_test (is_eq (index_cmp i row.0)) (among_own rows rest none)
      where
        by_test : (b : Bool) → entry_in (tagged id rows ++ rest) id i ≡ lookup (is_at (index_cmp i)) rows
            → option_map (λ (r : HeldEntry Place). r.2) (cond b (Some (id, row.0, row.1)) (find its_chunk (tagged id rows ++ rest))) ≡ cond b (Some row.1) (lookup (is_at (index_cmp i)) rows)
        by_test true e = refl
        by_test false e = e

    pub entry_found : (es : Kept) → IdsAscend (keys_of es) → entry_in (entry_rows es) id i ≡ option_and_then (lookup (is_at (index_cmp i))) (lookup (is_at (id8_cmp id)) es)
    entry_found [] h = refl
    entry_found (e ∷ es) h = by_case (entry_found es (sorted_tail id8_cmp e.0 (keys_of es) h)) (is_eq (id8_cmp id e.0)) refl
      where
        by_case : entry_in (entry_rows es) id i ≡ option_and_then (lookup (is_at (index_cmp i))) (lookup (is_at (id8_cmp id)) es)
            → (b : Bool) → is_eq (id8_cmp id e.0) ≡ b → entry_in (entry_rows (e ∷ es)) id i ≡ option_and_then (lookup (is_at (index_cmp i))) (cond (is_eq (id8_cmp id e.0)) (Some e.1) (lookup (is_at (id8_cmp id)) es))
        by_case rest true g =
            let same : id ≡ e.0 = is_at_it e.0 g in
            (λ t. entry_in (tagged (sym same t) e.1 ++ entry_rows es) id i)
            ∙ among_own e.1 (entry_rows es) (none_over es (over_rest e es h same))
            ∙ sym (ap (λ b. option_and_then (lookup (is_at (index_cmp i))) (cond b (Some e.1) (lookup (is_at (id8_cmp id)) es))) g)
        by_case rest false g =
            not_among e.0 e.1 (entry_rows es) (same_ids e.0 id ∙ g) ∙ rest
            ∙ sym (ap (λ b. option_and_then (lookup (is_at (index_cmp i))) (cond b (Some e.1) (lookup (is_at (id8_cmp id)) es))) g)

  -- the entries of an array
  abbrev its : HeldEntry Place → Bool
  its row = same_id8 row.0 id

  abbrev bare : HeldEntry Place → List ℕ × Option Place
  bare row = (row.1, row.2)

  untagged : (rows : ChunkRows) → map bare (tagged id rows) ≡ rows
  untagged [] = refl
  untagged (row ∷ rows) = ap (λ (x : ChunkRows). row ∷ x) (untagged rows)

  no_others : (k : Id8) (rows : ChunkRows) → same_id8 k id ≡ false → filter its (tagged k rows) ≡ []
  no_others k rows h = filter-none (λ (row : List ℕ × Option Place). (k, row.0, row.1)) its (λ row. h) rows

  all_own : (rows : ChunkRows) → filter its (tagged id rows) ≡ tagged id rows
  all_own rows = filter-all (λ (row : List ℕ × Option Place). (id, row.0, row.1)) its (λ row. is_itself id) rows

  none_later : (es : Kept) → Over es → filter its (entry_rows es) ≡ []
  none_later [] h = refl
  none_later (e ∷ es) h = filter-append its (tagged e.0 e.1) (entry_rows es) ∙ (λ t. no_others e.0 e.1 (not_same e.0 h.0) t ++ none_later es h.1 t)

  pub rows_found : (es : Kept) → IdsAscend (keys_of es) → chunks_of (entry_rows es) id ≡ unwrap_or (lookup (is_at (id8_cmp id)) es) []
  rows_found [] h = refl
  rows_found (e ∷ es) h = by_case (rows_found es (sorted_tail id8_cmp e.0 (keys_of es) h)) (is_eq (id8_cmp id e.0)) refl
    where
      by_case : chunks_of (entry_rows es) id ≡ unwrap_or (lookup (is_at (id8_cmp id)) es) [] → (b : Bool) → is_eq (id8_cmp id e.0) ≡ b → chunks_of (entry_rows (e ∷ es)) id ≡ unwrap_or (cond (is_eq (id8_cmp id e.0)) (Some e.1) (lookup (is_at (id8_cmp id)) es)) []
      by_case rest true g =
          let same : id ≡ e.0 = is_at_it e.0 g in
          (λ t. map bare (filter its (tagged (sym same t) e.1 ++ entry_rows es)))
          ∙ ap (map bare) (filter-append its (tagged id e.1) (entry_rows es) ∙ (λ t. all_own e.1 t ++ none_later es (over_rest e es h same) t) ∙ append-nil (tagged id e.1))
          ∙ untagged e.1
          ∙ sym (ap (λ b. unwrap_or (cond b (Some e.1) (lookup (is_at (id8_cmp id)) es)) []) g)
      by_case rest false g =
          ap (map bare) (filter-append its (tagged e.0 e.1) (entry_rows es) ∙ ap (λ (x : List (HeldEntry Place)). x ++ filter its (entry_rows es)) (no_others e.0 e.1 (same_ids e.0 id ∙ g)))
          ∙ rest
          ∙ sym (ap (λ b. unwrap_or (cond b (Some e.1) (lookup (is_at (id8_cmp id)) es)) []) g)

-- ---- whether an array has entries, and their indices
abbrev bared : {P : Type 0} → HeldEntry P → List ℕ × Option P
bared r = (r.1, r.2)

pub has-rows : {P : Type 0} (rows : List (HeldEntry P)) (id : Id8) → has_chunks rows id ≡ not (nat_eq (length (chunks_of rows id)) 0)
has-rows [] id = refl
has-rows {P} (row ∷ rows) id = by_test (same_id8 row.0 id) (has-rows rows id)
  where
    by_test : (b : Bool) → has_chunks rows id ≡ not (nat_eq (length (chunks_of rows id)) 0)
        → (b || has_chunks rows id) ≡ not (nat_eq (length (map bared (cond b (row ∷ filter (λ (r : HeldEntry P). same_id8 r.0 id) rows) (filter (λ (r : HeldEntry P). same_id8 r.0 id) rows)))) 0)
    by_test true e = ap not (sym (not_zero (length (map bared (filter (λ (r : HeldEntry P). same_id8 r.0 id) rows)))))
    by_test false e = e

pub indices-rows : {P : Type 0} (rows : List (HeldEntry P)) (id : Id8) → indices_of rows id ≡ keys_of (chunks_of rows id)
indices-rows {P} rows id = fused (filter (λ (r : HeldEntry P). same_id8 r.0 id) rows)
  where
    fused : (rows : List (HeldEntry P)) → map (λ (r : HeldEntry P). r.1) rows ≡ keys_of (map (λ (r : HeldEntry P). (r.1, r.2)) rows)
    fused [] = refl
    fused (row ∷ rows) = ap (λ (x : List (List ℕ)). row.1 ∷ x) (fused rows)

-- ---- those of the arrays that pass a test
pub entries-filter : (test : Id8 → Bool) (es : Kept) → entry_rows (filter (λ (e : Id8 × ChunkRows). test e.0) es) ≡ filter (λ (row : HeldEntry Place). test row.0) (entry_rows es)
entries-filter test [] = refl
entries-filter test (e ∷ es) = by_case (test e.0) refl (entries-filter test es)
  where
    by_case : (b : Bool) → test e.0 ≡ b → entry_rows (filter (λ (x : Id8 × ChunkRows). test x.0) es) ≡ filter (λ (row : HeldEntry Place). test row.0) (entry_rows es)
        → entry_rows (cond (test e.0) (e ∷ filter (λ (x : Id8 × ChunkRows). test x.0) es) (filter (λ (x : Id8 × ChunkRows). test x.0) es)) ≡ filter (λ (row : HeldEntry Place). test row.0) (entry_rows (e ∷ es))
    by_case true g rest =
        ap (λ b. entry_rows (cond b (e ∷ filter (λ (x : Id8 × ChunkRows). test x.0) es) (filter (λ (x : Id8 × ChunkRows). test x.0) es))) g
        ∙ (λ t. sym (filter-all (λ (row : List ℕ × Option Place). (e.0, row.0, row.1)) (λ (row : HeldEntry Place). test row.0) (λ row. g) e.1) t ++ rest t)
        ∙ sym (filter-append (λ (row : HeldEntry Place). test row.0) (tagged e.0 e.1) (entry_rows es))
    by_case false g rest =
        ap (λ b. entry_rows (cond b (e ∷ filter (λ (x : Id8 × ChunkRows). test x.0) es) (filter (λ (x : Id8 × ChunkRows). test x.0) es))) g
        ∙ (λ t. sym (filter-none (λ (row : List ℕ × Option Place). (e.0, row.0, row.1)) (λ (row : HeldEntry Place). test row.0) (λ row. g) e.1) t ++ rest t)
        ∙ sym (filter-append (λ (row : HeldEntry Place). test row.0) (tagged e.0 e.1) (entry_rows es))
