-- What the tests of the detector say.
use Rattle.std.proofs.Common.{◌≡◌, ◌∙◌, ℕ, Bool, true, false, cond, not, ◌&&◌, ◌||◌, T, List, [], ◌∷◌, map, length, Option, Some, None, is_some, option_map, refl, sym, ap, subst, ◌⊎◌, inl, inr, arith}
use Rattle.std.specs.Prelude.{find, ◌==◌}
use Rattle.std.specs.declared.cmp.Ordering.{Ordering}
use Rattle.std.specs.declared.cmp.Ordering.TheVariants.{Less, Equal, Greater}
use Rattle.std.specs.Ordering.{is_eq, is_lt}
use Rattle.std.specs.List.{list_any, list_all, AllByRecursion}
use Rattle.std.specs.List.Sorted.{IsStrictlySortedBy}
use Rattle.std.specs.FinMap as map
use Rattle.std.specs.FinMap.{FinMap, is_sorted, get, keys, entries, entries_sorted, get-entries, contains_key-keys}
use Rattle.ice_ids.specs.declared.Id8.{Id8}
use Rattle.ice_ids.specs.Text.{same_id8}
use Rattle.zarr_path.specs.Paths.{path_cmp, same_path, is_within, is_beneath}
use Rattle.zarr_path.proofs.OrderLaws.{same_path-true, same_path-refl, same_path-false}
use Rattle.zarr_path.proofs.PathLaws.{by_numbers}
use Rattle.std.proofs.lemmas.Bool.{false_from_ne_true}
use Rattle.manifest_file.specs.declared.manifest.Place.{Place}
use Rattle.zarr_tree.specs.declared.lists.ArrayChunks.{ArrayChunks}
use Rattle.zarr_tree.specs.declared.lists.Touched.{Touched}
use Rattle.zarr_tree.specs.Nodes.{Node, same_numbers}
use Rattle.zarr_tree.specs.Trees.{Tree}
use Rattle.zarr_tree.specs.Touched.{lists_index, lists_chunk, lists_new}
use Rattle.zarr_tree.specs.Held.{Held, HeldEntry, Rows, entry_in, changes_of}
use Rattle.zarr_tree.specs.Conflicts.{HasEntry, HasChunkListed, HasNewBeneath}
use Rattle.zarr_tree.proofs.Apply.{both, first, second}
use Rattle.zarr_changes.specs.Sets.{has_chunks}
use Rattle.held_log.specs.LookUp.{chunks_listed}
use Rattle.conflicts.specs.Found.{new_rows}
use Rattle.conflicts.proofs.Members.{In, InTurn, turn-filter, turn-map, any-in, in-any, in-filter, filter-in, in-flat, flat-in}

-- ---- tests
pub turned : (b : Bool) → not b ≡ true → b ≡ false
turned true h = cc
turned false h = refl

pub turned-back : (b : Bool) → b ≡ false → not b ≡ true
turned-back true h = cc
turned-back false h = refl

pub either : (a b : Bool) → (a || b) ≡ true → (a ≡ true) ⊎ (b ≡ true)
either true b h = inl refl
either false b h = inr h

pub or-left : (a b : Bool) → a ≡ true → (a || b) ≡ true
or-left true b h = refl
or-left false b h = cc

pub or-right : (a b : Bool) → b ≡ true → (a || b) ≡ true
or-right true b h = refl
or-right false b h = h

pub none-of : {A : Type 0} (o : Option A) → is_some o ≡ false → o ≡ None
none-of None h = refl
none-of (Some x) h = cc

pub of-none : {A : Type 0} (o : Option A) → o ≡ None → is_some o ≡ false
of-none None h = refl
of-none (Some x) h = cc

pub some-map : {A B : Type 0} (f : A → B) (o : Option A) → is_some (option_map f o) ≡ is_some o
some-map f None = refl
some-map f (Some x) = refl

-- ---- rows of maps
T-first : (a b : Bool) → T (a && b) → T a
T-first true b p = tt
T-first false b p = p

T-second : (a b : Bool) → T (a && b) → T b
T-second true b p = p
T-second false b p = absurd p

abbrev is_below : List ℕ → Rows → Bool
is_below x rows = list_all (λ (e : List ℕ × Node). is_lt (path_cmp x e.0)) rows

find-in : (rows : Rows) (p : List ℕ) (n : Node) → map.find path_cmp p rows ≡ Some n → In rows (p, n)
find-in [] p n h = cc
find-in (e ∷ es) p n h = elim (same_path p e.0) as (λ b. same_path p e.0 ≡ b → cond b (Some e.1) (map.find path_cmp p es) ≡ Some n → In (e ∷ es) (p, n)) [
  | true ↦ λ k l. let is : e.1 ≡ n = cc l in inl (λ i. (sym (same_path-true p e.0 k) i, is i))
  | false ↦ λ k l. inr (find-in es p n l)
] refl h

above : (x : List ℕ) (rows : Rows) (e : List ℕ × Node) → T (is_below x rows) → In rows e → same_path e.0 x ≡ false
above x [] e h k = absurd k
above x (r ∷ rs) e h (inl k) = same_path-false e.0 x (λ is. not_below (is_lt (path_cmp x r.0)) (T-first (is_lt (path_cmp x r.0)) (is_below x rs) h) (ap (λ q. is_lt (path_cmp x q)) (ap (λ (d : List ℕ × Node). d.0) k ∙ is) ∙ itself x))
  where
    itself : (q : List ℕ) → is_lt (path_cmp q q) ≡ false
    itself q = of_eq (path_cmp q q) (same_path-refl q)
      where
        of_eq : (o : Ordering) → is_eq o ≡ true → is_lt o ≡ false
        of_eq Less e = cc
        of_eq Equal e = refl
        of_eq Greater e = cc

    not_below : (b : Bool) → T b → b ≡ false → ⊥
    not_below true t e = cc
    not_below false t e = t
above x (r ∷ rs) e h (inr k) = above x rs e (T-second (is_lt (path_cmp x r.0)) (is_below x rs) h) k

in-find : (rows : Rows) (p : List ℕ) (n : Node) → T (is_sorted path_cmp rows) → In rows (p, n) → map.find path_cmp p rows ≡ Some n
in-find [] p n s h = absurd h
in-find (e ∷ es) p n s (inl k) = ap (λ b. cond b (Some e.1) (map.find path_cmp p es)) (ap (same_path p) (ap (λ (d : List ℕ × Node). d.0) k) ∙ same_path-refl p) ∙ ap (λ (d : List ℕ × Node). Some d.1) k
in-find (e ∷ es) p n s (inr k) = ap (λ b. cond b (Some e.1) (map.find path_cmp p es)) (above e.0 es (p, n) (T-first (is_below e.0 es) (is_sorted path_cmp es) s) k) ∙ in-find es p n (T-second (is_below e.0 es) (is_sorted path_cmp es) s) k

module _ (m : FinMap path_cmp Node) where
  pub row-in : (p : List ℕ) (n : Node) → get m p ≡ Some n → In (entries m) (p, n)
  row-in p n h = find-in (entries m) p n (sym (get-entries m p) ∙ h)

  pub in-row : (e : List ℕ × Node) → In (entries m) e → get m e.0 ≡ Some e.1
  in-row e h = get-entries m e.0 ∙ in-find (entries m) e.0 e.1 (entries_sorted m) h

  pub key-in : (p : List ℕ) → is_some (get m p) ≡ true → In (keys m) p
  key-in p h = let r = any-in (same_path p) (keys m) (sym (contains_key-keys m p) ∙ h) in subst (In (keys m)) (sym (same_path-true p r.0 r.2)) r.1

  pub in-key : (p : List ℕ) → In (keys m) p → is_some (get m p) ≡ true
  in-key p h = contains_key-keys m p ∙ in-any (same_path p) (keys m) p h (same_path-refl p)

-- ---- what rises
pub tested : {A : Type 0} (f : A → Bool) (xs : List A) → list_all f xs ≡ true → (y : A) → In xs y → f y ≡ true
tested f [] h y k = absurd k
tested f (x ∷ xs) h y (inl e) = ap f (sym e) ∙ first (f x) _ h
tested f (x ∷ xs) h y (inr k) = tested f xs (second (f x) _ h) y k

pub less : (o : Ordering) → is_lt o ≡ true → o ≡ Less
less Less h = refl
less Equal h = cc
less Greater h = cc

abbrev pub Rise : List ℕ → List ℕ → Type 0
Rise p q = path_cmp p q ≡ Less

abbrev pub Before : List ℕ × Node → List ℕ × Node → Type 0
Before d e = path_cmp d.0 e.0 ≡ Less

T-true : (b : Bool) → T b → b ≡ true
T-true true h = refl
T-true false h = absurd h

pub rows-turn : (rows : Rows) → T (is_sorted path_cmp rows) → InTurn Before rows
rows-turn [] h = tt
rows-turn (e ∷ es) h = (
  λ d k. less _ (tested (λ (d : List ℕ × Node). is_lt (path_cmp e.0 d.0)) es (T-true _ (T-first (is_below e.0 es) (is_sorted path_cmp es) h)) d k),
  rows-turn es (T-second (is_below e.0 es) (is_sorted path_cmp es) h),
)

pub keys-turn : (m : FinMap path_cmp Node) → InTurn Rise (keys m)
keys-turn m = turn-map Before Rise (λ (e : List ℕ × Node). e.0) (entries m) (rows-turn (entries m) (entries_sorted m)) (λ d e lt. lt)

turn-all : (R : List ℕ → List ℕ → Type 0) (p : List ℕ) (ps : List (List ℕ)) → ((q : List ℕ) → In ps q → R p q) → AllByRecursion (R p) ps
turn-all R p [] h = tt
turn-all R p (q ∷ qs) h = (h q (inl refl), turn-all R p qs (λ r k. h r (inr k)))

pub turn-sorted : (ps : List (List ℕ)) → InTurn Rise ps → IsStrictlySortedBy path_cmp ps
unfolding IsStrictlySortedBy
turn-sorted [] h = tt
turn-sorted (p ∷ ps) h = (turn-all Rise p ps h.0, turn-sorted ps h.1)

-- the added paths, and those of new nodes, rise
pub keys-sorted : (m : FinMap path_cmp Node) → IsStrictlySortedBy path_cmp (keys m)
keys-sorted m = turn-sorted (keys m) (keys-turn m)

pub news-sorted : (s : Touched) (m : FinMap path_cmp Node) → IsStrictlySortedBy path_cmp (map (λ (row : List ℕ × Node). row.0) (new_rows s m))
news-sorted s m =
    turn-sorted _ (turn-map Before Rise (λ (e : List ℕ × Node). e.0) (new_rows s m)
    (turn-filter Before (λ (row : List ℕ × Node). lists_new s row.1.id) (entries m) (rows-turn (entries m) (entries_sorted m))) (λ d e lt. lt))

-- ---- entries
module _ {P : Type 0} where
  pub entry-found : (rows : List (HeldEntry P)) (id : Id8) (i : List ℕ) → is_some (entry_in rows id i) ≡ true → has_chunks rows id ≡ true
  entry-found [] id i h = cc
  entry-found (r ∷ rs) id i h = by_id (entry-found rs id i) (same_id8 r.0 id) (same_numbers r.1 i) h
    where
      by_id : (is_some (entry_in rs id i) ≡ true → has_chunks rs id ≡ true) → (a b : Bool)
          → is_some (option_map (λ (row : HeldEntry P). row.2) (cond (a && b) (Some r) (find (λ (row : HeldEntry P). same_id8 row.0 id && same_numbers row.1 i) rs))) ≡ true → (a || has_chunks rs id) ≡ true
      by_id f true b h = refl
      by_id f false b h = f h

  abbrev FoundEntry : List (HeldEntry P) → Id8 → Type 0
  FoundEntry rows id = (i : List ℕ) × (is_some (entry_in rows id i) ≡ true)

  found-entry : (rows : List (HeldEntry P)) (id : Id8) → has_chunks rows id ≡ true → FoundEntry rows id
  found-entry [] id h = cc
  found-entry (e ∷ es) id h = by_id (found-entry es id) (same_id8 e.0 id) refl h
    where
      rest : List ℕ → Option (HeldEntry P)
      rest i = find (λ (row : HeldEntry P). same_id8 row.0 id && same_numbers row.1 i) es

      at_last : (i : List ℕ) → is_some (entry_in es id i) ≡ true → (b : Bool) → is_some (option_map (λ (row : HeldEntry P). row.2) (cond b (Some e) (rest i))) ≡ true
      at_last i x true = refl
      at_last i x false = x

      by_id : (has_chunks es id ≡ true → FoundEntry es id) → (a : Bool) → same_id8 e.0 id ≡ a → (a || has_chunks es id) ≡ true → FoundEntry (e ∷ es) id
      by_id f true is h = (e.1, ap (λ b. is_some (option_map (λ (row : HeldEntry P). row.2) (cond b (Some e) (rest e.1)))) (both _ _ is (same_path-refl e.1)))
      by_id f false is h = let x = f h in (x.0, at_last x.0 x.1 (same_id8 e.0 id && same_numbers e.1 x.0))

module _ (bytes_at : Place → Option (List ℕ)) (h : Held Place) where
  pub entry-is : (id : Id8) (i : List ℕ) → is_some ((changes_of bytes_at h).chunks id i) ≡ is_some (entry_in h.chunks id i)
  entry-is id i = some-map _ (entry_in h.chunks id i)

  pub entry-has : (id : Id8) → HasEntry (changes_of bytes_at h) id → has_chunks h.chunks id ≡ true
  entry-has id e = entry-found h.chunks id e.index (sym (entry-is id e.index) ∙ e.entry)

  pub has-entry : (id : Id8) → has_chunks h.chunks id ≡ true → HasEntry (changes_of bytes_at h) id
  has-entry id e = let x = found-entry h.chunks id e in record { index = x.0; entry = entry-is id x.0 ∙ x.1 }

-- ---- listed chunks
abbrev picked : Id8 → ArrayChunks → List (List ℕ)
picked id array = cond (same_id8 array.node id) array.chunks []

pub listed-in : (arrays : List ArrayChunks) (id : Id8) (i : List ℕ) → lists_chunk arrays id i ≡ true → In (chunks_listed arrays id) i
listed-in arrays id i h =
    let a = any-in (λ (array : ArrayChunks). same_id8 array.node id && lists_index array.chunks i) arrays h in
    let j = any-in (λ (other : List ℕ). same_numbers other i) a.0.chunks (second (same_id8 a.0.node id) _ a.2) in
    flat-in (picked id) arrays a.0 i a.1
    (subst (λ b. In (cond b a.0.chunks []) i) (sym (first (same_id8 a.0.node id) _ a.2)) (subst (In a.0.chunks) (same_path-true j.0 i j.2) j.1))

pub in-listed : (arrays : List ArrayChunks) (id : Id8) (i : List ℕ) → In (chunks_listed arrays id) i → lists_chunk arrays id i ≡ true
in-listed arrays id i h =
    let a = in-flat (picked id) arrays i h in
    in-any (λ (array : ArrayChunks). same_id8 array.node id && lists_index array.chunks i) arrays a.0 a.1 (by_id a.0 (same_id8 a.0.node id) refl a.2)
  where
    by_id : (a : ArrayChunks) (b : Bool) → same_id8 a.node id ≡ b → In (cond b a.chunks []) i → (same_id8 a.node id && lists_index a.chunks i) ≡ true
    by_id a true e k = both _ _ e (in-any (λ (other : List ℕ). same_numbers other i) a.chunks i k (same_path-refl i))
    by_id a false e k = absurd k

some-in : (xs : List (List ℕ)) → not (length xs == 0) ≡ true → (i : List ℕ) × In xs i
some-in [] h = cc
some-in (x ∷ xs) h = (x, inl refl)

in-some : (xs : List (List ℕ)) (i : List ℕ) → In xs i → not (length xs == 0) ≡ true
in-some [] i h = absurd h
in-some (x ∷ xs) i h = turned-back _ (false_from_ne_true (length (x ∷ xs) == 0) (λ e. let zero_is : length (x ∷ xs) ≡ 0 = (by_numbers (length (x ∷ xs)) 0).0 e in omega arith))

pub has-listed : (s : Touched) (id : Id8) → not (length (chunks_listed s.updated_chunks id) == 0) ≡ true → HasChunkListed s id
has-listed s id h = let x = some-in (chunks_listed s.updated_chunks id) h in record { index = x.0; listed = in-listed s.updated_chunks id x.0 x.1 }

pub listed-has : (s : Touched) (id : Id8) → HasChunkListed s id → not (length (chunks_listed s.updated_chunks id) == 0) ≡ true
listed-has s id h = in-some (chunks_listed s.updated_chunks id) h.index (listed-in s.updated_chunks id h.index h.listed)

-- ---- new nodes beneath a path
pub has-beneath : (s : Touched) (u : Tree) (p : List ℕ) → list_any (λ (row : List ℕ × Node). is_beneath p row.0) (new_rows s u.nodes) ≡ true → HasNewBeneath s u p
has-beneath s u p h =
    let r = any-in (λ (row : List ℕ × Node). is_beneath p row.0) (new_rows s u.nodes) h in
    let k = in-filter (λ (row : List ℕ × Node). lists_new s row.1.id) (entries u.nodes) r.0 r.1 in
    record {
      path = r.0.0;
      node = r.0.1;
      beneath = first (is_within p r.0.0) _ r.2;
      apart = λ e. let bad : same_path r.0.0 p ≡ true = ap (same_path r.0.0) e ∙ same_path-refl r.0.0 in let good : same_path r.0.0 p ≡ false = turned _ (second (is_within p r.0.0) _ r.2) in cc;
      found = in-row u.nodes r.0 k.0;
      listed = k.1;
    }

pub beneath-has : (s : Touched) (u : Tree) (p : List ℕ) → HasNewBeneath s u p → list_any (λ (row : List ℕ × Node). is_beneath p row.0) (new_rows s u.nodes) ≡ true
beneath-has s u p h =
    in-any (λ (row : List ℕ × Node). is_beneath p row.0) (new_rows s u.nodes) (h.path, h.node)
    (filter-in (λ (row : List ℕ × Node). lists_new s row.1.id) (entries u.nodes) (h.path, h.node) (row-in u.nodes h.path h.node h.found) h.listed)
    (both _ _ h.beneath (turned-back _ (same_path-false h.path p (λ e. h.apart (sym e)))))
