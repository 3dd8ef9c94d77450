-- A chunk's entry, and the changes that it makes.
use Rattle.std.proofs.Common.{◌≡◌, ℕ, Bool, true, false, cond, not, ◌&&◌, List, [], ◌∷◌, ◌++◌, Option, Some, None, is_some, option_map, refl, sym, ap, ◌∙◌}
use Rattle.std.specs.Prelude.{find}
use Rattle.std.specs.Option.{option_and_then, option_or}
use Rattle.std.specs.declared.cmp.Ordering.{Ordering}
use Rattle.std.specs.declared.cmp.Ordering.TheVariants.{Less, Equal, Greater}
use Rattle.std.specs.Ordering.{is_eq, is_lt, ordering_reverse, ordering_then}
use Rattle.std.specs.Cmp.{both_ways, Equal-is, tied_itself}
use Rattle.std.specs.List.{filter}
use Rattle.std.specs.FinMap.{get}
use Rattle.ice_ids.specs.declared.Id8.{Id8}
use Rattle.ice_ids.specs.Text.{same_id8, id8_cmp}
use Rattle.zarr_path.specs.Indices.{index_cmp}
use Rattle.zarr_tree.specs.Nodes.{Node, same_numbers}
use Rattle.zarr_tree.specs.Changes as changes
use Rattle.zarr_tree.specs.Held.{Held, HeldEntry, entry_in, changes_of, nodes_over}
use Rattle.zarr_tree.proofs.Apply.{id-true, first, second}
use Rattle.zarr_changes.specs.Edits.{entry_cmp, with_entry, without_entry, placed_chunk, unplaced_chunk, lists_key, without_chunks}
use Rattle.zarr_changes.specs.Laws.{SetLaw, UnsetLaw, TakenLaw}
use Rattle.zarr_changes.proofs.IdLaws.{id_total, same_ids}
use Rattle.zarr_changes.proofs.EditLaws.{same-turned}
use Rattle.zarr_changes.proofs.EntryLaws.{index_total, index_exact}

-- ---- what is found in parts of a list
find-append : {A : Type 0} (t : A → Bool) (xs ys : List A) → find t (xs ++ ys) ≡ option_or (find t xs) (find t ys)
find-append t [] ys = refl
find-append t (x ∷ xs) ys = by_test (t x) (find-append t xs ys)
  where
    by_test : (b : Bool) → find t (xs ++ ys) ≡ option_or (find t xs) (find t ys) → cond b (Some x) (find t (xs ++ ys)) ≡ option_or (cond b (Some x) (find t xs)) (find t ys)
    by_test true h = refl
    by_test false h = h

-- where the parts' test answers b at all that may be found
find-filter : {A : Type 0} (t p : A → Bool) (b : Bool) → ((x : A) → t x ≡ true → p x ≡ b) → (xs : List A) → find t (filter p xs) ≡ cond b (find t xs) None
find-filter t p true same [] = refl
find-filter t p false same [] = refl
find-filter {A} t p b same (x ∷ xs) = by_test (t x) refl (p x) refl (find-filter t p b same xs)
  where
    by_test : (s : Bool) → t x ≡ s → (c : Bool) → p x ≡ c → find t (filter p xs) ≡ cond b (find t xs) None
        → find t (cond c (x ∷ filter p xs) (filter p xs)) ≡ cond b (cond s (Some x) (find t xs)) None
    by_test true e true f rest =
        let kept : b ≡ true = sym (same x e) ∙ f in
        ap (λ d. cond d (Some x) (find t (filter p xs))) e ∙ ap (λ d. cond d (Some x) None) (sym kept)
    by_test true e false f rest =
        let gone : b ≡ false = sym (same x e) ∙ f in
        rest ∙ ap (λ d. cond d (find t xs) None) gone ∙ ap (λ d. cond d (Some x) None) (sym gone)
    by_test false e true f rest = ap (λ d. cond d (Some x) (find t (filter p xs))) e ∙ rest
    by_test false e false f rest = rest

-- ---- the chunk that an entry is for
abbrev is_for : {P : Type 0} → Id8 → List ℕ → HeldEntry P → Bool
is_for id j row = same_id8 row.0 id && same_numbers row.1 j

numbers-true : (x y : List ℕ) → same_numbers x y ≡ true → x ≡ y
numbers-true x y e = index_exact x y ((Equal-is (index_cmp x y)).0 e)

numbers-refl : (x : List ℕ) → same_numbers x x ≡ true
numbers-refl x = ap is_eq (tied_itself index_total x)

pub numbers-turned : (x y : List ℕ) → same_numbers x y ≡ same_numbers y x
numbers-turned x y = both_ways _ _ (λ e. ap (same_numbers y) (numbers-true x y e) ∙ numbers-refl y) (λ e. ap (same_numbers x) (numbers-true y x e) ∙ numbers-refl x)

then_tied : (r s : Ordering) → (is_eq r && is_eq s) ≡ is_eq (ordering_then r s)
then_tied Less s = refl
then_tied Equal s = refl
then_tied Greater s = refl

turned_then : (r s : Ordering) → ordering_then (ordering_reverse r) (ordering_reverse s) ≡ ordering_reverse (ordering_then r s)
turned_then Less s = refl
turned_then Equal s = refl
turned_then Greater s = refl

-- a list in which one more is put between what is found on both sides
between : {A : Type 0} (q : Ordering) (it found : Option A) → option_or (cond (is_lt (ordering_reverse q)) found None) (cond (is_eq q) it (cond (is_lt q) found None)) ≡ cond (is_eq q) it found
between Less it found = refl
between Equal it found = refl
between Greater it None = refl
between Greater it (Some x) = refl

module _ (k : Id8) (i : List ℕ) (id : Id8) (j : List ℕ) where
  -- how the chunk (k, i) is ordered to (id, j), and whether it is the same
  abbrev order : Ordering
  order = ordering_then (id8_cmp k id) (index_cmp i j)

  abbrev same_chunk : Bool
  same_chunk = same_id8 id k && same_numbers j i

  tied_same : is_eq order ≡ same_chunk
  tied_same = sym (then_tied (id8_cmp k id) (index_cmp i j)) ∙ (λ t. sym (same_ids id k) t && numbers-turned i j t)

  turned_order : ordering_then (id8_cmp id k) (index_cmp j i) ≡ ordering_reverse order
  turned_order = (λ t. ordering_then (id_total.antisymm id k t) (index_total.antisymm j i t)) ∙ turned_then (id8_cmp k id) (index_cmp i j)

  its_id : {P : Type 0} (row : HeldEntry P) → is_for id j row ≡ true → row.0 ≡ id
  its_id row e = id-true row.0 id (first (same_id8 row.0 id) (same_numbers row.1 j) e)

  its_index : {P : Type 0} (row : HeldEntry P) → is_for id j row ≡ true → row.1 ≡ j
  its_index row e = numbers-true row.1 j (second (same_id8 row.0 id) (same_numbers row.1 j) e)

  -- an entry more
  pub entry-with : {P : Type 0} (rows : List (HeldEntry P)) (entry : Option P) → entry_in (with_entry rows k i entry) id j ≡ cond same_chunk (Some entry) (entry_in rows id j)
  entry-with {P} rows entry =
      let it : HeldEntry P = (k, i, entry) in
      let before : find (is_for id j) (filter (λ (row : HeldEntry P). is_lt (entry_cmp row it)) rows) ≡ cond (is_lt (ordering_reverse order)) (find (is_for id j) rows) None =
      find-filter (is_for id j) (λ (row : HeldEntry P). is_lt (entry_cmp row it)) (is_lt (ordering_reverse order))
      (λ row e. ap is_lt ((λ t. ordering_then (id8_cmp (its_id row e t) k) (index_cmp (its_index row e t) i)) ∙ turned_order)) rows in
      let behind : find (is_for id j) (filter (λ (row : HeldEntry P). is_lt (entry_cmp it row)) rows) ≡ cond (is_lt order) (find (is_for id j) rows) None =
      find-filter (is_for id j) (λ (row : HeldEntry P). is_lt (entry_cmp it row)) (is_lt order)
      (λ row e. ap is_lt (λ t. ordering_then (id8_cmp k (its_id row e t)) (index_cmp i (its_index row e t)))) rows in
      let here : is_for id j it ≡ is_eq order = (λ t. same-turned k id t && numbers-turned i j t) ∙ sym tied_same in
      ap (option_map (λ (row : HeldEntry P). row.2))
      (find-append (is_for id j) (filter (λ (row : HeldEntry P). is_lt (entry_cmp row it)) rows) (it ∷ filter (λ (row : HeldEntry P). is_lt (entry_cmp it row)) rows)
      ∙ (λ t. option_or (before t) (cond (here t) (Some it) (behind t)))
      ∙ between order (Some it) (find (is_for id j) rows))
      ∙ ap (λ b. option_map (λ (row : HeldEntry P). row.2) (cond b (Some it) (find (is_for id j) rows))) tied_same
      ∙ outside same_chunk it (find (is_for id j) rows)
    where
      outside : (b : Bool) (x : HeldEntry P) (o : Option (HeldEntry P)) → option_map (λ (row : HeldEntry P). row.2) (cond b (Some x) o) ≡ cond b (Some x.2) (option_map (λ (row : HeldEntry P). row.2) o)
      outside true x o = refl
      outside false x o = refl

  -- an entry less
  pub entry-without : {P : Type 0} (rows : List (HeldEntry P)) → entry_in (without_entry rows k i) id j ≡ cond same_chunk None (entry_in rows id j)
  entry-without {P} rows =
      ap (option_map (λ (row : HeldEntry P). row.2))
      (find-filter (is_for id j) (λ (row : HeldEntry P). not (is_for k i row)) (not same_chunk) (λ row e. λ t. not (same_id8 (its_id row e t) k && same_numbers (its_index row e t) i)) rows)
      ∙ outside same_chunk (find (is_for id j) rows)
    where
      outside : (b : Bool) (o : Option (HeldEntry P)) → option_map (λ (row : HeldEntry P). row.2) (cond (not b) o None) ≡ cond b None (option_map (λ (row : HeldEntry P). row.2) o)
      outside true o = refl
      outside false o = refl

-- without the entries of some chunks
pub entry-out : {P : Type 0} (rows : List (HeldEntry P)) (out : List (Id8 × List ℕ)) (id : Id8) (j : List ℕ)
    → entry_in (filter (λ (row : HeldEntry P). not (lists_key out row.0 row.1)) rows) id j ≡ cond (lists_key out id j) None (entry_in rows id j)
entry-out {P} rows out id j =
    ap (option_map (λ (row : HeldEntry P). row.2))
    (find-filter (is_for id j) (λ (row : HeldEntry P). not (lists_key out row.0 row.1)) (not (lists_key out id j)) (λ row e. λ t. not (lists_key out (its_id id j id j row e t) (its_index id j id j row e t))) rows)
    ∙ outside (lists_key out id j) (find (is_for id j) rows)
  where
    outside : (b : Bool) (o : Option (HeldEntry P)) → option_map (λ (row : HeldEntry P). row.2) (cond (not b) o None) ≡ cond b None (option_map (λ (row : HeldEntry P). row.2) o)
    outside true o = refl
    outside false o = refl

-- ---- one more edit in the changes
module _ {P : Type 0} (bytes_at : P → Option (List ℕ)) where
  abbrev seen : Option (Option P) → Option (Option (List ℕ))
  seen entry = option_map (λ place. option_and_then bytes_at place) entry

  seen_either : (b : Bool) (x y : Option (Option P)) → seen (cond b x y) ≡ cond b (seen x) (seen y)
  seen_either true x y = refl
  seen_either false x y = refl

  set_changes : (h : Held P) (i bytes : List ℕ) (place : P) (there : Option Node) → bytes_at place ≡ Some bytes
      → changes_of bytes_at (placed_chunk h i place there) ≡ changes.with_entry (changes_of bytes_at h) i (Some (Some bytes)) there
  set_changes h i bytes place None e = refl
  set_changes h i bytes place (Some n) e = λ t. record (changes_of bytes_at h) { chunks = λ id j. at id j t }
    where
      at : (id : Id8) (j : List ℕ) → seen (entry_in (with_entry h.chunks n.id i (Some place)) id j) ≡ cond (same_id8 id n.id && same_numbers j i) (Some (Some bytes)) (seen (entry_in h.chunks id j))
      at id j =
          ap seen (entry-with n.id i id j h.chunks (Some place)) ∙ seen_either (same_id8 id n.id && same_numbers j i) (Some (Some place)) (entry_in h.chunks id j)
          ∙ ap (λ (o : Option (List ℕ)). cond (same_id8 id n.id && same_numbers j i) (Some o) (seen (entry_in h.chunks id j))) e

  unset_changes : (h : Held P) (i : List ℕ) (added there : Option Node)
      → changes_of bytes_at (unplaced_chunk h i added there) ≡ changes.with_entry (changes_of bytes_at h) i (cond (is_some added) None (Some None)) there
  unset_changes h i None None = refl
  unset_changes h i (Some m) None = refl
  unset_changes h i None (Some n) = λ t. record (changes_of bytes_at h) { chunks = λ id j. at id j t }
    where
      at : (id : Id8) (j : List ℕ) → seen (entry_in (with_entry h.chunks n.id i None) id j) ≡ cond (same_id8 id n.id && same_numbers j i) (Some None) (seen (entry_in h.chunks id j))
      at id j = ap seen (entry-with n.id i id j h.chunks None) ∙ seen_either (same_id8 id n.id && same_numbers j i) (Some None) (entry_in h.chunks id j)
  unset_changes h i (Some m) (Some n) = λ t. record (changes_of bytes_at h) { chunks = λ id j. at id j t }
    where
      at : (id : Id8) (j : List ℕ) → seen (entry_in (without_entry h.chunks n.id i) id j) ≡ cond (same_id8 id n.id && same_numbers j i) None (seen (entry_in h.chunks id j))
      at id j = ap seen (entry-without n.id i id j h.chunks) ∙ seen_either (same_id8 id n.id && same_numbers j i) None (entry_in h.chunks id j)

pub taken-law : {P : Type 0} → TakenLaw P
taken-law bytes_at h out = λ t. record (changes_of bytes_at h) { chunks = λ id j. at id j t }
  where
    at : (id : Id8) (j : List ℕ) → seen bytes_at (entry_in (without_chunks h out).chunks id j) ≡ cond (lists_key out id j) None (seen bytes_at (entry_in h.chunks id j))
    at id j = ap (seen bytes_at) (entry-out h.chunks out id j) ∙ seen_either bytes_at (lists_key out id j) None (entry_in h.chunks id j)

pub set-law : {P : Type 0} → SetLaw P
set-law bytes_at h t p i bytes place e = set_changes bytes_at h i bytes place (get (nodes_over h t.nodes) p) e

pub unset-law : {P : Type 0} → UnsetLaw P
unset-law bytes_at h t p i = unset_changes bytes_at h i (get h.added p) (get (nodes_over h t.nodes) p)
