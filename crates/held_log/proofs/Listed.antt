-- What a search by halves finds, as the lists of a log have it.
use Rattle.std.proofs.Common.{◌≡◌, ℕ, Bool, true, false, cond, List, [], ◌∷◌, ◌++◌, append-nil, Option, None, Some, refl, sym, ap, subst, ◌∙◌}
use Rattle.std.proofs.Common.{Ordering}
use Rattle.std.specs.Prelude.{find, is_some, option_map, bytes_eq}
use Rattle.std.specs.Ordering.{nat_cmp, is_lt, is_eq, ordering_reverse}
use Rattle.std.specs.declared.cmp.Ordering.TheVariants.{Less, Equal, Greater}
use Rattle.std.specs.Cmp.Lexicographic.{slice_cmp}
use Rattle.std.specs.FinMap.{slice_cmp-IsAntisymmetric, nat_cmp-IsAntisymmetric}
use Rattle.std.proofs.lemmas.Cmp.{nat_list_cmp_total}
use Rattle.ice_ids.specs.declared.Id8.{Id8}
use Rattle.flat_tables.specs.Rows.{Ascends}
use Rattle.file_fields.specs.Fields.{id_key}
use Rattle.zarr_tree.specs.declared.lists.ArrayChunks.{ArrayChunks}
use Rattle.zarr_tree.specs.Touched.{lists}
use Rattle.txn_file.specs.Logs.{array_key}
use Rattle.held_manifest.proofs.Numbers.{same_test}
use Rattle.held_log.specs.Views.{rows_there}
use Rattle.held_log.specs.LookUp.{chunks_listed}

abbrev cmp : List ℕ → List ℕ → Ordering
cmp a b = slice_cmp nat_cmp a b

-- ---- ids

-- whether an id was found
found_or_not : (ids : List Id8) (id : Id8) → is_some (find (λ x. bytes_eq (id_key x) (id_key id)) ids) ≡ lists ids id
found_or_not [] id = refl
found_or_not (x ∷ xs) id = by_test (found_or_not xs id) (bytes_eq x.0 id.0) refl
  where
    by_test : is_some (find (λ y. bytes_eq (id_key y) (id_key id)) xs) ≡ lists xs id → (b : Bool) → bytes_eq x.0 id.0 ≡ b → is_some (find (λ y. bytes_eq (id_key y) (id_key id)) (x ∷ xs)) ≡ lists (x ∷ xs) id
    by_test more true e = rw e refl
    by_test more false e = rw e more

pub id_found : (ids : List Id8) (id x : Id8) → find (λ y. bytes_eq (id_key y) (id_key id)) ids ≡ Some x → true ≡ lists ids id
id_found ids id x is = ap is_some (sym is) ∙ found_or_not ids id

pub id_missing : (ids : List Id8) (id : Id8) → find (λ y. bytes_eq (id_key y) (id_key id)) ids ≡ None → false ≡ lists ids id
id_missing ids id is = ap is_some (sym is) ∙ found_or_not ids id

-- ---- the chunks of an array

less_is : (o : Ordering) → is_lt o ≡ true → o ≡ Less
less_is Less h = refl
less_is Equal h = absurd cc
less_is Greater h = absurd cc

equal_is : (o : Ordering) → is_eq o ≡ true → o ≡ Equal
equal_is Less h = absurd cc
equal_is Equal h = refl
equal_is Greater h = absurd cc

-- the bytes of ids that are the same
same_bytes : (a b : List ℕ) → bytes_eq a b ≡ true → a ≡ b
same_bytes a b h = slice_cmp-IsAntisymmetric nat_cmp-IsAntisymmetric a b (equal_is (cmp a b) (same_test a b (cmp a b) refl ∙ h))

other_bytes : (a b : List ℕ) → cmp b a ≡ Less → bytes_eq a b ≡ false
other_bytes a b h = sym (same_test a b Greater (sym (nat_list_cmp_total.antisymm a b ∙ ap ordering_reverse h)))

-- arrays that stand behind an id don't have it
none_behind : (before : List ℕ) (arrays : List ArrayChunks) (id : Id8) → ((k : List ℕ) → cmp before k ≡ Less → cmp id.0 k ≡ Less) → Ascends array_key (Some before) arrays → chunks_listed arrays id ≡ []
none_behind before [] id above ascend = refl
none_behind before (a ∷ rest) id above ascend =
    let here = above a.node.0 (less_is (cmp before a.node.0) ascend.0) in
    ap (λ b. cond b a.chunks [] ++ chunks_listed rest id) (other_bytes a.node.0 id.0 here)
    ∙ none_behind a.node.0 rest id (λ k lt. nat_list_cmp_total.trans id.0 a.node.0 k here lt) ascend.1

abbrev chunks_in : Option ArrayChunks → List (List ℕ)
chunks_in found = rows_there (option_map (λ (a : ArrayChunks). a.chunks) found)

by_find : (before : Option (List ℕ)) (arrays : List ArrayChunks) (id : Id8) → Ascends array_key before arrays → chunks_in (find (λ a. bytes_eq (array_key a) (id_key id)) arrays) ≡ chunks_listed arrays id
by_find before [] id ascend = refl
by_find before (a ∷ rest) id ascend = by_test (by_find (Some (array_key a)) rest id ascend.1) (bytes_eq a.node.0 id.0) refl
  where
    by_test : chunks_in (find (λ x. bytes_eq (array_key x) (id_key id)) rest) ≡ chunks_listed rest id → (b : Bool) → bytes_eq a.node.0 id.0 ≡ b → chunks_in (find (λ x. bytes_eq (array_key x) (id_key id)) (a ∷ rest)) ≡ chunks_listed (a ∷ rest) id
    by_test more true e =
        let same = same_bytes a.node.0 id.0 e in
        let none = none_behind a.node.0 rest id (λ k lt. subst (λ (b : List ℕ). cmp b k ≡ Less) same lt) ascend.1 in
        rw e (sym (append-nil a.chunks) ∙ ap (λ (xs : List (List ℕ)). a.chunks ++ xs) (sym none))
    by_test more false e = rw e more

pub chunks_found : (arrays : List ArrayChunks) (id : Id8) (x : ArrayChunks) → Ascends array_key None arrays → find (λ a. bytes_eq (array_key a) (id_key id)) arrays ≡ Some x → x.chunks ≡ chunks_listed arrays id
chunks_found arrays id x ascend is = ap chunks_in (sym is) ∙ by_find None arrays id ascend

pub chunks_missing : (arrays : List ArrayChunks) (id : Id8) → Ascends array_key None arrays → find (λ a. bytes_eq (array_key a) (id_key id)) arrays ≡ None → [] ≡ chunks_listed arrays id
chunks_missing arrays id ascend is = ap chunks_in (sym is) ∙ by_find None arrays id ascend
