-- Sets of the ids of manifests.
use Rattle.std.proofs.Common.{◌≡◌, ◌∙◌, Bool, true, false, cond, ◌||◌, List, [], ◌∷◌, ◌++◌, append_assoc, refl, sym, ap}
use Rattle.std.specs.declared.cmp.Ordering.TheVariants.{Less, Equal, Greater}
use Rattle.std.specs.Ordering.{eq_by_cmp, is_eq, match_ordering}
use Rattle.std.specs.Cmp.{Equal-is, both_ways, tied_itself}
use Rattle.std.specs.Cmp.Lexicographic.{nat_list_cmp_total}
use Rattle.std.specs.List.{list_any}
use Rattle.std.specs.BTreeMap.{is_at}
use Rattle.std.specs.BTreeSet.{insert_key}
use Rattle.std.specs.FinMap.{slice_cmp-IsAntisymmetric, nat_cmp-IsAntisymmetric}
use Rattle.ice_ids.specs.declared.Id12.{Id12}
use Rattle.ice_ids.specs.Text.{same_id12, id12_cmp}
use Rattle.ice_ids.proofs.TextLaws.{same_id12-true, same_id12-self}
use Rattle.snapshot_file.specs.declared.nodes.ManifestRef.{ManifestRef}
use Rattle.snapshot_file.specs.declared.nodes.NodeRow.{NodeRow}
use Rattle.snapshot_file.specs.declared.snapshot.ManifestInfo.{ManifestInfo}
use Rattle.snapshot_file.specs.Snapshots.{manifests_named}
use Rattle.changed_snapshot.specs.Rows.{names_in, files_over}
use Rattle.changed_snapshot.specs.inside.Named.{has_id, have_id}

pub exact : (x q : Id12) → id12_cmp q x ≡ Equal → q ≡ x
exact x q e = let bytes : q.0 ≡ x.0 = slice_cmp-IsAntisymmetric nat_cmp-IsAntisymmetric q.0 x.0 e in λ i. record { 0 = bytes i }

itself : (q : Id12) → id12_cmp q q ≡ Equal
itself q = tied_itself nat_list_cmp_total q.0

same_ids : (x q : Id12) → same_id12 x q ≡ eq_by_cmp id12_cmp q x
same_ids x q = both_ways _ _
    (λ e. ap (eq_by_cmp id12_cmp q) (same_id12-true x q e) ∙ ap is_eq (itself q))
    (λ e. ap (same_id12 x) (exact x q ((Equal-is (id12_cmp q x)).0 e)) ∙ same_id12-self x)

-- what a set answers
pub contains_id : (ids : List Id12) (q : Id12) → list_any (is_at (id12_cmp q)) ids ≡ has_id ids q
contains_id [] q = refl
contains_id (x ∷ xs) q = λ i. sym (same_ids x q) i || contains_id xs q i

-- ---- one more id

pub or_assoc : (a b c : Bool) → ((a || b) || c) ≡ (a || (b || c))
or_assoc true b c = refl
or_assoc false b c = refl

or_last : (a b : Bool) → (a || b) ≡ (b || a)
or_last true true = refl
or_last true false = refl
or_last false true = refl
or_last false false = refl

absorbed : (a b : Bool) → (a || b) ≡ ((a || b) || a)
absorbed true b = refl
absorbed false true = refl
absorbed false false = refl

inserted : (ids : List Id12) (k id : Id12) → has_id (insert_key id12_cmp ids k) id ≡ (has_id ids id || same_id12 k id)
inserted [] k id = or_last (same_id12 k id) false
inserted (x ∷ xs) k id = elim (id12_cmp k x) as (λ o. id12_cmp k x ≡ o → has_id (match_ordering o (k ∷ x ∷ xs) (x ∷ xs) (x ∷ insert_key id12_cmp xs k)) id ≡ ((same_id12 x id || has_id xs id) || same_id12 k id)) [
  | Less ↦ λ e. or_last (same_id12 k id) (same_id12 x id || has_id xs id)
  | Equal ↦ λ e. absorbed (same_id12 x id) (has_id xs id) ∙ ap (λ y. (same_id12 x id || has_id xs id) || same_id12 y id) (sym (exact x k e))
  | Greater ↦ λ e. ap (λ b. same_id12 x id || b) (inserted xs k id) ∙ sym (or_assoc (same_id12 x id) (has_id xs id) (same_id12 k id))
] refl

-- the next manifest is entered
pub next_id : (ids : List Id12) (m : ManifestRef) (ms rest : List ManifestRef) (id : Id12) → ms ≡ m ∷ rest → (has_id (insert_key id12_cmp ids m.id) id || have_id rest id) ≡ (has_id ids id || have_id ms id)
next_id ids m ms rest id e =
    ap (λ b. b || have_id rest id) (inserted ids m.id id)
    ∙ or_assoc (has_id ids id) (same_id12 m.id id) (have_id rest id)
    ∙ ap (λ (xs : List ManifestRef). has_id ids id || have_id xs id) (sym e)

-- the manifests of the next row are entered
pub next_row : (ids more : List Id12) (row : NodeRow) (rows rest : List NodeRow) (id : Id12) → rows ≡ row ∷ rest → has_id more id ≡ (has_id ids id || have_id (manifests_named row.kind) id) → (has_id more id || names_in rest id) ≡ (has_id ids id || names_in rows id)
next_row ids more row rows rest id e entered =
    ap (λ b. b || names_in rest id) entered
    ∙ or_assoc (has_id ids id) (have_id (manifests_named row.kind) id) (names_in rest id)
    ∙ ap (λ (xs : List NodeRow). has_id ids id || names_in xs id) (sym e)

-- ---- the next file

abbrev left : Bool → ManifestInfo → List ManifestInfo → List NodeRow → List ManifestInfo
left b file rest rows = cond b (file ∷ files_over rest rows) (files_over rest rows)

first_file : (file : ManifestInfo) (files rest : List ManifestInfo) (rows : List NodeRow) (b : Bool) → files ≡ file ∷ rest → names_in rows file.id ≡ b → files_over files rows ≡ left b file rest rows
first_file file files rest rows b e named = ap (λ (xs : List ManifestInfo). files_over xs rows) e ∙ ap (λ t. left t file rest rows) named

-- it is kept, or passed over
pub file_kept : (kept files rest : List ManifestInfo) (file : ManifestInfo) (rows : List NodeRow) → files ≡ file ∷ rest → names_in rows file.id ≡ true → (kept ++ file ∷ []) ++ files_over rest rows ≡ kept ++ files_over files rows
file_kept kept files rest file rows e named = append_assoc kept (file ∷ []) (files_over rest rows) ∙ ap (λ (xs : List ManifestInfo). kept ++ xs) (sym (first_file file files rest rows true e named))

pub file_passed : (kept files rest : List ManifestInfo) (file : ManifestInfo) (rows : List NodeRow) → files ≡ file ∷ rest → names_in rows file.id ≡ false → kept ++ files_over rest rows ≡ kept ++ files_over files rows
file_passed kept files rest file rows e named = ap (λ (xs : List ManifestInfo). kept ++ xs) (sym (first_file file files rest rows false e named))
