-- All that the rows under changes name is still listed.
use Rattle.std.proofs.Common.{◌≡◌, ◌∙◌, ℕ, ◌+◌, Bool, true, false, cond, not, ◌&&◌, ◌||◌, List, [], ◌∷◌, Option, Some, None, refl, sym, ap}
use Rattle.std.specs.Prelude.{position}
use Rattle.std.specs.List.{list_any, list_all, filter, position_from, AllByRecursion}
use Rattle.std.specs.Str.{bytes_eq}
use Rattle.std.proofs.lemmas.Iterator.Adapters.{position_from-zero}
use Rattle.ice_ids.specs.declared.Id12.{Id12}
use Rattle.ice_ids.specs.Text.{same_id8, same_id12}
use Rattle.ice_ids.proofs.TextLaws.{same_id12-true, same_id12-self}
use Rattle.zarr_path.specs.Paths.{same_path}
use Rattle.zarr_meta.specs.declared.views.ArrayView.{ArrayView}
use Rattle.zarr_tree.specs.Nodes.{Node, array_in}
use Rattle.zarr_tree.specs.Held.{Held}
use Rattle.zarr_tree.proofs.Maps.{Path}
use Rattle.zarr_tree.proofs.Apply.{both, first, second}
use Rattle.snapshot_file.specs.declared.nodes.ManifestRef.{ManifestRef}
use Rattle.snapshot_file.specs.declared.nodes.NodeRow.{NodeRow}
use Rattle.snapshot_file.specs.declared.snapshot.ManifestInfo.{ManifestInfo}
use Rattle.snapshot_file.specs.Snapshots.{manifests_named, is_listed, all_listed, first_unlisted}
use Rattle.repo_objects.specs.Trees.{row_at}
use Rattle.changed_snapshot.specs.declared.new_snapshot.NewList.{NewList}
use Rattle.changed_snapshot.specs.declared.new_snapshot.NewManifest.{NewManifest}
use Rattle.changed_snapshot.specs.Rows.{refs_of, infos_of, files_with, kind_of, row_of, row_from, names_in, files_over, rows_over}
use Rattle.changed_snapshot.proofs.Found.{row_has, by_list, all_over}
use Rattle.changed_snapshot.proofs.FilesById.{lists_id, or_left, or_right, with_listed, found_info}

-- ---- the first place at which a test passes

module _ {A : Type 0} (test : A → Bool) where
  abbrev Fails : A → Type 0
  Fails x = test x ≡ false

  none_from : (i : ℕ) (xs : List A) → AllByRecursion Fails xs → position_from test i xs ≡ None
  none_from i [] fail = refl
  none_from i (x ∷ xs) fail = ap (λ b. cond b (Some i) (position_from test (i + 1) xs)) fail.0 ∙ none_from (i + 1) xs fail.1

  from_none : (i : ℕ) (xs : List A) → position_from test i xs ≡ None → AllByRecursion Fails xs
  from_none i [] h = tt
  from_none i (x ∷ xs) h = elim (test x) as (λ b. test x ≡ b → cond b (Some i) (position_from test (i + 1) xs) ≡ None → AllByRecursion Fails (x ∷ xs)) [
    | true ↦ λ e k. cc
    | false ↦ λ e k. (e, from_none (i + 1) xs k)
  ] refl h

  no_position : (xs : List A) → AllByRecursion Fails xs → position test xs ≡ None
  no_position xs fail = position_from-zero test xs ∙ none_from 0 xs fail

  position_none : (xs : List A) → position test xs ≡ None → AllByRecursion Fails xs
  position_none xs h = from_none 0 xs (sym (position_from-zero test xs) ∙ h)

-- ---- rows whose manifests are listed

abbrev pub IsListed : List ManifestInfo → NodeRow → Type 0
IsListed files row = all_listed files row ≡ true

turned : (b : Bool) → not b ≡ false → b ≡ true
turned true h = refl
turned false h = cc

rows_listed : (files : List ManifestInfo) (rows : List NodeRow) → AllByRecursion (λ row. not (all_listed files row) ≡ false) rows → AllByRecursion (IsListed files) rows
rows_listed files [] all = tt
rows_listed files (row ∷ rows) all = (turned (all_listed files row) all.0, rows_listed files rows all.1)

listed_rows : (files : List ManifestInfo) (rows : List NodeRow) → AllByRecursion (IsListed files) rows → AllByRecursion (λ row. not (all_listed files row) ≡ false) rows
listed_rows files [] all = tt
listed_rows files (row ∷ rows) all = (ap not all.0, listed_rows files rows all.1)

pub are_listed : (files : List ManifestInfo) (rows : List NodeRow) → first_unlisted files rows ≡ None → AllByRecursion (IsListed files) rows
unfolding first_unlisted
are_listed files rows h = rows_listed files rows (position_none (λ row. not (all_listed files row)) rows h)

pub none_unlisted : (files : List ManifestInfo) (rows : List NodeRow) → AllByRecursion (IsListed files) rows → first_unlisted files rows ≡ None
unfolding first_unlisted
none_unlisted files rows all = no_position (λ row. not (all_listed files row)) rows (listed_rows files rows all)

-- ---- the manifests that stay

or-true : (b : Bool) → (b || true) ≡ true
or-true true = refl
or-true false = refl

-- the files whose ids pass a test
abbrev staying : (Id12 → Bool) → List ManifestInfo → List ManifestInfo
staying test files = filter (λ (file : ManifestInfo). test file.id) files

module _ (test : Id12 → Bool) where
  -- an id that passes stays listed
  stays : (files : List ManifestInfo) (id : Id12) → lists_id files id ≡ true → test id ≡ true → lists_id (staying test files) id ≡ true
  stays [] id l h = cc
  stays (f ∷ fs) id l h = elim (same_id12 f.id id) as (λ b. same_id12 f.id id ≡ b → (b || lists_id fs id) ≡ true → lists_id (cond (test f.id) (f ∷ staying test fs) (staying test fs)) id ≡ true) [
    | true ↦ λ e _.
        ap (λ b. lists_id (cond b (f ∷ staying test fs) (staying test fs)) id) (ap test (same_id12-true f.id id e) ∙ h)
        ∙ ap (λ b. b || lists_id (staying test fs) id) e
    | false ↦ λ e k.
        let rest : lists_id (staying test fs) id ≡ true = stays fs id k h in
        elim (test f.id) as (λ b. lists_id (cond b (f ∷ staying test fs) (staying test fs)) id ≡ true) [
          | true ↦ ap (λ b. same_id12 f.id id || b) rest ∙ or-true (same_id12 f.id id)
          | false ↦ rest
        ]
  ] refl l

  -- the ids that manifests have
  abbrev have : List ManifestRef → Id12 → Bool
  have manifests id = list_any (λ (manifest : ManifestRef). same_id12 manifest.id id) manifests

  manifests_stay : (files : List ManifestInfo) (ms : List ManifestRef) → list_all (is_listed files) ms ≡ true → ((id : Id12) → have ms id ≡ true → test id ≡ true) → list_all (is_listed (staying test files)) ms ≡ true
  manifests_stay files [] l named = refl
  manifests_stay files (m ∷ ms) l named =
      both (is_listed (staying test files) m) (list_all (is_listed (staying test files)) ms)
      (stays files m.id (first (is_listed files m) (list_all (is_listed files) ms) l) (named m.id (ap (λ b. b || have ms m.id) (same_id12-self m.id))))
      (manifests_stay files ms (second (is_listed files m) (list_all (is_listed files) ms) l) (λ id h. named id (ap (λ b. same_id12 m.id id || b) h ∙ or-true (same_id12 m.id id))))

  row_stays : (files : List ManifestInfo) (row : NodeRow) → IsListed files row → ((id : Id12) → have (manifests_named row.kind) id ≡ true → test id ≡ true) → IsListed (staying test files) row
  row_stays files row l named = manifests_stay files (manifests_named row.kind) l named

  rows_stay : (files : List ManifestInfo) (rows : List NodeRow) → AllByRecursion (IsListed files) rows → ((id : Id12) → names_in rows id ≡ true → test id ≡ true) → AllByRecursion (IsListed (staying test files)) rows
  rows_stay files [] all named = tt
  rows_stay files (row ∷ rows) all named = (
    row_stays files row all.0 (λ id h. named id (ap (λ b. b || names_in rows id) h)),
    rows_stay files rows all.1 (λ id h. named id (ap (λ b. have (manifests_named row.kind) id || b) h ∙ or-true (have (manifests_named row.kind) id))),
  )

-- ---- the rows under what is held

module _ (files : List ManifestInfo) (p : Path) (n : Node) where
  of_manifests : (a : Option ArrayView) (ms : List ManifestRef) → list_all (is_listed files) ms ≡ true → list_all (is_listed files) (manifests_named (kind_of a ms)) ≡ true
  of_manifests None ms h = refl
  of_manifests (Some array) ms h = h

  made_of : (ms : List ManifestRef) → list_all (is_listed files) ms ≡ true → IsListed files (row_of p n ms)
  made_of ms h = of_manifests (array_in n.text) ms h

  -- a row made of one that is listed is listed
  from_listed : (old : Option NodeRow) → ((row : NodeRow) → old ≡ Some row → IsListed files row) → IsListed files (row_from p n old)
  from_listed None are = made_of [] refl
  from_listed (Some row) are = elim (same_id8 row.id n.id) as (λ b. IsListed files (cond b (cond (bytes_eq row.user_data n.text) row (row_of p n (manifests_named row.kind))) (row_of p n []))) [
    | true ↦ elim (bytes_eq row.user_data n.text) as (λ b. IsListed files (cond b row (row_of p n (manifests_named row.kind)))) [ true ↦ are row refl | false ↦ made_of (manifests_named row.kind) (are row refl) ]
    | false ↦ made_of [] refl
  ]

  -- and so is one with a new manifest that is listed
  new_listed : (o : Option NewManifest) → ((m : NewManifest) → o ≡ Some m → lists_id files m.id ≡ true) → IsListed files (row_of p n (refs_of o))
  new_listed None is = made_of [] refl
  new_listed (Some m) is = made_of (refs_of (Some m)) (ap (λ b. b && true) (is m refl))

-- ---- more files

module _ (files more : List ManifestInfo) (wide : (id : Id12) → lists_id files id ≡ true → lists_id more id ≡ true) where
  manifests_more : (ms : List ManifestRef) → list_all (is_listed files) ms ≡ true → list_all (is_listed more) ms ≡ true
  manifests_more [] h = refl
  manifests_more (m ∷ ms) h =
      both (is_listed more m) (list_all (is_listed more) ms) (wide m.id (first (is_listed files m) (list_all (is_listed files) ms) h)) (manifests_more ms (second (is_listed files m) (list_all (is_listed files) ms) h))

  rows_more : (rows : List NodeRow) → AllByRecursion (IsListed files) rows → AllByRecursion (IsListed more) rows
  rows_more [] all = tt
  rows_more (row ∷ rows) all = (manifests_more (manifests_named row.kind) all.0, rows_more rows all.1)

module _ {P : Type 0} where
  pub rows_named : (h : Held P) (news : List NewList) (rows : List NodeRow) (files : List ManifestInfo) → first_unlisted files rows ≡ None
      → first_unlisted (files_over (files_with files news) (rows_over h news rows)) (rows_over h news rows) ≡ None
  rows_named h news rows files listed =
      let more : List ManifestInfo = files_with files news in
      let wide : (id : Id12) → lists_id files id ≡ true → lists_id more id ≡ true = λ id l. with_listed files news id ∙ or_right (lists_id (infos_of news) id) (lists_id files id) l in
      let old : AllByRecursion (IsListed more) rows = rows_more files more wide rows (are_listed files rows listed) in
      let new : AllByRecursion (IsListed more) (rows_over h news rows) = all_over (IsListed more) h news rows (λ p n _.
      by_list news rows (IsListed more) p n
      (from_listed more p n (row_at rows p) (λ row there. row_has (IsListed more) rows p row old there))
      (λ list there. new_listed more p n list.manifest (λ m is. with_listed files news m.id ∙ or_left (lists_id (infos_of news) m.id) (lists_id files m.id) (found_info (λ (new : NewList). same_path new.path p) news list m there is))))
      in
      none_unlisted (files_over more (rows_over h news rows)) (rows_over h news rows) (rows_stay (names_in (rows_over h news rows)) more (rows_over h news rows) new (λ id named. named))
