-- Under changes whose texts are metadata, a snapshot can be written.
use Rattle.std.proofs.Common.{◌≡◌, ◌∙◌, ◌⊎◌, inl, inr, ℕ, ◌+◌, ◌≤◌, Bool, true, false, cond, List, [], ◌∷◌, ◌++◌, Option, Some, None, is_some, option_map, Result, Ok, Err, refl, sym, ap, subst}
use Rattle.std.specs.Prelude.{find, IfSome}
use Rattle.std.specs.Result.{result_ok}
use Rattle.std.specs.Option.{unwrap_or}
use Rattle.std.specs.List.{filter, AllByRecursion}
use Rattle.std.specs.Str.{bytes_eq, IsUtf8}
use Rattle.std.specs.FinMap.{get, len}
use Rattle.ice_ids.specs.Text.{same_id8}
use Rattle.zarr_path.specs.Paths.{same_path, is_path}
use Rattle.zarr_meta.specs.declared.faults.MetaFault.{MetaFault}
use Rattle.zarr_meta.specs.declared.views.MetaView.{MetaView}
use Rattle.zarr_meta.specs.declared.views.MetaView.TheVariants as view
use Rattle.zarr_meta.specs.Meta.{meta_of}
use Rattle.zarr_tree.specs.Nodes.{Node, array_of_view, is_metadata}
use Rattle.zarr_tree.specs.Trees.{Tree}
use Rattle.zarr_tree.specs.Changes.{Changes, patched}
use Rattle.zarr_tree.specs.Edits.{most_nodes}
use Rattle.zarr_tree.specs.Held.{Held, meta_in, changes_of, nodes_over}
use Rattle.zarr_tree.proofs.Maps.{Path}
use Rattle.zarr_tree.proofs.Apply.{Own, node_cases}
use Rattle.manifest_file.specs.declared.manifest.Place.{Place}
use Rattle.snapshot_file.specs.declared.nodes.ManifestRef.{ManifestRef}
use Rattle.snapshot_file.specs.declared.nodes.NodeKind.{NodeKind}
use Rattle.snapshot_file.specs.declared.nodes.NodeKind.TheVariants.{Group, Array}
use Rattle.snapshot_file.specs.declared.nodes.NodeRow.{NodeRow}
use Rattle.snapshot_file.specs.declared.snapshot.ManifestInfo.{ManifestInfo}
use Rattle.snapshot_file.specs.declared.snapshot.SnapshotFile.{SnapshotFile}
use Rattle.snapshot_file.specs.Snapshots.{file_key}
use Rattle.snapshot_file.specs.Layout.{IsManifest, IsKind, IsNode, IsInfo, IsWritable}
use Rattle.repo_objects.specs.declared.bad_objects.Bad.{Bad}
use Rattle.repo_objects.specs.declared.bad_objects.Bad.TheVariants as bad
use Rattle.repo_objects.specs.Readings.{kind_fault, row_fault, first_bad}
use Rattle.snapshot_file.specs.Snapshots.{manifests_named}
use Rattle.repo_objects.specs.Trees.{node_of, nodes_in, row_at}
use Rattle.changed_snapshot.specs.declared.new_snapshot.NewList.{NewList}
use Rattle.changed_snapshot.specs.declared.new_snapshot.NewManifest.{NewManifest}
use Rattle.changed_snapshot.specs.declared.new_snapshot.Stamp.{Stamp}
use Rattle.changed_snapshot.specs.Rows.{refs_of, infos_of, files_with, kind_of, row_of, row_from, names_in, rows_over, snapshot_over}
use Rattle.changed_snapshot.specs.Laws.{IsFineNode, AddsFine, SetsFine, IsSized, AreSized, FineLaw, ProperLaw}
use Rattle.changed_snapshot.proofs.ArrayRows.{metadata_bytes, kind_is}
use Rattle.changed_snapshot.proofs.FilesById.{files_ascend, infos_with}
use Rattle.repo_objects.proofs.Rows.{node_at_row}
use Rattle.changed_snapshot.proofs.Found.{all_over, by_list, row_there, row_has}
use Rattle.changed_snapshot.proofs.Orders.{rows_ascend, rows_many, filter_ascends}
use Rattle.changed_snapshot.proofs.Named.{rows_named}

module _ {P : Type 0} where
  -- under any changes on nodes lists stay in order, and all that is named is listed
  pub writable_over : (s : SnapshotFile) (h : Held P) (news : List NewList) (stamp : Stamp) (message : List ℕ) (props : List (List ℕ × List ℕ)) → IsWritable s → len (nodes_over h (nodes_in s.nodes)) ≤ most_nodes → IsWritable (snapshot_over h news s.nodes s.manifest_files stamp message props)
  writable_over s h news stamp message props can few = record {
    few = subst (λ n. n ≤ most_nodes) (sym (rows_many h news s.nodes)) few;
    nodes = rows_ascend h news s.nodes;
    files = filter_ascends file_key _ None (files_with s.manifest_files news) (files_ascend (infos_of news ++ s.manifest_files));
    listed = rows_named h news s.nodes s.manifest_files can.listed;
  }

-- ---- faults of rows

abbrev IsGood : NodeRow → Type 0
IsGood row = row_fault row ≡ None

abbrev bad_from : (at : ℕ) → List NodeRow → Option MetaFault → Option Bad
bad_from at rows (Some fault) = Some (bad.Node at fault)
bad_from at rows None = first_bad (at + 1) rows

none_bad : (at : ℕ) (rows : List NodeRow) → AllByRecursion IsGood rows → first_bad at rows ≡ None
unfolding first_bad
none_bad at [] all = refl
none_bad at (row ∷ rows) all = ap (bad_from at rows) all.0 ∙ none_bad (at + 1) rows all.1

are_good : (at : ℕ) (rows : List NodeRow) → first_bad at rows ≡ None → AllByRecursion IsGood rows
unfolding first_bad
are_good at [] h = tt
are_good at (row ∷ rows) h = elim (row_fault row) as (λ o. row_fault row ≡ o → bad_from at rows o ≡ None → AllByRecursion IsGood (row ∷ rows)) [
  | Some fault ↦ λ e k. cc
  | None ↦ λ e k. (e, are_good (at + 1) rows k)
] refl h

-- ---- rows
metadata_good : (kind : NodeKind) (r : Result MetaView MetaFault) → kind_fault kind r ≡ None → is_some (result_ok r) ≡ true
metadata_good kind (Ok v) h = refl
metadata_good kind (Err fault) h = cc

-- a row without fault has metadata, and the row of a node with metadata has no fault
good_metadata : (row : NodeRow) → IsGood row → is_metadata row.user_data ≡ true
good_metadata row good = metadata_good row.kind (meta_of row.user_data) good

made_good : (p : Path) (n : Node) (ms : List ManifestRef) → is_metadata n.text ≡ true → IsGood (row_of p n ms)
made_good p n ms h = by_view (meta_of n.text) h
  where
    by_view : (r : Result MetaView MetaFault) → is_some (result_ok r) ≡ true → kind_fault (kind_of (array_of_view (result_ok r)) ms) r ≡ None
    by_view (Ok view.Group) h = refl
    by_view (Ok (view.Array array)) h = refl
    by_view (Err fault) h = cc

made_node : (p : Path) (n : Node) (ms : List ManifestRef) → IsFineNode p n → AllByRecursion IsManifest ms → IsNode (row_of p n ms)
made_node p n ms fine named = record { id = fine.id; path = fine.path; text = fine.text; user_data = metadata_bytes n.text fine.metadata; kind = kind_is n.text ms named }

kind_manifests : (kind : NodeKind) → IsKind kind → AllByRecursion IsManifest (manifests_named kind)
kind_manifests Group h = tt
kind_manifests (Array shape names manifests) h = h.manifests_are

module _ (Q : NodeRow → Type 0) where
  -- what holds of a node's new rows and of the base's own holds of its row over the base
  from_old : (p : Path) (n : Node) (old : Option NodeRow) → Q (row_of p n []) → ((row : NodeRow) → old ≡ Some row → Q row × Q (row_of p n (manifests_named row.kind))) → Q (row_from p n old)
  from_old p n None bare were = bare
  from_old p n (Some row) bare were = elim (same_id8 row.id n.id) as (λ b. Q (cond b (cond (bytes_eq row.user_data n.text) row (row_of p n (manifests_named row.kind))) (row_of p n []))) [
    | true ↦ elim (bytes_eq row.user_data n.text) as (λ b. Q (cond b row (row_of p n (manifests_named row.kind)))) [ true ↦ (were row refl).0 | false ↦ (were row refl).1 ]
    | false ↦ bare
  ]

-- a new manifest that is sized can be named
refs_sized : (o : Option NewManifest) → IfSome o IsSized → AllByRecursion IsManifest (refs_of o)
refs_sized None is = tt
refs_sized (Some m) is = (record { id = is.id; extents = is.extents }, tt)

found_sized : (test : NewList → Bool) (news : List NewList) (list : NewList) → AreSized news → find test news ≡ Some list → IfSome list.manifest IsSized
found_sized test [] list sized f = cc
found_sized test (new ∷ news) list sized f = by_test (test new) (found_sized test news list sized.1) f
  where
    by_test : (b : Bool) → (find test news ≡ Some list → IfSome list.manifest IsSized) → cond b (Some new) (find test news) ≡ Some list → IfSome list.manifest IsSized
    by_test true rest k = let same : new ≡ list = cc in subst (λ (l : NewList). IfSome l.manifest IsSized) same sized.0
    by_test false rest k = rest k

-- ---- nodes under changes
set_text : (o : Option (List ℕ)) (own : List ℕ) → ((text : List ℕ) → o ≡ Some text → is_metadata text ≡ true) → is_metadata own ≡ true → is_metadata (unwrap_or o own) ≡ true
set_text None own set is = is
set_text (Some text) own set is = set text refl

module _ (h : Held Place) (rows : List NodeRow) (nodes : AllByRecursion IsNode rows) (good : AllByRecursion IsGood rows) where
  -- the node of a base's row, with its other text
  own_fine : SetsFine h → (p : Path) (before : Node) (old : Option NodeRow) → row_at rows p ≡ old → option_map node_of old ≡ Some before → IsFineNode p (patched (meta_in h.metas) before)
  own_fine sets p before None there is = cc
  own_fine sets p before (Some row) there is =
      let node : IsNode row = row_has IsNode rows p row nodes there in
      let path : row.path ≡ p = row_there rows p row there in
      let same : node_of row ≡ before = cc is in
      subst (λ m. IsFineNode p (patched (meta_in h.metas) m)) same (record {
        id = node.id;
        path = subst (λ q. is_path q ≡ true) path node.path;
        text = subst IsUtf8 path node.text;
        metadata = set_text (meta_in h.metas row.id) row.user_data (sets row.id) (good_metadata row (row_has IsGood rows p row good there));
      })

  fine_over : AddsFine h → SetsFine h → (p : Path) (n : Node) → get (nodes_over h (nodes_in rows)) p ≡ Some n → IsFineNode p n
  fine_over adds sets p n is = by_case (node_cases c t p n is)
    where
      c : Changes
      c = changes_of (λ place. None) h

      t : Tree
      t = record { nodes = nodes_in rows; chunk = λ p i. None }

      by_case : (get c.added p ≡ Some n) ⊎ Own c t p n → IsFineNode p n
      by_case (inl added) = adds p n added
      by_case (inr own) = subst (IsFineNode p) (sym own.same) (own_fine sets p own.before (row_at rows p) refl (sym (node_at_row rows p) ∙ own.found))

  -- so each row can be written, and has no fault
  nodes_over_are : AddsFine h → SetsFine h → (news : List NewList) → AreSized news → AllByRecursion IsNode (rows_over h news rows)
  nodes_over_are adds sets news sized = all_over IsNode h news rows (λ p n is.
      let fine = fine_over adds sets p n is in
      by_list news rows IsNode p n
      (from_old IsNode p n (row_at rows p) (made_node p n [] fine tt) (λ row there.
      let node : IsNode row = row_has IsNode rows p row nodes there in
      (node, made_node p n (manifests_named row.kind) fine (kind_manifests row.kind node.kind))))
      (λ list there. made_node p n (refs_of list.manifest) fine (refs_sized list.manifest (found_sized (λ (new : NewList). same_path new.path p) news list sized there))))

  good_over : AddsFine h → SetsFine h → (news : List NewList) → AllByRecursion IsGood (rows_over h news rows)
  good_over adds sets news = all_over IsGood h news rows (λ p n is.
      let text = (fine_over adds sets p n is).metadata in
      by_list news rows IsGood p n
      (from_old IsGood p n (row_at rows p) (made_good p n [] text) (λ row there. (row_has IsGood rows p row good there, made_good p n (manifests_named row.kind) text)))
      (λ list there. made_good p n (refs_of list.manifest) text))

-- ---- the snapshot
filter_all : {A : Type 0} (Q : A → Type 0) (test : A → Bool) (xs : List A) → AllByRecursion Q xs → AllByRecursion Q (filter test xs)
filter_all Q test [] all = tt
filter_all Q test (x ∷ xs) all = elim (test x) as (λ b. AllByRecursion Q (cond b (x ∷ filter test xs) (filter test xs))) [ true ↦ (all.0, filter_all Q test xs all.1) | false ↦ filter_all Q test xs all.1 ]

pub fine-law : FineLaw
fine-law s h proper adds sets = fine_over h s.nodes proper.sized.nodes (are_good 0 s.nodes proper.texts) adds sets

pub proper-law : ProperLaw
proper-law s h news stamp message props proper adds sets sized stamped utf8 are few =
    let good = are_good 0 s.nodes proper.texts in
    record {
      sized = record {
        id = stamped.id;
        parent = stamped.parent;
        nodes = nodes_over_are h s.nodes proper.sized.nodes good adds sets news sized;
        flushed_at = stamped.flushed_at;
        message = utf8;
        props = are;
        files = filter_all IsInfo (λ (file : ManifestInfo). names_in (rows_over h news s.nodes) file.id) (files_with s.manifest_files news) (infos_with s.manifest_files news proper.sized.files sized);
      };
      writable = writable_over s h news stamp message props proper.writable few;
      texts = none_bad 0 (rows_over h news s.nodes) (good_over h s.nodes proper.sized.nodes good adds sets news);
    }
