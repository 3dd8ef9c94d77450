-- What the snapshot of a base under changes stands for.
use Rattle.std.specs.Prelude.{◌≡◌, ◌⊎◌, ℕ, ◌<◌, ◌≤◌, ◌^◌, true, false, ◌&&◌}
use Rattle.std.specs.Prelude.{List, length, Some, None, is_some, IfSome}
use Rattle.std.specs.List.{Contains, AllByRecursion}
use Rattle.std.specs.Str.{IsUtf8}
use Rattle.std.specs.FinMap.{get, len}
use Rattle.ice_ids.specs.declared.Id8.{Id8}
use Rattle.ice_ids.specs.declared.Id12.{Id12}
use Rattle.ice_ids.specs.Text.{IsId12, IsId8}
use Rattle.zarr_path.specs.Paths.{is_path}
use Rattle.zarr_meta.specs.declared.views.ArrayView.{ArrayView}
use Rattle.zarr_tree.specs.Nodes.{Node, SameFrozen, is_metadata, is_array, array_in}
use Rattle.zarr_tree.specs.Changes.{apply, IsNormal}
use Rattle.zarr_tree.specs.Edits.{most_nodes}
use Rattle.zarr_tree.specs.Held.{Held, entry_in, meta_in, changes_of, nodes_over}
use Rattle.zarr_changes.specs.Sets.{chunks_of, has_chunks}
use Rattle.manifest_file.specs.declared.manifest.Place.{Place}
use Rattle.held_manifest.specs.LookUp.{chunk_place}
use Rattle.manifest_index.specs.Merging.{merged}
use Rattle.snapshot_file.specs.declared.nodes.ManifestRef.{ManifestRef}
use Rattle.snapshot_file.specs.declared.nodes.NodeRow.{NodeRow}
use Rattle.snapshot_file.specs.declared.snapshot.SnapshotFile.{SnapshotFile}
use Rattle.snapshot_file.specs.Props.{AreProps}
use Rattle.snapshot_file.specs.Layout.{IsExtent}
use Rattle.repo_objects.specs.Trees.{Puts, NamesManifest, bytes_at, nodes_in, listed, tree_under}
use Rattle.repo_objects.specs.Laws.{IsProper}
use Rattle.changed_snapshot.specs.declared.new_snapshot.NewManifest.{NewManifest}
use Rattle.changed_snapshot.specs.declared.new_snapshot.NewList.{NewList}
use Rattle.changed_snapshot.specs.declared.new_snapshot.Stamp.{Stamp}
use Rattle.changed_snapshot.specs.Rows.{new_list, own_manifests, rows_over, snapshot_over}

-- ---- the tree

-- the nodes of the rows are the base's under what is held
abbrev pub NodesLaw : Type 0
NodesLaw =
    (h : Held Place) (news : List NewList) (rows : List NodeRow)
    → nodes_in (rows_over h news rows) ≡ nodes_over h (nodes_in rows)

-- a node that stays at its path keeps the parts of its metadata that stay
abbrev pub KeepsFrozen : Held Place → List NodeRow → Type 0
KeepsFrozen h rows =
    (p : List ℕ) (m n : Node) → get (nodes_in rows) p ≡ Some m
    → get (nodes_over h (nodes_in rows)) p ≡ Some n → m.id ≡ n.id → SameFrozen m.text n.text

-- an entry for an array of the new tree has its rank
abbrev pub AreRanked : Held Place → List NodeRow → Type 0
AreRanked h rows =
    (p : List ℕ) (n : Node) (array : ArrayView) (i : List ℕ)
    → get (nodes_over h (nodes_in rows)) p ≡ Some n → array_in n.text ≡ Some array
    → is_some (entry_in h.chunks n.id i) ≡ true → length i ≡ length array.shape

-- an array has such a new list: at each index it gives the chunk where the entries have it, else
-- where the base's manifests have it
pub record HasMerged (puts : Puts) (h : Held Place) (rows : List NodeRow) (news : List NewList)
    (p : List ℕ) (n : Node) (rank : ℕ) : Type 0 where
  pub refs : List ManifestRef
  pub has : new_list news p ≡ Some refs
  pub gives : (i : List ℕ)
      → chunk_place rank n.id i (listed puts refs)
      ≡ merged rank n.id (listed puts (own_manifests rows p n.id)) (chunks_of h.chunks n.id) i

-- the new lists are what the changes ask for: each array of the new tree with entries has its
-- own, and other nodes have none
pub record AreMerged (puts : Puts) (h : Held Place) (rows : List NodeRow)
    (news : List NewList) : Type 0 where
  pub written : (p : List ℕ) (n : Node) (array : ArrayView)
      → get (nodes_over h (nodes_in rows)) p ≡ Some n → array_in n.text ≡ Some array
      → has_chunks h.chunks n.id ≡ true
      → HasMerged puts h rows news p n (length array.shape)
  pub others : (p : List ℕ) (n : Node) → get (nodes_over h (nodes_in rows)) p ≡ Some n
      → (is_array n.text && has_chunks h.chunks n.id) ≡ false → new_list news p ≡ None

-- Then the tree of the rows is the base's tree under the changes.
abbrev pub TreeLaw : Type 0
TreeLaw =
    (puts : Puts) (h : Held Place) (news : List NewList) (rows : List NodeRow) → KeepsFrozen h rows
    → AreRanked h rows → AreMerged puts h rows news
    → tree_under puts (rows_over h news rows)
    ≡ apply (changes_of (bytes_at puts) h) (tree_under puts rows)

-- normal changes keep what stays of metadata
pub record FrozenLaw : Type 0 where
  pub normal : (puts : Puts) (h : Held Place) (rows : List NodeRow)
      → IsNormal (changes_of (bytes_at puts) h) (tree_under puts rows) → KeepsFrozen h rows

-- and their entries have the ranks of their arrays
abbrev pub RankedLaw : Type 0
RankedLaw =
    (puts : Puts) (h : Held Place) (rows : List NodeRow)
    → IsNormal (changes_of (bytes_at puts) h) (tree_under puts rows) → AreRanked h rows

-- ---- what is named

-- one of the new lists has this manifest
pub record IsNew (news : List NewList) (id : Id12) : Type 0 where
  pub list : NewList
  pub among : Contains news list
  pub manifest : NewManifest
  pub has : list.manifest ≡ Some manifest
  pub is : manifest.id ≡ id

-- The rows name manifests that the base's rows name, and new ones.
abbrev pub OwnLaw : Type 0
OwnLaw =
    (h : Held Place) (news : List NewList) (rows : List NodeRow) (id : Id12)
    → NamesManifest (rows_over h news rows) id → NamesManifest rows id ⊎ IsNew news id

-- ---- what can be written

-- a node that can be written at a path
pub record IsFineNode (p : List ℕ) (n : Node) : Type 0 where
  pub id : IsId8 n.id
  pub path : is_path p ≡ true
  pub text : IsUtf8 p
  pub metadata : is_metadata n.text ≡ true

-- the added nodes can be written, and other texts are metadata
abbrev pub AddsFine : Held Place → Type 0
AddsFine h = (p : List ℕ) (n : Node) → get h.added p ≡ Some n → IsFineNode p n

abbrev pub SetsFine : Held Place → Type 0
SetsFine h = (id : Id8) (text : List ℕ) → meta_in h.metas id ≡ Some text → is_metadata text ≡ true

-- Under such changes each node of a snapshot that can be written can be.
abbrev pub FineLaw : Type 0
FineLaw = (s : SnapshotFile) (h : Held Place) → IsProper s → AddsFine h → SetsFine h
    → (p : List ℕ) (n : Node) → get (nodes_over h (nodes_in s.nodes)) p ≡ Some n → IsFineNode p n

pub record IsStamp (stamp : Stamp) : Type 0 where
  pub id : IsId12 stamp.id
  pub parent : IsId12 stamp.parent
  pub flushed_at : stamp.flushed_at < 2 ^ 64

-- a new manifest's id and numbers have their widths
pub record IsSized (manifest : NewManifest) : Type 0 where
  pub id : IsId12 manifest.id
  pub extents : AllByRecursion IsExtent manifest.extents
  pub size : manifest.size < 2 ^ 64
  pub refs : manifest.refs < 2 ^ 32

abbrev pub AreSized : List NewList → Type 0
AreSized news = AllByRecursion (λ new. IfSome new.manifest IsSized) news

-- So can the snapshot under them, where it has no more nodes than a tree may have.
abbrev pub ProperLaw : Type 0
ProperLaw =
    (s : SnapshotFile) (h : Held Place) (news : List NewList)
    (stamp : Stamp) (message : List ℕ) (props : List (List ℕ × List ℕ))
    → IsProper s → AddsFine h → SetsFine h → AreSized news → IsStamp stamp → IsUtf8 message
    → AreProps props → len (nodes_over h (nodes_in s.nodes)) ≤ most_nodes
    → IsProper (snapshot_over h news s.nodes s.manifest_files stamp message props)
