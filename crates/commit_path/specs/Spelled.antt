-- Sessions that can be written as objects. (Own.)
use Rattle.std.specs.Prelude.{◌≡◌, ◌≤◌, ℕ, true, List, Option, Some, IsTrue}
use Rattle.std.specs.FinMap.{FinMap, get, len}
use Rattle.ice_ids.specs.declared.Id8.{Id8}
use Rattle.ice_ids.specs.Text.{IsId12}
use Rattle.zarr_path.specs.Paths.{path_cmp}
use Rattle.zarr_tree.specs.Nodes.{Node, SameFrozen, are_low}
use Rattle.zarr_tree.specs.Edits.{most_nodes}
use Rattle.zarr_tree.specs.Changes.{is_gone}
use Rattle.zarr_tree.specs.Touched.{lists}
use Rattle.zarr_tree.specs.Held.{HeldEntry, meta_in, entry_in}
use Rattle.manifest_file.specs.declared.manifest.Place.{Place}
use Rattle.manifest_file.specs.Layout.{IsPlace}
use Rattle.snapshot_file.specs.declared.snapshot.SnapshotFile.{SnapshotFile}
use Rattle.snapshot_file.specs.Props.{AreProps}
use Rattle.repo_objects.specs.Laws.{IsProper}
use Rattle.changed_snapshot.specs.Laws.{AddsFine, SetsFine}
use Rattle.session.specs.Sessions.{SessionState, base_nodes, nodes_seen}

-- what a session has of its base is of a snapshot that can be written
pub record IsOfSnapshot (s : SessionState) : Type 0 where
  pub file : SnapshotFile
  pub proper : IsProper file
  pub rows : file.nodes ≡ s.rows
  pub files : file.manifest_files ≡ s.files

-- another text is of a node among these, and leaves the parts of its metadata that stay
pub record IsOtherText (nodes : FinMap path_cmp Node) (id : Id8) (text : List ℕ) : Type 0 where
  pub path : List ℕ
  pub node : Node
  pub found : get nodes path ≡ Some node
  pub same : node.id ≡ id
  pub frozen : SameFrozen node.text text

-- the numbers of the chunks that were set, and of their places, have their widths
abbrev pub AreSized : List (HeldEntry Place) → Type 0
AreSized entries =
    (node : Id8) (i : List ℕ) (entry : Option Place) → entry_in entries node i ≡ Some entry
    → IsTrue (are_low i) × ((place : Place) → entry ≡ Some place → IsPlace place)

-- A session's base can be written, and so can its changes and its properties. Their other texts are
-- of the base's nodes; they add at paths where the base has no node that isn't gone; and they leave
-- no more nodes than a tree may have.
pub record IsSpelled (s : SessionState) : Type 0 where
  pub base : IsId12 s.base
  pub of_snapshot : IsOfSnapshot s
  pub added : AddsFine s.held
  pub texts : SetsFine s.held
  pub frozen : (id : Id8) (text : List ℕ) → meta_in s.held.metas id ≡ Some text
      → IsOtherText (base_nodes s) id text
  pub free : (p : List ℕ) (m n : Node) → get s.held.added p ≡ Some m → get (base_nodes s) p ≡ Some n
      → is_gone (lists s.held.dropped) (base_nodes s) p ≡ true
  pub chunks : AreSized s.held.chunks
  pub props : AreProps s.props
  pub few : len (nodes_seen s) ≤ most_nodes
