-- What a session is: a base, changes, and where it writes to. (Own; Icechunk's
-- manual, "Sessions".)
use Rattle.std.specs.Prelude.{ℕ, Bool, true, false, List, [], Option, Some, None}
use Rattle.std.specs.FinMap.{FinMap}
use Rattle.ice_ids.specs.declared.Id12.{Id12}
use Rattle.ice_ids.specs.declared.drawing.AnyIds.{AnyIds}
use Rattle.zarr_path.specs.Paths.{path_cmp}
use Rattle.zarr_tree.specs.Nodes.{Node}
use Rattle.zarr_tree.specs.Trees.{Tree}
use Rattle.zarr_tree.specs.Changes.{Changes, apply}
use Rattle.zarr_tree.specs.Held.{Held, changes_of, nodes_over}
use Rattle.manifest_file.specs.declared.manifest.Place.{Place}
use Rattle.snapshot_file.specs.declared.nodes.NodeRow.{NodeRow}
use Rattle.snapshot_file.specs.declared.snapshot.ManifestInfo.{ManifestInfo}
use Rattle.snapshot_file.specs.declared.snapshot.SnapshotFile.{SnapshotFile}
use Rattle.repo_objects.specs.Trees.{Puts, bytes_at, nodes_in, tree_under}
use Rattle.object_store.specs.Machine.{version_at}
use Rattle.session.specs.declared.origin.Tip.{Tip}
use Rattle.session.specs.declared.origin.Origin.{Origin}
use Rattle.session.specs.declared.origin.Origin.TheVariants.{Writes, ReadsBranch, ReadsTag, ReadsId}

-- What named a session's base, and whether it writes; the snapshot that is its base,
-- with its rows and manifests; what was changed of it; the properties of the snapshot
-- that it commits; and the ids to draw.
pub record SessionState : Type 0 where
  pub origin : Origin
  pub base : Id12
  pub rows : List NodeRow
  pub files : List ManifestInfo
  pub held : Held Place
  pub props : List (List ℕ × List ℕ)
  pub ids : AnyIds

-- ---- what named the base
-- the branch that named it, if one did, and the version at which it did
abbrev pub tip_in : Origin → Option Tip
tip_in (Writes tip) = Some tip
tip_in (ReadsBranch tip) = Some tip
tip_in (ReadsTag name) = None
tip_in ReadsId = None

abbrev pub tip_of : SessionState → Option Tip
tip_of s = tip_in s.origin

abbrev pub tip_branch : Option Tip → List ℕ
tip_branch None = []
tip_branch (Some tip) = tip.branch

abbrev pub tip_version : Option Tip → ℕ
tip_version None = 0
tip_version (Some tip) = tip.version.0

-- its branch, and the version at which that named its base (where no
-- branch did, nothing asks for them)
abbrev pub branch_of : SessionState → List ℕ
branch_of s = tip_branch (tip_of s)

abbrev pub version_of : SessionState → ℕ
version_of s = tip_version (tip_of s)

-- it was opened to write
abbrev pub writes_in : Origin → Bool
writes_in (Writes tip) = true
writes_in (ReadsBranch tip) = false
writes_in (ReadsTag name) = false
writes_in ReadsId = false

abbrev pub writes : SessionState → Bool
writes s = writes_in s.origin

-- the same branch at another version
abbrev pub tip_at : (version : ℕ) → Tip → Tip
tip_at version tip = record { branch = tip.branch; version = version_at version }

abbrev pub origin_at : (version : ℕ) → Origin → Origin
origin_at version (Writes tip) = Writes (tip_at version tip)
origin_at version (ReadsBranch tip) = ReadsBranch (tip_at version tip)
origin_at version (ReadsTag name) = ReadsTag name
origin_at version ReadsId = ReadsId

-- the nodes of the base, and those that a session's reads see
abbrev pub base_nodes : SessionState → FinMap path_cmp Node
base_nodes s = nodes_in s.rows

abbrev pub nodes_seen : SessionState → FinMap path_cmp Node
nodes_seen s = nodes_over s.held (base_nodes s)

-- by what was put: the tree of the base, the changes, and the tree that a session's reads
-- see, its base under its changes
abbrev pub base_tree : Puts → SessionState → Tree
base_tree puts s = tree_under puts s.rows

abbrev pub changes_in : Puts → SessionState → Changes
changes_in puts s = changes_of (bytes_at puts) s.held

abbrev pub overlay : Puts → SessionState → Tree
overlay puts s = apply (changes_in puts s) (base_tree puts s)

-- a session on another snapshot, which its branch names from this version on, with these changes
abbrev pub rebased_to : SessionState → Id12 → (version : ℕ) → SnapshotFile
    → Held Place → SessionState
rebased_to s id version snap held = record s {
  origin = origin_at version s.origin;
  base = id;
  rows = snap.nodes;
  files = snap.manifest_files;
  held = held;
}
