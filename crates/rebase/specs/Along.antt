-- What becomes of a session's changes along the commits that came before it. (Icechunk's manual,
-- "Conflict resolution": a session is rebased over one commit after another. That a log is checked
-- for nodes that it hides is own.)
use Rattle.std.specs.Prelude.{ℕ, Bool, not, ◌&&◌, if◌then◌else◌}
use Rattle.std.specs.Prelude.{List, [], ◌∷◌, Option, Some, None, is_some}
use Rattle.std.specs.List.{list_any}
use Rattle.std.specs.FinMap.{FinMap, entries}
use Rattle.ice_ids.specs.declared.Id8.{Id8}
use Rattle.ice_ids.specs.declared.Id12.{Id12}
use Rattle.ice_ids.specs.Text.{same_id8}
use Rattle.zarr_path.specs.Paths.{path_cmp}
use Rattle.manifest_file.specs.declared.manifest.Place.{Place}
use Rattle.snapshot_file.specs.declared.snapshot.SnapshotFile.{SnapshotFile}
use Rattle.repo_objects.specs.Trees.{nodes_in}
use Rattle.zarr_tree.specs.declared.cases.Conflict.{Conflict}
use Rattle.zarr_tree.specs.declared.lists.Touched.{Touched}
use Rattle.zarr_tree.specs.Nodes.{Node, frozen_change}
use Rattle.zarr_tree.specs.Held.{Held}
use Rattle.zarr_changes.specs.Edits.{without_chunks}
use Rattle.conflicts.specs.declared.solving.Policy.{Policy}
use Rattle.conflicts.specs.Found.{Sides, found}
use Rattle.conflicts.specs.Solving.{left_of, given_up, keys_in}

-- a commit: its snapshot, and what its log lists
pub record Link : Type 0 where
  pub file : SnapshotFile
  pub lists : Touched

-- what is held and a commit, where these were the nodes before it
abbrev pub sides_at : Held Place → FinMap path_cmp Node → Link → Sides
sides_at held before l = record {
  held = held;
  theirs = l.lists;
  before = before;
  after = nodes_in l.file.nodes;
}

-- the conflicts of what is held with a commit that the policy doesn't solve
abbrev pub left_at : Policy → Held Place → FinMap path_cmp Node → Link → List Conflict
left_at policy held before l = left_of policy (found (sides_at held before l))

-- what is held without the entries that the policy gives up
abbrev pub solved_at : Policy → Held Place → FinMap path_cmp Node → Link → Held Place
solved_at policy held before l =
    without_chunks held (keys_in before (given_up policy (found (sides_at held before l))))

-- ---- logs that hide a node
-- whether a node with this id is among these and has what stays of its metadata as in this text
abbrev pub is_kept : FinMap path_cmp Node → Id8 → (text : List ℕ) → Bool
is_kept nodes id text =
    list_any (λ row. same_id8 row.1.id id && not (is_some (frozen_change row.1.text text)))
    (entries nodes)

-- the first node with another text that isn't kept so
abbrev pub first_hidden : FinMap path_cmp Node → List (Id8 × List ℕ) → Option Id8
first_hidden nodes [] = None
first_hidden nodes (row ∷ rows) =
    if is_kept nodes row.0 row.1 then first_hidden nodes rows else Some row.0

-- ---- commit after commit
-- All is solved, and this is still held; or these conflicts with a commit stay; or a commit's log
-- doesn't tell what it did to a node.
pub data Way : Type 0 where
  Solves : Held Place → Way
  Stays : (at : Id12) → List Conflict → Way
  Hides : (at : Id12) → (node : Id8) → Way

-- the first commit of which conflicts stay, or whose log hides a node, ends the way
abbrev pub past : (at : Id12) → (left : List Conflict) → (hidden : Option Id8) → Way → Way
past at (x ∷ xs) hidden further = Stays at (x ∷ xs)
past at [] (Some node) further = Hides at node
past at [] None further = further

-- from the oldest on, each against what is still held by then
unfoldable pub along : Policy → Held Place → FinMap path_cmp Node → List Link → Way
along policy held before [] = Solves held
along policy held before (l ∷ ls) =
    past l.file.id (left_at policy held before l) (first_hidden (nodes_in l.file.nodes) held.metas)
    (along policy (solved_at policy held before l) (nodes_in l.file.nodes) ls)
