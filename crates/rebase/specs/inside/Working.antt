-- What the parts of the machine come to.
use Rattle.std.specs.Prelude.{◌≡◌, ℕ, ◌-◌, Bool, false, not, ◌&&◌, if◌then◌else◌}
use Rattle.std.specs.Prelude.{List, [], ◌∷◌, length, reverse, Option, Some, None}
use Rattle.std.specs.Prelude.{is_some, unwrap_or, Result, Ok, Err}
use Rattle.std.specs.List.{list_any}
use Rattle.ice_ids.specs.declared.Id8.{Id8}
use Rattle.ice_ids.specs.declared.Id12.{Id12}
use Rattle.ice_ids.specs.Text.{same_id8, same_id12}
use Rattle.std.specs.FinMap.{FinMap}
use Rattle.zarr_path.specs.Paths.{path_cmp}
use Rattle.manifest_file.specs.declared.manifest.Place.{Place}
use Rattle.snapshot_file.specs.declared.snapshot.SnapshotFile.{SnapshotFile}
use Rattle.repo_objects.specs.declared.bad_objects.Bad.TheVariants.{Unlisted}
use Rattle.repo_objects.specs.Trees.{nodes_in}
use Rattle.zarr_tree.specs.declared.lists.Touched.{Touched}
use Rattle.zarr_tree.specs.Nodes.{Node, frozen_change}
use Rattle.zarr_tree.specs.Touched.{lists}
use Rattle.zarr_tree.specs.Held.{Held, Rows, meta_in}
use Rattle.conflicts.specs.declared.solving.Policy.{Policy}
use Rattle.conflicts.specs.Found.{found}
use Rattle.conflicts.specs.Solving.{given_up, keys_in}
use Rattle.object_store.specs.declared.keys.Key.TheVariants.{Txn}
use Rattle.store_api.specs.declared.machines.Refusal.{Refusal}
use Rattle.store_api.specs.declared.machines.Refusal.TheVariants.{BadFile, Left}
use Rattle.store_api.specs.declared.machines.Refusal.TheVariants.{NotAncestor, NoMemory}
use Rattle.store_api.specs.Program.{Done, is_no_memory}
use Rattle.store_api.specs.Running.{Program, ◌>>=◌}
use Rattle.repo_read.specs.declared.answers.Resolved.{Resolved}
use Rattle.repo_read.specs.Chains.{most_snapshots}
use Rattle.session.specs.Sessions.{SessionState}
use Rattle.rebase.specs.declared.rebasing.Walk.{Walk}
use Rattle.rebase.specs.declared.rebasing.Solving.{Solving}
use Rattle.rebase.specs.declared.machine.Rebased.{Rebased}
use Rattle.rebase.specs.Along.{Link, left_at, first_hidden, sides_at}
use Rattle.rebase.specs.Rebasing.{CommitsSince, head_of, walk_down, if_solved, solve_link}
use Rattle.rebase.specs.Rebasing.{solve_program, on_head, over_commits, nodes_before}

-- ---- nodes that a log hides
-- whether a node keeps what stays of its metadata in the other text for its id
abbrev pub keeps_text : (text : List ℕ) → Option (List ℕ) → Bool
keeps_text text None = false
keeps_text text (Some other) = not (is_some (frozen_change text other))

abbrev pub keeps_other : List (Id8 × List ℕ) → Node → Bool
keeps_other metas n = keeps_text n.text (meta_in metas n.id)

-- whether a row's node has this id and keeps it so
abbrev pub kept_among : List (Id8 × List ℕ) → Rows → Id8 → Bool
kept_among metas rows id = list_any (λ row. same_id8 row.1.id id && keeps_other metas row.1) rows

-- the first of these ids that isn't in a list
abbrev pub first_unlisted : (ids set : List Id8) → Option Id8
first_unlisted [] set = None
first_unlisted (id ∷ ids) set = if lists set id then first_unlisted ids set else Some id

-- ---- a commit
-- the refusals of what a commit makes of the changes
abbrev pub MayRefuseCommit : Refusal → Type 0
MayRefuseCommit (BadFile key bad) = Unit {0}
MayRefuseCommit (Left at conflicts) = Unit {0}
MayRefuseCommit NoMemory = Unit {0}
MayRefuseCommit _ = ⊥

-- no conflict stays, and these chunks are given up; or these stay
abbrev pub GivesUp : Policy → Held Place → FinMap path_cmp Node → Link
    → Result (List (List ℕ × List ℕ)) Refusal → Type 0
GivesUp policy held before l (Ok given) =
    (left_at policy held before l ≡ []) × (given ≡ given_up policy (found (sides_at held before l)))
GivesUp policy held before l (Err (Left at conflicts)) =
    (at ≡ l.file.id) × (conflicts ≡ left_at policy held before l)
    × (left_at policy held before l ≡ [] → ⊥)
GivesUp policy held before l (Err why) = why ≡ NoMemory

-- the log hides no node, or this one
abbrev pub Shows : Held Place → SnapshotFile → Result (Unit {0}) Refusal → Type 0
Shows held f (Ok done) = first_hidden (nodes_in f.nodes) held.metas ≡ None
Shows held f (Err (BadFile key (Unlisted node))) =
    (key ≡ Txn f.id) × (first_hidden (nodes_in f.nodes) held.metas ≡ Some node)
Shows held f (Err why) = why ≡ NoMemory

-- all is solved, and these entries are given up; or this refuses whatever follows
abbrev pub Clears : Policy → Held Place → FinMap path_cmp Node → Link
    → Result (List (Id8 × List ℕ)) Refusal → Type 0
Clears policy held before l (Ok out) =
    (left_at policy held before l ≡ []) × (first_hidden (nodes_in l.file.nodes) held.metas ≡ None)
    × (out ≡ keys_in before (given_up policy (found (sides_at held before l))))
Clears policy held before l (Err why) =
    is_no_memory why ≡ false → (p : Program (Held Place))
    → if_solved l.file.id (left_at policy held before l)
    (first_hidden (nodes_in l.file.nodes) held.metas) p
    ≡ Done (Err why)

-- ---- what follows
-- a snapshot that was read: its parent is the base, or is read next
abbrev pub parent_behind : (base head : Id12) → (left : ℕ) → (above : List SnapshotFile)
    → SnapshotFile → Option Id12 → Program CommitsSince
parent_behind base head left above f None = Done (Err (NotAncestor head))
parent_behind base head left above f (Some parent) =
    if same_id12 parent base then Done (Ok (record { oldest = f; later = above }))
    else walk_down base head left (f ∷ above) parent

abbrev pub walk_behind : Policy → SessionState → Walk → SnapshotFile → Program Rebased
walk_behind policy s w f =
    parent_behind s.base w.named.id (most_snapshots - length w.above - 1)
    (reverse w.above) f f.parent
    >>= over_commits policy s w.named

-- a commit with which all is solved
abbrev pub commits_behind : Policy → SessionState → Resolved → (count : ℕ) → SnapshotFile
    → (later : List SnapshotFile) → Held Place → Program Rebased
commits_behind policy s named count f later held =
    solve_program policy held (nodes_in f.nodes) (reverse later)
    >>= on_head s named count (head_of f (reverse later))

-- a commit whose log was read
abbrev pub lists_behind : Policy → SessionState → Solving → Touched → Program Rebased
lists_behind policy s l touched =
    solve_link policy (unwrap_or l.held s.held) (nodes_before s l.before)
    (record { file = l.oldest; lists = touched })
    (λ left. solve_program policy left (nodes_in l.oldest.nodes) (reverse l.later))
    >>= on_head s l.named l.count (head_of l.oldest (reverse l.later))
