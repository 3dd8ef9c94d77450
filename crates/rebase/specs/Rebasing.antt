-- The program of a rebase: it gets the branch, then snapshots from there along the parents down to
-- the one whose parent is the session's base, and then the logs of these commits, the oldest first;
-- the conflicts with each are solved before the next one is got. (Icechunk's manual, "Conflict
-- resolution"; the order of operations is own.)
use Rattle.std.specs.Prelude.{◌≡◌, ℕ, zero, suc, ◌+◌, ◌-◌, nat_lt, if◌then◌else◌, List, [], ◌∷◌}
use Rattle.std.specs.Prelude.{length, reverse, Option, Some, None, unwrap_or, Result, Ok, Err}
use Rattle.std.specs.FinMap.{FinMap, len}
use Rattle.ice_ids.specs.declared.Id8.{Id8}
use Rattle.ice_ids.specs.declared.Id12.{Id12}
use Rattle.ice_ids.specs.Text.{same_id12}
use Rattle.zarr_path.specs.Paths.{path_cmp}
use Rattle.manifest_file.specs.declared.manifest.Place.{Place}
use Rattle.snapshot_file.specs.declared.snapshot.SnapshotFile.{SnapshotFile}
use Rattle.repo_objects.specs.declared.bad_objects.Bad.TheVariants.{Unlisted}
use Rattle.repo_objects.specs.Trees.{nodes_in}
use Rattle.zarr_tree.specs.declared.cases.Conflict.{Conflict}
use Rattle.zarr_tree.specs.Nodes.{Node}
use Rattle.zarr_tree.specs.Edits.{most_nodes}
use Rattle.zarr_tree.specs.Held.{Held, nodes_over}
use Rattle.conflicts.specs.declared.solving.Policy.{Policy}
use Rattle.object_store.specs.declared.keys.Key.TheVariants.{Txn}
use Rattle.store_api.specs.declared.machines.Next.{Next}
use Rattle.store_api.specs.declared.machines.Next.TheVariants.{Again, Ready}
use Rattle.store_api.specs.declared.machines.Refusal.{Refusal}
use Rattle.zarr_tree.specs.declared.edit.EditFault.TheVariants.{Full}
use Rattle.store_api.specs.declared.machines.Refusal.TheVariants.{ReadOnly, NoRef, Missing}
use Rattle.store_api.specs.declared.machines.Refusal.TheVariants.{BadFile, TooDeep, Edit, Left}
use Rattle.store_api.specs.declared.machines.Refusal.TheVariants.{NotAncestor, StoreFault, NoMemory}
use Rattle.store_api.specs.Program.{Done, IsAsk}
use Rattle.store_api.specs.Running.{Program, ◌>>=◌}
use Rattle.repo_read.specs.declared.answers.Resolved.{Resolved}
use Rattle.repo_read.specs.Chains.{most_snapshots}
use Rattle.repo_read.specs.Programs.{resolve_program, snapshot_program, log_program}
use Rattle.session.specs.Sessions.{SessionState, branch_of, writes}
use Rattle.session.specs.Sessions.{origin_at, base_nodes, rebased_to}
use Rattle.rebase.specs.declared.rebasing.Walk.{Walk}
use Rattle.rebase.specs.declared.rebasing.Solving.{Solving}
use Rattle.rebase.specs.declared.rebasing.Rebasing.{Rebasing}
use Rattle.rebase.specs.declared.rebasing.Rebasing.TheVariants as state
use Rattle.rebase.specs.declared.machine.Rebased.{Rebased}
use Rattle.rebase.specs.declared.machine.Rebased.TheVariants.{OnHead, UpToDate}
use Rattle.rebase.specs.declared.machine.Rebase.{Rebase}
use Rattle.rebase.specs.Along.{Link, left_at, solved_at, first_hidden}

-- ---- the commits
-- the commits since the base: the one whose parent is the base, and the later ones
pub record CommitsSince : Type 0 where
  pub oldest : SnapshotFile
  pub later : List SnapshotFile

-- the last one of a snapshot and later ones
abbrev pub head_of : SnapshotFile → List SnapshotFile → SnapshotFile
head_of f [] = f
head_of f (g ∷ gs) = head_of g gs

-- Along the parents from this snapshot, above which these were read, down to the one whose parent
-- is the base; `head` is where the walk began. No more than so many more are read.
unfoldable pub walk_down : (base head : Id12) → (left : ℕ) → (above : List SnapshotFile) → Id12
    → Program CommitsSince
walk_down base head zero above id = Done (Err TooDeep)
walk_down base head (suc left) above id = snapshot_program id >>= λ f. elim f.parent [
  | Some parent ↦ if same_id12 parent base then Done (Ok (record { oldest = f; later = above }))
      else walk_down base head left (f ∷ above) parent
  | None ↦ Done (Err (NotAncestor head))
]

-- ---- conflicts
-- the program, unless conflicts with a commit stay, or its log hides a node
abbrev pub if_solved : {A : Type 0} → (at : Id12) → (left : List Conflict) → (hidden : Option Id8)
    → Program A → Program A
if_solved at (x ∷ xs) hidden p = Done (Err (Left at (x ∷ xs)))
if_solved at [] (Some node) p = Done (Err (BadFile (Txn at) (Unlisted node)))
if_solved at [] None p = p

-- what is still held, after a commit whose log has these lists
abbrev pub solve_link : Policy → Held Place → FinMap path_cmp Node → Link
    → (Held Place → Program (Held Place)) → Program (Held Place)
solve_link policy held before l next =
    if_solved l.file.id (left_at policy held before l)
    (first_hidden (nodes_in l.file.nodes) held.metas) (next (solved_at policy held before l))

-- what is still held after these commits, the oldest first
unfoldable pub solve_program : Policy → Held Place → FinMap path_cmp Node → List SnapshotFile
    → Program (Held Place)
solve_program policy held before [] = Done (Ok held)
solve_program policy held before (f ∷ fs) =
    log_program f.id
    >>= λ log. solve_link policy held before (record { file = f; lists = log.lists })
    (λ left. solve_program policy left (nodes_in f.nodes) fs)

-- ---- the rebase
-- the session on the branch's snapshot, unless its tree would have more nodes than a tree may have
abbrev pub on_head : SessionState → Resolved → (count : ℕ) → SnapshotFile → Held Place
    → Program Rebased
on_head s named count head held =
    if nat_lt most_nodes (len (nodes_over held (nodes_in head.nodes))) then Done (Err (Edit Full))
    else Done (Ok (OnHead (rebased_to s named.id named.version.0 head held) count))

-- over these commits
abbrev pub over_commits : Policy → SessionState → Resolved → CommitsSince → Program Rebased
over_commits policy s named c =
    solve_program policy s.held (base_nodes s) (c.oldest ∷ c.later)
    >>= on_head s named (length c.later + 1) (head_of c.oldest c.later)

-- from what the branch names
abbrev pub after_ref : Policy → SessionState → Resolved → Program Rebased
after_ref policy s named =
    if same_id12 named.id s.base
    then Done (Ok (UpToDate (record s { origin = origin_at named.version.0 s.origin }))) else
    walk_down s.base named.id most_snapshots [] named.id >>= over_commits policy s named

unfoldable pub rebase_program : Policy → SessionState → Program Rebased
rebase_program policy s =
    if writes s then resolve_program (branch_of s) >>= after_ref policy s else Done (Err ReadOnly)

-- ---- the machine
-- The walk goes on with the next snapshot: these were read above it, the head first.
abbrev pub walk_rest : Policy → SessionState → Walk → Program Rebased
walk_rest policy s w =
    walk_down s.base w.named.id (most_snapshots - length w.above) (reverse w.above) w.next
    >>= over_commits policy s w.named

-- the nodes before a commit: those of the commit before it, if there is one, else the base's
abbrev pub nodes_before : SessionState → Option SnapshotFile → FinMap path_cmp Node
nodes_before s None = base_nodes s
nodes_before s (Some f) = nodes_in f.nodes

-- The logs of the oldest commit and of the later ones are got, the head's last. Where nothing was
-- given up, the session's changes are held.
abbrev pub solving_rest : Policy → SessionState → Solving → Program Rebased
solving_rest policy s l =
    solve_program policy (unwrap_or l.held s.held)
    (nodes_before s l.before) (l.oldest ∷ reverse l.later)
    >>= on_head s l.named l.count (head_of l.oldest (reverse l.later))

abbrev pub rebasing_rest : Policy → SessionState → Rebasing → Program Rebased
rebasing_rest policy s state.Ref = resolve_program (branch_of s) >>= after_ref policy s
rebasing_rest policy s (state.Snapshot w) = walk_rest policy s w
rebasing_rest policy s (state.Log l) = solving_rest policy s l
rebasing_rest policy s state.Ended = Done (Err NoMemory)

-- what there is to do with the session, if it is there
abbrev pub with_session : Option SessionState → (SessionState → Program Rebased) → Program Rebased
with_session None p = Done (Err NoMemory)
with_session (Some s) p = p s

-- what is still to be done
abbrev pub rebase_rest : Rebase → Program Rebased
rebase_rest m = with_session m.session (λ s. rebasing_rest m.policy s m.state)

-- the session in the machine, until it is given out
abbrev pub rebase_session : Rebase → Option SessionState
rebase_session m = m.session

-- the session stays as it was until it is given out
abbrev pub KeepsSession : Result (Next Rebased) Refusal → (old new : Option SessionState) → Type 0
KeepsSession (Ok Again) old new = new ≡ old
KeepsSession (Ok (Ready answer)) old new = new ≡ None
KeepsSession (Err why) old new = new ≡ old

-- how many steps are left at most: a get of each snapshot that may still be read,
-- and one of the log of each commit
abbrev pub walk_left : Walk → ℕ
walk_left w = most_snapshots - length w.above + most_snapshots

abbrev pub rebasing_left : Rebasing → ℕ
rebasing_left state.Ref = most_snapshots + most_snapshots + 1
rebasing_left (state.Snapshot w) = walk_left w
rebasing_left (state.Log l) = length l.later + 1
rebasing_left state.Ended = 0

abbrev pub rebase_left : Rebase → ℕ
rebase_left m = rebasing_left m.state

-- the machine has the program to run, and the session; or the program was refused, and
-- the session came back as it was
abbrev pub RebaseStarts : Policy → SessionState → Result Rebase (SessionState × Refusal) → Type 0
RebaseStarts policy s (Ok m) =
    (rebase_rest m ≡ rebase_program policy s) × IsAsk (rebase_rest m) × (rebase_session m ≡ Some s)
RebaseStarts policy s (Err refused) =
    (rebase_program policy s ≡ Done (Err refused.1)) × (refused.0 ≡ s)

-- the refusals of a rebase's start
abbrev pub MayRefuseStart : Refusal → Type 0
MayRefuseStart ReadOnly = Unit {0}
MayRefuseStart _ = ⊥

-- the refusals of a rebase that has begun
abbrev pub MayRefuseRebase : Refusal → Type 0
MayRefuseRebase NoRef = Unit {0}
MayRefuseRebase (Missing key) = Unit {0}
MayRefuseRebase (BadFile key bad) = Unit {0}
MayRefuseRebase TooDeep = Unit {0}
MayRefuseRebase (Edit Full) = Unit {0}
MayRefuseRebase (Left at conflicts) = Unit {0}
MayRefuseRebase (NotAncestor head) = Unit {0}
MayRefuseRebase StoreFault = Unit {0}
MayRefuseRebase NoMemory = Unit {0}
MayRefuseRebase _ = ⊥
