-- What the machines have still to do.
use Rattle.std.specs.Prelude.{ℕ, zero, suc, ◌+◌, List, [], ◌∷◌, ◌++◌, Option, Some, None, Ok, Err}
use Rattle.ice_ids.specs.declared.Id12.{Id12}
use Rattle.store_api.specs.declared.machines.Refusal.{Refusal}
use Rattle.store_api.specs.declared.machines.Refusal.TheVariants.{NoSnapshot, BadFile, TooDeep}
use Rattle.store_api.specs.declared.machines.Refusal.TheVariants.{StoreFault, NoMemory}
use Rattle.store_api.specs.Program.{Done}
use Rattle.store_api.specs.Running.{Program, ◌>>=◌}
use Rattle.repo_read.specs.Chains.{most_snapshots}
use Rattle.repo_read.specs.Programs.{snapshot_program}
use Rattle.repo_read.specs.declared.resolving.Resolution.{Resolution}
use Rattle.repo_read.specs.declared.resolving.Resolution.TheVariants.{Known, Asks}
use Rattle.refs_admin.specs.declared.branch_new.Creating.{Creating}
use Rattle.refs_admin.specs.declared.branch_new.BranchNew.{BranchNew}
use Rattle.refs_admin.specs.declared.branch_reset.Moving.{Moving}
use Rattle.refs_admin.specs.declared.branch_reset.BranchReset.{BranchReset}
use Rattle.refs_admin.specs.declared.branch_drop.Dropping.{Dropping}
use Rattle.refs_admin.specs.declared.branch_drop.BranchDrop.{BranchDrop}
use Rattle.refs_admin.specs.declared.tag_new.Tagging.{Tagging}
use Rattle.refs_admin.specs.declared.tag_new.TagNew.{TagNew}
use Rattle.refs_admin.specs.declared.tag_drop.Burying.{Burying}
use Rattle.refs_admin.specs.declared.tag_drop.TagDrop.{TagDrop}
use Rattle.refs_admin.specs.declared.init.InitStep.{InitStep}
use Rattle.refs_admin.specs.declared.init.Init.{Init}
use Rattle.refs_admin.specs.declared.log.Logging.{Logging}
use Rattle.refs_admin.specs.declared.log.LogLine.{LogLine}
use Rattle.refs_admin.specs.declared.log.Walk.{Walk}
use Rattle.refs_admin.specs.declared.log.Log.{Log}
use Rattle.refs_admin.specs.Branches.{create_program, put_branch, reset_program}
use Rattle.refs_admin.specs.Branches.{move_program, put_over, branch_drop_program, removal}
use Rattle.refs_admin.specs.Tags.{tag_target_program, put_tag, taken_program}
use Rattle.refs_admin.specs.Tags.{tag_drop_program, put_tombstone}
use Rattle.refs_admin.specs.NewRepository.{init_program, put_main}
use Rattle.repo_read.specs.Resolving.{no_ref}
use Rattle.refs_admin.specs.LogReading.{line_of, refused_first}
use Rattle.repo_read.specs.Seeking.{resolving_rest, resolving_left}

-- the refusals of the get of a snapshot that a ref is to name
abbrev pub MayRefuseTarget : Refusal → Type 0
MayRefuseTarget NoSnapshot = Unit {0}
MayRefuseTarget (BadFile key bad) = Unit {0}
MayRefuseTarget StoreFault = Unit {0}
MayRefuseTarget NoMemory = Unit {0}
MayRefuseTarget _ = ⊥

-- ---- a new branch
abbrev pub creating_rest : (name : List ℕ) → Creating → Program (Unit {0})
creating_rest name (Creating.Resolving resolving) =
    resolving_rest resolving >>= λ named. create_program name named.id
creating_rest name (Creating.Target id) = create_program name id
creating_rest name (Creating.Branch id) = put_branch name id
creating_rest name Creating.Ended = Done (Err NoMemory)

abbrev pub branch_new_rest : BranchNew → Program (Unit {0})
branch_new_rest m = creating_rest m.name m.state

abbrev pub creating_left : Creating → ℕ
creating_left (Creating.Resolving resolving) = resolving_left resolving + 2
creating_left (Creating.Target id) = 2
creating_left (Creating.Branch id) = 1
creating_left Creating.Ended = 0

abbrev pub branch_new_left : BranchNew → ℕ
branch_new_left m = creating_left m.state

-- ---- a branch that is set to another snapshot
abbrev pub moving_rest : (name : List ℕ) → Moving → Program (Unit {0})
moving_rest name (Moving.Resolving resolving) =
    resolving_rest resolving >>= λ named. reset_program name named.id
moving_rest name (Moving.Branch id) = reset_program name id
moving_rest name (Moving.Target id version) = move_program name id version
moving_rest name (Moving.Over id version) = put_over name id version
moving_rest name Moving.Ended = Done (Err NoMemory)

abbrev pub branch_reset_rest : BranchReset → Program (Unit {0})
branch_reset_rest m = moving_rest m.name m.state

abbrev pub moving_left : Moving → ℕ
moving_left (Moving.Resolving resolving) = resolving_left resolving + 3
moving_left (Moving.Branch id) = 3
moving_left (Moving.Target id version) = 2
moving_left (Moving.Over id version) = 1
moving_left Moving.Ended = 0

abbrev pub branch_reset_left : BranchReset → ℕ
branch_reset_left m = moving_left m.state

-- ---- a branch that is dropped
abbrev pub dropping_rest : (name : List ℕ) → Dropping → Program (Unit {0})
dropping_rest name Dropping.Branch = branch_drop_program name
dropping_rest name (Dropping.Removal version) = removal name version
dropping_rest name Dropping.Ended = Done (Err NoMemory)

abbrev pub branch_drop_rest : BranchDrop → Program (Unit {0})
branch_drop_rest m = dropping_rest m.name m.state

abbrev pub dropping_left : Dropping → ℕ
dropping_left Dropping.Branch = 2
dropping_left (Dropping.Removal version) = 1
dropping_left Dropping.Ended = 0

abbrev pub branch_drop_left : BranchDrop → ℕ
branch_drop_left m = dropping_left m.state

-- ---- a new tag
abbrev pub tagging_rest : (name : List ℕ) → Tagging → Program (Unit {0})
tagging_rest name (Tagging.Resolving resolving) =
    resolving_rest resolving >>= λ named. tag_target_program name named.id
tagging_rest name (Tagging.Target id) = tag_target_program name id
tagging_rest name (Tagging.Tag id) = put_tag name id
tagging_rest name (Tagging.Tombstone version) = taken_program name version
tagging_rest name Tagging.Ended = Done (Err NoMemory)

abbrev pub tag_new_rest : TagNew → Program (Unit {0})
tag_new_rest m = tagging_rest m.name m.state

abbrev pub tagging_left : Tagging → ℕ
tagging_left (Tagging.Resolving resolving) = resolving_left resolving + 3
tagging_left (Tagging.Target id) = 3
tagging_left (Tagging.Tag id) = 2
tagging_left (Tagging.Tombstone version) = 1
tagging_left Tagging.Ended = 0

abbrev pub tag_new_left : TagNew → ℕ
tag_new_left m = tagging_left m.state

-- ---- a tag that is dropped
abbrev pub burying_rest : (name : List ℕ) → Burying → Program (Unit {0})
burying_rest name Burying.Tag = tag_drop_program name
burying_rest name Burying.Tombstone = put_tombstone name
burying_rest name Burying.Ended = Done (Err NoMemory)

abbrev pub tag_drop_rest : TagDrop → Program (Unit {0})
tag_drop_rest m = burying_rest m.name m.state

abbrev pub burying_left : Burying → ℕ
burying_left Burying.Tag = 2
burying_left Burying.Tombstone = 1
burying_left Burying.Ended = 0

abbrev pub tag_drop_left : TagDrop → ℕ
tag_drop_left m = burying_left m.state

-- ---- a repository
abbrev pub init_step_rest : InitStep → Program (Unit {0})
init_step_rest InitStep.Snapshot = init_program
init_step_rest InitStep.Main = put_main
init_step_rest InitStep.Ended = Done (Err NoMemory)

abbrev pub init_rest : Init → Program (Unit {0})
init_rest m = init_step_rest m.state

abbrev pub init_step_left : InitStep → ℕ
init_step_left InitStep.Snapshot = 2
init_step_left InitStep.Main = 1
init_step_left InitStep.Ended = 0

abbrev pub init_left : Init → ℕ
init_left m = init_step_left m.state

-- ---- a log
-- The lines of the snapshots from this one along the parents, behind those that were read; no
-- more than so many more are read.
unfoldable pub log_walk : (left : ℕ) → (lines : List LogLine) → Id12 → Program (List LogLine)
log_walk zero lines id = Done (Err TooDeep)
log_walk (suc left) lines id = snapshot_program id >>= λ s. elim s.parent [
  | Some parent ↦ log_walk left (lines ++ line_of s ∷ []) parent
  | None ↦ Done (Ok (lines ++ line_of s ∷ []))
]

-- ... behind a snapshot with this parent
abbrev pub walk_behind : (left : ℕ) → (lines : List LogLine) → (parent : Option Id12)
    → Program (List LogLine)
walk_behind left lines None = Done (Ok lines)
walk_behind left lines (Some parent) = log_walk left lines parent

-- what is left of a walk
abbrev pub walk_rest : Walk → Program (List LogLine)
walk_rest walk = log_walk walk.left walk.lines walk.next

abbrev pub logging_rest : Logging → Program (List LogLine)
logging_rest (Logging.Resolving resolving) =
    resolving_rest resolving >>= λ named. log_walk most_snapshots [] named.id
logging_rest (Logging.Head walk) = refused_first no_ref (walk_rest walk)
logging_rest (Logging.Chain walk) = walk_rest walk
logging_rest Logging.Ended = Done (Err NoMemory)

-- how a log begins
abbrev pub first_rest : Resolution → Program (List LogLine)
first_rest (Known named) = refused_first no_ref (log_walk most_snapshots [] named.id)
first_rest (Asks resolving) = logging_rest (Logging.Resolving resolving)

abbrev pub log_rest : Log → Program (List LogLine)
log_rest m = logging_rest m.state

abbrev pub logging_left : Logging → ℕ
logging_left (Logging.Resolving resolving) = resolving_left resolving + most_snapshots
logging_left (Logging.Head walk) = walk.left
logging_left (Logging.Chain walk) = walk.left
logging_left Logging.Ended = 0

abbrev pub log_left : Log → ℕ
log_left m = logging_left m.state
