-- What the answers of calls on branches tell is what the branch's history gives, as it was at the
-- client's own event that decided them: at its get of the branch, its put or its removal.
use Rattle.std.specs.Prelude.{◌≡◌, ℕ, List, Option, option_map}
use Rattle.ice_base.specs.Names.{main_name}
use Rattle.ice_ids.specs.declared.Id12.{Id12}
use Rattle.ice_ids.specs.Text.{initial_id}
use Rattle.zarr_tree.specs.Trees.{Tree}
use Rattle.repo_objects.specs.declared.bad_objects.Bad.{Bad}
use Rattle.object_store.specs.declared.keys.Key.{Key}
use Rattle.object_store.specs.declared.keys.Key.TheVariants.{Branch}
use Rattle.object_store.specs.declared.events.Version.{Version}
use Rattle.object_store.specs.declared.events.Event.{Event}
use Rattle.store_api.specs.Telling.{RefWasBad, WasAbsent, WasRef}
use Rattle.histories.specs.Repository.{Change, last, Call, Open, Create, Reset, Drop, Answer}
use Rattle.histories.specs.Repository.{Opened, NoRef, RefExists, Appended, Moved, answer_of}
use Rattle.histories.specs.Calls.{history_of, IsHistory}
use Rattle.histories.specs.Formats.{files_by}
use Rattle.repo_read.specs.declared.resolving.At.{At}
use Rattle.refs_admin.specs.BranchTelling.{WasCreated, BranchWasThere, WasReset}
use Rattle.refs_admin.specs.BranchTelling.{ResetWasMoved, WasDropped, DropWasMoved}
use Rattle.refs_admin.specs.InitTelling.{RepositoryWasMade, MainStands}

-- the branch's history behind this journal gives the call this answer
abbrev pub Gives : (Id12 → Option Tree) → (ℕ → Change) → List Event → List ℕ
    → Call → Answer → Type 0
Gives trees given journal branch call answer =
    answer_of call (last (history_of (files_by trees) given journal branch)) ≡ answer

-- the version that was found, if the branch was there
abbrev pub found_at : Option Version → Answer
found_at there = Moved (option_map (λ version. version.0) there)

-- A branch that was got; one that was absent; one that was made, set or dropped; one that was not,
-- since it was there, or had moved on; and `main` of a new repository, which was made, or was
-- there. And a branch that was got is always a reference.
pub record BranchHistoriesTell (trees : Id12 → Option Tree) (given : ℕ → Change) (client : ℕ)
    (start journal : List Event) : Type 0 where
  pub opened : (branch : List ℕ) (version : Version) (id : Id12)
      (told : WasRef client (Branch branch) version id start journal)
      → Gives trees given told.got.own.before branch Open
      (Opened (record { version = version.0; id = id; tree = trees id }))
  pub absent : (branch : List ℕ) (told : WasAbsent client (Branch branch) start journal)
      → Gives trees given told.own.before branch Open NoRef
  pub made : (branch : List ℕ) (at : At) (told : WasCreated client branch at start journal)
      → Gives trees given told.made.own.before branch (Create told.aim.named.id) Appended
  pub was_there : (branch : List ℕ) (at : At) (version : Version)
      (told : BranchWasThere client branch at version start journal)
      → Gives trees given told.made.own.before branch (Create told.aim.named.id)
      (RefExists version.0)
  pub reset : (branch : List ℕ) (at : At) (told : WasReset client branch at start journal)
      → Gives trees given told.made.own.before branch (Reset told.old.0 told.aim.named.id) Appended
  pub reset_moved : (branch : List ℕ) (at : At) (there : Option Version)
      (told : ResetWasMoved client branch at there start journal)
      → Gives trees given told.made.own.before branch
      (Reset told.old.0 told.aim.named.id) (found_at there)
  pub dropped : (branch : List ℕ) (told : WasDropped client branch start journal)
      → Gives trees given told.made.own.before branch (Drop told.old.0) Appended
  pub drop_moved : (branch : List ℕ) (there : Option Version)
      (told : DropWasMoved client branch there start journal)
      → Gives trees given told.made.own.before branch (Drop told.old.0) (found_at there)
  pub began : (told : RepositoryWasMade client start journal)
      → Gives trees given told.own.before main_name (Create initial_id) Appended
  pub had_main : (version : Version) (told : MainStands client version start journal)
      → Gives trees given told.own.before main_name (Create initial_id) (RefExists version.0)
  pub readable : (branch : List ℕ) (key : Key) (bad : Bad)
      → RefWasBad client (Branch branch) key bad start journal → ⊥

-- they do so in each journal over which the histories run
abbrev pub BranchHistoriesLaw : Type 0
BranchHistoriesLaw =
    (trees : Id12 → Option Tree) (given : ℕ → Change) (client : ℕ) (start journal : List Event)
    → IsHistory (files_by trees) given journal
    → BranchHistoriesTell trees given client start journal
