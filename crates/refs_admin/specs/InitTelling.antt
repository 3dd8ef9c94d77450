-- What the answer to a new repository says of the journal. (Icechunk specification version
-- 1, "Initialize New Repository".)
use Rattle.std.specs.Prelude.{◌≡◌, ◌⊎◌, ℕ, Bool, List, length, None, Result, Ok, Err}
use Rattle.ice_base.specs.Names.{main_name}
use Rattle.ice_ids.specs.Text.{initial_id}
use Rattle.ref_file.specs.Refs.{ref_bytes}
use Rattle.repo_objects.specs.Laws.{initial_bytes}
use Rattle.object_store.specs.declared.keys.Key.TheVariants.{Snapshot, Branch}
use Rattle.object_store.specs.declared.keys.Why.TheVariants as why
use Rattle.object_store.specs.declared.events.Version.{Version}
use Rattle.object_store.specs.declared.events.Op.{Op}
use Rattle.object_store.specs.declared.events.Op.TheVariants.{PutNew}
use Rattle.object_store.specs.declared.events.New.{New}
use Rattle.object_store.specs.declared.events.New.TheVariants.{Done as New_done, Present}
use Rattle.object_store.specs.declared.events.Reply.TheVariants.{New as Is_new, Failed}
use Rattle.object_store.specs.declared.events.Event.{Event}
use Rattle.store_api.specs.declared.machines.Refusal.{Refusal}
use Rattle.store_api.specs.declared.machines.Refusal.TheVariants as R
use Rattle.object_store.specs.Machine.{found, version_at}
use Rattle.store_api.specs.Telling.{HasOwn, StandsAt}

-- ---- a repository
-- the initial snapshot was put by the client, or was there
abbrev pub puts_initial : Op
puts_initial = PutNew (Snapshot initial_id) initial_bytes why.Init

pub record HasInitial (client : ℕ) (start journal : List Event) : Type 0 where
  pub answer : New
  pub own : HasOwn client puts_initial (Is_new answer) start journal

abbrev pub puts_main : Op
puts_main = PutNew (Branch main_name) (ref_bytes initial_id) why.Init

-- `main` was absent, and the client's own put made it, with the initial snapshot, which the
-- client had put where it was absent.
pub record RepositoryWasMade (client : ℕ) (start journal : List Event) : Type 0 where
  pub initial : HasInitial client start journal
  pub version : Version
  pub now : ℕ
  pub own : HasOwn client puts_main (Is_new (New_done version now)) start journal
  pub position : version ≡ version_at (length own.before)
  pub free : found own.before (Branch main_name) ≡ None

-- The client's own put found `main` there, at this version.
pub record MainStands (client : ℕ) (version : Version) (start journal : List Event) : Type 0 where
  pub initial : HasInitial client start journal
  pub now : ℕ
  pub own : HasOwn client puts_main (Is_new (Present version now)) start journal
  pub there : StandsAt own.before (Branch main_name) version.0

-- one of the two puts failed, and may have been done
pub record InitFailed (client : ℕ) (start journal : List Event) : Type 0 where
  pub op : Op
  pub which : (op ≡ puts_initial) ⊎ (op ≡ puts_main)
  pub done : Bool
  pub own : HasOwn client op (Failed done) start journal

abbrev pub InitTells : ℕ → List Event → Result (Unit {0}) Refusal → List Event → Type 0
InitTells client start (Ok done) journal = RepositoryWasMade client start journal
InitTells client start (Err (R.RefExists version)) journal = MainStands client version start journal
InitTells client start (Err R.StoreFault) journal = InitFailed client start journal
InitTells client start (Err _) journal = ⊥
