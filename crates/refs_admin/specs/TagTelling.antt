-- What the answers to new and dropped tags say of the journal. (Icechunk
-- specification version 1, "Tags".)
use Rattle.std.specs.Prelude.{◌≡◌, ◌⊎◌, ℕ, Bool, List, [], length, None, Result, Ok, Err}
use Rattle.ice_ids.specs.declared.Id12.{Id12}
use Rattle.ref_file.specs.Refs.{ref_bytes}
use Rattle.object_store.specs.declared.keys.Key.TheVariants.{Tag, Tombstone}
use Rattle.object_store.specs.declared.keys.Why.TheVariants as why
use Rattle.object_store.specs.declared.events.Version.{Version}
use Rattle.object_store.specs.declared.events.Op.{Op}
use Rattle.object_store.specs.declared.events.Op.TheVariants.{Get, PutNew}
use Rattle.object_store.specs.declared.events.New.TheVariants.{Done as New_done, Present}
use Rattle.object_store.specs.declared.events.Reply.TheVariants.{New as Is_new, Failed}
use Rattle.object_store.specs.declared.events.Event.{Event}
use Rattle.store_api.specs.declared.machines.Refusal.{Refusal}
use Rattle.store_api.specs.declared.machines.Refusal.TheVariants as R
use Rattle.object_store.specs.Machine.{found, version_at}
use Rattle.store_api.specs.Telling.{HasOwn, MadeGets, MadeOne, RefWasBad, StandsAt}
use Rattle.store_api.specs.Telling.{WasAbsent, WasFailure, WasPresent, WasRef}
use Rattle.repo_read.specs.declared.resolving.At.{At}
use Rattle.repo_read.specs.Naming.{TagNames}
use Rattle.refs_admin.specs.Telling.{WasAimed, IsOfMaking, MakingRefused}

-- ---- a new tag
abbrev pub tags : (name : List ℕ) → Id12 → Op
tags name id = PutNew (Tag name) (ref_bytes id) why.Tag

-- There was no tag, and the client's own put made it: it names the snapshot that was
-- named, which was there and readable.
pub record WasTagPut (client : ℕ) (name : List ℕ) (at : At)
    (start journal : List Event) : Type 0 where
  pub aim : WasAimed client at start journal
  pub version : Version
  pub now : ℕ
  pub made : MadeOne client (tags name aim.named.id) (Is_new (New_done version now)) start journal
  pub position : version ≡ version_at (length made.own.before)
  pub free : found made.own.before (Tag name) ≡ None

-- The client's own put found the tag there, at this version.
pub record TagWasThere (client : ℕ) (name : List ℕ) (at : At) (version : Version)
    (start journal : List Event) : Type 0 where
  pub aim : WasAimed client at start journal
  pub now : ℕ
  pub made : MadeOne client (tags name aim.named.id) (Is_new (Present version now)) start journal
  pub there : StandsAt made.own.before (Tag name) version.0

-- ... and its own get found the tombstone
pub record TagWasGone (client : ℕ) (name : List ℕ) (at : At)
    (start journal : List Event) : Type 0 where
  pub version : Version
  pub there : TagWasThere client name at version start journal
  pub gone : WasPresent client (Tombstone name) start journal

-- ... or found none, while the tag stood
pub record TagStands (client : ℕ) (name : List ℕ) (at : At) (version : Version)
    (start journal : List Event) : Type 0 where
  pub there : TagWasThere client name at version start journal
  pub stands : WasAbsent client (Tombstone name) start journal
  pub still : StandsAt stands.own.before (Tag name) version.0

-- The get of the tombstone failed where the tag was there; or another operation did.
pub record TombstoneWasNotGot (client : ℕ) (name : List ℕ) (at : At)
    (start journal : List Event) : Type 0 where
  pub version : Version
  pub there : TagWasThere client name at version start journal
  pub done : Bool
  pub own : HasOwn client (Get (Tombstone name)) (Failed done) start journal

-- What the answer to a new tag says.
abbrev pub TagNewTells : ℕ → (name : List ℕ) → At → List Event
    → Result (Unit {0}) Refusal → List Event → Type 0
TagNewTells client name at start (Ok done) journal = WasTagPut client name at start journal
TagNewTells client name at start (Err (R.RefExists version)) journal =
    TagStands client name at version start journal
TagNewTells client name at start (Err R.TagDropped) journal =
    TagWasGone client name at start journal
TagNewTells client name at start (Err R.StoreFault) journal =
    WasFailure client (IsOfMaking client at (tags name) start journal) start journal
    ⊎ TombstoneWasNotGot client name at start journal
TagNewTells client name at start (Err why) journal =
    MakingRefused client at start why journal × MadeGets client start journal

-- ---- a tag that is dropped
abbrev pub buries : (name : List ℕ) → Op
buries name = PutNew (Tombstone name) [] why.Drop

-- the client's own get of the tag was answered with a reference
pub record TagWasRead (client : ℕ) (name : List ℕ) (start journal : List Event) : Type 0 where
  pub version : Version
  pub id : Id12
  pub read : WasRef client (Tag name) version id start journal

-- The tag was there and had no tombstone, and the client's own put made one.
pub record WasBuried (client : ℕ) (name : List ℕ) (start journal : List Event) : Type 0 where
  pub tag : TagWasRead client name start journal
  pub version : Version
  pub now : ℕ
  pub made : MadeOne client (buries name) (Is_new (New_done version now)) start journal
  pub still : TagNames made.own.before name tag.id
  pub free : found made.own.before (Tombstone name) ≡ None

-- The client's own put found a tombstone.
pub record HadTombstone (client : ℕ) (name : List ℕ) (start journal : List Event) : Type 0 where
  pub tag : TagWasRead client name start journal
  pub version : Version
  pub now : ℕ
  pub made : MadeOne client (buries name) (Is_new (Present version now)) start journal
  pub still : TagNames made.own.before name tag.id
  pub there : StandsAt made.own.before (Tombstone name) version.0

-- an operation of such a call
abbrev pub IsOfBurying : ℕ → (name : List ℕ) → List Event → List Event → Op → Type 0
IsOfBurying client name start journal op =
    (op ≡ Get (Tag name)) ⊎ (TagWasRead client name start journal × (op ≡ buries name))

abbrev pub TagDropTells : ℕ → (name : List ℕ) → List Event → Result (Unit {0}) Refusal
    → List Event → Type 0
TagDropTells client name start (Ok done) journal = WasBuried client name start journal
TagDropTells client name start (Err R.NoRef) journal =
    (WasAbsent client (Tag name) start journal × MadeGets client start journal)
    ⊎ HadTombstone client name start journal
TagDropTells client name start (Err (R.BadFile key bad)) journal =
    RefWasBad client (Tag name) key bad start journal × MadeGets client start journal
TagDropTells client name start (Err R.StoreFault) journal =
    WasFailure client (IsOfBurying client name start journal) start journal
TagDropTells client name start (Err _) journal = ⊥
