-- What the answer to a name says of the journal, in words that name no machine and no program: what
-- was named, and whether it is there. `start` is the journal at the call. (Icechunk specification
-- version 1, "Reference Files", "Tags".)
use Rattle.std.specs.Prelude.{◌≡◌, ◌⊎◌, ℕ, List, Some, Result, Ok, Err}
use Rattle.ice_ids.specs.declared.Id12.{Id12}
use Rattle.repo_objects.specs.declared.bad_objects.Bad.{Bad}
use Rattle.repo_objects.specs.Readings.{ref_of}
use Rattle.object_store.specs.declared.keys.Key.{Key}
use Rattle.object_store.specs.declared.keys.Key.TheVariants.{Snapshot, Branch, Tag, Tombstone}
use Rattle.object_store.specs.declared.events.Version.{Version}
use Rattle.object_store.specs.declared.events.Event.{Event}
use Rattle.store_api.specs.declared.machines.Refusal.{Refusal}
use Rattle.store_api.specs.declared.machines.Refusal.TheVariants as R
use Rattle.object_store.specs.Machine.{Stored, found}
use Rattle.store_api.specs.Telling.{WasAbsent, MadeGets, WasRef, RefWasBad}
use Rattle.store_api.specs.Telling.{SnapshotWasBad, WasPresent, WasFailure, GetsOf}
use Rattle.repo_read.specs.declared.resolving.At.{At}
use Rattle.repo_read.specs.declared.resolving.Named.{Named}
use Rattle.repo_read.specs.Resolving.{alone}

-- the tag stands, and names this snapshot
pub record TagNames (journal : List Event) (tag : List ℕ) (id : Id12) : Type 0 where
  pub stored : Stored
  pub stands : found journal (Tag tag) ≡ Some stored
  pub names : ref_of stored.bytes ≡ Some id

-- A tag named this snapshot; and still did when the client's own get found no tombstone of it.
pub record WasTagged (client : ℕ) (tag : List ℕ) (id : Id12)
    (start journal : List Event) : Type 0 where
  pub version : Version
  pub read : WasRef client (Tag tag) version id start journal
  pub stands : WasAbsent client (Tombstone tag) start journal
  pub still : TagNames stands.own.before tag id

pub record WasBranch (client : ℕ) (branch : List ℕ) (named : Named)
    (start journal : List Event) : Type 0 where
  pub version : Version
  pub version_is : named.version ≡ Some version
  pub read : WasRef client (Branch branch) version named.id start journal

-- this was named, as the client's own gets were answered
abbrev pub WasResolved : ℕ → At → Named → List Event → List Event → Type 0
WasResolved client (At.Branch branch) named start journal =
    WasBranch client branch named start journal
WasResolved client (At.Tag tag) named start journal =
    (named ≡ alone named.id) × WasTagged client tag named.id start journal
WasResolved client (At.Snapshot id) named start journal = named ≡ alone id

-- nothing was named: the branch was absent, or the tag, or it had a tombstone
abbrev pub WasNothing : ℕ → At → List Event → List Event → Type 0
WasNothing client (At.Branch branch) start journal = WasAbsent client (Branch branch) start journal
WasNothing client (At.Tag tag) start journal =
    WasAbsent client (Tag tag) start journal ⊎ WasPresent client (Tombstone tag) start journal
WasNothing client (At.Snapshot id) start journal = ⊥

abbrev pub key_of : At → Key
key_of (At.Branch branch) = Branch branch
key_of (At.Tag tag) = Tag tag
key_of (At.Snapshot id) = Snapshot id

-- the bytes of the ref are no reference
abbrev pub WasUnnamed : ℕ → At → Key → Bad → List Event → List Event → Type 0
WasUnnamed client at key bad start journal = RefWasBad client (key_of at) key bad start journal

-- the snapshot that was named is absent
pub record TargetWasAbsent (client : ℕ) (at : At) (start journal : List Event) : Type 0 where
  pub named : Named
  pub resolved : WasResolved client at named start journal
  pub absent : WasAbsent client (Snapshot named.id) start journal

-- ... or isn't readable, for this cause
pub record TargetWasBad (client : ℕ) (at : At) (key : Key) (bad : Bad)
    (start journal : List Event) : Type 0 where
  pub named : Named
  pub resolved : WasResolved client at named start journal
  pub unread : SnapshotWasBad client named.id key bad start journal

-- a get of what names a snapshot: a branch; a tag, or its tombstone
abbrev pub IsNaming : At → Key → Type 0
IsNaming (At.Branch branch) key = key ≡ Branch branch
IsNaming (At.Tag tag) key = (key ≡ Tag tag) ⊎ (key ≡ Tombstone tag)
IsNaming (At.Snapshot id) key = ⊥

-- What the answer to a name says.
abbrev pub NamingTells : ℕ → At → List Event → Result Named Refusal → List Event → Type 0
NamingTells client at start (Ok named) journal =
    WasResolved client at named start journal × MadeGets client start journal
NamingTells client at start (Err R.NoRef) journal =
    WasNothing client at start journal × MadeGets client start journal
NamingTells client at start (Err (R.BadFile key bad)) journal =
    WasUnnamed client at key bad start journal × MadeGets client start journal
NamingTells client at start (Err R.StoreFault) journal =
    WasFailure client (GetsOf (IsNaming at)) start journal
NamingTells client at start (Err _) journal = ⊥
