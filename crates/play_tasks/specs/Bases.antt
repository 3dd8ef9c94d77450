-- Where a client has a session open, and the session's base there, by
-- the client's own events. (Own.)
use Rattle.std.specs.Prelude.{◌≡◌, ◌⊎◌, ℕ, Bool, List, [], ◌∷◌, ◌++◌, true, Some}
use Rattle.ice_ids.specs.declared.Id12.{Id12}
use Rattle.ice_ids.specs.declared.drawing.AnyIds.{AnyIds}
use Rattle.snapshot_file.specs.declared.snapshot.SnapshotFile.{SnapshotFile}
use Rattle.ref_file.specs.Refs.{ref_bytes}
use Rattle.repo_objects.specs.Readings.{ref_of, snapshot_by}
use Rattle.object_store.specs.declared.keys.Key.{Key}
use Rattle.object_store.specs.declared.keys.Key.TheVariants.{Snapshot, Manifest, Txn, Chunk}
use Rattle.object_store.specs.declared.keys.Key.TheVariants.{Branch, Tag, Tombstone, Lease}
use Rattle.object_store.specs.declared.events.Op.{Op}
use Rattle.object_store.specs.declared.events.Op.TheVariants.{Get, PutNew, PutOver, Remove}
use Rattle.object_store.specs.declared.events.Op.TheVariants.{RemoveAt, List as ListPart}
use Rattle.object_store.specs.declared.events.Reply.{Reply}
use Rattle.object_store.specs.declared.events.Reply.TheVariants.{Got}
use Rattle.object_store.specs.declared.events.Got.TheVariants.{Found}
use Rattle.object_store.specs.declared.events.Event.{Event}
use Rattle.object_store.specs.Machine.{version_at}
use Rattle.store_api.specs.Journal.{Each}
use Rattle.store_api.specs.Program.{is_branch}
use Rattle.store_api.specs.Telling.{HasOwn, WasGot}
use Rattle.repo_read.specs.declared.resolving.At.{At}
use Rattle.repo_read.specs.Naming.{key_of}
use Rattle.session.specs.declared.origin.Tip.{Tip}
use Rattle.session.specs.declared.origin.Origin.{Origin}
use Rattle.session.specs.declared.origin.Origin.TheVariants.{Writes, ReadsBranch, ReadsTag, ReadsId}
use Rattle.session.specs.Opening.{Asked, of_branch}
use Rattle.leases.specs.Telling.{IsOwnRelease}
use Rattle.script_calls.specs.declared.calls.Head.{Head}
use Rattle.script_calls.specs.declared.calls.Head.TheVariants.{Session, Refs}
use Rattle.script_calls.specs.declared.calls.Head.TheVariants.{Collect, Expire, Check}
use Rattle.play_script.specs.declared.scripts.Task.{Task}
use Rattle.play_tasks.specs.Playing.{asked_by}

-- ---- the read that gave a base
-- the key of what names a session's base: of a branch or of a tag, or of the snapshot itself
abbrev pub naming_key : Origin → (base : Id12) → Key
naming_key (Writes tip) base = Branch tip.branch
naming_key (ReadsBranch tip) base = Branch tip.branch
naming_key (ReadsTag tag) base = Tag tag
naming_key ReadsId base = Snapshot base

-- bytes that were got there at this version are a reference to the base, of a branch at the version
-- that the session keeps; or the base itself
abbrev pub NamesBase : Origin → (base : Id12) → (bytes : List ℕ) → (version : ℕ) → Type 0
NamesBase (Writes tip) base bytes version =
    (ref_of bytes ≡ Some base) × (tip.version ≡ version_at version)
NamesBase (ReadsBranch tip) base bytes version =
    (ref_of bytes ≡ Some base) × (tip.version ≡ version_at version)
NamesBase (ReadsTag tag) base bytes version = ref_of bytes ≡ Some base
NamesBase ReadsId base bytes version = (snap : SnapshotFile) × (snapshot_by base bytes ≡ Some snap)

-- the client's own get was answered with what names the base
pub record WasNamed (client : ℕ) (origin : Origin) (base : Id12)
    (start journal : List Event) : Type 0 where
  pub bytes : List ℕ
  pub version : ℕ
  pub got : WasGot client (naming_key origin base) bytes version start journal
  pub names : NamesBase origin base bytes version

-- what names the base is what was asked for: a branch, at whichever version, to write to it or to
-- read; a tag; or the base's own id
abbrev pub IsAskedFor : At → (writes : Bool) → Origin → (base : Id12) → Type 0
IsAskedFor (At.Branch branch) writes origin base =
    (tip : Tip) × (tip.branch ≡ branch) × (origin ≡ of_branch writes tip)
IsAskedFor (At.Tag tag) writes origin base = origin ≡ ReadsTag tag
IsAskedFor (At.Snapshot id) writes origin base = (origin ≡ ReadsId) × (base ≡ id)

-- ---- until when it gives it
-- a get of a branch
abbrev pub GetsBranch : Op → Type 0
GetsBranch (Get key) = is_branch key ≡ true
GetsBranch (PutNew key bytes why) = ⊥
GetsBranch (PutOver key bytes old why) = ⊥
GetsBranch (Remove key why) = ⊥
GetsBranch (RemoveAt key old why) = ⊥
GetsBranch (ListPart part) = ⊥

-- a get of a branch, a snapshot or a log
abbrev pub IsWalked : Key → Type 0
IsWalked (Snapshot id) = Unit {0}
IsWalked (Txn id) = Unit {0}
IsWalked (Branch name) = Unit {0}
IsWalked (Manifest id) = ⊥
IsWalked (Chunk id) = ⊥
IsWalked (Tag name) = ⊥
IsWalked (Tombstone name) = ⊥
IsWalked (Lease id) = ⊥

abbrev pub GetsWalked : Op → Type 0
GetsWalked (Get key) = IsWalked key
GetsWalked (PutNew key bytes why) = ⊥
GetsWalked (PutOver key bytes old why) = ⊥
GetsWalked (Remove key why) = ⊥
GetsWalked (RemoveAt key old why) = ⊥
GetsWalked (ListPart part) = ⊥

-- From `start` on, each operation of the client is such a one.
pub record MadeAlone (may : Op → Type 0) (client : ℕ) (start journal : List Event) : Type 0 where
  pub more : List Event
  pub is : journal ≡ start ++ more
  pub each : Each (λ before event. event.client ≡ client → may event.op) start more

-- a get found what stood at this version
abbrev pub FoundAt : ℕ → Reply → Type 0
FoundAt version (Got (Found bytes there now)) = there.0 ≡ version
FoundAt version _ = ⊥

-- From `start` on, each get of a branch by the client found it at this version still.
pub record NoneNewer (version client : ℕ) (start journal : List Event) : Type 0 where
  pub more : List Event
  pub is : journal ≡ start ++ more
  pub each : Each (λ before event. event.client ≡ client → GetsBranch event.op
      → FoundAt version event.reply) start more

-- The session is being rebased, or its commit is in doubt and is being settled: until here the
-- client found the branch at no other version since the base was named, and from here on it got a
-- branch, snapshots and logs alone.
pub record IsRebasing (version client : ℕ) (since journal : List Event) : Type 0 where
  pub lost : List Event
  pub none : NoneNewer version client since lost
  pub walks : MadeAlone GetsWalked client lost journal

-- ---- a session's base
-- the client's own get of what was asked for is its first operation since `start`
pub record HasAsked (client : ℕ) (at : At) (start journal : List Event) : Type 0 where
  pub reply : Reply
  pub own : HasOwn client (Get (key_of at)) reply start journal
  pub first : MadeAlone (λ op. ⊥) client start own.before

-- The client has a session open, since its first operation, and this is the base: what the client's
-- own read of the session's branch named, and it found it at no other version since; or while a
-- rebase or a settling reads the branch anew, and what stands above the base, what the read before
-- that named. Behind the rebase the base is the branch's snapshot.
pub record HasBase (client : ℕ) (a : Asked) (start journal : List Event) : Type 0 where
  pub asked : HasAsked client a.at start journal
  pub base : Id12
  pub origin : Origin
  pub of_asked : IsAskedFor a.at a.writes origin base
  pub named : WasNamed client origin base start journal
  pub last : NoneNewer named.version client
      (named.got.own.before ++ named.got.own.event ∷ []) journal
      ⊎ IsRebasing named.version client (named.got.own.before ++ named.got.own.event ∷ []) journal

-- if the key is a lease's, the bytes are a reference to this base
abbrev pub IsLeaseOf : Id12 → Key → List ℕ → Type 0
IsLeaseOf base (Lease id) bytes = bytes ≡ ref_bytes base
IsLeaseOf base (Snapshot id) bytes = Unit {0}
IsLeaseOf base (Manifest id) bytes = Unit {0}
IsLeaseOf base (Txn id) bytes = Unit {0}
IsLeaseOf base (Chunk id) bytes = Unit {0}
IsLeaseOf base (Branch name) bytes = Unit {0}
IsLeaseOf base (Tag name) bytes = Unit {0}
IsLeaseOf base (Tombstone name) bytes = Unit {0}

-- a lease that the operation puts is one of this snapshot
abbrev pub LeasesBase : Id12 → Op → Type 0
LeasesBase base (PutNew key bytes why) = IsLeaseOf base key bytes
LeasesBase base (Get key) = Unit {0}
LeasesBase base (PutOver key bytes old why) = Unit {0}
LeasesBase base (Remove key why) = Unit {0}
LeasesBase base (RemoveAt key old why) = Unit {0}
LeasesBase base (ListPart part) = Unit {0}

-- an operation of the client of such a session: the first one, a get of what is asked for; or it
-- comes where the session has a base, and leases no other
abbrev pub OpensOrHasBase : ℕ → Asked → List Event → List Event → Op → Type 0
OpensOrHasBase client a start journal op =
    (MadeAlone (λ o. ⊥) client start journal × (op ≡ Get (key_of a.at)))
    ⊎ ((has : HasBase client a start journal) × LeasesBase has.base op)

-- so is each of a task that opens a session, but for the releases of its own leases
abbrev pub ComesOpen : Head → AnyIds → (client : ℕ) → (start journal : List Event) → Op → Type 0
ComesOpen (Session access) ids client start journal op =
    OpensOrHasBase client (asked_by access ids) start journal op ⊎ IsOwnRelease ids op
ComesOpen Refs ids client start journal op = Unit {0}
ComesOpen (Collect cutoff) ids client start journal op = Unit {0}
ComesOpen (Expire cutoff drop_branches drop_tags) ids client start journal op = Unit {0}
ComesOpen Check ids client start journal op = Unit {0}

abbrev pub IsOpenAt : AnyIds → Task → (client : ℕ) → (start journal : List Event) → Op → Type 0
IsOpenAt ids task client start journal op = ComesOpen task.head ids client start journal op
