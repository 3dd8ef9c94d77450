-- What the outcomes of a lease and of its release say of the journal, in words that
-- name no player and no play. (Own.)
use Rattle.std.specs.Prelude.{◌≡◌, ◌≢◌, ◌⊎◌, ℕ, Bool, List, [], ◌∷◌, ◌++◌}
use Rattle.std.specs.Prelude.{length, Option, Some, None, Result, Ok, Err}
use Rattle.ice_ids.specs.declared.Id12.{Id12}
use Rattle.ice_ids.specs.declared.drawing.AnyIds.{AnyIds}
use Rattle.repo_objects.specs.Readings.{ref_of}
use Rattle.object_store.specs.declared.keys.Key.TheVariants.{Branch, Tombstone, Lease}
use Rattle.object_store.specs.declared.events.Version.{Version}
use Rattle.object_store.specs.declared.events.Gone.{Gone}
use Rattle.object_store.specs.declared.events.Op.{Op}
use Rattle.object_store.specs.declared.events.Op.TheVariants.{Get}
use Rattle.object_store.specs.declared.events.New.TheVariants.{Done as New_done, Present}
use Rattle.object_store.specs.declared.events.Reply.TheVariants.{New as Is_new}
use Rattle.object_store.specs.declared.events.Reply.TheVariants.{Gone as Is_gone, Failed}
use Rattle.object_store.specs.declared.events.Event.{Event}
use Rattle.object_store.specs.Machine.{Stored, found, version_at}
use Rattle.store_api.specs.declared.machines.Refusal.{Refusal}
use Rattle.store_api.specs.declared.machines.Refusal.TheVariants as R
use Rattle.store_api.specs.Journal.{StoodAt}
use Rattle.store_api.specs.Telling.{HasOwn, MadeGets, MadeOne, StandsAt}
use Rattle.store_api.specs.Telling.{WasAbsent, WasFailure, WasGot}
use Rattle.repo_read.specs.Naming.{TagNames}
use Rattle.session.specs.Sources.{MayDrawObject}
use Rattle.leases.specs.declared.lease.Leased.{Leased}
use Rattle.leases.specs.declared.witness.Witness.{Witness}
use Rattle.leases.specs.declared.witness.Witness.TheVariants as W
use Rattle.leases.specs.Plays.{leases, releases, witness_key}

-- ---- the put
-- The key was free, and the client's own put made the lease, at its
-- position, with a reference to the base.
pub record WasPlaced (client : ℕ) (id base : Id12) (start journal : List Event) : Type 0 where
  pub version : Version
  pub now : ℕ
  pub made : MadeOne client (leases id base) (Is_new (New_done version now)) start journal
  pub position : version ≡ version_at (length made.own.before)
  pub free : found made.own.before (Lease id) ≡ None

-- The client's own put found the key taken, at this version.
pub record KeyWasTaken (client : ℕ) (id base : Id12) (start journal : List Event) : Type 0 where
  pub version : Version
  pub now : ℕ
  pub made : MadeOne client (leases id base) (Is_new (Present version now)) start journal
  pub there : StandsAt made.own.before (Lease id) version.0

-- ---- the confirmation
-- The client's own get found the branch, and it stood at this version.
pub record BranchWasAt (client : ℕ) (branch : List ℕ) (version : ℕ)
    (start journal : List Event) : Type 0 where
  pub bytes : List ℕ
  pub got : WasGot client (Branch branch) bytes version start journal
  pub stood : StandsAt got.own.before (Branch branch) version

-- The client's own get found that the ref named the base still: the branch stood at the version at
-- which it did, or the tag had no tombstone.
abbrev pub WasConfirmed : ℕ → Witness → (start journal : List Event) → Type 0
WasConfirmed client (W.Branch tip) start journal =
    BranchWasAt client tip.branch tip.version.0 start journal
WasConfirmed client (W.Tag tag) start journal = WasAbsent client (Tombstone tag) start journal

-- the client's own get found a tombstone of the tag, at this version
pub record TombstoneWasThere (client : ℕ) (tag : List ℕ) (version : Version)
    (start journal : List Event) : Type 0 where
  pub bytes : List ℕ
  pub got : WasGot client (Tombstone tag) bytes version.0 start journal

-- ... or that it didn't: the branch stood at another version, or was
-- absent; or the tag had a tombstone
abbrev pub WasRefuted : ℕ → Witness → Option Version → (start journal : List Event) → Type 0
WasRefuted client (W.Branch tip) None start journal =
    WasAbsent client (Branch tip.branch) start journal
WasRefuted client (W.Branch tip) (Some version) start journal =
    (version.0 ≢ tip.version.0) × BranchWasAt client tip.branch version.0 start journal
WasRefuted client (W.Tag tag) None start journal = ⊥
WasRefuted client (W.Tag tag) (Some version) start journal =
    TombstoneWasThere client tag version start journal

-- the journal with the put of a lease, at its end
abbrev pub placing : {client : ℕ} {id base : Id12} {start journal : List Event}
    → WasPlaced client id base start journal → List Event
placing placed = placed.made.own.before ++ placed.made.own.event ∷ []

-- The lease was placed, and behind that its ref confirmed it.
pub record WasLeased (client : ℕ) (id base : Id12) (w : Witness)
    (start journal : List Event) : Type 0 where
  pub placed : WasPlaced client id base start journal
  pub confirmed : WasConfirmed client w (placing placed) journal

-- The lease was placed, and behind that its ref didn't confirm it.
pub record WasNotLeased (client : ℕ) (id base : Id12) (w : Witness) (there : Option Version)
    (start journal : List Event) : Type 0 where
  pub placed : WasPlaced client id base start journal
  pub refuted : WasRefuted client w there (placing placed) journal

-- The lease was placed, and behind that the get of what has to confirm it failed.
pub record WasNotAsked (client : ℕ) (id base : Id12) (w : Witness)
    (start journal : List Event) : Type 0 where
  pub placed : WasPlaced client id base start journal
  pub done : Bool
  pub own : HasOwn client (Get (witness_key w)) (Failed done) (placing placed) journal

-- ---- the outcome of a lease
-- where it may stand
abbrev pub PlacedTells : ℕ → (id base : Id12) → Witness → List Event
    → Result (Unit {0}) Refusal → List Event → Type 0
PlacedTells client id base w start (Ok done) journal = WasLeased client id base w start journal
PlacedTells client id base w start (Err (R.Moved there)) journal =
    WasNotLeased client id base w there start journal
PlacedTells client id base w start (Err R.StoreFault) journal =
    WasFailure client (λ op. op ≡ leases id base) start journal
    ⊎ WasNotAsked client id base w start journal
PlacedTells client id base w start (Err R.NoMemory) journal = WasPlaced client id base start journal
PlacedTells client id base w start (Err _) journal = ⊥

-- where it doesn't: nothing was put
abbrev pub UnplacedTells : ℕ → (id base : Id12) → List Event
    → Result (Unit {0}) Refusal → List Event → Type 0
UnplacedTells client id base start (Ok done) journal = ⊥
UnplacedTells client id base start (Err (R.IdTaken key)) journal =
    (key ≡ Lease id) × KeyWasTaken client id base start journal
UnplacedTells client id base start (Err R.NoMemory) journal = MadeGets client start journal
UnplacedTells client id base start (Err _) journal = ⊥

abbrev pub PlacedOr : ℕ → (id base : Id12) → Witness → List Event → Option Id12
    → Result (Unit {0}) Refusal → List Event → Type 0
PlacedOr client id base w start (Some placed) result journal =
    (placed ≡ id) × PlacedTells client id base w start result journal
PlacedOr client id base w start None result journal =
    UnplacedTells client id base start result journal

-- What the outcome of a lease says, where `start` is the journal at its beginning.
abbrev pub LeaseTells : ℕ → (id base : Id12) → Witness → List Event → Leased → List Event → Type 0
LeaseTells client id base w start outcome journal =
    PlacedOr client id base w start outcome.placed outcome.result journal

-- ---- the outcome of a release
-- the release of a lease
abbrev pub IsRelease : Op → Type 0
IsRelease op = (id : Id12) × (op ≡ releases id)

-- the release of a lease under an id that this source may draw
abbrev pub IsOwnRelease : AnyIds → Op → Type 0
IsOwnRelease ids op = (id : Id12) × MayDrawObject ids id × (op ≡ releases id)

-- The client's own removal was answered, and nothing stood at the lease's key behind it.
pub record WasReleased (client : ℕ) (id : Id12) (start journal : List Event) : Type 0 where
  pub gone : Gone
  pub made : MadeOne client (releases id) (Is_gone gone) start journal
  pub absent : found (made.own.before ++ made.own.event ∷ []) (Lease id) ≡ None

abbrev pub ReleaseTells : ℕ → Id12 → List Event → Result (Unit {0}) Refusal → List Event → Type 0
ReleaseTells client id start (Ok done) journal = WasReleased client id start journal
ReleaseTells client id start (Err R.StoreFault) journal =
    WasFailure client (λ op. op ≡ releases id) start journal
ReleaseTells client id start (Err R.NoMemory) journal = MadeGets client start journal
ReleaseTells client id start (Err _) journal = ⊥

-- ---- what a confirmation means
-- a ref named the base: a branch by what was put at this version, or a tag that stands
abbrev pub NamedBy : Witness → (base : Id12) → List Event → Type 0
NamedBy (W.Branch tip) base journal =
    (bytes : List ℕ) × StoodAt journal (Branch tip.branch) tip.version.0 bytes
    × (ref_of bytes ≡ Some base)
NamedBy (W.Tag tag) base journal = TagNames journal tag base

-- the branch stands with a reference to this snapshot
pub record BranchNames (journal : List Event) (branch : List ℕ) (id : Id12) : Type 0 where
  pub stored : Stored
  pub stands : found journal (Branch branch) ≡ Some stored
  pub names : ref_of stored.bytes ≡ Some id

-- a ref names the base: the branch, or the tag, which has no tombstone
abbrev pub StillNames : Witness → (base : Id12) → List Event → Type 0
StillNames (W.Branch tip) base journal = BranchNames journal tip.branch base
StillNames (W.Tag tag) base journal =
    TagNames journal tag base × (found journal (Tombstone tag) ≡ None)

-- the journal at the get that confirmed it
abbrev pub confirmed_at : (client : ℕ) (start journal : List Event) (w : Witness)
    → WasConfirmed client w start journal → List Event
confirmed_at client start journal (W.Branch tip) c = c.got.own.before
confirmed_at client start journal (W.Tag tag) c = c.own.before
