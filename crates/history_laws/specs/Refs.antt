-- What refs reach, and how an event moves them. (Own.)
use Rattle.std.specs.Prelude.{◌≡◌, ℕ, true, List, [], ◌∷◌, ◌++◌, Some, None}
use Rattle.ice_ids.specs.declared.Id12.{Id12}
use Rattle.repo_objects.specs.Readings.{ref_of}
use Rattle.object_store.specs.declared.keys.Key.{Key}
use Rattle.object_store.specs.declared.keys.Key.TheVariants.{Snapshot, Manifest, Txn, Chunk}
use Rattle.object_store.specs.declared.keys.Key.TheVariants.{Branch, Tag, Tombstone, Lease}
use Rattle.object_store.specs.declared.keys.Why.TheVariants.{Commit, Create, Reset, Tag as For_tag}
use Rattle.object_store.specs.declared.events.Version.{Version}
use Rattle.object_store.specs.declared.events.Op.TheVariants.{PutNew, PutOver}
use Rattle.object_store.specs.declared.events.Event.{Event}
use Rattle.object_store.specs.Machine.{Stored, found, was_done}
use Rattle.store_api.specs.Journal.{Each}
use Rattle.live_refs.specs.Laws.{IsNotGone}
use Rattle.reach.specs.Holding.{Reaches}

-- ---- refs that stand
-- the key of a branch or a tag
abbrev pub IsRef : Key → Type 0
IsRef (Branch name) = Unit {0}
IsRef (Tag name) = Unit {0}
IsRef (Tombstone name) = ⊥
IsRef (Snapshot id) = ⊥
IsRef (Manifest id) = ⊥
IsRef (Txn id) = ⊥
IsRef (Chunk id) = ⊥
IsRef (Lease id) = ⊥

-- A branch, or a tag without a tombstone, stands with a reference to this snapshot.
pub record Names (journal : List Event) (ref : Key) (id : Id12) : Type 0 where
  pub is_ref : IsRef ref
  pub not_gone : IsNotGone (found journal) ref
  pub stored : Stored
  pub stands : found journal ref ≡ Some stored
  pub names : ref_of stored.bytes ≡ Some id

-- and that snapshot reaches the key
pub record RefReaches (journal : List Event) (ref key : Key) : Type 0 where
  pub id : Id12
  pub named : Names journal ref id
  pub reaches : Reaches journal id key

-- the same ref reaches the snapshot behind the event
abbrev pub StillReaches : (ref : Key) → (base : Id12) → List Event → Event → Type 0
StillReaches ref base before event = RefReaches (before ++ event ∷ []) ref (Snapshot base)

-- One and the same ref reached the base at each event since it was read.
pub record IsAnchored (ref : Key) (base : Id12) (since journal : List Event) : Type 0 where
  pub more : List Event
  pub is : journal ≡ since ++ more
  pub at_first : RefReaches since ref (Snapshot base)
  pub always : Each (StillReaches ref base) since more

-- ---- leases that stand
-- A lease stands with a reference to this snapshot.
pub record LeaseNames (journal : List Event) (lease id : Id12) : Type 0 where
  pub stored : Stored
  pub stands : found journal (Lease lease) ≡ Some stored
  pub names : ref_of stored.bytes ≡ Some id

-- it stands so behind the event
abbrev pub StillNames : (lease base : Id12) → List Event → Event → Type 0
StillNames lease base before event = LeaseNames (before ++ event ∷ []) lease base

-- At some moment a ref named the base, and the lease named it, too; and at each event
-- since then the lease stood so.
pub record IsLeased (lease base : Id12) (since journal : List Event) : Type 0 where
  pub more : List Event
  pub is : journal ≡ since ++ more
  pub ref : Key
  pub named : Names since ref base
  pub at_first : LeaseNames since lease base
  pub always : Each (StillNames lease base) since more

-- ---- events that took effect, also where their answers were lost
-- The event made a branch or a tag at this snapshot, or reset a branch to it.
pub data Points (before : List Event) (event : Event) (id : Id12) : Type 0 where
  makes_branch : (name bytes : List ℕ) → event.op ≡ PutNew (Branch name) bytes Create
      → was_done event.reply ≡ true → found before (Branch name) ≡ None → ref_of bytes ≡ Some id
      → Points before event id
  makes_tag : (name bytes : List ℕ) → event.op ≡ PutNew (Tag name) bytes For_tag
      → was_done event.reply ≡ true → found before (Tag name) ≡ None → ref_of bytes ≡ Some id
      → Points before event id
  resets : (name bytes : List ℕ) (old : Version) (s : Stored)
      → event.op ≡ PutOver (Branch name) bytes old Reset → was_done event.reply ≡ true
      → found before (Branch name) ≡ Some s → s.version ≡ old.0 → ref_of bytes ≡ Some id
      → Points before event id

-- The event committed this snapshot to a branch that named the base.
pub record Commits (before : List Event) (event : Event) (base id : Id12) : Type 0 where
  pub name : List ℕ
  pub bytes : List ℕ
  pub old : Version
  pub stored : Stored
  pub op_is : event.op ≡ PutOver (Branch name) bytes old Commit
  pub done : was_done event.reply ≡ true
  pub stands : found before (Branch name) ≡ Some stored
  pub version_is : stored.version ≡ old.0
  pub named : ref_of stored.bytes ≡ Some base
  pub names : ref_of bytes ≡ Some id

-- the event removed what stood at the key
pub record Removes (before : List Event) (event : Event) (key : Key) : Type 0 where
  pub stored : Stored
  pub stands : found before key ≡ Some stored
  pub gone : found (before ++ event ∷ []) key ≡ None
