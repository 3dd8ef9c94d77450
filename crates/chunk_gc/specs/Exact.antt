-- What a collection has done when it ends, by what it was told (own).
use Rattle.std.specs.Prelude.{◌≡◌, ◌⊎◌, ℕ, ◌<◌, true, List, [], ◌∷◌, ◌++◌}
use Rattle.std.specs.Prelude.{drop, length, Option, Some, None, Result, Ok, Err}
use Rattle.ice_ids.specs.declared.Id12.{Id12}
use Rattle.repo_objects.specs.declared.bad_objects.Bad.{Bad}
use Rattle.repo_objects.specs.Readings.{read_snapshot, read_manifest, read_ref}
use Rattle.object_store.specs.declared.keys.Key.{Key}
use Rattle.object_store.specs.declared.keys.Key.TheVariants.{Snapshot, Manifest}
use Rattle.object_store.specs.declared.keys.Part.TheVariants.{Branches}
use Rattle.object_store.specs.declared.events.Version.{Version}
use Rattle.object_store.specs.declared.events.Op.{Op}
use Rattle.object_store.specs.declared.events.Op.TheVariants.{Get, PutNew, PutOver, Remove}
use Rattle.object_store.specs.declared.events.Op.TheVariants.{RemoveAt, List as ListPart}
use Rattle.object_store.specs.declared.events.Got.TheVariants.{Found, Absent}
use Rattle.object_store.specs.declared.events.Entry.{Entry}
use Rattle.object_store.specs.declared.events.Reply.{Reply}
use Rattle.object_store.specs.declared.events.Reply.TheVariants.{Got as Is_got, Listed as Is_listed}
use Rattle.object_store.specs.declared.events.Event.{Event}
use Rattle.store_api.specs.declared.machines.Refusal.{Refusal}
use Rattle.store_api.specs.declared.machines.Refusal.TheVariants as R
use Rattle.store_api.specs.Callers.{Fits, has_failed}
use Rattle.store_api.specs.Program.{events_of}
use Rattle.repo_read.specs.Chains.{most_snapshots}
use Rattle.collecting.specs.Walks.{Walk, IsObject, Marked, IsFound}
use Rattle.collecting.specs.Walks.{IsNeeded, IsRead, IsWantedBy, May}
use Rattle.collecting.specs.Runs.{walk_of}
use Rattle.chunk_gc.specs.declared.standing.Collected.{Collected}
use Rattle.chunk_gc.specs.Plays.{tally}

-- ---- what is removed
-- the entry of an object that is older than the cutoff and not marked
pub record IsChosen (cutoff : ℕ) (marked : Key → Type 0) (entry : Entry) : Type 0 where
  pub object : IsObject entry.key
  pub old : entry.created < cutoff
  pub unmarked : marked entry.key → ⊥

-- the keys of exactly the entries that are chosen, in their order
abbrev pub Picks : (cutoff : ℕ) → (marked : Key → Type 0) → List Entry → List Key → Type 0
Picks cutoff marked [] keys = keys ≡ []
Picks cutoff marked (entry ∷ entries) keys =
    (IsChosen cutoff marked entry
    × ((behind : List Key) × (keys ≡ entry.key ∷ behind) × Picks cutoff marked entries behind))
    ⊎ ((IsChosen cutoff marked entry → ⊥) × Picks cutoff marked entries keys)

-- A key that is removed is the next one of these, behind those whose removals were answered.
abbrev pub InOrder : ℕ → Walk → Op → Type 0
InOrder cutoff w (Remove key why) =
    (behind : List Key) × Picks cutoff (Marked w) w.listed (w.answered ++ key ∷ behind)
InOrder cutoff w (Get key) = Unit {0}
InOrder cutoff w (ListPart part) = Unit {0}
InOrder cutoff w (PutNew key bytes why) = Unit {0}
InOrder cutoff w (PutOver key bytes old why) = Unit {0}
InOrder cutoff w (RemoveAt key old why) = Unit {0}

-- ---- why it is refused
-- an operation and the reply to it
pub record Deed : Type 0 where
  pub op : Op
  pub reply : Reply

abbrev pub last_deed : Option Deed → List Event → Option Deed
last_deed last [] = last
last_deed last (event ∷ events) =
    last_deed (Some (record { op = event.op; reply = event.reply })) events

-- the last operation listed the branches, and the store's time was before the cutoff
pub record WasAhead (cutoff now : ℕ) (last : Option Deed) : Type 0 where
  pub entries : List Entry
  pub is : last ≡ Some (record {
    op = ListPart Branches;
    reply = Is_listed (record { entries = entries; now = now });
  })
  pub ahead : now < cutoff

-- the last operation got this key, at which nothing was, and refs need what it was asked for
pub record WasMissing (w : Walk) (key : Key) (last : Option Deed) : Type 0 where
  pub needed : IsWantedBy (IsNeeded w) w key
  pub now : ℕ
  pub is : last ≡ Some (record { op = Get key; reply = Is_got (Absent now) })

-- for this cause the bytes aren't what is asked for at the key: a reference, or a
-- snapshot or a manifest of this id
pub data IsUnread (bytes : List ℕ) (bad : Bad) : Key → Type 0 where
  ref : {key : Key} → read_ref bytes ≡ Err bad → IsUnread bytes bad key
  snapshot : {id : Id12} → read_snapshot id bytes ≡ Err bad → IsUnread bytes bad (Snapshot id)
  manifest : {id : Id12} → read_manifest id bytes ≡ Err bad → IsUnread bytes bad (Manifest id)

-- the last operation got this key, with such bytes
pub record WasBad (key : Key) (bad : Bad) (last : Option Deed) : Type 0 where
  pub bytes : List ℕ
  pub version : Version
  pub now : ℕ
  pub is : last ≡ Some (record { op = Get key; reply = Is_got (Found bytes version now) })
  pub unread : IsUnread bytes bad key

-- as many snapshots were got as may be, and a further one is found
pub record WasDeep (w : Walk) : Type 0 where
  pub many : length w.reads ≡ most_snapshots
  pub next : Id12
  pub found : IsFound w next
  pub further : IsRead w next → ⊥

-- the last operation failed, or its reply was none to it
pub record HasFailed (last : Option Deed) : Type 0 where
  pub deed : Deed
  pub is : last ≡ Some deed
  pub failed : Fits deed.op deed.reply → has_failed deed.reply ≡ true

-- its cause, for each refusal; want of memory needs none
abbrev pub Cause : ℕ → Walk → Option Deed → Refusal → Type 0
Cause cutoff w last (R.CutoffAhead now) = WasAhead cutoff now last
Cause cutoff w last (R.Missing key) = WasMissing w key last
Cause cutoff w last (R.BadFile key bad) = WasBad key bad last
Cause cutoff w last R.TooDeep = WasDeep w
Cause cutoff w last R.StoreFault = HasFailed last
Cause cutoff w last R.NoMemory = Unit {0}
Cause cutoff w last _ = ⊥

-- ---- how it ends
-- all objects are listed, and the keys of exactly those that are doomed were removed, or absent
-- at their removal, in their order
pub record IsSwept (cutoff : ℕ) (w : Walk) : Type 0 where
  pub lists : w.lists ≡ 4
  pub picks : Picks cutoff (Marked w) w.listed w.answered

abbrev pub EndsSo : ℕ → Walk → Option Deed → Result (Unit {0}) Refusal → Type 0
EndsSo cutoff w last (Ok done) = IsSwept cutoff w
EndsSo cutoff w last (Err why) = Cause cutoff w last why

-- whatever its end, the report counts what was told as removed
pub record Ends (cutoff : ℕ) (w : Walk) (last : Option Deed) (outcome : Collected) : Type 0 where
  pub report : outcome.removed ≡ tally w.removed
  pub ends : EndsSo cutoff w last outcome.result

-- ---- in a journal
-- What a collection's client was told behind `start`, and the last of it.
abbrev pub last_of : (client : ℕ) → (start journal : List Event) → Option Deed
last_of client start journal = last_deed None (events_of client (drop (length start) journal))

-- An operation of a collection: it is one that it may make, and a removal is the next
-- one in the order of the listings.
pub record IsOwed (cutoff : ℕ) (start journal : List Event) (client : ℕ) (op : Op) : Type 0 where
  pub more : List Event
  pub since : journal ≡ start ++ more
  pub may : May cutoff (walk_of cutoff client start journal) op
  pub order : InOrder cutoff (walk_of cutoff client start journal) op

-- What an outcome of a collection says of the journal.
pub record CollectTells (cutoff client : ℕ) (start : List Event) (outcome : Collected)
    (journal : List Event) : Type 0 where
  pub more : List Event
  pub since : journal ≡ start ++ more
  pub ends : Ends cutoff (walk_of cutoff client start journal)
      (last_of client start journal) outcome
