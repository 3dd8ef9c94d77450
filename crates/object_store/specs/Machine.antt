-- The object store as a machine over the list of its events (own; Icechunk's specification asks of
-- a store that it puts conditionally, and that what was put can be read).
use Rattle.std.specs.Prelude.{◌≡◌, ℕ, ◌+◌, ◌<◌, ◌≤◌, ◌^◌, ◌==◌, Bool, true, false, if◌then◌else◌}
use Rattle.std.specs.Prelude.{List, [], ◌∷◌, length, Option, Some, None, slice_get}
use Rattle.std.specs.Option.{option_or}
use Rattle.std.specs.declared.cmp.Ordering.{Ordering}
use Rattle.std.specs.declared.cmp.Ordering.TheVariants.{Less}
use Rattle.std.specs.Ordering.{nat_cmp, ordering_then}
use Rattle.std.specs.Cmp.Lexicographic.{slice_cmp}
use Rattle.ice_ids.specs.Text.{same_id12}
use Rattle.ice_base.specs.Names.{same_name}
use Rattle.object_store.specs.declared.keys.Key.{Key}
use Rattle.object_store.specs.declared.keys.Key.TheVariants.{Snapshot, Manifest, Txn, Chunk}
use Rattle.object_store.specs.declared.keys.Key.TheVariants.{Branch, Tag, Tombstone, Lease}
use Rattle.object_store.specs.declared.keys.Part.{Part}
use Rattle.object_store.specs.declared.keys.Part.TheVariants.{Snapshots, Manifests, Txns}
use Rattle.object_store.specs.declared.keys.Part.TheVariants.{Chunks, Branches, Tags, Leases}
use Rattle.object_store.specs.declared.events.Version.{Version}
use Rattle.object_store.specs.declared.events.Op.{Op}
use Rattle.object_store.specs.declared.events.Op.TheVariants.{Get, PutNew, PutOver, Remove}
use Rattle.object_store.specs.declared.events.Op.TheVariants.{RemoveAt, List as ListPart}
use Rattle.object_store.specs.declared.events.Got.{Got}
use Rattle.object_store.specs.declared.events.Got.TheVariants.{Found, Absent}
use Rattle.object_store.specs.declared.events.New.{New}
use Rattle.object_store.specs.declared.events.New.TheVariants.{Done as New_done, Present}
use Rattle.object_store.specs.declared.events.Over.{Over}
use Rattle.object_store.specs.declared.events.Over.TheVariants.{Done as Over_done}
use Rattle.object_store.specs.declared.events.Over.TheVariants.{Moved as Over_moved}
use Rattle.object_store.specs.declared.events.Gone.{Gone}
use Rattle.object_store.specs.declared.events.Gone.TheVariants.{Done as Gone_done}
use Rattle.object_store.specs.declared.events.Gone.TheVariants.{Absent as Gone_absent}
use Rattle.object_store.specs.declared.events.GoneAt.{GoneAt}
use Rattle.object_store.specs.declared.events.GoneAt.TheVariants.{Done as Gone_at_done}
use Rattle.object_store.specs.declared.events.GoneAt.TheVariants.{Moved as Gone_at_moved}
use Rattle.object_store.specs.declared.events.Entry.{Entry}
use Rattle.object_store.specs.declared.events.Reply.{Reply}
use Rattle.object_store.specs.declared.events.Reply.TheVariants.{Got as Is_got, New as Is_new}
use Rattle.object_store.specs.declared.events.Reply.TheVariants.{Over as Is_over, Gone as Is_gone}
use Rattle.object_store.specs.declared.events.Reply.TheVariants.{GoneAt as Is_gone_at}
use Rattle.object_store.specs.declared.events.Reply.TheVariants.{Listed as Is_listed, Failed}
use Rattle.object_store.specs.declared.events.Event.{Event}

-- ---- keys
-- keys of one kind, with the same id or name; each kind is named, so that a new one is asked for
abbrev pub same_key : Key → Key → Bool
same_key (Snapshot a) (Snapshot b) = same_id12 a b
same_key (Manifest a) (Manifest b) = same_id12 a b
same_key (Txn a) (Txn b) = same_id12 a b
same_key (Chunk a) (Chunk b) = same_id12 a b
same_key (Branch a) (Branch b) = same_name a b
same_key (Tag a) (Tag b) = same_name a b
same_key (Tombstone a) (Tombstone b) = same_name a b
same_key (Lease a) (Lease b) = same_id12 a b
same_key (Snapshot a) other = false
same_key (Manifest a) other = false
same_key (Txn a) other = false
same_key (Chunk a) other = false
same_key (Branch a) other = false
same_key (Tag a) other = false
same_key (Tombstone a) other = false
same_key (Lease a) other = false

abbrev pub part_of : Key → Part
part_of (Snapshot id) = Snapshots
part_of (Manifest id) = Manifests
part_of (Txn id) = Txns
part_of (Chunk id) = Chunks
part_of (Branch name) = Branches
part_of (Tag name) = Tags
part_of (Tombstone name) = Tags
part_of (Lease id) = Leases

-- the bytes of a key's id or name
abbrev pub name_of : Key → List ℕ
name_of (Snapshot id) = id.0
name_of (Manifest id) = id.0
name_of (Txn id) = id.0
name_of (Chunk id) = id.0
name_of (Branch name) = name
name_of (Tag name) = name
name_of (Tombstone name) = name
name_of (Lease id) = id.0

-- a tag stands before its tombstone
abbrev pub rank_of : Key → ℕ
rank_of (Snapshot id) = 0
rank_of (Manifest id) = 0
rank_of (Txn id) = 0
rank_of (Chunk id) = 0
rank_of (Branch name) = 0
rank_of (Tag name) = 0
rank_of (Tombstone name) = 1
rank_of (Lease id) = 0

-- the order of a listing
abbrev pub listing_cmp : Key → Key → Ordering
listing_cmp a b =
    ordering_then (slice_cmp nat_cmp (name_of a) (name_of b)) (nat_cmp (rank_of a) (rank_of b))

-- ---- what a key has seen
-- What stands at a key: the bytes, the position of the put that put them, and its time.
pub record Stored : Type 0 where
  pub bytes : List ℕ
  pub version : ℕ
  pub created : ℕ

-- The bytes and the time of a key's first put, the bytes of its last one, removed since
-- or not, and what stands there.
pub record Slot : Type 0 where
  pub first : Option (List ℕ)
  pub born : Option ℕ
  pub last : Option (List ℕ)
  pub stands : Option Stored

abbrev pub fresh_slot : Slot
fresh_slot = record { first = None; born = None; last = None; stands = None }

-- whether an operation is on this key
abbrev pub is_on : Key → Op → Bool
is_on key (Get k) = same_key k key
is_on key (PutNew k bytes why) = same_key k key
is_on key (PutOver k bytes old why) = same_key k key
is_on key (Remove k why) = same_key k key
is_on key (RemoveAt k old why) = same_key k key
is_on key (ListPart part) = false

-- after a put at position n and this time
abbrev pub put_at : ℕ → ℕ → List ℕ → Slot → Slot
put_at n time bytes slot = record {
  first = option_or slot.first (Some bytes);
  born = option_or slot.born (Some time);
  last = Some bytes;
  stands = Some (record { bytes = bytes; version = n; created = time });
}

abbrev pub where_free : Option Stored → Slot → Slot → Slot
where_free None new slot = new
where_free (Some s) new slot = slot

abbrev pub where_old : ℕ → Option Stored → Slot → Slot → Slot
where_old old None new slot = slot
where_old old (Some s) new slot = if s.version == old then new else slot

-- what its key has after an operation at position n and this time that was done
abbrev pub leaves : ℕ → ℕ → Op → Slot → Slot
leaves n time (Get key) slot = slot
leaves n time (PutNew key bytes why) slot = where_free slot.stands (put_at n time bytes slot) slot
leaves n time (PutOver key bytes old why) slot =
    where_old old.0 slot.stands (put_at n time bytes slot) slot
leaves n time (Remove key why) slot = record slot { stands = None }
leaves n time (RemoveAt key old why) slot =
    where_old old.0 slot.stands (record slot { stands = None }) slot
leaves n time (ListPart part) slot = slot

-- whether the operation took effect, also where its answer was lost
abbrev pub was_done : Reply → Bool
was_done (Failed done) = done
was_done (Is_got g) = true
was_done (Is_new g) = true
was_done (Is_over g) = true
was_done (Is_gone g) = true
was_done (Is_gone_at g) = true
was_done (Is_listed l) = true

-- what a key has after one event at position n
unfoldable pub effect : Key → ℕ → Slot → Event → Slot
effect key n slot event =
    if is_on key event.op
    then (if was_done event.reply then leaves n event.time event.op slot else slot)
    else slot

-- what a key has after the events, the first of which has position n
unfoldable pub through : Key → ℕ → Slot → List Event → Slot
through key n slot [] = slot
through key n slot (event ∷ events) = through key (n + 1) (effect key n slot event) events

-- what a key has after a journal
unfoldable pub slot_of : List Event → Key → Slot
slot_of journal key = through key 0 fresh_slot journal

-- what stands at a key after a journal
abbrev pub found : List Event → Key → Option Stored
found journal key = (slot_of journal key).stands

abbrev pub first_put : List Event → Key → Option (List ℕ)
first_put journal key = (slot_of journal key).first

abbrev pub last_put : List Event → Key → Option (List ℕ)
last_put journal key = (slot_of journal key).last

-- the time of a key's first put; a put over renews what stands, not this (collections ask it)
abbrev pub first_time : List Event → Key → Option ℕ
first_time journal key = (slot_of journal key).born

-- ---- answers
abbrev pub version_at : ℕ → Version
version_at n = record { 0 = n }

abbrev pub got_of : ℕ → Option Stored → Got
got_of now None = Absent now
got_of now (Some s) = Found s.bytes (version_at s.version) now

abbrev pub new_of : ℕ → ℕ → Option Stored → New
new_of n now None = New_done (version_at n) now
new_of n now (Some s) = Present (version_at s.version) now

abbrev pub over_of : ℕ → ℕ → ℕ → Option Stored → Over
over_of n now old None = Over_moved None now
over_of n now old (Some s) =
    if s.version == old then Over_done (version_at n) now
    else Over_moved (Some (version_at s.version)) now

abbrev pub gone_of : ℕ → Option Stored → Gone
gone_of now None = Gone_absent now
gone_of now (Some s) = Gone_done now

abbrev pub gone_at_of : ℕ → ℕ → Option Stored → GoneAt
gone_at_of now old None = Gone_at_moved None now
gone_at_of now old (Some s) =
    if s.version == old then Gone_at_done now else Gone_at_moved (Some (version_at s.version)) now

-- what stands at the entry's key is as the entry says
pub record IsEntry (at : Key → Option Stored) (part : Part) (entry : Entry) : Type 0 where
  pub stored : Stored
  pub stands : at entry.key ≡ Some stored
  pub part_is : part_of entry.key ≡ part
  pub size : entry.size ≡ length stored.bytes
  pub created : entry.created ≡ stored.created

-- a place in the list where this key stands
pub record HasEntry (entries : List Entry) (key : Key) : Type 0 where
  pub place : ℕ
  pub entry : Entry
  pub here : slice_get entries place ≡ Some entry
  pub same : entry.key ≡ key

-- The entries are those of what stands in the part, each once, in the order of listings.
pub record IsListing (at : Key → Option Stored) (part : Part) (entries : List Entry) : Type 0 where
  pub right : (k : ℕ) (e : Entry) → slice_get entries k ≡ Some e → IsEntry at part e
  pub whole : (key : Key) (s : Stored) → part_of key ≡ part → at key ≡ Some s → HasEntry entries key
  pub ascending : (j k : ℕ) (d e : Entry) → j < k → slice_get entries j ≡ Some d
      → slice_get entries k ≡ Some e → listing_cmp d.key e.key ≡ Less

-- The reply is the machine's, to an operation at position n and this time, at what stands.
abbrev pub IsHonest : (Key → Option Stored) → ℕ → ℕ → Op → Reply → Type 0
IsHonest at n now (Get key) reply = reply ≡ Is_got (got_of now (at key))
IsHonest at n now (PutNew key bytes why) reply = reply ≡ Is_new (new_of n now (at key))
IsHonest at n now (PutOver key bytes old why) reply = reply ≡ Is_over (over_of n now old.0 (at key))
IsHonest at n now (Remove key why) reply = reply ≡ Is_gone (gone_of now (at key))
IsHonest at n now (RemoveAt key old why) reply = reply ≡ Is_gone_at (gone_at_of now old.0 (at key))
IsHonest at n now (ListPart part) reply =
    (entries : List Entry) × (reply ≡ Is_listed (record { entries = entries; now = now }))
    × IsListing at part entries

-- a failed operation has no answer to compare
abbrev pub UnlessFailed : (Reply → Type 0) → Reply → Type 0
UnlessFailed P (Failed done) = Unit {0}
UnlessFailed P (Is_got g) = P (Is_got g)
UnlessFailed P (Is_new g) = P (Is_new g)
UnlessFailed P (Is_over g) = P (Is_over g)
UnlessFailed P (Is_gone g) = P (Is_gone g)
UnlessFailed P (Is_gone_at g) = P (Is_gone_at g)
UnlessFailed P (Is_listed l) = P (Is_listed l)

abbrev pub time_after : ℕ → List Event → ℕ
time_after time [] = time
time_after time (e ∷ es) = time_after e.time es

-- the time of the last event
abbrev pub last_time : List Event → ℕ
last_time journal = time_after 0 journal

-- The event is answered as the machine does after the journal, unless it
-- failed, and its time isn't earlier.
pub record IsAnswered (journal : List Event) (event : Event) : Type 0 where
  pub later : last_time journal ≤ event.time
  pub fits : event.time < 2 ^ 64
  pub answered : UnlessFailed (IsHonest (found journal) (length journal) event.time event.op)
      event.reply
