-- The tag calls of a journal, and what the states of tags say of them.
use Rattle.std.specs.Prelude.{◌≡◌, ℕ, ◌+◌, if◌then◌else◌, List, [], ◌∷◌}
use Rattle.std.specs.Prelude.{length, Option, Some, None, option_map}
use Rattle.ice_base.specs.Names.{same_name}
use Rattle.ice_ids.specs.declared.Id12.{Id12}
use Rattle.zarr_tree.specs.Trees.{Tree}
use Rattle.object_store.specs.declared.keys.Key.{Key}
use Rattle.object_store.specs.declared.keys.Key.TheVariants.{Snapshot, Manifest, Txn, Chunk}
use Rattle.object_store.specs.declared.keys.Key.TheVariants.{Branch, Tag, Tombstone, Lease}
use Rattle.object_store.specs.declared.keys.Why.{Why}
use Rattle.object_store.specs.declared.events.Op.{Op}
use Rattle.object_store.specs.declared.events.Op.TheVariants.{Get, PutNew, PutOver, Remove}
use Rattle.object_store.specs.declared.events.Op.TheVariants.{RemoveAt, List as ListPart}
use Rattle.object_store.specs.declared.events.Got.TheVariants.{Found, Absent as Got_absent}
use Rattle.object_store.specs.declared.events.New.TheVariants.{Done as New_done, Present}
use Rattle.object_store.specs.declared.events.Reply.{Reply}
use Rattle.object_store.specs.declared.events.Reply.TheVariants.{Got as Is_got, New as Is_new}
use Rattle.object_store.specs.declared.events.Event.{Event}
use Rattle.object_store.specs.Machine.{Stored, found, was_done, version_at, UnlessFailed}
use Rattle.histories.specs.Repository.{Entry}
use Rattle.histories.specs.Files.{Files}
use Rattle.histories.specs.Calls.{TellsEntry, HasItsTree, StandsAs}
use Rattle.histories.specs.Tags.{TagState, Absent, Stands, Gone, made_as}
use Rattle.histories.specs.Tags.{TagCall, Make, Drop, tag_called}

-- the call on the tag that a put makes: one of the tag makes it, one of its tombstone drops it
abbrev pub put_call : Files → List ℕ → Key → List ℕ → Option TagCall
put_call files name (Tag tag) bytes =
    if same_name tag name then option_map (λ id. Make id) (files.ref bytes) else None
put_call files name (Tombstone tag) bytes = if same_name tag name then Some Drop else None
put_call files name (Snapshot id) bytes = None
put_call files name (Manifest id) bytes = None
put_call files name (Txn id) bytes = None
put_call files name (Chunk id) bytes = None
put_call files name (Branch branch) bytes = None
put_call files name (Lease id) bytes = None

-- no other operation changes a tag
abbrev pub tag_call : Files → List ℕ → Op → Option TagCall
tag_call files name (PutNew key bytes why) = put_call files name key bytes
tag_call files name (Get key) = None
tag_call files name (PutOver key bytes old why) = None
tag_call files name (Remove key why) = None
tag_call files name (RemoveAt key old why) = None
tag_call files name (ListPart part) = None

abbrev pub tag_called_if : (Id12 → Option Tree) → ℕ → Option TagCall → TagState → TagState
tag_called_if trees n None s = s
tag_called_if trees n (Some call) s = tag_called trees n call s

-- a tag after one event at position n: the event counts where it took effect,
-- also where its answer was lost
unfoldable pub tag_after : Files → List ℕ → ℕ → TagState → Event → TagState
tag_after files name n s event =
    if was_done event.reply then tag_called_if files.tree n (tag_call files name event.op) s else s

unfoldable pub tag_along : Files → List ℕ → ℕ → TagState → List Event → TagState
tag_along files name n s [] = s
tag_along files name n s (event ∷ events) =
    tag_along files name (n + 1) (tag_after files name n s event) events

-- the tag after a journal
unfoldable pub tag_of : Files → List Event → List ℕ → TagState
tag_of files journal name = tag_along files name 0 Absent journal

-- ---- what stands
-- a tombstone is there exactly where the tag is gone
abbrev pub IsBuriedAs : TagState → Option Stored → Type 0
IsBuriedAs Absent tombstone = tombstone ≡ None
IsBuriedAs (Stands e) tombstone = tombstone ≡ None
IsBuriedAs (Gone e) tombstone = (s : Stored) × (tombstone ≡ Some s)

-- What stands at a tag is a reference to its entry's snapshot, at its version, also where it is
-- gone; the tombstone beside it is as its state says; and the entry has its snapshot's tree.
pub record StandsByState (files : Files) (journal : List Event) (name : List ℕ) : Type 0 where
  pub tag : StandsAs files (found journal (Tag name)) (made_as (tag_of files journal name))
  pub tombstone : IsBuriedAs (tag_of files journal name) (found journal (Tombstone name))
  pub tree : HasItsTree files.tree (made_as (tag_of files journal name))

-- ---- answers
-- a get of the tag was answered with the reference with which it was made, at its version
abbrev pub GotTag : Files → Option Entry → Reply → Type 0
GotTag files None reply = (now : ℕ) × (reply ≡ Is_got (Got_absent now))
GotTag files (Some e) reply = TellsEntry files e reply

-- a put of the tag at position n was done where it had never been made, or was
-- answered the version with which it was
abbrev pub PutTag : ℕ → Option Entry → Reply → Type 0
PutTag n None reply = (now : ℕ) × (reply ≡ Is_new (New_done (version_at n) now))
PutTag n (Some e) reply = (now : ℕ) × (reply ≡ Is_new (Present (version_at e.version) now))

-- a get of the tombstone found it where the tag is gone
abbrev pub GotTombstone : TagState → Reply → Type 0
GotTombstone Absent reply = (now : ℕ) × (reply ≡ Is_got (Got_absent now))
GotTombstone (Stands e) reply = (now : ℕ) × (reply ≡ Is_got (Got_absent now))
GotTombstone (Gone e) reply =
    (bytes : List ℕ) × (version : ℕ) × (now : ℕ)
    × (reply ≡ Is_got (Found bytes (version_at version) now))

-- a put of the tombstone at position n was done where the tag stood, and found one where it is gone
abbrev pub PutTombstone : ℕ → TagState → Reply → Type 0
PutTombstone n Absent reply = ⊥
PutTombstone n (Stands e) reply = (now : ℕ) × (reply ≡ Is_new (New_done (version_at n) now))
PutTombstone n (Gone e) reply =
    (version : ℕ) × (now : ℕ) × (reply ≡ Is_new (Present (version_at version) now))

-- An event on a tag or its tombstone got the answer that the tag's state gives; a failed one has no
-- answer to compare. And a tombstone is put only where a tag was made.
pub record TagAgrees (files : Files) (journal : List Event) (event : Event) : Type 0 where
  pub got : (name : List ℕ) → event.op ≡ Get (Tag name)
      → UnlessFailed (GotTag files (made_as (tag_of files journal name))) event.reply
  pub put : (name bytes : List ℕ) (why : Why) → event.op ≡ PutNew (Tag name) bytes why
      → UnlessFailed (PutTag (length journal) (made_as (tag_of files journal name))) event.reply
  pub got_tombstone : (name : List ℕ) → event.op ≡ Get (Tombstone name)
      → UnlessFailed (GotTombstone (tag_of files journal name)) event.reply
  pub put_tombstone : (name bytes : List ℕ) (why : Why)
      → event.op ≡ PutNew (Tombstone name) bytes why
      → UnlessFailed (PutTombstone (length journal) (tag_of files journal name)) event.reply
  pub after_tag : (name bytes : List ℕ) (why : Why) → event.op ≡ PutNew (Tombstone name) bytes why
      → (e : Entry) × (made_as (tag_of files journal name) ≡ Some e)
