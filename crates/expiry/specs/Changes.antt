-- What an expiry changed, and that its cases tell it, whatever its end. (Own.)
use Rattle.std.specs.Prelude.{◌≡◌, ℕ, List, [], ◌∷◌, ◌++◌, Result, Ok, Err}
use Rattle.ice_ids.specs.declared.Id12.{Id12}
use Rattle.object_store.specs.declared.keys.Key.{Key}
use Rattle.object_store.specs.declared.keys.Key.TheVariants.{Snapshot, Manifest, Txn, Chunk}
use Rattle.object_store.specs.declared.keys.Key.TheVariants.{Branch, Tag, Tombstone, Lease}
use Rattle.object_store.specs.declared.events.Op.{Op}
use Rattle.object_store.specs.declared.events.Op.TheVariants.{Get, PutNew, PutOver, Remove}
use Rattle.object_store.specs.declared.events.Op.TheVariants.{RemoveAt, List as ListPart}
use Rattle.object_store.specs.declared.events.Reply.{Reply}
use Rattle.object_store.specs.declared.events.Event.{Event}
use Rattle.store_api.specs.declared.machines.Refusal.{Refusal}
use Rattle.store_api.specs.Program.{events_of}
use Rattle.cleanup_reports.specs.declared.cases.What.{What}
use Rattle.cleanup_reports.specs.declared.cases.What.TheVariants.{Kept, Cut, Dropped, Moved, Absent}
use Rattle.cleanup_reports.specs.declared.cases.RefCase.{RefCase}
use Rattle.expiry.specs.declared.standing.Expired.{Expired}
use Rattle.expiry.specs.Plays.{drop_told, cut_told}

-- a snapshot was cut, or a ref was dropped
pub data ExpiryChange : Type 0 where
  Cut_at : Id12 → ExpiryChange
  Dropped_ref : Key → ExpiryChange

-- ---- what is told
abbrev pub change_of : (ref : Key) → What → List ExpiryChange
change_of ref (Cut id) = Cut_at id ∷ []
change_of ref Dropped = Dropped_ref ref ∷ []
change_of ref Kept = []
change_of ref Moved = []
change_of ref Absent = []

abbrev pub changes_told : List RefCase → List ExpiryChange
changes_told [] = []
changes_told (c ∷ cases) = change_of c.key c.what ++ changes_told cases

-- ---- what was done
abbrev pub change_by : (ref : Key) → Result What Refusal → List ExpiryChange
change_by ref (Ok what) = change_of ref what
change_by ref (Err why) = []

abbrev pub cut_by : Key → Reply → List ExpiryChange
cut_by (Snapshot id) reply = change_by (Snapshot id) (cut_told id reply)
cut_by (Manifest id) reply = []
cut_by (Txn id) reply = []
cut_by (Chunk id) reply = []
cut_by (Branch name) reply = []
cut_by (Tag name) reply = []
cut_by (Tombstone name) reply = []
cut_by (Lease id) reply = []

abbrev pub buried_by : Key → Reply → List ExpiryChange
buried_by (Tombstone name) reply = change_by (Tag name) (drop_told reply)
buried_by (Snapshot id) reply = []
buried_by (Manifest id) reply = []
buried_by (Txn id) reply = []
buried_by (Chunk id) reply = []
buried_by (Branch name) reply = []
buried_by (Tag name) reply = []
buried_by (Lease id) reply = []

abbrev pub removed_by : Key → Reply → List ExpiryChange
removed_by (Branch name) reply = change_by (Branch name) (drop_told reply)
removed_by (Snapshot id) reply = []
removed_by (Manifest id) reply = []
removed_by (Txn id) reply = []
removed_by (Chunk id) reply = []
removed_by (Tag name) reply = []
removed_by (Tombstone name) reply = []
removed_by (Lease id) reply = []

-- what an operation was told to have done: a cut, the tombstone of a tag, the removal of a branch
abbrev pub changed : Op → Reply → List ExpiryChange
changed (PutOver key bytes old why) reply = cut_by key reply
changed (PutNew key bytes why) reply = buried_by key reply
changed (RemoveAt key old why) reply = removed_by key reply
changed (Get key) reply = []
changed (ListPart part) reply = []
changed (Remove key why) reply = []

abbrev pub changes_in : List Event → List ExpiryChange
changes_in [] = []
changes_in (event ∷ events) = changed event.op event.reply ++ changes_in events

-- The changes that its cases tell are those that the client's own operations since `start` were
-- told to have done, in their order: whatever its end, none goes untold.
pub record ChangesTold (client : ℕ) (start : List Event) (outcome : Expired)
    (journal : List Event) : Type 0 where
  pub more : List Event
  pub since : journal ≡ start ++ more
  pub told : changes_told outcome.cases ≡ changes_in (events_of client more)
