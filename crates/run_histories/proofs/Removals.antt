-- Events that remove no object: what stands under an id stays.
use Rattle.std.proofs.Common.{◌≡◌, ℕ, ◌<◌, true, List, [], ◌∷◌, ◌++◌, length, sym, ◌∙◌, ap, subst}
use Rattle.std.specs.Prelude.{Some, None}
use Rattle.ice_ids.specs.declared.Id12.{Id12}
use Rattle.ice_ids.specs.declared.drawing.AnyIds.{AnyIds}
use Rattle.ice_ids.specs.declared.drawing.Draw.{Draw}
use Rattle.object_store.specs.declared.keys.Key.{Key}
use Rattle.object_store.specs.declared.keys.Key.TheVariants.{Snapshot, Manifest, Txn, Chunk, Branch, Tag, Tombstone, Lease}
use Rattle.object_store.specs.declared.keys.Why.{Why}
use Rattle.object_store.specs.declared.events.Op.{Op}
use Rattle.object_store.specs.declared.events.Op.TheVariants.{Get, PutNew, PutOver, Remove, RemoveAt, List as ListPart}
use Rattle.object_store.specs.declared.events.Event.{Event}
use Rattle.object_store.specs.Machine.{Slot, Stored, slot_of, leaves, put_at, is_on}
use Rattle.object_store.proofs.Slots.{effect-cases, free-cases, old-cases, same_key-true, slot-append_one}
use Rattle.store_api.specs.Journal.{IsUnused}
use Rattle.commit_path.specs.Owed.{Owes, OwesGone, Sessions}
use Rattle.commit_path.specs.Own.{id_of}
use Rattle.collecting.specs.Walks.{IsObject}
use Rattle.history_laws.specs.Refs.{Removes}
use Rattle.play_script.specs.declared.scripts.Task.{Task}
use Rattle.play_tasks.specs.Tasks.{ids_at}
use Rattle.run_histories.specs.Sources.{IsUnputId, IsUnusedId, ObjectsAreNew}
use Rattle.run_histories.proofs.Programs.{IsBranch, IsPlain}

-- an operation that may remove an object
abbrev pub IsRemoval : Op → Type 0
IsRemoval (Remove key why) = IsObject key
IsRemoval (RemoveAt key old why) = IsObject key
IsRemoval _ = ⊥

-- ---- which operations remove none
pub no-object : (key : Key) → IsBranch key → ¬ IsObject key
no-object (Branch name) b o = o
no-object (Snapshot id) b o = b
no-object (Manifest id) b o = b
no-object (Txn id) b o = b
no-object (Chunk id) b o = b
no-object (Tag name) b o = b
no-object (Tombstone name) b o = b
no-object (Lease id) b o = b

-- of the opening, the closing reading, or a task on refs
pub plain-keeps : (op : Op) → IsPlain op → ¬ IsRemoval op
plain-keeps (Get key) p r = r
plain-keeps (PutNew key bytes why) p r = r
plain-keeps (PutOver key bytes old why) p r = r
plain-keeps (Remove key why) p r = p
plain-keeps (RemoveAt key old why) p r = no-object key p r
plain-keeps (ListPart part) p r = r

-- a lease is no object
pub gone-keeps : (ids : AnyIds) (why : Why) (key : Key) → OwesGone ids why key → ¬ IsObject key
gone-keeps ids why (Lease id) o object = object
gone-keeps ids why (Snapshot id) o object = o
gone-keeps ids why (Manifest id) o object = o
gone-keeps ids why (Txn id) o object = o
gone-keeps ids why (Chunk id) o object = o
gone-keeps ids why (Branch name) o object = o
gone-keeps ids why (Tag name) o object = o
gone-keeps ids why (Tombstone name) o object = o

-- of a task that opens a session
pub owes-keeps : (ids : AnyIds) (mine : Sessions) (journal : List Event) (op : Op) → Owes ids mine journal op → ¬ IsRemoval op
owes-keeps ids mine journal (Get key) o r = r
owes-keeps ids mine journal (PutNew key bytes why) o r = r
owes-keeps ids mine journal (PutOver key bytes old why) o r = r
owes-keeps ids mine journal (Remove key why) o r = gone-keeps ids why key o r
owes-keeps ids mine journal (RemoveAt key old why) o r = o
owes-keeps ids mine journal (ListPart part) o r = r

-- ---- what an event removes
leaves-removes : (key : Key) → IsObject key → (op : Op) (n time : ℕ) (slot : Slot) (s : Stored) → slot.stands ≡ Some s → is_on key op ≡ true → (leaves n time op slot).stands ≡ None → IsRemoval op
leaves-removes key object (Get k) n time slot s stands on gone = let no = sym stands ∙ gone in absurd cc
leaves-removes key object (PutNew k bytes why) n time slot s stands on gone =
    free-cases (λ (t : Slot). t.stands ≡ None → ⊥) slot.stands (put_at n time bytes slot) slot (λ e. let no = sym stands ∙ e in cc) (λ free e. cc) gone
leaves-removes key object (PutOver k bytes old why) n time slot s stands on gone =
    old-cases (λ (t : Slot). t.stands ≡ None → ⊥) old.0 slot.stands (put_at n time bytes slot) slot (λ e. let no = sym stands ∙ e in cc) (λ before there version e. cc) gone
leaves-removes key object (Remove k why) n time slot s stands on gone = subst IsObject (sym (same_key-true k key on)) object
leaves-removes key object (RemoveAt k old why) n time slot s stands on gone = subst IsObject (sym (same_key-true k key on)) object
leaves-removes key object (ListPart part) n time slot s stands on gone = let no = sym stands ∙ gone in absurd cc

-- an event that removes an object is a removal
pub removes-op : (before : List Event) (event : Event) (key : Key) → IsObject key → Removes before event key → IsRemoval event.op
removes-op before event key object r =
    effect-cases (λ (t : Slot). t.stands ≡ None → IsRemoval event.op) key (length before) (slot_of before key) event (λ gone. let no = sym r.stands ∙ gone in absurd cc)
    (λ on done gone. leaves-removes key object event.op (length before) event.time (slot_of before key) r.stored r.stands on gone)
    (sym (ap (λ (t : Slot). t.stands) (slot-append_one before event key)) ∙ r.gone)

-- ---- what still stands, where nothing is removed
abbrev Unused : Slot → Type 0
Unused slot = slot.stands ≡ None → slot.first ≡ None

leaves-unused : (key : Key) → IsObject key → (op : Op) (n time : ℕ) (slot : Slot) → ¬ IsRemoval op → is_on key op ≡ true → Unused slot → Unused (leaves n time op slot)
leaves-unused key object (Get k) n time slot none on u = u
leaves-unused key object (PutNew k bytes why) n time slot none on u = free-cases Unused slot.stands (put_at n time bytes slot) slot u (λ e s. cc)
leaves-unused key object (PutOver k bytes old why) n time slot none on u = old-cases Unused old.0 slot.stands (put_at n time bytes slot) slot u (λ s e v t. cc)
leaves-unused key object (Remove k why) n time slot none on u = absurd (none (subst IsObject (sym (same_key-true k key on)) object))
leaves-unused key object (RemoveAt k old why) n time slot none on u = absurd (none (subst IsObject (sym (same_key-true k key on)) object))
leaves-unused key object (ListPart part) n time slot none on u = u

unused-one : (journal : List Event) (event : Event) (key : Key) → IsObject key → ¬ IsRemoval event.op → IsUnused journal key → IsUnused (journal ++ event ∷ []) key
unused-one journal event key object none u =
    subst (λ (s : Slot). Unused s) (sym (slot-append_one journal event key))
    (effect-cases Unused key (length journal) (slot_of journal key) event u (λ on d. leaves-unused key object event.op (length journal) event.time (slot_of journal key) none on u))

pub objects-one : (ids : AnyIds) (journal : List Event) (event : Event) → ¬ IsRemoval event.op → ObjectsAreNew ids journal → ObjectsAreNew ids (journal ++ event ∷ [])
objects-one ids journal event k new id d =
    let m = new id d in
    record {
      snapshot = unused-one journal event (Snapshot id) tt k m.snapshot;
      log = unused-one journal event (Txn id) tt k m.log;
      manifest = unused-one journal event (Manifest id) tt k m.manifest;
      chunk = unused-one journal event (Chunk id) tt k m.chunk;
    }

-- the objects of a run's clients are new
abbrev pub AllObjectsAreNew : Draw → List Task → List Event → Type 0
AllObjectsAreNew draw tasks journal = (place : ℕ) → place < length tasks → ObjectsAreNew (ids_at draw place) journal

-- ---- ids
-- an object under such an id still stands, where it was put
pub unused-key : (journal : List Event) (id : Id12) → IsUnusedId journal id → (key : Key) → IsObject key → id_of key ≡ Some id → IsUnused journal key
unused-key journal id u (Snapshot own) object e = let same : id ≡ own = cc in subst (λ (i : Id12). IsUnused journal (Snapshot i)) same u.snapshot
unused-key journal id u (Manifest own) object e = let same : id ≡ own = cc in subst (λ (i : Id12). IsUnused journal (Manifest i)) same u.manifest
unused-key journal id u (Txn own) object e = let same : id ≡ own = cc in subst (λ (i : Id12). IsUnused journal (Txn i)) same u.log
unused-key journal id u (Chunk own) object e = let same : id ≡ own = cc in subst (λ (i : Id12). IsUnused journal (Chunk i)) same u.chunk
unused-key journal id u (Branch name) object e = absurd object
unused-key journal id u (Tag name) object e = absurd object
unused-key journal id u (Tombstone name) object e = absurd object
unused-key journal id u (Lease own) object e = absurd object

-- what was never put has nothing that could have gone
pub unput-new : (journal : List Event) (id : Id12) → IsUnputId journal id → IsUnusedId journal id
unput-new journal id u = record { snapshot = λ gone. u.snapshot; log = λ gone. u.log; manifest = λ gone. u.manifest; chunk = λ gone. u.chunk }
