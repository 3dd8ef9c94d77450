-- What stands in the journal of a run over an empty store.
use Rattle.std.proofs.Common.{◌≡◌, ◌≢◌, ℕ, ◌⊎◌, inl, inr, Bool, true, false, List, [], ◌∷◌, ◌++◌, length, refl, sym, ap, subst, append_assoc, append-nil}
use Rattle.std.specs.Prelude.{◌≤◌, Some, None}
use Rattle.ice_ids.specs.declared.Id12.{Id12}
use Rattle.ice_ids.specs.declared.drawing.AnyIds.{AnyIds}
use Rattle.ice_ids.specs.declared.drawing.Draw.{Draw}
use Rattle.ice_ids.specs.Drawing.{DrawsOnce}
use Rattle.ice_ids.specs.Text.{initial_id}
use Rattle.snapshot_file.specs.declared.snapshot.SnapshotFile.{SnapshotFile}
use Rattle.repo_objects.specs.Readings.{snapshot_by}
use Rattle.object_store.specs.declared.keys.Key.{Key}
use Rattle.object_store.specs.declared.keys.Key.TheVariants.{Snapshot, Manifest, Txn, Chunk, Branch, Tag, Tombstone, Lease}
use Rattle.object_store.specs.declared.events.Op.{Op}
use Rattle.object_store.specs.declared.events.Op.TheVariants.{Get, PutNew, PutOver, Remove, RemoveAt, List as ListPart}
use Rattle.object_store.specs.declared.events.Event.{Event}
use Rattle.object_store.specs.Machine.{Stored, Slot, slot_of, found, first_put, leaves, put_at, is_on}
use Rattle.store_api.specs.Journal.{Each, IsCut, IsGood, IsGoodJournal, IsPolite, IsUnused, MayPutOver, WasPut}
use Rattle.store_api.specs.Laws.{AllNamed}
use Rattle.object_store.proofs.Journals.{Each-append, Each-weaker}
use Rattle.store_api.proofs.Naming.{names-law}
use Rattle.object_store.proofs.Slots.{effect-cases, free-cases, old-cases, slot-append_one, slot-none, same_key-true}
use Rattle.collecting.specs.Walks.{IsObject}
use Rattle.run_histories.proofs.Drawing.{IsDrawnBy, AreOf, drawn-not_initial}
use Rattle.run_histories.proofs.Programs.{IsBranch}

-- ---- events
-- bytes that are read as a snapshot under this id
abbrev pub CanRead : Id12 → List ℕ → Type 0
CanRead id bytes = (s : SnapshotFile) × (snapshot_by id bytes ≡ Some s)

-- ... that has a parent
pub record NamesParent (id : Id12) (bytes : List ℕ) : Type 0 where
  pub snap : SnapshotFile
  pub read : snapshot_by id bytes ≡ Some snap
  pub parent : Id12
  pub parent_is : snap.parent ≡ Some parent

-- a new snapshot can be read, and it is the initial one, or has a parent and is under one of these ids; so is a log, a manifest, and an object with a chunk
abbrev pub PutsNew : (Id12 → Type 0) → List ℕ → Key → Type 0
PutsNew who bytes (Snapshot id) = CanRead id bytes × ((id ≡ initial_id) ⊎ (who id × NamesParent id bytes))
PutsNew who bytes (Txn id) = who id
PutsNew who bytes (Manifest id) = who id
PutsNew who bytes (Chunk id) = who id
PutsNew who bytes (Branch name) = Unit {0}
PutsNew who bytes (Tag name) = Unit {0}
PutsNew who bytes (Tombstone name) = Unit {0}
PutsNew who bytes (Lease id) = who id

-- nothing is removed at a version but branches; keys are removed by collections, and politeness says what is put over
abbrev pub Puts : (Id12 → Type 0) → Op → Type 0
Puts who (Get key) = Unit {0}
Puts who (ListPart part) = Unit {0}
Puts who (PutNew key bytes why) = PutsNew who bytes key
Puts who (PutOver key bytes old why) = Unit {0}
Puts who (Remove key why) = Unit {0}
Puts who (RemoveAt key old why) = IsBranch key

-- an event of a client that draws these ids
pub record IsTidy (who : Id12 → Type 0) (journal : List Event) (event : Event) : Type 0 where
  pub good : IsGood journal event
  pub puts : Puts who event.op

new-weaker : (who more : Id12 → Type 0) → ((id : Id12) → who id → more id) → (bytes : List ℕ) (key : Key) → PutsNew who bytes key → PutsNew more bytes key
new-weaker who more f bytes (Snapshot id) p = (p.0, elim p.1 [ inl i ↦ inl i | inr w ↦ inr (f id w.0, w.1) ])
new-weaker who more f bytes (Txn id) p = f id p
new-weaker who more f bytes (Manifest id) p = f id p
new-weaker who more f bytes (Chunk id) p = f id p
new-weaker who more f bytes (Branch name) p = tt
new-weaker who more f bytes (Tag name) p = tt
new-weaker who more f bytes (Tombstone name) p = tt
new-weaker who more f bytes (Lease id) p = f id p

pub puts-weaker : (who more : Id12 → Type 0) → ((id : Id12) → who id → more id) → (op : Op) → Puts who op → Puts more op
puts-weaker who more f (Get key) p = tt
puts-weaker who more f (ListPart part) p = tt
puts-weaker who more f (PutNew key bytes why) p = new-weaker who more f bytes key p
puts-weaker who more f (PutOver key bytes old why) p = p
puts-weaker who more f (Remove key why) p = p
puts-weaker who more f (RemoveAt key old why) p = p

-- anybody's event
abbrev pub IsAny : List Event → Event → Type 0
IsAny = IsTidy (λ id. Unit {0})

-- ---- clients
-- a client of a run in which no id is drawn twice, and in which tasks collect or not
pub record Client : Type 0 where
  pub collects : Bool
  pub draw : Draw
  pub most : ℕ
  pub once : DrawsOnce draw most
  pub number : ℕ
  pub small : number ≤ most

-- an id that it may draw
abbrev pub Draws : Client → Id12 → Type 0
Draws client = IsDrawnBy client.draw client.number

-- ids of it
abbrev pub AreIts : Client → AnyIds → Type 0
AreIts client = AreOf client.draw client.number

-- an event of others than this client
abbrev pub IsOthers : Client → List Event → Event → Type 0
IsOthers client = IsTidy (λ id. ¬ Draws client id)

pub any-of : (who : Id12 → Type 0) (journal : List Event) (event : Event) → IsTidy who journal event → IsAny journal event
any-of who journal event t = record { good = t.good; puts = puts-weaker who (λ id. Unit {0}) (λ id w. tt) event.op t.puts }

-- a journal of anybody's events goes on
pub tidy-more : (who : Id12 → Type 0) (journal more : List Event) → Each IsAny [] journal → Each (IsTidy who) journal more → Each IsAny [] (journal ++ more)
tidy-more who journal more tidy others = Each-append IsAny [] journal more tidy (Each-weaker (IsTidy who) IsAny (any-of who) journal more others)

-- what each event keeps
pub along : (P : List Event → Event → Type 0) (Inv : List Event → Type 0) → ((journal : List Event) (event : Event) → P journal event → Inv journal → Inv (journal ++ event ∷ [])) → (old xs : List Event) → Each P old xs → Inv old → Inv (old ++ xs)
unfolding Each
along P Inv step old [] each inv = subst Inv (sym (append-nil old)) inv
along P Inv step old (x ∷ xs) each inv = subst Inv (append_assoc old (x ∷ []) xs) (along P Inv step (old ++ x ∷ []) xs each.1 (step old x each.0 inv))

-- ---- what stands
-- what a slot holds can be read
abbrev ReadSlot : Id12 → Slot → Type 0
ReadSlot id slot = (s : Stored) → slot.stands ≡ Some s → CanRead id s.bytes

stands-read : (id : Id12) (n time : ℕ) (bytes : List ℕ) (slot : Slot) → CanRead id bytes → ReadSlot id (put_at n time bytes slot)
stands-read id n time bytes slot can s e = let same : bytes ≡ s.bytes = cc in subst (CanRead id) same can

leaves-read : (id : Id12) (journal : List Event) (n time : ℕ) (op : Op) (slot : Slot) → IsPolite journal op → Puts (λ i. Unit {0}) op → is_on (Snapshot id) op ≡ true → ReadSlot id slot → ReadSlot id (leaves n time op slot)
leaves-read id journal n time (Get key) slot g p on r = r
leaves-read id journal n time (ListPart part) slot g p on r = r
leaves-read id journal n time (PutNew key bytes why) slot g p on r =
    let at : PutsNew (λ i. Unit {0}) bytes (Snapshot id) = subst (λ (k : Key). PutsNew (λ i. Unit {0}) bytes k) (same_key-true key (Snapshot id) on) p in
    free-cases (ReadSlot id) slot.stands (put_at n time bytes slot) slot r (λ free. stands-read id n time bytes slot at.0)
leaves-read id journal n time (PutOver key bytes old why) slot g p on r =
    let cut : IsCut journal id old.0 bytes = subst (λ (k : Key). MayPutOver journal bytes old.0 why k) (same_key-true key (Snapshot id) on) g in
    old-cases (ReadSlot id) old.0 slot.stands (put_at n time bytes slot) slot r (λ s e v. stands-read id n time bytes slot (record cut.snap { parent = Some initial_id }, cut.is))
leaves-read id journal n time (Remove key why) slot g p on r = λ s e. absurd cc
leaves-read id journal n time (RemoveAt key old why) slot g p on r = absurd (subst IsBranch (same_key-true key (Snapshot id) on) p)

abbrev AllRead : Id12 → List Event → Type 0
AllRead id journal = ReadSlot id (slot_of journal (Snapshot id))

read-one : (id : Id12) (journal : List Event) (event : Event) → IsAny journal event → AllRead id journal → AllRead id (journal ++ event ∷ [])
read-one id journal event t r =
    subst (ReadSlot id) (sym (slot-append_one journal event (Snapshot id)))
    (effect-cases (ReadSlot id) (Snapshot id) (length journal) (slot_of journal (Snapshot id)) event r (λ on done. leaves-read id journal (length journal) event.time event.op (slot_of journal (Snapshot id)) t.good.polite t.puts on r))

read-none : (id : Id12) → AllRead id []
read-none id = subst (ReadSlot id) (sym (slot-none (Snapshot id))) (λ s e. absurd cc)

-- a snapshot that stands can be read
pub stands-readable : (id : Id12) (journal : List Event) (s : Stored) → Each IsAny [] journal → found journal (Snapshot id) ≡ Some s → CanRead id s.bytes
stands-readable id journal s tidy e = along IsAny (AllRead id) (read-one id) [] journal tidy (read-none id) s e

-- ---- what was put stands, where nothing is removed
-- no object is a branch
no-object : (key : Key) → IsObject key → ¬ IsBranch key
no-object (Snapshot id) o b = b
no-object (Manifest id) o b = b
no-object (Txn id) o b = b
no-object (Chunk id) o b = b
no-object (Branch name) o b = o
no-object (Tag name) o b = o
no-object (Tombstone name) o b = o
no-object (Lease id) o b = o

-- no object is removed
abbrev pub Keeps : Op → Type 0
Keeps (Get key) = Unit {0}
Keeps (ListPart part) = Unit {0}
Keeps (PutNew key bytes why) = Unit {0}
Keeps (PutOver key bytes old why) = Unit {0}
Keeps (Remove key why) = ¬ IsObject key
Keeps (RemoveAt key old why) = IsBranch key

abbrev Unused : Slot → Type 0
Unused slot = slot.stands ≡ None → slot.first ≡ None

leaves-unused : (key : Key) → IsObject key → (n time : ℕ) (op : Op) (slot : Slot) → Keeps op → is_on key op ≡ true → Unused slot → Unused (leaves n time op slot)
leaves-unused key object n time (Get k) slot keeps on u = u
leaves-unused key object n time (ListPart part) slot keeps on u = u
leaves-unused key object n time (PutNew k bytes why) slot keeps on u = free-cases Unused slot.stands (put_at n time bytes slot) slot u (λ free none. absurd cc)
leaves-unused key object n time (PutOver k bytes old why) slot keeps on u = old-cases Unused old.0 slot.stands (put_at n time bytes slot) slot u (λ s e v none. absurd cc)
leaves-unused key object n time (Remove k why) slot keeps on u = absurd (keeps (subst IsObject (sym (same_key-true k key on)) object))
leaves-unused key object n time (RemoveAt k old why) slot keeps on u = absurd (no-object key object (subst IsBranch (same_key-true k key on) keeps))

-- what was put of objects stands
abbrev pub AllStand : List Event → Type 0
AllStand journal = (key : Key) → IsObject key → IsUnused journal key

pub stand-none : AllStand []
stand-none key object none = ap (λ (s : Slot). s.first) (slot-none key)

pub stand-one : (journal : List Event) (event : Event) → Keeps event.op → AllStand journal → AllStand (journal ++ event ∷ [])
stand-one journal event keeps all key object =
    subst Unused (sym (slot-append_one journal event key))
    (effect-cases Unused key (length journal) (slot_of journal key) event (all key object) (λ on done. leaves-unused key object (length journal) event.time event.op (slot_of journal key) keeps on (all key object)))

pub put-stands : (key : Key) → IsObject key → (journal : List Event) → AllStand journal → WasPut journal key → found journal key ≢ None
put-stands key object journal all put none = let first : first_put journal key ≡ None = all key object none in let was = put.1 in absurd cc

-- ---- what is named was put
-- each event is good
pub good-of : (journal : List Event) → Each IsAny [] journal → IsGoodJournal journal
good-of journal tidy = Each-weaker IsAny IsGood (λ h event t. t.good) [] journal tidy

-- a branch that stands names a snapshot that was put, and so does a tag
pub all-named : (journal : List Event) → Each IsAny [] journal → AllNamed journal
all-named journal tidy = names-law journal (good-of journal tidy)

-- ---- keys at which nothing stands
-- others put nothing new under the ids of this client
abbrev pub IsSpared : (Id12 → Type 0) → Key → Type 0
IsSpared who key = (bytes : List ℕ) → ¬ PutsNew who bytes key

pub spared-snapshot : (client : Client) (id : Id12) → Draws client id → (who : Id12 → Type 0) → ¬ who id → IsSpared who (Snapshot id)
spared-snapshot client id d who other bytes p = elim p.1 [ inl i ↦ absurd (drawn-not_initial client.draw client.most client.once client.number id client.small d i) | inr w ↦ other w.0 ]

pub spared-log : (id : Id12) (who : Id12 → Type 0) → ¬ who id → IsSpared who (Txn id)
spared-log id who other bytes p = other p

pub spared-manifest : (id : Id12) (who : Id12 → Type 0) → ¬ who id → IsSpared who (Manifest id)
spared-manifest id who other bytes p = other p

pub spared-chunk : (id : Id12) (who : Id12 → Type 0) → ¬ who id → IsSpared who (Chunk id)
spared-chunk id who other bytes p = other p

pub spared-lease : (id : Id12) (who : Id12 → Type 0) → ¬ who id → IsSpared who (Lease id)
spared-lease id who other bytes p = other p

abbrev Free : Slot → Type 0
Free slot = slot.stands ≡ None

leaves-free : (who : Id12 → Type 0) (key : Key) (n time : ℕ) (op : Op) (slot : Slot) → IsSpared who key → Puts who op → is_on key op ≡ true → Free slot → Free (leaves n time op slot)
leaves-free who key n time (Get k) slot spared p on f = f
leaves-free who key n time (ListPart part) slot spared p on f = f
leaves-free who key n time (PutNew k bytes why) slot spared p on f = absurd (spared bytes (subst (λ (x : Key). PutsNew who bytes x) (same_key-true k key on) p))
leaves-free who key n time (PutOver k bytes old why) slot spared p on f = old-cases Free old.0 slot.stands (put_at n time bytes slot) slot f (λ s e v. absurd cc)
leaves-free who key n time (Remove k why) slot spared p on f = refl
leaves-free who key n time (RemoveAt k old why) slot spared p on f = old-cases Free old.0 slot.stands (record slot { stands = None }) slot f (λ s e v. refl)

free-one : (who : Id12 → Type 0) (key : Key) → IsSpared who key → (journal : List Event) (event : Event) → IsTidy who journal event → found journal key ≡ None → found (journal ++ event ∷ []) key ≡ None
free-one who key spared journal event t f =
    subst Free (sym (slot-append_one journal event key))
    (effect-cases Free key (length journal) (slot_of journal key) event f (λ on done. leaves-free who key (length journal) event.time event.op (slot_of journal key) spared t.puts on f))

pub free-others : (who : Id12 → Type 0) (key : Key) (old more : List Event) → IsSpared who key → Each (IsTidy who) old more → found old key ≡ None → found (old ++ more) key ≡ None
free-others who key old more spared tidy f = along (IsTidy who) (λ h. found h key ≡ None) (free-one who key spared) old more tidy f

-- an event on another key
pub free-apart : (key : Key) (journal : List Event) (event : Event) → is_on key event.op ≡ false → found journal key ≡ None → found (journal ++ event ∷ []) key ≡ None
free-apart key journal event off f =
    subst Free (sym (slot-append_one journal event key))
    (effect-cases Free key (length journal) (slot_of journal key) event f (λ on done. absurd cc))

pub nothing-stands : (key : Key) → found [] key ≡ None
nothing-stands key = ap (λ (s : Slot). s.stands) (slot-none key)
