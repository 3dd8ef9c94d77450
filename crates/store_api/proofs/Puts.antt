-- A put of a free key tells that something was put there; and what begins a repository is polite, whatever others do.
use Rattle.std.proofs.Common.{◌≡◌, ◌<◌, ltb, true, inl, inr, ℕ, List, [], ◌∷◌, length, refl, ◌∙◌, ap, arith}
use Rattle.std.specs.Prelude.{Option, Some, None}
use Rattle.std.specs.Option.{option_or}
use Rattle.std.specs.List.{All, list_all}
use Rattle.std.proofs.lemmas.Bool.{and_parts, ltb-true}
use Rattle.std.proofs.lemmas.List.Elements.{All-nil, All-cons}
use Rattle.ice_base.specs.Names.{main_name}
use Rattle.ice_ids.specs.Text.{IsId12, initial_id}
use Rattle.snapshot_file.specs.Initial.{initial_snapshot}
use Rattle.ref_file.specs.Refs.{ref_bytes}
use Rattle.repo_objects.specs.Readings.{snapshot_by, ref_of}
use Rattle.repo_objects.specs.Laws.{initial_bytes, InitialLaw, RefLaw}
use Rattle.object_store.specs.declared.keys.Key.{Key}
use Rattle.object_store.specs.declared.keys.Key.TheVariants.{Snapshot, Branch}
use Rattle.object_store.specs.declared.keys.Why.{Why}
use Rattle.object_store.specs.declared.keys.Why.TheVariants.{Init}
use Rattle.object_store.specs.declared.events.Op.TheVariants.{PutNew}
use Rattle.object_store.specs.declared.events.New.{New}
use Rattle.object_store.specs.declared.events.Reply.TheVariants.{New as Is_new}
use Rattle.object_store.specs.declared.events.Event.{Event}
use Rattle.object_store.specs.Machine.{Stored, Slot, slot_of, found, effect, put_at, where_free}
use Rattle.store_api.specs.Journal.{WasPut, IsPolite}
use Rattle.store_api.specs.Callers.{Caller, Makes, own_event}
use Rattle.object_store.proofs.Slots.{same_key-refl, slot-append_one, sound}

-- ---- a put of a free key tells that something was put there
put-slot : (by : Caller) (key : Key) (bytes : List ℕ) (why : Why) (answer : New) (n time : ℕ) (slot : Slot) → effect key n slot (own_event by (PutNew key bytes why) (Is_new answer) time) ≡ where_free slot.stands (put_at n time bytes slot) slot
unfolding effect
put-slot by key bytes why answer n time slot = rw (same_key-refl key) refl

or-some : (o : Option (List ℕ)) (bytes : List ℕ) → (b : List ℕ) × (option_or o (Some bytes) ≡ Some b)
or-some None bytes = (bytes, refl)
or-some (Some b) bytes = (b, refl)

free-put : (stands : Option Stored) (slot : Slot) → slot.stands ≡ stands → ((s : Stored) → slot.stands ≡ Some s → (b : List ℕ) × (slot.first ≡ Some b)) → (n time : ℕ) (bytes : List ℕ) → (b : List ℕ) × ((where_free stands (put_at n time bytes slot) slot).first ≡ Some b)
free-put None slot e first n time bytes = or-some slot.first bytes
free-put (Some s) slot e first n time bytes = first s e

pub put-told : (by : Caller) (key : Key) (bytes : List ℕ) (why : Why) (answer : New) (old new : List Event) → Makes by (PutNew key bytes why) (Is_new answer) old new → WasPut new key
put-told by key bytes why answer old new m =
    let event : Event = own_event by (PutNew key bytes why) (Is_new answer) m.time in
    let slot : slot_of new key ≡ where_free (found m.middle key) (put_at (length m.middle) m.time bytes (slot_of m.middle key)) (slot_of m.middle key) =
    ap (λ (h : List Event). slot_of h key) m.is ∙ slot-append_one m.middle event key ∙ put-slot by key bytes why answer (length m.middle) m.time (slot_of m.middle key)
    in
    let put = free-put (found m.middle key) (slot_of m.middle key) refl ((sound m.middle key).first) (length m.middle) m.time bytes in
    (put.0, ap (λ (s : Slot). s.first) slot ∙ put.1)

-- ---- what begins a repository
-- a test that computes
all-bytes : (bytes : List ℕ) → list_all (λ b. ltb b 256) bytes ≡ true → All (λ b. b < 256) bytes
all-bytes [] e = All-nil (λ b. b < 256)
all-bytes (b ∷ bytes) e =
    let parts = and_parts (ltb b 256) (list_all (λ x. ltb x 256) bytes) e in
    All-cons (λ x. x < 256) b bytes (ltb-true b 256 parts.0) (all-bytes bytes parts.1)

initial_id-IsId12 : IsId12 initial_id
initial_id-IsId12 = (refl, all-bytes initial_id.0 refl)

-- the initial snapshot names no parent and no manifests
pub snapshot-polite : InitialLaw → (journal : List Event) (bytes : List ℕ) → bytes ≡ initial_bytes → IsPolite journal (PutNew (Snapshot initial_id) bytes Init)
snapshot-polite law journal bytes e =
    let read : snapshot_by initial_id bytes ≡ Some initial_snapshot = ap (snapshot_by initial_id) e ∙ law in
    (inl refl, rw read (λ id named. cc), rw read (λ id named. let few = named.among.1 in absurd (omega (arith, few))))

pub main-polite : RefLaw → (journal : List Event) (name bytes : List ℕ) → name ≡ main_name → bytes ≡ ref_bytes initial_id → WasPut journal (Snapshot initial_id) → IsPolite journal (PutNew (Branch name) bytes Init)
main-polite law journal name bytes n e put =
    let read : ref_of bytes ≡ Some initial_id = ap ref_of e ∙ law.written initial_id initial_id-IsId12 in
    (record { id = initial_id; reference = read; put = put }, inr (refl, n, read))
