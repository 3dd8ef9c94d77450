-- What was put of snapshots and logs: the last put is the first one, but for cuts of a snapshot's parent.
use Rattle.std.proofs.Common.{◌≡◌, ◌≢◌, ◌⊎◌, inl, inr, ℕ, Bool, true, false, List, [], ◌∷◌, ◌++◌, length, refl, sym, ◌∙◌, ap, subst, append_assoc, append-nil}
use Rattle.std.specs.Prelude.{Option, Some, None, bytes_eq}
use Rattle.std.specs.Option.{option_or}
use Rattle.ice_ids.specs.declared.Id12.{Id12}
use Rattle.ice_ids.specs.Text.{initial_id}
use Rattle.snapshot_file.specs.declared.snapshot.SnapshotFile.{SnapshotFile}
use Rattle.repo_objects.specs.Readings.{snapshot_by}
use Rattle.repo_objects.specs.Laws.{initial_bytes}
use Rattle.object_store.specs.declared.keys.Key.{Key}
use Rattle.object_store.specs.declared.keys.Key.TheVariants.{Snapshot, Txn}
use Rattle.object_store.specs.declared.keys.Why.{Why}
use Rattle.object_store.specs.declared.events.Version.{Version}
use Rattle.object_store.specs.declared.events.Op.{Op}
use Rattle.object_store.specs.declared.events.Op.TheVariants.{Get, PutNew, PutOver, Remove, RemoveAt, List as ListPart}
use Rattle.object_store.specs.declared.events.Event.{Event}
use Rattle.object_store.specs.Machine.{Stored, Slot, leaves, put_at, slot_of, found, first_put, last_put, is_on}
use Rattle.store_api.specs.Journal.{Each, WasPut, IsFirst, IsFirstOp, IsOnce, IsGood, IsGoodJournal, IsPolite, MayPutOver, PutsFirst, snap_in, snap_made}
use Rattle.object_store.proofs.Slots.{same_key-true, bytes-same, id-true, effect-cases, free-cases, old-cases, slot-append_one, slot-none, sound, stood-is}
use Rattle.object_store.proofs.Journals.{Each-append, Each-one}
use Rattle.store_api.proofs.Once.{initial-last}

-- ---- a fact on a key's first put and its last one
-- It holds of one put alone, stays, and holds again where the key is put anew and where it is put over.
module _ (key : Key) (Q : List Event → (first last : List ℕ) → Type 0) (same : (journal : List Event) (bytes : List ℕ) → Q journal bytes bytes) (later : (journal : List Event) (event : Event) (first last : List ℕ) → Q journal first last → Q (journal ++ event ∷ []) first last)
    (new : (journal : List Event) (first bytes : List ℕ) → IsOnce journal → first_put journal key ≡ Some first → found journal key ≡ None → PutsFirst journal bytes key → ((last : List ℕ) → last_put journal key ≡ Some last → Q journal first last) → Q journal first bytes)
    (over : (journal : List Event) (event : Event) (first bytes : List ℕ) (old : Version) (why : Why) (s : Stored) → event.op ≡ PutOver key bytes old why → first_put journal key ≡ Some first → found journal key ≡ Some s → MayPutOver journal bytes s.version why key → Q journal first s.bytes → Q (journal ++ event ∷ []) first bytes) where
  abbrev Fine : List Event → Slot → Type 0
  Fine journal slot = (first last : List ℕ) → slot.first ≡ Some first → slot.last ≡ Some last → Q journal first last

  module _ (journal : List Event) (event : Event) (once : IsOnce journal) (h : Fine journal (slot_of journal key)) where
    abbrev now : List Event
    now = journal ++ event ∷ []

    kept : Fine now (slot_of journal key)
    kept first last f l = later journal event first last (h first last f l)

    put-fine : (bytes : List ℕ) → ((first : List ℕ) → first_put journal key ≡ Some first → Q now first bytes) → Fine now (put_at (length journal) event.time bytes (slot_of journal key))
    put-fine bytes q first last f l = let is : bytes ≡ last = cc l in subst (λ (b : List ℕ). Q now first b) is (by_first (first_put journal key) refl f)
      where
        by_first : (o : Option (List ℕ)) → first_put journal key ≡ o → option_or o (Some bytes) ≡ Some first → Q now first bytes
        by_first None e f = let is : bytes ≡ first = cc f in subst (λ (b : List ℕ). Q now b bytes) is (same now bytes)
        by_first (Some b) e f = q first (e ∙ f)

    leaves-fine : (op : Op) → event.op ≡ op → is_on key op ≡ true → IsPolite journal op → IsFirstOp journal op → Fine now (leaves (length journal) event.time op (slot_of journal key))
    leaves-fine (Get k) is e p f = kept
    leaves-fine (PutNew k bytes why) is e p f =
        free-cases (Fine now) (found journal key) (put_at (length journal) event.time bytes (slot_of journal key)) (slot_of journal key) kept
        (λ free. put-fine bytes (λ first g. later journal event first bytes (new journal first bytes once g free (subst (λ (x : Key). PutsFirst journal bytes x) (same_key-true k key e) f) (λ last l. h first last g l))))
    leaves-fine (PutOver k bytes old why) is e p f =
        let here : k ≡ key = same_key-true k key e in
        let polite : MayPutOver journal bytes old.0 why key = subst (λ (x : Key). MayPutOver journal bytes old.0 why x) here p in
        old-cases (Fine now) old.0 (found journal key) (put_at (length journal) event.time bytes (slot_of journal key)) (slot_of journal key) kept
        (λ s d v. put-fine bytes (λ first g. over journal event first bytes old why s (is ∙ ap (λ (x : Key). PutOver x bytes old why) here) g d (subst (λ (n : ℕ). MayPutOver journal bytes n why key) (sym v) polite) (h first s.bytes g ((sound journal key).last s d))))
    leaves-fine (Remove k why) is e p f = kept
    leaves-fine (RemoveAt k old why) is e p f = old-cases (Fine now) old.0 (found journal key) (record (slot_of journal key) { stands = None }) (slot_of journal key) kept (λ s d v. kept)
    leaves-fine (ListPart part) is e p f = kept

    fine-one : IsGood journal event → IsFirst journal event → Fine now (slot_of now key)
    fine-one g f = subst (Fine now) (sym (slot-append_one journal event key)) (effect-cases (Fine now) key (length journal) (slot_of journal key) event kept (λ e d. leaves-fine event.op refl e g.polite (f d)))

  fine-along : (journal more : List Event) → IsOnce journal → Fine journal (slot_of journal key) → Each IsGood journal more → Each IsFirst journal more → Fine (journal ++ more) (slot_of (journal ++ more) key)
  unfolding Each
  fine-along journal [] once h g f = subst (λ (j : List Event). Fine j (slot_of j key)) (sym (append-nil journal)) h
  fine-along journal (x ∷ xs) once h g f =
      subst (λ (j : List Event). Fine j (slot_of j key)) (append_assoc journal (x ∷ []) xs)
      (fine-along (journal ++ x ∷ []) xs (Each-append IsFirst [] journal (x ∷ []) once (Each-one IsFirst journal x f.0)) (fine-one journal x once h g.0 f.0) g.1 f.1)

  begins : Fine [] (slot_of [] key)
  begins = subst (Fine []) (sym (slot-none key)) (λ first last f l. absurd (cc f))

  pub first-last : (journal : List Event) → IsGoodJournal journal → IsOnce journal → (first last : List ℕ) → first_put journal key ≡ Some first → last_put journal key ≡ Some last → Q journal first last
  unfolding Each
  first-last journal g once = fine-along [] journal tt begins g once

-- ---- logs
-- a log's last put is its first one
pub log-first : (journal : List Event) (id : Id12) → IsGoodJournal journal → IsOnce journal → (first last : List ℕ) → first_put journal (Txn id) ≡ Some first → last_put journal (Txn id) ≡ Some last → first ≡ last
log-first journal id =
    first-last (Txn id) (λ j first last. first ≡ last) (λ j bytes. refl) (λ j event first last e. e) (λ j first bytes once f free unused h. let none = unused free in absurd (cc none)) (λ j event first bytes old why s is f d p e. absurd p) journal

-- ---- snapshots
-- the snapshot with the initial one as its parent
abbrev pub cut_of : SnapshotFile → SnapshotFile
cut_of s = record s { parent = Some initial_id }

-- an event put the snapshot over, which had been put before
pub record WasCut (journal : List Event) (id : Id12) : Type 0 where
  pub before : List Event
  pub event : Event
  pub after : List Event
  pub is : journal ≡ before ++ event ∷ after
  pub bytes : List ℕ
  pub old : Version
  pub why : Why
  pub op_is : event.op ≡ PutOver (Snapshot id) bytes old why
  pub put : WasPut before (Snapshot id)

pub WasCut-append : (journal more : List Event) (id : Id12) → WasCut journal id → WasCut (journal ++ more) id
WasCut-append journal more id c = record {
  before = c.before;
  event = c.event;
  after = c.after ++ more;
  is = ap (λ (j : List Event). j ++ more) c.is ∙ append_assoc c.before (c.event ∷ c.after) more;
  bytes = c.bytes;
  old = c.old;
  why = c.why;
  op_is = c.op_is;
  put = c.put;
}

-- these bytes are a snapshot, and those the same one with its parent cut
record CutsTo (journal : List Event) (id : Id12) (first last : List ℕ) : Type 0 where
  snap : SnapshotFile
  made : snapshot_by id first ≡ Some snap
  now : snapshot_by id last ≡ Some (cut_of snap)
  not_initial : id ≢ initial_id
  was_cut : WasCut journal id

abbrev Leads : Id12 → List Event → (first last : List ℕ) → Type 0
Leads id journal first last = (first ≡ last) ⊎ CutsTo journal id first last

some-same : {A : Type 0} (a b : A) → Some a ≡ Some b → a ≡ b
some-same a b e = cc

module _ (id : Id12) where
  leads-later : (journal : List Event) (event : Event) (first last : List ℕ) → Leads id journal first last → Leads id (journal ++ event ∷ []) first last
  leads-later journal event first last (inl e) = inl e
  leads-later journal event first last (inr c) = inr (record { snap = c.snap; made = c.made; now = c.now; not_initial = c.not_initial; was_cut = WasCut-append journal (event ∷ []) id c.was_cut })

  -- put anew: that is the initial snapshot
  leads-new : (journal : List Event) (first bytes : List ℕ) → IsOnce journal → first_put journal (Snapshot id) ≡ Some first → found journal (Snapshot id) ≡ None → PutsFirst journal bytes (Snapshot id)
      → ((last : List ℕ) → last_put journal (Snapshot id) ≡ Some last → Leads id journal first last) → Leads id journal first bytes
  leads-new journal first bytes once f free p h = by_id (bytes_eq id.0 initial_id.0) refl
    where
      initial : id ≡ initial_id → Leads id journal first bytes
      initial is =
          let last : last_put journal (Snapshot id) ≡ Some initial_bytes = subst (λ (i : Id12). last_put journal (Snapshot i) ≡ Some initial_bytes) (sym is) (initial-last journal once (first, subst (λ (i : Id12). first_put journal (Snapshot i) ≡ Some first) is f)) in
          elim (h initial_bytes last) [ inl e ↦ inl (e ∙ sym (p.initial is)) | inr c ↦ absurd (c.not_initial is) ]

      by_id : (b : Bool) → bytes_eq id.0 initial_id.0 ≡ b → Leads id journal first bytes
      by_id true e = initial (id-true id initial_id e)
      by_id false e =
          let none = p.other (λ s. let y : bytes_eq id.0 initial_id.0 ≡ true = subst (λ (i : Id12). bytes_eq id.0 i.0 ≡ true) s (bytes-same id.0) in cc) free in
          absurd (cc none)

  -- put over
  leads-over : (journal : List Event) (event : Event) (first bytes : List ℕ) (old : Version) (why : Why) (s : Stored) → event.op ≡ PutOver (Snapshot id) bytes old why → first_put journal (Snapshot id) ≡ Some first → found journal (Snapshot id) ≡ Some s
      → MayPutOver journal bytes s.version why (Snapshot id) → Leads id journal first s.bytes → Leads id (journal ++ event ∷ []) first bytes
  leads-over journal event first bytes old why s is f d p h = inr (by_case h)
    where
      here : WasCut (journal ++ event ∷ []) id
      here = record { before = journal; event = event; after = []; is = refl; bytes = bytes; old = old; why = why; op_is = is; put = (first, f) }

      was : snapshot_by id s.bytes ≡ Some p.snap
      was = ap (snapshot_by id) (stood-is journal (Snapshot id) s p.before d p.stood) ∙ p.was

      by_case : Leads id journal first s.bytes → CutsTo (journal ++ event ∷ []) id first bytes
      by_case (inl e) = record { snap = p.snap; made = ap (snapshot_by id) e ∙ was; now = p.is; not_initial = p.not_initial; was_cut = here }
      by_case (inr c) =
          let same : p.snap ≡ cut_of c.snap = some-same p.snap (cut_of c.snap) (sym was ∙ c.now) in
          record { snap = c.snap; made = c.made; now = p.is ∙ ap (λ (x : SnapshotFile). Some (cut_of x)) same; not_initial = p.not_initial; was_cut = here }

  snap-first : (journal : List Event) → IsGoodJournal journal → IsOnce journal → (first last : List ℕ) → first_put journal (Snapshot id) ≡ Some first → last_put journal (Snapshot id) ≡ Some last → Leads id journal first last
  snap-first journal = first-last (Snapshot id) (Leads id) (λ j bytes. inl refl) leads-later leads-new leads-over journal

-- A snapshot that was put last is the one that was put first, or that one with the initial one as its parent.
pub record FirstPutAs (journal : List Event) (id : Id12) (now : SnapshotFile) : Type 0 where
  pub snap : SnapshotFile
  pub made : snap_made journal id ≡ Some snap
  pub same : (now ≡ snap) ⊎ ((now ≡ cut_of snap) × (id ≢ initial_id) × WasCut journal id)

pub first-put-as : (journal : List Event) (id : Id12) (last : List ℕ) (now : SnapshotFile) → IsGoodJournal journal → IsOnce journal → last_put journal (Snapshot id) ≡ Some last → snapshot_by id last ≡ Some now → FirstPutAs journal id now
first-put-as journal id last now g once l read =
    let f = (sound journal (Snapshot id)).begun last l in
    elim (snap-first id journal g once f.0 last f.1 l) [
      | inl e ↦ record { snap = now; made = ap (snap_in id) f.1 ∙ ap (snapshot_by id) e ∙ read; same = inl refl }
      | inr c ↦ record { snap = c.snap; made = ap (snap_in id) f.1 ∙ c.made; same = inr (some-same now (cut_of c.snap) (sym read ∙ c.now), c.not_initial, c.was_cut) }
    ]
