-- What a get read of a snapshot: it is as it was first put, or cut.
use Rattle.std.proofs.Common.{◌≡◌, ◌≢◌, ◌⊎◌, inl, inr, ℕ, true, List, [], ◌∷◌, ◌++◌, length, refl, sym, ◌∙◌, ap, subst, append_assoc, append-nil, arith}
use Rattle.std.specs.Prelude.{Option, Some, None}
use Rattle.std.specs.Option.{option_and_then, option_or}
use Rattle.ice_ids.specs.Text.{initial_id}
use Rattle.ice_ids.specs.declared.Id12.{Id12}
use Rattle.snapshot_file.specs.declared.snapshot.SnapshotFile.{SnapshotFile}
use Rattle.snapshot_file.specs.Initial.{initial_snapshot}
use Rattle.repo_objects.specs.Laws.{InitialLaw, initial_bytes}
use Rattle.repo_objects.specs.Readings.{snapshot_by}
use Rattle.object_store.specs.declared.keys.Key.{Key}
use Rattle.object_store.specs.declared.keys.Key.TheVariants.{Snapshot}
use Rattle.object_store.specs.declared.keys.Why.{Why}
use Rattle.object_store.specs.declared.events.Version.{Version}
use Rattle.object_store.specs.declared.events.Op.{Op}
use Rattle.object_store.specs.declared.events.Op.TheVariants.{Get, PutNew, PutOver, Remove, RemoveAt, List as ListPart}
use Rattle.object_store.specs.declared.events.Event.{Event}
use Rattle.object_store.specs.Machine.{Stored, Slot, slot_of, leaves, put_at, found, first_put, last_put, is_on, was_done}
use Rattle.object_store.proofs.Journals.{Each-back}
use Rattle.object_store.proofs.Slots.{same_key-true, effect-cases, free-cases, old-cases, slot-append_one, slot-none, sound, first-append}
use Rattle.store_api.specs.Journal.{Each, IsCut, IsFirst, IsFirstOp, IsGood, IsGoodJournal, IsOnce, IsPolite, PutsOver, PutsSnap, snap_in, snap_made}
use Rattle.store_api.specs.Telling.{WasReadAs}
use Rattle.store_api.proofs.Once.{initial-last}
use Rattle.settled_doubts.specs.Doubts.{CutsNot}
use Rattle.settled_doubts.proofs.Puts.{got-found, over-done}

-- the parent that these bytes name
abbrev pub parent_in : Id12 → Option (List ℕ) → Option Id12
parent_in id bytes = option_and_then (λ (s : SnapshotFile). s.parent) (snap_in id bytes)

-- ---- along events
module _ (id : Id12) (other : id ≢ initial_id) where
  abbrev slot_at : List Event → Slot
  slot_at journal = slot_of journal (Snapshot id)

  -- what holds of it stays so behind an event, if it does behind a first put, a put over and a removal
  module _ (Q : Slot → Type 0) (journal : List Event) (event : Event) (first : IsFirst journal event) (held : Q (slot_at journal))
      (new : (bytes : List ℕ) → first_put journal (Snapshot id) ≡ None → Q (put_at (length journal) event.time bytes (slot_at journal)))
      (over : (bytes : List ℕ) (old : Version) (why : Why) (s : Stored) → event.op ≡ PutOver (Snapshot id) bytes old why → was_done event.reply ≡ true → found journal (Snapshot id) ≡ Some s → s.version ≡ old.0 → Q (put_at (length journal) event.time bytes (slot_at journal)))
      (gone : Q (record (slot_at journal) { stands = None })) where
    by-op : (op : Op) → event.op ≡ op → is_on (Snapshot id) op ≡ true → was_done event.reply ≡ true → Q (leaves (length journal) event.time op (slot_at journal))
    by-op (Get k) is on done = held
    by-op (PutNew k bytes why) is on done =
        free-cases Q (found journal (Snapshot id)) (put_at (length journal) event.time bytes (slot_at journal)) (slot_at journal) held
        (λ free. let puts : PutsSnap journal id bytes = subst (IsFirstOp journal) (is ∙ ap (λ (x : Key). PutNew x bytes why) (same_key-true k (Snapshot id) on)) (first done) in new bytes (puts.other other free))
    by-op (PutOver k bytes old why) is on done =
        old-cases Q old.0 (found journal (Snapshot id)) (put_at (length journal) event.time bytes (slot_at journal)) (slot_at journal) held
        (λ s e v. over bytes old why s (is ∙ ap (λ (x : Key). PutOver x bytes old why) (same_key-true k (Snapshot id) on)) done e v)
    by-op (Remove k why) is on done = gone
    by-op (RemoveAt k old why) is on done = old-cases Q old.0 (found journal (Snapshot id)) (record (slot_at journal) { stands = None }) (slot_at journal) held (λ s e v. gone)
    by-op (ListPart part) is on done = held

    behind-one : Q (slot_at (journal ++ event ∷ []))
    behind-one = subst Q (sym (slot-append_one journal event (Snapshot id))) (effect-cases Q (Snapshot id) (length journal) (slot_at journal) event held (by-op event.op refl))

  -- ---- it is as it was first put, or cut
  abbrev IsFirstOrCut : Slot → Type 0
  IsFirstOrCut slot = (slot.last ≡ slot.first) ⊎ (parent_in id slot.last ≡ Some initial_id)

  first-is : (bytes : List ℕ) (o : Option (List ℕ)) → o ≡ None → Some bytes ≡ option_or o (Some bytes)
  first-is bytes None e = refl
  first-is bytes (Some b) e = absurd (cc)

  first-or-cut : (journal more : List Event) → Each IsGood journal more → Each IsFirst journal more → IsFirstOrCut (slot_at journal) → IsFirstOrCut (slot_at (journal ++ more))
  unfolding Each
  first-or-cut journal [] good first held = subst (λ (h : List Event). IsFirstOrCut (slot_at h)) (sym (append-nil journal)) held
  first-or-cut journal (x ∷ xs) good first held =
      subst (λ (h : List Event). IsFirstOrCut (slot_at h)) (append_assoc journal (x ∷ []) xs)
      (first-or-cut (journal ++ x ∷ []) xs good.1 first.1
      (behind-one IsFirstOrCut journal x first.0 held
      (λ bytes none. inl (first-is bytes (first_put journal (Snapshot id)) none))
      (λ bytes old why s is done e v. let cut : IsCut journal id old.0 bytes = subst (IsPolite journal) is good.0.polite in inr (ap (option_and_then (λ (f : SnapshotFile). f.parent)) cut.is))
      held))

  -- ---- where it isn't cut, it is as it was first put
  abbrev IsAsFirst : Slot → Type 0
  IsAsFirst slot = slot.last ≡ slot.first

  none-last : (journal : List Event) → first_put journal (Snapshot id) ≡ None → IsAsFirst (slot_at journal)
  none-last journal none = by_last (last_put journal (Snapshot id)) refl
    where
      by_last : (o : Option (List ℕ)) → last_put journal (Snapshot id) ≡ o → IsAsFirst (slot_at journal)
      by_last None e = e ∙ sym none
      by_last (Some b) e = let begun = (sound journal (Snapshot id)).begun b e in let f : None ≡ Some begun.0 = sym none ∙ begun.1 in absurd (cc)

  -- a put over that was done leaves something new
  over-new : (journal : List Event) (event : Event) (bytes : List ℕ) (old : Version) (why : Why) (s : Stored) → CutsNot id journal event → event.op ≡ PutOver (Snapshot id) bytes old why → was_done event.reply ≡ true → found journal (Snapshot id) ≡ Some s → s.version ≡ old.0 → ⊥
  over-new journal event bytes old why s cuts op done stood version =
      let after : Stored = record { bytes = bytes; version = length journal; created = event.time } in
      let now : found (journal ++ event ∷ []) (Snapshot id) ≡ Some after = ap (λ (slot : Slot). slot.stands) (over-done journal event (Snapshot id) bytes old why s op done stood version) in
      let below = (sound journal (Snapshot id)).below after (sym (cuts bytes old why op) ∙ now) in
      omega (arith, below)

  as-first : (journal more : List Event) → Each IsFirst journal more → Each (CutsNot id) journal more → IsAsFirst (slot_at journal) → IsAsFirst (slot_at (journal ++ more))
  unfolding Each
  as-first journal [] first cuts held = subst (λ (h : List Event). IsAsFirst (slot_at h)) (sym (append-nil journal)) held
  as-first journal (x ∷ xs) first cuts held =
      subst (λ (h : List Event). IsAsFirst (slot_at h)) (append_assoc journal (x ∷ []) xs)
      (as-first (journal ++ x ∷ []) xs first.1 cuts.1
      (behind-one IsAsFirst journal x first.0 held
      (λ bytes none. first-is bytes (first_put journal (Snapshot id)) none)
      (λ bytes old why s is done e v. absurd (over-new journal x bytes old why s cuts.0 is done e v))
      held))

  -- ---- what a get read
  -- The bytes were there, and those of the first put.
  record WasThere (client : ℕ) (s : SnapshotFile) (start journal : List Event) (r : WasReadAs client id s start journal) : Type 0 where
    pub last : last_put r.got.own.before (Snapshot id) ≡ Some r.bytes
    pub begun : List ℕ
    pub first : first_put r.got.own.before (Snapshot id) ≡ Some begun

  was-there : (client : ℕ) (s : SnapshotFile) (start journal : List Event) → IsGoodJournal journal → (r : WasReadAs client id s start journal) → WasThere client s start journal r
  was-there client s start journal good r =
      let h = got-found client (Snapshot id) r.bytes r.version start journal good r.got in
      let first = (sound r.got.own.before (Snapshot id)).first h.stored h.stands in
      record { last = (sound r.got.own.before (Snapshot id)).last h.stored h.stands ∙ ap (λ (b : List ℕ). Some b) h.bytes_are; begun = first.0; first = first.1 }

  some-same : (a b : SnapshotFile) → Some a ≡ Some b → a ≡ b
  some-same a b e = cc

  -- where they are the same, it is as it was made
  read-first : (client : ℕ) (s snap : SnapshotFile) (start journal : List Event) → (r : WasReadAs client id s start journal) → (w : WasThere client s start journal r) → IsAsFirst (slot_at r.got.own.before) → snap_made journal id ≡ Some snap → s ≡ snap
  read-first client s snap start journal r w same made =
      let bytes : Some r.bytes ≡ Some w.begun = sym w.last ∙ (same ∙ w.first) in
      let first : first_put journal (Snapshot id) ≡ Some w.begun = subst (λ (h : List Event). first_put h (Snapshot id) ≡ Some w.begun) (sym r.got.own.is) (first-append r.got.own.before (r.got.own.event ∷ r.got.own.after) (Snapshot id) w.begun w.first) in
      some-same s snap (sym r.read ∙ (ap (snap_in id) bytes ∙ (ap (snap_in id) (sym first) ∙ made)))

  -- it has the parent that it had first, or the initial snapshot
  pub read-parent : (client : ℕ) (s snap : SnapshotFile) (start journal : List Event) → IsGoodJournal journal → IsOnce journal → WasReadAs client id s start journal → snap_made journal id ≡ Some snap → (s.parent ≡ snap.parent) ⊎ (s.parent ≡ Some initial_id)
  read-parent client s snap start journal good once r made =
      let goods = Each-back IsGood [] r.got.own.before (r.got.own.event ∷ r.got.own.after) (subst IsGoodJournal r.got.own.is good) in
      let firsts = Each-back IsFirst [] r.got.own.before (r.got.own.event ∷ r.got.own.after) (subst IsOnce r.got.own.is once) in
      let w = was-there client s start journal good r in
      elim (first-or-cut [] r.got.own.before goods.0 firsts.0 (inl (ap (λ (slot : Slot). slot.last) (slot-none (Snapshot id)) ∙ sym (ap (λ (slot : Slot). slot.first) (slot-none (Snapshot id)))))) [
        | inl same ↦ inl (ap (λ (f : SnapshotFile). f.parent) (read-first client s snap start journal r w same made))
        | inr cut ↦ inr (sym (ap (option_and_then (λ (f : SnapshotFile). f.parent)) r.read) ∙ (sym (ap (parent_in id) w.last) ∙ cut))
      ]

  -- where it wasn't put yet in this journal, and wasn't cut since, it is as it was first put
  pub read-uncut : (client : ℕ) (s snap : SnapshotFile) (known since start journal : List Event) → IsGoodJournal journal → IsOnce journal → (r : WasReadAs client id s start journal) → r.got.own.before ≡ known ++ since → first_put known (Snapshot id) ≡ None → Each (CutsNot id) known since → snap_made journal id ≡ Some snap → s ≡ snap
  read-uncut client s snap known since start journal good once r is none cuts made =
      let firsts = Each-back IsFirst [] r.got.own.before (r.got.own.event ∷ r.got.own.after) (subst IsOnce r.got.own.is once) in
      let later = Each-back IsFirst [] known since (subst (λ (h : List Event). Each IsFirst [] h) is firsts.0) in
      read-first client s snap start journal r (was-there client s start journal good r) (subst (λ (h : List Event). IsAsFirst (slot_at h)) (sym is) (as-first known since later.1 cuts (none-last known none))) made

-- ---- the initial snapshot
-- it was first put with its own bytes
abbrev IsInitialFirst : Slot → Type 0
IsInitialFirst slot = (b : List ℕ) → slot.first ≡ Some b → b ≡ initial_bytes

or-initial : (o : Option (List ℕ)) (bytes : List ℕ) → ((b : List ℕ) → o ≡ Some b → b ≡ initial_bytes) → bytes ≡ initial_bytes → (b : List ℕ) → option_or o (Some bytes) ≡ Some b → b ≡ initial_bytes
or-initial None bytes held is b e = let same : bytes ≡ b = cc in sym same ∙ is
or-initial (Some c) bytes held is b e = held b e

module _ (journal : List Event) (event : Event) (first : IsFirst journal event) (held : IsInitialFirst (slot_of journal (Snapshot initial_id))) where
  initial-op : (op : Op) → event.op ≡ op → is_on (Snapshot initial_id) op ≡ true → was_done event.reply ≡ true → IsInitialFirst (leaves (length journal) event.time op (slot_of journal (Snapshot initial_id)))
  initial-op (Get k) is on done = held
  initial-op (PutNew k bytes why) is on done =
      free-cases IsInitialFirst (found journal (Snapshot initial_id)) (put_at (length journal) event.time bytes (slot_of journal (Snapshot initial_id))) (slot_of journal (Snapshot initial_id)) held
      (λ free. let puts : PutsSnap journal initial_id bytes = subst (IsFirstOp journal) (is ∙ ap (λ (x : Key). PutNew x bytes why) (same_key-true k (Snapshot initial_id) on)) (first done) in or-initial (first_put journal (Snapshot initial_id)) bytes held (puts.initial refl))
  initial-op (PutOver k bytes old why) is on done =
      old-cases IsInitialFirst old.0 (found journal (Snapshot initial_id)) (put_at (length journal) event.time bytes (slot_of journal (Snapshot initial_id))) (slot_of journal (Snapshot initial_id)) held
      (λ s e v. let puts : PutsOver journal bytes (Snapshot initial_id) = subst (IsFirstOp journal) (is ∙ ap (λ (x : Key). PutOver x bytes old why) (same_key-true k (Snapshot initial_id) on)) (first done) in or-initial (first_put journal (Snapshot initial_id)) bytes held (puts.0 refl))
  initial-op (Remove k why) is on done = held
  initial-op (RemoveAt k old why) is on done =
      old-cases IsInitialFirst old.0 (found journal (Snapshot initial_id)) (record (slot_of journal (Snapshot initial_id)) { stands = None }) (slot_of journal (Snapshot initial_id)) held (λ s e v. held)
  initial-op (ListPart part) is on done = held

initial-along : (journal more : List Event) → Each IsFirst journal more → IsInitialFirst (slot_of journal (Snapshot initial_id)) → IsInitialFirst (slot_of (journal ++ more) (Snapshot initial_id))
unfolding Each
initial-along journal [] first held = subst (λ (h : List Event). IsInitialFirst (slot_of h (Snapshot initial_id))) (sym (append-nil journal)) held
initial-along journal (x ∷ xs) first held =
    subst (λ (h : List Event). IsInitialFirst (slot_of h (Snapshot initial_id))) (append_assoc journal (x ∷ []) xs)
    (initial-along (journal ++ x ∷ []) xs first.1
    (subst IsInitialFirst (sym (slot-append_one journal x (Snapshot initial_id)))
    (effect-cases IsInitialFirst (Snapshot initial_id) (length journal) (slot_of journal (Snapshot initial_id)) x held (initial-op journal x first.0 held x.op refl))))

-- it names no parent
pub initial-made : InitialLaw → (journal : List Event) (snap : SnapshotFile) → IsOnce journal → snap_made journal initial_id ≡ Some snap → snap.parent ≡ None
initial-made initial journal snap once made = by_first (first_put journal (Snapshot initial_id)) refl
  where
    parent-is : (f : SnapshotFile) → Some f ≡ Some initial_snapshot → f.parent ≡ None
    parent-is f e = let same : f ≡ initial_snapshot = cc in ap (λ (x : SnapshotFile). x.parent) same

    by_first : (o : Option (List ℕ)) → first_put journal (Snapshot initial_id) ≡ o → snap.parent ≡ None
    by_first None e = let none : None ≡ Some snap = sym (ap (snap_in initial_id) e) ∙ made in absurd (cc)
    by_first (Some b) e =
        let is : b ≡ initial_bytes = initial-along [] journal once (λ c f. let no : None ≡ Some c = sym (ap (λ (slot : Slot). slot.first) (slot-none (Snapshot initial_id))) ∙ f in absurd (cc)) b e in
        parent-is snap (sym made ∙ (ap (snap_in initial_id) e ∙ (ap (snapshot_by initial_id) is ∙ initial)))

-- nor does it where it was read
pub initial-read : InitialLaw → (client : ℕ) (s : SnapshotFile) (start journal : List Event) → IsGoodJournal journal → IsOnce journal → WasReadAs client initial_id s start journal → s.parent ≡ None
initial-read initial client s start journal good once r =
    let h = got-found client (Snapshot initial_id) r.bytes r.version start journal good r.got in
    let firsts = Each-back IsFirst [] r.got.own.before (r.got.own.event ∷ r.got.own.after) (subst IsOnce r.got.own.is once) in
    let last : Some r.bytes ≡ Some initial_bytes = sym ((sound r.got.own.before (Snapshot initial_id)).last h.stored h.stands ∙ ap (λ (b : List ℕ). Some b) h.bytes_are) ∙ initial-last r.got.own.before firsts.0 ((sound r.got.own.before (Snapshot initial_id)).first h.stored h.stands) in
    parent-is s (sym r.read ∙ (ap (snap_in initial_id) last ∙ initial))
  where
    parent-is : (f : SnapshotFile) → Some f ≡ Some initial_snapshot → f.parent ≡ None
    parent-is f e = let same : f ≡ initial_snapshot = cc in ap (λ (x : SnapshotFile). x.parent) same
