-- What a client's own events tell of the journal, whatever others do.
use Rattle.std.proofs.Common.{◌≡◌, ◌≢◌, inl, inr, ℕ, ◌+◌, ◌<◌, Bool, true, false, cond, List, [], ◌∷◌, ◌++◌, length, take, drop, refl, sym, ◌∙◌, ap, subst, arith, append_assoc, append-nil, take-append-drop, eq-eqb, eqb-true}
use Rattle.std.proofs.lemmas.Bool.{cases_order}
use Rattle.std.proofs.lemmas.List.{length-append}
use Rattle.std.specs.Prelude.{Option, Some, None, ◌==◌}
use Rattle.ice_ids.specs.declared.Id12.{Id12}
use Rattle.repo_objects.specs.declared.bad_objects.Bad.{Bad}
use Rattle.object_store.specs.declared.keys.Key.{Key}
use Rattle.object_store.specs.declared.keys.Key.TheVariants.{Snapshot, Manifest, Txn, Chunk, Branch}
use Rattle.object_store.specs.declared.keys.Why.{Why}
use Rattle.object_store.specs.declared.events.Version.{Version}
use Rattle.object_store.specs.declared.events.Op.{Op}
use Rattle.object_store.specs.declared.events.Op.TheVariants.{Get, PutNew, PutOver}
use Rattle.object_store.specs.declared.events.New.TheVariants.{Present}
use Rattle.object_store.specs.declared.events.Over.{Over}
use Rattle.object_store.specs.declared.events.Over.TheVariants.{Done as Over_done, Moved}
use Rattle.object_store.specs.declared.events.Reply.{Reply}
use Rattle.object_store.specs.declared.events.Got.TheVariants.{Found, Absent}
use Rattle.object_store.specs.declared.events.Reply.TheVariants.{Got as Is_got, New as Is_new, Over as Is_over, Failed}
use Rattle.object_store.specs.declared.events.Event.{Event}
use Rattle.object_store.specs.Machine.{Stored, Slot, slot_of, found, effect, version_at, got_of, new_of, over_of, put_at}
use Rattle.store_api.specs.Journal.{Each, StoodAt}
use Rattle.store_api.specs.Callers.{Caller, IsOther, Waits, Makes, own_event}
use Rattle.object_store.proofs.Journals.{Each-append, Each-weaker, Each-one, Each-none}
use Rattle.object_store.proofs.Slots.{same_key-true, effect-cases, old-cases, slot-append_one, sound, found-old, found-stood}
use Rattle.store_api.specs.Telling.{ChangedNothing, ChangedOnce, HasMovedOn, HasOwn, LeavesBranches, RefWasBad, SnapshotWasBad, StandsAt, WasAbsent, WasFailed, WasGot, WasRemoved}

-- ---- what others do changes nothing of it
pub ChangedNothing-none : (client : ℕ) (start : List Event) → ChangedNothing client start start
ChangedNothing-none client start = record { more = []; is = sym (append-nil start); each = Each-none (LeavesBranches client) start }

pub ChangedNothing-others : (by : Caller) (start journal more : List Event) → Each (IsOther by) journal more → ChangedNothing by.number start journal → ChangedNothing by.number start (journal ++ more)
ChangedNothing-others by start journal more others c = record {
  more = c.more ++ more;
  is = ap (λ (h : List Event). h ++ more) c.is ∙ append_assoc start c.more more;
  each = Each-append (LeavesBranches by.number) start c.more more c.each
      (subst (λ (h : List Event). Each (LeavesBranches by.number) h more) c.is
      (Each-weaker (IsOther by) (LeavesBranches by.number) (λ h e o k. absurd (o.other k)) journal more others));
}

pub ChangedNothing-waits : (by : Caller) (start old new : List Event) → Waits by old new → ChangedNothing by.number start old → ChangedNothing by.number start new
ChangedNothing-waits by start old new w c = subst (λ (h : List Event). ChangedNothing by.number start h) (sym w.is) (ChangedNothing-others by start old w.between w.others c)

-- a client's own event
abbrev pub own-made : (by : Caller) (start : List Event) (op : Op) (reply : Reply) (old new : List Event) → Makes by op reply old new → ChangedNothing by.number start old → HasOwn by.number op reply start new
own-made by start op reply old new m c = record {
  before = m.middle;
  since = (ChangedNothing-waits by start old m.middle m.waits c).more;
  before_is = (ChangedNothing-waits by start old m.middle m.waits c).is;
  event = own_event by op reply m.time;
  after = [];
  is = m.is;
  client_is = refl;
  op_is = refl;
  reply_is = refl;
}

abbrev pub HasOwn-append : (client : ℕ) (op : Op) (reply : Reply) (start journal more : List Event) → HasOwn client op reply start journal → HasOwn client op reply start (journal ++ more)
HasOwn-append client op reply start journal more h = record {
  before = h.before;
  since = h.since;
  before_is = h.before_is;
  event = h.event;
  after = h.after ++ more;
  is = ap (λ (x : List Event). x ++ more) h.is ∙ append_assoc h.before (h.event ∷ h.after) more;
  client_is = h.client_is;
  op_is = h.op_is;
  reply_is = h.reply_is;
}

-- it stays so when the client goes on
pub HasOwn-makes : (by : Caller) (start : List Event) (op mine : Op) (reply answer : Reply) (old new : List Event) → Makes by op reply old new → HasOwn by.number mine answer start old → HasOwn by.number mine answer start new
HasOwn-makes by start op mine reply answer old new m h =
    let event : Event = own_event by op reply m.time in
    let is : new ≡ old ++ (m.waits.between ++ event ∷ []) = m.is ∙ (ap (λ (j : List Event). j ++ event ∷ []) m.waits.is ∙ append_assoc old m.waits.between (event ∷ [])) in
    subst (λ (j : List Event). HasOwn by.number mine answer start j) (sym is) (HasOwn-append by.number mine answer start old (m.waits.between ++ event ∷ []) h)

-- an own event that leaves the branches
pub ChangedNothing-makes : (by : Caller) (start : List Event) (op : Op) (reply : Reply) (old new : List Event) → (m : Makes by op reply old new) → ((branch : List ℕ) → found (m.middle ++ own_event by op reply m.time ∷ []) (Branch branch) ≡ found m.middle (Branch branch)) → ChangedNothing by.number start old → ChangedNothing by.number start new
ChangedNothing-makes by start op reply old new m leaves c =
    let w = ChangedNothing-waits by start old m.middle m.waits c in
    let event : Event = own_event by op reply m.time in
    record {
      more = w.more ++ event ∷ [];
      is = m.is ∙ (ap (λ (h : List Event). h ++ event ∷ []) w.is ∙ append_assoc start w.more (event ∷ []));
      each = Each-append (LeavesBranches by.number) start w.more (event ∷ []) w.each
          (subst (λ (h : List Event). Each (LeavesBranches by.number) h (event ∷ [])) w.is
          (Each-one (LeavesBranches by.number) m.middle event (λ k. leaves)));
    }

-- ---- which own events leave the branches
-- what stands at a branch is as it was
abbrev Same : List Event → List ℕ → Slot → Type 0
Same journal branch slot = slot.stands ≡ found journal (Branch branch)

leaves-by : (journal : List Event) (event : Event) (branch : List ℕ) → Same journal branch (effect (Branch branch) (length journal) (slot_of journal (Branch branch)) event) → found (journal ++ event ∷ []) (Branch branch) ≡ found journal (Branch branch)
leaves-by journal event branch e = ap (λ (s : Slot). s.stands) (slot-append_one journal event (Branch branch)) ∙ e

pub get-leaves : (by : Caller) (key : Key) (reply : Reply) (time : ℕ) (journal : List Event) (branch : List ℕ) → found (journal ++ own_event by (Get key) reply time ∷ []) (Branch branch) ≡ found journal (Branch branch)
get-leaves by key reply time journal branch =
    leaves-by journal (own_event by (Get key) reply time) branch
    (effect-cases (Same journal branch) (Branch branch) (length journal) (slot_of journal (Branch branch)) (own_event by (Get key) reply time) refl (λ k d. refl))

pub log-leaves : (by : Caller) (id : Id12) (bytes : List ℕ) (why : Why) (reply : Reply) (time : ℕ) (journal : List Event) (branch : List ℕ) → found (journal ++ own_event by (PutNew (Txn id) bytes why) reply time ∷ []) (Branch branch) ≡ found journal (Branch branch)
log-leaves by id bytes why reply time journal branch =
    leaves-by journal (own_event by (PutNew (Txn id) bytes why) reply time) branch
    (effect-cases (Same journal branch) (Branch branch) (length journal) (slot_of journal (Branch branch)) (own_event by (PutNew (Txn id) bytes why) reply time) refl (λ k d. absurd (cc)))

pub snapshot-leaves : (by : Caller) (id : Id12) (bytes : List ℕ) (why : Why) (reply : Reply) (time : ℕ) (journal : List Event) (branch : List ℕ) → found (journal ++ own_event by (PutNew (Snapshot id) bytes why) reply time ∷ []) (Branch branch) ≡ found journal (Branch branch)
snapshot-leaves by id bytes why reply time journal branch =
    leaves-by journal (own_event by (PutNew (Snapshot id) bytes why) reply time) branch
    (effect-cases (Same journal branch) (Branch branch) (length journal) (slot_of journal (Branch branch)) (own_event by (PutNew (Snapshot id) bytes why) reply time) refl (λ k d. absurd (cc)))

pub manifest-leaves : (by : Caller) (id : Id12) (bytes : List ℕ) (why : Why) (reply : Reply) (time : ℕ) (journal : List Event) (branch : List ℕ) → found (journal ++ own_event by (PutNew (Manifest id) bytes why) reply time ∷ []) (Branch branch) ≡ found journal (Branch branch)
manifest-leaves by id bytes why reply time journal branch =
    leaves-by journal (own_event by (PutNew (Manifest id) bytes why) reply time) branch
    (effect-cases (Same journal branch) (Branch branch) (length journal) (slot_of journal (Branch branch)) (own_event by (PutNew (Manifest id) bytes why) reply time) refl (λ k d. absurd (cc)))

pub chunk-leaves : (by : Caller) (id : Id12) (bytes : List ℕ) (why : Why) (reply : Reply) (time : ℕ) (journal : List Event) (branch : List ℕ) → found (journal ++ own_event by (PutNew (Chunk id) bytes why) reply time ∷ []) (Branch branch) ≡ found journal (Branch branch)
chunk-leaves by id bytes why reply time journal branch =
    leaves-by journal (own_event by (PutNew (Chunk id) bytes why) reply time) branch
    (effect-cases (Same journal branch) (Branch branch) (length journal) (slot_of journal (Branch branch)) (own_event by (PutNew (Chunk id) bytes why) reply time) refl (λ k d. absurd (cc)))

-- ---- what a put over was answered
pub over-same : (g h : Over) → Is_over g ≡ Is_over h → g ≡ h
over-same g h e = cc

-- a put over that was done: it stands at its position, over the version that stood
pub record WasDone (n old : ℕ) (at : Option Stored) (version : Version) : Type 0 where
  pub stored : Stored
  pub stands : at ≡ Some stored
  pub old_is : stored.version ≡ old
  pub position : version ≡ version_at n

pub over-done : (n time old : ℕ) (at : Option Stored) (version : Version) (now : ℕ) → Over_done version now ≡ over_of n time old at → WasDone n old at version
over-done n time old None version now e = absurd (cc)
over-done n time old (Some s) version now e = decide (s.version == old) refl e
  where
    decide : (b : Bool) → (s.version == old) ≡ b → Over_done version now ≡ cond b (Over_done (version_at n) time) (Moved (Some (version_at s.version)) time) → WasDone n old (Some s) version
    decide true h d = record { stored = s; stands = refl; old_is = eqb-true s.version old h; position = cc }
    decide false h d = absurd (cc)

-- a put over that found another version, or nothing
abbrev pub Differs : ℕ → Option Stored → Option Version → Type 0
Differs old at None = at ≡ None
Differs old at (Some v) = (s : Stored) × (at ≡ Some s) × (v ≡ version_at s.version) × (s.version ≢ old)

pub over-moved : (n time old : ℕ) (at : Option Stored) (there : Option Version) (now : ℕ) → Moved there now ≡ over_of n time old at → Differs old at there
over-moved n time old None None now e = refl
over-moved n time old None (Some v) now e = absurd (cc)
over-moved n time old (Some s) there now e = decide (s.version == old) refl there e
  where
    decide : (b : Bool) → (s.version == old) ≡ b → (t : Option Version) → Moved t now ≡ cond b (Over_done (version_at n) time) (Moved (Some (version_at s.version)) time) → Differs old (Some s) t
    decide true h t d = absurd (cc)
    decide false h None d = absurd (cc)
    decide false h (Some v) d = (s, refl, cc, λ same. let y = eq-eqb s.version old same in cc)

-- ... leaves each branch
pub moved-leaves : (by : Caller) (name bytes : List ℕ) (old : Version) (why : Why) (there : Option Version) (now time : ℕ) (journal : List Event) → Differs old.0 (found journal (Branch name)) there → (branch : List ℕ) → found (journal ++ own_event by (PutOver (Branch name) bytes old why) (Is_over (Moved there now)) time ∷ []) (Branch branch) ≡ found journal (Branch branch)
moved-leaves by name bytes old why there now time journal differs branch =
    leaves-by journal event branch (effect-cases (Same journal branch) (Branch branch) (length journal) (slot_of journal (Branch branch)) event refl (λ k d.
    old-cases (Same journal branch) old.0 (found journal (Branch branch)) (put_at (length journal) time bytes (slot_of journal (Branch branch))) (slot_of journal (Branch branch)) refl (λ s e v.
    absurd (never there differs s (subst (λ (key : Key). found journal key ≡ Some s) (sym (same_key-true (Branch name) (Branch branch) k)) e) v))))
  where
    event : Event
    event = own_event by (PutOver (Branch name) bytes old why) (Is_over (Moved there now)) time

    never : (t : Option Version) → Differs old.0 (found journal (Branch name)) t → (s : Stored) → found journal (Branch name) ≡ Some s → s.version ≡ old.0 → ⊥
    never None d s e v = cc
    never (Some w) d s e v = let same : d.0 ≡ s = cc in d.3 (ap (λ (x : Stored). x.version) same ∙ v)

-- ---- what stands
pub stands-at : (journal : List Event) (key : Key) (s : Stored) → found journal key ≡ Some s → StandsAt journal key s.version
stands-at journal key s e = record { stored = s; stands = e; version_is = refl; put = found-stood journal key s e }

pub stands-as : (journal : List Event) (key : Key) (s : Stored) (version : ℕ) → found journal key ≡ Some s → s.version ≡ version → StandsAt journal key version
stands-as journal key s version e v = subst (λ (n : ℕ). StandsAt journal key n) v (stands-at journal key s e)

-- where a key stood at a version and stands with another one, that is a later one
later : (journal : List Event) (key : Key) (old : ℕ) (bytes : List ℕ) (s : Stored) → StoodAt journal key old bytes → found journal key ≡ Some s → s.version ≢ old → old < s.version
later journal key old bytes s stood e differs = elim (cases_order old s.version) [
  | inl same ↦ absurd (differs (sym same))
  | inr o ↦ elim o [
    | inl less ↦ less
    | inr more ↦ absurd (differs (ap version_in (sym (old_is more) ∙ stood.stood)))
  ]
]
  where
    version_in : Option Stored → ℕ
    version_in None = 0
    version_in (Some x) = x.version

    old_is : s.version < old → found (take (old + 1) journal) key ≡ Some s
    old_is more =
        let below = (sound (take (old + 1) journal) key).below _ stood.stood in
        found-old (take (old + 1) journal) (drop (old + 1) journal) key s (subst (λ (h : List Event). found h key ≡ Some s) (sym (take-append-drop (old + 1) journal)) e) (omega (arith, below, more))

-- where a key stood and nothing stands there any more, an event removed it
record RemovedIn (before more : List Event) (key : Key) : Type 0 where
  pub middle : List Event
  pub event : Event
  pub after : List Event
  pub is : more ≡ middle ++ event ∷ after
  pub there : Stored
  pub stood : found (before ++ middle) key ≡ Some there
  pub gone : found ((before ++ middle) ++ event ∷ []) key ≡ None

removed-in : (before more : List Event) (key : Key) (s : Stored) → found before key ≡ Some s → found (before ++ more) key ≡ None → RemovedIn before more key
removed-in before [] key s e n = let same : found (before ++ []) key ≡ Some s = ap (λ (h : List Event). found h key) (append-nil before) ∙ e in cc
removed-in before (x ∷ xs) key s e n = by_next (found (before ++ x ∷ []) key) refl (λ next g. removed-in (before ++ x ∷ []) xs key next g (ap (λ (h : List Event). found h key) (append_assoc before (x ∷ []) xs) ∙ n))
  where
    by_next : (o : Option Stored) → found (before ++ x ∷ []) key ≡ o → ((next : Stored) → found (before ++ x ∷ []) key ≡ Some next → RemovedIn (before ++ x ∷ []) xs key) → RemovedIn before (x ∷ xs) key
    by_next None g later = record {
      middle = [];
      event = x;
      after = xs;
      is = refl;
      there = s;
      stood = ap (λ (h : List Event). found h key) (append-nil before) ∙ e;
      gone = ap (λ (h : List Event). found (h ++ x ∷ []) key) (append-nil before) ∙ g;
    }
    by_next (Some next) g later =
        let r = later next g in
        let here : (before ++ x ∷ []) ++ r.middle ≡ before ++ x ∷ r.middle = append_assoc before (x ∷ []) r.middle in
        record {
          middle = x ∷ r.middle;
          event = r.event;
          after = r.after;
          is = ap (λ (h : List Event). x ∷ h) r.is;
          there = r.there;
          stood = subst (λ (h : List Event). found h key ≡ Some r.there) here r.stood;
          gone = subst (λ (h : List Event). found (h ++ r.event ∷ []) key ≡ None) here r.gone;
        }

was-removed : (journal : List Event) (branch : List ℕ) (old : ℕ) (bytes : List ℕ) → StoodAt journal (Branch branch) old bytes → found journal (Branch branch) ≡ None → WasRemoved journal branch old
was-removed journal branch old bytes stood none =
    let front : List Event = take (old + 1) journal in
    let split : front ++ drop (old + 1) journal ≡ journal = take-append-drop (old + 1) journal in
    let r = removed-in front (drop (old + 1) journal) (Branch branch) _ stood.stood (subst (λ (h : List Event). found h (Branch branch) ≡ None) (sym split) none) in
    let below = (sound front (Branch branch)).below _ stood.stood in
    record {
      before = front ++ r.middle;
      event = r.event;
      after = r.after;
      is = sym split ∙ ap (λ (h : List Event). front ++ h) r.is ∙ sym (append_assoc front r.middle (r.event ∷ r.after));
      later = omega (arith, below, length-append front r.middle);
      there = r.there;
      stood = r.stood;
      gone = r.gone;
    }

pub moved-later : (journal : List Event) (branch : List ℕ) (old : ℕ) (bytes : List ℕ) (there : Option Version) → StoodAt journal (Branch branch) old bytes → Differs old (found journal (Branch branch)) there → HasMovedOn journal branch old there
moved-later journal branch old bytes None stood d = (d, was-removed journal branch old bytes stood d)
moved-later journal branch old bytes (Some v) stood d =
    let number : d.0.version ≡ v.0 = ap (λ (x : Version). x.0) (sym d.2) in
    (subst (λ (n : ℕ). old < n) number (later journal (Branch branch) old bytes d.0 stood d.1 d.3), stands-as journal (Branch branch) d.0 v.0 d.1 number)

-- ---- what a put of a new object was answered
pub record WasThere (at : Option Stored) (version : Version) : Type 0 where
  pub stored : Stored
  pub stands : at ≡ Some stored
  pub version_is : stored.version ≡ version.0

pub new-present : (n time : ℕ) (at : Option Stored) (version : Version) (now : ℕ) → Is_new (Present version now) ≡ Is_new (new_of n time at) → WasThere at version
new-present n time None version now e = absurd (cc)
new-present n time (Some s) version now e = let v : version_at s.version ≡ version = cc in record { stored = s; stands = refl; version_is = ap (λ (x : Version). x.0) v }

-- the one own event so far that may have changed a branch is the last one
pub changed-once : (by : Caller) (start : List Event) (op : Op) (reply : Reply) (old new : List Event) → (n : Makes by op reply old new) → ChangedNothing by.number start old → ChangedOnce by.number start n.middle (own_event by op reply n.time) new
changed-once by start op reply old new n c = record {
  earlier = ChangedNothing-waits by start old n.middle n.waits c;
  later = subst (λ (h : List Event). ChangedNothing by.number h new) n.is (ChangedNothing-none by.number new);
}

pub failed-made : (by : Caller) (kind : Op → Type 0) (start : List Event) (op : Op) (done : Bool) (old new : List Event) → kind op → Makes by op (Failed done) old new → ChangedNothing by.number start old → WasFailed by.number kind start new
failed-made by kind start op done old new k n c = record { op = op; of_kind = k; done = done; own = own-made by start op (Failed done) old new n c; once = changed-once by start op (Failed done) old new n c }

-- ---- gets
got-absent : (at : Option Stored) (now time : ℕ) → Is_got (Absent now) ≡ Is_got (got_of time at) → at ≡ None
got-absent None now time e = refl
got-absent (Some s) now time e = absurd (cc)

module _ (by : Caller) (start : List Event) where
  pub got-nothing : (key : Key) (reply : Reply) (old new : List Event) → Makes by (Get key) reply old new → ChangedNothing by.number start old → ChangedNothing by.number start new
  got-nothing key reply old new m c = ChangedNothing-makes by start (Get key) reply old new m (get-leaves by key reply m.time m.middle) c

  pub got-made : (key : Key) (bytes : List ℕ) (version : Version) (now : ℕ) (old new : List Event) → Makes by (Get key) (Is_got (Found bytes version now)) old new → ChangedNothing by.number start old → WasGot by.number key bytes version.0 start new
  got-made key bytes version now old new m c = record { now = now; own = own-made by start (Get key) (Is_got (Found bytes version now)) old new m c }

  pub absent-made : (key : Key) (now : ℕ) (old new : List Event) → Makes by (Get key) (Is_got (Absent now)) old new → ChangedNothing by.number start old → WasAbsent by.number key start new
  absent-made key now old new m c = record { now = now; own = own-made by start (Get key) (Is_got (Absent now)) old new m c; nothing = got-absent (found m.middle key) now m.time m.answered.answered }

-- ---- what stays so, whatever comes
pub WasGot-append : (client : ℕ) (key : Key) (bytes : List ℕ) (version : ℕ) (start journal more : List Event) → WasGot client key bytes version start journal → WasGot client key bytes version start (journal ++ more)
WasGot-append client key bytes version start journal more g = record { now = g.now; own = HasOwn-append client (Get key) (Is_got (Found bytes (version_at version) g.now)) start journal more g.own }

pub WasAbsent-append : (client : ℕ) (key : Key) (start journal more : List Event) → WasAbsent client key start journal → WasAbsent client key start (journal ++ more)
WasAbsent-append client key start journal more g = record { now = g.now; own = HasOwn-append client (Get key) (Is_got (Absent g.now)) start journal more g.own; nothing = g.nothing }

pub RefWasBad-append : (client : ℕ) (ref key : Key) (bad : Bad) (start journal more : List Event) → RefWasBad client ref key bad start journal → RefWasBad client ref key bad start (journal ++ more)
RefWasBad-append client ref key bad start journal more w = record { key_is = w.key_is; bytes = w.bytes; version = w.version; got = WasGot-append client ref w.bytes w.version start journal more w.got; unread = w.unread }

pub SnapshotWasBad-append : (client : ℕ) (id : Id12) (key : Key) (bad : Bad) (start journal more : List Event) → SnapshotWasBad client id key bad start journal → SnapshotWasBad client id key bad start (journal ++ more)
SnapshotWasBad-append client id key bad start journal more w = record { key_is = w.key_is; bytes = w.bytes; version = w.version; got = WasGot-append client (Snapshot id) w.bytes w.version start journal more w.got; unread = w.unread }
