-- What holds of all that was put, in a legal polite journal that puts nothing again.
use Rattle.std.proofs.Common.{◌≡◌, ◌⊎◌, inl, inr, ℕ, ◌≤◌, List, [], ◌∷◌, ◌++◌, length, refl, sym, ◌∙◌, ap, subst, arith, append_assoc, append-nil}
use Rattle.std.specs.Prelude.{Option, Some, None, option_map, Contains}
use Rattle.std.specs.Option.{option_and_then, option_or}
use Rattle.ice_ids.specs.declared.Id12.{Id12}
use Rattle.ice_ids.specs.Text.{initial_id}
use Rattle.snapshot_file.specs.declared.snapshot.SnapshotFile.{SnapshotFile}
use Rattle.snapshot_file.specs.declared.nodes.NodeRow.{NodeRow}
use Rattle.snapshot_file.specs.Initial.{initial_snapshot}
use Rattle.repo_objects.specs.Readings.{snapshot_by}
use Rattle.repo_objects.specs.Laws.{InitialLaw}
use Rattle.object_store.specs.declared.keys.Key.{Key}
use Rattle.object_store.specs.declared.keys.Key.TheVariants.{Snapshot, Manifest, Txn, Chunk, Branch, Tag, Tombstone, Lease}
use Rattle.object_store.specs.declared.events.Event.{Event}
use Rattle.object_store.specs.Machine.{Stored, Slot, slot_of, put_at, first_put, last_put, first_time, time_after, last_time}
use Rattle.object_store.proofs.Slots.{slot-none, sound, first-append, WasPut-append}
use Rattle.object_store.proofs.Journals.{Each-append, Each-one, Each-none}
use Rattle.store_api.specs.Journal.{Each, IsCut, IsFirst, IsGood, IsOnce, ParentPut, MayPutNew, WasPut, rows_of, snap_in}
use Rattle.store_api.proofs.Once.{initial-last}
use Rattle.reach.specs.Chains.{StaysOrCut, parent_at}
use Rattle.reach.specs.Holding.{Holds, HoldsManifest}
use Rattle.reach.proofs.Parents.{parent_in, parent-stays}
use Rattle.reach.proofs.Holding.{holds-fore, holds-back}
use Rattle.history_laws.proofs.Down.{Down, stop, bottom, next, down-map}
use Rattle.history_laws.proofs.Steps.{IsNewPut, step-one, new-polite, over-polite}

pub look : {A : Type 0} (o : Option A) → (o ≡ None) ⊎ ((a : A) × (o ≡ Some a))
look None = inl refl
look (Some a) = inr (a, refl)

-- ---- the times of first puts
time-after-one : (time : ℕ) (journal : List Event) (event : Event) → time_after time (journal ++ event ∷ []) ≡ event.time
time-after-one time [] event = refl
time-after-one time (x ∷ xs) event = time-after-one x.time xs event

pub last_time-one : (journal : List Event) (event : Event) → last_time (journal ++ event ∷ []) ≡ event.time
last_time-one journal event = time-after-one 0 journal event

-- what was put has a time, of its first put, and no earlier one of what stands
pub record Timed (last : ℕ) (slot : Slot) : Type 0 where
  pub times : (t : ℕ) → slot.born ≡ Some t → t ≤ last
  pub born : (b : List ℕ) → slot.first ≡ Some b → (t : ℕ) × (slot.born ≡ Some t)
  pub put : (t : ℕ) → slot.born ≡ Some t → (b : List ℕ) × (slot.first ≡ Some b)
  pub created : (s : Stored) → slot.stands ≡ Some s → (t : ℕ) × (slot.born ≡ Some t) × (t ≤ s.created)

module _ (last time : ℕ) (later : last ≤ time) (slot : Slot) (h : Timed last slot) where
  timed-same : Timed time slot
  timed-same = record { times = λ t e. let a = h.times t e in omega (arith, a, later); born = h.born; put = h.put; created = h.created }

  timed-gone : Timed time (record slot { stands = None })
  timed-gone = record { times = timed-same.times; born = h.born; put = h.put; created = λ s e. cc }

  timed-put : (n : ℕ) (bytes : List ℕ) → Timed time (put_at n time bytes slot)
  timed-put n bytes = elim (look slot.born) [
    | inl none ↦ record {
      times = λ t e. let same : Some time ≡ Some t = sym (ap (λ (o : Option ℕ). option_or o (Some time)) none) ∙ e in let is : time ≡ t = cc in omega (arith, is);
      born = λ b e. (time, ap (λ (o : Option ℕ). option_or o (Some time)) none);
      put = λ t e. or-some slot.first;
      created = λ s e. (time, ap (λ (o : Option ℕ). option_or o (Some time)) none, let is : time ≡ s.created = cc in omega (arith, is));
    }
    | inr old ↦
        let stays : option_or slot.born (Some time) ≡ Some old.0 = ap (λ (o : Option ℕ). option_or o (Some time)) old.1 in
        record {
          times = λ t e. let same : Some old.0 ≡ Some t = sym stays ∙ e in let is : old.0 ≡ t = cc in let a = h.times old.0 old.1 in omega (arith, a, is, later);
          born = λ b e. (old.0, stays);
          put = λ t e. or-some slot.first;
          created = λ s e. (old.0, stays, let is : time ≡ s.created = cc in let a = h.times old.0 old.1 in omega (arith, a, is, later));
        }
  ]
    where
      or-some : (o : Option (List ℕ)) → (b : List ℕ) × (option_or o (Some bytes) ≡ Some b)
      or-some None = (bytes, refl)
      or-some (Some b) = (b, refl)

-- ---- along a journal
pub timed-one : (journal : List Event) (event : Event) (key : Key) → IsGood journal event → Timed (last_time journal) (slot_of journal key) → Timed event.time (slot_of (journal ++ event ∷ []) key)
timed-one journal event key good h = elim (step-one journal event key) [
  | inl same ↦ subst (Timed event.time) (sym same) (timed-same (last_time journal) event.time good.legal.later (slot_of journal key) h)
  | inr put ↦ elim put [
    | inl new ↦ subst (Timed event.time) (sym new.slot_is) (timed-put (last_time journal) event.time good.legal.later (slot_of journal key) h (length journal) new.bytes)
    | inr over ↦ elim over [
      | inl moved ↦ subst (Timed event.time) (sym moved.slot_is) (timed-put (last_time journal) event.time good.legal.later (slot_of journal key) h (length journal) moved.bytes)
      | inr gone ↦ subst (Timed event.time) (sym gone.slot_is) (timed-gone (last_time journal) event.time good.legal.later (slot_of journal key) h)
    ]
  ]
]

-- a time of a first put stays
pub born-one : (journal : List Event) (event : Event) (key : Key) (t : ℕ) → first_time journal key ≡ Some t → first_time (journal ++ event ∷ []) key ≡ Some t
born-one journal event key t e = elim (step-one journal event key) [
  | inl same ↦ ap (λ (s : Slot). s.born) same ∙ e
  | inr put ↦ elim put [
    | inl new ↦ ap (λ (s : Slot). s.born) new.slot_is ∙ ap (λ (o : Option ℕ). option_or o (Some event.time)) e
    | inr over ↦ elim over [
      | inl moved ↦ ap (λ (s : Slot). s.born) moved.slot_is ∙ ap (λ (o : Option ℕ). option_or o (Some event.time)) e
      | inr gone ↦ ap (λ (s : Slot). s.born) gone.slot_is ∙ e
    ]
  ]
]

-- ---- the initial snapshot
-- the initial one, or one that was put
abbrev pub Known : List Event → Id12 → Type 0
Known journal id = (id ≡ initial_id) ⊎ WasPut journal (Snapshot id)

pub known-append : (journal more : List Event) (id : Id12) → Known journal id → Known (journal ++ more) id
known-append journal more id (inl e) = inl e
known-append journal more id (inr w) = inr (WasPut-append journal more (Snapshot id) w)

-- it is the snapshot, or it holds it
abbrev pub Has : List Event → Id12 → Key → Type 0
Has journal id key = (key ≡ Snapshot id) ⊎ Holds journal id key

abbrev pub Ends : List Event → Id12 → Type 0
Ends journal id = Down (parent_at journal) (Known journal) (λ (x : Id12). x ≡ initial_id) id

-- ---- the past
pub record Past (journal : List Event) : Type 0 where
  pub timed : (key : Key) → Timed (last_time journal) (slot_of journal key)
  pub logs : (id : Id12) (t : ℕ) → first_time journal (Snapshot id) ≡ Some t → (id ≡ initial_id) ⊎ ((s : ℕ) × (first_time journal (Txn id) ≡ Some s) × (s ≤ t))
  pub parents : (id below : Id12) → parent_at journal id ≡ Some below → Known journal below
  pub ends : (id : Id12) → Known journal id → Ends journal id
  pub made : (id : Id12) → WasPut journal (Snapshot id) → StaysOrCut (parent_in id (first_put journal (Snapshot id))) (parent_at journal id)

-- what is cut stays so
pub cut-once : (a b c : Option Id12) → StaysOrCut a b → StaysOrCut b c → StaysOrCut a c
cut-once a b c (inl e) (inl f) = inl (f ∙ e)
cut-once a b c (inl e) (inr f) = inr f
cut-once a b c (inr e) (inl f) = inr (f ∙ e)
cut-once a b c (inr e) (inr f) = inr f

-- a snapshot that has rows was put
pub put-by-rows : (journal : List Event) (id : Id12) (rows : List NodeRow) → rows_of journal id ≡ Some rows → WasPut journal (Snapshot id)
put-by-rows journal id rows e = elim (look (last_put journal (Snapshot id))) [
  | inl none ↦ (let same : None ≡ Some rows = sym (ap (λ (o : Option (List ℕ)). option_map (λ (s : SnapshotFile). s.nodes) (snap_in id o)) none) ∙ e in cc)
  | inr put ↦ (sound journal (Snapshot id)).begun put.0 put.1
]

named-parent : (journal : List Event) (below : Id12) (o : Option SnapshotFile) → ParentPut journal o → option_and_then (λ (s : SnapshotFile). s.parent) o ≡ Some below → WasPut journal (Snapshot below)
named-parent journal below None puts e = cc
named-parent journal below (Some s) puts e = puts below e

module _ (initial : InitialLaw) where
  -- it has no parent, and names no manifest
  initial-read : (journal : List Event) → IsOnce journal → (snap_in initial_id (last_put journal (Snapshot initial_id)) ≡ None) ⊎ (snap_in initial_id (last_put journal (Snapshot initial_id)) ≡ Some initial_snapshot)
  initial-read journal once = elim (look (last_put journal (Snapshot initial_id))) [
    | inl none ↦ inl (ap (snap_in initial_id) none)
    | inr put ↦
        let w : WasPut journal (Snapshot initial_id) = (sound journal (Snapshot initial_id)).begun put.0 put.1 in
        inr (ap (snap_in initial_id) (initial-last journal once w) ∙ initial)
  ]

  pub initial-parent : (journal : List Event) → IsOnce journal → parent_at journal initial_id ≡ None
  initial-parent journal once = elim (initial-read journal once) [
    | inl e ↦ ap (option_and_then (λ (s : SnapshotFile). s.parent)) e
    | inr e ↦ ap (option_and_then (λ (s : SnapshotFile). s.parent)) e
  ]

  pub initial-names : (journal : List Event) (manifest : Id12) → IsOnce journal → HoldsManifest journal initial_id manifest → ⊥
  initial-names journal manifest once h = elim (initial-read journal once) [
    | inl e ↦ (let same : None ≡ Some h.rows = sym (ap (option_map (λ (s : SnapshotFile). s.nodes)) e) ∙ h.are in cc)
    | inr e ↦
        let same : Some initial_snapshot.nodes ≡ Some h.rows = sym (ap (option_map (λ (s : SnapshotFile). s.nodes)) e) ∙ h.are in
        let is : initial_snapshot.nodes ≡ h.rows = cc in
        let named : Contains initial_snapshot.nodes h.names.row = subst (λ (rows : List NodeRow). Contains rows h.names.row) (sym is) h.names.among in
        absurd (omega (arith, named.1))
  ]

  -- ---- one more event
  module _ (journal : List Event) (event : Event) (once : IsOnce journal) (good : IsGood journal event) (first : IsFirst journal event) where
    abbrev after : List Event
    after = journal ++ event ∷ []

    once-after : IsOnce (journal ++ event ∷ [])
    once-after = Each-append IsFirst [] journal (event ∷ []) once (Each-one IsFirst journal event first)

    pub parent-one : (id : Id12) → Known journal id → StaysOrCut (parent_at journal id) (parent_at (journal ++ event ∷ []) id)
    parent-one id (inl e) = subst (λ (x : Id12). StaysOrCut (parent_at journal x) (parent_at (journal ++ event ∷ []) x)) (sym e) (inl (initial-parent (journal ++ event ∷ []) once-after ∙ sym (initial-parent journal once)))
    parent-one id (inr w) = parent-stays id journal (event ∷ []) once w (Each-one IsGood journal event good) (Each-one IsFirst journal event first)

    initial-holds : (key : Key) → Holds (journal ++ event ∷ []) initial_id key → Holds journal initial_id key
    initial-holds (Txn log) h = h
    initial-holds (Manifest manifest) h = absurd (initial-names (journal ++ event ∷ []) manifest once-after h)
    initial-holds (Chunk object) h = absurd (initial-names (journal ++ event ∷ []) h.manifest once-after h.held)
    initial-holds (Snapshot other) h = h
    initial-holds (Branch name) h = h
    initial-holds (Tag name) h = h
    initial-holds (Tombstone name) h = h
    initial-holds (Lease lease) h = h

    -- what a snapshot holds stays
    pub holds-back-one : (id : Id12) (key : Key) → Known journal id → Holds (journal ++ event ∷ []) id key → Holds journal id key
    holds-back-one id key (inl e) h = subst (λ (x : Id12). Holds journal x key) (sym e) (initial-holds key (subst (λ (x : Id12). Holds (journal ++ event ∷ []) x key) e h))
    holds-back-one id key (inr w) h = holds-back journal (event ∷ []) (Each-one IsGood journal event good) once-after id w key h

    pub holds-fore-one : (id : Id12) (key : Key) → Holds journal id key → Holds (journal ++ event ∷ []) id key
    holds-fore-one id (Txn log) h = h
    holds-fore-one id (Manifest manifest) h = holds-fore journal (event ∷ []) (Each-one IsGood journal event good) once-after id (put-by-rows journal id h.rows h.are) (Manifest manifest) h
    holds-fore-one id (Chunk object) h = holds-fore journal (event ∷ []) (Each-one IsGood journal event good) once-after id (put-by-rows journal id h.held.rows h.held.are) (Chunk object) h
    holds-fore-one id (Snapshot other) h = h
    holds-fore-one id (Branch name) h = h
    holds-fore-one id (Tag name) h = h
    holds-fore-one id (Tombstone name) h = h
    holds-fore-one id (Lease lease) h = h

    -- a snapshot that was put now, for the first time
    new-snapshot : (id : Id12) → first_put journal (Snapshot id) ≡ None → WasPut (journal ++ event ∷ []) (Snapshot id) → IsNewPut journal event (Snapshot id) (slot_of (journal ++ event ∷ []) (Snapshot id))
    new-snapshot id none w = elim (step-one journal event (Snapshot id)) [
      | inl same ↦ (let e : None ≡ Some w.0 = sym none ∙ (sym (ap (λ (s : Slot). s.first) same) ∙ w.1) in cc)
      | inr put ↦ elim put [
        | inl new ↦ new
        | inr over ↦ elim over [
          | inl moved ↦ let was = (sound journal (Snapshot id)).first moved.before moved.there in let e = was.1 in cc
          | inr gone ↦ (let e : None ≡ Some w.0 = sym none ∙ (sym (ap (λ (s : Slot). s.first) gone.slot_is) ∙ w.1) in cc)
        ]
      ]
    ]

    module _ (past : Past journal) where
      timed-after : (key : Key) → Timed (last_time (journal ++ event ∷ [])) (slot_of (journal ++ event ∷ []) key)
      timed-after key = subst (λ (t : ℕ). Timed t (slot_of (journal ++ event ∷ []) key)) (sym (last_time-one journal event)) (timed-one journal event key good (past.timed key))

      parents-after : (id below : Id12) → parent_at (journal ++ event ∷ []) id ≡ Some below → Known (journal ++ event ∷ []) below
      parents-after id below e = elim (step-one journal event (Snapshot id)) [
        | inl same ↦ known-append journal (event ∷ []) below (past.parents id below (sym (ap (λ (s : Slot). parent_in id s.last) same) ∙ e))
        | inr put ↦ elim put [
          | inl new ↦
              let polite : MayPutNew journal new.bytes new.why (Snapshot id) = new-polite journal event (Snapshot id) (slot_of (journal ++ event ∷ []) (Snapshot id)) good new in
              inr (WasPut-append journal (event ∷ []) (Snapshot below) (named-parent journal below (snapshot_by id new.bytes) polite.1 (sym (ap (λ (s : Slot). parent_in id s.last) new.slot_is) ∙ e)))
          | inr over ↦ elim over [
            | inl moved ↦
                let cut : IsCut journal id moved.old.0 moved.bytes = over-polite journal event (Snapshot id) (slot_of (journal ++ event ∷ []) (Snapshot id)) good moved in
                let same : Some initial_id ≡ Some below = sym (ap (option_and_then (λ (s : SnapshotFile). s.parent)) cut.is) ∙ (sym (ap (λ (s : Slot). parent_in id s.last) moved.slot_is) ∙ e) in
                inl (let is : initial_id ≡ below = cc in sym is)
            | inr gone ↦ known-append journal (event ∷ []) below (past.parents id below (sym (ap (λ (s : Slot). parent_in id s.last) gone.slot_is) ∙ e))
          ]
        ]
      ]

      ends-on : (id : Id12) → Ends journal id → Ends (journal ++ event ∷ []) id
      ends-on id d = down-map (parent_at journal) (parent_at (journal ++ event ∷ [])) (Known journal) (λ (x : Id12). x ≡ initial_id) (Known (journal ++ event ∷ [])) (λ (x : Id12). x ≡ initial_id) (known-append journal (event ∷ [])) (λ x e. e) parent-one refl d

      ends-after : (id : Id12) → Known (journal ++ event ∷ []) id → Ends (journal ++ event ∷ []) id
      ends-after id (inl e) = stop e
      ends-after id (inr w) = elim (look (first_put journal (Snapshot id))) [
        | inr was ↦ ends-on id (past.ends id (inr was))
        | inl none ↦
            let new = new-snapshot id none w in
            let polite : MayPutNew journal new.bytes new.why (Snapshot id) = new-polite journal event (Snapshot id) (slot_of (journal ++ event ∷ []) (Snapshot id)) good new in
            let is : parent_at (journal ++ event ∷ []) id ≡ parent_in id (Some new.bytes) = ap (λ (s : Slot). parent_in id s.last) new.slot_is in
            elim (look (parent_in id (Some new.bytes))) [
              | inl last_one ↦ bottom (inr w) (is ∙ last_one)
              | inr below ↦ next (inr w) (is ∙ below.1) (ends-on below.0 (past.ends below.0 (inr (named-parent journal below.0 (snapshot_by id new.bytes) polite.1 below.1))))
            ]
      ]

      logs-after : (id : Id12) (t : ℕ) → first_time (journal ++ event ∷ []) (Snapshot id) ≡ Some t → (id ≡ initial_id) ⊎ ((s : ℕ) × (first_time (journal ++ event ∷ []) (Txn id) ≡ Some s) × (s ≤ t))
      logs-after id t e = elim (look (first_time journal (Snapshot id))) [
        | inr was ↦
            let same : Some was.0 ≡ Some t = sym (born-one journal event (Snapshot id) was.0 was.1) ∙ e in
            let is : was.0 ≡ t = cc in
            elim (past.logs id was.0 was.1) [
              | inl i ↦ inl i
              | inr log ↦ inr (log.0, born-one journal event (Txn id) log.0 log.1, let a = log.2 in omega (arith, a, is))
            ]
        | inl none ↦
            let w = (timed-after (Snapshot id)).put t e in
            let never : first_put journal (Snapshot id) ≡ None = elim (look (first_put journal (Snapshot id))) [
              | inl n ↦ n
              | inr was ↦ (let b = (past.timed (Snapshot id)).born was.0 was.1 in let f = b.1 in cc)
            ] in
            let new = new-snapshot id never w in
            let polite : MayPutNew journal new.bytes new.why (Snapshot id) = new-polite journal event (Snapshot id) (slot_of (journal ++ event ∷ []) (Snapshot id)) good new in
            let time : Some event.time ≡ Some t = sym (ap (λ (o : Option ℕ). option_or o (Some event.time)) none) ∙ (sym (ap (λ (s : Slot). s.born) new.slot_is) ∙ e) in
            let is : event.time ≡ t = cc in
            elim polite.0 [
              | inl i ↦ inl i
              | inr log ↦
                  let b = (past.timed (Txn id)).born log.0 log.1 in
                  inr (b.0, born-one journal event (Txn id) b.0 b.1, let a = (past.timed (Txn id)).times b.0 b.1 in let l = good.legal.later in omega (arith, a, l, is))
            ]
      ]

      made-after : (id : Id12) → WasPut (journal ++ event ∷ []) (Snapshot id) → StaysOrCut (parent_in id (first_put (journal ++ event ∷ []) (Snapshot id))) (parent_at (journal ++ event ∷ []) id)
      made-after id w = elim (look (first_put journal (Snapshot id))) [
        | inr was ↦
            let first_is : first_put (journal ++ event ∷ []) (Snapshot id) ≡ first_put journal (Snapshot id) = first-append journal (event ∷ []) (Snapshot id) was.0 was.1 ∙ sym was.1 in
            subst (λ (o : Option (List ℕ)). StaysOrCut (parent_in id o) (parent_at (journal ++ event ∷ []) id)) (sym first_is)
            (cut-once (parent_in id (first_put journal (Snapshot id))) (parent_at journal id) (parent_at (journal ++ event ∷ []) id) (past.made id was) (parent-one id (inr was)))
        | inl none ↦
            let new = new-snapshot id none w in
            let last_is : parent_at (journal ++ event ∷ []) id ≡ parent_in id (Some new.bytes) = ap (λ (s : Slot). parent_in id s.last) new.slot_is in
            let first_is : first_put (journal ++ event ∷ []) (Snapshot id) ≡ Some new.bytes = ap (λ (s : Slot). s.first) new.slot_is ∙ ap (λ (o : Option (List ℕ)). option_or o (Some new.bytes)) none in
            inl (last_is ∙ ap (parent_in id) (sym first_is))
      ]

      pub past-one : Past (journal ++ event ∷ [])
      past-one = record { timed = timed-after; logs = logs-after; parents = parents-after; ends = ends-after; made = made-after }

  pub past-along : (journal more : List Event) → IsOnce journal → Past journal → Each IsGood journal more → Each IsFirst journal more → Past (journal ++ more)
  unfolding Each
  past-along journal [] once past good first = subst Past (sym (append-nil journal)) past
  past-along journal (x ∷ xs) once past good first =
      subst Past (append_assoc journal (x ∷ []) xs)
      (past-along (journal ++ x ∷ []) xs (Each-append IsFirst [] journal (x ∷ []) once (Each-one IsFirst journal x first.0)) (past-one journal x once good.0 first.0 past) good.1 first.1)

  past-none : Past []
  past-none = record {
    timed = λ key. subst (Timed 0) (sym (slot-none key)) (record { times = λ t e. cc; born = λ b e. cc; put = λ t e. cc; created = λ s e. cc });
    logs = λ id t e. (let f : None ≡ Some t = sym (ap (λ (s : Slot). s.born) (slot-none (Snapshot id))) ∙ e in cc);
    parents = λ id below e. (let f : None ≡ Some below = sym (ap (λ (s : Slot). parent_in id s.last) (slot-none (Snapshot id))) ∙ e in cc);
    made = λ id w. (let f : None ≡ Some w.0 = sym (ap (λ (s : Slot). s.first) (slot-none (Snapshot id))) ∙ w.1 in cc);
    ends = λ id known. bottom known (ap (λ (s : Slot). parent_in id s.last) (slot-none (Snapshot id)));
  }

  pub past-of : (journal : List Event) → Each IsGood [] journal → IsOnce journal → Past journal
  past-of journal good once = past-along [] journal (Each-none IsFirst []) past-none good once
