-- Nothing was ever put under the ids that a run's clients may draw, but what they put themselves.
use Rattle.std.proofs.Common.{◌≡◌, ◌≢◌, ◌⊎◌, inl, inr, ℕ, ◌+◌, ◌<◌, List, [], ◌∷◌, ◌++◌, length, refl, sym, ◌∙◌, ap, subst, arith, append_assoc, append-nil}
use Rattle.std.specs.Prelude.{Option, Some, None, All}
use Rattle.std.proofs.lemmas.Option.{slice_get_within}
use Rattle.std.proofs.lemmas.List.{append_cancel_left}
use Rattle.ice_ids.specs.declared.Id12.{Id12}
use Rattle.ice_ids.specs.declared.drawing.AnyIds.{AnyIds}
use Rattle.ice_ids.specs.declared.drawing.Draw.{Draw}
use Rattle.ice_ids.specs.Drawing.{DrawsOnce}
use Rattle.ice_ids.specs.Text.{initial_id}
use Rattle.object_store.specs.declared.keys.Key.{Key}
use Rattle.object_store.specs.declared.keys.Key.TheVariants.{Snapshot, Manifest, Txn, Chunk, Branch, Tag, Tombstone, Lease}
use Rattle.object_store.specs.declared.keys.Why.{Why}
use Rattle.object_store.specs.declared.events.Op.{Op}
use Rattle.object_store.specs.declared.events.Op.TheVariants.{PutNew}
use Rattle.object_store.specs.declared.events.Event.{Event}
use Rattle.object_store.specs.Machine.{first_put}
use Rattle.object_store.proofs.Journals.{Each-at, Each-back}
use Rattle.store_api.specs.Journal.{Each, WasPut}
use Rattle.session.specs.Sources.{MayDrawObject}
use Rattle.commit_path.specs.Own.{DrawsOnceOf, HasNotPut, OwesOwn, PutsElsewhere, id_of}
use Rattle.commit_path.specs.Owed.{Owes}
use Rattle.play_script.specs.Well.{IsWellTask}
use Rattle.play_script.specs.declared.scripts.Task.{Task}
use Rattle.play_tasks.specs.Solving.{IsOfTask}
use Rattle.play_tasks.specs.Tasks.{ids_at}
use Rattle.run_histories.specs.Sources.{DrawsOthers, IsLeftUnput, IsUnputId, IsUnputRun, ObjectsAreUnput, PutsUnput}
use Rattle.run_histories.proofs.Along.{IsOfOpener, IsOfRun, among-at, well-at}
use Rattle.run_histories.proofs.Carrying.{task-object}
use Rattle.run_histories.proofs.Drawing.{ids_at-of}
use Rattle.run_histories.proofs.Programs.{IsPlain, IsPlainOrCleanup}
use Rattle.run_histories.proofs.Putting.{PutsFresh, put-now}
use Rattle.run_histories.proofs.Sources.{among-later, object-apart, object-not_initial}

-- ---- keys under an id
pub unput-key : (journal : List Event) (id : Id12) → IsUnputId journal id → (key : Key) → id_of key ≡ Some id → first_put journal key ≡ None
unput-key journal id u (Snapshot own) e = let same : id ≡ own = cc in subst (λ (i : Id12). first_put journal (Snapshot i) ≡ None) same u.snapshot
unput-key journal id u (Manifest own) e = let same : id ≡ own = cc in subst (λ (i : Id12). first_put journal (Manifest i) ≡ None) same u.manifest
unput-key journal id u (Txn own) e = let same : id ≡ own = cc in subst (λ (i : Id12). first_put journal (Txn i) ≡ None) same u.log
unput-key journal id u (Chunk own) e = let same : id ≡ own = cc in subst (λ (i : Id12). first_put journal (Chunk i) ≡ None) same u.chunk
unput-key journal id u (Lease own) e = let same : id ≡ own = cc in subst (λ (i : Id12). first_put journal (Lease i) ≡ None) same u.lease
unput-key journal id u (Branch name) e = absurd cc
unput-key journal id u (Tag name) e = absurd cc
unput-key journal id u (Tombstone name) e = absurd cc

pub unput-id : (journal : List Event) (id : Id12) → ((key : Key) → id_of key ≡ Some id → first_put journal key ≡ None) → IsUnputId journal id
unput-id journal id f = record { snapshot = f (Snapshot id) refl; log = f (Txn id) refl; manifest = f (Manifest id) refl; chunk = f (Chunk id) refl; lease = f (Lease id) refl }

-- what wasn't put, and isn't put new now, wasn't put
stays-unput : (journal : List Event) (event : Event) (key : Key) → first_put journal key ≡ None → ((bytes : List ℕ) (why : Why) → event.op ≢ PutNew key bytes why) → first_put (journal ++ event ∷ []) key ≡ None
stays-unput journal event key none other = by_case (first_put (journal ++ event ∷ []) key) refl
  where
    by_put : WasPut journal key ⊎ PutsFresh journal event key → ⊥
    by_put (inl w) = let no = sym none ∙ w.1 in cc
    by_put (inr p) = other p.bytes p.why p.op_is

    by_case : (o : Option (List ℕ)) → first_put (journal ++ event ∷ []) key ≡ o → first_put (journal ++ event ∷ []) key ≡ None
    by_case None e = e
    by_case (Some b) e = absurd (by_put (put-now journal event key (b, e)))

-- what wasn't put by the client in the end wasn't before, nor by the last event
not-put-before : (key : Key) (client : ℕ) (start since : List Event) (event : Event) → HasNotPut key client start ((start ++ since) ++ event ∷ []) → HasNotPut key client start (start ++ since) × PutsElsewhere key client (start ++ since) event
not-put-before key client start since event n =
    let more : n.more ≡ since ++ event ∷ [] = append_cancel_left start n.more (since ++ event ∷ []) (sym n.is ∙ append_assoc start since (event ∷ [])) in
    let each = subst (Each (PutsElsewhere key client) start) more n.each in
    (record { more = since; is = refl; each = (Each-back (PutsElsewhere key client) start since (event ∷ []) each).0 }, Each-at (PutsElsewhere key client) start since event [] each)

-- an object that a plain operation puts is the initial snapshot
plain-initial : (op : Op) → IsPlainOrCleanup op → (key : Key) (bytes : List ℕ) (why : Why) (id : Id12) → op ≡ PutNew key bytes why → id_of key ≡ Some id → id ≡ initial_id
plain-initial op p key bytes why id e is = by_either (subst IsPlainOrCleanup e p)
  where
    by_plain : (k : Key) → id_of k ≡ Some id → IsPlain (PutNew k bytes why) → id ≡ initial_id
    by_plain (Snapshot own) f q = let same : id ≡ own = cc in same ∙ q.0
    by_plain (Manifest own) f q = absurd q
    by_plain (Txn own) f q = absurd q
    by_plain (Chunk own) f q = absurd q
    by_plain (Lease own) f q = absurd q
    by_plain (Branch name) f q = absurd (cc)
    by_plain (Tag name) f q = absurd (cc)
    by_plain (Tombstone name) f q = absurd (cc)

    by_either : IsPlainOrCleanup (PutNew key bytes why) → id ≡ initial_id
    by_either (inl q) = by_plain key is q
    by_either (inr q) = absurd q

module _ (draw : Draw) (tasks : List Task) (draws : DrawsOnce draw (length tasks)) (wells : All IsWellTask tasks) (start : List Event) where
  abbrev OfRun : List Event → Event → Type 0
  OfRun = IsOfRun draw tasks start

  -- the client of a place draws no object id twice
  draws-once : (place : ℕ) → place < length tasks → DrawsOnceOf (ids_at draw place)
  draws-once place within a b id later other d e =
      let among = among-at draw tasks place within in
      (draws.objects a b id (among-later draw (length tasks) (ids_at draw place) a later among) (among-later draw (length tasks) (ids_at draw place) b other among) d e).1

  -- an object that a client puts new is under an id that it may draw
  opener-draws : (journal : List Event) (event : Event) (c : IsOfOpener draw tasks start journal event) (key : Key) (bytes : List ℕ) (why : Why) (id : Id12) → event.op ≡ PutNew key bytes why → id_of key ≡ Some id → MayDrawObject (ids_at draw c.place) id
  opener-draws journal event c key bytes why id e is = by_key key is (subst (Owes (ids_at draw c.place) (IsOfTask (ids_at draw c.place) c.task (c.place + 1) start) journal) e c.careful.owes)
    where
      same-draws : (own : Id12) → own ≡ id → MayDrawObject (ids_at draw c.place) own → MayDrawObject (ids_at draw c.place) id
      same-draws own e m = subst (λ (i : Id12). MayDrawObject (ids_at draw c.place) i) e m

      by_key : (k : Key) → id_of k ≡ Some id → Owes (ids_at draw c.place) (IsOfTask (ids_at draw c.place) c.task (c.place + 1) start) journal (PutNew k bytes why) → MayDrawObject (ids_at draw c.place) id
      by_key (Snapshot own) f o =
          let same : own ≡ id = cc in
          same-draws own same (task-object (ids_at draw c.place) c.task (c.place + 1) start journal o.session own (well-at draw tasks wells c.place c.task c.at) o.is_mine)
      by_key (Manifest own) f o = let same : own ≡ id = cc in same-draws own same o
      by_key (Txn own) f o = let same : own ≡ id = cc in same-draws own same o
      by_key (Chunk own) f o = let same : own ≡ id = cc in same-draws own same o
      by_key (Lease own) f o = let same : own ≡ id = cc in same-draws own same o
      by_key (Branch name) f o = absurd o
      by_key (Tag name) f o = absurd o
      by_key (Tombstone name) f o = absurd o

  -- two clients draw no object id both
  same-place : (place other : ℕ) (id : Id12) → place < length tasks → other < length tasks → MayDrawObject (ids_at draw place) id → MayDrawObject (ids_at draw other) id → place ≡ other
  same-place place other id within there a b =
      let same = object-apart draw (length tasks) draws (ids_at draw place) (ids_at draw other) id (among-at draw tasks place within) (among-at draw tasks other there) a b in
      let x = (ids_at-of draw place).1 in
      let y = (ids_at-of draw other).1 in
      omega (arith, x, y, same)

  abbrev Left : List Event → Type 0
  Left journal = IsLeftUnput draw tasks start journal

  -- an event of the run puts no key under an id that a client may draw, unless it is that client's
  others-put : (journal : List Event) (event : Event) → OfRun journal event → (place : ℕ) → place < length tasks → (key : Key) (id : Id12) → MayDrawObject (ids_at draw place) id → id_of key ≡ Some id → PutsElsewhere key (place + 1) journal event → (bytes : List ℕ) (why : Why) → event.op ≢ PutNew key bytes why
  others-put journal event (inl c) place within key id may is mine bytes why e =
      let there : c.place < length tasks = slice_get_within tasks c.place c.task c.at in
      let same = same-place c.place place id there within (opener-draws journal event c key bytes why id e is) may in
      mine (c.client ∙ ap (λ (k : ℕ). k + 1) same) bytes why e
  others-put journal event (inr p) place within key id may is mine bytes why e =
      object-not_initial draw (length tasks) draws (ids_at draw place) id (among-at draw tasks place within) may (plain-initial event.op p.1 key bytes why id e is)

  left-one : (since : List Event) (event : Event) → OfRun (start ++ since) event → Left (start ++ since) → Left ((start ++ since) ++ event ∷ [])
  left-one since event of_run left place within id may key is n =
      let parts = not-put-before key (place + 1) start since event n in
      stays-unput (start ++ since) event key (left place within id may key is parts.0) (others-put (start ++ since) event of_run place within key id may is parts.1)

  -- what a client puts now was never put
  puts-one : (journal : List Event) (event : Event) → OfRun journal event → Left journal → PutsUnput journal event
  puts-one journal event (inl c) left key bytes why id e is differs =
      let within : c.place < length tasks = slice_get_within tasks c.place c.task c.at in
      let may = opener-draws journal event c key bytes why id e is in
      let none : HasNotPut key (c.place + 1) start journal = subst (λ (op : Op). OwesOwn (ids_at draw c.place) (c.place + 1) start op journal) e c.own (draws-once c.place within) in
      left c.place within id may key is none
  puts-one journal event (inr p) left key bytes why id e is differs = absurd (differs (plain-initial event.op p.1 key bytes why id e is))

  pub left-along : (since events : List Event) → Each OfRun (start ++ since) events → Left (start ++ since) → Each PutsUnput (start ++ since) events × Left ((start ++ since) ++ events)
  unfolding Each
  left-along since [] each left = (tt, subst Left (sym (append-nil (start ++ since))) left)
  left-along since (x ∷ xs) each left =
      let join : (start ++ since) ++ x ∷ [] ≡ start ++ (since ++ x ∷ []) = append_assoc start since (x ∷ []) in
      let next = left-along (since ++ x ∷ []) xs (subst (λ (j : List Event). Each OfRun j xs) join each.1) (subst Left join (left-one since x each.0 left)) in (
        (puts-one (start ++ since) x each.0 left, subst (λ (j : List Event). Each PutsUnput j xs) (sym join) next.0),
        subst Left (ap (λ (j : List Event). j ++ xs) (sym join) ∙ append_assoc (start ++ since) (x ∷ []) xs) next.1,
      )

  -- ---- the opening
  plain-puts : (journal : List Event) (event : Event) → IsPlain event.op → PutsUnput journal event
  plain-puts journal event p key bytes why id e is differs = absurd (differs (plain-initial event.op (inl p) key bytes why id e is))

  pub plain-each : (journal events : List Event) → Each (λ j e. IsPlain e.op) journal events → Each PutsUnput journal events
  unfolding Each
  plain-each journal [] each = tt
  plain-each journal (x ∷ xs) each = (plain-puts journal x each.0, plain-each (journal ++ x ∷ []) xs each.1)

  -- ---- ids of others
  -- no client of the run may draw the id, and it isn't the initial snapshot's
  pub record Avoids (id : Id12) : Type 0 where
    pub others : (place : ℕ) → place < length tasks → ¬ MayDrawObject (ids_at draw place) id
    pub differs : id ≢ initial_id

  avoids-put : (journal : List Event) (event : Event) → OfRun journal event → (key : Key) (id : Id12) → Avoids id → id_of key ≡ Some id → (bytes : List ℕ) (why : Why) → event.op ≢ PutNew key bytes why
  avoids-put journal event (inl c) key id a is bytes why e = a.others c.place (slice_get_within tasks c.place c.task c.at) (opener-draws journal event c key bytes why id e is)
  avoids-put journal event (inr p) key id a is bytes why e = a.differs (plain-initial event.op p.1 key bytes why id e is)

  pub never-along : (id : Id12) (key : Key) → Avoids id → id_of key ≡ Some id → (journal events : List Event) → Each OfRun journal events → first_put journal key ≡ None → first_put (journal ++ events) key ≡ None
  unfolding Each
  never-along id key a is journal [] each none = subst (λ (j : List Event). first_put j key ≡ None) (sym (append-nil journal)) none
  never-along id key a is journal (x ∷ xs) each none =
      subst (λ (j : List Event). first_put j key ≡ None) (append_assoc journal (x ∷ []) xs)
      (never-along id key a is (journal ++ x ∷ []) xs each.1 (stays-unput journal x key none (avoids-put journal x each.0 key id a is)))

  pub others-unput : (ids : AnyIds) → DrawsOthers draw tasks ids → (journal events : List Event) → Each OfRun journal events → ObjectsAreUnput ids journal → ObjectsAreUnput ids (journal ++ events)
  others-unput ids other journal events each unput id may =
      let a : Avoids id = record { others = λ place within own. other.others place within id own may; differs = λ e. other.initial (subst (MayDrawObject ids) e may) } in
      unput-id (journal ++ events) id (λ key is. never-along id key a is journal events each (unput-key journal id (unput id may) key is))

  -- ---- the whole run
  plain-unput : (id : Id12) (key : Key) → id ≢ initial_id → id_of key ≡ Some id → (journal events : List Event) → Each (λ j e. IsPlain e.op) journal events → first_put journal key ≡ None → first_put (journal ++ events) key ≡ None
  unfolding Each
  plain-unput id key d f journal [] each none = subst (λ (j : List Event). first_put j key ≡ None) (sym (append-nil journal)) none
  plain-unput id key d f journal (x ∷ xs) each none =
      subst (λ (j : List Event). first_put j key ≡ None) (append_assoc journal (x ∷ []) xs)
      (plain-unput id key d f (journal ++ x ∷ []) xs each.1 (stays-unput journal x key none (λ bytes why e. d (plain-initial x.op (inl each.0) key bytes why id e f))))

  -- where the opening's events are plain
  pub opened-left : (old opening : List Event) → Each (λ j e. IsPlain e.op) old opening → IsUnputRun draw tasks old → start ≡ old ++ opening → Left start
  opened-left old opening plain unput is place within id may key key_is none =
      let differs : id ≢ initial_id = object-not_initial draw (length tasks) draws (ids_at draw place) id (among-at draw tasks place within) may in
      subst (λ (j : List Event). first_put j key ≡ None) (sym is) (plain-unput id key differs key_is old opening plain (unput-key old id (unput place within id may) key key_is))

  -- behind the opening
  pub run-left : (events : List Event) → Each OfRun start events → Left start → Each PutsUnput start events × Left (start ++ events)
  run-left events each left =
      let nil : start ≡ start ++ [] = sym (append-nil start) in
      let both = left-along [] events (subst (λ (j : List Event). Each OfRun j events) nil each) (subst Left nil left) in
      (subst (λ (j : List Event). Each PutsUnput j events) (sym nil) both.0, subst (λ (j : List Event). Left (j ++ events)) (sym nil) both.1)
