-- A client of a run commits at most once.
use Rattle.std.proofs.Common.{◌≡◌, ◌⊎◌, inl, inr, ℕ, ◌<◌, Bool, true, cond, List, [], ◌∷◌, ◌++◌, length, refl, sym, ◌∙◌, ap, subst, arith, append_assoc, eq-eqb}
use Rattle.std.specs.Prelude.{Option, Some, ◌==◌}
use Rattle.std.proofs.lemmas.Bool.{cases_order}
use Rattle.std.proofs.lemmas.List.{append_cancel_left}
use Rattle.object_store.specs.declared.keys.Key.TheVariants.{Branch}
use Rattle.object_store.specs.declared.keys.Why.TheVariants.{Commit}
use Rattle.object_store.specs.declared.events.Version.{Version}
use Rattle.object_store.specs.declared.events.Op.{Op}
use Rattle.object_store.specs.declared.events.Op.TheVariants.{PutOver}
use Rattle.object_store.specs.declared.events.Event.{Event}
use Rattle.object_store.specs.Machine.{Stored, Slot, effect, found, is_on, leaves, put_at, slot_of, was_done, where_old}
use Rattle.object_store.proofs.Journals.{Each-at}
use Rattle.object_store.proofs.Slots.{same_key-refl, slot-append_one, sound}
use Rattle.store_api.specs.Journal.{Each}
use Rattle.store_api.specs.Telling.{ChangedNothing, LeavesBranches}
use Rattle.run_histories.specs.Told.{HasCommitted}

-- where the event puts a branch over for a commit, its client had changed no branch since the tasks began
abbrev pub CommitsFirst : (start journal : List Event) → Event → Type 0
CommitsFirst start journal event = (branch bytes : List ℕ) (old : Version) → event.op ≡ PutOver (Branch branch) bytes old Commit → ChangedNothing event.client start journal

-- ---- two places in one list
-- the part before the second event begins with the part before the first one, and that event
split-before : (xs us ys vs : List Event) (x u : Event) → xs ++ x ∷ ys ≡ us ++ u ∷ vs → length xs < length us → (mid : List Event) × (us ≡ xs ++ x ∷ mid)
split-before [] [] ys vs x u e less = absurd (omega (arith, less))
split-before [] (w ∷ us) ys vs x u e less = let head : w ≡ x = cc in (us, ap (λ (y : Event). y ∷ us) head)
split-before (z ∷ xs) [] ys vs x u e less = absurd (omega (arith, less))
split-before (z ∷ xs) (w ∷ us) ys vs x u e less =
    let head : w ≡ z = cc in
    let rest = split-before xs us ys vs x u (tail e) (omega (arith, less)) in
    (rest.0, ap (λ (y : Event). y ∷ us) head ∙ ap (λ (l : List Event). z ∷ l) rest.1)
  where
    tail : z ∷ (xs ++ x ∷ ys) ≡ w ∷ (us ++ u ∷ vs) → xs ++ x ∷ ys ≡ us ++ u ∷ vs
    tail h = cc

same-place : (xs us ys vs : List Event) (x u : Event) → xs ++ x ∷ ys ≡ us ++ u ∷ vs → length xs ≡ length us → (xs ≡ us) × (x ≡ u)
same-place [] [] ys vs x u e same = (refl, cc)
same-place [] (w ∷ us) ys vs x u e same = absurd (omega (arith, same))
same-place (z ∷ xs) [] ys vs x u e same = absurd (omega (arith, same))
same-place (z ∷ xs) (w ∷ us) ys vs x u e same =
    let head : z ≡ w = cc in
    let rest = same-place xs us ys vs x u (tail e) (omega (arith, same)) in
    (ap (λ (y : Event). y ∷ xs) head ∙ ap (λ (l : List Event). w ∷ l) rest.0, rest.1)
  where
    tail : z ∷ (xs ++ x ∷ ys) ≡ w ∷ (us ++ u ∷ vs) → xs ++ x ∷ ys ≡ us ++ u ∷ vs
    tail h = cc

-- ---- a commit that took effect changes its branch
put-over : (n time : ℕ) (bytes : List ℕ) (old : ℕ) (slot : Slot) (s : Stored) → slot.stands ≡ Some s → s.version ≡ old → (where_old old slot.stands (put_at n time bytes slot) slot).stands ≡ Some (record { bytes = bytes; version = n; created = time })
put-over n time bytes old slot s stands same =
    let test : (s.version == old) ≡ true = eq-eqb s.version old same in
    ap (λ (o : Option Stored). (where_old old o (put_at n time bytes slot) slot).stands) stands ∙ ap (λ (b : Bool). (cond b (put_at n time bytes slot) slot).stands) test

module _ (client : ℕ) (start journal : List Event) (c : HasCommitted client start journal) where
  abbrev before : List Event
  before = c.own.before

  abbrev event : Event
  event = c.own.event

  abbrev slot : Slot
  slot = slot_of before (Branch c.branch)

  stands-new : found (before ++ event ∷ []) (Branch c.branch) ≡ Some (record { bytes = c.bytes; version = length before; created = event.time })
  unfolding effect
  stands-new =
      let on : is_on (Branch c.branch) event.op ≡ true = ap (is_on (Branch c.branch)) c.own.op_is ∙ same_key-refl (Branch c.branch) in
      let done : was_done event.reply ≡ true = ap was_done c.own.reply_is ∙ c.done in
      ap (λ (s : Slot). s.stands) (slot-append_one before event (Branch c.branch))
      ∙ ap (λ (b : Bool). (cond b (cond (was_done event.reply) (leaves (length before) event.time event.op slot) slot) slot).stands) on
      ∙ ap (λ (b : Bool). (cond b (leaves (length before) event.time event.op slot) slot).stands) done
      ∙ ap (λ (op : Op). (leaves (length before) event.time op slot).stands) c.own.op_is
      ∙ put-over (length before) event.time c.bytes c.old.0 slot c.stored c.stood c.version_is

  -- so the client changed a branch by it
  changes : ¬ LeavesBranches client before event
  changes leaves =
      let same : c.stored.version ≡ length before = version_same (sym c.stood ∙ sym (leaves c.own.client_is c.branch) ∙ stands-new) in
      let below = (sound before (Branch c.branch)).below c.stored c.stood in
      omega (arith, same, below)
    where
      version_same : Some c.stored ≡ Some (record { bytes = c.bytes; version = length before; created = event.time }) → c.stored.version ≡ length before
      version_same e = cc

  -- and no commit of the client's comes behind it
  later : (start since after : List Event) (other : Event) → before ++ event ∷ c.own.after ≡ since ++ other ∷ after → length before < length since → ChangedNothing client start before → ¬ ChangedNothing client start since
  later start since after other is less early nothing =
      let mid = split-before before since c.own.after after event other is less in
      let more : nothing.more ≡ early.more ++ event ∷ mid.0 =
      append_cancel_left start nothing.more (early.more ++ event ∷ mid.0) (sym nothing.is ∙ mid.1 ∙ ap (λ (h : List Event). h ++ event ∷ mid.0) early.is ∙ append_assoc start early.more (event ∷ mid.0)) in
      let each = subst (Each (LeavesBranches client) start) more nothing.each in
      changes (subst (λ (h : List Event). LeavesBranches client h event) (sym early.is) (Each-at (LeavesBranches client) start early.more event mid.0 each))

-- where each commit comes before its client changed a branch, no client has two
module _ (start old added : List Event) (each : Each (CommitsFirst start) old added) (client : ℕ) where
  abbrev Commits : Type 0
  Commits = HasCommitted client old (old ++ added)

  early : (c : Commits) → ChangedNothing client start c.own.before
  early c =
      let parts : added ≡ c.own.since ++ c.own.event ∷ c.own.after =
      append_cancel_left old added (c.own.since ++ c.own.event ∷ c.own.after) (c.own.is ∙ ap (λ (h : List Event). h ++ c.own.event ∷ c.own.after) c.own.before_is ∙ append_assoc old c.own.since (c.own.event ∷ c.own.after)) in
      let first = Each-at (CommitsFirst start) old c.own.since c.own.event c.own.after (subst (Each (CommitsFirst start) old) parts each) in
      subst (λ (n : ℕ). ChangedNothing n start c.own.before) c.own.client_is (subst (λ (h : List Event). ChangedNothing c.own.event.client start h) (sym c.own.before_is) (first c.branch c.bytes c.old c.own.op_is))

  pub commits-once : (a b : Commits) → (a.own.before ≡ b.own.before) × (a.own.event ≡ b.own.event)
  commits-once a b = by_order (cases_order (length a.own.before) (length b.own.before))
    where
      places : a.own.before ++ a.own.event ∷ a.own.after ≡ b.own.before ++ b.own.event ∷ b.own.after
      places = sym a.own.is ∙ b.own.is

      by_order : (length a.own.before ≡ length b.own.before) ⊎ ((length a.own.before < length b.own.before) ⊎ (length b.own.before < length a.own.before)) → (a.own.before ≡ b.own.before) × (a.own.event ≡ b.own.event)
      by_order (inl same) = same-place a.own.before b.own.before a.own.after b.own.after a.own.event b.own.event places same
      by_order (inr (inl less)) = absurd (later client old (old ++ added) a start b.own.before b.own.after b.own.event places less (early a) (early b))
      by_order (inr (inr less)) = absurd (later client old (old ++ added) b start a.own.before a.own.after a.own.event (sym places) less (early b) (early a))
