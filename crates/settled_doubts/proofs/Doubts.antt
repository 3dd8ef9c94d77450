-- The law of settled doubt.
use Rattle.std.proofs.Common.{◌≡◌, ◌≢◌, ◌⊎◌, inl, inr, ℕ, Bool, true, false, List, [], ◌∷◌, ◌++◌, length, refl, sym, ◌∙◌, ap, subst, append_assoc}
use Rattle.std.specs.Prelude.{Option, Some, None}
use Rattle.std.specs.List.{All}
use Rattle.ice_ids.specs.Text.{same_id12}
use Rattle.ice_ids.specs.declared.Id12.{Id12}
use Rattle.ice_ids.proofs.TextLaws.{same_id12-true, same_id12-self}
use Rattle.snapshot_file.specs.declared.snapshot.SnapshotFile.{SnapshotFile}
use Rattle.repo_objects.specs.Laws.{InitialLaw, SnapshotLaw}
use Rattle.repo_objects.specs.Readings.{ref_of}
use Rattle.object_store.specs.declared.keys.Key.{Key}
use Rattle.object_store.specs.declared.keys.Key.TheVariants.{Branch}
use Rattle.object_store.specs.declared.keys.Why.TheVariants.{Commit}
use Rattle.object_store.specs.declared.events.Event.{Event}
use Rattle.object_store.specs.Machine.{Stored, Slot, was_done, version_at}
use Rattle.object_store.proofs.Journals.{Each-append, Each-back, Each-one}
use Rattle.store_api.specs.Journal.{Each, snap_made}
use Rattle.store_api.specs.Telling.{ChangedNothing, ChangedOnce, LeavesBranches}
use Rattle.settle.specs.declared.settle.Doubt.{Doubt}
use Rattle.settle.specs.declared.settle.Settled.{Settled}
use Rattle.settle.specs.declared.settle.Settled.TheVariants.{Committed, NotCommitted, NotAncestor}
use Rattle.settle.specs.Telling.{WasFollowed}
use Rattle.settled_doubts.specs.Doubts.{CommitsAlone, CutsNot, DoubtLaw, NoneCut, TookEffect, WasSettled}
use Rattle.settled_doubts.proofs.Puts.{WasOver, got-found, over-done, over-leaves}
use Rattle.settled_doubts.proofs.Branches.{Names, along, before-is, before-known, each-before, journal-is, known-first, own-took}
use Rattle.settled_doubts.proofs.Ways.{Above, here, over, Any, Apart, LeadsUp, leads-up, not-there, unput-other}

some-same : (x y : Id12) → Some x ≡ Some y → x ≡ y
some-same x y e = cc

same_id12-false : (a b : Id12) → same_id12 a b ≡ false → a ≢ b
same_id12-false a b t same = let here : same_id12 a b ≡ true = subst (λ (id : Id12). same_id12 a id ≡ true) same (same_id12-self a) in cc

module _ (law : SnapshotLaw) (initial : InitialLaw) (client : ℕ) (branch : List ℕ) (d : Doubt) (a : Settled) (known start journal : List Event) (s : WasSettled client branch d a known start journal) where
  abbrev Took : Type 0
  Took = TookEffect client branch d known start s.doubt

  abbrev Follows : (head : Id12) → (to : Option Id12) → Type 0
  Follows head to = WasFollowed client branch d head to start journal

  -- what the branch named at the get is what the settling read
  head-holds : (P : Id12 → Type 0) (head : Id12) (to : Option Id12) → (w : Follows head to) → Names client branch d a known start journal s P w.read.got.own.before → P head
  head-holds P head to w n =
      let h = got-found client (Branch branch) w.read.bytes w.version.0 start journal s.good w.read.got in
      let bytes : n.stored.bytes ≡ w.read.bytes = stored-bytes n.stored h.stored (sym n.stands ∙ h.stands) ∙ h.bytes_are in
      subst P (some-same n.id head (sym n.names ∙ (ap ref_of bytes ∙ w.read.names))) n.holds
    where
      stored-bytes : (x y : Stored) → Some x ≡ Some y → x.bytes ≡ y.bytes
      stored-bytes x y e = let same : x ≡ y = cc in ap (λ (t : Stored). t.bytes) same

  -- ---- where it is met, it took effect
  abbrev TookOr : Id12 → Type 0
  TookOr id = Took ⊎ Above journal (Apart law initial client branch d a known start journal s) d.base id

  took-step : (below new : Id12) (snap : SnapshotFile) → snap_made journal new ≡ Some snap → snap.parent ≡ Some below → (new ≡ d.snapshot → Took) → TookOr below → TookOr new
  took-step below new snap made parent took (inl t) = inl t
  took-step below new snap made parent took (inr up) = by_test (same_id12 new d.snapshot) refl
    where
      by_test : (b : Bool) → same_id12 new d.snapshot ≡ b → TookOr new
      by_test true e = inl (took (same_id12-true new d.snapshot e))
      by_test false e = inr (over snap made parent (same_id12-false new d.snapshot e) up)

  met-took : (head : Id12) → Follows head (Some d.snapshot) → Took
  met-took head w = elim (head-holds TookOr head (Some d.snapshot) w at_get) [
    | inl took ↦ took
    | inr up ↦ absurd (not-there law initial client branch d a known start journal s up w.seen w.chain w.neither)
  ]
    where
      begins : Names client branch d a known start journal s TookOr known
      begins = record { id = d.base; stored = s.doubt.read.stored; stands = s.doubt.read.stands; names = s.doubt.base; holds = inr here }

      at_get : Names client branch d a known start journal s TookOr w.read.got.own.before
      at_get =
          let is = before-known client branch d a known start journal s _ _ w.read.got.own in
          subst (Names client branch d a known start journal s TookOr) (sym is)
          (along client branch d a known start journal s TookOr took-step known _ (w.read.got.own.event ∷ w.read.got.own.after)
          (w.read.got.own.is ∙ ap (λ (h : List Event). h ++ w.read.got.own.event ∷ w.read.got.own.after) is)
          (each-before client branch d a known start journal s _ _ w.read.got.own (CommitsAlone branch d.snapshot (length s.doubt.own.before)) s.commits)
          begins)

  -- ---- where it took effect, it is met
  abbrev AnyOne : Id12 → Type 0
  AnyOne = Any law initial client branch d a known start journal s

  abbrev IsAbove : Id12 → Type 0
  IsAbove id = Above journal AnyOne d.snapshot id

  above-step : (below new : Id12) (snap : SnapshotFile) → snap_made journal new ≡ Some snap → snap.parent ≡ Some below → (new ≡ d.snapshot → Took) → IsAbove below → IsAbove new
  above-step below new snap made parent took up = over snap made parent tt up

  took-above : Took → (head : Id12) (to : Option Id12) → Follows head to → IsAbove head
  took-above took head to w = head-holds IsAbove head to w at_get
    where
      own_put : List Event
      own_put = s.doubt.own.before ++ s.doubt.own.event ∷ []

      begins : Names client branch d a known start journal s IsAbove own_put
      begins = record {
        id = d.snapshot;
        stored = record { bytes = s.doubt.bytes; version = length s.doubt.own.before; created = s.doubt.own.event.time };
        stands = ap (λ (slot : Slot). slot.stands)
            (over-done s.doubt.own.before s.doubt.own.event (Branch branch) s.doubt.bytes (version_at s.doubt.version) Commit took.stood.stored s.doubt.own.op_is (ap was_done s.doubt.own.reply_is ∙ took.done) took.stood.stands took.stood.version_is);
        names = s.doubt.names;
        holds = here;
      }

      at_get : Names client branch d a known start journal s IsAbove w.read.got.own.before
      at_get =
          let is = before-is client branch d a known start journal s _ _ w.read.got.own in
          let commits = each-before client branch d a known start journal s _ _ w.read.got.own (CommitsAlone branch d.snapshot (length s.doubt.own.before)) s.commits in
          subst (Names client branch d a known start journal s IsAbove) (sym is)
          (along client branch d a known start journal s IsAbove above-step _ _ (w.read.got.own.event ∷ w.read.got.own.after)
          (w.read.got.own.is ∙ ap (λ (h : List Event). h ++ w.read.got.own.event ∷ w.read.got.own.after) is)
          (Each-back (CommitsAlone branch d.snapshot (length s.doubt.own.before)) known _ _ commits).1
          (subst (Names client branch d a known start journal s IsAbove) (sym (known-first client branch d a known start journal s)) begins))

  abbrev CutNone : List SnapshotFile → Type 0
  CutNone seen = All (λ (f : SnapshotFile). Each (CutsNot f.id) known s.since) seen

  took-leads : Took → (head : Id12) (to : Option Id12) → (w : Follows head to) → CutNone w.seen → LeadsUp law initial client branch d a known start journal s to
  took-leads took head to w cut = leads-up law initial client branch d a known start journal s (took-above took head to w) w.seen to w.chain w.neither cut

  -- ---- the put over changed nothing
  unless-took : ¬ Took → LeavesBranches client s.doubt.own.before s.doubt.own.event
  unless-took never is name = elim (over-leaves s.doubt.own.before s.doubt.own.event (Branch branch) s.doubt.bytes (version_at s.doubt.version) Commit s.doubt.own.op_is (Branch name)) [
    | inl same ↦ ap (λ (slot : Slot). slot.stands) same
    | inr put ↦
        let w : WasOver s.doubt.own.before s.doubt.own.event (Branch branch) s.doubt.bytes (version_at s.doubt.version) = subst (λ (k : Key). WasOver s.doubt.own.before s.doubt.own.event k s.doubt.bytes (version_at s.doubt.version)) (sym put.0) put.1 in
        absurd (never (own-took client branch d a known start journal s s.doubt.own.before (s.doubt.own.after ++ s.tells.1.more) s.doubt.own.event s.doubt.bytes (version_at s.doubt.version) (journal-is client branch d a known start journal s) refl s.doubt.own.op_is w))
  ]

  changed-nothing : ¬ Took → (from : List Event) → ChangedOnce client from s.doubt.own.before s.doubt.own.event journal → ChangedNothing client from journal
  changed-nothing never from once =
      let rest : List Event = s.doubt.own.event ∷ once.later.more in
      record {
        more = once.earlier.more ++ rest;
        is = once.later.is ∙ (append_assoc s.doubt.own.before (s.doubt.own.event ∷ []) once.later.more ∙ (ap (λ (h : List Event). h ++ rest) once.earlier.is ∙ append_assoc from once.earlier.more rest));
        each = Each-append (LeavesBranches client) from once.earlier.more rest once.earlier.each
            (subst (λ (h : List Event). Each (LeavesBranches client) h rest) once.earlier.is
            (Each-append (LeavesBranches client) s.doubt.own.before (s.doubt.own.event ∷ []) once.later.more (Each-one (LeavesBranches client) s.doubt.own.before s.doubt.own.event (unless-took never)) once.later.each));
      }

-- ---- the law
module _ (law : SnapshotLaw) (initial : InitialLaw) (client : ℕ) (branch : List ℕ) (d : Doubt) where
  told : (a : Settled) (known start journal : List Event) (s : WasSettled client branch d a known start journal) → a ≡ Committed → TookEffect client branch d known start s.doubt
  told Committed known start journal s e = met-took law initial client branch d Committed known start journal s s.tells.0.0 s.tells.0.1
  told NotCommitted known start journal s e = absurd (cc)
  told (NotAncestor head) known start journal s e = absurd (cc)

  done : (a : Settled) (known start journal : List Event) (s : WasSettled client branch d a known start journal) → NoneCut client branch d a known start journal s → TookEffect client branch d known start s.doubt → a ≡ Committed
  done Committed known start journal s cut took = refl
  done NotCommitted known start journal s cut took =
      let up = took-leads law initial client branch d NotCommitted known start journal s took s.tells.0.1 (Some d.base) s.tells.0.2 cut in
      absurd (unput-other law initial client branch d NotCommitted known start journal s up.id up.unput (some-same d.base up.id up.is))
  done (NotAncestor head) known start journal s cut took =
      let up = took-leads law initial client branch d (NotAncestor head) known start journal s took head None s.tells.0 cut in
      let e = up.is in absurd (cc)

pub doubt-law : SnapshotLaw → InitialLaw → DoubtLaw
doubt-law law initial = record {
  told = told law initial;
  done = done law initial;
  nothing = λ client branch d a known start journal s cut other from once. changed-nothing law initial client branch d a known start journal s (λ took. other (done law initial client branch d a known start journal s cut took)) from once;
}
