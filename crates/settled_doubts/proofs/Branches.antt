-- How the branch moves since it was read.
use Rattle.std.proofs.Common.{◌≡◌, inl, inr, ℕ, List, [], ◌∷◌, ◌++◌, length, sym, ◌∙◌, ap, subst, append_assoc, append-nil}
use Rattle.std.specs.Prelude.{Some}
use Rattle.ice_ids.specs.declared.Id12.{Id12}
use Rattle.snapshot_file.specs.declared.snapshot.SnapshotFile.{SnapshotFile}
use Rattle.repo_objects.specs.Readings.{ref_of}
use Rattle.object_store.specs.declared.keys.Key.TheVariants.{Branch}
use Rattle.object_store.specs.declared.keys.Why.TheVariants.{Commit}
use Rattle.object_store.specs.declared.events.Version.{Version}
use Rattle.object_store.specs.declared.events.Op.{Op}
use Rattle.object_store.specs.declared.events.Op.TheVariants.{PutOver}
use Rattle.object_store.specs.declared.events.Reply.{Reply}
use Rattle.object_store.specs.declared.events.Event.{Event}
use Rattle.object_store.specs.Machine.{Stored, Slot, found, was_done, version_at}
use Rattle.object_store.proofs.Journals.{Each-at, Each-back}
use Rattle.object_store.proofs.Slots.{stood-is}
use Rattle.store_api.specs.Journal.{Each, IsCommitOver, IsFirst, IsGood, IsGoodJournal, IsMoved, IsOnce, IsPolite, StoodAt, snap_made}
use Rattle.store_api.specs.Telling.{HasOwn, StandsAt}
use Rattle.store_api.proofs.Happening.{stands-as}
use Rattle.store_api.proofs.Standing.{snap_made-append}
use Rattle.settle.specs.declared.settle.Doubt.{Doubt}
use Rattle.settle.specs.declared.settle.Settled.{Settled}
use Rattle.settled_doubts.specs.Doubts.{CommitsAlone, TookEffect, WasSettled}
use Rattle.settled_doubts.proofs.Puts.{WasOver, over-leaves, same-rest, same-seam}

module _ (client : ℕ) (branch : List ℕ) (d : Doubt) (a : Settled) (known start journal : List Event) (s : WasSettled client branch d a known start journal) where
  abbrev Took : Type 0
  Took = TookEffect client branch d known start s.doubt

  abbrev at : ℕ
  at = length s.doubt.own.before

  -- ---- the parts of the journal
  -- up to the put over that is in doubt, and behind it up to an own event of the settling
  abbrev first_part : List Event
  first_part = s.doubt.own.since ++ s.doubt.own.event ∷ []

  abbrev last_part : (op : Op) (reply : Reply) → HasOwn client op reply start journal → List Event
  last_part op reply o = s.doubt.own.after ++ o.since

  pub known-first : known ++ first_part ≡ s.doubt.own.before ++ s.doubt.own.event ∷ []
  known-first = sym (append_assoc known s.doubt.own.since (s.doubt.own.event ∷ [])) ∙ ap (λ (h : List Event). h ++ s.doubt.own.event ∷ []) (sym s.doubt.own.before_is)

  pub journal-is : journal ≡ s.doubt.own.before ++ s.doubt.own.event ∷ (s.doubt.own.after ++ s.tells.1.more)
  journal-is = s.tells.1.is ∙ (ap (λ (h : List Event). h ++ s.tells.1.more) s.doubt.own.is ∙ append_assoc s.doubt.own.before (s.doubt.own.event ∷ s.doubt.own.after) s.tells.1.more)

  module _ (op : Op) (reply : Reply) (o : HasOwn client op reply start journal) where
    pub before-is : o.before ≡ (known ++ first_part) ++ last_part op reply o
    before-is =
        o.before_is
        ∙ (ap (λ (h : List Event). h ++ o.since) s.doubt.own.is
        ∙ (append_assoc s.doubt.own.before (s.doubt.own.event ∷ s.doubt.own.after) o.since
        ∙ (sym (append_assoc s.doubt.own.before (s.doubt.own.event ∷ []) (last_part op reply o))
        ∙ ap (λ (h : List Event). h ++ last_part op reply o) (sym known-first))))

    pub before-known : o.before ≡ known ++ (first_part ++ last_part op reply o)
    before-known = before-is ∙ append_assoc known first_part (last_part op reply o)

    -- what holds of each event since holds of these
    pub each-before : (P : List Event → Event → Type 0) → Each P known s.since → Each P known (first_part ++ last_part op reply o)
    each-before P each =
        let whole : known ++ s.since ≡ known ++ ((first_part ++ last_part op reply o) ++ o.event ∷ o.after) = sym s.is ∙ (o.is ∙ (ap (λ (h : List Event). h ++ o.event ∷ o.after) before-known ∙ append_assoc known (first_part ++ last_part op reply o) (o.event ∷ o.after))) in
        (Each-back P known (first_part ++ last_part op reply o) (o.event ∷ o.after) (subst (λ (h : List Event). Each P known h) (same-rest known s.since ((first_part ++ last_part op reply o) ++ o.event ∷ o.after) whole) each)).0

  -- ---- the put over that is in doubt
  events-same : (x y : Event) (xs ys : List Event) → x ∷ xs ≡ y ∷ ys → x ≡ y
  events-same x y xs ys e = cc

  old-is : (bytes b : List ℕ) (old v : Version) → PutOver (Branch branch) bytes old Commit ≡ PutOver (Branch branch) b v Commit → old ≡ v
  old-is bytes b old v e = cc

  -- one at that position that was done is this one, and took effect
  pub own-took : (h rest : List Event) (x : Event) (bytes : List ℕ) (old : Version) → journal ≡ h ++ x ∷ rest → length h ≡ at → x.op ≡ PutOver (Branch branch) bytes old Commit → WasOver h x (Branch branch) bytes old → Took
  own-took h rest x bytes old is here op w =
      let seam = same-seam h s.doubt.own.before (x ∷ rest) (s.doubt.own.event ∷ (s.doubt.own.after ++ s.tells.1.more)) (sym is ∙ journal-is) here in
      let same : x ≡ s.doubt.own.event = events-same x s.doubt.own.event rest (s.doubt.own.after ++ s.tells.1.more) seam.1 in
      let version : old ≡ version_at s.doubt.version = old-is bytes s.doubt.bytes old (version_at s.doubt.version) (sym op ∙ (ap (λ (e : Event). e.op) same ∙ s.doubt.own.op_is)) in
      record {
        done = sym (ap was_done (ap (λ (e : Event). e.reply) same ∙ s.doubt.own.reply_is)) ∙ w.done;
        stood = subst (λ (j : List Event). StandsAt j (Branch branch) s.doubt.version) seam.0 (stands-as h (Branch branch) w.before s.doubt.version w.stood (w.version_is ∙ ap (λ (v : Version). v.0) version));
      }

  -- ---- along events
  -- the branch stands with a reference to a snapshot of which P holds
  pub record Names (P : Id12 → Type 0) (h : List Event) : Type 0 where
    pub id : Id12
    pub stored : Stored
    pub stands : found h (Branch branch) ≡ Some stored
    pub names : ref_of stored.bytes ≡ Some id
    pub holds : P id

  id-same : (x y : Id12) → Some x ≡ Some y → x ≡ y
  id-same x y e = cc

  stored-same : (x y : Stored) → Some x ≡ Some y → x ≡ y
  stored-same x y e = cc

  module _ (P : Id12 → Type 0) (step : (below new : Id12) (snap : SnapshotFile) → snap_made journal new ≡ Some snap → snap.parent ≡ Some below → (new ≡ d.snapshot → Took) → P below → P new) where
    module _ (h rest : List Event) (x : Event) (is : journal ≡ h ++ x ∷ rest) (n : Names P h) where
      -- a commit: its snapshot was made over the one that the branch named
      committed : (new : Id12) (bytes : List ℕ) (old : Version) → x.op ≡ PutOver (Branch branch) bytes old Commit → ref_of bytes ≡ Some new → (new ≡ d.snapshot → length h ≡ at) → WasOver h x (Branch branch) bytes old → IsCommitOver h branch old.0 new → Names P (h ++ x ∷ [])
      committed new bytes old op ref only w over =
          let made = over.once (Each-back IsFirst [] h (x ∷ rest) (subst IsOnce is s.once)).0 in
          let same : w.before ≡ n.stored = stored-same w.before n.stored (sym w.stood ∙ n.stands) in
          let named : w.before.bytes ≡ over.named_by = stood-is h (Branch branch) w.before over.named_by w.stood (subst (λ (v : ℕ). StoodAt h (Branch branch) v over.named_by) (sym w.version_is) over.named) in
          let base : over.base ≡ n.id = id-same over.base n.id (sym over.names ∙ (ap ref_of (sym named) ∙ (ap (λ (t : Stored). ref_of t.bytes) same ∙ n.names))) in
          let snap : snap_made journal new ≡ Some made.snap = subst (λ (j : List Event). snap_made j new ≡ Some made.snap) (sym is) (snap_made-append h (x ∷ rest) new made.snap made.made) in
          record {
            id = new;
            stored = record { bytes = bytes; version = length h; created = x.time };
            stands = ap (λ (slot : Slot). slot.stands) w.slot_is;
            names = ref;
            holds = step n.id new made.snap snap (made.parent ∙ ap (λ (i : Id12). Some i) base) (λ e. own-took h rest x bytes old is (only e) op w) n.holds;
          }

      over-one : (new : Id12) (bytes : List ℕ) (old : Version) → x.op ≡ PutOver (Branch branch) bytes old Commit → ref_of bytes ≡ Some new → (new ≡ d.snapshot → length h ≡ at) → WasOver h x (Branch branch) bytes old → Names P (h ++ x ∷ [])
      over-one new bytes old op ref only w =
          let good : IsGood h x = Each-at IsGood [] h x rest (subst IsGoodJournal is s.good) in
          let moved : IsMoved h branch old.0 bytes Commit = subst (IsPolite h) op good.polite in
          elim moved.cause [
            | inl reset ↦ absurd (cc)
            | inr commit ↦ committed new bytes old op ref only w (subst (IsCommitOver h branch old.0) (id-same moved.names.id new (sym moved.names.reference ∙ ref)) commit.1)
          ]

      one : CommitsAlone branch d.snapshot at h x → Names P (h ++ x ∷ [])
      one (inl leaves) = record { id = n.id; stored = n.stored; stands = leaves ∙ n.stands; names = n.names; holds = n.holds }
      one (inr (new, commits, only)) = elim (over-leaves h x (Branch branch) commits.0 commits.1 Commit commits.2 (Branch branch)) [
        | inl same ↦ record { id = n.id; stored = n.stored; stands = ap (λ (slot : Slot). slot.stands) same ∙ n.stands; names = n.names; holds = n.holds }
        | inr put ↦ over-one new commits.0 commits.1 commits.2 commits.3 only put.1
      ]

    pub along : (h more rest : List Event) → journal ≡ (h ++ more) ++ rest → Each (CommitsAlone branch d.snapshot at) h more → Names P h → Names P (h ++ more)
    unfolding Each
    along h [] rest is c n = subst (Names P) (sym (append-nil h)) n
    along h (x ∷ xs) rest is c n =
        subst (Names P) (append_assoc h (x ∷ []) xs)
        (along (h ++ x ∷ []) xs rest (is ∙ ap (λ (j : List Event). j ++ rest) (sym (append_assoc h (x ∷ []) xs))) c.1 (one h (xs ++ rest) x (is ∙ append_assoc h (x ∷ xs) rest) n c.0))
