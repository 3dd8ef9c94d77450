-- A check's own events, and what they were told of what stood.
use Rattle.std.proofs.Common.{◌≡◌, ◌⊎◌, inl, inr, ℕ, false, List, [], ◌∷◌, ◌++◌, length, drop, refl, sym, ◌∙◌, ap, subst, append_assoc, append-nil}
use Rattle.std.specs.Prelude.{Option, Some, Ok, Contains}
use Rattle.ice_ids.specs.declared.Id12.{Id12}
use Rattle.snapshot_file.specs.declared.snapshot.SnapshotFile.{SnapshotFile}
use Rattle.object_store.specs.declared.keys.Key.{Key}
use Rattle.object_store.specs.declared.keys.Key.TheVariants.{Snapshot, Manifest, Txn, Chunk, Branch, Tag, Tombstone, Lease}
use Rattle.object_store.specs.declared.keys.Part.{Part as Part_of_store}
use Rattle.object_store.specs.declared.keys.Part.TheVariants.{Branches, Tags, Snapshots, Manifests, Txns, Chunks, Leases}
use Rattle.object_store.specs.declared.events.Op.{Op}
use Rattle.object_store.specs.declared.events.Op.TheVariants.{Get}
use Rattle.object_store.specs.declared.events.Listed.{Listed}
use Rattle.object_store.specs.declared.events.Reply.{Reply}
use Rattle.object_store.specs.declared.events.Reply.TheVariants.{Got as Is_got, Listed as Is_listed}
use Rattle.object_store.specs.declared.events.Event.{Event}
use Rattle.object_store.specs.Machine.{Stored, found, got_of}
use Rattle.object_store.proofs.Journals.{Each-at, Each-back}
use Rattle.store_api.specs.Callers.{has_failed}
use Rattle.store_api.specs.Journal.{Each, IsGood}
use Rattle.store_api.specs.Program.{events_of}
use Rattle.store_api.specs.Telling.{HasOwn}
use Rattle.live_refs.specs.Live.{live}
use Rattle.live_refs.specs.Laws.{IsRefIn}
use Rattle.live_refs.proofs.Live.{live-law}
use Rattle.collecting.specs.Walks.{IsObject}
use Rattle.history_laws.specs.Refs.{IsRef}
use Rattle.intact.specs.Visits.{Visit, Refs, Ref, Snap, Log, File, Part, op_for, told, leads, or_nowhere}
use Rattle.intact.specs.Intact.{Made, WasAnswered, WasVisited, IsFine, IsFineBy, Named}
use Rattle.intact.specs.Intact as intact
use Rattle.repo_check.specs.declared.standing.CheckReport.{CheckReport}
use Rattle.repo_check.specs.Findings.{Deed, made_of, deeds_of}
use Rattle.repo_check.specs.Exact.{CheckTells, deeds_in, deeds_behind}
use Rattle.check_calls.specs.Beside.{IsBetween, TakesNothing}
use Rattle.check_calls.proofs.Steady.{stays}
use Rattle.check_calls.proofs.Own.{occurs, is-made, behind-start, same-end, own-between, own-later}
use Rattle.check_calls.proofs.Replies.{got-honest, list-honest, failed-unfine}
use Rattle.check_calls.proofs.Leads.{from-refs, from-ref, from-snap, from-log, from-file, from-part, behind-cases, Behind, to_log, to_file, to_parent, place-of}

-- From `first` to `last` a client made these operations, and no others behind `start`, among legal and polite events.
pub record Course (client : ℕ) (start first last : List Event) (made : List Made) : Type 0 where
  pub early : List Event
  pub first_is : first ≡ start ++ early
  pub between : List Event
  pub last_is : last ≡ first ++ between
  pub deeds : deeds_in (events_of client between) ≡ deeds_of made
  pub both : deeds_in (events_of client (early ++ between)) ≡ deeds_of made
  pub good : Each IsGood first between

module _ (P : List Event → Event → Type 0) (client : ℕ) (start first last journal : List Event) (b : IsBetween P client start first last journal) where
  all-is : journal ≡ start ++ ((b.early ++ b.between) ++ b.late)
  all-is =
      b.is
      ∙ (ap (λ (h : List Event). h ++ b.late) (b.last_is ∙ (ap (λ (h : List Event). h ++ b.between) b.first_is ∙ append_assoc start b.early b.between))
      ∙ append_assoc start (b.early ++ b.between) b.late)

  pub deeds-between : deeds_behind client start journal ≡ deeds_in (events_of client b.between)
  deeds-between =
      ap (λ (h : List Event). deeds_in (events_of client (drop (length start) h))) all-is
      ∙ (ap (λ (l : List Event). deeds_in (events_of client l)) (behind-start start ((b.early ++ b.between) ++ b.late))
      ∙ ap deeds_in (own-between client b.early b.between b.late b.none_early b.none_late))

  abbrev pub course-of : (report : CheckReport) (c : CheckTells client start report journal) → c.reports.rest ≡ [] → Course client start first last (made_of c.reports.findings)
  course-of report c none =
      let deeds = sym deeds-between ∙ (c.reports.are ∙ (ap (λ (l : List Deed). deeds_of (made_of c.reports.findings) ++ l) none ∙ append-nil (deeds_of (made_of c.reports.findings)))) in
      record {
        early = b.early;
        first_is = b.first_is;
        between = b.between;
        last_is = b.last_is;
        deeds = deeds;
        both = ap deeds_in (own-later client b.early b.between b.none_early) ∙ deeds;
        good = b.good;
      }

module _ (client : ℕ) (start first last : List Event) (made : List Made) (c : Course client start first last made) where
  -- ---- each operation was answered
  pub record Replied (v : Visit) (reply : Reply) : Type 0 where
    pub before : List Event
    pub event : Event
    pub after : List Event
    pub is : c.between ≡ before ++ event ∷ after
    pub good : IsGood (first ++ before) event
    pub client_is : event.client ≡ client
    pub op_is : event.op ≡ op_for v
    pub reply_is : event.reply ≡ reply

  pub replied : (v : Visit) (reply : Reply) → WasAnswered made v reply → Replied v reply
  replied v reply t =
      let o = occurs client c.between made c.deeds t.one t.among in
      record {
        before = o.before;
        event = o.event;
        after = o.after;
        is = o.is;
        good = Each-at IsGood first o.before o.event o.after (subst (λ (l : List Event). Each IsGood first l) o.is c.good);
        client_is = o.client_is;
        op_is = o.op_is ∙ ap op_for t.visit_is;
        reply_is = o.reply_is ∙ t.reply_is;
      }

  -- each own event is one of the operations
  pub record OwnVisit (op : Op) (reply : Reply) : Type 0 where
    pub visit : Visit
    pub op_is : op_for visit ≡ op
    pub told : WasAnswered made visit reply

  pub own-visit : (op : Op) (reply : Reply) → HasOwn client op reply start last → OwnVisit op reply
  own-visit op reply h =
      let whole : last ≡ start ++ (c.early ++ c.between) = c.last_is ∙ (ap (λ (l : List Event). l ++ c.between) c.first_is ∙ append_assoc start c.early c.between) in
      let other : last ≡ start ++ (h.since ++ h.event ∷ h.after) = h.is ∙ (ap (λ (l : List Event). l ++ h.event ∷ h.after) h.before_is ∙ append_assoc start h.since (h.event ∷ h.after)) in
      let split : c.early ++ c.between ≡ h.since ++ h.event ∷ h.after = same-end start (c.early ++ c.between) (h.since ++ h.event ∷ h.after) (sym whole ∙ other) in
      let m = is-made client h.since h.event h.after made (ap (λ (l : List Event). deeds_in (events_of client l)) (sym split) ∙ c.both) h.client_is in
      record { visit = m.one.visit; op_is = m.op_is ∙ h.op_is; told = record { one = m.one; among = m.among; visit_is = refl; reply_is = m.reply_is ∙ h.reply_is } }

  -- ---- what a fine get was told
  pub record GotHere (v : Visit) (key : Key) : Type 0 where
    pub before : List Event
    pub after : List Event
    pub is : c.between ≡ before ++ after
    pub now : ℕ
    pub told_is : WasAnswered made v (Is_got (got_of now (found (first ++ before) key)))
    pub next : List Visit
    pub fine : told v (Is_got (got_of now (found (first ++ before) key))) ≡ Ok next
    pub leads_is : leads v (Is_got (got_of now (found (first ++ before) key))) ≡ next

  pub got-here : (v : Visit) (key : Key) → op_for v ≡ Get key → IsFine made v → GotHere v key
  got-here v key op f =
      let told_by = f.was.told in
      let reply = f.was.reply in
      let fine = f.each reply told_by in
      let r = replied v reply told_by in
      elim (got-honest (first ++ r.before) r.event key reply r.good (r.op_is ∙ op) r.reply_is) [
        | inl failed ↦ absurd (failed-unfine v reply fine.next failed fine.is)
        | inr answer ↦ (
            let now_fine : told v (Is_got (got_of r.event.time (found (first ++ r.before) key))) ≡ Ok fine.next = ap (told v) (sym answer) ∙ fine.is in
            record {
              before = r.before;
              after = r.event ∷ r.after;
              is = r.is;
              now = r.event.time;
              told_is = subst (λ (x : Reply). WasAnswered made v x) answer told_by;
              next = fine.next;
              fine = now_fine;
              leads_is = ap or_nowhere now_fine;
            }
            )
      ]

  -- ---- where nothing is taken
  pub carried : Each TakesNothing first c.between → (key : Key) → IsObject key → (before after : List Event) → c.between ≡ before ++ after → (s : Stored) → found (first ++ before) key ≡ Some s → found last key ≡ Some s
  carried calm key object before after is s there =
      let goods = Each-back IsGood first before after (subst (λ (l : List Event). Each IsGood first l) is c.good) in
      let calms = Each-back TakesNothing first before after (subst (λ (l : List Event). Each TakesNothing first l) is calm) in
      ap (λ (h : List Event). found h key) (c.last_is ∙ (ap (λ (l : List Event). first ++ l) is ∙ sym (append_assoc first before after)))
      ∙ stays key object s (first ++ before) after goods.1 calms.1 there

  -- ---- refs
  abbrev IsRefPart : Part_of_store → Type 0
  IsRefPart part = (part ≡ Branches) ⊎ (part ≡ Tags)

  -- what is listed there is a ref
  ref-key : (part : Part_of_store) (at : Key → Option Stored) (key : Key) → IsRefPart part → IsRefIn at part key → IsRef key
  ref-key part at (Branch name) p r = tt
  ref-key part at (Tag name) p r = tt
  ref-key part at (Tombstone name) p r = absurd r.not_gone
  ref-key part at (Snapshot id) (inl e) r = let other : Snapshots ≡ Branches = r.part_is ∙ e in absurd cc
  ref-key part at (Snapshot id) (inr e) r = let other : Snapshots ≡ Tags = r.part_is ∙ e in absurd cc
  ref-key part at (Manifest id) (inl e) r = let other : Manifests ≡ Branches = r.part_is ∙ e in absurd cc
  ref-key part at (Manifest id) (inr e) r = let other : Manifests ≡ Tags = r.part_is ∙ e in absurd cc
  ref-key part at (Txn id) (inl e) r = let other : Txns ≡ Branches = r.part_is ∙ e in absurd cc
  ref-key part at (Txn id) (inr e) r = let other : Txns ≡ Tags = r.part_is ∙ e in absurd cc
  ref-key part at (Chunk id) (inl e) r = let other : Chunks ≡ Branches = r.part_is ∙ e in absurd cc
  ref-key part at (Chunk id) (inr e) r = let other : Chunks ≡ Tags = r.part_is ∙ e in absurd cc
  ref-key part at (Lease id) (inl e) r = let other : Leases ≡ Branches = r.part_is ∙ e in absurd cc
  ref-key part at (Lease id) (inr e) r = let other : Leases ≡ Tags = r.part_is ∙ e in absurd cc

  -- a listed ref stood
  pub record ListedRef (key : Key) : Type 0 where
    pub part : Part_of_store
    pub part_is : IsRefPart part
    pub before : List Event
    pub after : List Event
    pub is : c.between ≡ before ++ after
    pub stood : IsRefIn (found (first ++ before)) part key

  same-entries : (l m : Listed) → Is_listed l ≡ Is_listed m → l ≡ m
  same-entries l m e = cc

  listed-ref : (part : Part_of_store) (reply : Reply) (key : Key) → IsRefPart part → WasAnswered made (Refs part) reply → Contains (leads (Refs part) reply) (Ref key) → ListedRef key
  listed-ref part reply key p t k =
      let l = from-refs part reply (Ref key) k in
      let same : key ≡ l.key = let e = l.is in cc in
      let r = replied (Refs part) reply t in
      elim (list-honest (first ++ r.before) r.event part reply r.good r.op_is r.reply_is) [
        | inl failed ↦ (let fine : has_failed reply ≡ false = ap has_failed l.reply_is in absurd cc)
        | inr a ↦ (
            let list = same-entries l.listed (record { entries = a.entries; now = a.now }) (sym l.reply_is ∙ a.is) in
            let among : Contains (live a.entries) l.key = subst (λ (x : Listed). Contains (live x.entries) l.key) list l.among in
            let place = place-of (live a.entries) l.key among in
            let stood = (live-law (found (first ++ r.before)) part a.entries a.listing l.key).0 (record { place = place.place; here = place.here }) in
            record { part = part; part_is = p; before = r.before; after = r.event ∷ r.after; is = r.is; stood = subst (λ (x : Key). IsRefIn (found (first ++ r.before)) part x) (sym same) stood }
            )
      ]

  -- the listings are those of refs, and what is named as a ref was listed
  abbrev pub RefFact : Visit → Type 0
  RefFact (Refs part) = IsRefPart part
  RefFact (Ref key) = ListedRef key
  RefFact (Snap id) = Unit {0}
  RefFact (Log id) = Unit {0}
  RefFact (File f) = Unit {0}
  RefFact (Part p) = Unit {0}

  ref-step : (v w : Visit) (reply : Reply) → RefFact v → WasAnswered made v reply → Contains (leads v reply) w → RefFact w
  ref-step (Refs part) w reply h t k =
      let l = from-refs part reply w k in
      subst RefFact (sym l.is) (listed-ref part reply l.key h t (subst (λ (x : Visit). Contains (leads (Refs part) reply) x) l.is k))
  ref-step (Ref key) w reply h t k = let l = from-ref key reply w k in subst RefFact (sym l.is) tt
  ref-step (Snap id) w reply h t k = let l = from-snap id reply w k in by (behind-cases id l.snap w l.among)
    where
      by : {snap : SnapshotFile} → Behind id snap w → RefFact w
      by (to_log e is) = subst RefFact (sym is) tt
      by (to_file f c is) = subst RefFact (sym is) tt
      by (to_parent parent e is) = subst RefFact (sym is) tt
  ref-step (Log id) w reply h t k = absurd (from-log id reply w k)
  ref-step (File f) w reply h t k = let l = from-file f reply w k in subst RefFact (sym l.is) tt
  ref-step (Part p) w reply h t k = absurd (from-part p reply w k)

  pub ref-fact : (v : Visit) → Named made v → RefFact v
  ref-fact v intact.branches = inl refl
  ref-fact v intact.tags = inr refl
  ref-fact v (intact.behind {v = u} {reply = reply} n t k) = ref-step u v reply (ref-fact u n) t k

  pub listed-is_ref : (key : Key) → ListedRef key → IsRef key
  listed-is_ref key l = ref-key l.part (found (first ++ l.before)) key l.part_is l.stood

  -- ---- what an own get was for
  pub get-of_ref : (v : Visit) (ref : Key) → IsRef ref → op_for v ≡ Get ref → v ≡ Ref ref
  get-of_ref (Refs part) ref r e = absurd cc
  get-of_ref (Ref key) ref r e = let same : key ≡ ref = cc in ap (λ (x : Key). Ref x) same
  get-of_ref (Snap id) ref r e = let same : Snapshot id ≡ ref = cc in absurd (subst IsRef (sym same) r)
  get-of_ref (Log id) ref r e = let same : Txn id ≡ ref = cc in absurd (subst IsRef (sym same) r)
  get-of_ref (File f) ref r e = let same : Manifest f.manifest ≡ ref = cc in absurd (subst IsRef (sym same) r)
  get-of_ref (Part p) ref r e = let same : Chunk p.object ≡ ref = cc in absurd (subst IsRef (sym same) r)

  pub get-of_snap : (v : Visit) (id : Id12) → Named made v → op_for v ≡ Get (Snapshot id) → v ≡ Snap id
  get-of_snap (Refs part) id n e = absurd cc
  get-of_snap (Ref key) id n e = let same : key ≡ Snapshot id = cc in absurd (subst IsRef same (listed-is_ref key (ref-fact (Ref key) n)))
  get-of_snap (Snap x) id n e = let same : x ≡ id = cc in ap (λ (y : Id12). Snap y) same
  get-of_snap (Log x) id n e = absurd cc
  get-of_snap (File f) id n e = absurd cc
  get-of_snap (Part p) id n e = absurd cc
