-- The histories run beside the journal.
use Rattle.std.proofs.Common.{◌≡◌, inl, inr, ℕ, ◌+◌, Bool, true, false, cond, List, [], ◌∷◌, ◌++◌, length, refl, sym, ◌∙◌, ap, subst, arith, add-zero, append_assoc, append-nil, eqb-true}
use Rattle.std.specs.Prelude.{Option, Some, None, option_map, ◌==◌}
use Rattle.std.specs.Option.{option_and_then}
use Rattle.ice_ids.specs.declared.Id12.{Id12}
use Rattle.zarr_tree.specs.Trees.{Tree}
use Rattle.snapshot_file.specs.declared.snapshot.SnapshotFile.{SnapshotFile as Snap}
use Rattle.repo_objects.specs.Readings.{ref_of}
use Rattle.object_store.specs.declared.keys.Key.{Key}
use Rattle.object_store.specs.declared.keys.Key.TheVariants.{Branch}
use Rattle.object_store.specs.declared.keys.Why.{Why}
use Rattle.object_store.specs.declared.keys.Why.TheVariants.{Commit as For_commit}
use Rattle.object_store.specs.declared.events.Version.{Version}
use Rattle.object_store.specs.declared.events.Op.{Op}
use Rattle.object_store.specs.declared.events.Op.TheVariants.{Get, PutNew, PutOver, Remove, RemoveAt, List as ListPart}
use Rattle.object_store.specs.declared.events.GoneAt.TheVariants.{Done as Gone_at_done, Moved as Gone_at_moved}
use Rattle.object_store.specs.declared.events.Over.TheVariants.{Done as Over_done, Moved as Over_moved}
use Rattle.object_store.specs.declared.events.Reply.{Reply}
use Rattle.object_store.specs.declared.events.Reply.TheVariants.{Got as Is_got, New as Is_new, Over as Is_over, Gone as Is_gone, GoneAt as Is_gone_at, Listed as Is_listed, Failed}
use Rattle.object_store.specs.declared.events.Event.{Event}
use Rattle.object_store.specs.Machine.{Stored, Slot, slot_of, effect, leaves, put_at, where_free, where_old, found, over_of, gone_at_of, new_of, got_of, version_at, IsHonest, UnlessFailed, is_on, was_done}
use Rattle.store_api.specs.Journal.{Each, StoodAt, IsGood, IsOnce, IsFirst, IsCommitOver, IsMadeOver, IsMoved, IsPolite, MayPutNew, MayPutOver, MayRemove, tree_of}
use Rattle.object_store.proofs.Journals.{Each-append}
use Rattle.object_store.proofs.Slots.{same_key-true, slot-append_one, slot-none, stood-is}
use Rattle.histories.specs.Repository.{Change, Entry, RefHistory, last, Commit, Reset, Appended, Moved, answer_of, opened, created, at_version, after_answer, tree_at}
use Rattle.histories.specs.Calls.{is_commit, call_of, called_if, entered, going, history_of, Spells, TellsCall, Agrees, AllHaveTheirTrees, LeadsThere, IsGiven, IsCommitted, CommitsApply, StandsAs}
use Rattle.histories.specs.Files.{Files}
use Rattle.histories.specs.Formats.{files_by}
use Rattle.histories.specs.Laws.{HistoryLaw}

module _ (files : Files) (given : ℕ → Change) where
  going-append : (branch : List ℕ) (n : ℕ) (h : RefHistory) (xs ys : List Event) → going files given branch n h (xs ++ ys) ≡ going files given branch (n + length xs) (going files given branch n h xs) ys
  unfolding going
  going-append branch n h [] ys = rw add-zero
  going-append branch n h (x ∷ xs) ys =
      let e : (n + 1) + length xs ≡ n + length (x ∷ xs) = omega arith in
      going-append branch (n + 1) (entered files (given n) branch n h x) xs ys ∙ ap (λ (k : ℕ). going files given branch k (going files given branch (n + 1) (entered files (given n) branch n h x) xs) ys) e

  pub history-append_one : (journal : List Event) (event : Event) (branch : List ℕ) → history_of files given (journal ++ event ∷ []) branch ≡ entered files (given (length journal)) branch (length journal) (history_of files given journal branch) event
  unfolding going history_of
  history-append_one journal event branch = going-append branch 0 [] journal (event ∷ []) ∙ ap (λ (k : ℕ). entered files (given k) branch k (going files given branch 0 [] journal) event) (omega arith)

-- what stands at a branch is its last entry
pub record Link (trees : Id12 → Option Tree) (at : Option Stored) (h : RefHistory) : Type 0 where
  pub same : StandsAs (files_by trees) at (last h)
  pub entries : AllHaveTheirTrees trees h

-- the last entry of what stands
stands-some : (files : Files) (at : Option Stored) (l : Option Entry) (s : Stored) → StandsAs files at l → at ≡ Some s → (x : Entry) × (l ≡ Some x) × (s.version ≡ x.version) × (files.ref s.bytes ≡ Some x.id)
stands-some files None l s k e = cc
stands-some files (Some t) None s k e = absurd k
stands-some files (Some t) (Some x) s k e = let same : t ≡ s = cc in (x, refl, subst (λ (u : Stored). u.version ≡ x.version) same k.0, subst (λ (u : Stored). files.ref u.bytes ≡ Some x.id) same k.1)

module _ (trees : Id12 → Option Tree) where
  new-cases : (at : Option Stored) (l e : Option Entry) (new slot : Slot) (h : RefHistory) → StandsAs (files_by trees) at l → Link trees slot.stands h → Link trees new.stands (e ∷ h) → Link trees (where_free at new slot).stands (after_answer (created l) e h)
  new-cases None None e new slot h k keep put = put
  new-cases None (Some x) e new slot h k keep put = absurd k
  new-cases (Some s) None e new slot h k keep put = absurd k
  new-cases (Some s) (Some x) e new slot h k keep put = keep

  over-cases : (old : ℕ) (at : Option Stored) (l e : Option Entry) (new slot : Slot) (h : RefHistory) → StandsAs (files_by trees) at l → Link trees slot.stands h → ((s : Stored) (x : Entry) → at ≡ Some s → l ≡ Some x → s.version ≡ x.version → x.version ≡ old → ref_of s.bytes ≡ Some x.id → Link trees new.stands (e ∷ h)) → Link trees (where_old old at new slot).stands (after_answer (at_version old l) e h)
  over-cases old None None e new slot h k keep put = keep
  over-cases old None (Some x) e new slot h k keep put = absurd k
  over-cases old (Some s) None e new slot h k keep put = absurd k
  over-cases old (Some s) (Some x) e new slot h k keep put =
      subst (λ (n : ℕ). Link trees (cond (n == old) new slot).stands (after_answer (cond (x.version == old) Appended (Moved (Some x.version))) e h)) (sym k.0) (decide (x.version == old) refl)
    where
      decide : (b : Bool) → (x.version == old) ≡ b → Link trees (cond b new slot).stands (after_answer (cond b Appended (Moved (Some x.version))) e h)
      decide true q = put s x refl refl k.0 (eqb-true x.version old q) k.1
      decide false q = keep

  after-opened : (l : Option Entry) (e : Option Entry) (at : Option Stored) (h : RefHistory) → Link trees at h → Link trees at (after_answer (opened l) e h)
  after-opened None e at h k = k
  after-opened (Some x) e at h k = k

  last-tree : (h : RefHistory) (x : Entry) → AllHaveTheirTrees trees h → last h ≡ Some x → x.tree ≡ trees x.id
  last-tree [] x a e = cc
  last-tree (None ∷ es) x a e = cc
  last-tree (Some y ∷ es) x a e = let k : y ≡ x = cc in subst (λ (z : Entry). z.tree ≡ trees z.id) k a.0

  -- the base of a commit over what stands
  commit-base : (journal : List Event) (branch : List ℕ) (old : ℕ) (id : Id12) (s : Stored) (x : Entry) → found journal (Branch branch) ≡ Some s → s.version ≡ old → ref_of s.bytes ≡ Some x.id → (p : IsCommitOver journal branch old id) → p.base ≡ x.id
  commit-base journal branch old id s x e v names p =
      let stood : StoodAt journal (Branch branch) s.version p.named_by = subst (λ (n : ℕ). StoodAt journal (Branch branch) n p.named_by) (sym v) p.named in
      let bytes : s.bytes ≡ p.named_by = stood-is journal (Branch branch) s p.named_by e stood in
      let base : ref_of s.bytes ≡ Some p.base = subst (λ (b : List ℕ). ref_of b ≡ Some p.base) (sym bytes) p.names in
      cc

  -- the parent that a commit named
  named-by : (journal : List Event) (base id : Id12) → IsMadeOver journal base id → (files_by trees).parent journal id ≡ Some base
  named-by journal base id m = ap (λ (o : Option Snap). option_and_then (λ (s : Snap). s.parent) o) m.made ∙ m.parent

  commit-child : (journal : List Event) (base id parent : Id12) → IsMadeOver journal base id → base ≡ parent → (files_by trees).parent journal id ≡ Some parent
  commit-child journal base id parent m is = named-by journal base id m ∙ ap (λ (i : Id12). Some i) is

  -- the tree of a commit over what stands
  commit-tree : (c : Change) (journal : List Event) (branch : List ℕ) (old : ℕ) (id : Id12) (s : Stored) (x : Entry) → found journal (Branch branch) ≡ Some s → s.version ≡ old → ref_of s.bytes ≡ Some x.id → (p : IsCommitOver journal branch old id) → trees id ≡ option_map c (trees p.base) → trees id ≡ option_map c (trees x.id)
  commit-tree c journal branch old id s x e v names p leads = leads ∙ ap (λ (b : Id12). option_map c (trees b)) (commit-base journal branch old id s x e v names p)

  module _ (c : Change) (journal : List Event) (once : IsOnce journal) (branch : List ℕ) (h : RefHistory) (link : Link trees (found journal (Branch branch)) h) where
    -- what a put over leaves
    over-linked : (time : ℕ) (why : Why) (old : Version) (bytes : List ℕ) → (p : IsMoved journal branch old.0 bytes why) → LeadsThere (files_by trees) c journal (PutOver (Branch branch) bytes old why)
        → Link trees (where_old old.0 (found journal (Branch branch)) (put_at (length journal) time bytes (slot_of journal (Branch branch))) (slot_of journal (Branch branch))).stands (called_if trees (length journal) (call_of (files_by trees) c (PutOver (Branch branch) bytes old why)) h)
    over-linked time why old bytes p leads = elim p.cause [
      | inl r ↦ rw (p.names.reference, r) (over-cases old.0 (found journal (Branch branch)) (last h) _ (put_at (length journal) time bytes (slot_of journal (Branch branch))) (slot_of journal (Branch branch)) h link.same link (λ s x e l v w n. record { same = (refl, p.names.reference); entries = (refl, link.entries) }))
      | inr r ↦
          let leads' : LeadsThere (files_by trees) c journal (PutOver (Branch branch) bytes old For_commit) = subst (λ (w : Why). LeadsThere (files_by trees) c journal (PutOver (Branch branch) bytes old w)) r.0 leads in
          let over = r.1 in
          let made = over.once once in
          rw (p.names.reference, r.0) (over-cases old.0 (found journal (Branch branch)) (last h) _ (put_at (length journal) time bytes (slot_of journal (Branch branch))) (slot_of journal (Branch branch)) h link.same link
          (λ s x e l v w n.
          let tree : x.tree ≡ trees x.id = last-tree h x link.entries l in
          let here = leads' branch bytes old p.names.id refl p.names.reference over.base (named-by journal over.base p.names.id made) in
          record {
            same = (refl, p.names.reference);
            entries = (ap (λ (o : Option Entry). option_map c (tree_at o)) l ∙ ap (option_map c) tree ∙ sym (commit-tree c journal branch old.0 p.names.id s x e (v ∙ w) n over here), link.entries);
          }))
    ]

    op-linked : (time : ℕ) (op : Op) → is_on (Branch branch) op ≡ true → IsPolite journal op → LeadsThere (files_by trees) c journal op → Link trees (leaves (length journal) time op (slot_of journal (Branch branch))).stands (called_if trees (length journal) (call_of (files_by trees) c op) h)
    op-linked time (Get key) k p leads = after-opened (last h) _ _ h link
    op-linked time (PutNew key bytes why) k p leads =
        let p' : MayPutNew journal bytes why (Branch branch) = subst (λ (x : Key). MayPutNew journal bytes why x) (same_key-true key (Branch branch) k) p in
        rw p'.0.reference (new-cases (found journal (Branch branch)) (last h) _ (put_at (length journal) time bytes (slot_of journal (Branch branch))) (slot_of journal (Branch branch)) h link.same link (record { same = (refl, p'.0.reference); entries = (refl, link.entries) }))
    op-linked time (PutOver key bytes old why) k p leads =
        let is = same_key-true key (Branch branch) k in
        let p' : IsMoved journal branch old.0 bytes why = subst (λ (x : Key). MayPutOver journal bytes old.0 why x) is p in
        let leads' : LeadsThere (files_by trees) c journal (PutOver (Branch branch) bytes old why) = subst (λ (x : Key). LeadsThere (files_by trees) c journal (PutOver x bytes old why)) is leads in
        over-linked time why old bytes p' leads'
    op-linked time (Remove key why) k p leads = absurd (subst (λ (x : Key). MayRemove why x) (same_key-true key (Branch branch) k) p)
    op-linked time (RemoveAt key old why) k p leads =
        over-cases old.0 (found journal (Branch branch)) (last h) None (record (slot_of journal (Branch branch)) { stands = None }) (slot_of journal (Branch branch)) h link.same link (λ s x e l v w n. record { same = tt; entries = (tt, link.entries) })
    op-linked time (ListPart part) k p leads = cc

    event-linked : (event : Event) → IsGood journal event → LeadsThere (files_by trees) c journal event.op → Link trees (effect (Branch branch) (length journal) (slot_of journal (Branch branch)) event).stands (entered (files_by trees) c branch (length journal) h event)
    unfolding effect entered
    event-linked event g leads = outer (is_on (Branch branch) event.op) refl
      where
        inner : is_on (Branch branch) event.op ≡ true → (b : Bool) → Link trees (cond b (leaves (length journal) event.time event.op (slot_of journal (Branch branch))) (slot_of journal (Branch branch))).stands (cond b (called_if trees (length journal) (call_of (files_by trees) c event.op) h) h)
        inner k true = op-linked event.time event.op k g.polite leads
        inner k false = link

        outer : (b : Bool) → is_on (Branch branch) event.op ≡ b → Link trees (cond b (cond (was_done event.reply) (leaves (length journal) event.time event.op (slot_of journal (Branch branch))) (slot_of journal (Branch branch))) (slot_of journal (Branch branch))).stands (cond b (cond (was_done event.reply) (called_if trees (length journal) (call_of (files_by trees) c event.op) h) h) h)
        outer true k = inner k (was_done event.reply)
        outer false k = link

-- ---- answers
honest-over : (files : Files) (n now old : ℕ) (at : Option Stored) (l : Option Entry) → StandsAs files at l → Spells files n (at_version old l) (Is_over (over_of n now old at))
honest-over files n now old None None k = (now, inl refl)
honest-over files n now old None (Some x) k = absurd k
honest-over files n now old (Some s) None k = absurd k
honest-over files n now old (Some s) (Some x) k = subst (λ (v : ℕ). Spells files n (at_version old (Some x)) (Is_over (cond (v == old) (Over_done (version_at n) now) (Over_moved (Some (version_at v)) now)))) (sym k.0) (decide (x.version == old))
  where
    decide : (b : Bool) → Spells files n (cond b Appended (Moved (Some x.version))) (Is_over (cond b (Over_done (version_at n) now) (Over_moved (Some (version_at x.version)) now)))
    decide true = (now, inr (inl refl))
    decide false = (now, inl refl)

honest-gone : (files : Files) (n now old : ℕ) (at : Option Stored) (l : Option Entry) → StandsAs files at l → Spells files n (at_version old l) (Is_gone_at (gone_at_of now old at))
honest-gone files n now old None None k = (now, inr refl)
honest-gone files n now old None (Some x) k = absurd k
honest-gone files n now old (Some s) None k = absurd k
honest-gone files n now old (Some s) (Some x) k = subst (λ (v : ℕ). Spells files n (at_version old (Some x)) (Is_gone_at (cond (v == old) (Gone_at_done now) (Gone_at_moved (Some (version_at v)) now)))) (sym k.0) (decide (x.version == old))
  where
    decide : (b : Bool) → Spells files n (cond b Appended (Moved (Some x.version))) (Is_gone_at (cond b (Gone_at_done now) (Gone_at_moved (Some (version_at x.version)) now)))
    decide true = (now, inr (inr refl))
    decide false = (now, inr refl)

honest-new : (files : Files) (n now : ℕ) (at : Option Stored) (l : Option Entry) → StandsAs files at l → Spells files n (created l) (Is_new (new_of n now at))
honest-new files n now None None k = (now, inl refl)
honest-new files n now None (Some x) k = absurd k
honest-new files n now (Some s) None k = absurd k
honest-new files n now (Some s) (Some x) k = (now, ap (λ (v : ℕ). Is_new (new_of n now (Some (record s { version = v })))) k.0)

honest-got : (files : Files) (n now : ℕ) (at : Option Stored) (l : Option Entry) → StandsAs files at l → Spells files n (opened l) (Is_got (got_of now at))
honest-got files n now None None k = (now, refl)
honest-got files n now None (Some x) k = absurd k
honest-got files n now (Some s) None k = absurd k
honest-got files n now (Some s) (Some x) k = record { bytes = s.bytes; now = now; is = ap (λ (v : ℕ). Is_got (got_of now (Some (record s { version = v })))) k.0; names = k.1 }

-- the reply is another way to write the honest one
pub told : (P : Reply → Type 0) (honest reply : Reply) → P honest → reply ≡ honest → P reply
told P honest reply p e = subst P (sym e) p

-- what holds of each honest reply holds of the reply, unless it failed
pub unless-failed : (P Q : Reply → Type 0) → ((r : Reply) → P r → Q r) → (reply : Reply) → UnlessFailed P reply → UnlessFailed Q reply
unless-failed P Q f (Failed d) u = tt
unless-failed P Q f (Is_got g) u = f (Is_got g) u
unless-failed P Q f (Is_new g) u = f (Is_new g) u
unless-failed P Q f (Is_over g) u = f (Is_over g) u
unless-failed P Q f (Is_gone g) u = f (Is_gone g) u
unless-failed P Q f (Is_gone_at g) u = f (Is_gone_at g) u
unless-failed P Q f (Is_listed g) u = f (Is_listed g) u

-- what stands at the key that the operation is on
at-key : (files : Files) (journal : List Event) (key : Key) (branch : List ℕ) (l : Option Entry) → key ≡ Branch branch → StandsAs files (found journal (Branch branch)) l → StandsAs files (found journal key) l
at-key files journal key branch l k s = subst (λ (x : Key). StandsAs files (found journal x) l) (sym k) s

-- a put over of a reference is a call that answers by the version
over-told : (files : Files) (c : Change) (n : ℕ) (key : Key) (bytes : List ℕ) (old : Version) (why : Why) (id : Id12) (l : Option Entry) (reply : Reply) → files.ref bytes ≡ Some id → UnlessFailed (Spells files n (at_version old.0 l)) reply → TellsCall files n (call_of files c (PutOver key bytes old why)) l reply
over-told files c n key bytes old why id l reply e u = rw e (decide (is_commit why))
  where
    decide : (b : Bool) → UnlessFailed (Spells files n (answer_of (cond b (Commit old.0 id c) (Reset old.0 id)) l)) reply
    decide true = u
    decide false = u

tells : (trees : Id12 → Option Tree) (c : Change) (journal : List Event) (branch : List ℕ) (now : ℕ) (op : Op) (l : Option Entry) (reply : Reply) → is_on (Branch branch) op ≡ true → IsPolite journal op → StandsAs (files_by trees) (found journal (Branch branch)) l → UnlessFailed (IsHonest (found journal) (length journal) now op) reply → TellsCall (files_by trees) (length journal) (call_of (files_by trees) c op) l reply
tells trees c journal branch now (Get key) l reply k p s u =
    let s' = at-key (files_by trees) journal key branch l (same_key-true key (Branch branch) k) s in
    unless-failed _ _ (λ r e. told (Spells (files_by trees) (length journal) (opened l)) _ r (honest-got (files_by trees) (length journal) now (found journal key) l s') e) reply u
tells trees c journal branch now (PutNew key bytes why) l reply k p s u =
    let is = same_key-true key (Branch branch) k in
    let p' : MayPutNew journal bytes why (Branch branch) = subst (λ (x : Key). MayPutNew journal bytes why x) is p in
    let s' = at-key (files_by trees) journal key branch l is s in
    rw p'.0.reference (unless-failed _ _ (λ r e. told (Spells (files_by trees) (length journal) (created l)) _ r (honest-new (files_by trees) (length journal) now (found journal key) l s') e) reply u)
tells trees c journal branch now (PutOver key bytes old why) l reply k p s u =
    let is = same_key-true key (Branch branch) k in
    let p' : IsMoved journal branch old.0 bytes why = subst (λ (x : Key). MayPutOver journal bytes old.0 why x) is p in
    let s' = at-key (files_by trees) journal key branch l is s in
    over-told (files_by trees) c (length journal) key bytes old why p'.names.id l reply p'.names.reference
    (unless-failed _ _ (λ r e. told (Spells (files_by trees) (length journal) (at_version old.0 l)) _ r (honest-over (files_by trees) (length journal) now old.0 (found journal key) l s') e) reply u)
tells trees c journal branch now (Remove key why) l reply k p s u = tt
tells trees c journal branch now (RemoveAt key old why) l reply k p s u =
    let s' = at-key (files_by trees) journal key branch l (same_key-true key (Branch branch) k) s in
    unless-failed _ _ (λ r e. told (Spells (files_by trees) (length journal) (at_version old.0 l)) _ r (honest-gone (files_by trees) (length journal) now old.0 (found journal key) l s') e) reply u
tells trees c journal branch now (ListPart part) l reply k p s u = tt

module _ (trees : Id12 → Option Tree) (given : ℕ → Change) where
  -- each branch stands as its history says
  abbrev pub AllLinked : List Event → Type 0
  AllLinked journal = (branch : List ℕ) → Link trees (found journal (Branch branch)) (history_of (files_by trees) given journal branch)

  agrees-one : (journal : List Event) (event : Event) → AllLinked journal → IsGood journal event → Agrees (files_by trees) given journal event
  agrees-one journal event linked good branch k =
      tells trees (given (length journal)) journal branch event.time event.op (last (history_of (files_by trees) given journal branch)) event.reply k good.polite (linked branch).same good.legal.answered

  linked-one : (journal : List Event) (event : Event) → IsOnce journal → AllLinked journal → IsGood journal event → IsGiven (files_by trees) given journal event → AllLinked (journal ++ event ∷ [])
  linked-one journal event once linked good leads branch =
      let e = event-linked trees (given (length journal)) journal once branch (history_of (files_by trees) given journal branch) (linked branch) event good leads in
      subst (λ (s : Slot). Link trees s.stands (history_of (files_by trees) given (journal ++ event ∷ []) branch)) (sym (slot-append_one journal event (Branch branch)))
      (subst (λ (h : RefHistory). Link trees (effect (Branch branch) (length journal) (slot_of journal (Branch branch)) event).stands h) (sym (history-append_one (files_by trees) given journal event branch)) e)

  commits-one : (journal : List Event) (event : Event) → IsOnce journal → AllLinked journal → IsGood journal event → IsGiven (files_by trees) given journal event → CommitsApply (files_by trees) given journal event
  commits-one journal event once linked good leads branch bytes old id s op_is names done stands version =
      let polite : IsMoved journal branch old.0 bytes For_commit = subst (λ (o : Op). IsPolite journal o) op_is good.polite in
      let x = stands-some (files_by trees) (found journal (Branch branch)) (last (history_of (files_by trees) given journal branch)) s (linked branch).same stands in
      committed polite x.0 x.1 x.2 x.3
    where
      leads' : IsCommitOver journal branch old.0 id → (p : IsCommitOver journal branch old.0 id) → trees id ≡ option_map (given (length journal)) (trees p.base)
      leads' q p = leads branch bytes old id op_is names p.base (named-by trees journal p.base id (p.once once))

      over : IsMoved journal branch old.0 bytes For_commit → IsCommitOver journal branch old.0 id
      over m = elim m.cause [
        | inl r ↦ cc
        | inr r ↦ let e = m.names.reference in let same : m.names.id ≡ id = cc in subst (λ (i : Id12). IsCommitOver journal branch old.0 i) same r.1
      ]

      committed : IsMoved journal branch old.0 bytes For_commit → (x : Entry) → last (history_of (files_by trees) given journal branch) ≡ Some x → s.version ≡ x.version → ref_of s.bytes ≡ Some x.id → IsCommitted (files_by trees) given journal branch old.0 id
      committed m x l v n =
          let p = over m in
          let base : p.base ≡ x.id = commit-base trees journal branch old.0 id s x stands version n p in
          record {
            before = x;
            is_last = l;
            version = sym v ∙ version;
            child = commit-child trees journal p.base id x.id (p.once once) base;
            tree = commit-tree trees (given (length journal)) journal branch old.0 id s x stands version n p (leads' p p);
          }

  -- what the run of the histories gives, from a journal on
  pub record Along (old more : List Event) : Type 0 where
    pub answers : Each (Agrees (files_by trees) given) old more
    pub commits : Each (CommitsApply (files_by trees) given) old more
    pub linked : AllLinked (old ++ more)

  along : (old more : List Event) → IsOnce old → AllLinked old → Each IsGood old more → Each IsFirst old more → Each (IsGiven (files_by trees) given) old more → Along old more
  unfolding Each
  along old [] once linked good first leads = record { answers = tt; commits = tt; linked = subst (λ (h : List Event). AllLinked h) (sym (append-nil old)) linked }
  along old (x ∷ xs) once linked good first leads =
      let next = along (old ++ x ∷ []) xs (Each-append IsFirst [] old (x ∷ []) once (first.0, tt)) (linked-one old x once linked good.0 leads.0) good.1 first.1 leads.1 in
      record {
        answers = (agrees-one old x linked good.0, next.answers);
        commits = (commits-one old x once linked good.0 leads.0, next.commits);
        linked = subst (λ (h : List Event). AllLinked h) (append_assoc old (x ∷ []) xs) next.linked;
      }

  nothing-linked : AllLinked []
  unfolding history_of going
  nothing-linked branch = subst (λ (s : Slot). Link trees s.stands []) (sym (slot-none (Branch branch))) (record { same = tt; entries = tt })

pub history-law : HistoryLaw
unfolding Each
history-law journal given good once leads =
    let a = along (tree_of journal) given [] journal tt (nothing-linked (tree_of journal) given) good once leads in
    (record { answers = a.answers; entries = λ branch. (a.linked branch).entries; commits = a.commits }, λ branch. (a.linked branch).same)
