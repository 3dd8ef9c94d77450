-- How tasks end, in words of the commits that took effect.
use Rattle.std.proofs.Common.{◌≡◌, ◌≢◌, ◌⊎◌, inl, inr, ℕ, ◌<◌, Bool, true, false, cond, List, [], ◌∷◌, ◌++◌, length, refl, sym, ◌∙◌, ap, subst, append_assoc, arith, eqb, eq-eqb, Err}
use Rattle.std.proofs.lemmas.List.{append_cancel_left}
use Rattle.std.specs.Prelude.{Option, Some}
use Rattle.ice_ids.specs.declared.Id12.{Id12}
use Rattle.object_store.specs.declared.keys.Key.{Key}
use Rattle.object_store.specs.declared.keys.Key.TheVariants.{Snapshot, Manifest, Chunk, Branch}
use Rattle.object_store.specs.declared.keys.Why.TheVariants.{Commit, Set}
use Rattle.object_store.specs.declared.events.Op.{Op}
use Rattle.object_store.specs.declared.events.Op.TheVariants.{Get, PutNew, PutOver, Remove, RemoveAt, List as ListPart}
use Rattle.object_store.specs.declared.events.Event.{Event}
use Rattle.object_store.specs.declared.events.Version.{Version}
use Rattle.object_store.specs.Machine.{Stored, Slot, found, slot_of, is_on, was_done, version_at, put_at, leaves, where_old, effect}
use Rattle.object_store.proofs.Journals.{Each-at, Each-append, Each-one, Each-weaker}
use Rattle.object_store.proofs.Slots.{slot-append_one, effect-cases, same_key-refl, sound}
use Rattle.zarr_tree.specs.Trees.{Tree}
use Rattle.repo_objects.specs.Readings.{ref_of}
use Rattle.histories.specs.Files.{Files}
use Rattle.histories.specs.Formats.{files_by}
use Rattle.store_api.specs.declared.machines.Refusal.{Refusal}
use Rattle.store_api.specs.declared.machines.Refusal.TheVariants as R
use Rattle.store_api.specs.Journal.{Each}
use Rattle.store_api.specs.Telling.{ChangedNothing, ChangedOnce, LeavesBranches, IsGet, GetsAlone, MadeGets, WasFailed}
use Rattle.session.specs.Sessions.{SessionState, branch_of, version_of}
use Rattle.session.specs.Opening.{Asked}
use Rattle.commit_path.specs.Answered.{TookEffect, CommitTells}
use Rattle.commit_path.specs.Opened.{RefusalTells, IsOfOpening}
use Rattle.region_calls.specs.ChunkTold.{SetTells, GetTells, IsOfSet, IsOfGet}
use Rattle.script_calls.specs.declared.calls.Access.{Access}
use Rattle.play_script.specs.declared.scripts.Line.{Line}
use Rattle.play_outcome.specs.declared.outcome.Shown.{Shown}
use Rattle.play_outcome.specs.declared.outcome.End.{End}
use Rattle.play_outcome.specs.declared.outcome.End.TheVariants.{Refused}
use Rattle.play_outcome.specs.declared.outcome.End.TheVariants as E
use Rattle.play_tasks.specs.Lines.{LineDeed, Goes, Sets, Reads, Puts, Gathers, Leases, Commits, deed}
use Rattle.play_tasks.specs.Played.{IsGetOrRelease}
use Rattle.play_tasks.specs.Telling as told
use Rattle.play_course.proofs.Released.{released-made}
use Rattle.play_course.specs.Promise.{TakesEffect, HasCommitOf, EndsRight}

some-id : (a b : Id12) → Some a ≡ Some b → a ≡ b
some-id a b e = cc

some-same : {A : Type 0} (a b : A) → Some a ≡ Some b → a ≡ b
some-same a b e = cc

-- ---- such an event changes its branch
effect-version : (files : Files) (journal : List Event) (event : Event) (branch : List ℕ) (old : ℕ) (id : Id12) (e : TakesEffect files journal event branch old id) → (s : Stored) × (found (journal ++ event ∷ []) (Branch branch) ≡ Some s) × (s.version ≡ length journal)
unfolding effect
effect-version files journal event branch old id e =
    let key : Key = Branch branch in
    let slot : Slot = slot_of journal key in
    let new : Slot = put_at (length journal) event.time e.bytes slot in
    let op : Op = PutOver key e.bytes (version_at old) Commit in
    let is =
    slot-append_one journal event key
    ∙ ap (λ (o : Op). cond (is_on key o) (cond (was_done event.reply) (leaves (length journal) event.time o slot) slot) slot) e.op_is
    ∙ ap (λ (b : Bool). cond b (cond (was_done event.reply) (leaves (length journal) event.time op slot) slot) slot) (same_key-refl key)
    ∙ ap (λ (b : Bool). cond b (leaves (length journal) event.time op slot) slot) e.done
    ∙ ap (λ (o : Option Stored). where_old old o new slot) e.stands
    ∙ ap (λ (b : Bool). cond b new slot) (at-version e.stored.version old e.version)
    in
    (record { bytes = e.bytes; version = length journal; created = event.time }, ap (λ (s : Slot). s.stands) is, refl)
  where
    at-version : (a b : ℕ) → a ≡ b → eqb a b ≡ true
    at-version a b same = eq-eqb a b same

effect-changes : (files : Files) (client : ℕ) (journal : List Event) (event : Event) (branch : List ℕ) (old : ℕ) (id : Id12) → event.client ≡ client → TakesEffect files journal event branch old id → ¬ LeavesBranches client journal event
effect-changes files client journal event branch old id own e leaves =
    let after = effect-version files journal event branch old id e in
    let same : after.0 ≡ e.stored = some-same after.0 e.stored (sym after.1 ∙ leaves own branch ∙ e.stands) in
    let less : e.stored.version < length journal = (sound journal (Branch branch)).below e.stored e.stands in
    let version : length journal ≡ e.stored.version = sym after.2 ∙ ap (λ (s : Stored). s.version) same in
    omega (arith, less, version)

pub none-committed : (files : Files) (client : ℕ) (start journal : List Event) → ChangedNothing client start journal → (id : Id12) → ¬ HasCommitOf files client id start journal
none-committed files client start journal c id h =
    let whole : start ++ c.more ≡ start ++ (h.since ++ h.event ∷ h.after) =
    sym c.is ∙ h.is ∙ ap (λ (x : List Event). x ++ h.event ∷ h.after) h.before_is ∙ append_assoc start h.since (h.event ∷ h.after) in
    let more : c.more ≡ h.since ++ h.event ∷ h.after = append_cancel_left start c.more (h.since ++ h.event ∷ h.after) whole in
    let each = subst (Each (LeavesBranches client) start) more c.each in
    let at : LeavesBranches client (start ++ h.since) h.event = Each-at (LeavesBranches client) start h.since h.event h.after each in
    effect-changes files client h.before h.event h.branch h.old id h.own h.takes_effect (subst (λ (x : List Event). LeavesBranches client x h.event) (sym h.before_is) at)

-- ---- a commit that was told
took-committed : (trees : Id12 → Option Tree) (client : ℕ) (s : SessionState) (message : List ℕ) (made : _) (start journal : List Event) → TookEffect client s message made start journal → HasCommitOf (files_by trees) client made.id start journal
took-committed trees client s message made start journal t =
    let own = t.own in
    record {
      before = own.before;
      event = own.event;
      after = own.after;
      is = own.is;
      since = own.since;
      before_is = own.before_is;
      own = own.client_is;
      branch = branch_of s;
      old = version_of s;
      takes_effect = record { bytes = t.bytes; op_is = own.op_is; names = t.names; done = ap was_done own.reply_is; stored = t.read.stored; stands = t.read.stands; version = t.read.version_is };
    }

-- ---- failed operations that touch no branch
-- an operation that leaves what stands at branches
abbrev IsApart : Op → Type 0
IsApart op = (branch : List ℕ) (n time : ℕ) (slot : Slot) → is_on (Branch branch) op ≡ true → leaves n time op slot ≡ slot

same-branches : (journal : List Event) (event : Event) (branch : List ℕ) → IsApart event.op → found (journal ++ event ∷ []) (Branch branch) ≡ found journal (Branch branch)
same-branches journal event branch apart =
    let slot : Slot = slot_of journal (Branch branch) in
    ap (λ (s : Slot). s.stands) (slot-append_one journal event (Branch branch))
    ∙ effect-cases (λ (s : Slot). s.stands ≡ slot.stands) (Branch branch) (length journal) slot event refl (λ on done. ap (λ (s : Slot). s.stands) (apart branch (length journal) event.time slot on))

nothing-then : (client : ℕ) (first second third : List Event) → ChangedNothing client first second → ChangedNothing client second third → ChangedNothing client first third
nothing-then client first second third x y = record {
  more = x.more ++ y.more;
  is = y.is ∙ ap (λ (h : List Event). h ++ y.more) x.is ∙ append_assoc first x.more y.more;
  each = Each-append (LeavesBranches client) first x.more y.more x.each (subst (λ (h : List Event). Each (LeavesBranches client) h y.more) x.is y.each);
}

failed-nothing : (client : ℕ) (kind : Op → Type 0) (start journal : List Event) → (f : WasFailed client kind start journal) → IsApart f.op → ChangedNothing client start journal
failed-nothing client kind start journal f apart =
    let own = f.own in
    let leaves : LeavesBranches client own.before own.event = λ mine branch. same-branches own.before own.event branch (subst IsApart (sym own.op_is) apart) in
    let here : ChangedNothing client own.before (own.before ++ own.event ∷ []) = record { more = own.event ∷ []; is = refl; each = Each-one (LeavesBranches client) own.before own.event leaves } in
    nothing-then client start (own.before ++ own.event ∷ []) journal (nothing-then client start own.before (own.before ++ own.event ∷ []) f.once.earlier here) f.once.later

get-apart : (op : Op) (key : Key) → op ≡ Get key → IsApart op
get-apart op key e branch n time slot on = ap (λ (o : Op). leaves n time o slot) e

chunk-apart : (op : Op) (id : Id12) (bytes : List ℕ) → op ≡ PutNew (Chunk id) bytes Set → IsApart op
chunk-apart op id bytes e branch n time slot on = let no : false ≡ true = sym (ap (is_on (Branch branch)) e) ∙ on in absurd cc

-- ---- gets
get-is-apart : (op : Op) → IsGet op → IsApart op
get-is-apart (Get key) g branch n time slot on = refl
get-is-apart (PutNew key bytes why) g branch n time slot on = absurd g
get-is-apart (PutOver key bytes old why) g branch n time slot on = absurd g
get-is-apart (Remove key why) g branch n time slot on = absurd g
get-is-apart (RemoveAt key old why) g branch n time slot on = absurd g
get-is-apart (ListPart part) g branch n time slot on = absurd g

gets-nothing : (client : ℕ) (first second : List Event) → MadeGets client first second → ChangedNothing client first second
gets-nothing client first second g = record {
  more = g.more;
  is = g.is;
  each = Each-weaker (GetsAlone client) (LeavesBranches client) (λ before event alone mine branch. same-branches before event branch (get-is-apart event.op (alone mine))) first g.more g.each;
}

-- ---- releases
release-apart : (op : Op) → IsGetOrRelease op → IsApart op
release-apart op (inl get) branch n time slot on = get-is-apart op get branch n time slot on
release-apart op (inr r) branch n time slot on = let no : false ≡ true = sym (ap (is_on (Branch branch)) r.1) ∙ on in absurd cc

-- leases that are released leave all branches
pub released-nothing : (client : ℕ) (before : List Shown) (first : List Event) (after : List Shown) (journal : List Event) → told.WereReleased client before first after journal → ChangedNothing client first journal
released-nothing client before first after journal w =
    let made = released-made client before first after journal w in
    record {
      more = made.more;
      is = made.is;
      each = Each-weaker (λ h event. event.client ≡ client → IsGetOrRelease event.op) (LeavesBranches client) (λ h event alone mine branch. same-branches h event branch (release-apart event.op (alone mine))) first made.more made.each;
    }

-- ---- where no branch is changed any more
-- an event of a list in two parts stands in the second or in the first
in-parts : (xs ys ws : List Event) (z : Event) (zs : List Event) → xs ++ ys ≡ ws ++ z ∷ zs → ((m : List Event) × (ws ≡ xs ++ m)) ⊎ ((m : List Event) × (xs ≡ ws ++ z ∷ m))
in-parts [] ys ws z zs e = inl (ws, refl)
in-parts (x ∷ xs) ys [] z zs e = inr (xs, let same : x ≡ z = cc in ap (λ (y : Event). y ∷ xs) same)
in-parts (x ∷ xs) ys (w ∷ ws) z zs e =
    let same : x ≡ w = cc in
    elim (in-parts xs ys ws z zs cc) [
      | inl h ↦ inl (h.0, ap (λ (l : List Event). w ∷ l) h.1 ∙ ap (λ (y : Event). y ∷ (xs ++ h.0)) (sym same))
      | inr h ↦ inr (h.0, ap (λ (l : List Event). x ∷ l) h.1 ∙ ap (λ (y : Event). y ∷ (ws ++ z ∷ h.0)) same)
    ]

-- what a client committed, and how it ended, stays so
module _ (files : Files) (client : ℕ) (start ended journal : List Event) (later : ChangedNothing client ended journal) where
  earlier-committed : (id : Id12) → HasCommitOf files client id start journal → HasCommitOf files client id start ended
  earlier-committed id c = elim (in-parts ended later.more c.before c.event c.after (sym later.is ∙ c.is)) [
    | inl h ↦ absurd (none-committed files client ended journal later id (record { before = c.before; event = c.event; after = c.after; is = c.is; since = h.0; before_is = h.1; own = c.own; branch = c.branch; old = c.old; takes_effect = c.takes_effect }))
    | inr h ↦ record { before = c.before; event = c.event; after = h.0; is = h.1; since = c.since; before_is = c.before_is; own = c.own; branch = c.branch; old = c.old; takes_effect = c.takes_effect }
  ]

  pub later-ends : (end : End) → EndsRight files client end start ended → EndsRight files client end start journal
  later-ends (E.Committed id) c = record {
    before = c.before;
    event = c.event;
    after = c.after ++ later.more;
    is = later.is ∙ ap (λ (h : List Event). h ++ later.more) c.is ∙ append_assoc c.before (c.event ∷ c.after) later.more;
    since = c.since;
    before_is = c.before_is;
    own = c.own;
    branch = c.branch;
    old = c.old;
    takes_effect = c.takes_effect;
  }
  later-ends (E.Collected removed) e = absurd e
  later-ends E.Done none = λ id c. none id (earlier-committed id c)
  later-ends (E.Refused line why) none = λ id c. none id (earlier-committed id c)
  later-ends (E.Stopped line why removed) e = absurd e
  later-ends (E.InDoubt id how) names = λ other c. names other (earlier-committed other c)
  later-ends (E.Expired line cases result) e = absurd e
  later-ends (E.Checked line faults result) e = absurd e

-- ---- a commit in doubt
-- where two events stand in a list: the first comes before the second, or is it, or comes behind it
two-places : (xs : List Event) (x : Event) (ys zs : List Event) (z : Event) (ws : List Event) → xs ++ x ∷ ys ≡ zs ++ z ∷ ws → ((xs ≡ zs) × (x ≡ z)) ⊎ (((m : List Event) × (zs ≡ xs ++ x ∷ m)) ⊎ ((m : List Event) × (xs ≡ zs ++ z ∷ m)))
two-places [] x ys [] z ws e = inl (refl, cc)
two-places [] x ys (b ∷ bs) z ws e = inr (inl (bs, let same : x ≡ b = cc in ap (λ (y : Event). y ∷ bs) (sym same)))
two-places (a ∷ older) x ys [] z ws e = inr (inr (older, let same : a ≡ z = cc in ap (λ (y : Event). y ∷ older) same))
two-places (a ∷ older) x ys (b ∷ bs) z ws e =
    let same : a ≡ b = cc in
    elim (two-places older x ys bs z ws cc) [
      | inl h ↦ inl (ap (λ (l : List Event). a ∷ l) h.0 ∙ ap (λ (y : Event). y ∷ bs) same, h.1)
      | inr (inl m) ↦ inr (inl (m.0, ap (λ (l : List Event). b ∷ l) m.1 ∙ ap (λ (y : Event). y ∷ (older ++ x ∷ m.0)) (sym same)))
      | inr (inr m) ↦ inr (inr (m.0, ap (λ (l : List Event). a ∷ l) m.1 ∙ ap (λ (y : Event). y ∷ (bs ++ z ∷ m.0)) same))
    ]

-- a commit that took effect, where the client changed a branch by one event alone, is that event
module _ (files : Files) (client : ℕ) (start before : List Event) (event : Event) (after journal : List Event) (is : journal ≡ before ++ event ∷ after) (once : ChangedOnce client start before event journal) (id : Id12) (c : HasCommitOf files client id start journal) where
  is-that : c.event ≡ event
  is-that = elim (two-places before event after c.before c.event c.after (sym is ∙ c.is)) [
    | inl h ↦ sym h.1
    | inr (inl m) ↦
        absurd (none-committed files client (before ++ event ∷ []) journal once.later id
        (record { before = c.before; event = c.event; after = c.after; is = c.is; since = m.0; before_is = m.1 ∙ sym (append_assoc before (event ∷ []) m.0); own = c.own; branch = c.branch; old = c.old; takes_effect = c.takes_effect }))
    | inr (inr m) ↦ absurd (none-committed files client start before once.earlier id (record { before = c.before; event = c.event; after = m.0; is = m.1; since = c.since; before_is = c.before_is; own = c.own; branch = c.branch; old = c.old; takes_effect = c.takes_effect }))
  ]

same-bytes : (key other : Key) (a b : List ℕ) (v w : Version) → PutOver key a v Commit ≡ PutOver other b w Commit → a ≡ b
same-bytes key other a b v w e = cc

doubt-names : (trees : Id12 → Option Tree) (client : ℕ) (s : SessionState) (message : List ℕ) (start : List Event) (end : End) (journal : List Event) → (d : told.WasInDoubt client s message start end journal) → (other : Id12) → HasCommitOf (files_by trees) client other start journal → other ≡ d.id
doubt-names trees client s message start end journal d other c =
    let gets = d.settled.1 in
    let own = d.doubted.own in
    let later : ChangedNothing client (own.before ++ own.event ∷ []) journal =
    nothing-then client (own.before ++ own.event ∷ []) (start ++ d.since) journal d.doubted.once.later (gets-nothing client (start ++ d.since) journal gets) in
    let is : journal ≡ own.before ++ own.event ∷ (own.after ++ gets.more) = gets.is ∙ ap (λ (h : List Event). h ++ gets.more) own.is ∙ append_assoc own.before (own.event ∷ own.after) gets.more in
    let once : ChangedOnce client start own.before own.event journal = record { earlier = d.doubted.once.earlier; later = later } in
    let event : c.event ≡ own.event = is-that (files_by trees) client start own.before own.event (own.after ++ gets.more) journal is once other c in
    let bytes : c.takes_effect.bytes ≡ d.doubted.bytes =
    same-bytes (Branch c.branch) (Branch (branch_of s)) c.takes_effect.bytes d.doubted.bytes (version_at c.old) (version_at (version_of s)) (sym c.takes_effect.op_is ∙ ap (λ (e : Event). e.op) event ∙ own.op_is) in
    some-id other d.id (sym c.takes_effect.names ∙ ap ref_of bytes ∙ d.doubted.names)

-- ---- refusals
module _ (trees : Id12 → Option Tree) (client : ℕ) (start journal : List Event) where
  abbrev None_ : Type 0
  None_ = (id : Id12) → ¬ HasCommitOf (files_by trees) client id start journal

  nothing : ChangedNothing client start journal → None_
  nothing c = none-committed (files_by trees) client start journal c

  open-failed : (a : Asked) (f : WasFailed client (IsOfOpening a) start journal) → IsApart f.op
  open-failed a f = elim f.of_kind [
    | inl g ↦ get-apart f.op g.0 g.2
    | inr g ↦ get-apart f.op (Snapshot g.0) g.1
  ]

  open-none : (a : Asked) (why : Refusal) → RefusalTells client a start why journal → None_
  open-none a R.NoRef t = nothing t.1
  open-none a (R.Missing key) t = nothing t.1
  open-none a (R.BadFile key bad) t = nothing t.1
  open-none a R.StoreFault t = nothing (failed-nothing client (IsOfOpening a) start journal t (open-failed a t))
  open-none a R.NoMemory t = nothing t
  open-none a _ t = absurd t

  set-none : (s : SessionState) (path index bytes : List ℕ) (why : Refusal) → SetTells client s path index bytes start (Err why) journal → None_
  set-none s path index bytes R.StoreFault t = nothing (failed-nothing client (IsOfSet s bytes) start journal t (chunk-apart t.op t.of_kind.0 bytes t.of_kind.2))
  set-none s path index bytes why t = nothing t.1

  get-failed : (s : SessionState) (path index : List ℕ) (f : WasFailed client (IsOfGet client s path index start journal) start journal) → IsApart f.op
  get-failed s path index f = elim f.of_kind [
    | inl g ↦ get-apart f.op (Manifest g.0) g.2
    | inr g ↦ get-apart f.op (Chunk g.0) g.2
  ]

  get-none : (s : SessionState) (path index : List ℕ) (why : Refusal) → GetTells client s path index start (Err why) journal → None_
  get-none s path index R.StoreFault t = nothing (failed-nothing client (IsOfGet client s path index start journal) start journal t (get-failed s path index t))
  get-none s path index why t = nothing t.1

  commit-none : (s : SessionState) (message : List ℕ) (why : Refusal) → ((id : Id12) → why ≢ R.InDoubt id) → CommitTells client s message start (Err why) journal → None_
  commit-none s message R.StoreFault n t = nothing t.1
  commit-none s message (R.InDoubt id) n t = absurd (n id refl)
  commit-none s message why n t = nothing t.1

  refused-none : (d : LineDeed) (s : SessionState) (last : List Shown) (why : Refusal) → told.Refuses client d s start last why journal → None_
  refused-none (Goes went) s last why t = nothing t.1
  refused-none (Sets path index bytes) s last why t = set-none s path index bytes why t
  refused-none (Reads path index show) s last why t = get-none s path index why t
  refused-none (Puts path from to numbers) s last why t = nothing t.2
  refused-none (Gathers path from to show) s last why t = nothing t.2
  refused-none (Leases show) s last why t = nothing t.1
  refused-none (Commits message) s last why t = absurd t

  -- ---- how the lines end
  abbrev Ends : End → Type 0
  Ends end = EndsRight (files_by trees) client end start journal

  refused-ends : (line : ℕ) (why : Refusal) (end : End) → end ≡ Refused line why → None_ → Ends end
  refused-ends line why end is none = subst Ends (sym is) none

  -- in doubt: whatever took effect is the event that failed
  doubted-ends : (s : SessionState) (message : List ℕ) (end : End) → told.WasInDoubt client s message start end journal → Ends end
  doubted-ends s message end d = subst Ends (sym d.end_is) (doubt-names trees client s message start end journal d)

  tried-ends : (access : Access) (l : Line) (s : SessionState) (last : List Shown) (end : End) → told.WasTriedAt client access l s start last end journal → Ends end
  tried-ends access l s last end t = elim t.ends [
    | inl c ↦ subst Ends (sym c.end_is) (took-committed trees client t.at_last t.message c.made start journal c.took)
    | inr (inl c) ↦ doubted-ends t.at_last t.message end c
    | inr (inr (inl c)) ↦ refused-ends l.number c.why end c.end_is (commit-none t.at_last t.message c.why c.no_doubt c.tells)
    | inr (inr (inr (inl c))) ↦ refused-ends l.number (R.LostRace c.old c.found) end c.end_is (nothing c.moved.nothing)
    | inr (inr (inr (inr c))) ↦ refused-ends l.number c.why end c.end_is (nothing c.nothing)
  ]

  pub lines-end : (access : Access) (left : List Line) (s : SessionState) (last : List Shown) (end : End) → told.EndsAt client access left s start last end journal → Ends end
  lines-end access [] s last end t = subst Ends (sym t.0) (nothing t.1)
  lines-end access (l ∷ ls) s last end (inl r) = refused-ends l.number r.why end r.end_is (refused-none (deed l.number l.call s) s last r.why r.refuses)
  lines-end access (l ∷ ls) s last end (inr (inl r)) = refused-ends l.number R.NoMemory end r.end_is (nothing r.nothing)
  lines-end access (l ∷ ls) s last end (inr (inr r)) = tried-ends access l s last end r

  pub unopened-end : (a : Asked) (line : ℕ) (why : Refusal) (end : End) → end ≡ Refused line why → RefusalTells client a start why journal → Ends end
  unopened-end a line why end is t = refused-ends line why end is (open-none a why t)
