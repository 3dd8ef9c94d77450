-- Nothing is put again in a run, and for each of its commits there are its session's changes.
use Rattle.std.proofs.Common.{◌≡◌, inl, inr, ◌⊎◌, ℕ, ◌+◌, ◌<◌, List, [], ◌∷◌, ◌++◌, length, refl, sym, ◌∙◌, ap, subst, arith}
use Rattle.std.specs.Prelude.{Some, slice_get, All}
use Rattle.std.proofs.lemmas.Option.{slice_get_within, get_or_from_slice_get}
use Rattle.std.proofs.lemmas.List.Elements.{All-get_or}
use Rattle.ice_ids.specs.declared.Id12.{Id12}
use Rattle.ice_ids.specs.declared.drawing.AnyIds.{AnyIds}
use Rattle.ice_ids.specs.declared.drawing.Draw.{Draw}
use Rattle.ice_ids.specs.Drawing.{IsAmong, DrawsOnce}
use Rattle.zarr_tree.specs.Changes.{Changes, none}
use Rattle.repo_objects.specs.Readings.{ref_of}
use Rattle.object_store.specs.declared.keys.Key.{Key}
use Rattle.object_store.specs.declared.keys.Key.TheVariants.{Snapshot, Manifest, Txn, Chunk, Branch, Tag, Tombstone, Lease}
use Rattle.object_store.specs.declared.keys.Why.{Why}
use Rattle.object_store.specs.declared.keys.Why.TheVariants.{Commit}
use Rattle.object_store.specs.declared.events.Version.{Version}
use Rattle.object_store.specs.declared.events.Op.{Op}
use Rattle.object_store.specs.declared.events.Op.TheVariants.{Get, PutNew, PutOver, Remove, RemoveAt, List as ListPart}
use Rattle.object_store.specs.declared.events.Event.{Event}
use Rattle.store_api.specs.Journal.{Each, puts_of, IsGood, IsOnce, IsFirst, IsUnused}
use Rattle.store_api.specs.Laws.{PutsOnce}
use Rattle.object_store.proofs.Journals.{Each-append}
use Rattle.store_api.proofs.Once.{first-law}
use Rattle.store_api.specs.Telling.{ChangedNothing}
use Rattle.histories.proofs.Choosing.{Knows}
use Rattle.session.specs.Sessions.{changes_in}
use Rattle.session.specs.Sources.{MayDrawObject}
use Rattle.commit_path.specs.Owed.{IsCarefulEvent, IsMade, OwesOver, Owes}
use Rattle.collecting.specs.Runs.{walk_of}
use Rattle.collecting.specs.Walks.{IsObject, MayDo, Walk}
use Rattle.play_expire.specs.Playing.{terms_of}
use Rattle.play_refs.specs.Telling.{OwesRefs}
use Rattle.script_calls.specs.declared.calls.Access.{Access}
use Rattle.script_calls.specs.declared.calls.Head.{Head}
use Rattle.script_calls.specs.declared.calls.Head.TheVariants.{Session, Refs, Collect, Expire, Check}
use Rattle.play_script.specs.declared.scripts.Task.{Task}
use Rattle.play_script.specs.Well.{IsWellTask}
use Rattle.commit_path.specs.Own.{IsOwnCommit, OwesOwn, id_of}
use Rattle.play_tasks.specs.Owing.{ComesBefore, IsPut, OwesBy, OwesOwnBy}
use Rattle.play_tasks.specs.Solving.{IsOfTask}
use Rattle.play_tasks.specs.Tasks.{ids_at, IsOfClient}
use Rattle.run_histories.specs.Told.{IsOfSession, CommitsSession}
use Rattle.run_histories.proofs.Sources.{object-not_initial}
use Rattle.run_histories.proofs.Carrying.{task-object}
use Rattle.run_histories.proofs.Drawing.{are-among, ids_at-of}
use Rattle.run_histories.proofs.Expiring.{expiry-plain}
use Rattle.run_histories.proofs.Checking.{read-plain}
use Rattle.run_histories.proofs.Programs.{IsCleanup, IsPlain, IsPlainOrCleanup}
use Rattle.run_histories.proofs.Single.{CommitsFirst}

-- where the event is a commit, it is its client's own
abbrev pub CommitsOwn : (start journal : List Event) → Event → Type 0
CommitsOwn start journal event = (branch bytes : List ℕ) (old : Version) → event.op ≡ PutOver (Branch branch) bytes old Commit → IsOwnCommit event.client bytes start journal

-- the event puts nothing again, where nothing was put again before it
abbrev pub StaysOnce : List Event → Event → Type 0
StaysOnce journal event = IsOnce journal → IsFirst journal event

-- ---- an event of a run
-- it is good and puts nothing again, its changes are known, and a commit is its client's own, and comes before its client changed a branch
pub record Fits (draw : Draw) (tasks : List Task) (start journal : List Event) (event : Event) : Type 0 where
  pub good : IsGood journal event
  pub first : StaysOnce journal event
  pub knows : IsOnce journal → Knows (λ h e c. CommitsSession draw tasks start c h e.client e.op) journal event
  pub own : CommitsOwn start journal event
  pub early : CommitsFirst start journal event

-- of the opening, the closing reading, a task on refs, a collection, an expiry, or a check
plain-once : (journal : List Event) (op : Op) → IsPlain op → PutsOnce journal op
plain-once journal (Get key) p = tt
plain-once journal (PutNew (Snapshot id) bytes why) p = (λ e. p.1, λ differs. absurd (differs p.0))
plain-once journal (PutNew (Branch name) bytes why) p = tt
plain-once journal (PutNew (Manifest id) bytes why) p = absurd p
plain-once journal (PutNew (Txn id) bytes why) p = absurd p
plain-once journal (PutNew (Chunk id) bytes why) p = absurd p
plain-once journal (PutNew (Tag name) bytes why) p = tt
plain-once journal (PutNew (Tombstone name) bytes why) p = tt
plain-once journal (PutNew (Lease id) bytes why) p = tt
plain-once journal (PutOver key bytes old why) p = tt
plain-once journal (Remove key why) p = tt
plain-once journal (RemoveAt key old why) p = tt
plain-once journal (ListPart part) p = tt

cleanup-once : (journal : List Event) (op : Op) → IsCleanup op → PutsOnce journal op
cleanup-once journal (Get key) c = tt
cleanup-once journal (PutNew key bytes why) c = absurd c
cleanup-once journal (PutOver key bytes old why) c = tt
cleanup-once journal (Remove key why) c = tt
cleanup-once journal (RemoveAt key old why) c = tt
cleanup-once journal (ListPart part) c = tt

either-once : (journal : List Event) (op : Op) → IsPlainOrCleanup op → PutsOnce journal op
either-once journal op (inl p) = plain-once journal op p
either-once journal op (inr c) = cleanup-once journal op c

pub plain-stays : (journal : List Event) (event : Event) → IsGood journal event → IsPlainOrCleanup event.op → StaysOnce journal event
plain-stays journal event good p once done = first-law journal event.op once good.polite (either-once journal event.op p)

-- it is no commit
pub plain-no-commit : (op : Op) (branch bytes : List ℕ) (old : Version) → IsPlainOrCleanup op → op ≡ PutOver (Branch branch) bytes old Commit → ⊥
plain-no-commit op branch bytes old (inl p) e = let reset = (subst IsPlain e p).1 in cc
plain-no-commit op branch bytes old (inr c) e = subst IsCleanup e c

module _ (draw : Draw) (tasks : List Task) where
  plain-none : (start journal : List Event) (client : ℕ) (op : Op) → IsPlainOrCleanup op → CommitsSession draw tasks start none journal client op
  plain-none start journal client op p branch bytes old id e names = absurd (plain-no-commit op branch bytes old p e)

  pub plain-fits : (start journal : List Event) (event : Event) → IsGood journal event → IsPlainOrCleanup event.op → Fits draw tasks start journal event
  plain-fits start journal event good p = record {
    good = good;
    first = plain-stays journal event good p;
    knows = λ once. (none, plain-none start journal event.client event.op p);
    own = λ branch bytes old e. absurd (plain-no-commit event.op branch bytes old p e);
    early = λ branch bytes old e. absurd (plain-no-commit event.op branch bytes old p e);
  }

-- an event of a task that opens a session
pub record IsOfOpener (draw : Draw) (tasks : List Task) (start journal : List Event) (event : Event) : Type 0 where
  pub place : ℕ
  pub task : Task
  pub client : event.client ≡ place + 1
  pub at : slice_get tasks place ≡ Some task
  pub access : Access
  pub head_is : task.head ≡ Session access
  pub careful : IsCarefulEvent (ids_at draw place) (IsOfTask (ids_at draw place) task (place + 1) start) journal event
  pub own : OwesOwn (ids_at draw place) (place + 1) start event.op journal
  pub early : IsPut event.op → ChangedNothing (place + 1) start journal

-- what a task on refs owes is plain
pub owes-plain : (op : Op) → OwesRefs op → IsPlain op
owes-plain (Get key) o = tt
owes-plain (PutNew (Branch name) bytes why) o = tt
owes-plain (PutNew (Tag name) bytes why) o = tt
owes-plain (PutNew (Tombstone name) bytes why) o = tt
owes-plain (PutNew (Lease id) bytes why) o = absurd o
owes-plain (PutNew (Snapshot id) bytes why) o = absurd o
owes-plain (PutNew (Manifest id) bytes why) o = absurd o
owes-plain (PutNew (Txn id) bytes why) o = absurd o
owes-plain (PutNew (Chunk id) bytes why) o = absurd o
owes-plain (PutOver (Branch name) bytes old why) o = (tt, o)
owes-plain (PutOver (Snapshot id) bytes old why) o = absurd o
owes-plain (PutOver (Manifest id) bytes old why) o = absurd o
owes-plain (PutOver (Txn id) bytes old why) o = absurd o
owes-plain (PutOver (Chunk id) bytes old why) o = absurd o
owes-plain (PutOver (Tag name) bytes old why) o = absurd o
owes-plain (PutOver (Tombstone name) bytes old why) o = absurd o
owes-plain (PutOver (Lease id) bytes old why) o = absurd o
owes-plain (Remove key why) o = absurd o
owes-plain (RemoveAt (Branch name) old why) o = tt
owes-plain (RemoveAt (Snapshot id) old why) o = absurd o
owes-plain (RemoveAt (Manifest id) old why) o = absurd o
owes-plain (RemoveAt (Txn id) old why) o = absurd o
owes-plain (RemoveAt (Chunk id) old why) o = absurd o
owes-plain (RemoveAt (Tag name) old why) o = absurd o
owes-plain (RemoveAt (Tombstone name) old why) o = absurd o
owes-plain (RemoveAt (Lease id) old why) o = absurd o
owes-plain (ListPart part) o = tt

-- what a collection may do is plain, or a removal
may-plain : (cutoff : ℕ) (w : Walk) (op : Op) → MayDo cutoff w op → IsPlainOrCleanup op
may-plain cutoff w (Get key) m = inl tt
may-plain cutoff w (ListPart part) m = inl tt
may-plain cutoff w (Remove key why) m = inr tt
may-plain cutoff w (PutNew key bytes why) m = absurd m
may-plain cutoff w (PutOver key bytes old why) m = absurd m
may-plain cutoff w (RemoveAt key old why) m = absurd m

-- An event of a run, whose tasks began at the start: of a task that opens a session; or one of the opening, of a task on refs, of a collection, of an
-- expiry, of a check, or of the closing reading. So it may be a cut of a snapshot's parent.
abbrev pub IsOfRun : Draw → List Task → (start journal : List Event) → Event → Type 0
IsOfRun draw tasks start journal event = IsOfOpener draw tasks start journal event ⊎ (IsGood journal event × IsPlainOrCleanup event.op)

-- and it puts nothing again
abbrev pub ComesOnce : Draw → List Task → (start journal : List Event) → Event → Type 0
ComesOnce draw tasks start journal event = IsOfRun draw tasks start journal event × StaysOnce journal event

-- each event of a client is one of the run
pub by-head : (draw : Draw) (tasks : List Task) (start journal : List Event) (event : Event) → IsOfClient draw tasks start journal event → IsOfRun draw tasks start journal event
by-head draw tasks start journal event c = by_cases c.task.head refl c.careful.owes c.careful.own c.before
  where
    by_cases : (head : Head) → c.task.head ≡ head → OwesBy head (ids_at draw c.place) c.task (c.place + 1) start journal event.op → OwesOwnBy head (ids_at draw c.place) (c.place + 1) start journal event.op → ComesBefore head (c.place + 1) start journal event.op → IsOfRun draw tasks start journal event
    by_cases (Session access) e o own early = inl (record { place = c.place; task = c.task; client = c.client; at = c.at; access = access; head_is = e; careful = record { good = c.careful.good; owes = o }; own = own; early = early })
    by_cases Refs e o own early = inr (c.careful.good, inl (owes-plain event.op o))
    by_cases (Collect cutoff) e o own early = inr (c.careful.good, may-plain cutoff (walk_of cutoff (c.place + 1) start journal) event.op o.may.1)
    by_cases (Expire cutoff drop_branches drop_tags) e o own early = inr (c.careful.good, expiry-plain (terms_of cutoff drop_branches drop_tags) (c.place + 1) start journal event.op o)
    by_cases Check e o own early = inr (c.careful.good, inl (read-plain event.op o))

-- ---- puts of new objects
-- what the operation puts new, of the objects whose ids the source may draw, still stands where it was put before
abbrev pub PutsUnused : AnyIds → List Event → Op → Type 0
PutsUnused ids journal op = (key : Key) (bytes : List ℕ) (why : Why) (id : Id12) → op ≡ PutNew key bytes why → IsObject key → id_of key ≡ Some id → MayDrawObject ids id → IsUnused journal key

module _ (draw : Draw) (most : ℕ) (once : DrawsOnce draw most) where
  owes-once : (ids : AnyIds) (task : Task) (client : ℕ) (start journal : List Event) (op : Op) → IsAmong draw most ids → IsWellTask task → PutsUnused ids journal op → Owes ids (IsOfTask ids task client start) journal op → PutsOnce journal op
  owes-once ids task client start journal (Get key) among well unused o = tt
  owes-once ids task client start journal (ListPart part) among well unused o = tt
  owes-once ids task client start journal (PutNew (Snapshot id) bytes why) among well unused o =
      let drawn : MayDrawObject ids id = task-object ids task client start journal o.session id well o.is_mine in
      (λ e. absurd (object-not_initial draw most once ids id among drawn e), λ differs. unused (Snapshot id) bytes why id refl tt refl drawn)
  owes-once ids task client start journal (PutNew (Txn id) bytes why) among well unused o = unused (Txn id) bytes why id refl tt refl o
  owes-once ids task client start journal (PutNew (Manifest id) bytes why) among well unused o = unused (Manifest id) bytes why id refl tt refl o
  owes-once ids task client start journal (PutNew (Chunk id) bytes why) among well unused o = unused (Chunk id) bytes why id refl tt refl o
  owes-once ids task client start journal (PutNew (Branch name) bytes why) among well unused o = tt
  owes-once ids task client start journal (PutNew (Tag name) bytes why) among well unused o = tt
  owes-once ids task client start journal (PutNew (Tombstone name) bytes why) among well unused o = tt
  owes-once ids task client start journal (PutNew (Lease id) bytes why) among well unused o = tt
  owes-once ids task client start journal (PutOver (Snapshot id) bytes old why) among well unused o = absurd o
  owes-once ids task client start journal (PutOver (Txn id) bytes old why) among well unused o = tt
  owes-once ids task client start journal (PutOver (Manifest id) bytes old why) among well unused o = tt
  owes-once ids task client start journal (PutOver (Chunk id) bytes old why) among well unused o = tt
  owes-once ids task client start journal (PutOver (Branch name) bytes old why) among well unused o = tt
  owes-once ids task client start journal (PutOver (Tag name) bytes old why) among well unused o = tt
  owes-once ids task client start journal (PutOver (Tombstone name) bytes old why) among well unused o = tt
  owes-once ids task client start journal (PutOver (Lease id) bytes old why) among well unused o = tt
  owes-once ids task client start journal (Remove key why) among well unused o = tt
  owes-once ids task client start journal (RemoveAt key old why) among well unused o = tt

module _ (draw : Draw) (tasks : List Task) (start : List Event) (client place : ℕ) (task : Task) (client_is : client ≡ place + 1) (at : slice_get tasks place ≡ Some task) (journal : List Event) (once : IsOnce journal) where
  -- a branch that is put over
  over-session : (name bytes : List ℕ) (old : ℕ) (why : Why) (branch : List ℕ) (id : Id12) → (o : OwesOver (IsOfTask (ids_at draw place) task (place + 1) start) journal name bytes old why) → name ≡ branch → ref_of bytes ≡ Some id → IsOfSession draw tasks start (changes_in (puts_of journal) o.session) journal client branch old id
  over-session name bytes old why branch id o branch_is names =
      let same : o.id ≡ id = some_same (sym o.names ∙ names) in
      record {
        place = place;
        client_is = client_is;
        task = task;
        at = at;
        session = o.session;
        of_task = subst (λ (i : Id12). IsOfTask (ids_at draw place) task (place + 1) start journal o.session i) same o.is_mine;
        branch_is = sym branch_is ∙ o.branch_is;
        version_is = o.version_is;
        changes_are = refl;
        made = subst (λ (i : Id12). IsMade o.session i journal) same (o.made once);
      }
    where
      some_same : Some o.id ≡ Some id → o.id ≡ id
      some_same e = cc

  over-commits : (name bytes : List ℕ) (old : Version) (why : Why) → (o : OwesOver (IsOfTask (ids_at draw place) task (place + 1) start) journal name bytes old.0 why) → CommitsSession draw tasks start (changes_in (puts_of journal) o.session) journal client (PutOver (Branch name) bytes old why)
  over-commits name bytes old why o branch other version id e names =
      let branches : name ≡ branch = cc in
      let references : bytes ≡ other = cc in
      let versions : old ≡ version = cc in
      subst (λ (v : Version). IsOfSession draw tasks start (changes_in (puts_of journal) o.session) journal client branch v.0 id) versions (over-session name bytes old.0 why branch id o branches (ap ref_of references ∙ names))

  op-knows : (op : Op) → Owes (ids_at draw place) (IsOfTask (ids_at draw place) task (place + 1) start) journal op → (c : Changes) × CommitsSession draw tasks start c journal client op
  op-knows (Get key) o = (none, λ branch bytes old id e names. absurd cc)
  op-knows (ListPart part) o = (none, λ branch bytes old id e names. absurd cc)
  op-knows (PutNew key bytes why) o = (none, λ branch other old id e names. absurd cc)
  op-knows (PutOver (Branch name) bytes old why) o = (changes_in (puts_of journal) o.session, over-commits name bytes old why o)
  op-knows (PutOver (Snapshot id) bytes old why) o = absurd o
  op-knows (PutOver (Txn id) bytes old why) o = absurd o
  op-knows (PutOver (Manifest id) bytes old why) o = absurd o
  op-knows (PutOver (Chunk id) bytes old why) o = absurd o
  op-knows (PutOver (Tag name) bytes old why) o = absurd o
  op-knows (PutOver (Tombstone name) bytes old why) o = absurd o
  op-knows (PutOver (Lease id) bytes old why) o = absurd o
  op-knows (Remove key why) o = (none, λ branch other old id e names. absurd cc)
  op-knows (RemoveAt key old why) o = absurd o

module _ (draw : Draw) (tasks : List Task) where
  -- the task at a place is well
  pub well-at : All IsWellTask tasks → (place : ℕ) (task : Task) → slice_get tasks place ≡ Some task → IsWellTask task
  well-at wells place task at = subst IsWellTask (get_or_from_slice_get tasks place task task at) (All-get_or IsWellTask tasks place task (slice_get_within tasks place task at) wells)

  -- the source of the client of a place is among the run's
  pub among-at : (place : ℕ) → place < length tasks → IsAmong draw (length tasks) (ids_at draw place)
  among-at place within = are-among draw (place + 1) (length tasks) (ids_at draw place) (omega (arith, within)) (ids_at-of draw place)

  -- an event of a task that opens a session puts nothing again, where what it puts new still stands
  pub opener-stays : DrawsOnce draw (length tasks) → All IsWellTask tasks → (start journal : List Event) (event : Event) → (c : IsOfOpener draw tasks start journal event) → PutsUnused (ids_at draw c.place) journal event.op → StaysOnce journal event
  opener-stays draws wells start journal event c unused once done =
      first-law journal event.op once c.careful.good.polite
      (owes-once draw (length tasks) draws (ids_at draw c.place) c.task (c.place + 1) start journal event.op (among-at c.place (slice_get_within tasks c.place c.task c.at)) (well-at wells c.place c.task c.at) unused c.careful.owes)

  pub client-fits : (start journal : List Event) (event : Event) → IsOfOpener draw tasks start journal event → StaysOnce journal event → Fits draw tasks start journal event
  client-fits start journal event c stays = record {
    good = c.careful.good;
    first = stays;
    knows = λ once. op-knows draw tasks start event.client c.place c.task c.client c.at journal once event.op c.careful.owes;
    own = λ branch bytes old e. subst (λ (n : ℕ). IsOwnCommit n bytes start journal) (sym c.client) (subst (λ (op : Op). OwesOwn (ids_at draw c.place) (c.place + 1) start op journal) e c.own);
    early = λ branch bytes old e. subst (λ (n : ℕ). ChangedNothing n start journal) (sym c.client) (c.early (subst IsPut (sym e) tt));
  }

  -- ---- along a run
  -- nothing is put again, and the changes are known
  pub record Goes (start old more : List Event) : Type 0 where
    pub first : Each IsFirst old more
    pub knows : Each (Knows (λ h e c. CommitsSession draw tasks start c h e.client e.op)) old more

  pub goes : (start old more : List Event) → IsOnce old → Each (Fits draw tasks start) old more → Goes start old more
  unfolding Each
  goes start old [] once fits = record { first = tt; knows = tt }
  goes start old (x ∷ xs) once fits =
      let first : IsFirst old x = fits.0.first once in
      let next = goes start (old ++ x ∷ []) xs (Each-append IsFirst [] old (x ∷ []) once (first, tt)) fits.1 in
      record { first = (first, next.first); knows = (fits.0.knows once, next.knows) }
