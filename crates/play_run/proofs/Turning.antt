-- One turn of one worker.
use Rattle.std.proofs.Common.{◌≡◌, ◌≢◌, ◌⊎◌, inl, inr, ℕ, ◌+◌, Bool, true, false, List, [], ◌∷◌, ◌++◌, refl, sym, ◌∙◌, ap, subst, append-nil, append_assoc, set, length, ◌<◌, ◌≤◌, arith, length-set}
use Rattle.std.proofs.lemmas.Bool.{leb-true, ltb-true}
use Rattle.std.specs.Prelude.{◌&&◌, nat_le, nat_lt, IsTrue, Some, slice_get}
use Rattle.ice_base.specs.Ends.{Rose}
use Rattle.ice_base.proofs.Counts.{Rose-before, Rose-after}
use Rattle.ice_ids.specs.declared.drawing.Draw.{Draw}
use Rattle.object_store.specs.declared.events.Op.{Op}
use Rattle.object_store.specs.declared.events.Reply.{Reply}
use Rattle.object_store.specs.declared.events.Event.{Event}
use Rattle.object_store.specs.Machine.{IsAnswered}
use Rattle.store_api.specs.Journal.{Each, IsGood, IsPolite}
use Rattle.store_api.specs.Callers.{Caller, View, Waits, Makes, IsOther, HasAll, own_event, owns, only, as_client}
use Rattle.store_api.specs.Plays.{Play, Ended, Ask, Or, IsLive, HasEnded, PlayKeeps, PlayIsPolite, Acts, Acted, Starved, dooms, BlamesEnd}
use Rattle.ice_ids.specs.declared.drawing.AnyIds.{AnyIds}
use Rattle.object_store.proofs.Journals.{Each-one, Each-none, Each-append}
use Rattle.store_api.proofs.Programs.{alone, has-all, good-waits, Waits-same, Waits-fewer, Makes-fewer, Fewer}
use Rattle.store_api.proofs.PlayLaws.{PlayKeeps-waits, PlayKeeps-acts, PlayLeads-waits, PlayLeads-acts}
use Rattle.commit_path.proofs.Owing.{KeepsMine, IsCareful-append}
use Rattle.commit_path.proofs.Knowing.{IsOpened-append}
use Rattle.store_api.proofs.Happening.{ChangedNothing-others}
use Rattle.store_api.proofs.Standing.{IsPolite-append}
use Rattle.commit_path.proofs.Singling.{HasPutAlike-others}
use Rattle.script_calls.specs.declared.calls.Head.{Head}
use Rattle.script_calls.specs.declared.calls.Head.TheVariants.{Session, Refs, Collect, Expire, Check}
use Rattle.play_script.specs.declared.scripts.Task.{Task}
use Rattle.play_refs.proofs.Playing.{RefsTells-others}
use Rattle.play_collect.proofs.Lasting.{owed-others, CollectedTells-others}
use Rattle.play_expire.specs.Playing.{terms_of}
use Rattle.play_expire.proofs.Lasting.{ExpiredTells-more}
use Rattle.expiry.proofs.Lasting.{owed-more}
use Rattle.play_check.proofs.Lasting.{outcome-lasts}
use Rattle.play_outcome.specs.declared.outcome.Outcome.{Outcome}
use Rattle.play_outcome.specs.Ending.{is_failed}
use Rattle.play_tasks.specs.Playing.{asked_by, policy_of}
use Rattle.play_tasks.specs.Solving.{IsOfTask}
use Rattle.commit_path.proofs.OwnKept.{OwesOwn-others}
use Rattle.play_tasks.specs.Owing.{OwesBy, OwesOwnBy, IsDue, ComesBefore, BeforeChange}
use Rattle.play_tasks.specs.Tasks.{ids_at, TellsAt, Stands, AllStand, IsOfClient, HasEndedAt}
use Rattle.play_tasks.specs.Laws.{OutcomeLaw}
use Rattle.play_tasks.proofs.Based.{open-others}
use Rattle.play_tasks.proofs.Early.{WasBegun-more}
use Rattle.play_tasks.proofs.Going.{CameToCommit-append}
use Rattle.play_tasks.proofs.Others.{TellsOutcome-others, TellsOutcome-waits}
use Rattle.play_tasks.proofs.Tried.{WasCarried-append}
use Rattle.play_run.specs.Order.{Turned, InTurns}
use Rattle.play_run.specs.inside.Taking.{Rested, Stepped, TookTurn}
use Rattle.play_run.specs.inside.Going.{CanGo, Blame, Kept, Went}
use Rattle.play_run.proofs.Places.{at_set}

-- ---- a caller that is alone
Waits-alone : (by : Caller) (old new : List Event) → HasAll by → Waits by old new → new ≡ old
Waits-alone by old new all w = w.is ∙ rw (alone by old w.between all w.others) (append-nil old)

-- the time of an event that was made; over a store that tells nothing it is any number
abbrev pub time_of : (tells : Bool) (by : Caller) (op : Op) (reply : Reply) (old new : List Event) → (IsTrue tells → Makes by op reply old new) → ℕ
time_of true by op reply old new made = (made refl).time
time_of false by op reply old new made = 0

record Adds (by : Caller) (op : Op) (reply : Reply) (time : ℕ) (old new : List Event) : Type 0 where
  pub is : new ≡ old ++ own_event by op reply time ∷ []
  pub answered : IsAnswered old (own_event by op reply time)

Adds-makes : (tells : Bool) (by : Caller) (op : Op) (reply : Reply) (old new : List Event) (made : IsTrue tells → Makes by op reply old new) → HasAll by → IsTrue tells → Adds by op reply (time_of tells by op reply old new made) old new
Adds-makes true by op reply old new made all told =
    let m = made refl in
    let same = Waits-alone by old m.middle all m.waits in
    record {
      is = m.is ∙ ap (λ (h : List Event). h ++ own_event by op reply m.time ∷ []) same;
      answered = subst (λ (h : List Event). IsAnswered h (own_event by op reply m.time)) same m.answered;
    }
Adds-makes false by op reply old new made all told = absurd (cc)

-- who owns less
fewer-only : (tells : Bool) (k : ℕ) (by : Caller) → HasAll by → by.number ≡ k → Fewer by (only tells k)
fewer-only tells k by all e = (sym e, λ n no. let y = has-all by all n in absurd (cc))

-- the view as a caller who owns fewer numbers sees it
abbrev pub seen_by : Caller → View → View
seen_by to view = record view { caller = to }

pub Acts-fewer : (by to : Caller) → Fewer by to → to.tells ≡ by.tells → (old new : View) (p q : Play Outcome) → old.caller ≡ by → Acts is_failed old new p q → Acts is_failed (seen_by to old) (seen_by to new) p q
Acts-fewer by to f told old new p q at s = record {
  same = refl;
  blames = s.blames;
  went = elim s.went [
    | inl a ↦ inl (record {
      op = a.op;
      starved = a.starved;
      next = a.next;
      reply = a.reply;
      asks = a.asks;
      fits = a.fits;
      made = λ tells. Makes-fewer by to f a.op a.reply old.seen new.seen (subst (λ (b : Caller). Makes b a.op a.reply old.seen new.seen) at (a.made (tells_at tells)));
      comes = a.comes;
    })
    | inr n ↦ inr (record { op = n.op; starved = n.starved; next = n.next; asks = n.asks; waits = λ tells. Waits-fewer by to f old.seen new.seen (subst (λ (b : Caller). Waits b old.seen new.seen) at (n.waits (tells_at tells))); comes = n.comes })
  ];
}
  where
    tells_at : IsTrue to.tells → IsTrue old.caller.tells
    tells_at tells = subst (λ (b : Caller). IsTrue b.tells) (sym at) (subst (λ (b : Bool). IsTrue b) told tells)

both_false : (a b : Bool) → (a ≡ true → b ≡ true → ⊥) → (a && b) ≡ false
both_false true true n = absurd (n refl refl)
both_false true false n = refl
both_false false b n = refl

-- another number isn't owned
pub only-other : (tells : Bool) (k n : ℕ) → n ≢ k + 1 → owns (only tells (k + 1)) n ≡ false
only-other tells k n differs = both_false (nat_le (k + 1) n) (nat_lt n (k + 1 + 1)) (λ a b. differs (between (leb-true (k + 1) n a) (ltb-true n (k + 1 + 1) b)))
  where
    between : k + 1 ≤ n → n < k + 1 + 1 → n ≡ k + 1
    between a b = omega (arith, a, b)

-- ---- what a step keeps
pub PlayKeeps-now : (P : List Event → ℕ → Op → Type 0) (by : Caller) (op : Op) (starved : Play Outcome) (next : Reply → Play Outcome) (p : Play Outcome) (journal : List Event) → p ≡ Ask op starved next → PlayKeeps P by p journal → P journal by.number op
unfolding PlayKeeps
PlayKeeps-now P by op starved next (Ended a) journal e k = absurd (cc)
PlayKeeps-now P by op starved next (Ask o s f) journal e k = let same : o ≡ op = cc in subst (λ (x : Op). P journal by.number x) same k.0
PlayKeeps-now P by op starved next (Or p r) journal e k = absurd (cc)

-- what the next operation owes
pub Keeps-polite : (ids : AnyIds) (task : Task) (number : ℕ) (start : List Event) (by : Caller) (p : Play Outcome) (journal : List Event) → PlayKeeps (IsDue ids task number start) by p journal → PlayIsPolite p journal
unfolding PlayKeeps
Keeps-polite ids task number start by (Ended a) journal k = tt
Keeps-polite ids task number start by (Ask op starved next) journal k = k.0.polite
Keeps-polite ids task number start by (Or p r) journal k = tt

-- what an outcome tells lasts
outcomes : OutcomeLaw
outcomes by ids task outcome start journal more others = TellsOutcome-others (record { refs = λ by body outcome start journal more others. RefsTells-others by journal more others body start outcome; collect = λ by line cutoff outcome start journal more others. CollectedTells-others cutoff by start journal more others line outcome; expire = λ by line terms outcome start journal more others. ExpiredTells-more line terms by.number start journal more outcome; check = outcome-lasts }) by start journal more others ids task outcome

next_same : (k t : ℕ) → t + 1 ≡ k + 1 → k ≡ t
next_same k t e = omega (arith, e)

-- a session of a task stays one, whatever others do
of-task-others : (by : Caller) (ids : AnyIds) (task : Task) (start journal more : List Event) → Each (IsOther by) journal more → KeepsMine (IsOfTask ids task by.number start) journal more
of-task-others by ids task start journal more others t id o = record {
  access = o.access;
  head_is = o.head_is;
  opened = o.opened;
  begun = WasBegun-more by.number (asked_by o.access ids) o.opened start journal more o.begun;
  early = o.early;
  read = IsOpened-append o.opened journal more (good-waits by journal more others) o.read;
  session = o.session;
  came = CameToCommit-append by.number task.body o.opened start journal more o.session (good-waits by journal more others) o.came;
  count = o.count;
  few = o.few;
  carried = WasCarried-append by.number (policy_of o.access) o.count o.session t start journal more o.carried;
  alike = HasPutAlike-others by t start journal more others o.alike;
  drawn = o.drawn;
}

-- what the client of a task owes of an operation, whichever client it is
abbrev Owing : AnyIds → Task → List Event → List Event → ℕ → Op → Type 0
Owing ids task start journal client op = IsDue ids task client start journal client op

owes-others : (by : Caller) (ids : AnyIds) (task : Task) (start journal more : List Event) (op : Op) → Each (IsOther by) journal more → IsPolite journal op → (head : Head) → OwesBy head ids task by.number start journal op → OwesBy head ids task by.number start (journal ++ more) op
owes-others by ids task start journal more op o polite (Session access) owes =
    (IsCareful-append ids (IsOfTask ids task by.number start) journal more by.number op (of-task-others by ids task start journal more o) (good-waits by journal more o) (record { polite = polite; owes = owes })).owes
owes-others by ids task start journal more op o polite Refs owes = owes
owes-others by ids task start journal more op o polite (Collect cutoff) owes = owed-others cutoff by start journal more o op owes
owes-others by ids task start journal more op o polite (Expire cutoff drop_branches drop_tags) owes = owed-more (terms_of cutoff drop_branches drop_tags) by.number start journal more op owes
owes-others by ids task start journal more op o polite Check owes = owes

own-others : (by : Caller) (ids : AnyIds) (start journal more : List Event) (op : Op) → Each (IsOther by) journal more → (head : Head) → OwesOwnBy head ids by.number start journal op → OwesOwnBy head ids by.number start (journal ++ more) op
own-others by ids start journal more op o (Session access) own = OwesOwn-others by ids start journal more op o own
own-others by ids start journal more op o Refs own = own
own-others by ids start journal more op o (Collect cutoff) own = own
own-others by ids start journal more op o (Expire cutoff drop_branches drop_tags) own = own
own-others by ids start journal more op o Check own = own

stable : (ids : AnyIds) (task : Task) (start : List Event) (by : Caller) (journal more : List Event) (op : Op) → Each (IsOther by) journal more → Owing ids task start journal by.number op → Owing ids task start (journal ++ more) by.number op
stable ids task start by journal more op o c = record { polite = IsPolite-append journal more op (good-waits by journal more o) c.polite; owes = owes-others by ids task start journal more op o c.polite task.head c.owes; own = own-others by ids start journal more op o task.head c.own; open_at = open-others by start journal more o task.head ids op c.open_at }

-- where Q follows from P of the caller's own operations
keeps-own : (P Q : List Event → ℕ → Op → Type 0) (by : Caller) → ((journal : List Event) (op : Op) → P journal by.number op → Q journal by.number op) → (p : Play Outcome) (journal : List Event) → PlayKeeps P by p journal → PlayKeeps Q by p journal
unfolding PlayKeeps
keeps-own P Q by f (Ended a) journal k = tt
keeps-own P Q by f (Ask op s n) journal k = (f journal op k.0, keeps-own P Q by f s journal k.1, λ reply new m. keeps-own P Q by f (n reply) new (k.2 reply new m))
keeps-own P Q by f (Or p q) journal k = (keeps-own P Q by f p journal k.0, keeps-own P Q by f q journal k.1)

module _ (ids : AnyIds) (task : Task) (start : List Event) (tells : Bool) (k : ℕ) where
  abbrev Owed : List Event → ℕ → Op → Type 0
  Owed = IsDue ids task (k + 1) start

  -- it stays careful while it waits, and by a step of its own
  pub careful-waits : (p : Play Outcome) (old new : List Event) → Waits (only tells (k + 1)) old new → PlayKeeps Owed (only tells (k + 1)) p old → PlayKeeps Owed (only tells (k + 1)) p new
  careful-waits p old new w c =
      keeps-own (Owing ids task start) Owed (only tells (k + 1)) (λ h op x. x) p new
      (PlayKeeps-waits (Owing ids task start) (stable ids task start) (only tells (k + 1)) p old new w (keeps-own Owed (Owing ids task start) (only tells (k + 1)) (λ h op x. x) p old c))

  pub careful-acts : (old new : View) (p q : Play Outcome) → old.caller ≡ only tells (k + 1) → IsTrue old.caller.tells → Acts is_failed old new p q → PlayKeeps Owed (only tells (k + 1)) p old.seen → PlayKeeps Owed (only tells (k + 1)) q new.seen
  careful-acts old new p q same told acts c =
      keeps-own (Owing ids task start) Owed (only tells (k + 1)) (λ h op x. x) q new.seen
      (subst (λ (by : Caller). PlayKeeps (Owing ids task start) by q new.seen) same
      (PlayKeeps-acts (Owing ids task start) (stable ids task start) is_failed old new p q told acts
      (subst (λ (by : Caller). PlayKeeps (Owing ids task start) by p old.seen) (sym same) (keeps-own Owed (Owing ids task start) (only tells (k + 1)) (λ h op x. x) p old.seen c))))

-- the client of a task that opens a session has changed no branch before it puts something
abbrev pub Before : Task → List Event → List Event → ℕ → Op → Type 0
Before task start journal client op = BeforeChange task client start journal op

before-others : (by : Caller) (start journal more : List Event) (op : Op) → Each (IsOther by) journal more → (head : Head) → ComesBefore head by.number start journal op → ComesBefore head by.number start (journal ++ more) op
before-others by start journal more op others (Session access) c = λ puts. ChangedNothing-others by start journal more others (c puts)
before-others by start journal more op others Refs c = c
before-others by start journal more op others (Collect cutoff) c = c
before-others by start journal more op others (Expire cutoff drop_branches drop_tags) c = c
before-others by start journal more op others Check c = c

pub stable-before : (task : Task) (start : List Event) (by : Caller) (journal more : List Event) (op : Op) → Each (IsOther by) journal more → Before task start journal by.number op → Before task start (journal ++ more) by.number op
stable-before task start by journal more op others c = before-others by start journal more op others task.head c

-- what holds of each worker, where one of them went on
AllStand-set : (draw : Draw) (tasks : List Task) (start : List Event) (tells : Bool) (ps : List (Play Outcome)) (t : ℕ) (p q : Play Outcome) (old new : List Event) → slice_get ps t ≡ Some p → AllStand draw tasks start tells ps old → Stands draw tasks start tells t q new → ((k : ℕ) → k ≢ t → Waits (only tells (k + 1)) old new) → AllStand draw tasks start tells (set ps t q) new
AllStand-set draw tasks start tells ps t p q old new at all mine others =
    at_set (λ k r. Stands draw tasks start tells k r new) ps t p q at mine (λ k r differs e.
    let s = all k r e in
    record {
      task = s.task;
      at = s.at;
      careful = careful-waits (ids_at draw k) s.task start tells k r old new (others k differs) s.careful;
      before = PlayKeeps-waits (Before s.task start) (stable-before s.task start) (only tells (k + 1)) r old new (others k differs) s.before;
      leads = PlayLeads-waits (TellsAt draw k s.task start) (only tells (k + 1)) (TellsOutcome-waits outcomes (only tells (k + 1)) (ids_at draw k) s.task start) r old new (others k differs) s.leads;
    })

-- the event that a step made
abbrev made_event : (t : ℕ) (old new : View) (p q : Play Outcome) → Acted (as_client (t + 1) old) new p q → Event
made_event t old new p q a = own_event ((as_client (t + 1) old).caller) a.op a.reply (time_of old.caller.tells ((as_client (t + 1) old).caller) a.op a.reply old.seen new.seen a.made)

module _ (draw : Draw) (tasks : List Task) (start : List Event) (t : ℕ) (old new : View) (ps qs : List (Play Outcome)) (told : IsTrue old.caller.tells) (all : AllStand draw tasks start old.caller.tells ps old.seen) where
  tells : Bool
  tells = old.caller.tells

  by : Caller
  by = (as_client (t + 1) old).caller

  -- a turn of a worker that had ended
  kept-rested : Rested t old new ps qs → Kept draw tasks start old new [] qs
  kept-rested r = record {
    stand = subst (λ (v : View). AllStand draw tasks start v.caller.tells qs v.seen) (sym r.store) (subst (λ (xs : List (Play Outcome)). AllStand draw tasks start old.caller.tells xs old.seen) (sym r.same) all);
    is = ap (λ (v : View). v.seen) r.store ∙ sym (append-nil old.seen);
    careful = Each-none (IsOfClient draw tasks start) old.seen;
  }

  -- the worker that stepped stands as before
  stands_still : (s : Stepped t old new ps qs) → Stands draw tasks start tells t s.q new.seen
  unfolding tells by
  stands_still s =
      let mine = all t s.p s.at in
      let owner : HasAll by = record { low = s.alone.low; end = s.alone.end } in
      let to : Caller = only tells (t + 1) in
      let acts = Acts-fewer by to (fewer-only tells (t + 1) by owner refl) refl (as_client (t + 1) old) new s.p s.q refl s.acts in
      record {
        task = mine.task;
        at = mine.at;
        careful = careful-acts (ids_at draw t) mine.task start tells t (seen_by to (as_client (t + 1) old)) (seen_by to new) s.p s.q refl told acts mine.careful;
        before = PlayKeeps-acts (Before mine.task start) (stable-before mine.task start) is_failed (seen_by to (as_client (t + 1) old)) (seen_by to new) s.p s.q told acts mine.before;
        leads = PlayLeads-acts (TellsAt draw t mine.task start) is_failed (seen_by to (as_client (t + 1) old)) (seen_by to new) s.p s.q (TellsOutcome-waits outcomes to (ids_at draw t) mine.task start) told acts mine.leads;
      }

  -- all stand, where the others waited
  all_stand : (s : Stepped t old new ps qs) → ((k : ℕ) → k ≢ t → Waits (only tells (k + 1)) old.seen new.seen) → AllStand draw tasks start new.caller.tells qs new.seen
  unfolding tells by stands_still
  all_stand s others =
      let same : new.caller.tells ≡ old.caller.tells = ap (λ (c : Caller). c.tells) s.acts.same in
      let stand = AllStand-set draw tasks start tells ps t s.p s.q old.seen new.seen s.at all (stands_still s) others in
      subst (λ (b : Bool). AllStand draw tasks start b qs new.seen) (sym same) (subst (λ (xs : List (Play Outcome)). AllStand draw tasks start tells xs new.seen) (sym s.rest) stand)

  kept-acted : (s : Stepped t old new ps qs) (a : Acted (as_client (t + 1) old) new s.p s.q) → Kept draw tasks start old new (made_event t old new s.p s.q a ∷ []) qs
  unfolding tells by all_stand
  kept-acted s a =
      let mine = all t s.p s.at in
      let owner : HasAll by = record { low = s.alone.low; end = s.alone.end } in
      let event : Event = made_event t old new s.p s.q a in
      let added = Adds-makes tells by a.op a.reply old.seen new.seen a.made owner told in
      let owed : IsDue (ids_at draw t) mine.task (t + 1) start old.seen (t + 1) a.op = PlayKeeps-now (IsDue (ids_at draw t) mine.task (t + 1) start) (only tells (t + 1)) a.op a.starved a.next s.p old.seen a.asks mine.careful in
      let early : BeforeChange mine.task (t + 1) start old.seen a.op = PlayKeeps-now (Before mine.task start) (only tells (t + 1)) a.op a.starved a.next s.p old.seen a.asks mine.before in
      let good : IsGood old.seen event = record { legal = added.answered; polite = owed.polite } in
      record {
        stand = all_stand s (λ k n. record {
          between = event ∷ [];
          others = Each-one (IsOther (only tells (k + 1))) old.seen event (record { good = good; other = λ e. n (next_same k t e); not_owned = only-other tells k (t + 1) (λ e. n (next_same k t e)) });
          is = added.is;
        });
        is = added.is;
        careful = Each-one (IsOfClient draw tasks start) old.seen event (record { place = t; task = mine.task; client = refl; at = mine.at; careful = record { good = good; owes = owed.owes; own = owed.own; open_at = owed.open_at }; before = early });
      }

  kept-starved : (s : Stepped t old new ps qs) → Starved (as_client (t + 1) old) new s.p s.q → Kept draw tasks start old new [] qs
  unfolding tells by all_stand
  kept-starved s n =
      let owner : HasAll by = record { low = s.alone.low; end = s.alone.end } in
      let same : new.seen ≡ old.seen = Waits-alone by old.seen new.seen owner (n.waits told) in
      record {
        stand = all_stand s (λ k differs. Waits-same (only tells (k + 1)) old.seen new.seen same);
        is = same ∙ sym (append-nil old.seen);
        careful = Each-none (IsOfClient draw tasks start) old.seen;
      }

-- ---- turns one after another
InTurns-append : (ts us : List ℕ) (ps mid qs : List (Play Outcome)) (xs ys : List Event) → InTurns ts ps xs mid → InTurns us mid ys qs → InTurns (ts ++ us) ps (xs ++ ys) qs
unfolding InTurns
InTurns-append [] us ps mid qs xs ys a b = subst (λ (zs : List Event). InTurns us ps (zs ++ ys) qs) (sym a.0) (subst (λ ms. InTurns us ms ys qs) a.1 b)
InTurns-append (t ∷ ts) us ps mid qs xs ys a b =
    (a.0, a.1 ++ ys, a.2, ap (λ zs. zs ++ ys) a.3 ∙ append_assoc a.0 a.1 ys, a.4, InTurns-append ts us a.2 mid qs a.1 ys a.5 b)

InTurns-none : (ps : List (Play Outcome)) → InTurns [] ps [] ps
unfolding InTurns
InTurns-none ps = (refl, refl)

InTurns-one : (t : ℕ) (ps : List (Play Outcome)) (own : List Event) (qs : List (Play Outcome)) → Turned t ps own qs → InTurns (t ∷ []) ps own qs
unfolding InTurns
InTurns-one t ps own qs turned = (own, [], qs, sym (append-nil own), turned, (refl, refl))

pub Went-none : (view : View) (ps : List (Play Outcome)) → Went [] view view ps ps
Went-none view ps = record {
  tells = refl;
  size = refl;
  counted = omega arith;
  blames = λ m below all. all;
  others = λ k done. done;
  own = [];
  order = InTurns-none ps;
  kept = λ draw tasks start told all. record { stand = all; is = sym (append-nil view.seen); careful = Each-none (IsOfClient draw tasks start) view.seen };
}

pub Went-trans : (ts us : List ℕ) (a b c : View) (ps mid qs : List (Play Outcome)) → Went ts a b ps mid → Went us b c mid qs → Went (ts ++ us) a c ps qs
Went-trans ts us a b c ps mid qs v w = record {
  tells = w.tells ∙ v.tells;
  size = w.size ∙ v.size;
  counted = omega (arith, v.counted, w.counted);
  blames = λ m below all. w.blames m (further m below) (v.blames m below all);
  others = λ k done. w.others k (v.others k done);
  own = v.own ++ w.own;
  order = InTurns-append ts us ps mid qs v.own w.own v.order w.order;
  kept = λ draw tasks start told all.
      let first = v.kept draw tasks start told all in
      let second = w.kept draw tasks start (still told) first.stand in
      record {
        stand = second.stand;
        is = second.is ∙ (ap (λ (h : List Event). h ++ w.own) first.is ∙ append_assoc a.seen v.own w.own);
        careful = Each-append (IsOfClient draw tasks start) a.seen v.own w.own first.careful (subst (λ (h : List Event). Each (IsOfClient draw tasks start) h w.own) first.is second.careful);
      };
}
  where
    further : (m : ℕ) → m ≤ a.faults → m ≤ b.faults
    further m below = let counted = v.counted in omega (arith, below, counted)

    still : IsTrue a.caller.tells → IsTrue b.caller.tells
    still told = subst (λ (x : Bool). IsTrue x) (sym v.tells) told

-- ---- one turn
not_both : (x : Play Outcome) → IsLive x → HasEnded x → ⊥
not_both (Ended a) l d = l
not_both (Ask op s f) l d = d
not_both (Or p q) l d = d

-- what is bound to tell a fault was so before the step, or the faults rose in it
pub doomed_by : (p q : Play Outcome) (first old new : ℕ) → first ≤ old → BlamesEnd is_failed p q old new → (dooms is_failed p ≡ true → Rose first old) → dooms is_failed q ≡ true → Rose first new
doomed_by p q first old new below b before doomed = by_cases (b.1 doomed)
  where
    by_cases : (dooms is_failed p ≡ true) ⊎ Rose old new → Rose first new
    by_cases (inl was) = Rose-after first old new (before was) b.0
    by_cases (inr rose) = Rose-before first old new below rose

took-rested : (t : ℕ) (old new : View) (ps qs : List (Play Outcome)) → Rested t old new ps qs → Went (t ∷ []) old new ps qs
took-rested t old new ps qs r = record {
  tells = ap (λ (v : View). v.caller.tells) r.store;
  size = ap length r.same;
  counted = let same = ap (λ (v : View). v.faults) r.store in omega (arith, same);
  blames = λ m below all. subst (λ (n : ℕ). Blame qs m n) (sym (ap (λ (v : View). v.faults) r.store)) (subst (λ (xs : List (Play Outcome)). Blame xs m old.faults) (sym r.same) all);
  others = λ k done. subst (λ (xs : List (Play Outcome)). HasEndedAt k xs) (sym r.same) done;
  own = [];
  order = InTurns-one t ps [] qs (inl (record { p = r.p; at = r.at; ended = r.ended; nothing = refl; same = r.same }));
  kept = λ draw tasks start told all. kept-rested draw tasks start t old new ps qs told all r;
}

-- what a step does whatever it makes
took-by : (t : ℕ) (old new : View) (ps qs : List (Play Outcome)) → Stepped t old new ps qs → (own : List Event) → Turned t ps own qs → ((draw : Draw) (tasks : List Task) (start : List Event) → IsTrue old.caller.tells → AllStand draw tasks start old.caller.tells ps old.seen → Kept draw tasks start old new own qs) → Went (t ∷ []) old new ps qs
took-by t old new ps qs s own turned kept = record {
  tells = ap (λ (c : Caller). c.tells) s.acts.same;
  size = ap length s.rest ∙ length-set ps t s.q;
  counted = s.acts.blames.0;
  blames = λ m below all. subst (λ (xs : List (Play Outcome)). Blame xs m new.faults) (sym s.rest) (blame m below all);
  others = λ k done. subst (λ (xs : List (Play Outcome)). HasEndedAt k xs) (sym s.rest) (done_at k done);
  own = own;
  order = InTurns-one t ps own qs turned;
  kept = kept;
}
  where
    blame : (m : ℕ) → m ≤ old.faults → Blame ps m old.faults → Blame (set ps t s.q) m new.faults
    blame m below all = at_set (λ k r. dooms is_failed r ≡ true → Rose m new.faults) ps t s.p s.q s.at
        (doomed_by s.p s.q m old.faults new.faults below s.acts.blames (all t s.p s.at))
        (λ k r n e doomed. Rose-after m old.faults new.faults (all k r e doomed) s.acts.blames.0)

    done_at : (k : ℕ) → HasEndedAt k ps → HasEndedAt k (set ps t s.q)
    done_at k done r e = at_set (λ j x. j ≡ k → HasEnded x) ps t s.p s.q s.at
        (λ same. absurd (not_both s.p s.live (done s.p (subst (λ (n : ℕ). slice_get ps n ≡ Some s.p) same s.at))))
        (λ j x n e' same. done x (subst (λ (i : ℕ). slice_get ps i ≡ Some x) same e')) k r e refl

took-stepped : (t : ℕ) (old new : View) (ps qs : List (Play Outcome)) → Stepped t old new ps qs → Went (t ∷ []) old new ps qs
took-stepped t old new ps qs s = elim s.acts.went [
  | inl a ↦
      let event : Event = made_event t old new s.p s.q a in
      took-by t old new ps qs s (event ∷ [])
      (inr (inl (record { event = event; starved = a.starved; next = a.next; q = s.q; at = s.at ∙ ap (λ x. Some x) a.asks; client = refl; fits = a.fits; one = refl; comes = a.comes; rest = s.rest })))
      (λ draw tasks start told all. kept-acted draw tasks start t old new ps qs told all s a)
  | inr n ↦
      took-by t old new ps qs s []
      (inr (inr (record { op = n.op; starved = n.starved; next = n.next; q = s.q; at = s.at ∙ ap (λ x. Some x) n.asks; nothing = refl; comes = n.comes; rest = s.rest })))
      (λ draw tasks start told all. kept-starved draw tasks start t old new ps qs told all s n)
]

pub Went-took : (t : ℕ) (old new : View) (ps qs : List (Play Outcome)) (result : Bool) → TookTurn t old new ps qs result → Went (t ∷ []) old new ps qs
Went-took t old new ps qs true s = took-stepped t old new ps qs s
Went-took t old new ps qs false r = took-rested t old new ps qs r

-- workers that can go can go on
pub CanGo-went : (ts : List ℕ) (a b : View) (ps qs : List (Play Outcome)) → Went ts a b ps qs → CanGo a ps → CanGo b qs
CanGo-went ts a b ps qs w go told =
    let told' = subst (λ (x : Bool). IsTrue x) w.tells told in
    let r = go told' in
    record { draw = r.draw; tasks = r.tasks; start = r.start; stand = (w.kept r.draw r.tasks r.start told' r.stand).stand }

-- ---- what the step of a worker needs and gives
pub polite_at : (view now : View) (t : ℕ) (ps : List (Play Outcome)) (p : Play Outcome) → now ≡ as_client (t + 1) view → CanGo view ps → slice_get ps t ≡ Some p → IsTrue now.caller.tells → PlayIsPolite p now.seen
polite_at view now t ps p e go at told =
    let told' : IsTrue view.caller.tells = subst (λ (v : View). IsTrue v.caller.tells) e told in
    let r = go told' in
    let s = r.stand t p at in
    subst (λ (v : View). PlayIsPolite p v.seen) (sym e) (Keeps-polite (ids_at r.draw t) s.task (t + 1) r.start (only view.caller.tells (t + 1)) p view.seen s.careful)

pub stepped_at : (view now new : View) (t : ℕ) (ps : List (Play Outcome)) (p q : Play Outcome) → now ≡ as_client (t + 1) view → HasAll view.caller → slice_get ps t ≡ Some p → IsLive p → Acts is_failed now new p q → (qs : List (Play Outcome)) → qs ≡ set ps t q → Stepped t view new ps qs
stepped_at view now new t ps p q e all at live acts qs rest = record { p = p; at = at; live = live; alone = all; q = q; acts = subst (λ (v : View). Acts is_failed v new p q) e acts; rest = rest }
