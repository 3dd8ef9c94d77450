-- What the calls of a session come to that begin machines.
use Rattle.std.proofs.Common.{◌≡◌, ◌≢◌, ◌∙◌, ◌-◌, inl, inr, subst, refl, sym, ap, arith, Bool, true, false, ℕ, zero, suc, List, Option, Result, Ok, Err}
use Rattle.std.specs.Prelude.{not, nat_lt, vec_len, vec_capacity}
use Rattle.std.proofs.lemmas.Bool.{false≢true}
use Rattle.ice_ids.specs.declared.Id12.{Id12}
use Rattle.store_api.specs.declared.machines.Next.{Next}
use Rattle.store_api.specs.declared.machines.Next.TheVariants.{Again}
use Rattle.store_api.specs.declared.machines.Refusal.{Refusal}
use Rattle.store_api.specs.declared.machines.Refusal.TheVariants as R
use Rattle.store_api.specs.Program.{Prog, Done, Ask, IsAsk, is_ask, is_fault, is_no_memory}
use Rattle.store_api.specs.Running.{Program}
use Rattle.store_api.specs.Plays.{Play, Or, call, Comes, dooms}
use Rattle.store_api.proofs.PlayLaws.{dooms-call}
use Rattle.array_region.specs.Getting.{region_rest, region_session}
use Rattle.array_region.specs.Filling.{region_set_rest}
use Rattle.session.specs.declared.chunks.Value.{Value}
use Rattle.session.specs.Sessions.{SessionState}
use Rattle.session.specs.Setting.{set_rest}
use Rattle.session.specs.Getting.{get_rest, get_session, GetRefused}
use Rattle.conflicts.specs.declared.solving.Policy.{Policy}
use Rattle.ice_ids.specs.declared.drawing.AnyIds.{AnyIds}
use Rattle.object_store.specs.declared.events.Version.{Version}
use Rattle.commit_path.specs.declared.commit.Tried.{Tried}
use Rattle.commit_path.specs.Committing.{session_in, message_in, commit_program, commit_rest, IsDrawn, MayRefuseStart as MayRefuseCommit}
use Rattle.rebase.specs.declared.machine.Rebased.{Rebased}
use Rattle.rebase.specs.declared.machine.Rebased.TheVariants.{OnHead, UpToDate}
use Rattle.rebase.specs.Rebasing.{rebase_program, rebase_rest, MayRefuseStart}
use Rattle.play_outcome.specs.declared.outcome.Shown.{Shown}
use Rattle.play_outcome.specs.declared.outcome.End.TheVariants.{Refused}
use Rattle.play_outcome.specs.declared.outcome.Outcome.{Outcome}
use Rattle.play_tasks.specs.declared.working.SessionTask.{SessionTask}
use Rattle.play_tasks.specs.declared.working.Working.{Working}
use Rattle.play_tasks.specs.declared.working.Working.TheVariants as w
use Rattle.play_tasks.specs.Lines.{value_shown, cells_shown}
use Rattle.play_outcome.specs.Playing.{refused}
use Rattle.play_tasks.specs.Playing.{Rest, doubt_play, after_commit, after_rebase, commit_play}
use Rattle.leases.specs.Resting.{lease_rest}
use Rattle.play_outcome.specs.Ending.{ends_failed}
use Rattle.play_outcome.proofs.Stepping.{is_memory}
use Rattle.play_outcome.specs.Settling.{answers_well, tells_fault, Faults}
use Rattle.play_tasks.proofs.Doubting.{no-doubt}
use Rattle.play_tasks.proofs.LeaseSteps.{and-of, live-calm}
use Rattle.play_tasks.specs.inside.Working.{after_set, after_get, after_lost, RefusedSo, lines_from, shown_for, rebased_session, is_live, working_rest, is_working, is_well}

-- ---- a machine begins
asks : {A : Type 0} (p : Prog (Result A Refusal)) (f : Result A Refusal → Play Outcome) → is_ask p ≡ true → Comes (call p f) (call p f)
asks (Done a) f i = absurd (cc)
asks (Ask op k) f i = refl

is-ask : {A : Type 0} (p q : Prog A) → q ≡ p → IsAsk p → is_ask q ≡ true
is-ask (Done a) q e i = absurd i
is-ask (Ask op k) q e i = ap is_ask e

-- a machine has the whole program to run
pub began : {A : Type 0} (p q : Prog (Result A Refusal)) (f : Result A Refusal → Play Outcome) → q ≡ p → IsAsk p → Comes (call p f) (call q f)
began p q f e i = subst (λ (x : Prog (Result _ Refusal)). Comes (call x f) (call q f)) e (asks q f (is-ask p q e i))

-- a reading has the session in it
pub reads-began : {A : Type 0} (show : A → Shown) (line : ℕ) (shown : List Shown) (p q : Program A) (s t : SessionState) (rest : Rest) → q ≡ p → IsAsk p → t ≡ s → Comes (call p (after_get show line shown s rest)) (call q (after_get show line shown t rest))
reads-began show line shown p q s t rest e i same = subst (λ (x : SessionState). Comes (call p (after_get show line shown s rest)) (call q (after_get show line shown x rest))) (sym same) (began p q (after_get show line shown s rest) e i)

pub get-began : (line : ℕ) (shown : List Shown) (p q : Program Value) (s t : SessionState) (rest : Rest) → q ≡ p → IsAsk p → t ≡ s → Comes (call p (after_get (value_shown line) line shown s rest)) (call q (after_get (value_shown line) line shown t rest))
get-began line shown p q s t rest e i same = reads-began (value_shown line) line shown p q s t rest e i same

-- a commit, and what follows where it is lost
pub tries-play : (left : ℕ) (policy : Policy) (line : ℕ) (shown : List Shown) (message : List ℕ) (s : SessionState) → commit_play left policy line shown message s ≡ call (commit_program s message) (after_commit line shown (doubt_play shown s) (after_lost left policy line shown message s))
unfolding commit_play
tries-play zero policy line shown message s = refl
tries-play (suc left) policy line shown message s = refl

-- what follows is the same for a session that draws other ids
lost-drawn : (left : ℕ) (policy : Policy) (line : ℕ) (shown : List Shown) (message : List ℕ) (s t : SessionState) → t ≡ record s { ids = t.ids } → (old : Version) (found : Option Version) (next : AnyIds) → after_lost left policy line shown message s old found next ≡ after_lost left policy line shown message t old found next
lost-drawn zero policy line shown message s t e old found next = refl
lost-drawn (suc left) policy line shown message s t e old found next = sym (ap (λ (x : SessionState). after_lost (suc left) policy line shown message x old found next) e)

pub lost-same : (left : ℕ) (policy : Policy) (line : ℕ) (shown : List Shown) (message kept : List ℕ) (s t : SessionState) → IsDrawn s t → kept ≡ message → after_lost left policy line shown message s ≡ after_lost left policy line shown kept t
lost-same left policy line shown message kept s t drawn k =
    (λ i old found next. lost-drawn left policy line shown message s t drawn.same old found next i) ∙ ap (λ (x : List ℕ). after_lost left policy line shown x t) (sym k)

-- a doubt is settled in the same way
pub doubt-same : (shown : List Shown) (s t : SessionState) → IsDrawn s t → doubt_play shown s ≡ doubt_play shown t
doubt-same shown s t drawn = sym (ap (doubt_play shown) drawn.same)

-- what follows a commit is the same for a session that draws other ids
pub behind-same : (left : ℕ) (policy : Policy) (line : ℕ) (shown : List Shown) (message kept : List ℕ) (s t : SessionState) → IsDrawn s t → kept ≡ message
    → after_commit line shown (doubt_play shown s) (after_lost left policy line shown message s) ≡ after_commit line shown (doubt_play shown t) (after_lost left policy line shown kept t)
behind-same left policy line shown message kept s t drawn k = λ i. after_commit line shown (doubt-same shown s t drawn i) (lost-same left policy line shown message kept s t drawn k i)

-- a commit has the session and the message in it
pub commit-began : (left : ℕ) (policy : Policy) (line : ℕ) (shown : List Shown) (message kept : List ℕ) (s t : SessionState) (q : Program Tried) → q ≡ commit_program s message → IsAsk q → IsDrawn s t → kept ≡ message
    → Comes (commit_play left policy line shown message s) (call q (after_commit line shown (doubt_play shown t) (after_lost left policy line shown kept t)))
commit-began left policy line shown message kept s t q e i drawn k =
    let f = after_commit line shown (doubt_play shown t) (after_lost left policy line shown kept t) in
    let to = tries-play left policy line shown message s ∙ ap (λ (g : Result Tried Refusal → Play Outcome). call (commit_program s message) g) (behind-same left policy line shown message kept s t drawn k) in
    subst (λ (p : Play Outcome). Comes p (call q f)) (sym to) (began (commit_program s message) q f e (subst IsAsk e i))

-- a commit that wasn't begun isn't in doubt
start-sure : (why : Refusal) → MayRefuseCommit why → (id : Id12) → why ≢ R.InDoubt id
start-sure why m id e = subst MayRefuseCommit e m

-- or it was refused at once
pub commit-refused : (left : ℕ) (policy : Policy) (line : ℕ) (shown : List Shown) (message : List ℕ) (s : SessionState) (why : Refusal) (task : SessionTask) (x : Working) → MayRefuseCommit why → (is_no_memory why ≡ false → commit_program s message ≡ Done (Err why))
    → x ≡ w.Ended (record { shown = shown; end = Refused line why }) → Comes (Or (commit_play left policy line shown message s) (refused line shown R.NoMemory)) (working_rest task x)
commit-refused left policy line shown message s why task x m c is = subst (λ (y : Working). Comes (Or (commit_play left policy line shown message s) (refused line shown R.NoMemory)) (working_rest task y)) (sym is) (by_memory (is_no_memory why) refl)
  where
    by_memory : (b : Bool) → is_no_memory why ≡ b → Comes (Or (commit_play left policy line shown message s) (refused line shown R.NoMemory)) (refused line shown why)
    by_memory true e = inr (ap (refused line shown) (is_memory why e))
    by_memory false e =
        let f = after_commit line shown (doubt_play shown s) (after_lost left policy line shown message s) in
        let ends = no-doubt line shown (doubt_play shown s) (after_lost left policy line shown message s) why (start-sure why m) in
        let to : commit_play left policy line shown message s ≡ refused line shown why = tries-play left policy line shown message s ∙ (ap (λ (p : Program Tried). call p f) (c e) ∙ ends) in
        inl (subst (λ (p : Play Outcome). Comes p (refused line shown why)) (sym to) refl)

-- a commit that was lost: a rebase has the session in it, where a try is left
pub lost-began : (left : ℕ) (policy : Policy) (line : ℕ) (shown : List Shown) (message kept : List ℕ) (s t : SessionState) (old : Version) (found : Option Version) (q : Program Rebased) → ¬ (left ≡ 0) → t ≡ s → kept ≡ message → q ≡ rebase_program policy t → IsAsk q
    → Comes (after_lost left policy line shown message s old found s.ids) (call q (after_rebase line shown (commit_play (left - 1) policy line shown kept)))
lost-began zero policy line shown message kept s t old found q some same k e i = absurd (some refl)
lost-began (suc left) policy line shown message kept s t old found q some same k e i =
    let one : suc left - 1 ≡ left = omega arith in
    let to : after_rebase line shown (commit_play (suc left - 1) policy line shown kept) ≡ after_rebase line shown (commit_play left policy line shown message) = λ j. after_rebase line shown (commit_play (one j) policy line shown (k j)) in
    subst (λ (f : Result Rebased Refusal → Play Outcome). Comes (call (rebase_program policy s) (after_rebase line shown (commit_play left policy line shown message))) (call q f)) (sym to)
    (began (rebase_program policy s) q (after_rebase line shown (commit_play left policy line shown message)) (e ∙ ap (rebase_program policy) same) (subst IsAsk (e ∙ ap (rebase_program policy) same) i))

-- or the rebase was refused
pub lost-refused : (left : ℕ) (policy : Policy) (line : ℕ) (shown : List Shown) (message : List ℕ) (s t : SessionState) (old : Version) (found : Option Version) (why : Refusal) (task : SessionTask) (x : Working) → ¬ (left ≡ 0) → t ≡ s → rebase_program policy t ≡ Done (Err why)
    → x ≡ w.Ended (record { shown = shown; end = Refused line why }) → Comes (after_lost left policy line shown message s old found s.ids) (working_rest task x)
lost-refused zero policy line shown message s t old found why task x some same e is = absurd (some refl)
lost-refused (suc left) policy line shown message s t old found why task x some same e is =
    let again = commit_play left policy line shown message in
    let to : call (rebase_program policy s) (after_rebase line shown again) ≡ refused line shown why = ap (λ (p : Program Rebased). call p (after_rebase line shown again)) (sym (ap (rebase_program policy) same) ∙ e) in
    subst (λ (p : Play Outcome). Comes p (working_rest task x)) (sym to) (ap (working_rest task) is)

-- a rebase was answered
pub rebase-answers : (line : ℕ) (shown : List Shown) (again : SessionState → Play Outcome) (r : Rebased) (s : SessionState) (p : Play Outcome) → s ≡ rebased_session r → Comes (Or (again s) (refused line shown R.NoMemory)) p → Comes (after_rebase line shown again (Ok r)) p
rebase-answers line shown again (OnHead t count) s p is c = subst (λ (x : SessionState). Comes (Or (again x) (refused line shown R.NoMemory)) p) is c
rebase-answers line shown again (UpToDate t) s p is c = subst (λ (x : SessionState). Comes (Or (again x) (refused line shown R.NoMemory)) p) is c

-- ---- a call was refused
-- the beginning of a rebase tells no fault of the store
pub rebase-calm : (why : Refusal) → MayRefuseStart why → is_fault why ≡ false
rebase-calm R.ReadOnly m = refl
rebase-calm _ m = absurd m

pub get-why : (p : Program Value) (s back : SessionState) (why : Refusal) → GetRefused p s back why → is_no_memory why ≡ false → p ≡ Done (Err why)
get-why p s back R.NoMemory c e = absurd (cc)
get-why p s back why c e = c.0

-- it tells no fault of the store
pub calm-why : {A : Type 0} (p : Program A) (why : Refusal) → ((own : Refusal) → p ≡ Done (Err own) → is_fault own ≡ false) → (is_no_memory why ≡ false → p ≡ Done (Err why)) → is_fault why ≡ false
calm-why p R.NoMemory c d = refl
calm-why p why c d = c why (d refl)

-- ---- a commit was refused, or is in doubt
pub doubt-so : (line : ℕ) (shown : List Shown) (s : SessionState) (why : Refusal) (id : Id12) (task : SessionTask) (x : Working) → why ≡ R.InDoubt id → working_rest task x ≡ doubt_play shown s id → RefusedSo line shown s why (working_rest task x)
doubt-so line shown s why id task x is rest = λ lost. subst (λ (own : Refusal). Comes (after_commit line shown (doubt_play shown s) lost (Err own)) (working_rest task x)) (sym is) rest

pub stop-so : (line : ℕ) (shown : List Shown) (s : SessionState) (why : Refusal) (task : SessionTask) (x : Working) → ((id : Id12) → why ≢ R.InDoubt id) → x ≡ w.Ended (record { shown = shown; end = Refused line why }) → RefusedSo line shown s why (working_rest task x)
stop-so line shown s why task x never is = λ lost. subst (λ (p : Play Outcome). Comes p (working_rest task x)) (sym (no-doubt line shown (doubt_play shown s) lost why never)) (ap (working_rest task) is)

pub stop-blames : (line : ℕ) (shown : List Shown) (why : Refusal) (task : SessionTask) (x : Working) → x ≡ w.Ended (record { shown = shown; end = Refused line why }) → dooms ends_failed (working_rest task x) ≡ true → is_fault why ≡ true
stop-blames line shown why task x is doomed = ap (λ (y : Working). dooms ends_failed (working_rest task y)) (sym is) ∙ doomed

-- ---- lines that stopped
-- what is left of a machine tells a fault without memory as what follows it does
pub ask-faults : {T A : Type 0} (answer : Result (Next T) Refusal) (p : Prog (Result A Refusal)) (f : Result A Refusal → Play Outcome) → dooms ends_failed (f (Err R.NoMemory)) ≡ false → is_ask p ≡ true → Faults answer (call p f)
ask-faults answer p f d live = λ doomed. absurd (false≢true (sym (dooms-call ends_failed p f live ∙ d) ∙ doomed))

-- the machine goes on
pub again-faults : {T A : Type 0} (answer : Result (Next T) Refusal) (p : Prog (Result A Refusal)) (f : Result A Refusal → Play Outcome) (next : Next T) → dooms ends_failed (f (Err R.NoMemory)) ≡ false → answers_well (is_ask p) answer ≡ true → answer ≡ Ok next → next ≡ Again → Faults answer (call p f)
again-faults answer p f next d live is again =
    ask-faults answer p f d (subst (λ (a : Result (Next _) Refusal). answers_well (is_ask p) a ≡ true) (is ∙ ap (λ (n : Next _). Ok n) again) live)

-- a machine's refusal ended the task
pub stop-faults : {T : Type 0} (answer : Result (Next T) Refusal) (why : Refusal) (line : ℕ) (shown : List Shown) (task : SessionTask) (x : Working) → answer ≡ Err why → x ≡ w.Ended (record { shown = shown; end = Refused line why }) → Faults answer (working_rest task x)
stop-faults answer why line shown task x is e = subst (λ (y : Working). Faults answer (working_rest task y)) (sym e) (λ failed. ap tells_fault is ∙ failed)

pub well-faults : {T : Type 0} (answer : Result (Next T) Refusal) (task : SessionTask) (x : Working) → is_well x ≡ true → Faults answer (working_rest task x)
well-faults answer task (w.Opening opener) e = absurd (cc)
well-faults answer task (w.Setting line at shown set) e = ask-faults answer (set_rest set) (after_set line shown.items (lines_from task at)) refl e
well-faults answer task (w.Getting line at for shown get) e = ask-faults answer (get_rest get) (after_get (shown_for for line) line shown.items (get_session get) (lines_from task at)) refl e
well-faults answer task (w.Putting line at shown set) e = ask-faults answer (region_set_rest set) (after_set line shown.items (lines_from task at)) refl e
well-faults answer task (w.Gathering line at shown get) e = ask-faults answer (region_rest get) (after_get (cells_shown line) line shown.items (region_session get) (lines_from task at)) refl e
well-faults answer task (w.Leasing line at shown session lease) e =
    λ doomed. absurd (live-calm line shown.items session task at lease.id lease.state (and-of (is_live (lease_rest lease)) (nat_lt (vec_len shown) (vec_capacity shown)) e).0 doomed)
well-faults answer task (w.Committing line tries shown commit) e =
    ask-faults answer (commit_rest commit) (after_commit line shown (doubt_play shown (session_in commit)) (after_lost tries.left tries.policy line shown (message_in commit) (session_in commit))) refl e
well-faults answer task (w.Settling shown id settle) e = absurd (cc)
well-faults answer task (w.Rebasing line tries shown message rebase) e = ask-faults answer (rebase_rest rebase) (after_rebase line shown (commit_play tries.left tries.policy line shown message)) refl e
well-faults answer task (w.Ended outcome) e = λ failed. absurd (by_end (ends_failed outcome) e failed)
  where
    by_end : (b : Bool) → not b ≡ true → b ≡ true → ⊥
    by_end true e f = cc
    by_end false e f = cc

-- a machine that lines began has something to do
pub well-works : (x : Working) → is_well x ≡ true → is_working x ≡ true
well-works (w.Opening opener) e = absurd (cc)
well-works (w.Setting line at shown set) e = e
well-works (w.Getting line at for shown get) e = e
well-works (w.Putting line at shown set) e = e
well-works (w.Gathering line at shown get) e = e
well-works (w.Leasing line at shown session lease) e = e
well-works (w.Committing line tries shown commit) e = e
well-works (w.Settling shown id settle) e = absurd (cc)
well-works (w.Rebasing line tries shown message rebase) e = e
well-works (w.Ended outcome) e = refl

-- nor tells it a fault of the store where memory is wanting
pub well-calm : (task : SessionTask) (x : Working) → is_well x ≡ true → dooms ends_failed (working_rest task x) ≡ true → ⊥
well-calm task x e doomed = false≢true (well-faults {T = ℕ} (Ok Again) task x e doomed)
