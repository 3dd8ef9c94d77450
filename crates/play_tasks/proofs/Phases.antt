-- The steps of a session's worker: of its session, and of the releases behind that.
use Rattle.std.proofs.Common.{◌≡◌, ◌∙◌, ◌<◌, ◌+◌, ◌⊎◌, inl, inr, refl, sym, ap, subst, arith, Bool, true, false, ℕ, List, [], ◌∷◌, ◌++◌, length, take, drop, set}
use Rattle.std.specs.Prelude.{◌||◌, nat_lt, vec_len, vec_capacity, Option, Some, None, Result, Ok, Err}
use Rattle.std.specs.Result.{result_err}
use Rattle.std.proofs.lemmas.List.{take_more_set, drop-set-lt}
use Rattle.std.proofs.lemmas.List.Folds.{list_any-append}
use Rattle.ice_ids.specs.declared.Id12.{Id12}
use Rattle.store_api.specs.declared.machines.Refusal.{Refusal}
use Rattle.store_api.specs.declared.machines.Refusal.TheVariants.{NoMemory}
use Rattle.store_api.specs.Callers.{View}
use Rattle.store_api.specs.Program.{Prog, Done, Ask as Ask_next, is_ask, is_fault}
use Rattle.store_api.specs.Plays.{Play, Ended, Ask, Or, call, IsLive, HasEnded, Comes, Acts, dooms}
use Rattle.array_region.specs.Getting.{region_rest, region_session}
use Rattle.array_region.specs.Filling.{region_set_rest}
use Rattle.session.specs.Opening.{open_rest}
use Rattle.session.specs.Setting.{set_rest}
use Rattle.session.specs.Getting.{get_rest, get_session}
use Rattle.commit_path.specs.Committing.{session_in, message_in, commit_rest}
use Rattle.settle.specs.inside.Working.{settle_rest}
use Rattle.rebase.specs.Rebasing.{rebase_rest}
use Rattle.leases.specs.Plays.{release_play, fails}
use Rattle.leases.specs.Resting.{lease_rest}
use Rattle.leases.specs.Following.{followed}
use Rattle.leases.proofs.Following.{followed-live, followed-self, followed-acts, followed-dooms}
use Rattle.play_outcome.specs.declared.outcome.Shown.{Shown}
use Rattle.play_outcome.specs.declared.outcome.Shown.TheVariants.{Lease}
use Rattle.play_outcome.specs.declared.outcome.End.{End}
use Rattle.play_outcome.specs.declared.outcome.Outcome.{Outcome}
use Rattle.play_outcome.specs.Ending.{end_failed, ends_failed, is_failed, left_failed, shows_failed}
use Rattle.play_tasks.specs.declared.working.SessionTask.{SessionTask}
use Rattle.play_tasks.specs.declared.working.Working.{Working}
use Rattle.play_tasks.specs.declared.working.Working.TheVariants as w
use Rattle.play_tasks.specs.declared.working.Phase.{Phase}
use Rattle.play_tasks.specs.declared.working.Phase.TheVariants.{Playing, Releasing}
use Rattle.play_tasks.specs.declared.working.Releases.{Releases}
use Rattle.play_tasks.specs.declared.working.Releases.TheVariants as r
use Rattle.play_tasks.specs.Lines.{lease_shown, cells_shown}
use Rattle.play_tasks.specs.Playing.{after_open, after_commit, after_lease, after_rebase, after_settling, commit_play, doubt_play, left_by, release_all, release_from}
use Rattle.play_tasks.specs.inside.Working.{after_get, after_lost, after_set, shown_for, is_live, is_open, is_working, lines_from, working_rest}
use Rattle.play_tasks.specs.inside.Releasing.{next_play, releases_rest}
use Rattle.play_tasks.specs.inside.Phases.{is_phase, phase_rest}
use Rattle.play_tasks.proofs.LeaseSteps.{live-of, and-of}
use Rattle.play_tasks.proofs.Releases.{all-doom, releases-doom, shows-calm}

-- ---- a session that is played
call-live : {A B : Type 0} (p : Prog (Result A Refusal)) (f : Result A Refusal → Play B) → is_ask p ≡ true → IsLive (call p f)
call-live (Done answer) f e = absurd (cc)
call-live (Ask_next op next) f e = tt

pub playing-live : (task : SessionTask) (x : Working) → is_open x ≡ true → is_working x ≡ true → IsLive (working_rest task x)
playing-live task (w.Opening opener) o e = call-live (open_rest opener) (after_open task.access.now task.line task.body.now) e
playing-live task (w.Setting line at shown set) o e = call-live (set_rest set) (after_set line shown.items (lines_from task at)) e
playing-live task (w.Getting line at for shown get) o e = call-live (get_rest get) (after_get (shown_for for line) line shown.items (get_session get) (lines_from task at)) e
playing-live task (w.Putting line at shown set) o e = call-live (region_set_rest set) (after_set line shown.items (lines_from task at)) e
playing-live task (w.Gathering line at shown get) o e = call-live (region_rest get) (after_get (cells_shown line) line shown.items (region_session get) (lines_from task at)) e
playing-live task (w.Leasing line at shown session lease) o e =
    followed-live (after_lease (lease_shown line) line shown.items session (lines_from task at)) (lease_rest lease) (live-of (lease_rest lease) (and-of (is_live (lease_rest lease)) (nat_lt (vec_len shown) (vec_capacity shown)) e).0)
playing-live task (w.Committing line tries shown commit) o e =
    call-live (commit_rest commit) (after_commit line shown (doubt_play shown (session_in commit)) (after_lost tries.left tries.policy line shown (message_in commit) (session_in commit))) e
playing-live task (w.Settling shown id settle) o e = call-live (settle_rest settle) (after_settling shown id) e
playing-live task (w.Rebasing line tries shown message rebase) o e = call-live (rebase_rest rebase) (after_rebase line shown (commit_play tries.left tries.policy line shown message)) e
playing-live task (w.Ended outcome) o e = absurd (cc)

pub phase-open : (x : Working) → is_phase (Playing x) ≡ true → (is_open x ≡ true) × (is_working x ≡ true)
phase-open x e = and-of (is_open x) (is_working x) e

pub phase-live : (task : SessionTask) (x : Working) → is_phase (Playing x) ≡ true → IsLive (working_rest task x)
phase-live task x e = let both = phase-open x e in playing-live task x both.0 both.1

-- one that hasn't ended is open
pub not-ended : (x : Working) → ((outcome : Outcome) → x ≡ w.Ended outcome → ⊥) → is_open x ≡ true
not-ended (w.Opening opener) never = refl
not-ended (w.Setting line at shown set) never = refl
not-ended (w.Getting line at for shown get) never = refl
not-ended (w.Putting line at shown set) never = refl
not-ended (w.Gathering line at shown get) never = refl
not-ended (w.Leasing line at shown session lease) never = refl
not-ended (w.Committing line tries shown commit) never = refl
not-ended (w.Settling shown id settle) never = refl
not-ended (w.Rebasing line tries shown message rebase) never = refl
not-ended (w.Ended outcome) never = absurd (never outcome refl)

live-goes : {A : Type 0} (p : Play A) → IsLive p → HasEnded p → ⊥
live-goes (Ended a) live over = live
live-goes (Ask op starved next) live over = over
live-goes (Or p q) live over = live

-- a session that is played hasn't ended
pub phase-goes : (task : SessionTask) (x : Phase) (state : Working) → x ≡ Playing state → is_phase x ≡ true → IsLive (phase_rest task x)
phase-goes task x state is works =
    subst (λ (y : Phase). IsLive (phase_rest task y)) (sym is) (followed-live release_all (working_rest task state) (phase-live task state (sym (ap is_phase is) ∙ works)))

pub phase-not-over : (task : SessionTask) (x : Phase) (state : Working) → x ≡ Playing state → is_phase x ≡ true → HasEnded (phase_rest task x) → ⊥
phase-not-over task x state is works over = live-goes (phase_rest task x) (phase-goes task x state is works) over

-- ---- a step
releases-come : (x : Releases) → Comes (releases_rest x) (releases_rest x)
releases-come (r.Next shown end at line id) = refl
releases-come (r.Ended outcome) = refl

phase-comes : (task : SessionTask) (x : Phase) → is_phase x ≡ true → Comes (phase_rest task x) (phase_rest task x)
phase-comes task (Playing state) e = followed-self release_all (working_rest task state) (phase-live task state e)
phase-comes task (Releasing x) e = releases-come x

-- of its session
pub phase-acts : (task : SessionTask) (state next : Working) (x : Phase) (old new : View) → Acts ends_failed old new (working_rest task state) (working_rest task next) → phase_rest task x ≡ followed (working_rest task next) release_all → is_phase x ≡ true
    → Acts is_failed old new (followed (working_rest task state) release_all) (phase_rest task x)
phase-acts task state next x old new acts is works =
    followed-acts release_all ends_failed is_failed (λ outcome e. all-doom outcome ∙ e) old new (working_rest task state) (working_rest task next) (phase_rest task x) acts
    (subst (λ (p : Play Outcome). Comes p (phase_rest task x)) is (phase-comes task x works))
    (λ doomed. inl (sym (ap (dooms is_failed) is ∙ followed-dooms release_all ends_failed is_failed all-doom (working_rest task next)) ∙ doomed))

-- ---- a release
or-true : (b : Bool) → (b || true) ≡ true
or-true true = refl
or-true false = refl

shows-doomed : (done : List Shown) (s : Shown) → left_failed s ≡ true → shows_failed (done ++ s ∷ []) ≡ true
shows-doomed done s failed = list_any-append left_failed done (s ∷ []) ∙ (ap (λ (b : Bool). shows_failed done || (b || false)) failed ∙ or-true (shows_failed done))

-- a fault of the store is told at the end
release-doomed : (done more : List Shown) (end : End) (line : ℕ) (id : Id12) (told : Result (Unit {0}) Refusal) → fails told ≡ true → dooms is_failed (release_from (done ++ Lease line id (left_by told) ∷ []) more end) ≡ true
release-doomed done more end line id (Ok none) failed = absurd (cc)
release-doomed done more end line id (Err why) failed = releases-doom (done ++ Lease line id (Some why) ∷ []) more end ∙ ap (λ (b : Bool). b || end_failed end) (shows-doomed done (Lease line id (Some why)) failed)

-- one that tells none adds none
same-doomed : (done more : List Shown) (end : End) (line : ℕ) (id : Id12) (left : Option Refusal) → left_failed (Lease line id left) ≡ false → dooms is_failed (release_from (done ++ Lease line id left ∷ []) more end) ≡ true → dooms is_failed (release_from (done ++ Lease line id (Some NoMemory) ∷ []) more end) ≡ true
same-doomed done more end line id left calm doomed =
    let starved = releases-doom (done ++ Lease line id (Some NoMemory) ∷ []) more end in
    let own = releases-doom (done ++ Lease line id left ∷ []) more end in
    let same = ap (λ (b : Bool). b || end_failed end) (shows-calm done (Lease line id (Some NoMemory)) refl ∙ sym (shows-calm done (Lease line id left) calm)) in
    starved ∙ (same ∙ (sym own ∙ doomed))

release-calm : (done more : List Shown) (end : End) (line : ℕ) (id : Id12) (told : Result (Unit {0}) Refusal) → dooms is_failed (release_from (done ++ Lease line id (left_by told) ∷ []) more end) ≡ true → (fails told ≡ true) ⊎ (dooms is_failed (release_from (done ++ Lease line id (Some NoMemory) ∷ []) more end) ≡ true)
release-calm done more end line id (Ok none) doomed = inr (same-doomed done more end line id None refl doomed)
release-calm done more end line id (Err why) doomed = by_fault (is_fault why) refl
  where
    by_fault : (b : Bool) → is_fault why ≡ b → (is_fault why ≡ true) ⊎ (dooms is_failed (release_from (done ++ Lease line id (Some NoMemory) ∷ []) more end) ≡ true)
    by_fault true e = inl e
    by_fault false e = inr (same-doomed done more end line id (Some why) e doomed)

-- a step of the releases
pub release-acts : (old new : View) (shown kept : List Shown) (end : End) (at line : ℕ) (id : Id12) (told : Result (Unit {0}) Refusal) (x : Releases) → Acts fails old new (release_play id) (Ended told) → at < length shown → kept ≡ set shown at (Lease line id (left_by told))
    → releases_rest x ≡ release_from (take (at + 1) kept) (drop (at + 1) kept) end → Acts is_failed old new (next_play shown end at line id) (releases_rest x)
release-acts old new shown kept end at line id told x acts within k rest =
    let lease : Shown = Lease line id (left_by told) in
    let done = take at shown in
    let more = drop (at + 1) shown in
    let walked : release_from (take (at + 1) (set shown at lease)) (drop (at + 1) (set shown at lease)) end ≡ release_from (done ++ lease ∷ []) more end =
    ap (λ (l : List Shown). release_from l (drop (at + 1) (set shown at lease)) end) (take_more_set shown at lease within) ∙ ap (λ (l : List Shown). release_from (done ++ lease ∷ []) l end) (drop-set-lt (at + 1) shown at lease (omega arith)) in
    let is : releases_rest x ≡ release_from (done ++ lease ∷ []) more end = rest ∙ (ap (λ (l : List Shown). release_from (take (at + 1) l) (drop (at + 1) l) end) k ∙ walked) in
    followed-acts (λ (result : Result (Unit {0}) Refusal). release_from (done ++ Lease line id (left_by result) ∷ []) more end) fails is_failed (release-doomed done more end line id) old new (release_play id) (Ended told) (releases_rest x) acts
    (subst (λ (p : Play Outcome). Comes p (releases_rest x)) is (releases-come x))
    (λ doomed. release-calm done more end line id told (sym (ap (dooms is_failed) is) ∙ doomed))

-- why a release was refused
pub left-is : (told : Result (Unit {0}) Refusal) → result_err told ≡ left_by told
left-is (Ok none) = refl
left-is (Err why) = refl
