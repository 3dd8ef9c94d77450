-- A line that leases its session's base: how it begins, and what it tells where memory is wanting.
use Rattle.std.proofs.Common.{◌≡◌, ◌∙◌, ◌<◌, ◌≤◌, inl, inr, refl, sym, ap, subst, arith, Bool, true, false, ℕ, List, [], ◌∷◌, ◌++◌, drop}
use Rattle.std.specs.Prelude.{◌&&◌, nat_lt, vec_len, vec_capacity, Option, Some, None, Result, Ok, Err}
use Rattle.std.proofs.lemmas.Bool.{false≢true}
use Rattle.std.proofs.lemmas.Bool.Decides.{Decides-ltb}
use Rattle.ice_ids.specs.declared.Id12.{Id12}
use Rattle.ice_ids.specs.Drawing.{drawn12}
use Rattle.store_api.specs.declared.machines.Refusal.{Refusal}
use Rattle.store_api.specs.declared.machines.Refusal.TheVariants as R
use Rattle.store_api.specs.Program.{is_fault}
use Rattle.store_api.specs.Plays.{Play, Ended, Ask, Or, IsLive, Comes, dooms}
use Rattle.session.specs.Sessions.{SessionState}
use Rattle.session.specs.Chunks.{after_draw}
use Rattle.leases.specs.declared.lease.Lease.{Lease}
use Rattle.leases.specs.declared.lease.Leased.{Leased}
use Rattle.leases.specs.declared.witness.Witness.{Witness}
use Rattle.leases.specs.declared.placing.Leasing.{Leasing}
use Rattle.leases.specs.declared.placing.Leasing.TheVariants as state
use Rattle.leases.specs.Plays.{lease_play, lease_with, witness_of, fails, tells_fault}
use Rattle.leases.specs.Starting.{lease_of, Starts}
use Rattle.leases.specs.Resting.{lease_rest, leasing_rest, leasing_left}
use Rattle.leases.specs.Following.{followed}
use Rattle.leases.proofs.Following.{followed-self, followed-dooms}
use Rattle.script_calls.specs.declared.calls.Access.{Access}
use Rattle.play_script.specs.declared.scripts.Line.{Line}
use Rattle.play_outcome.specs.declared.outcome.Shown.{Shown}
use Rattle.play_outcome.specs.declared.outcome.Outcome.{Outcome}
use Rattle.play_outcome.specs.Ending.{ends_failed}
use Rattle.play_outcome.specs.Playing.{refused}
use Rattle.play_tasks.specs.declared.working.SessionTask.{SessionTask}
use Rattle.play_tasks.specs.declared.working.Working.{Working}
use Rattle.play_tasks.specs.declared.working.Working.TheVariants as w
use Rattle.play_tasks.specs.Lines.{lease_shown}
use Rattle.play_tasks.specs.Playing.{Rest, placed_shown, after_confirm, after_lease, lease_by, play_lines}
use Rattle.play_tasks.specs.inside.Working.{is_live, is_working, lines_from}
use Rattle.play_tasks.proofs.LeaseWays.{lease-cases}

-- ---- a play that has an operation left
pub live-of : {A : Type 0} (p : Play A) → is_live p ≡ true → IsLive p
live-of (Ended a) e = absurd (cc)
live-of (Ask op starved next) e = tt
live-of (Or p q) e = absurd (cc)

pub live-is : {A : Type 0} (p : Play A) → IsLive p → is_live p ≡ true
live-is (Ended a) live = absurd live
live-is (Ask op starved next) live = refl
live-is (Or p q) live = absurd live

-- both hold
pub and-of : (a b : Bool) → (a && b) ≡ true → (a ≡ true) × (b ≡ true)
and-of true true e = (refl, refl)
and-of true false e = absurd (cc)
and-of false b e = absurd (cc)

pub and-is : (a b : Bool) → a ≡ true → b ≡ true → (a && b) ≡ true
and-is true true d e = refl
and-is true false d e = absurd (cc)
and-is false b d e = absurd (cc)

-- the player has an operation left, and there is room
pub leases-on : {A : Type 0} (p : Play A) (len capacity : ℕ) → IsLive p → len < capacity → (is_live p && nat_lt len capacity) ≡ true
leases-on p len capacity live room = and-is (is_live p) (nat_lt len capacity) (live-is p live) ((Decides-ltb len capacity).1 room)

-- ---- it begins
pub begun-live : (s : SessionState) (p : Play Leased) → lease_of s ≡ Ok p → IsLive p
begun-live s p = lease-cases (λ (r : Result (Play Leased) Refusal). r ≡ Ok p → IsLive p) s (λ id w drawn witness e. let x : lease_play id s.base w ≡ p = cc in subst IsLive x tt) (λ why is e. absurd (cc))

-- the player has the whole of it to do
pub lease-began : (line : ℕ) (shown kept : List Shown) (s t : SessionState) (p : Play Leased) (rest : Rest) → lease_of s ≡ Ok p → t ≡ after_draw s → kept ≡ shown → Comes (lease_by (lease_shown line) line shown s rest (lease_of s)) (followed p (after_lease (lease_shown line) line kept t rest))
lease-began line shown kept s t p rest e same k =
    let own = followed-self (after_lease (lease_shown line) line shown (after_draw s) rest) p (begun-live s p e) in
    let begun = subst (λ (r : Result (Play Leased) Refusal). Comes (lease_by (lease_shown line) line shown s rest r) (followed p (after_lease (lease_shown line) line shown (after_draw s) rest))) (sym e) own in
    let drew = subst (λ (x : SessionState). Comes (lease_by (lease_shown line) line shown s rest (lease_of s)) (followed p (after_lease (lease_shown line) line shown x rest))) (sym same) begun in
    subst (λ (x : List Shown). Comes (lease_by (lease_shown line) line shown s rest (lease_of s)) (followed p (after_lease (lease_shown line) line x t rest))) (sym k) drew

-- or it was refused
pub lease-refused : (line : ℕ) (shown kept : List Shown) (s t : SessionState) (why : Refusal) (rest : Rest) → Starts s (Err why) t → kept ≡ shown → Comes (Or (lease_by (lease_shown line) line shown s rest (lease_of s)) (refused line shown R.NoMemory)) (refused line kept why)
lease-refused line shown kept s t why rest starts k =
    subst (λ (x : List Shown). Comes (Or (lease_by (lease_shown line) line shown s rest (lease_of s)) (refused line shown R.NoMemory)) (refused line x why)) (sym k) (by_why why starts)
  where
    by_why : (own : Refusal) → Starts s (Err own) t → Comes (Or (lease_by (lease_shown line) line shown s rest (lease_of s)) (refused line shown R.NoMemory)) (refused line shown own)
    by_why R.NoMemory st = inr refl
    by_why own st = inl (subst (λ (r : Result (Play Leased) Refusal). Comes (lease_by (lease_shown line) line shown s rest r) (refused line shown own)) (sym st.0) refl)

-- which tells no fault of the store
with-calm : (w : Option Witness) (i : Option Id12) (base : Id12) (why : Refusal) → lease_with w i base ≡ Err why → is_fault why ≡ false
with-calm None i base why e = let x : R.Unnamed ≡ why = cc in sym (ap is_fault x)
with-calm (Some w) None base why e = let x : R.IdsSpent ≡ why = cc in sym (ap is_fault x)
with-calm (Some w) (Some id) base why e = absurd (cc)

pub start-calm : (s t : SessionState) (why : Refusal) → Starts s (Err why) t → is_fault why ≡ false
start-calm s t R.NoMemory starts = refl
start-calm s t why starts = with-calm (witness_of s.origin) (drawn12 s.ids) s.base why starts.0

-- ---- how many steps it has
pub leasing-few : (x : Leasing) → leasing_left x ≤ 2
leasing-few (state.Put base w) = omega arith
leasing-few (state.Confirm w) = omega arith
leasing-few (state.Ended leased) = omega arith

-- ---- where memory is wanting
lines-calm : (access : Access) (ls : List Line) (s : SessionState) (shown : List Shown) → dooms ends_failed (play_lines access ls s shown) ≡ false
unfolding play_lines
lines-calm access [] s shown = refl
lines-calm access (l ∷ ls) s shown = refl

confirm-dooms : (line : ℕ) (shown : List Shown) (s : SessionState) (task : SessionTask) (at : ℕ) (result : Result (Unit {0}) Refusal) → dooms ends_failed (after_confirm line shown s (lines_from task at) result) ≡ fails result
confirm-dooms line shown s task at (Ok done) = lines-calm task.access.now (drop at task.body.now) s shown
confirm-dooms line shown s task at (Err why) = refl

pub after-dooms : (line : ℕ) (shown : List Shown) (s : SessionState) (task : SessionTask) (at : ℕ) (l : Leased) → dooms ends_failed (after_lease (lease_shown line) line shown s (lines_from task at) l) ≡ tells_fault l
after-dooms line shown s task at l = confirm-dooms line (shown ++ placed_shown (lease_shown line) l.placed) s task at l.result

-- the lines behind it tell no fault then, so that the whole tells what the lease does
pub lease-dooms : (line : ℕ) (shown : List Shown) (s : SessionState) (task : SessionTask) (at : ℕ) (p : Play Leased) → dooms ends_failed (followed p (after_lease (lease_shown line) line shown s (lines_from task at))) ≡ dooms tells_fault p
lease-dooms line shown s task at p = followed-dooms (after_lease (lease_shown line) line shown s (lines_from task at)) tells_fault ends_failed (after-dooms line shown s task at) p

leasing-calm : (id : Id12) (x : Leasing) → is_live (leasing_rest id x) ≡ true → dooms tells_fault (leasing_rest id x) ≡ false
leasing-calm id (state.Put base w) e = refl
leasing-calm id (state.Confirm w) e = refl
leasing-calm id (state.Ended leased) e = absurd (cc)

-- ... which is no fault while it has an operation left
pub live-calm : (line : ℕ) (shown : List Shown) (s : SessionState) (task : SessionTask) (at : ℕ) (id : Id12) (x : Leasing) → is_live (leasing_rest id x) ≡ true → dooms ends_failed (followed (leasing_rest id x) (after_lease (lease_shown line) line shown s (lines_from task at))) ≡ true → ⊥
live-calm line shown s task at id x live doomed = false≢true (sym (lease-dooms line shown s task at (leasing_rest id x) ∙ leasing-calm id x live) ∙ doomed)

-- ---- it has ended
-- ... and was confirmed
pub told-on : (line : ℕ) (shown kept : List Shown) (s : SessionState) (rest : Rest) (p : Play Leased) (l : Leased) (q : Play Outcome) → p ≡ Ended l → l.result ≡ Ok tt → kept ≡ shown ++ placed_shown (lease_shown line) l.placed → Comes (rest s kept) q → Comes (followed p (after_lease (lease_shown line) line shown s rest)) q
told-on line shown kept s rest p l q is ok k c =
    subst (λ (x : Play Leased). Comes (followed x (after_lease (lease_shown line) line shown s rest)) q) (sym is)
    (subst (λ (x : Result (Unit {0}) Refusal). Comes (after_confirm line (shown ++ placed_shown (lease_shown line) l.placed) s rest x) q) (sym ok) (subst (λ (x : List Shown). Comes (rest s x) q) k c))

-- ... or not
pub told-stop : (line : ℕ) (shown kept : List Shown) (s : SessionState) (rest : Rest) (p : Play Leased) (l : Leased) (q : Play Outcome) (why : Refusal) → p ≡ Ended l → l.result ≡ Err why → kept ≡ shown ++ placed_shown (lease_shown line) l.placed → q ≡ refused line kept why → Comes (followed p (after_lease (lease_shown line) line shown s rest)) q
told-stop line shown kept s rest p l q why is err k e =
    subst (λ (x : Play Leased). Comes (followed x (after_lease (lease_shown line) line shown s rest)) q) (sym is)
    (subst (λ (x : Result (Unit {0}) Refusal). Comes (after_confirm line (shown ++ placed_shown (lease_shown line) l.placed) s rest x) q) (sym err) (subst (λ (x : List Shown). q ≡ refused line x why) k e))

pub told-fault : (p : Play Leased) (l : Leased) (why : Refusal) → p ≡ Ended l → l.result ≡ Err why → is_fault why ≡ true → dooms tells_fault p ≡ true
told-fault p l why is err failed = ap (dooms tells_fault) is ∙ (ap fails err ∙ failed)

-- ---- a worker that leases
pub leasing-live : (x : Working) (line at : ℕ) (shown : _) (session : SessionState) (lease : Lease) → x ≡ w.Leasing line at shown session lease → is_working x ≡ true → is_live (lease_rest lease) ≡ true
leasing-live x line at shown session lease is works = (and-of (is_live (lease_rest lease)) (nat_lt (vec_len shown) (vec_capacity shown)) (sym (ap is_working is) ∙ works)).0

pub leasing-room : (x : Working) (line at : ℕ) (shown : _) (session : SessionState) (lease : Lease) → x ≡ w.Leasing line at shown session lease → is_working x ≡ true → vec_len shown < vec_capacity shown
leasing-room x line at shown session lease is works = (Decides-ltb (vec_len shown) (vec_capacity shown)).0 ((and-of (is_live (lease_rest lease)) (nat_lt (vec_len shown) (vec_capacity shown)) (sym (ap is_working is) ∙ works)).1)
