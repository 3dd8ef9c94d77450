-- Steps of a settling.
use Rattle.std.proofs.Common.{◌≡◌, ℕ, zero, suc, ◌<◌, ◌-◌, List, false, Option, Some, None, Result, Ok, Err, IfErr, refl, sym, ap, subst, arith}
use Rattle.ice_ids.specs.declared.Id12.{Id12}
use Rattle.snapshot_file.specs.declared.snapshot.SnapshotFile.{SnapshotFile}
use Rattle.object_store.specs.declared.keys.Key.TheVariants.{Snapshot}
use Rattle.object_store.specs.declared.events.Event.{Event}
use Rattle.object_store.specs.declared.events.Op.TheVariants.{Get}
use Rattle.object_store.specs.declared.events.Reply.{Reply}
use Rattle.store_api.specs.declared.machines.Next.{Next}
use Rattle.store_api.specs.declared.machines.Refusal.{Refusal}
use Rattle.store_api.specs.declared.machines.Refusal.TheVariants as R
use Rattle.store_api.specs.Program.{Done, IsAsk, IsDone, NextIsPolite, Lands, is_fault}
use Rattle.store_api.specs.Running.{Program}
use Rattle.store_api.specs.Driving.{Asks, Awaits, Took}
use Rattle.repo_read.specs.Answers.{snapshot_told, Answers, AnswersOutright}
use Rattle.repo_read.proofs.Told.{snapshot-refused, snapshot-went}
use Rattle.settle.specs.declared.settle.Doubt.{Doubt}
use Rattle.settle.specs.declared.settle.Settled.{Settled}
use Rattle.settle.specs.declared.settle.Way.{Way}
use Rattle.settle.specs.declared.settle.Settling.{Settling}
use Rattle.settle.specs.declared.settle.Settling.TheVariants.{Branch, Chain, Ended}
use Rattle.settle.specs.Settling.{unless_met, settle_walk}
use Rattle.settle.specs.inside.Working.{way_rest, way_behind, settling_rest, settling_left}

-- ---- a way
-- the next snapshot is got
way-asks : (d : Doubt) (head : Id12) (left : ℕ) (id : Id12) → IsAsk (settle_walk d head left id) → Asks (settle_walk d head left id) (Get (Snapshot id))
unfolding settle_walk
way-asks d head zero id i = absurd i
way-asks d head (suc left) id i = refl

-- while there is one to get, one may be
way-left : (d : Doubt) (head : Id12) (left : ℕ) (id : Id12) → IsAsk (settle_walk d head left id) → 0 < left
unfolding settle_walk
way-left d head zero id i = absurd i
way-left d head (suc left) id i = omega arith

way-polite : (d : Doubt) (head : Id12) (left : ℕ) (id : Id12) (journal : List Event) → NextIsPolite (settle_walk d head left id) journal
unfolding settle_walk
way-polite d head zero id journal = tt
way-polite d head (suc left) id journal = tt

pub way-awaits : (d : Doubt) (head : Id12) (left : ℕ) (id : Id12) (reply : Reply) → Awaits (settle_walk d head left id) reply → 0 < left
unfolding settle_walk
way-awaits d head zero id reply a = absurd a
way-awaits d head (suc left) id reply a = omega arith

-- a refused reading refuses it
pub way-refused : (d : Doubt) (head : Id12) (left : ℕ) (id : Id12) (reply : Reply) (why : Refusal) → Awaits (settle_walk d head left id) reply → Answers {A = SnapshotFile} (snapshot_told id reply) (Err why)
    → AnswersOutright {A = SnapshotFile} reply (snapshot_told id reply) (Err why) → (q : Program Settled) → IsDone q → Took (settle_walk d head left id) reply q (Err why)
unfolding settle_walk
way-refused d head zero id reply why a t o q n = absurd a
way-refused d head (suc left) id reply why a t o q n = snapshot-refused id reply (λ s. way_behind d head left s.parent) a why t o q n

-- it goes on with the parent of what was read
pub way-went : (d : Doubt) (head : Id12) (left : ℕ) (id : Id12) (reply : Reply) (s : SnapshotFile) (parent : Option Id12) → Awaits (settle_walk d head left id) reply → Answers (snapshot_told id reply) (Ok s) → s.parent ≡ parent
    → (q : Program Settled) (result : Result (Next Settled) Refusal) → Lands (way_behind d head (left - 1) parent) q result → IfErr result (λ refusal. is_fault refusal ≡ false) → Took (settle_walk d head left id) reply q result
unfolding settle_walk
way-went d head zero id reply s parent a t e q result l f = absurd a
way-went d head (suc left) id reply s parent a t e q result l f =
    let fewer = subst (λ (n : ℕ). Lands (way_behind d head n parent) q result) (omega arith) l in
    let here = subst (λ (o : Option Id12). Lands (way_behind d head left o) q result) (sym e) fewer in
    snapshot-went id reply (λ s. way_behind d head left s.parent) a s t q result here f

-- what is refused as too deep is no fault
pub deep-faultless : (result : Result (Next Settled) Refusal) → IfErr result (λ refusal. refusal ≡ R.TooDeep) → IfErr result (λ refusal. is_fault refusal ≡ false)
deep-faultless (Ok next) e = tt
deep-faultless (Err why) e = ap is_fault e

-- ---- where the next one is named
-- it is neither
pub other-lands : (o : Option Settled) (p : Program Settled) → o ≡ None → unless_met o p ≡ p
other-lands (Some own) p e = absurd (cc)
other-lands None p e = refl

-- no further one may be read
pub way-deep : (d : Doubt) (head : Id12) (left : ℕ) (id : Id12) → left ≡ 0 → settle_walk d head left id ≡ Done (Err R.TooDeep)
unfolding settle_walk
way-deep d head zero id z = refl
way-deep d head (suc left) id z = absurd (cc)

-- one more is read next
pub way-next : (d : Doubt) (head : Id12) (left : ℕ) (id : Id12) → (left ≡ 0 → ⊥) → IsAsk (settle_walk d head left id)
unfolding settle_walk
way-next d head zero id n = absurd (n refl)
way-next d head (suc left) id n = tt

-- ---- states of the machine
pub state-chain : (d : Doubt) (state : Settling) (way : Way) → state ≡ Chain way → IsAsk (settling_rest d state) → Asks (settling_rest d state) (Get (Snapshot way.next))
state-chain d (Chain own) way e i = let same : own ≡ way = cc in subst (λ (w : Way). Asks (way_rest d own) (Get (Snapshot w.next))) same (way-asks d own.head own.left own.next i)
state-chain d (Branch name) way e i = absurd (cc)
state-chain d Ended way e i = absurd (cc)

pub state-left : (d : Doubt) (state : Settling) → IsAsk (settling_rest d state) → 0 < settling_left state
state-left d (Branch name) i = omega arith
state-left d (Chain own) i = way-left d own.head own.left own.next i
state-left d Ended i = absurd i

pub state-polite : (d : Doubt) (state : Settling) (journal : List Event) → NextIsPolite (settling_rest d state) journal
state-polite d (Branch name) journal = tt
state-polite d (Chain own) journal = way-polite d own.head own.left own.next journal
state-polite d Ended journal = tt

pub state-over : (d : Doubt) (state : Settling) → state ≡ Ended → IsDone (settling_rest d state)
state-over d Ended e = tt
state-over d (Branch name) e = absurd (cc)
state-over d (Chain own) e = absurd (cc)

pub state-falls : (d : Doubt) (state : Settling) (way : Way) (reply : Reply) → state ≡ Ended → Awaits (way_rest d way) reply → settling_left state < way.left
state-falls d Ended way reply e a = way-awaits d way.head way.left way.next reply a
state-falls d (Branch name) way reply e a = absurd (cc)
state-falls d (Chain own) way reply e a = absurd (cc)
