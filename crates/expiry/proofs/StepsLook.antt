-- Steps of a look at a ref.
use Rattle.std.proofs.Common.{◌≡◌, ℕ, zero, suc, ◌<◌, ◌-◌, Bool, true, false, List, Option, Some, None, Result, Ok, Err, IfErr, if◌then◌else◌, ◌&&◌, refl, subst, arith}
use Rattle.ice_ids.specs.declared.Id12.{Id12}
use Rattle.object_store.specs.declared.keys.Key.{Key}
use Rattle.object_store.specs.declared.keys.Key.TheVariants.{Snapshot, Manifest, Txn, Chunk, Branch, Tag, Tombstone, Lease}
use Rattle.object_store.specs.declared.events.Event.{Event}
use Rattle.object_store.specs.declared.events.Op.TheVariants.{Get}
use Rattle.object_store.specs.declared.events.Reply.{Reply}
use Rattle.store_api.specs.declared.machines.Next.{Next}
use Rattle.store_api.specs.declared.machines.Refusal.{Refusal}
use Rattle.store_api.specs.declared.machines.Refusal.TheVariants.{TooDeep}
use Rattle.store_api.specs.Program.{Done, IsAsk, IsDone, Lands, NextIsPolite, is_fault}
use Rattle.store_api.specs.Running.{Program}
use Rattle.store_api.specs.Driving.{Asks, Awaits, Took}
use Rattle.repo_read.specs.Answers.{Answers, AnswersOutright}
use Rattle.expiry.specs.declared.terms.Terms.{Terms}
use Rattle.expiry.specs.declared.look.Decision.{Decision}
use Rattle.expiry.specs.declared.look.Decision.TheVariants.{Keeps}
use Rattle.expiry.specs.declared.look.Looking.{Looking}
use Rattle.expiry.specs.declared.look.Looking.TheVariants as state
use Rattle.expiry.specs.declared.look.Walk.{Walk}
use Rattle.expiry.specs.Verdicts.{is_older, may_drop}
use Rattle.expiry.specs.Looks.{Seen, cuts, next_of, snapshot_seen, look_below}
use Rattle.expiry.specs.inside.Looking.{looking_rest, looking_left, is_ref}
use Rattle.expiry.proofs.StepsHeard.{snapshot-tells}
use Rattle.repo_read.proofs.Hearing.{refused, went}

-- ---- down the parents
pub below-ends : (left cutoff : ℕ) (last : Seen) (next : Option Id12) → next ≡ None → look_below left cutoff last next ≡ Done (Ok Keeps)
unfolding look_below
below-ends zero cutoff last next e = rw e refl
below-ends (suc left) cutoff last next e = rw e refl

pub below-deep : (left cutoff : ℕ) (last : Seen) (next : Option Id12) (id : Id12) → next ≡ Some id → left ≡ 0 → look_below left cutoff last next ≡ Done (Err TooDeep)
unfolding look_below
below-deep zero cutoff last next id e z = rw e refl
below-deep (suc left) cutoff last next id e z = absurd (omega arith)

pub below-live : (left cutoff : ℕ) (last : Seen) (id : Id12) → (left ≡ 0 → ⊥) → IsAsk (look_below left cutoff last (Some id))
unfolding look_below
below-live zero cutoff last id n = absurd (n refl)
below-live (suc left) cutoff last id n = tt

pub below-asks : (left cutoff : ℕ) (last : Seen) (id : Id12) → IsAsk (look_below left cutoff last (Some id)) → Asks (look_below left cutoff last (Some id)) (Get (Snapshot id))
unfolding look_below
below-asks zero cutoff last id i = absurd i
below-asks (suc left) cutoff last id i = refl

below-left : (left cutoff : ℕ) (last : Seen) (id : Id12) → IsAsk (look_below left cutoff last (Some id)) → 0 < left
unfolding look_below
below-left zero cutoff last id i = absurd i
below-left (suc left) cutoff last id i = omega arith

pub below-awaits : (left cutoff : ℕ) (last : Seen) (id : Id12) (reply : Reply) → Awaits (look_below left cutoff last (Some id)) reply → 0 < left
unfolding look_below
below-awaits zero cutoff last id reply a = absurd a
below-awaits (suc left) cutoff last id reply a = omega arith

below-polite : (left cutoff : ℕ) (last : Seen) (id : Id12) (journal : List Event) → NextIsPolite (look_below left cutoff last (Some id)) journal
unfolding look_below
below-polite zero cutoff last id journal = tt
below-polite (suc left) cutoff last id journal = tt

pub below-refused : (left cutoff : ℕ) (last : Seen) (id : Id12) (reply : Reply) (why : Refusal) → Awaits (look_below left cutoff last (Some id)) reply → Answers (snapshot_seen id reply) (Err why)
    → AnswersOutright reply (snapshot_seen id reply) (Err why) → (q : Program Decision) → IsDone q → Took (look_below left cutoff last (Some id)) reply q (Err why)
unfolding look_below
below-refused zero cutoff last id reply why a t o q d = absurd a
below-refused (suc left) cutoff last id reply why a t o q d = refused _ _ _ (snapshot-tells id) reply why a t o q d

pub below-went : (left cutoff : ℕ) (last : Seen) (id : Id12) (reply : Reply) (seen : Seen) → Awaits (look_below left cutoff last (Some id)) reply → Answers (snapshot_seen id reply) (Ok seen)
    → (q : Program Decision) (result : Result (Next Decision) Refusal) → Lands (if is_older cutoff seen.file then Done (cuts last) else look_below (left - 1) cutoff seen (next_of seen.file)) q result
    → IfErr result (λ why. is_fault why ≡ false) → Took (look_below left cutoff last (Some id)) reply q result
unfolding look_below
below-went zero cutoff last id reply seen a t q result l f = absurd a
below-went (suc left) cutoff last id reply seen a t q result l f =
    let here = subst (λ (n : ℕ). Lands (if is_older cutoff seen.file then Done (cuts last) else look_below n cutoff seen (next_of seen.file)) q result) (omega arith) l in
    went _ _ _ (snapshot-tells id) reply seen t q result here f

-- ---- states
pub state-over : (t : Terms) (key : Key) (s : Looking) → s ≡ state.Ended → IsDone (looking_rest t key s)
state-over t key s e = rw e tt

pub state-polite : (t : Terms) (key : Key) (s : Looking) (journal : List Event) → NextIsPolite (looking_rest t key s) journal
state-polite t key state.Ref journal = tt
state-polite t key (state.Head named) journal = tt
state-polite t key (state.Below walk) journal = below-polite walk.left t.cutoff walk.last walk.next journal
state-polite t key state.Ended journal = tt

pub state-left : (t : Terms) (key : Key) (s : Looking) → IsAsk (looking_rest t key s) → 0 < looking_left s
state-left t key state.Ref i = omega arith
state-left t key (state.Head named) i = omega arith
state-left t key (state.Below walk) i = below-left walk.left t.cutoff walk.last walk.next i
state-left t key state.Ended i = absurd i

pub state-below : (t : Terms) (key : Key) (s : Looking) (walk : Walk) → s ≡ state.Below walk → IsAsk (looking_rest t key s) → Asks (looking_rest t key s) (Get (Snapshot walk.next))
state-below t key s walk e i = rw e (below-asks walk.left t.cutoff walk.last walk.next (rw e at i))

pub state-falls : (s : Looking) (n : ℕ) → s ≡ state.Ended → 0 < n → looking_left s < n
state-falls s n e l = rw e l

-- ---- drops
pub drops-ref : (t : Terms) (key : Key) (old : Bool) → (may_drop t key && old) ≡ true → is_ref key ≡ true
drops-ref t (Branch name) old e = refl
drops-ref t (Tag name) old e = refl
drops-ref t (Snapshot id) old e = absurd cc
drops-ref t (Manifest id) old e = absurd cc
drops-ref t (Txn id) old e = absurd cc
drops-ref t (Chunk id) old e = absurd cc
drops-ref t (Tombstone name) old e = absurd cc
drops-ref t (Lease id) old e = absurd cc
