-- What one operation of a machine over two stores comes to, whatever the machine.
use Rattle.std.proofs.Common.{◌≡◌, ◌≤◌, refl, sym, subst, inl, inr, arith, Bool, false}
use Rattle.std.specs.Prelude.{Result, Ok, Err}
use Rattle.ice_base.specs.Ends.{Rose}
use Rattle.object_store.specs.declared.events.Op.{Op}
use Rattle.object_store.specs.declared.events.Reply.{Reply}
use Rattle.object_store.specs.declared.events.Reply.TheVariants.{Failed}
use Rattle.object_store.specs.declared.events.StoreFault.{StoreFault}
use Rattle.object_store.specs.declared.events.StoreFault.TheVariants.{Failed as Store_failed, NoMemory as Store_no_memory}
use Rattle.store_api.specs.Callers.{View, Called, MayCall, Fits, has_failed}
use Rattle.store_api.specs.Driving.{Heard}
use Rattle.store_api.proofs.Programs.{Waits-none, made-done}
use Rattle.store_api.proofs.Drives.{fits-failed}
use Rattle.two_stores.specs.declared.side.Side.{Side}
use Rattle.two_stores.specs.declared.side.Side.TheVariants.{From, To}
use Rattle.two_stores.specs.Sides.{Both, at_side, other}
use Rattle.two_stores.specs.Pairs.{PairProg, Done, Ask, IsAsk, Asks, Awaits, MayAsk, AskedBy, Comes, Took, Starves, PairSteps}

-- ---- sides
-- what holds of a side and of the other one holds of each
pub each-side : (P : Side → Type 0) (side : Side) → P side → P (other side) → (s : Side) → P s
each-side P From a b From = a
each-side P From a b To = b
each-side P To a b From = b
each-side P To a b To = a

-- ---- the operation that is asked for
pub asked-may : {A : Type 0} (p : PairProg A) (side : Side) (op : Op) (views : Both View) → Asks p side op → MayAsk p views → MayCall (at_side side views) op
asked-may (Done a) side op views e m = absurd e
asked-may (Ask on next starved k) side op views e m = subst (λ (o : Op). MayCall (at_side side views) o) (sym e.1) (subst (λ (s : Side). MayCall (at_side s views) next) (sym e.0) m)

pub asked-by : {A : Type 0} (p : PairProg A) (side : Side) (op : Op) → Asks p side op → (old new : Both View) (result : Result Reply StoreFault) → Called (λ r. r) op result (at_side side old) (at_side side new) → at_side (other side) new ≡ at_side (other side) old → AskedBy p result old new
asked-by (Done a) side op e old new result c s = absurd e
asked-by (Ask on next starved k) side op e old new result c s =
    let called = subst (λ (o : Op). Called (λ (r : Reply). r) o result (at_side side old) (at_side side new)) e.1 c in
    subst (λ (x : Side). Called (λ (r : Reply). r) next result (at_side x old) (at_side x new) × (at_side (other x) new ≡ at_side (other x) old)) e.0 (called, s)

pub asked-awaits : {A : Type 0} (p : PairProg A) (side : Side) (op : Op) (reply : Reply) → Asks p side op → Fits op reply → Awaits p reply
asked-awaits (Done a) side op reply e f = absurd e
asked-awaits (Ask on next starved k) side op reply e f = subst (λ (o : Op). Fits o reply) e.1 f

-- where there was no memory for the operation
pub asked-none : {A : Type 0} (p : PairProg A) → IsAsk p → (views : Both View) → AskedBy p (Err Store_no_memory) views views
asked-none (Done a) i views = absurd i
asked-none (Ask side op starved k) i views = (
  record { same = refl; did = λ t. Waits-none (at_side side views).caller (at_side side views).seen; counted = omega arith },
  refl,
)

-- any reply may be one of a failed operation
pub failed-awaits : {A : Type 0} (p : PairProg A) → IsAsk p → (done : Bool) → Awaits p (Failed done)
failed-awaits (Done a) i done = absurd i
failed-awaits (Ask side op starved k) i done = fits-failed op done

-- ---- a step
heard : (P : Reply → Type 0) (reply : Reply) → Heard P reply → P reply
heard P (Failed done) h = h done
heard P _ h = h

same-caller : (side : Side) (old new : Both View) → (at_side side new).caller ≡ (at_side side old).caller → at_side (other side) new ≡ at_side (other side) old → (s : Side) → (at_side s new).caller ≡ (at_side s old).caller
same-caller side old new c stays = each-side (λ s. (at_side s new).caller ≡ (at_side s old).caller) side c (rw stays refl)

no-less : (v w : View) → w ≡ v → v.faults ≤ w.faults
no-less v w e = rw e (omega arith)

no-fewer : (side : Side) (old new : Both View) → (at_side side old).faults ≤ (at_side side new).faults → at_side (other side) new ≡ at_side (other side) old → (s : Side) → (at_side s old).faults ≤ (at_side s new).faults
no-fewer side old new c stays = each-side (λ s. (at_side s old).faults ≤ (at_side s new).faults) side c (no-less (at_side (other side) old) (at_side (other side) new) stays)

-- after an answer of the store
pub answered-steps : {A : Type 0} (p q : PairProg A) (old new : Both View) (reply : Reply) → Awaits p reply → AskedBy p (Ok reply) old new → has_failed reply ≡ false → Took p reply q → PairSteps old new p q
answered-steps (Done a) q old new reply fits asked calm took = absurd asked
answered-steps {A} (Ask side op starved k) q old new reply fits asked calm took =
    let c = asked.0 in
    record {
      same = same-caller side old new c.same asked.1;
      faults = no-fewer side old new c.counted asked.1;
      went = inl (record {
        side = side;
        op = op;
        starved = starved;
        next = k;
        reply = reply;
        asks = refl;
        fits = fits;
        made = c.did;
        rose = λ f. absurd (cc);
        stays = asked.1;
        comes = heard (λ r. Comes op r starved (k r) q) reply took;
      });
    }

-- after a failure of the store
pub failed-steps : {A : Type 0} (p q : PairProg A) (old new : Both View) (fault : StoreFault) → fault ≡ Store_failed → AskedBy p (Err fault) old new → Took p (Failed false) q → PairSteps old new p q
failed-steps (Done a) q old new fault f asked took = absurd asked
failed-steps {A} (Ask side op starved k) q old new fault f asked took =
    let c = subst (λ (x : StoreFault). Called {A = Reply} (λ r. r) op (Err x) (at_side side old) (at_side side new)) f asked.0 in
    let m = made-done (λ (r : Reply). r) (at_side side old).caller op (at_side side old).seen (at_side side new).seen (at_side side old).caller.tells c.did in
    let rose : Rose (at_side side old).faults (at_side side new).faults = c.counted in
    record {
      same = same-caller side old new c.same asked.1;
      faults = no-fewer side old new rose.0 asked.1;
      went = inl (record {
        side = side;
        op = op;
        starved = starved;
        next = k;
        reply = Failed m.0;
        asks = refl;
        fits = fits-failed op m.0;
        made = m.1;
        rose = λ f. rose;
        stays = asked.1;
        comes = took m.0;
      });
    }

-- where there was no memory
pub starved-steps : {A : Type 0} (p q : PairProg A) (old new : Both View) (fault : StoreFault) → fault ≡ Store_no_memory → AskedBy p (Err fault) old new → Starves p q → PairSteps old new p q
starved-steps (Done a) q old new fault f asked s = absurd asked
starved-steps {A} (Ask side op starved k) q old new fault f asked s =
    let c = subst (λ (x : StoreFault). Called {A = Reply} (λ r. r) op (Err x) (at_side side old) (at_side side new)) f asked.0 in
    record {
      same = same-caller side old new c.same asked.1;
      faults = no-fewer side old new c.counted asked.1;
      went = inr (record { side = side; op = op; starved = starved; next = k; asks = refl; waits = c.did; stays = asked.1; ended = s });
    }
