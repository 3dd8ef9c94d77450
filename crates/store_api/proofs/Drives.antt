-- What one operation of a machine comes to, whatever the machine.
use Rattle.std.proofs.Common.{◌≡◌, refl, subst, inl, inr, arith, Bool, true, false, Result, Ok, Err}
use Rattle.ice_base.specs.Ends.{Rose}
use Rattle.object_store.specs.declared.events.Op.{Op}
use Rattle.object_store.specs.declared.events.Op.TheVariants.{Get, PutNew, PutOver, Remove, RemoveAt, List as ListPart}
use Rattle.object_store.specs.declared.events.Reply.{Reply}
use Rattle.object_store.specs.declared.events.Reply.TheVariants.{Failed}
use Rattle.object_store.specs.declared.events.StoreFault.{StoreFault}
use Rattle.object_store.specs.declared.events.StoreFault.TheVariants.{Failed as Store_failed, NoMemory as Store_no_memory}
use Rattle.store_api.specs.declared.machines.Next.{Next}
use Rattle.store_api.specs.declared.machines.Refusal.{Refusal}
use Rattle.store_api.specs.declared.machines.Refusal.TheVariants.{NoMemory}
use Rattle.store_api.specs.Callers.{View, Called, Fits}
use Rattle.store_api.specs.Program.{Prog, Done, Ask, IsAsk, IsDone, Lands, IsSure, Steps, Blames, is_told_surely, is_fault}
use Rattle.store_api.specs.Driving.{Asks, AskedBy, Awaits, Heard, Excuses, Took, has_failed}
use Rattle.store_api.proofs.Programs.{Steps-answer, Waits-none, made-done}

pub heard : (P : Reply → Type 0) (reply : Reply) → Heard P reply → P reply
heard P (Failed done) h = h done
heard P _ h = h

excuses : {T : Type 0} (reply : Reply) (result : Result T Refusal) → Excuses reply result → has_failed reply ≡ false → (r : Refusal) → result ≡ Err r → is_fault r ≡ false
excuses reply (Ok t) x a r e = absurd (cc)
excuses reply (Err s) x a r e = let y = x a in cc

-- after an answer of the store
pub answered-steps : {T : Type 0} (p q : Prog (Result T Refusal)) (op : Op) → Asks p op → (old new : View) (reply : Reply) (result : Result (Next T) Refusal) → Awaits p reply → Called (λ r. r) op (Ok reply) old new → has_failed reply ≡ false → Took p reply q result → Steps old new p q result
answered-steps (Done a) q op e old new reply result fits c f t = absurd e
answered-steps {T} (Ask next k) q op e old new reply result fits c f t =
    let h = heard (λ r. Lands (k r) q result × (is_told_surely next r ≡ true → IsSure (k r) result)) reply t.0 in
    let d = subst (λ (o : Op). Called (λ (r : Reply). r) o (Ok reply) old new) e c in
    Steps-answer (λ (r : Reply). r) next reply old new k q result fits d (excuses reply result t.1 f) h.0 h.1

-- any operation may fail
pub fits-failed : (op : Op) (done : Bool) → Fits op (Failed done)
fits-failed (Get key) done = tt
fits-failed (PutNew key bytes why) done = tt
fits-failed (PutOver key bytes old why) done = tt
fits-failed (Remove key why) done = tt
fits-failed (RemoveAt key old why) done = tt
fits-failed (ListPart part) done = tt

-- after a failure of the store
pub failed-steps : {T : Type 0} (p q : Prog (Result T Refusal)) (op : Op) → Asks p op → (old new : View) (fault : StoreFault) (result : Result (Next T) Refusal) → fault ≡ Store_failed → Called {A = Reply} (λ r. r) op (Err fault) old new → Took p (Failed false) q result → Steps old new p q result
failed-steps (Done a) q op e old new fault result f c t = absurd e
failed-steps {T} (Ask next k) q op e old new fault result f c t =
    let d = subst (λ (o : Op). Called {A = Reply} (λ r. r) o (Err Store_failed) old new) e (subst (λ (x : StoreFault). Called {A = Reply} (λ r. r) op (Err x) old new) f c) in
    let m = made-done (λ (r : Reply). r) old.caller next old.seen new.seen old.caller.tells d.did in
    record {
      same = d.same;
      blames = blamed d.counted result;
      went = inl (record { op = next; next = k; reply = Failed m.0; asks = refl; fits = fits-failed next m.0; made = m.1; lands = (t.0 m.0).0; sure = (t.0 m.0).1 });
    }
  where
    blamed : Rose old.faults new.faults → (r : Result (Next T) Refusal) → Blames r old.faults new.faults
    blamed rose (Ok x) = rose.0
    blamed rose (Err x) = (rose.0, λ y. rose)

-- where there was no memory for the operation
pub asked-none : {A : Type 0} (p : Prog A) → IsAsk p → (view : View) → AskedBy p (Err Store_no_memory) view view
asked-none (Done a) i view = i
asked-none (Ask op k) i view = record { same = refl; did = λ t. Waits-none view.caller view.seen; counted = omega arith }

pub asked-by : {A : Type 0} (p : Prog A) (op : Op) → Asks p op → (old new : View) (result : Result Reply StoreFault) → Called (λ r. r) op result old new → AskedBy p result old new
asked-by (Done a) op e old new result c = e
asked-by (Ask next k) op e old new result c = subst (λ (o : Op). Called (λ (r : Reply). r) o result old new) e c

pub answered-asked : {T : Type 0} (p q : Prog (Result T Refusal)) (old new : View) (reply : Reply) (result : Result (Next T) Refusal) → Awaits p reply → AskedBy p (Ok reply) old new → has_failed reply ≡ false → Took p reply q result → Steps old new p q result
answered-asked (Done a) q old new reply result fits c f t = absurd c
answered-asked (Ask op k) q old new reply result fits c f t = answered-steps (Ask op k) q op refl old new reply result fits c f t

pub failed-asked : {T : Type 0} (p q : Prog (Result T Refusal)) (old new : View) (fault : StoreFault) (result : Result (Next T) Refusal) → fault ≡ Store_failed → AskedBy p (Err fault) old new → Took p (Failed false) q result → Steps old new p q result
failed-asked (Done a) q old new fault result f c t = absurd c
failed-asked (Ask op k) q old new fault result f c t = failed-steps (Ask op k) q op refl old new fault result f c t

pub starved-asked : {T : Type 0} (p q : Prog (Result T Refusal)) (old new : View) (fault : StoreFault) → fault ≡ Store_no_memory → IsDone q → AskedBy p (Err fault) old new → Steps {T = T} old new p q (Err NoMemory)
starved-asked (Done a) q old new fault f d c = absurd c
starved-asked (Ask op k) q old new fault f d c =
    let b = subst (λ (x : StoreFault). Called {A = Reply} (λ r. r) op (Err x) old new) f c in
    record { same = b.same; blames = (b.counted, λ y. cc); went = inr (record { result_is = refl; waits = b.did; ended = d }) }
