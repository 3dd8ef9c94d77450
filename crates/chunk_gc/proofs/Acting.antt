-- A step of a collection.
use Rattle.std.proofs.Common.{Bool, true, false, ◌≡◌, ◌⊎◌, inl, inr, refl, sym, ap, ◌∙◌, subst, ℕ, ◌≤◌, List, [], ◌∷◌, Result, Ok, Err}
use Rattle.std.proofs.lemmas.Bool.{false≢true}
use Rattle.std.specs.Prelude.{IsTrue}
use Rattle.ice_base.specs.Ends.{Rose}
use Rattle.object_store.specs.declared.keys.Key.{Key}
use Rattle.object_store.specs.declared.keys.Why.TheVariants.{Collect as For_collect}
use Rattle.object_store.specs.declared.events.Gone.{Gone}
use Rattle.object_store.specs.declared.events.Op.{Op}
use Rattle.object_store.specs.declared.events.Op.TheVariants.{Remove}
use Rattle.object_store.specs.declared.events.Reply.{Reply}
use Rattle.object_store.specs.declared.events.Reply.TheVariants.{Gone as Is_gone, Failed as Reply_failed}
use Rattle.object_store.specs.declared.events.StoreFault.{StoreFault}
use Rattle.object_store.specs.declared.events.StoreFault.TheVariants.{Failed, NoMemory as No_room}
use Rattle.store_api.specs.declared.machines.Next.{Next}
use Rattle.store_api.specs.declared.machines.Next.TheVariants.{Again, Ready}
use Rattle.store_api.specs.declared.machines.Refusal.{Refusal}
use Rattle.store_api.specs.declared.machines.Refusal.TheVariants.{NoMemory}
use Rattle.store_api.specs.Callers.{View, Called, Waits}
use Rattle.store_api.specs.Program.{Prog, Done, Ask as Ask_next, is_ask, is_told_surely, is_no_memory, Lands, IsSure, Steps, Blames}
use Rattle.store_api.specs.Plays.{Play, call, behind, Comes, Acts, Starved, dooms, BlamesEnd}
use Rattle.store_api.proofs.Programs.{made-done}
use Rattle.cleanup_reports.specs.declared.removed.Removed.{Removed}
use Rattle.chunk_gc.specs.declared.standing.Collected.{Collected}
use Rattle.chunk_gc.specs.Plays.{tells_failure, sweep, ends_with, after_removal}
use Rattle.chunk_gc.specs.inside.Collecting.{settled, faults, Blamed, removing_rest, removal_rest}

-- ---- a step of the marking
is-memory : (why : Refusal) → is_no_memory why ≡ true → why ≡ NoMemory
is-memory NoMemory e = refl
is-memory _ e = absurd cc

blames-end : (result : Result (Next (List Key)) Refusal) (p r : Play Collected) (m n : ℕ) → Blames result m n → Blamed (faults result) r → BlamesEnd tells_failure p r m n
blames-end (Ok t) p r m n b g = (b, λ doomed. absurd (false≢true (g doomed)))
blames-end (Err why) p r m n b g = (b.0, λ doomed. inr (b.1 (g doomed)))

module _ (f : Result (List Key) Refusal → Play Collected) (r : Play Collected) where
  goes : (x y : Prog (Result (List Key) Refusal)) → x ≡ y → Comes (call y f) r → Comes (call x f) r
  goes x y e c = subst (λ (z : Prog (Result (List Key) Refusal)). Comes (call z f) r) (sym e) c

  -- behind what is told surely
  sure : (next q : Prog (Result (List Key) Refusal)) (result : Result (Next (List Key)) Refusal) → Lands next q result → IsSure next result → Comes (settled f q result) r → Comes (call next f) r
  sure next q (Ok Again) l s c = goes next q l.0 c
  sure next q (Ok (Ready t)) l s c = goes next (Done (Ok t)) l.0 c
  sure next q (Err why) l s c = goes next (Done (Err why)) s c

  refused : (next q : Prog (Result (List Key) Refusal)) (why : Refusal) (starved : Bool) → is_no_memory why ≡ starved → Lands next q (Err why) → Comes (f (Err why)) r → Comes (call next f) r ⊎ Comes (f (Err NoMemory)) r
  refused next q why true e l c = inr (subst (λ (w : Refusal). Comes (f (Err w)) r) (is-memory why e) c)
  refused next q why false e l c = inl (goes next (Done (Err why)) (l.1 e) c)

  free : (next q : Prog (Result (List Key) Refusal)) (result : Result (Next (List Key)) Refusal) → Lands next q result → Comes (settled f q result) r → Comes (call next f) r ⊎ Comes (f (Err NoMemory)) r
  free next q (Ok Again) l c = inl (goes next q l.0 c)
  free next q (Ok (Ready t)) l c = inl (goes next (Done (Ok t)) l.0 c)
  free next q (Err why) l c = refused next q why (is_no_memory why) refl l c

  landed : (op : Op) (reply : Reply) (surely : Bool) (next q : Prog (Result (List Key) Refusal)) (result : Result (Next (List Key)) Refusal) → is_told_surely op reply ≡ surely → Lands next q result → (is_told_surely op reply ≡ true → IsSure next result) → Comes (settled f q result) r → Comes (behind op reply (call next f) (f (Err NoMemory))) r
  landed op reply true next q result e l s c = rw e (sure next q result l (s e) c)
  landed op reply false next q result e l s c = rw e (free next q result l c)

  -- where there was no memory for an operation
  starves : (old new : View) (p : Prog (Result (List Key) Refusal)) → is_ask p ≡ true → (IsTrue old.caller.tells → Waits old.caller old.seen new.seen) → Comes (f (Err NoMemory)) r → Starved old new (call p f) r
  starves old new (Done a) e w c = absurd cc
  starves old new (Ask_next op k) e w c = record { op = op; starved = f (Err NoMemory); next = λ reply. behind op reply (call (k reply) f) (f (Err NoMemory)); asks = refl; waits = w; comes = c }

  pub acts : (old new : View) (p q : Prog (Result (List Key) Refusal)) (result : Result (Next (List Key)) Refusal) → is_ask p ≡ true → Steps old new p q result → Comes (settled f q result) r → Blamed (faults result) r → Acts tells_failure old new (call p f) r
  acts old new p q result live s c b = record {
    same = s.same;
    blames = blames-end result (call p f) r old.faults new.faults s.blames b;
    went = elim s.went [
      | inl m ↦ inl (record {
        op = m.op;
        starved = f (Err NoMemory);
        next = λ reply. behind m.op reply (call (m.next reply) f) (f (Err NoMemory));
        reply = m.reply;
        asks = ap (λ (x : Prog (Result (List Key) Refusal)). call x f) m.asks;
        fits = m.fits;
        made = m.made;
        comes = landed m.op m.reply (is_told_surely m.op m.reply) (m.next m.reply) q result refl m.lands m.sure c;
      })
      | inr n ↦ inr (starves old new p live n.waits (subst (λ (x : Result (Next (List Key)) Refusal). Comes (settled f q x) r) n.result_is c))
    ];
  }

-- ---- removals
pub sweep-end : (keys : List Key) (removed : Removed) (q : Play Collected) → keys ≡ [] → q ≡ ends_with removed (Ok tt) → Comes (sweep keys removed) q
unfolding sweep
sweep-end keys removed q e s = rw e s

pub sweep-more : (keys behind : List Key) (key : Key) (removed : Removed) (q : Play Collected) → keys ≡ key ∷ behind → q ≡ removing_rest key behind removed → Comes (sweep keys removed) q
unfolding sweep
sweep-more keys behind key removed q e s = rw e s

-- what is bound to tell no fault
calm-end : (p q : Play Collected) (m n : ℕ) → m ≤ n → Blamed false q → BlamesEnd tells_failure p q m n
calm-end p q m n l b = (l, λ doomed. absurd (false≢true (b doomed)))

failed-end : (p q : Play Collected) (m n : ℕ) → Rose m n → BlamesEnd tells_failure p q m n
failed-end p q m n r = (r.0, λ doomed. inr r)

pub removed-acts : (key : Key) (keys : List Key) (removed : Removed) (answer : Result Gone StoreFault) (old new : View) (q : Play Collected) → Called (λ gone. Is_gone gone) (Remove key For_collect) answer old new
    → Comes (removal_rest key keys removed answer) q → ((gone : Gone) → answer ≡ Ok gone → Blamed false q) → Acts tells_failure old new (removing_rest key keys removed) q
removed-acts key keys removed (Ok gone) old new q c comes b = record {
  same = c.same;
  blames = calm-end (removing_rest key keys removed) q old.faults new.faults c.counted (b gone refl);
  went = inl (record {
    op = Remove key For_collect;
    starved = ends_with removed (Err NoMemory);
    next = after_removal key (sweep keys) removed;
    reply = Is_gone gone;
    asks = refl;
    fits = tt;
    made = c.did;
    comes = comes;
  });
}
removed-acts key keys removed (Err Failed) old new q c comes b =
    let made = made-done (λ (gone : Gone). Is_gone gone) old.caller (Remove key For_collect) old.seen new.seen old.caller.tells c.did in
    record {
      same = c.same;
      blames = failed-end (removing_rest key keys removed) q old.faults new.faults c.counted;
      went = inl (record {
        op = Remove key For_collect;
        starved = ends_with removed (Err NoMemory);
        next = after_removal key (sweep keys) removed;
        reply = Reply_failed made.0;
        asks = refl;
        fits = tt;
        made = made.1;
        comes = comes;
      });
    }
removed-acts key keys removed (Err No_room) old new q c comes b = record {
  same = c.same;
  blames = calm-end (removing_rest key keys removed) q old.faults new.faults c.counted (starved-end q comes);
  went = inr (record {
    op = Remove key For_collect;
    starved = ends_with removed (Err NoMemory);
    next = after_removal key (sweep keys) removed;
    asks = refl;
    waits = c.did;
    comes = comes;
  });
}
  where
    starved-end : (q : Play Collected) → q ≡ ends_with removed (Err NoMemory) → Blamed false q
    starved-end q e doomed = sym (ap (dooms tells_failure) e) ∙ doomed
