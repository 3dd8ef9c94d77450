-- A step of a worker's machine is a step of the worker.
use Rattle.std.proofs.Common.{Bool, true, false, ◌≡◌, ◌⊎◌, inl, inr, refl, sym, ap, ◌∙◌, subst, ℕ, Result, Ok, Err}
use Rattle.std.proofs.lemmas.Bool.{false≢true}
use Rattle.std.specs.Prelude.{IsTrue}
use Rattle.object_store.specs.declared.events.Op.{Op}
use Rattle.object_store.specs.declared.events.Reply.{Reply}
use Rattle.object_store.specs.declared.events.Reply.TheVariants.{Failed}
use Rattle.store_api.specs.declared.machines.Next.{Next}
use Rattle.store_api.specs.declared.machines.Next.TheVariants.{Again, Ready}
use Rattle.store_api.specs.declared.machines.Refusal.{Refusal}
use Rattle.store_api.specs.declared.machines.Refusal.TheVariants.{NoMemory, StoreFault}
use Rattle.store_api.specs.Callers.{View, Waits, has_failed}
use Rattle.store_api.specs.Program.{Prog, Done, Ask as Ask_next, is_ask, moves_branch, is_told_surely, is_no_memory, Lands, IsSure, Steps, Blames}
use Rattle.store_api.specs.Plays.{Play, call, behind, Comes, Acts, Acted, Starved, dooms, BlamesEnd}
use Rattle.play_outcome.specs.declared.outcome.Outcome.{Outcome}
use Rattle.play_outcome.specs.Ending.{ends_failed}
use Rattle.play_outcome.specs.Settling.{settled, ComesOrStarves, Faults}

pub is_memory : (why : Refusal) → is_no_memory why ≡ true → why ≡ NoMemory
is_memory NoMemory e = refl
is_memory _ e = absurd cc

blamed : {T : Type 0} (result : Result (Next T) Refusal) (p r : Play Outcome) (m n : ℕ) → Blames result m n → Faults result r → BlamesEnd ends_failed p r m n
blamed (Ok t) p r m n b g = (b, λ doomed. absurd (false≢true (g doomed)))
blamed (Err why) p r m n b g = (b.0, λ doomed. inr (b.1 (g doomed)))

-- where it was bound to tell a fault before
was-doomed : {T : Type 0} (result : Result (Next T) Refusal) (p r : Play Outcome) (m n : ℕ) → Blames result m n → dooms ends_failed p ≡ true → BlamesEnd ends_failed p r m n
was-doomed (Ok t) p r m n b before = (b, λ doomed. inl before)
was-doomed (Err why) p r m n b before = (b.0, λ doomed. inl before)

-- the operation that comes next only reads, and its failure ends the program
abbrev pub IsReading : {T : Type 0} → Prog (Result T Refusal) → Type 0
IsReading (Done a) = Unit {0}
IsReading (Ask_next op k) = (moves_branch op ≡ false) × ((done : Bool) → k (Failed done) ≡ Done (Err StoreFault))

failed : {T : Type 0} (next : Reply → Prog (Result T Refusal)) (reply : Reply) → ((done : Bool) → next (Failed done) ≡ Done (Err StoreFault)) → has_failed reply ≡ true → next reply ≡ Done (Err StoreFault)
failed next (Failed done) fails e = fails done
failed next _ fails e = absurd (cc)

module _ {T : Type 0} (f : Result T Refusal → Play Outcome) (r : Play Outcome) where
  goes : (x y : Prog (Result T Refusal)) → x ≡ y → Comes (call y f) r → Comes (call x f) r
  goes x y e c = subst (λ (z : Prog (Result T Refusal)). Comes (call z f) r) (sym e) c

  -- behind what is told surely
  sure : (next q : Prog (Result T Refusal)) (result : Result (Next T) Refusal) → Lands next q result → IsSure next result → Comes (settled f q result) r → Comes (call next f) r
  sure next q (Ok Again) l s c = goes next q l.0 c
  sure next q (Ok (Ready t)) l s c = goes next (Done (Ok t)) l.0 c
  sure next q (Err why) l s c = goes next (Done (Err why)) s c

  refused : (next q : Prog (Result T Refusal)) (why : Refusal) (starved : Bool) → is_no_memory why ≡ starved → Lands next q (Err why) → Comes (f (Err why)) r → Comes (call next f) r ⊎ Comes (f (Err NoMemory)) r
  refused next q why true e l c = inr (subst (λ (w : Refusal). Comes (f (Err w)) r) (is_memory why e) c)
  refused next q why false e l c = inl (goes next (Done (Err why)) (l.1 e) c)

  free : (next q : Prog (Result T Refusal)) (result : Result (Next T) Refusal) → Lands next q result → Comes (settled f q result) r → Comes (call next f) r ⊎ Comes (f (Err NoMemory)) r
  free next q (Ok Again) l c = inl (goes next q l.0 c)
  free next q (Ok (Ready t)) l c = inl (goes next (Done (Ok t)) l.0 c)
  free next q (Err why) l c = refused next q why (is_no_memory why) refl l c

  landed : (op : Op) (reply : Reply) (surely : Bool) (next q : Prog (Result T Refusal)) (result : Result (Next T) Refusal) → is_told_surely op reply ≡ surely → Lands next q result → (is_told_surely op reply ≡ true → IsSure next result) → Comes (settled f q result) r → Comes (behind op reply (call next f) (f (Err NoMemory))) r
  landed op reply true next q result e l s c = rw e (sure next q result l (s e) c)
  landed op reply false next q result e l s c = rw e (free next q result l c)

  -- where there was no memory for an operation
  starves : (old new : View) (p : Prog (Result T Refusal)) → is_ask p ≡ true → (IsTrue old.caller.tells → Waits old.caller old.seen new.seen) → Comes (f (Err NoMemory)) r → Starved old new (call p f) r
  starves old new (Done a) e w c = absurd cc
  starves old new (Ask_next op k) e w c = record { op = op; starved = f (Err NoMemory); next = λ reply. behind op reply (call (k reply) f) (f (Err NoMemory)); asks = refl; waits = w; comes = c }

  went : (old new : View) (p q : Prog (Result T Refusal)) (result : Result (Next T) Refusal) → is_ask p ≡ true → Steps old new p q result → Comes (settled f q result) r → Acted old new (call p f) r ⊎ Starved old new (call p f) r
  went old new p q result live s c = elim s.went [
    | inl m ↦ inl (record {
      op = m.op;
      starved = f (Err NoMemory);
      next = λ reply. behind m.op reply (call (m.next reply) f) (f (Err NoMemory));
      reply = m.reply;
      asks = ap (λ (x : Prog (Result T Refusal)). call x f) m.asks;
      fits = m.fits;
      made = m.made;
      comes = landed m.op m.reply (is_told_surely m.op m.reply) (m.next m.reply) q result refl m.lands m.sure c;
    })
    | inr n ↦ inr (starves old new p live n.waits (subst (λ (x : Result (Next T) Refusal). Comes (settled f q x) r) n.result_is c))
  ]

  pub acts : (old new : View) (p q : Prog (Result T Refusal)) (result : Result (Next T) Refusal) → is_ask p ≡ true → Steps old new p q result → Comes (settled f q result) r → Faults result r → Acts ends_failed old new (call p f) r
  acts old new p q result live s c b = record { same = s.same; blames = blamed result (call p f) r old.faults new.faults s.blames b; went = went old new p q result live s c }

  -- ... of a play that was bound to tell a fault before, whatever its machine answers
  pub acts-doomed : (old new : View) (p q : Prog (Result T Refusal)) (result : Result (Next T) Refusal) → is_ask p ≡ true → Steps old new p q result → Comes (settled f q result) r → dooms ends_failed (call p f) ≡ true → Acts ends_failed old new (call p f) r
  acts-doomed old new p q result live s c before = record { same = s.same; blames = was-doomed result (call p f) r old.faults new.faults s.blames before; went = went old new p q result live s c }

  -- ---- machines that only read, behind whose answers there may be no memory
  -- no answer was read where the store failed
  read-none : (op : Op) (reply : Reply) (next : Prog (Result T Refusal)) (t : T) → moves_branch op ≡ false → (has_failed reply ≡ true → next ≡ Done (Err StoreFault)) → next ≡ Done (Ok t) → (surely : Bool) → is_told_surely op reply ≡ surely → surely ≡ false
  read-none op reply next t reads fails read false e = refl
  read-none op reply next t reads fails read true e =
      let failed : has_failed reply ≡ true = rw reads at e in
      let no = sym (fails failed) ∙ read in absurd (cc)

  landed-read : (op : Op) (reply : Reply) (next q : Prog (Result T Refusal)) (result : Result (Next T) Refusal) → moves_branch op ≡ false → (has_failed reply ≡ true → next ≡ Done (Err StoreFault)) → Lands next q result → (is_told_surely op reply ≡ true → IsSure next result) → ComesOrStarves f q result r
      → Comes (behind op reply (call next f) (f (Err NoMemory))) r
  landed-read op reply next q (Ok Again) reads fails l s c = landed op reply (is_told_surely op reply) next q (Ok Again) refl l s c
  landed-read op reply next q (Ok (Ready t)) reads fails l s (inl c) = landed op reply (is_told_surely op reply) next q (Ok (Ready t)) refl l s c
  landed-read op reply next q (Ok (Ready t)) reads fails l s (inr c) = let free = read-none op reply next t reads fails l.0 (is_told_surely op reply) refl in rw free (inr c)
  landed-read op reply next q (Err why) reads fails l s c = landed op reply (is_told_surely op reply) next q (Err why) refl l s c

  stopped-read : (q : Prog (Result T Refusal)) (result : Result (Next T) Refusal) → result ≡ Err NoMemory → ComesOrStarves f q result r → Comes (f (Err NoMemory)) r
  stopped-read q result is c = subst (λ (x : Result (Next T) Refusal). ComesOrStarves f q x r) is c

  pub acts-reads : (old new : View) (p q : Prog (Result T Refusal)) (result : Result (Next T) Refusal) → IsReading p → is_ask p ≡ true → Steps old new p q result → ComesOrStarves f q result r → Faults result r → Acts ends_failed old new (call p f) r
  acts-reads old new p q result reads live s c b = record {
    same = s.same;
    blames = blamed result (call p f) r old.faults new.faults s.blames b;
    went = elim s.went [
      | inl m ↦
          let reading = subst (λ (x : Prog (Result T Refusal)). IsReading x) m.asks reads in
          inl (record {
            op = m.op;
            starved = f (Err NoMemory);
            next = λ reply. behind m.op reply (call (m.next reply) f) (f (Err NoMemory));
            reply = m.reply;
            asks = ap (λ (x : Prog (Result T Refusal)). call x f) m.asks;
            fits = m.fits;
            made = m.made;
            comes = landed-read m.op m.reply (m.next m.reply) q result reading.0 (failed m.next m.reply reading.1) m.lands m.sure c;
          })
      | inr n ↦ inr (starves old new p live n.waits (stopped-read q result n.result_is c))
    ];
  }
