-- Steps of an expiry.
use Rattle.std.proofs.Common.{Bool, true, false, ◌≡◌, ◌⊎◌, inl, inr, refl, sym, ap, ◌∙◌, subst, ℕ, ◌≤◌, List, [], ◌∷◌, Result, Ok, Err, IfOk, arith}
use Rattle.std.proofs.lemmas.Bool.{false≢true}
use Rattle.std.specs.Prelude.{IsTrue}
use Rattle.ice_base.specs.Ends.{Rose}
use Rattle.object_store.specs.declared.keys.Key.{Key}
use Rattle.object_store.specs.declared.events.Op.{Op}
use Rattle.object_store.specs.declared.events.Op.TheVariants.{Get, PutNew, PutOver, Remove, RemoveAt, List as ListPart}
use Rattle.object_store.specs.declared.events.Reply.{Reply}
use Rattle.object_store.specs.declared.events.Reply.TheVariants.{Got, New, Over, Gone, GoneAt, Listed as Is_listed, Failed as Reply_failed}
use Rattle.object_store.specs.declared.events.StoreFault.{StoreFault}
use Rattle.object_store.specs.declared.events.StoreFault.TheVariants.{Failed, NoMemory as No_room}
use Rattle.store_api.specs.declared.machines.Next.{Next}
use Rattle.store_api.specs.declared.machines.Next.TheVariants.{Again, Ready}
use Rattle.store_api.specs.declared.machines.Refusal.{Refusal}
use Rattle.store_api.specs.declared.machines.Refusal.TheVariants.{NoMemory}
use Rattle.store_api.specs.Callers.{View, Called, Waits, Fits}
use Rattle.store_api.specs.Driving.{has_failed}
use Rattle.store_api.specs.Program.{Prog, Done, Ask as Ask_next, is_ask, is_told_surely, is_no_memory, Lands, IsSure, Steps, Blames}
use Rattle.store_api.specs.Plays.{Play, Ask, call, behind, Comes, Acts, Starved, BlamesEnd}
use Rattle.store_api.proofs.Programs.{made-done, Waits-none}
use Rattle.expiry.specs.declared.look.Decision.{Decision}
use Rattle.expiry.specs.declared.standing.Expired.{Expired}
use Rattle.expiry.specs.declared.terms.Terms.{Terms}
use Rattle.expiry.specs.Looks.{look_program}
use Rattle.cleanup_reports.specs.declared.cases.RefCase.{RefCase}
use Rattle.expiry.specs.declared.register.Phase.TheVariants.{Branches, Tags}
use Rattle.expiry.specs.Plays.{tells_failure, after_look, after_listing, expire_each, all_done}
use Rattle.expiry.specs.inside.Registers.{Refs}
use Rattle.expiry.specs.inside.Expiring.{settled, faults, Blamed, heard, listed_told, listed_rest, behind_all, refs_rest, case_rest, listing_rest}
use Rattle.repo_read.proofs.Hearing.{IsTelling}

-- ---- ends and their blame
calm-end : (p q : Play Expired) (m n : ℕ) → m ≤ n → Blamed false q → BlamesEnd tells_failure p q m n
calm-end p q m n l b = (l, λ doomed. absurd (false≢true (b doomed)))

rose-end : (p q : Play Expired) (m n : ℕ) → Rose m n → BlamesEnd tells_failure p q m n
rose-end p q m n r = (r.0, λ doomed. inr r)

blames-end : (result : Result (Next Decision) Refusal) (p r : Play Expired) (m n : ℕ) → Blames result m n → Blamed (faults result) r → BlamesEnd tells_failure p r m n
blames-end (Ok t) p r m n b g = calm-end p r m n b g
blames-end (Err why) p r m n b g = (b.0, λ doomed. inr (b.1 (g doomed)))

-- ---- a step of a look
is-memory : (why : Refusal) → is_no_memory why ≡ true → why ≡ NoMemory
is-memory NoMemory e = refl
is-memory _ e = absurd cc

module _ (f : Result Decision Refusal → Play Expired) (r : Play Expired) where
  goes : (x y : Prog (Result Decision Refusal)) → x ≡ y → Comes (call y f) r → Comes (call x f) r
  goes x y e c = subst (λ (z : Prog (Result Decision Refusal)). Comes (call z f) r) (sym e) c

  -- behind what is told surely
  sure : (next q : Prog (Result Decision Refusal)) (result : Result (Next Decision) Refusal) → Lands next q result → IsSure next result → Comes (settled f q result) r → Comes (call next f) r
  sure next q (Ok Again) l s c = goes next q l.0 c
  sure next q (Ok (Ready t)) l s c = goes next (Done (Ok t)) l.0 c
  sure next q (Err why) l s c = goes next (Done (Err why)) s c

  refused : (next q : Prog (Result Decision Refusal)) (why : Refusal) (starved : Bool) → is_no_memory why ≡ starved → Lands next q (Err why) → Comes (f (Err why)) r → Comes (call next f) r ⊎ Comes (f (Err NoMemory)) r
  refused next q why true e l c = inr (subst (λ (w : Refusal). Comes (f (Err w)) r) (is-memory why e) c)
  refused next q why false e l c = inl (goes next (Done (Err why)) (l.1 e) c)

  free : (next q : Prog (Result Decision Refusal)) (result : Result (Next Decision) Refusal) → Lands next q result → Comes (settled f q result) r → Comes (call next f) r ⊎ Comes (f (Err NoMemory)) r
  free next q (Ok Again) l c = inl (goes next q l.0 c)
  free next q (Ok (Ready t)) l c = inl (goes next (Done (Ok t)) l.0 c)
  free next q (Err why) l c = refused next q why (is_no_memory why) refl l c

  landed : (op : Op) (reply : Reply) (surely : Bool) (next q : Prog (Result Decision Refusal)) (result : Result (Next Decision) Refusal) → is_told_surely op reply ≡ surely → Lands next q result → (is_told_surely op reply ≡ true → IsSure next result) → Comes (settled f q result) r → Comes (behind op reply (call next f) (f (Err NoMemory))) r
  landed op reply true next q result e l s c = rw e (sure next q result l (s e) c)
  landed op reply false next q result e l s c = rw e (free next q result l c)

  -- where there was no memory for an operation
  starves : (old new : View) (p : Prog (Result Decision Refusal)) → is_ask p ≡ true → (IsTrue old.caller.tells → Waits old.caller old.seen new.seen) → Comes (f (Err NoMemory)) r → Starved old new (call p f) r
  starves old new (Done a) e w c = absurd cc
  starves old new (Ask_next op k) e w c = record { op = op; starved = f (Err NoMemory); next = λ reply. behind op reply (call (k reply) f) (f (Err NoMemory)); asks = refl; waits = w; comes = c }

  pub look-acts : (old new : View) (p q : Prog (Result Decision Refusal)) (result : Result (Next Decision) Refusal) → is_ask p ≡ true → Steps old new p q result → Comes (settled f q result) r → Blamed (faults result) r → Acts tells_failure old new (call p f) r
  look-acts old new p q result live s c b = record {
    same = s.same;
    blames = blames-end result (call p f) r old.faults new.faults s.blames b;
    went = elim s.went [
      | inl m ↦ inl (record {
        op = m.op;
        starved = f (Err NoMemory);
        next = λ reply. behind m.op reply (call (m.next reply) f) (f (Err NoMemory));
        reply = m.reply;
        asks = ap (λ (x : Prog (Result Decision Refusal)). call x f) m.asks;
        fits = m.fits;
        made = m.made;
        comes = landed m.op m.reply (is_told_surely m.op m.reply) (m.next m.reply) q result refl m.lands m.sure c;
      })
      | inr n ↦ inr (starves old new p live n.waits (subst (λ (x : Result (Next Decision) Refusal). Comes (settled f q x) r) n.result_is c))
    ];
  }

-- where it answered
pub settled-ready : (f : Result Decision Refusal → Play Expired) (q : Prog (Result Decision Refusal)) (answer : Result (Next Decision) Refusal) (decision : Decision) (r : Play Expired) → answer ≡ Ok (Ready decision) → Comes (f (Ok decision)) r → Comes (settled f q answer) r
settled-ready f q answer decision r e c = rw e c

-- ---- an operation that is asked outright
fails-fit : (op : Op) (done : Bool) → Fits op (Reply_failed done)
fails-fit (Get key) done = tt
fails-fit (PutNew key bytes why) done = tt
fails-fit (PutOver key bytes old why) done = tt
fails-fit (Remove key why) done = tt
fails-fit (RemoveAt key old why) done = tt
fails-fit (ListPart part) done = tt

module _ {A : Type 0} (op : Op) (told : Reply → Result A Refusal) (f : Result A Refusal → Play Expired) (next : Reply → Play Expired) (goes : (reply : Reply) → next reply ≡ f (told reply)) (is : IsTelling op told) (old new : View) (q : Play Expired) where
  comes-by : (reply : Reply) (x : Result A Refusal) → told reply ≡ x → Comes (f x) q → Comes (next reply) q
  comes-by reply x e c = subst (λ (p : Play Expired). Comes p q) (sym (goes reply ∙ ap f e)) c

  calm : (reply : Reply) (x : Result A Refusal) → told reply ≡ x → Fits op reply → has_failed reply ≡ false → faults x ≡ false
  calm reply (Ok a) e w n = refl
  calm reply (Err why) e w n = is.sound reply why w n e

  pub asked-acts : (answer : Result Reply StoreFault) → Called (λ (reply : Reply). reply) op answer old new → IfOk answer (Fits op) → IfOk answer (λ reply. has_failed reply ≡ false) → Comes (f (heard told answer)) q → Blamed (faults (heard told answer)) q
      → Acts tells_failure old new (Ask op (f (Err NoMemory)) next) q
  asked-acts (Ok reply) c w n comes b = record {
    same = c.same;
    blames = calm-end (Ask op (f (Err NoMemory)) next) q old.faults new.faults c.counted (subst (λ (x : Bool). Blamed x q) (calm reply (told reply) refl w n) b);
    went = inl (record {
      op = op;
      starved = f (Err NoMemory);
      next = next;
      reply = reply;
      asks = refl;
      fits = w;
      made = c.did;
      comes = comes-by reply (told reply) refl comes;
    });
  }
  asked-acts (Err Failed) c w n comes b =
      let made = made-done (λ (reply : Reply). reply) old.caller op old.seen new.seen old.caller.tells c.did in
      record {
        same = c.same;
        blames = rose-end (Ask op (f (Err NoMemory)) next) q old.faults new.faults c.counted;
        went = inl (record {
          op = op;
          starved = f (Err NoMemory);
          next = next;
          reply = Reply_failed made.0;
          asks = refl;
          fits = fails-fit op made.0;
          made = made.1;
          comes = comes-by (Reply_failed made.0) _ (is.fails made.0) comes;
        });
      }
  asked-acts (Err No_room) c w n comes b = record {
    same = c.same;
    blames = calm-end (Ask op (f (Err NoMemory)) next) q old.faults new.faults c.counted b;
    went = inr (record {
      op = op;
      starved = f (Err NoMemory);
      next = next;
      asks = refl;
      waits = c.did;
      comes = comes;
    });
  }

-- ---- listings
pub listing-goes : (t : Terms) (refs : Refs) (reply : Reply) → after_listing refs.cases (λ keys. expire_each t keys refs.cases (behind_all t refs.phase)) reply ≡ listed_rest t refs (listed_told reply)
listing-goes t refs (Is_listed l) = refl
listing-goes t refs (Reply_failed done) = refl
listing-goes t refs (Got x) = refl
listing-goes t refs (New x) = refl
listing-goes t refs (Over x) = refl
listing-goes t refs (Gone x) = refl
listing-goes t refs (GoneAt x) = refl

-- with the operation and what was heard given as they are
module _ {A : Type 0} (told : Reply → Result A Refusal) (f : Result A Refusal → Play Expired) (next : Reply → Play Expired) (goes : (reply : Reply) → next reply ≡ f (told reply)) (old new : View) (q : Play Expired) where
  pub heard-acts : (op own : Op) → op ≡ own → IsTelling own told → (answer : Result Reply StoreFault) → Called (λ (reply : Reply). reply) op answer old new → IfOk answer (Fits op) → IfOk answer (λ reply. has_failed reply ≡ false)
      → (h : Result A Refusal) → h ≡ heard told answer → Comes (f h) q → Blamed (faults h) q → Acts tells_failure old new (Ask own (f (Err NoMemory)) next) q
  heard-acts op own e is answer called fits calm h he comes b =
      asked-acts own told f next goes is old new q answer (subst (λ (o : Op). Called (λ (reply : Reply). reply) o answer old new) e called) (subst (λ (o : Op). IfOk answer (Fits o)) e fits) calm
      (subst (λ (x : Result A Refusal). Comes (f x) q) he comes) (subst (λ (x : Result A Refusal). Blamed (faults x) q) he b)

-- ---- ref after ref
-- no ref is left
pub refs-over : (t : Terms) (refs : Refs) (q : Play Expired) → refs.keys ≡ [] → Comes (behind_all t refs.phase refs.cases) q → Comes (refs_rest t refs) q
unfolding expire_each
refs-over t refs q e c = rw e c

-- the first one is looked at
pub refs-next : (t : Terms) (refs turn : Refs) (key own : Key) (p : Prog (Result Decision Refusal)) → refs ≡ record turn { keys = key ∷ turn.keys } → p ≡ look_program t key → own ≡ key → Comes (refs_rest t refs) (call p (after_look own (case_rest t own turn)))
unfolding expire_each
refs-next t refs turn key own p e f g = rw (e, f, g) refl

-- behind the last branch
pub refs-tags : (t : Terms) (refs rest tags : Refs) → refs.keys ≡ [] → rest ≡ refs → rest.phase ≡ Branches → tags ≡ record rest { phase = Tags } → Comes (refs_rest t refs) (listing_rest t tags)
refs-tags t refs rest tags k r b e = let h : refs.phase ≡ Branches = rw r at b in refs-over t refs (listing_rest t tags) k (rw h (rw (e, r) refl))

-- behind the last tag
pub refs-done : (t : Terms) (refs rest : Refs) (cases : List RefCase) → refs.keys ≡ [] → rest ≡ refs → rest.phase ≡ Tags → cases ≡ rest.cases → Comes (refs_rest t refs) (all_done cases)
refs-done t refs rest cases k r b e = let h : refs.phase ≡ Tags = rw r at b in refs-over t refs (all_done cases) k (rw h (rw (e, r) refl))

-- ---- where there is no memory for an operation
pub called-none : (op : Op) (old : View) → Called (λ (reply : Reply). reply) op (Err No_room) old old
called-none op old = record { same = refl; did = λ t. Waits-none old.caller old.seen; counted = omega arith }
