-- Laws of a play that another one follows.
use Rattle.std.proofs.Common.{◌≡◌, ℕ, Bool, true, List, inl, inr, refl, ap, subst}
use Rattle.std.specs.Prelude.{◌⊎◌}
use Rattle.ice_base.specs.Ends.{Rose}
use Rattle.object_store.specs.declared.events.Op.{Op}
use Rattle.object_store.specs.declared.events.Event.{Event}
use Rattle.store_api.specs.Callers.{Caller, View}
use Rattle.store_api.specs.Plays.{Play, Ended, Ask, Or, IsLive, Comes, PlayKeeps, PlayLeads, PlayIsPolite, Acts, dooms}
use Rattle.leases.specs.Following.{followed}

-- ---- where it stands
pub followed-comes : {A B : Type 0} (f : A → Play B) (p q : Play A) (r : Play B) → Comes p q → Comes (followed q f) r → Comes (followed p f) r
followed-comes f (Ended a) q r c d = subst (λ (x : Play _). Comes (followed x f) r) c d
followed-comes f (Ask op s g) q r c d = subst (λ (x : Play _). Comes (followed x f) r) c d
followed-comes f (Or p o) q r (inl c) d = inl (followed-comes f p q r c d)
followed-comes f (Or p o) q r (inr c) d = inr (followed-comes f o q r c d)

pub followed-live : {A B : Type 0} (f : A → Play B) (p : Play A) → IsLive p → IsLive (followed p f)
followed-live f (Ended a) live = absurd live
followed-live f (Ask op s g) live = tt
followed-live f (Or p q) live = absurd live

-- one that has an operation left has come to itself
pub followed-self : {A B : Type 0} (f : A → Play B) (p : Play A) → IsLive p → Comes (followed p f) (followed p f)
followed-self f (Ended a) live = absurd live
followed-self f (Ask op s g) live = refl
followed-self f (Or p q) live = absurd live

pub followed-polite : {A B : Type 0} (f : A → Play B) (p : Play A) (journal : List Event) → IsLive p → PlayIsPolite (followed p f) journal → PlayIsPolite p journal
followed-polite f (Ended a) journal live polite = absurd live
followed-polite f (Ask op s g) journal live polite = polite
followed-polite f (Or p q) journal live polite = absurd live

-- ---- what it tells where memory is wanting
pub followed-dooms : {A B : Type 0} (f : A → Play B) (failed : A → Bool) (fails : B → Bool) → ((a : A) → dooms fails (f a) ≡ failed a) → (p : Play A) → dooms fails (followed p f) ≡ dooms failed p
followed-dooms f failed fails each (Ended a) = each a
followed-dooms f failed fails each (Ask op s g) = followed-dooms f failed fails each s
followed-dooms f failed fails each (Or p q) = followed-dooms f failed fails each q

pub followed-doomed : {A B : Type 0} (f : A → Play B) (failed : A → Bool) (fails : B → Bool) → ((a : A) → failed a ≡ true → dooms fails (f a) ≡ true) → (p : Play A) → dooms failed p ≡ true → dooms fails (followed p f) ≡ true
followed-doomed f failed fails each (Ended a) d = each a d
followed-doomed f failed fails each (Ask op s g) d = followed-doomed f failed fails each s d
followed-doomed f failed fails each (Or p q) d = followed-doomed f failed fails each q d

-- ---- a step
-- a step of the first is a step of the whole, to whatever that has come to later, which is bound to tell a fault of the store only where the first is,
-- or where the whole was before
pub followed-acts : {A B : Type 0} (f : A → Play B) (failed : A → Bool) (fails : B → Bool) → ((a : A) → failed a ≡ true → dooms fails (f a) ≡ true) → (old new : View) (p q : Play A) (r : Play B)
    → Acts failed old new p q → Comes (followed q f) r → (dooms fails r ≡ true → (dooms failed q ≡ true) ⊎ (dooms fails (followed p f) ≡ true)) → Acts fails old new (followed p f) r
followed-acts f failed fails each old new p q r acts comes calm = record {
  same = acts.same;
  blames = (acts.blames.0, λ doomed. by_calm (calm doomed));
  went = elim acts.went [
    | inl a ↦ inl (record {
      op = a.op;
      starved = followed a.starved f;
      next = λ reply. followed (a.next reply) f;
      reply = a.reply;
      asks = ap (λ (x : Play _). followed x f) a.asks;
      fits = a.fits;
      made = a.made;
      comes = followed-comes f (a.next a.reply) q r a.comes comes;
    })
    | inr n ↦ inr (record {
      op = n.op;
      starved = followed n.starved f;
      next = λ reply. followed (n.next reply) f;
      asks = ap (λ (x : Play _). followed x f) n.asks;
      waits = n.waits;
      comes = followed-comes f n.starved q r n.comes comes;
    })
  ];
}
  where
    by_before : {R : Type 0} → (dooms failed p ≡ true) ⊎ R → (dooms fails (followed p f) ≡ true) ⊎ R
    by_before (inl d) = inl (followed-doomed f failed fails each p d)
    by_before (inr rose) = inr rose

    by_calm : (dooms failed q ≡ true) ⊎ (dooms fails (followed p f) ≡ true) → (dooms fails (followed p f) ≡ true) ⊎ Rose old.faults new.faults
    by_calm (inl d) = by_before (acts.blames.1 d)
    by_calm (inr d) = inl d

-- ---- what holds of its operations and of its outcome
pub PlayKeeps-followed : {A B : Type 0} (P : List Event → ℕ → Op → Type 0) (Q : A → List Event → Type 0) (by : Caller) (p : Play A) (f : A → Play B) (journal : List Event)
    → PlayKeeps P by p journal → PlayLeads Q by p journal → ((a : A) (h : List Event) → Q a h → PlayKeeps P by (f a) h) → PlayKeeps P by (followed p f) journal
unfolding PlayKeeps PlayLeads
PlayKeeps-followed P Q by (Ended a) f journal k l later = later a journal l
PlayKeeps-followed P Q by (Ask op s g) f journal k l later = (
  k.0,
  PlayKeeps-followed P Q by s f journal k.1 l.0 later,
  λ reply new m. PlayKeeps-followed P Q by (g reply) f new (k.2 reply new m) (l.1 reply new m) later,
)
PlayKeeps-followed P Q by (Or p q) f journal k l later = (PlayKeeps-followed P Q by p f journal k.0 l.0 later, PlayKeeps-followed P Q by q f journal k.1 l.1 later)

pub PlayLeads-followed : {A B : Type 0} (R : B → List Event → Type 0) (Q : A → List Event → Type 0) (by : Caller) (p : Play A) (f : A → Play B) (journal : List Event)
    → PlayLeads Q by p journal → ((a : A) (h : List Event) → Q a h → PlayLeads R by (f a) h) → PlayLeads R by (followed p f) journal
unfolding PlayLeads
PlayLeads-followed R Q by (Ended a) f journal l later = later a journal l
PlayLeads-followed R Q by (Ask op s g) f journal l later = (
  PlayLeads-followed R Q by s f journal l.0 later,
  λ reply new m. PlayLeads-followed R Q by (g reply) f new (l.1 reply new m) later,
)
PlayLeads-followed R Q by (Or p q) f journal l later = (PlayLeads-followed R Q by p f journal l.0 later, PlayLeads-followed R Q by q f journal l.1 later)
