-- A play whose outcome is told as another one makes the same operations.
use Rattle.std.proofs.Common.{Bool, true, ◌≡◌, ◌⊎◌, inl, inr, sym, ap, ◌∙◌, ℕ, List}
use Rattle.ice_base.specs.Ends.{Rose}
use Rattle.object_store.specs.declared.events.Op.{Op}
use Rattle.object_store.specs.declared.events.Event.{Event}
use Rattle.store_api.specs.Callers.{Caller, View}
use Rattle.store_api.specs.Plays.{Play, Ended, Ask, Or, IsLive, HasEnded, Comes, PlayKeeps, PlayLeads, PlayIsPolite, dooms, BlamesEnd, Acts, ended_as}

module _ {A B : Type 0} (f : A → B) where
  -- ---- where it stands
  pub live-as : (p : Play A) → IsLive p → IsLive (ended_as f p)
  live-as (Ended a) l = l
  live-as (Ask op starved next) l = l
  live-as (Or p q) l = l

  pub is-live : (p : Play A) → IsLive (ended_as f p) → IsLive p
  is-live (Ended a) l = l
  is-live (Ask op starved next) l = l
  is-live (Or p q) l = l

  pub ended-so : (p : Play A) → HasEnded p → HasEnded (ended_as f p)
  ended-so (Ended a) e = e
  ended-so (Ask op starved next) e = e
  ended-so (Or p q) e = e

  pub has-ended : (p : Play A) → HasEnded (ended_as f p) → HasEnded p
  has-ended (Ended a) e = e
  has-ended (Ask op starved next) e = e
  has-ended (Or p q) e = e

  pub is-polite : (p : Play A) (journal : List Event) → PlayIsPolite (ended_as f p) journal → PlayIsPolite p journal
  is-polite (Ended a) journal k = k
  is-polite (Ask op starved next) journal k = k
  is-polite (Or p q) journal k = k

  -- ---- its steps
  comes : (p q : Play A) → Comes p q → Comes (ended_as f p) (ended_as f q)
  comes (Ended a) q c = ap (ended_as f) c
  comes (Ask op starved next) q c = ap (ended_as f) c
  comes (Or p r) q (inl c) = inl (comes p q c)
  comes (Or p r) q (inr c) = inr (comes r q c)

  module _ (failed : A → Bool) (told : B → Bool) (same : (a : A) → told (f a) ≡ failed a) where
    pub dooms-as : (p : Play A) → dooms told (ended_as f p) ≡ dooms failed p
    dooms-as (Ended a) = same a
    dooms-as (Ask op starved next) = dooms-as starved
    dooms-as (Or p q) = dooms-as q

    blames : (p q : Play A) (m n : ℕ) → BlamesEnd failed p q m n → BlamesEnd told (ended_as f p) (ended_as f q) m n
    blames p q m n b = (b.0, λ e. rose (b.1 (sym (dooms-as q) ∙ e)))
      where
        rose : (dooms failed p ≡ true) ⊎ Rose m n → (dooms told (ended_as f p) ≡ true) ⊎ Rose m n
        rose (inl d) = inl (dooms-as p ∙ d)
        rose (inr r) = inr r

    pub acts-as : (old new : View) (p q : Play A) → Acts failed old new p q → Acts told old new (ended_as f p) (ended_as f q)
    acts-as old new p q s = record {
      same = s.same;
      blames = blames p q old.faults new.faults s.blames;
      went = elim s.went [
        | inl a ↦ inl (record {
          op = a.op;
          starved = ended_as f a.starved;
          next = λ reply. ended_as f (a.next reply);
          reply = a.reply;
          asks = ap (ended_as f) a.asks;
          fits = a.fits;
          made = a.made;
          comes = comes (a.next a.reply) q a.comes;
        })
        | inr n ↦ inr (record { op = n.op; starved = ended_as f n.starved; next = λ reply. ended_as f (n.next reply); asks = ap (ended_as f) n.asks; waits = n.waits; comes = comes n.starved q n.comes })
      ];
    }

  -- ---- whatever others do
  -- two facts of each of its operations
  pub keeps-both : (P Q : List Event → ℕ → Op → Type 0) (by : Caller) (p : Play A) (journal : List Event) → PlayKeeps P by p journal → PlayKeeps Q by p journal → PlayKeeps (λ h client op. P h client op × Q h client op) by (ended_as f p) journal
  unfolding PlayKeeps
  keeps-both P Q by (Ended a) journal k l = tt
  keeps-both P Q by (Ask op starved next) journal k l = ((k.0, l.0), keeps-both P Q by starved journal k.1 l.1, λ reply new m. keeps-both P Q by (next reply) new (k.2 reply new m) (l.2 reply new m))
  keeps-both P Q by (Or p q) journal k l = (keeps-both P Q by p journal k.0 l.0, keeps-both P Q by q journal k.1 l.1)

  -- where R holds of the outcome that is told
  pub leads-as : (Q : A → List Event → Type 0) (R : B → List Event → Type 0) → ((a : A) (h : List Event) → Q a h → R (f a) h) → (by : Caller) (p : Play A) (journal : List Event) → PlayLeads Q by p journal → PlayLeads R by (ended_as f p) journal
  unfolding PlayLeads
  leads-as Q R g by (Ended a) journal l = g a journal l
  leads-as Q R g by (Ask op starved next) journal l = (leads-as Q R g by starved journal l.0, λ reply new m. leads-as Q R g by (next reply) new (l.1 reply new m))
  leads-as Q R g by (Or p q) journal l = (leads-as Q R g by p journal l.0, leads-as Q R g by q journal l.1)
