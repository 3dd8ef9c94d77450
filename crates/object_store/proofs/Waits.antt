-- Waits and calls, whatever callers may do.
use Rattle.std.proofs.Common.{◌≡◌, ℕ, List, [], ◌∷◌, ◌++◌, refl, sym, ◌∙◌, ap, subst, append_assoc, append-nil}
use Rattle.object_store.specs.declared.events.Op.{Op}
use Rattle.object_store.specs.declared.events.Reply.{Reply}
use Rattle.object_store.specs.declared.events.Event.{Event}
use Rattle.object_store.specs.Machine.{IsAnswered}
use Rattle.object_store.specs.Journals.{Each}
use Rattle.object_store.specs.Callers.{Caller, IsOther, Waits, Makes, own_event}
use Rattle.object_store.proofs.Journals.{Each-append, Each-none}

pub Waits-none : (may : List Event → Op → Type 0) (by : Caller) (old : List Event) → Waits may by old old
Waits-none may by old = record { between = []; others = Each-none (IsOther may by) old; is = sym (append-nil old) }

pub Waits-same : (may : List Event → Op → Type 0) (by : Caller) (old new : List Event) → new ≡ old → Waits may by old new
Waits-same may by old new e = subst (λ (h : List Event). Waits may by old h) (sym e) (Waits-none may by old)

pub Waits-trans : (may : List Event → Op → Type 0) (by : Caller) (a b c : List Event) → Waits may by a b → Waits may by b c → Waits may by a c
Waits-trans may by a b c v w = record {
  between = v.between ++ w.between;
  others = Each-append (IsOther may by) a v.between w.between v.others (subst (λ (h : List Event). Each (IsOther may by) h w.between) v.is w.others);
  is = w.is ∙ (ap (λ (h : List Event). h ++ w.between) v.is ∙ append_assoc a v.between w.between);
}

-- a wait before a call is part of the call
pub Makes-waits : (may : List Event → Op → Type 0) (by : Caller) (op : Op) (reply : Reply) (a b c : List Event) → Waits may by a b → Makes may by op reply b c → Makes may by op reply a c
Makes-waits may by op reply a b c w m = record { middle = m.middle; time = m.time; waits = Waits-trans may by a b m.middle w m.waits; answered = m.answered; is = m.is }

-- this call alone
pub Makes-alone : (may : List Event → Op → Type 0) (by : Caller) (op : Op) (reply : Reply) (time : ℕ) (old new : List Event) → IsAnswered old (own_event by op reply time) → new ≡ old ++ own_event by op reply time ∷ [] → Makes may by op reply old new
Makes-alone may by op reply time old new a e = record { middle = old; time = time; waits = Waits-none may by old; answered = a; is = e }
