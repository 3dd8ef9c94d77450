-- Paths of plays.
use Rattle.std.proofs.Common.{inl, inr, List, [], ◌∷◌, refl, subst}
use Rattle.object_store.specs.declared.events.Op.{Op}
use Rattle.object_store.specs.declared.events.Reply.{Reply}
use Rattle.object_store.specs.declared.events.Event.{Event}
use Rattle.store_api.specs.Callers.{Fits}
use Rattle.store_api.specs.Plays.{Play, Ended, Ask, Or, Comes}
use Rattle.play_tasks.specs.Played.{PlaysTo}

pub PlaysTo-ended : {A : Type 0} (a : A) → PlaysTo (Ended a) [] a
unfolding PlaysTo
PlaysTo-ended a = (refl, refl)

-- what the play comes to with memory or without
pub PlaysTo-comes : {A : Type 0} (p q : Play A) (events : List Event) (a : A) → Comes p q → PlaysTo q events a → PlaysTo p events a
unfolding PlaysTo
PlaysTo-comes (Ended b) q events a c plays = subst (λ (x : Play _). PlaysTo x events a) c plays
PlaysTo-comes (Ask op s f) q events a c plays = subst (λ (x : Play _). PlaysTo x events a) c plays
PlaysTo-comes (Or p r) q events a (inl c) plays = inl (PlaysTo-comes p q events a c plays)
PlaysTo-comes (Or p r) q events a (inr c) plays = inr (PlaysTo-comes r q events a c plays)

-- the operation that comes next was made, with a reply that fits it
pub PlaysTo-asked : {A : Type 0} (starved : Play A) (next : Reply → Play A) (event : Event) (more : List Event) (a : A) → Fits event.op event.reply → PlaysTo (next event.reply) more a → PlaysTo (Ask event.op starved next) (event ∷ more) a
unfolding PlaysTo
PlaysTo-asked starved next event more a fits plays = inl (refl, fits, plays)

-- there was no memory for it
pub PlaysTo-starved : {A : Type 0} (op : Op) (starved : Play A) (next : Reply → Play A) (events : List Event) (a : A) → PlaysTo starved events a → PlaysTo (Ask op starved next) events a
unfolding PlaysTo
PlaysTo-starved op starved next events a plays = inr plays
