-- The time of a journal's last event.
use Rattle.std.proofs.Common.{◌≡◌, ℕ, zero, suc, ◌-◌, List, [], ◌∷◌, length, arith}
use Rattle.std.specs.Prelude.{Some, slice_get}
use Rattle.object_store.specs.declared.events.Event.{Event}
use Rattle.object_store.specs.Machine.{time_after, last_time}

time-at : (time : ℕ) (xs : List Event) (k : ℕ) (x : Event) → suc k ≡ length xs → slice_get xs k ≡ Some x → time_after time xs ≡ x.time
time-at time [] k x len is = absurd (omega (arith, len))
time-at time (e ∷ []) zero x len is = cc
time-at time (e ∷ []) (suc k) x len is = absurd (omega (arith, len))
time-at time (e ∷ f ∷ fs) zero x len is = absurd (omega (arith, len))
time-at time (e ∷ f ∷ fs) (suc k) x len is = time-at e.time (f ∷ fs) k x (omega (arith, len)) is

pub time-last : (xs : List Event) (x : Event) → slice_get xs (length xs - 1) ≡ Some x → last_time xs ≡ x.time
time-last [] x is = cc
time-last (e ∷ es) x is = let n : suc (length (e ∷ es) - 1) ≡ length (e ∷ es) = omega arith in time-at 0 (e ∷ es) (length (e ∷ es) - 1) x n is
