-- The play at a place.
use Rattle.std.proofs.Common.{◌≡◌, ◌≢◌, ℕ, zero, suc, Bool, true, false, List, [], ◌∷◌, refl, sym, ◌∙◌, ap, subst, set, get_or, map, length, ◌<◌, eq-eqb, eqb-true}
use Rattle.std.proofs.Common.{arith}
use Rattle.play_tasks.specs.declared.worker.Worker.{Worker}
use Rattle.play_tasks.specs.Workers.{worker_left}
use Rattle.play_run.specs.inside.Taking.{left_of, left_at}
use Rattle.std.specs.Prelude.{◌==◌, Some, slice_get}
use Rattle.std.specs.Option.{option_map}
use Rattle.std.proofs.lemmas.Option.{slice_get-map, slice_get-get_or}

pub slice_get-set_same : {X : Type 0} (xs : List X) (i : ℕ) (x y : X) → slice_get xs i ≡ Some x → slice_get (set xs i y) i ≡ Some y
slice_get-set_same [] i x y e = cc
slice_get-set_same (z ∷ xs) zero x y e = refl
slice_get-set_same (z ∷ xs) (suc i) x y e = slice_get-set_same xs i x y e

pub slice_get-set_other : {X : Type 0} (xs : List X) (i k : ℕ) (y : X) → k ≢ i → slice_get (set xs i y) k ≡ slice_get xs k
slice_get-set_other [] i k y n = refl
slice_get-set_other (z ∷ xs) zero zero y n = absurd (n refl)
slice_get-set_other (z ∷ xs) zero (suc k) y n = refl
slice_get-set_other (z ∷ xs) (suc i) zero y n = refl
slice_get-set_other (z ∷ xs) (suc i) (suc k) y n = slice_get-set_other xs i k y (λ e. n (ap suc e))

pub slice_get-place : {X Y : Type 0} (f : X → Y) (xs : List X) (t : ℕ) (x : X) → t < length xs → x ≡ get_or xs t x → slice_get (map f xs) t ≡ Some (f x)
slice_get-place f xs t x within is = slice_get-map f xs t ∙ ap (λ o. option_map f o) (slice_get-get_or xs t x within ∙ ap (λ y. Some y) (sym is))

pub same_place : {X Y : Type 0} (f : X → Y) (xs : List X) (t : ℕ) (x y : X) → t < length xs → x ≡ get_or xs t x → y ≡ get_or xs t y → f x ≡ f y
same_place f xs t x y within is is' = same (sym (slice_get-place f xs t x within is) ∙ slice_get-place f xs t y within is')
  where
    same : Some (f x) ≡ Some (f y) → f x ≡ f y
    same h = cc

-- what holds at each place, where the one at t was set
pub at_set : {X : Type 0} (P : ℕ → X → Type 0) (xs : List X) (t : ℕ) (x y : X) → slice_get xs t ≡ Some x → P t y → ((k : ℕ) (z : X) → k ≢ t → slice_get xs k ≡ Some z → P k z) → (k : ℕ) (z : X) → slice_get (set xs t y) k ≡ Some z → P k z
at_set {X} P xs t x y at mine others k z e = decide (k == t) refl
  where
    some_same : Some z ≡ Some y → z ≡ y
    some_same h = cc

    decide : (b : Bool) → (k == t) ≡ b → P k z
    decide true h =
        let same : k ≡ t = eqb-true k t h in
        let e' : slice_get (set xs t y) t ≡ Some z = subst (λ (n : ℕ). slice_get (set xs t y) n ≡ Some z) same e in
        let is : z ≡ y = some_same (sym e' ∙ slice_get-set_same xs t x y at) in
        subst (λ (n : ℕ). P n z) (sym same) (subst (λ (w : X). P t w) (sym is) mine)
    decide false h =
        let differs : k ≢ t = λ s. let w = eq-eqb k t s in cc in
        others k z differs (sym (slice_get-set_other xs t k y differs) ∙ e)

pub left_set : (ws : List Worker) (t : ℕ) (x y : Worker) → t < length ws → x ≡ get_or ws t x → worker_left y < worker_left x → left_at (set ws t y) t < left_at ws t
left_set ws t x y within is less =
    let at : slice_get ws t ≡ Some x = slice_get-get_or ws t x within ∙ ap (λ z. Some z) (sym is) in
    let before : left_at ws t ≡ worker_left x = ap left_of at in
    let after : left_at (set ws t y) t ≡ worker_left y = ap left_of (slice_get-set_same ws t x y at) in
    omega (arith, before, after, less)
