-- What a list with one more element at its head contains.
use Rattle.std.proofs.Common.{◌≡◌, ◌⊎◌, inl, inr, zero, suc, List, [], ◌∷◌, refl, arith}
use Rattle.std.specs.Prelude.{Contains}

pub first-is : {A : Type 0} (x : A) (xs : List A) → Contains (x ∷ xs) x
first-is x xs = (0, omega arith, refl)

pub later-is : {A : Type 0} (x y : A) (xs : List A) → Contains xs y → Contains (x ∷ xs) y
later-is x y xs h = (suc h.0, omega (arith, h.1), h.2)

pub first-or-later : {A : Type 0} (x y : A) (xs : List A) → Contains (x ∷ xs) y → (x ≡ y) ⊎ Contains xs y
first-or-later x y xs (zero, l, e) = inl e
first-or-later x y xs (suc k, l, e) = inr (k, omega (arith, l), e)

pub none-in : {A : Type 0} (y : A) → Contains [] y → ⊥
none-in y h = absurd (omega (arith, h.1))
