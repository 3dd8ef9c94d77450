-- Extents that contain an index.
use Rattle.std.proofs.Common.{◌≡◌, ◌≢◌, ℕ, suc, Bool, true, false, List, [], ◌∷◌, length, refl, ap, ◌∙◌}
use Rattle.std.specs.Prelude.{◌&&◌, nat_le, nat_lt}
use Rattle.held_manifest.specs.LookUp.{within}

and_false : (b : Bool) → (b && false) ≡ false
and_false true = refl
and_false false = refl

suc_of : ℕ → ℕ
suc_of n = suc n

pub within_unequal : (es : List (ℕ × ℕ)) (ks : List ℕ) → length es ≢ length ks → within es ks ≡ false
unfolding suc_of
within_unequal [] [] h = absurd (h refl)
within_unequal [] (k ∷ ks) h = refl
within_unequal (e ∷ es) [] h = refl
within_unequal (e ∷ es) (k ∷ ks) h = ap (λ b. (nat_le e.0 k && nat_lt k e.1) && b) (within_unequal es ks (λ q. h (ap suc_of q))) ∙ and_false (nat_le e.0 k && nat_lt k e.1)
