-- Extents that contain an index, number by number.
use Rattle.std.proofs.Common.{◌≡◌, ℕ, zero, suc, ◌+◌, ◌<◌, ◌≤◌, Bool, true, false, List, [], ◌∷◌, length, drop, get_or, Some, refl, ap, arith}
use Rattle.std.specs.Prelude.{◌&&◌, nat_le, nat_lt, slice_get}
use Rattle.held_manifest.specs.LookUp.{within}
use Rattle.held_manifest.proofs.Checked.{some_same}

-- number k is within extent number k
abbrev pub holds : ℕ × ℕ → ℕ → Bool
holds e n = nat_le e.0 n && nat_lt n e.1

pub next : (es : List (ℕ × ℕ)) (ks : List ℕ) (k : ℕ) (e : ℕ × ℕ) (d : ℕ) → slice_get es k ≡ Some e → k < length ks → within (drop k es) (drop k ks) ≡ (holds e (get_or ks k d) && within (drop (k + 1) es) (drop (k + 1) ks))
next [] ks k e d at lt = absurd cc
next (x ∷ es) [] k e d at lt = absurd (omega arith)
next (x ∷ es) (n ∷ ks) zero e d at lt = ap (λ (y : ℕ × ℕ). holds y n && within es ks) (some_same x e at)
next (x ∷ es) (n ∷ ks) (suc k) e d at lt = let z : suc k + 1 ≡ suc (k + 1) = omega arith in rw z (next es ks k e d at (omega arith))

pub inside : (e : ℕ × ℕ) (n : ℕ) (rest : Bool) → holds e n ≡ true → (holds e n && rest) ≡ rest
inside e n rest is = rw is refl

pub outside : (e : ℕ × ℕ) (n : ℕ) (rest : Bool) → holds e n ≡ false → (holds e n && rest) ≡ false
outside e n rest is = rw is refl

pub whole : (es : List (ℕ × ℕ)) (ks : List ℕ) (k : ℕ) → length es ≡ length ks → length ks ≤ k → within (drop k es) (drop k ks) ≡ true
whole [] [] zero len le = refl
whole [] [] (suc k) len le = refl
whole [] (n ∷ ks) k len le = absurd (omega (arith, len))
whole (x ∷ es) [] k len le = absurd (omega (arith, len))
whole (x ∷ es) (n ∷ ks) zero len le = absurd (omega arith)
whole (x ∷ es) (n ∷ ks) (suc k) len le = whole es ks k (omega (arith, len)) (omega arith)
