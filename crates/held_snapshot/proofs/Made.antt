-- Elements of a vector that are made of its bytes, and lists that are copied element by element.
use Rattle.std.proofs.Common.{◌≡◌, ℕ, zero, suc, ◌+◌, ◌<◌, ◌≤◌, List, [], ◌∷◌, ◌++◌, length, map, take, drop, Some, refl, ap, ◌∙◌, arith}
use Rattle.std.specs.Prelude.{slice_get}
use Rattle.std.proofs.lemmas.List.{drop_more}
use Rattle.std.proofs.lemmas.Option.{slice_get_within, get_or_from_slice_get}
use Rattle.flat_tables.specs.Places.{VectorIn, item_of, items_from, items_of}

made_long : {A : Type 0} (make : List ℕ → A) (v : VectorIn) (i n : ℕ) → length (map make (items_from v i n)) ≡ n
made_long make v i zero = refl
made_long make v i (suc n) = ap suc (made_long make v (i + 1) n)

pub made_count : {A : Type 0} (make : List ℕ → A) (v : VectorIn) → length (map make (items_of v)) ≡ v.count
made_count make v = made_long make v 0 v.count

made_from : {A : Type 0} (make : List ℕ → A) (v : VectorIn) (i n k : ℕ) → k < n → slice_get (map make (items_from v i n)) k ≡ Some (make (item_of v (i + k)))
made_from make v i zero k lt = absurd (omega arith)
made_from make v i (suc n) zero lt = let z : i + 0 ≡ i = omega arith in rw z refl
made_from make v i (suc n) (suc k) lt = let z : i + suc k ≡ i + 1 + k = omega arith in rw z (made_from make v (i + 1) n k (omega arith))

pub made_at : {A : Type 0} (make : List ℕ → A) (v : VectorIn) (k : ℕ) → k < v.count → slice_get (map make (items_of v)) k ≡ Some (make (item_of v k))
made_at {A = A} make v k lt = let z : 0 + k ≡ k = omega arith in made_from make v 0 v.count k lt ∙ ap (λ (j : ℕ). Some (make (item_of v j))) z

-- ---- copies

pub take_more : {A : Type 0} (xs : List A) (k : ℕ) (x : A) → slice_get xs k ≡ Some x → take k xs ++ x ∷ [] ≡ take (k + 1) xs
take_more [] k x at = absurd cc
take_more (y ∷ ys) zero x at = ap (λ z. z ∷ []) (same y x at)
  where
    same : {B : Type 0} (a b : B) → Some a ≡ Some b → b ≡ a
    same a b e = cc
take_more (y ∷ ys) (suc k) x at = let z : suc k + 1 ≡ suc (k + 1) = omega arith in rw z (ap (λ zs. y ∷ zs) (take_more ys k x at))

pub take_whole : {A : Type 0} (xs : List A) (k : ℕ) → length xs ≤ k → take k xs ≡ xs
take_whole [] zero le = refl
take_whole [] (suc k) le = refl
take_whole (x ∷ xs) zero le = absurd (omega arith)
take_whole (x ∷ xs) (suc k) le = ap (λ zs. x ∷ zs) (take_whole xs k (omega arith))

-- what is left from number k on
pub from_here : {A : Type 0} (xs : List A) (k : ℕ) (x : A) → slice_get xs k ≡ Some x → drop k xs ≡ x ∷ drop (k + 1) xs
from_here xs k x is = drop_more xs k x (slice_get_within xs k x is) ∙ ap (λ y. y ∷ drop (k + 1) xs) (get_or_from_slice_get xs k x x is)
