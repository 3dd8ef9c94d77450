-- What is known of each node.
use Rattle.std.proofs.Common.{ℕ, suc, ◌<◌, List, [], ◌∷◌, length, map, arith}
use Rattle.std.specs.Prelude.{IfSome, slice_get}
use Rattle.std.specs.List.{AllByRecursion}

pub each_told : {A B : Type 0} (P : A → Type 0) (f : A → B) (xs : List A) → ((at : ℕ) → at < length (map f xs) → IfSome (slice_get xs at) P) → AllByRecursion P xs
each_told P f [] told = tt
each_told P f (x ∷ xs) told = (told 0 (omega arith), each_told P f xs (λ at lt. told (suc at) (omega (arith, lt))))
