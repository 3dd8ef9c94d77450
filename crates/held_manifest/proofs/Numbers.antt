-- The numbers of an index that is read in place, and how two of them are compared.
use Rattle.std.proofs.Common.{◌≡◌, ℕ, zero, suc, ◌+◌, ◌<◌, true, false, List, [], ◌∷◌, length, map, drop, get_or, min, refl, sym, ap, ◌∙◌, arith}
use Rattle.std.specs.Prelude.{slice_index, bytes_eq}
use Rattle.std.specs.Int.{w32, from_le_bytes}
use Rattle.std.specs.Ordering.{nat_cmp, ordering_then, is_eq, is_ne, MatchOrdering}
use Rattle.std.proofs.Common.{Ordering}
use Rattle.std.specs.declared.cmp.Ordering.TheVariants.{Less, Equal, Greater}
use Rattle.std.specs.Cmp.Lexicographic.{slice_cmp}
use Rattle.std.proofs.lemmas.Bool.Decides.{nat_tests}
use Rattle.std.proofs.lemmas.Cmp.{ranked, same_from_slice_cmp}
use Rattle.flat_tables.specs.Places.{VectorIn, item_of, items_from}
use Rattle.held_manifest.specs.Views.{numbers_in}

numbers_long : (v : VectorIn) (i n : ℕ) → length (map (from_le_bytes w32) (items_from v i n)) ≡ n
numbers_long v i zero = refl
numbers_long v i (suc n) = ap suc (numbers_long v (i + 1) n)

pub numbers_count : (v : VectorIn) → length (numbers_in v) ≡ v.count
numbers_count v = numbers_long v 0 v.count

number_from : (v : VectorIn) (i n k : ℕ) → k < n → slice_index (map (from_le_bytes w32) (items_from v i n)) k ≡ from_le_bytes w32 (item_of v (i + k))
number_from v i zero k lt = absurd (omega arith)
number_from v i (suc n) zero lt = let z : i + 0 ≡ i = omega arith in rw z refl
number_from v i (suc n) (suc k) lt = let z : i + suc k ≡ i + 1 + k = omega arith in rw z (number_from v (i + 1) n k (omega arith))

pub number_at : (v : VectorIn) (k : ℕ) → k < v.count → slice_index (numbers_in v) k ≡ from_le_bytes w32 (item_of v k)
number_at v k lt = let z : 0 + k ≡ k = omega arith in number_from v 0 v.count k lt ∙ ap (λ (j : ℕ). from_le_bytes w32 (item_of v j)) z

-- ---- comparing

next : (xs ys : List ℕ) (k : ℕ) → k < length xs → k < length ys → slice_cmp nat_cmp (drop k xs) (drop k ys) ≡ ordering_then (nat_cmp (slice_index xs k) (slice_index ys k)) (slice_cmp nat_cmp (drop (k + 1) xs) (drop (k + 1) ys))
next [] ys k l m = absurd (omega arith)
next (x ∷ xs) [] k l m = absurd (omega arith)
next (x ∷ xs) (y ∷ ys) zero l m = refl
next (x ∷ xs) (y ∷ ys) (suc k) l m = let z : suc k + 1 ≡ suc (k + 1) = omega arith in rw z (next xs ys k (omega arith) (omega arith))

then_this : (o rest : Ordering) → is_ne o ≡ true → ordering_then o rest ≡ o
then_this Less rest h = refl
then_this Equal rest h = absurd cc
then_this Greater rest h = refl

then_rest : (o rest : Ordering) → is_ne o ≡ false → ordering_then o rest ≡ rest
then_rest Less rest h = absurd cc
then_rest Equal rest h = refl
then_rest Greater rest h = absurd cc

-- two numbers that differ decide
pub decided : (xs ys : List ℕ) (k : ℕ) (o all : Ordering) → k < length xs → k < length ys → o ≡ nat_cmp (slice_index xs k) (slice_index ys k) → is_ne o ≡ true → slice_cmp nat_cmp (drop k xs) (drop k ys) ≡ all → o ≡ all
decided xs ys k o all l m is ne rest =
    let more = slice_cmp nat_cmp (drop (k + 1) xs) (drop (k + 1) ys) in
    sym (then_this o more ne) ∙ ap (λ (p : Ordering). ordering_then p more) is ∙ sym (next xs ys k l m) ∙ rest

-- two that are the same leave the rest
pub undecided : (xs ys : List ℕ) (k : ℕ) (o all : Ordering) → k < length xs → k < length ys → o ≡ nat_cmp (slice_index xs k) (slice_index ys k) → is_ne o ≡ false → slice_cmp nat_cmp (drop k xs) (drop k ys) ≡ all → slice_cmp nat_cmp (drop (k + 1) xs) (drop (k + 1) ys) ≡ all
undecided xs ys k o all l m is eq rest =
    let more = slice_cmp nat_cmp (drop (k + 1) xs) (drop (k + 1) ys) in
    sym (then_rest o more eq) ∙ ap (λ (p : Ordering). ordering_then p more) is ∙ sym (next xs ys k l m) ∙ rest

-- where one list has ended the lengths decide
shifted : (a b : ℕ) (r : Ordering) → MatchOrdering r (suc a < suc b) (suc a ≡ suc b) (suc b < suc a) → MatchOrdering r (a < b) (a ≡ b) (b < a)
shifted a b Less h = omega (arith, h)
shifted a b Equal h = omega (arith, h)
shifted a b Greater h = omega (arith, h)

by_rank : (xs ys : List ℕ) (k : ℕ) (r all : Ordering) → k ≡ min (length xs) (length ys) → MatchOrdering r (length xs < length ys) (length xs ≡ length ys) (length ys < length xs) → slice_cmp nat_cmp (drop k xs) (drop k ys) ≡ all → r ≡ all
by_rank [] [] zero Less all m h rest = absurd (omega (arith, h))
by_rank [] [] zero Equal all m h rest = rest
by_rank [] [] zero Greater all m h rest = absurd (omega (arith, h))
by_rank [] (y ∷ ys) zero Less all m h rest = rest
by_rank [] (y ∷ ys) zero Equal all m h rest = absurd (omega (arith, h))
by_rank [] (y ∷ ys) zero Greater all m h rest = absurd (omega (arith, h))
by_rank (x ∷ xs) [] zero Less all m h rest = absurd (omega (arith, h))
by_rank (x ∷ xs) [] zero Equal all m h rest = absurd (omega (arith, h))
by_rank (x ∷ xs) [] zero Greater all m h rest = rest
by_rank (x ∷ xs) (y ∷ ys) zero r all m h rest = absurd (omega (arith, m))
by_rank [] ys (suc k) r all m h rest = absurd (omega (arith, m))
by_rank (x ∷ xs) [] (suc k) r all m h rest = absurd (omega (arith, m))
by_rank (x ∷ xs) (y ∷ ys) (suc k) r all m h rest = by_rank xs ys k r all (omega (arith, m)) (shifted (length xs) (length ys) r h) rest

pub ended : (xs ys : List ℕ) (k : ℕ) (r all : Ordering) → k ≡ min (length xs) (length ys) → r ≡ nat_cmp (length xs) (length ys) → slice_cmp nat_cmp (drop k xs) (drop k ys) ≡ all → r ≡ all
ended xs ys k r all m is rest = by_rank xs ys k r all m (ranked (length xs) (length ys) r is) rest

-- ---- the same index

pub same_test : (xs ys : List ℕ) (o : Ordering) → o ≡ slice_cmp nat_cmp xs ys → is_eq o ≡ bytes_eq xs ys
same_test = same_from_slice_cmp nat_cmp is_eq bytes_eq refl (λ y ys. refl) (λ x xs. refl) (λ x y xs ys o h. grind (arith, nat_tests))

-- an element is the number at its place
pub number_is : (xs : List ℕ) (k : ℕ) (x d : ℕ) → k < length xs → x ≡ get_or xs k d → x ≡ slice_index xs k
number_is [] k x d lt is = absurd (omega arith)
number_is (y ∷ ys) zero x d lt is = is
number_is (y ∷ ys) (suc k) x d lt is = number_is ys k x d (omega arith) is
