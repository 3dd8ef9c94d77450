-- What the loops over vectors need beside the laws of rows.
use Rattle.std.proofs.Common.{◌≡◌, ℕ, suc, ◌+◌, ◌-◌, ◌<◌, Bool, true, List, [], ◌∷◌, ◌++◌, length, map, Option, None, Some, sym, ap, ◌∙◌, append_assoc, arith}
use Rattle.std.proofs.lemmas.List.{append-nil}
use Rattle.std.specs.Prelude.{option_map, slice_get}
use Rattle.flat_tables.specs.Places.{VectorIn, item_of, items_from}
use Rattle.flat_tables.specs.Rows.{follows, last_key, Ascends}
use Rattle.flat_tables.proofs.Loop.{pushed}

-- the test against the last element of a vector is the one against the last row
pub tested_last : {A : Type 0} (key : A → List ℕ) (items : List A) (o : Option A) (b : Bool) (y : List ℕ) → o ≡ slice_get items (length items - 1) → b ≡ follows (option_map key o) y → follows (last_key key items) y ≡ b
tested_last key items o b y is test = rw (← is) (sym test)

-- one more element
pub one_more : {B : Type 0} (g : List ℕ → B) (v : VectorIn) (found : List B) (i n : ℕ) (all : List B) → i < n → found ++ map g (items_from v i (n - i)) ≡ all → (found ++ g (item_of v i) ∷ []) ++ map g (items_from v (i + 1) (n - (i + 1))) ≡ all
one_more g v found i n all lt e =
    let k : n - i ≡ suc (n - (i + 1)) = omega arith in
    append_assoc found (g (item_of v i) ∷ []) (map g (items_from v (i + 1) (n - (i + 1)))) ∙ ap (λ m. found ++ map g (items_from v i m)) (sym k) ∙ e

-- the key of the last of these, which stand behind one
last_from : {A : Type 0} (key : A → List ℕ) → Option (List ℕ) → List A → Option (List ℕ)
last_from key before [] = before
last_from key before (x ∷ xs) = last_from key (Some (key x)) xs

last_behind : {A : Type 0} (key : A → List ℕ) (front xs : List A) → last_from key (last_key key front) xs ≡ last_key key (front ++ xs)
unfolding last_from
last_behind {A = A} key front [] = ap (λ (ys : List A). last_key key ys) (sym (append-nil front))
last_behind {A = A} key front (x ∷ xs) =
    ap (λ (before : Option (List ℕ)). last_from key before xs) (sym (pushed key front x))
    ∙ last_behind key (front ++ x ∷ []) xs ∙ ap (λ (ys : List A). last_key key ys) (append_assoc front (x ∷ []) xs)

push_behind : {A : Type 0} (key : A → List ℕ) (before : Option (List ℕ)) (xs : List A) (x : A) → Ascends key before xs → follows (last_from key before xs) (key x) ≡ true → Ascends key before (xs ++ x ∷ [])
unfolding last_from
push_behind key before [] x ascends after = (after, tt)
push_behind key before (y ∷ xs) x ascends after = (ascends.0, push_behind key (Some (key y)) xs x ascends.1 after)

-- one more that stands behind the last
pub ascends_push : {A : Type 0} (key : A → List ℕ) (xs : List A) (x : A) → Ascends key None xs → follows (last_key key xs) (key x) ≡ true → Ascends key None (xs ++ x ∷ [])
ascends_push key xs x ascends after = push_behind key None xs x ascends (rw (last_behind key [] xs) after)
