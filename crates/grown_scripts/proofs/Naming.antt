-- Tasks that are named by their numbers.
use Rattle.std.proofs.Common.{◌≡◌, ℕ, ◌+◌, ◌-◌, ◌<◌, ◌≤◌, true, false, List, [], ◌∷◌, ◌++◌, length, Some, Result, Ok, refl, ap, ⊎_elim, arith, length-append}
use Rattle.std.specs.Prelude.{◌==◌, not, nat_le, decimal, slice_get, bytes_eq}
use Rattle.std.specs.List.{list_all}
use Rattle.std.specs.Char.{is_ascii_digit}
use Rattle.std.proofs.lemmas.Bool.{le-leb, cases_Bool, cases_eq, cond_both, both_ways}
use Rattle.std.proofs.lemmas.Bool.Decides.{nat_tests}
use Rattle.std.proofs.lemmas.Slice.Eq.{bytes_eq-Decides}
use Rattle.std.proofs.lemmas.Fmt.{decimal_injective, length-decimal-le}
use Rattle.script_values.specs.declared.kinds.ScriptKind.{ScriptKind}
use Rattle.play_script.specs.declared.scripts.Line.{Line}
use Rattle.play_script.specs.declared.scripts.Task.{Task}
use Rattle.script_values.specs.Words.{Text}
use Rattle.script_values.specs.Values.{◌reads◌, is_task_byte, task_name_of}
use Rattle.play_script.specs.Places.{last, onto_last, is_used, client_from}
use Rattle.grown_scripts.proofs.Bytes.{is_word, all_weaker, digit_word}
use Rattle.grown_scripts.proofs.Numbers.{decimal_digits}

-- the name of the task of number i
abbrev pub task_word : ℕ → Text
task_word i = 116 ∷ decimal i

pub name_word : (i : ℕ) → i < 100 → is_word (task_word i) ≡ true
name_word i low = digit_word (decimal i) (decimal_digits i (omega arith))

-- it is a name
pub name_back : (i : ℕ) → i < 100 → task_name_of (task_word i) ≡ Ok (task_word i)
unfolding task_name_of
name_back i low =
    let short = length-decimal-le 2 i (omega arith) (omega arith) (omega arith) in
    let bytes : list_all is_task_byte (decimal i) ≡ true = all_weaker is_ascii_digit is_task_byte (λ b d. grind (arith, nat_tests)) (decimal i) (decimal_digits i (omega arith)) in
    let few : nat_le (length (task_word i)) 16 ≡ true = le-leb (length (task_word i)) 16 (omega (arith, short)) in
    let some : not (length (task_word i) == 0) ≡ true = grind (arith, nat_tests) in
    rw (some, few, bytes) refl

-- names of different numbers differ
same_name : (i : ℕ) → (task_word i reads task_word i) ≡ true
same_name i = (bytes_eq-Decides (task_word i) (task_word i)).1 refl

other_name : (i j : ℕ) → i < j → j < 100 → (task_word i reads task_word j) ≡ false
other_name i j less low =
    ⊎_elim
    (λ (is : bytes_eq (decimal i) (decimal j) ≡ true).
    let same : i ≡ j = decimal_injective i j (omega arith) (omega arith) ((bytes_eq-Decides (decimal i) (decimal j)).0 is) in
    absurd (omega (arith, same)))
    (λ (is : bytes_eq (decimal i) (decimal j) ≡ false). is)
    (cases_Bool (bytes_eq (decimal i) (decimal j)))

-- the tasks have the numbers from i on
abbrev pub AreNamed : ℕ → List Task → Type 0
AreNamed i [] = Unit {0}
AreNamed i (t ∷ ts) = (t.name ≡ task_word i) × AreNamed (i + 1) ts

pub named_more : (i : ℕ) (ts : List Task) (t : Task) → AreNamed i ts → t.name ≡ task_word (i + length ts) → AreNamed i (ts ++ t ∷ [])
named_more i [] t h is = let e : i + 0 ≡ i = omega arith in (rw e at is, tt)
named_more i (u ∷ ts) t h is =
    let e : i + length (u ∷ ts) ≡ i + 1 + length ts = omega arith in
    (h.0, named_more (i + 1) ts t h.1 (rw e at is))

-- the next name is free
pub unused : (i j : ℕ) (ts : List Task) → AreNamed i ts → i + length ts ≤ j → j < 100 → is_used ts (task_word j) ≡ false
unused i j [] h far low = refl
unused i j (t ∷ ts) h far low =
    rw (h.0, other_name i j (omega arith) low, unused (i + 1) j ts h.1 (omega arith) low) refl

-- a name in use is found
pub client : (at i j : ℕ) (ts : List Task) → AreNamed i ts → i ≤ j → j < i + length ts → j < 100 → (c : ℕ) × (client_from at ts (task_word j) ≡ Ok c)
client at i j [] h above below low = absurd (omega (arith, above, below))
client at i j (t ∷ ts) h above below low =
    cond_both (t.name reads task_word j) (Ok at) (client_from (at + 1) ts (task_word j)) (λ (r : Result ℕ ScriptKind). (c : ℕ) × (r ≡ Ok c))
    (λ _. (at, refl))
    (λ differs. client (at + 1) (i + 1) j ts h.1 (later differs) (omega (arith, below)) low)
  where
    later : (t.name reads task_word j) ≡ false → i + 1 ≤ j
    later differs =
        ⊎_elim
        (λ (is : i ≡ j). absurd (both_ways (t.name reads task_word j) differs (rw (h.0, is) (same_name j))))
        (λ (is : i ≡ j → ⊥). omega (arith, is, above))
        (cases_eq i j)

-- the last task

get_last : {A : Type 0} (xs : List A) (x : A) → slice_get (xs ++ x ∷ []) (length xs) ≡ Some x
get_last [] x = refl
get_last (y ∷ ys) x = get_last ys x

pub last_is : {A : Type 0} (xs : List A) (x : A) → last (xs ++ x ∷ []) ≡ Some x
last_is xs x =
    let size : length (xs ++ x ∷ []) - 1 ≡ length xs = omega (arith, length-append xs (x ∷ [])) in
    rw size (get_last xs x)

pub onto_last_is : (l : Line) (ts : List Task) (t : Task) → onto_last l (ts ++ t ∷ []) ≡ ts ++ record t { body = t.body ++ l ∷ [] } ∷ []
onto_last_is l [] t = refl
onto_last_is l (u ∷ []) t = refl
onto_last_is l (u ∷ v ∷ ts) t = ap (λ (us : List Task). u ∷ us) (onto_last_is l (v ∷ ts) t)
