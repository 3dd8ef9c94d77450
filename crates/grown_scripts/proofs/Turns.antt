-- The line of turns.
use Rattle.std.proofs.Common.{◌≡◌, ℕ, zero, suc, ◌+◌, ◌<◌, ◌≤◌, true, false, List, [], ◌∷◌, ◌++◌, length, Some, Ok, refl, sym, subst, arith, append_assoc}
use Rattle.std.specs.Prelude.{◌==◌, codes, decimal}
use Rattle.std.proofs.lemmas.Bool.Decides.{nat_tests}
use Rattle.std.proofs.lemmas.Fmt.{decimal_digit}
use Rattle.play_script.specs.declared.scripts.Task.{Task}
use Rattle.play_script.specs.declared.scripts.Turn.{Turn}
use Rattle.play_script.specs.declared.scripts.Script.{Script}
use Rattle.script_values.specs.Words.{Text, cut_of, parts}
use Rattle.script_values.specs.Parts.{each}
use Rattle.script_values.specs.Values.{number_of, count_of}
use Rattle.play_script.specs.Places.{client_from, turn, turn_of, turns_line, words_line}
use Rattle.grow_script.specs.Draws.{after, drawn}
use Rattle.grow_script.specs.Script.{drawn_turns}
use Rattle.grown_scripts.proofs.Bytes.{is_line_byte, is_line, is_word, all_append, word_line, word_no_space, word_no_star}
use Rattle.grown_scripts.proofs.Cutting.{cut_none, parts_join, one_part}
use Rattle.grown_scripts.proofs.Naming.{task_word, name_word, AreNamed, client}
use Rattle.grown_scripts.proofs.Lines.{so_far, Reads, one_line, by_words}

-- a word is a turn of one of these tasks
abbrev IsTurn : List Task → Text → Type 0
IsTurn ts w = (t : Turn) × (turn_of ts w ≡ Ok t)

-- ... each of these words
abbrev AreTurns : List Task → List Text → Type 0
AreTurns ts [] = Unit {0}
AreTurns ts (w ∷ ws) = IsTurn ts w × AreTurns ts ws

turns_more : (ts : List Task) (vs ws : List Text) → AreTurns ts vs → AreTurns ts ws → AreTurns ts (vs ++ ws)
turns_more ts [] ws h k = k
turns_more ts (v ∷ vs) ws h k = (h.0, turns_more ts vs ws h.1 k)

all_turns : (ts : List Task) (ws : List Text) → AreTurns ts ws → (turns : List Turn) × (each (turn_of ts) ws ≡ Ok turns)
all_turns ts [] h = ([], refl)
all_turns ts (w ∷ ws) h =
    let rest = all_turns ts ws h.1 in
    (h.0.0 ∷ rest.0, rw (h.0.1, rest.1) refl)

-- the tasks of number 0 to n
record AreTasks (n : ℕ) (ts : List Task) : Type 0 where
  named : AreNamed 0 ts
  size : length ts ≡ n + 1
  few : n ≤ 60

-- one turn of a task
single : (n j : ℕ) (ts : List Task) → AreTasks n ts → j ≤ n → IsTurn ts (task_word j)
unfolding turn_of count_of
single n j ts h within =
    let low : j < 100 = omega (arith, within, h.few) in
    let found = client 1 0 j ts h.named (omega arith) (omega (arith, within, h.size)) low in
    let filled : (length (task_word j) == 0) ≡ false = grind (arith, nat_tests) in
    (turn (found.0, 1), rw (filled, cut_none 42 (task_word j) (word_no_star (task_word j) (name_word j low)), found.1) refl)

-- the first turn, of five steps of the base task
first : (n : ℕ) (ts : List Task) → AreTasks n ts → IsTurn ts (codes "t0*5")
unfolding turn_of cut_of count_of number_of
first n ts h =
    let found = client 1 0 0 ts h.named (omega arith) (omega (arith, h.size)) (omega arith) in
    let called : client_from 1 ts (codes "t0") ≡ Ok found.0 = rw (decimal_digit 0 (omega arith)) at found.1 in
    (turn (found.0, 5), rw called refl)

-- the words of the line behind the first
abbrev turn_words : ℕ → ℕ → ℕ → Text
turn_words n count x = codes "t0*5" ++ drawn_turns n count x

words_more : (ts : List Task) (words word : Text) → AreTurns ts (parts 32 words) → is_word word ≡ true → IsTurn ts word → AreTurns ts (parts 32 (words ++ 32 ∷ word))
words_more ts words word before is_one turn =
    rw (parts_join 32 words word, one_part 32 word (word_no_space word is_one)) (turns_more ts (parts 32 words) (word ∷ []) before (turn, tt))

-- one more turn
pub turns_step : (n count x : ℕ) → drawn_turns n (suc count) x ≡ drawn_turns n count x ++ 32 ∷ task_word (1 + drawn n (after (suc count) x))
unfolding drawn_turns
turns_step n count x = append_assoc (drawn_turns n count x) (codes " t") (decimal (1 + drawn n (after (suc count) x)))

words_are_turns : (n count x : ℕ) (ts : List Task) → 1 ≤ n → AreTasks n ts → AreTurns ts (parts 32 (turn_words n count x))
unfolding drawn_turns
words_are_turns n zero x ts some h = (first n ts h, tt)
words_are_turns n (suc count) x ts some h =
    let j = 1 + drawn n (after (suc count) x) in
    let within : j ≤ n = omega arith in
    subst (λ (ws : Text). AreTurns ts (parts 32 (codes "t0*5" ++ ws))) (sym (turns_step n count x))
    (words_more ts (turn_words n count x) (task_word j) (words_are_turns n count x ts some h) (name_word j (omega (arith, within, h.few))) (single n j ts h within))

turns_are_line : (n count x : ℕ) → 1 ≤ n → n ≤ 60 → is_line (drawn_turns n count x) ≡ true
unfolding drawn_turns
turns_are_line n zero x some few = refl
turns_are_line n (suc count) x some few =
    let j = 1 + drawn n (after (suc count) x) in
    let within : j ≤ n = omega arith in
    subst (λ (ws : Text). is_line ws ≡ true) (sym (turns_step n count x))
    (all_append is_line_byte (drawn_turns n count x) (32 ∷ task_word j) (turns_are_line n count x some few) (word_line (task_word j) (name_word j (omega (arith, within)))))

turns_cut : (n count x : ℕ) → cut_of 32 (codes "turns t0*5" ++ drawn_turns n count x) ≡ (codes "turns", Some (turn_words n count x))
unfolding cut_of
turns_cut n count x = refl

turns_at : (ts : List Task) (m : ℕ) (after : List Text) (words : Text) (turns : List Turn) → each (turn_of ts) (parts 32 words) ≡ Ok turns → words_line (so_far ts) m after (codes "turns") (Some words) ≡ Ok (record { tasks = ts; turns = Some turns })
unfolding words_line turns_line
turns_at ts m after words turns e = rw e refl

-- the line gives a script with these tasks
pub turns_read : (n count x m : ℕ) (ts : List Task) → 1 ≤ n → n ≤ 60 → AreNamed 0 ts → length ts ≡ n + 1
    → (t : Script) × Reads (so_far ts) m (codes "turns t0*5" ++ drawn_turns n count x ++ codes "\n") t (m + 1) × (t.tasks ≡ ts)
turns_read n count x m ts some few named size =
    let turns = all_turns ts (parts 32 (turn_words n count x)) (words_are_turns n count x ts some (record { named = named; size = size; few = few })) in
    let line : is_line (codes "turns t0*5" ++ drawn_turns n count x) ≡ true = turns_are_line n count x some few in
    let script : Script = record { tasks = ts; turns = Some turns.0 } in (
      script,
      one_line (so_far ts) script m (codes "turns t0*5" ++ drawn_turns n count x) line
          (λ after. by_words (so_far ts) m after (codes "turns t0*5" ++ drawn_turns n count x) (codes "turns") (Some (turn_words n count x)) _ line refl (turns_cut n count x) (turns_at ts m after (turn_words n count x) turns.0 turns.1)),
      refl,
    )
