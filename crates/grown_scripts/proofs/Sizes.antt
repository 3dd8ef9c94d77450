-- How many bytes the text has at most.
use Rattle.std.proofs.Common.{◌≡◌, ℕ, zero, suc, ◌+◌, ◌*◌, ◌<◌, ◌≤◌, ◌∷◌, ◌++◌, length, refl, ap, ◌∙◌, arith, length-append}
use Rattle.std.specs.Prelude.{codes, decimal}
use Rattle.std.proofs.lemmas.Fmt.{length-decimal-le}
use Rattle.script_values.specs.Words.{Text}
use Rattle.grow_script.specs.Draws.{after, drawn}
use Rattle.grow_script.specs.Script.{hex_pair, base_task, fill_text, fill_lines, grow_task, grow_tasks, drawn_turns, script_text}
use Rattle.grown_scripts.proofs.Naming.{task_word}
use Rattle.grown_scripts.proofs.Turns.{turns_step}

two_digits : (n : ℕ) → n < 100 → length (decimal n) ≤ 2
two_digits n low = length-decimal-le 2 n (omega arith) (omega arith) (omega arith)

fill_size : (a b : Text) (h : Text) → length a ≤ 2 → length b ≤ 2 → length h ≡ 2 → length (codes "fill /x " ++ a ++ codes "," ++ b ++ codes " " ++ h ++ codes "\n") ≤ 17
fill_size a b h p q r = simp length-append (omega arith)

fills_size : (count x : ℕ) → length (fill_lines count x) ≤ 17 * count
unfolding fill_lines
fills_size zero x = omega arith
fills_size (suc count) x =
    let y = after (3 * count) x in
    let row = drawn 64 (after 1 y) in
    let column = drawn 64 (after 2 y) in
    let byte = drawn 256 (after 3 y) in
    let line = fill_size (decimal row) (decimal column) (hex_pair byte) (two_digits row (omega arith)) (two_digits column (omega arith)) refl in
    omega (arith, length-append (fill_lines count x) (fill_text row column byte), line, fills_size count x)

task_size : (d f : Text) → length d ≤ 2 → length f ≤ 850 → length (codes "task t" ++ d ++ codes " write main 9 ours\n" ++ f ++ codes "commit t" ++ d ++ codes "\n") ≤ 900
task_size d f p q = simp length-append (omega arith)

tasks_size : (count x : ℕ) → count ≤ 60 → length (grow_tasks count x) ≤ 900 * count
unfolding grow_tasks
tasks_size zero x few = omega arith
tasks_size (suc count) x few =
    let y = after (150 * count) x in
    let task = task_size (decimal (suc count)) (fill_lines 50 y) (two_digits (suc count) (omega arith)) (omega (arith, fills_size 50 y)) in
    omega (arith, length-append (grow_tasks count x) (grow_task (suc count) y), task, tasks_size count x (omega arith))

turns_size : (n count x : ℕ) → 1 ≤ n → n ≤ 60 → length (drawn_turns n count x) ≤ 4 * count
unfolding drawn_turns
turns_size n zero x some few = omega arith
turns_size n (suc count) x some few =
    let j = 1 + drawn n (after (suc count) x) in
    let below : j ≤ n = omega arith in
    let whole = ap length (turns_step n count x) ∙ length-append (drawn_turns n count x) (32 ∷ task_word j) in
    omega (arith, whole, two_digits j (omega (arith, below)), turns_size n count x some few)

all_sizes : (b g t : Text) → length b ≤ 100 → length g ≤ 54000 → length t ≤ 4800 → length (b ++ g ++ codes "turns t0*5" ++ t ++ codes "\n") ≤ 1048576
all_sizes b g t p q r = simp length-append (omega arith)

pub script_size : (n : ℕ) → 1 ≤ n → n ≤ 60 → length (script_text n) ≤ 1048576
script_size n some few =
    all_sizes base_task (grow_tasks n n) (drawn_turns n (20 * n) (after (150 * n) n)) (omega arith) (omega (arith, tasks_size n n few)) (omega (arith, turns_size n (20 * n) (after (150 * n) n) some few))
