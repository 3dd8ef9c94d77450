-- Draws one after another, and texts one behind another.
use Rattle.std.proofs.Common.{rules, ◌≡◌, ◌∙◌, ℕ, zero, suc, ◌+◌, ◌*◌, List, [], ◌++◌, refl, ap, sym, arith, decimal, codes}
use Rattle.std.proofs.lemmas.List.{append_assoc}
use Rattle.grow_script.specs.Draws.{after, drawn, next_state}
use Rattle.grow_script.specs.Script.{fill_line, fill_lines, grow_task, grow_tasks, drawn_turns}

one_more : (k : ℕ) → k + 1 ≡ suc k
one_more k = omega arith

pub after_more : (n m x : ℕ) → after (n + m) x ≡ after n (after m x)
unfolding after
after_more zero m x = let e : 0 + m ≡ m = omega arith in ap (λ k. after k x) e
after_more (suc n) m x = let e : suc n + m ≡ suc (n + m) = omega arith in ap (λ k. after k x) e ∙ ap next_state (after_more n m x)

pub after_one : (k x : ℕ) → after (k + 1) x ≡ next_state (after k x)
unfolding after
after_one k x = ap (λ j. after j x) (one_more k)

-- three draws behind so many times three
pub after_three : (k x : ℕ) → after (3 * (k + 1)) x ≡ after 3 (after (3 * k) x)
after_three k x = let e : 3 * (k + 1) ≡ 3 + 3 * k = omega arith in ap (λ j. after j x) e ∙ after_more 3 (3 * k) x

-- the draws of a task behind those of k tasks
pub after_task : (k x : ℕ) → after (150 * (k + 1)) x ≡ after 150 (after (150 * k) x)
after_task k x = let e : 150 * (k + 1) ≡ 150 + 150 * k = omega arith in ap (λ j. after j x) e ∙ after_more 150 (150 * k) x

-- ---- texts
-- a text, a beginning of its continuation, and what comes behind it
pub behind : (a whole front part wanted : List ℕ) → whole ≡ a ++ front → wanted ≡ front ++ part → whole ++ part ≡ a ++ wanted
behind a whole front part wanted is makes = ap (λ t. t ++ part) is ∙ append_assoc a front part ∙ ap (λ t. a ++ t) (sym makes)

pub none : (a : List ℕ) → a ≡ a ++ []
none a = search rules

pub task_joined : (a head fills number : List ℕ) → a ++ head ++ fills ++ (codes "commit t" ++ (number ++ codes "\n")) ≡ a ++ (head ++ fills ++ codes "commit t" ++ number ++ codes "\n")
task_joined a head fills number = search (append_assoc)

pub fills_more : (k x : ℕ) → fill_lines (k + 1) x ≡ fill_lines k x ++ fill_line (after (3 * k) x)
unfolding fill_lines
fills_more k x = ap (λ j. fill_lines j x) (one_more k)

pub tasks_more : (k x : ℕ) → grow_tasks (k + 1) x ≡ grow_tasks k x ++ grow_task (k + 1) (after (150 * k) x)
unfolding grow_tasks
tasks_more k x = ap (λ j. grow_tasks j x) (one_more k) ∙ ap (λ j. grow_tasks k x ++ grow_task j (after (150 * k) x)) (sym (one_more k))

pub turns_more : (n k x : ℕ) → drawn_turns n (k + 1) x ≡ drawn_turns n k x ++ (codes " t" ++ decimal (1 + drawn n (after (k + 1) x)))
unfolding drawn_turns
turns_more n k x = let e = one_more k in ap (λ j. drawn_turns n j x) e ∙ append_assoc (drawn_turns n k x) (codes " t") (decimal (1 + drawn n (after (suc k) x))) ∙ ap (λ j. drawn_turns n k x ++ (codes " t" ++ decimal (1 + drawn n (after j x)))) (sym e)

pub fills_none : (x : ℕ) → fill_lines 0 x ≡ []
unfolding fill_lines
fills_none x = refl

pub tasks_none : (x : ℕ) → grow_tasks 0 x ≡ []
unfolding grow_tasks
tasks_none x = refl

pub turns_none : (n x : ℕ) → drawn_turns n 0 x ≡ []
unfolding drawn_turns
turns_none n x = refl

pub after_none : (x : ℕ) → after 0 x ≡ x
unfolding after
after_none x = refl
