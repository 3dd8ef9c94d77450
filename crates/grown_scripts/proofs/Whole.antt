-- The whole text.
use Rattle.std.proofs.Common.{◌≡◌, ℕ, ◌+◌, ◌*◌, ◌≤◌, List, [], ◌∷◌, ◌++◌, length, Ok, refl, sym, ap, subst, ◌∙◌, append_assoc}
use Rattle.std.specs.Prelude.{codes}
use Rattle.play_script.specs.declared.scripts.Task.{Task}
use Rattle.play_script.specs.declared.scripts.Script.{Script}
use Rattle.script_values.specs.Words.{Text}
use Rattle.play_script.specs.Reading.{empty, script_of}
use Rattle.grow_script.specs.Draws.{after}
use Rattle.grow_script.specs.Script.{base_task, grow_tasks, drawn_turns, script_text}
use Rattle.grown_scripts.proofs.Lines.{so_far, Reads, joined, whole}
use Rattle.grown_scripts.proofs.Base.{base, base_reads, base_named}
use Rattle.grown_scripts.proofs.Tasks.{tasks_read}
use Rattle.grown_scripts.proofs.Turns.{turns_read}
use Rattle.grown_scripts.proofs.Sizes.{script_size}

regroup : (x t d z : Text) → x ++ t ++ d ++ z ≡ x ++ (t ++ d ++ z)
regroup x t d z = append_assoc (x ++ t) d z ∙ append_assoc x t (d ++ z) ∙ ap (λ (y : Text). x ++ y) (sym (append_assoc t d z))

pub grown_law : (n : ℕ) → 1 ≤ n → n ≤ 60 → (s : Script) × (script_of (script_text n) ≡ Ok s) × (length s.tasks ≡ n + 1)
grown_law n some few =
    let g = tasks_read (base ∷ []) 5 n n base_named refl few in
    let drawn = drawn_turns n (20 * n) (after (150 * n) n) in
    let t = turns_read n (20 * n) (after (150 * n) n) g.1 g.0 some few g.3 g.4 in
    let tasks = joined empty (so_far (base ∷ [])) (so_far g.0) 1 5 g.1 base_task (grow_tasks n n) base_reads g.2 in
    let read = joined empty (so_far g.0) t.0 1 g.1 (g.1 + 1) (base_task ++ grow_tasks n n) (codes "turns t0*5" ++ drawn ++ codes "\n") tasks t.1 in
    let text = regroup (base_task ++ grow_tasks n n) (codes "turns t0*5") drawn (codes "\n") in
    (t.0, whole (script_text n) t.0 (g.1 + 1) (script_size n some few) (subst (λ (w : Text). Reads empty 1 w t.0 (g.1 + 1)) (sym text) read), ap (λ (us : List Task). length us) t.2 ∙ g.4)
