-- Names of tasks, as the code holds them beside the tasks.
use Rattle.std.proofs.Common.{◌≡◌, ℕ, Bool, false, ◌||◌, List, [], ◌∷◌, ◌++◌, Option, Ok, map, refl, sym, ◌∙◌, ap}
use Rattle.std.specs.Prelude.{◌&&◌}
use Rattle.std.specs.List.{list_any}
use Rattle.std.proofs.lemmas.Cmp.{nat_list_eq_equiv}
use Rattle.std.proofs.lemmas.List.{map-append}
use Rattle.indexmap.specs.IndexSet.{insert_key}
use Rattle.script_values.specs.declared.kinds.ScriptKind.TheVariants as k
use Rattle.script_calls.specs.declared.calls.Call.{Call}
use Rattle.script_calls.specs.declared.calls.Head.{Head}
use Rattle.play_script.specs.declared.scripts.Task.{Task}
use Rattle.play_script.specs.declared.scripts.Script.{Script}
use Rattle.script_values.specs.Words.{Text}
use Rattle.script_values.specs.Parts.{◌&◌, only_if}
use Rattle.script_values.specs.Values.{◌reads◌, task_name_of}
use Rattle.script_calls.specs.Forms.{form_of}
use Rattle.play_script.specs.Places.{last, is_open, takes, with_line, body_line, is_used, with_task}
use Rattle.play_script.specs.SoFar.{task_names, is_among}
use Rattle.script_values.proofs.Inversions.{made_ok, task_name_ok}
use Rattle.play_script.proofs.WellTasks.{names-append, names-onto_last}

pub any_mapped : {X Y : Type 0} (p : Y → Bool) (h : X → Y) (xs : List X) → list_any (λ x. p (h x)) xs ≡ list_any p (map h xs)
any_mapped p h [] = refl
any_mapped p h (x ∷ xs) = ap (λ (b : Bool). p (h x) || b) (any_mapped p h xs)

-- a text that isn't among those of a set's keys goes last
pub one_more_text : {K : Type 0} (text : K → Text) (keys : List K) (key : K) (name : Text) → text key ≡ name → is_among (map text keys) name ≡ false
    → map text (insert_key (λ x y. text x reads text y) keys key) ≡ map text keys ++ name ∷ []
one_more_text text keys key name is free =
    let none : list_any (λ y. text key reads text y) keys ≡ false = any_mapped (λ (other : Text). text key reads other) text keys ∙ ap (λ (w : Text). is_among (map text keys) w) is ∙ free in
    rw none (map-append text keys (key ∷ []) ∙ ap (λ (w : Text). map text keys ++ w ∷ []) is)

-- a name is among those of the tasks where one of them has it
pub among_tasks : (ts : List Task) (name : Text) → is_among (task_names ts) name ≡ is_used ts name
among_tasks [] name = refl
among_tasks (t ∷ ts) name =
    ap (λ (b : Bool). b || is_among (task_names ts) name) (nat_list_eq_equiv.symm name t.name) ∙ ap (λ (b : Bool). (t.name reads name) || b) (among_tasks ts name)

-- one more task, whose name a word is
pub one_more_name : (s : Script) (n : ℕ) (word name : Text) (head : Head) → Ok name ≡ task_name_of word → task_names (with_task s n name head).tasks ≡ task_names s.tasks ++ word ∷ []
one_more_name s n word name head is =
    names-append s.tasks (record { name = name; line = n; head = head; body = [] }) ∙ ap (λ (w : Text). task_names s.tasks ++ w ∷ []) (sym (task_name_ok word name (sym is)).1)

-- a body line leaves the names
pub body_names : (s t : Script) (n : ℕ) (first : Text) (rest : Option Text) → Ok t ≡ body_line s n first rest → task_names t.tasks ≡ task_names s.tasks
unfolding body_line
body_names s t n first rest is =
    let f = form_of first rest in
    let m = made_ok (λ (v : Unit {0} × Call). with_line s n v.1) (only_if (is_open s && takes (last s.tasks) f.class) k.Misplaced & f.call) t (sym is) in
    ap (λ (u : Script). task_names u.tasks) (sym m.2) ∙ names-onto_last (record { number = n; call = m.0.1 }) s.tasks
