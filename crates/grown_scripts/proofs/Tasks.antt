-- The tasks behind the base task.
use Rattle.std.proofs.Common.{◌≡◌, ℕ, zero, suc, ◌+◌, ◌*◌, ◌<◌, ◌≤◌, true, false, List, [], ◌∷◌, ◌++◌, length, Option, Some, Ok, refl, sym, ap, subst, ◌∙◌, arith, length-append, append_assoc}
use Rattle.std.specs.Prelude.{codes, decimal}
use Rattle.script_calls.specs.declared.calls.Call.{Call}
use Rattle.script_calls.specs.declared.calls.Class.{Class}
use Rattle.script_calls.specs.declared.calls.Class.TheVariants as c
use Rattle.play_script.specs.declared.scripts.Task.{Task}
use Rattle.script_values.specs.Words.{Text, cut_of}
use Rattle.script_calls.specs.Forms.{form_of}
use Rattle.play_script.specs.Places.{last, is_commit, is_commit_call, head_takes, takes, body_line, words_line}
use Rattle.grow_script.specs.Draws.{after, drawn}
use Rattle.grow_script.specs.Script.{fill_text, fill_lines, grow_task, grow_tasks}
use Rattle.grown_scripts.proofs.Naming.{task_word, AreNamed, named_more, last_is, onto_last_is}
use Rattle.grown_scripts.proofs.Lines.{so_far, Reads, nothing, joined, one_line, by_words, body_back}
use Rattle.grown_scripts.proofs.Fills.{fill_rest, fill_words, fill_line_is, fill_is_line, fill_call, fill_form}
use Rattle.grown_scripts.proofs.Heads.{grown_head, begun, head_reads, commit_words, commit_call, commit_is_line, commit_cut, commit_form}

-- a task that may go on
record IsOpen (t : Task) : Type 0 where
  head : t.head ≡ grown_head
  open_yet : is_commit (last t.body) ≡ false

-- the task with one more line
abbrev longer : Task → ℕ → Call → Task
longer t n call = record t { body = t.body ++ record { number = n; call = call } ∷ [] }

begun_open : (i n : ℕ) → IsOpen (begun i n)
begun_open i n = record { head = refl; open_yet = refl }

longer_open : (t : Task) (n : ℕ) (call : Call) → IsOpen t → is_commit_call call ≡ false → IsOpen (longer t n call)
longer_open t n call h plain = record { head = h.head; open_yet = rw (last_is t.body (record { number = n; call = call })) plain }

-- a body line in the last task
line_goes_on : (ts : List Task) (t : Task) (n : ℕ) (first : Text) (rest : Option Text) (class : Class) (call : Call) → form_of first rest ≡ record { class = class; call = Ok call } → head_takes grown_head class ≡ true → IsOpen t
    → body_line (so_far (ts ++ t ∷ [])) n first rest ≡ Ok (so_far (ts ++ longer t n call ∷ []))
line_goes_on ts t n first rest class call form fits h =
    let taken : takes (last (ts ++ t ∷ [])) class ≡ true = rw (last_is ts t, h.head, h.open_yet, fits) refl in
    body_back (so_far (ts ++ t ∷ [])) n first rest class call form refl taken
    ∙ ap (λ (us : List Task). Ok (so_far us)) (onto_last_is (record { number = n; call = call }) ts t)

-- one fill

fill_cut : (row column byte : ℕ) → cut_of 32 (fill_words row column byte) ≡ (codes "fill", Some (fill_rest row column byte))
unfolding cut_of
fill_cut row column byte = refl

fill_at : (ts : List Task) (t : Task) (n row column byte : ℕ) (after : List Text) → row < 64 → column < 64 → byte < 256 → IsOpen t
    → words_line (so_far (ts ++ t ∷ [])) n after (codes "fill") (Some (fill_rest row column byte)) ≡ Ok (so_far (ts ++ longer t n (fill_call row column byte) ∷ []))
unfolding words_line
fill_at ts t n row column byte after low_row low_column low_byte h = line_goes_on ts t n (codes "fill") (Some (fill_rest row column byte)) c.Edit (fill_call row column byte) (fill_form row column byte low_row low_column low_byte) refl h

fill_reads : (ts : List Task) (t : Task) (n row column byte : ℕ) → row < 64 → column < 64 → byte < 256 → IsOpen t
    → Reads (so_far (ts ++ t ∷ [])) n (fill_text row column byte) (so_far (ts ++ longer t n (fill_call row column byte) ∷ [])) (n + 1)
fill_reads ts t n row column byte low_row low_column low_byte h =
    let line = fill_is_line row column byte low_row low_column low_byte in
    let s = so_far (ts ++ t ∷ []) in
    let u = so_far (ts ++ longer t n (fill_call row column byte) ∷ []) in
    subst (λ (text : Text). Reads s n text u (n + 1)) (sym (fill_line_is row column byte))
    (one_line s u n (fill_words row column byte) line
    (λ after. by_words s n after (fill_words row column byte) (codes "fill") (Some (fill_rest row column byte)) _ line refl (fill_cut row column byte) (fill_at ts t n row column byte after low_row low_column low_byte h)))

-- the fills of a task

-- behind the tasks ts and the task t, which may go on, a text of lines only adds lines to t
record Filled (ts : List Task) (t : Task) (n : ℕ) (text : Text) : Type 0 where
  task : Task
  line : ℕ
  reads : Reads (so_far (ts ++ t ∷ [])) n text (so_far (ts ++ task ∷ [])) line
  open_yet : IsOpen task
  name : task.name ≡ t.name

one_more_fill : (ts : List Task) (t : Task) (n : ℕ) (text : Text) (row column byte : ℕ) → row < 64 → column < 64 → byte < 256 → Filled ts t n text → Filled ts t n (text ++ fill_text row column byte)
one_more_fill ts t n text row column byte low_row low_column low_byte f = record {
  task = longer f.task f.line (fill_call row column byte);
  line = f.line + 1;
  reads = joined _ _ _ _ _ _ text (fill_text row column byte) f.reads (fill_reads ts f.task f.line row column byte low_row low_column low_byte f.open_yet);
  open_yet = longer_open f.task f.line (fill_call row column byte) f.open_yet refl;
  name = f.name;
}

fills : (ts : List Task) (t : Task) (n count x : ℕ) → IsOpen t → Filled ts t n (fill_lines count x)
unfolding fill_lines
fills ts t n zero x h = record { task = t; line = n; reads = nothing _ n; open_yet = h; name = refl }
fills ts t n (suc count) x h =
    let y = after (3 * count) x in
    one_more_fill ts t n (fill_lines count x) (drawn 64 (after 1 y)) (drawn 64 (after 2 y)) (drawn 256 (after 3 y)) (omega arith) (omega arith) (omega arith) (fills ts t n count x h)

-- the commit

commit_at : (ts : List Task) (t : Task) (n i : ℕ) (after : List Text) → i < 100 → IsOpen t
    → words_line (so_far (ts ++ t ∷ [])) n after (codes "commit") (Some (task_word i)) ≡ Ok (so_far (ts ++ longer t n (commit_call i) ∷ []))
unfolding words_line
commit_at ts t n i after low h = line_goes_on ts t n (codes "commit") (Some (task_word i)) c.Commit (commit_call i) (commit_form i low) refl h

commit_reads : (ts : List Task) (t : Task) (n i : ℕ) → i < 100 → IsOpen t
    → Reads (so_far (ts ++ t ∷ [])) n (commit_words i ++ 10 ∷ []) (so_far (ts ++ longer t n (commit_call i) ∷ [])) (n + 1)
commit_reads ts t n i low h =
    let line = commit_is_line i low in
    one_line (so_far (ts ++ t ∷ [])) (so_far (ts ++ longer t n (commit_call i) ∷ [])) n (commit_words i) line
    (λ after. by_words (so_far (ts ++ t ∷ [])) n after (commit_words i) (codes "commit") (Some (task_word i)) _ line refl (commit_cut i) (commit_at ts t n i after low h))

-- a whole task

abbrev head_text : Text → Text
head_text d = (codes "task" ++ 32 ∷ ((116 ∷ d) ++ 32 ∷ codes "write main 9 ours")) ++ 10 ∷ []

abbrev commit_text : Text → Text
commit_text d = (codes "commit" ++ 32 ∷ 116 ∷ d) ++ 10 ∷ []

regroup : (d f : Text) → codes "task t" ++ d ++ codes " write main 9 ours\n" ++ f ++ codes "commit t" ++ d ++ codes "\n" ≡ (head_text d ++ f) ++ commit_text d
regroup d f =
    let begin = codes "task t" ++ d ++ codes " write main 9 ours\n" ++ f in
    append_assoc (begin ++ codes "commit t") d (10 ∷ []) ∙ append_assoc begin (codes "commit t") (d ++ 10 ∷ [])
    ∙ ap (λ (t : Text). (codes "task t" ++ t ++ f) ++ commit_text d) (sym (append_assoc d (codes " write main 9 ours") (10 ∷ [])))

-- behind the tasks ts, a text makes so many tasks of them, named by their numbers
record Grown (ts : List Task) (n : ℕ) (text : Text) (size : ℕ) : Type 0 where
  tasks : List Task
  line : ℕ
  reads : Reads (so_far ts) n text (so_far tasks) line
  named : AreNamed 0 tasks
  size_is : length tasks ≡ size

one_task : (ts : List Task) (n i x : ℕ) → AreNamed 0 ts → length ts ≡ i → i < 64 → Grown ts n (grow_task i x) (i + 1)
one_task ts n i x named size few =
    let head = head_reads ts i n named size few in
    let f = fills ts (begun i n) (n + 1) 50 x (begun_open i n) in
    let end = commit_reads ts f.task f.line i (omega arith) f.open_yet in
    let task = longer f.task f.line (commit_call i) in
    let number : i ≡ 0 + length ts = omega (arith, size) in
    record {
      tasks = ts ++ task ∷ [];
      line = f.line + 1;
      reads = subst (λ (text : Text). Reads (so_far ts) n text (so_far (ts ++ task ∷ [])) (f.line + 1)) (sym (regroup (decimal i) (fill_lines 50 x)))
          (joined _ _ _ _ _ _ (head_text (decimal i) ++ fill_lines 50 x) (commit_text (decimal i))
          (joined _ _ _ _ _ _ (head_text (decimal i)) (fill_lines 50 x) head f.reads) end);
      named = named_more 0 ts task named (f.name ∙ ap task_word number);
      size_is = omega (arith, length-append ts (task ∷ []), size);
    }

one_more_task : (ts : List Task) (n : ℕ) (text more : Text) (size bigger : ℕ) → (g : Grown ts n text size) → Grown g.tasks g.line more bigger → Grown ts n (text ++ more) bigger
one_more_task ts n text more size bigger g h = record {
  tasks = h.tasks;
  line = h.line;
  reads = joined _ _ _ _ _ _ text more g.reads h.reads;
  named = h.named;
  size_is = h.size_is;
}

tasks : (ts : List Task) (n count x : ℕ) → AreNamed 0 ts → length ts ≡ 1 → count ≤ 60 → Grown ts n (grow_tasks count x) (count + 1)
unfolding grow_tasks
tasks ts n zero x named size few = record { tasks = ts; line = n; reads = nothing _ n; named = named; size_is = size }
tasks ts n (suc count) x named size few =
    let g = tasks ts n count x named size (omega arith) in
    one_more_task ts n (grow_tasks count x) (grow_task (suc count) (after (150 * count) x)) (count + 1) (suc count + 1) g
    (one_task g.tasks g.line (suc count) (after (150 * count) x) g.named (omega (arith, g.size_is)) (omega arith))

pub tasks_read : (ts : List Task) (n count x : ℕ) → AreNamed 0 ts → length ts ≡ 1 → count ≤ 60
    → (us : List Task) × (m : ℕ) × Reads (so_far ts) n (grow_tasks count x) (so_far us) m × AreNamed 0 us × (length us ≡ count + 1)
tasks_read ts n count x named size few =
    let g = tasks ts n count x named size few in
    (g.tasks, g.line, g.reads, g.named, g.size_is)
