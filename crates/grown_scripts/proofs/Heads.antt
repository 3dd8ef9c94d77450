-- The head of a task, and its commit.
use Rattle.std.proofs.Common.{◌≡◌, ℕ, ◌+◌, ◌<◌, true, false, List, [], ◌∷◌, ◌++◌, length, Some, Ok, refl, arith}
use Rattle.std.specs.Prelude.{codes}
use Rattle.std.proofs.lemmas.Bool.{lt-ltb}
use Rattle.ice_base.specs.Names.{name_fault}
use Rattle.conflicts.specs.declared.solving.Pick.TheVariants as pick
use Rattle.script_calls.specs.declared.calls.Call.{Call}
use Rattle.script_calls.specs.declared.calls.Call.TheVariants as call
use Rattle.script_calls.specs.declared.calls.Access.TheVariants as access
use Rattle.script_calls.specs.declared.calls.Head.{Head}
use Rattle.script_calls.specs.declared.calls.Head.TheVariants as head
use Rattle.script_calls.specs.declared.calls.Class.TheVariants as c
use Rattle.play_script.specs.declared.scripts.Task.{Task}
use Rattle.script_values.specs.Words.{Text, cut_of}
use Rattle.script_values.specs.Values.{ref_name_of, tries_in, pick_in, drops_in, policy_in}
use Rattle.script_calls.specs.Forms.{node_edit_of, chunk_edit_of, key_edit_of, read_of, commit_of, form_of, write_of, head_of}
use Rattle.play_script.specs.Places.{most_tasks, is_head_placed, may_begin, task_line, head_line, words_line}
use Rattle.grown_scripts.proofs.Bytes.{is_line_byte, is_line, all_append, line_text, word_line, word_no_space}
use Rattle.grown_scripts.proofs.Cutting.{next_word}
use Rattle.grown_scripts.proofs.Naming.{task_word, name_word, name_back, AreNamed, unused}
use Rattle.grown_scripts.proofs.Lines.{so_far, Reads, one_line, by_words}

-- how each task begins
abbrev pub grown_head : Head
grown_head = head.Session (access.Write (codes "main") 9 (record { chunks = pick.Ours; drop_arrays = false; drop_groups = false }))

-- the task of number i, which begins at line n
abbrev pub begun : ℕ → ℕ → Task
begun i n = record { name = task_word i; line = n; head = grown_head; body = [] }

-- the line without its line feed
abbrev pub head_rest : ℕ → Text
head_rest i = task_word i ++ 32 ∷ codes "write main 9 ours"

abbrev pub head_words : ℕ → Text
head_words i = codes "task" ++ 32 ∷ head_rest i

head_is_line : (i : ℕ) → i < 100 → is_line (head_words i) ≡ true
head_is_line i low = all_append is_line_byte (task_word i) (32 ∷ codes "write main 9 ours") (word_line (task_word i) (name_word i low)) refl

head_value : head_of (codes "write") (Some (codes "main 9 ours")) ≡ Ok grown_head
unfolding head_of write_of ref_name_of name_fault tries_in policy_in pick_in drops_in cut_of
head_value = refl

may_begin_now : (ts : List Task) (i : ℕ) (after : List Text) → AreNamed 0 ts → length ts ≡ i → i < 64 → may_begin (so_far ts) after (task_word i) (codes "write") ≡ Ok tt
unfolding may_begin is_head_placed
may_begin_now ts i after named size few =
    rw (lt-ltb (length ts) most_tasks (omega (arith, size)), unused 0 i ts named (omega (arith, size)) (omega arith)) refl

task_back : (ts : List Task) (i n : ℕ) (after : List Text) → AreNamed 0 ts → length ts ≡ i → i < 64 → task_line (so_far ts) n after (task_word i) (codes "write") (Some (codes "main 9 ours")) ≡ Ok (so_far (ts ++ begun i n ∷ []))
unfolding task_line
task_back ts i n after named size few = rw (may_begin_now ts i after named size few, name_back i (omega arith), head_value) refl

head_back : (ts : List Task) (i n : ℕ) (after : List Text) → AreNamed 0 ts → length ts ≡ i → i < 64 → head_line (so_far ts) n after (Some (head_rest i)) ≡ Ok (so_far (ts ++ begun i n ∷ []))
unfolding head_line
head_back ts i n after named size few =
    let first = next_word (task_word i) (codes "write main 9 ours") (omega arith) (word_no_space (task_word i) (name_word i (omega arith))) in
    let second = next_word (codes "write") (codes "main 9 ours") (omega arith) refl in
    rw (first, second) (task_back ts i n after named size few)

head_at : (ts : List Task) (i n : ℕ) (after : List Text) → AreNamed 0 ts → length ts ≡ i → i < 64 → words_line (so_far ts) n after (codes "task") (Some (head_rest i)) ≡ Ok (so_far (ts ++ begun i n ∷ []))
unfolding words_line
head_at ts i n after named size few = head_back ts i n after named size few

head_cut : (i : ℕ) → cut_of 32 (head_words i) ≡ (codes "task", Some (head_rest i))
unfolding cut_of
head_cut i = refl

-- the head's line begins the next task
pub head_reads : (ts : List Task) (i n : ℕ) → AreNamed 0 ts → length ts ≡ i → i < 64 → Reads (so_far ts) n (head_words i ++ 10 ∷ []) (so_far (ts ++ begun i n ∷ [])) (n + 1)
head_reads ts i n named size few =
    one_line (so_far ts) (so_far (ts ++ begun i n ∷ [])) n (head_words i) (head_is_line i (omega arith))
    (λ after. by_words (so_far ts) n after (head_words i) (codes "task") (Some (head_rest i)) _ (head_is_line i (omega arith)) refl (head_cut i) (head_at ts i n after named size few))

-- the commit

abbrev pub commit_words : ℕ → Text
commit_words i = codes "commit" ++ 32 ∷ task_word i

abbrev pub commit_call : ℕ → Call
commit_call i = call.Commit (task_word i)

pub commit_is_line : (i : ℕ) → i < 100 → is_line (commit_words i) ≡ true
commit_is_line i low = word_line (task_word i) (name_word i low)

pub commit_cut : (i : ℕ) → cut_of 32 (commit_words i) ≡ (codes "commit", Some (task_word i))
unfolding cut_of
commit_cut i = refl

pub commit_form : (i : ℕ) → i < 100 → form_of (codes "commit") (Some (task_word i)) ≡ record { class = c.Commit; call = Ok (commit_call i) }
unfolding form_of node_edit_of chunk_edit_of key_edit_of read_of commit_of
commit_form i low = rw (line_text (task_word i) (commit_is_line i low)) refl
