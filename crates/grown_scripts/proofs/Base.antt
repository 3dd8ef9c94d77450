-- The base task.
use Rattle.std.proofs.Common.{◌≡◌, ℕ, false, List, [], ◌∷◌, Option, Some, Ok, refl, sym, ap, arith}
use Rattle.std.specs.Prelude.{ℤ, codes, pos}
use Rattle.std.proofs.lemmas.Fmt.{decimal_digit}
use Rattle.ice_base.specs.Names.{name_fault}
use Rattle.zarr_path.specs.Paths.{path_fault, names_of, is_name}
use Rattle.conflicts.specs.declared.solving.Pick.TheVariants as pick
use Rattle.script_calls.specs.declared.calls.Call.{Call}
use Rattle.script_calls.specs.declared.calls.Call.TheVariants as call
use Rattle.script_calls.specs.declared.calls.EditCall.TheVariants as edit
use Rattle.script_calls.specs.declared.calls.Access.TheVariants as access
use Rattle.script_calls.specs.declared.calls.Head.{Head}
use Rattle.script_calls.specs.declared.calls.Head.TheVariants as head
use Rattle.script_calls.specs.declared.calls.Class.TheVariants as c
use Rattle.play_script.specs.declared.scripts.Line.{Line}
use Rattle.play_script.specs.declared.scripts.Task.{Task}
use Rattle.script_values.specs.Words.{Text, cut_of, five}
use Rattle.script_values.specs.Values.{task_name_of, path_of, text_of, number_of, numbers_of, fill_of, ref_name_of, tries_in, pick_in, drops_in, policy_in}
use Rattle.script_values.specs.Arrays.{array_line_text}
use Rattle.script_calls.specs.Forms.{lone_path, array_of, path_and_array, node_edit_of, chunk_edit_of, key_edit_of, read_of, commit_of, form_of, write_of, head_of}
use Rattle.play_script.specs.Places.{is_head_placed, may_begin, task_line, head_line, words_line}
use Rattle.play_script.specs.Reading.{empty}
use Rattle.grow_script.specs.Script.{base_task}
use Rattle.grown_scripts.proofs.Bytes.{line_text}
use Rattle.grown_scripts.proofs.Naming.{AreNamed}
use Rattle.grown_scripts.proofs.Fills.{path_back}
use Rattle.grown_scripts.proofs.Lines.{so_far, Reads, joined, one_line, by_words, body_back}

-- the head

abbrev base_head : Head
base_head = head.Session (access.Write (codes "main") 0 (record { chunks = pick.Fail; drop_arrays = false; drop_groups = false }))

abbrev with_body : List Line → Task
with_body body = record { name = codes "t0"; line = 1; head = base_head; body = body }

begun_at : (after : List Text) → words_line empty 1 after (codes "task") (Some (codes "t0 write main 0 fail")) ≡ Ok (so_far (with_body [] ∷ []))
unfolding words_line head_line task_line may_begin is_head_placed task_name_of head_of write_of ref_name_of name_fault tries_in policy_in pick_in drops_in cut_of
begun_at after = refl

-- the lines of its body

abbrev group_call : Call
group_call = call.Edit (edit.Group (codes "/"))

abbrev array_text : Text
array_text = array_line_text (codes "int32") (512 ∷ 512 ∷ []) (8 ∷ 8 ∷ []) (pos 0)

abbrev array_call : Call
array_call = call.Edit (edit.Array (codes "/x") array_text)

abbrev commit_call : Call
commit_call = call.Commit (codes "base")

abbrev numbered : ℕ → Call → Line
numbered n call = record { number = n; call = call }

abbrev first_lines : List Line
first_lines = numbered 2 group_call ∷ []

abbrev two_lines : List Line
two_lines = numbered 2 group_call ∷ numbered 3 array_call ∷ []

abbrev base_lines : List Line
base_lines = numbered 2 group_call ∷ numbered 3 array_call ∷ numbered 4 commit_call ∷ []

group_form : form_of (codes "group") (Some (codes "/")) ≡ record { class = c.Edit; call = Ok group_call }
unfolding form_of node_edit_of lone_path path_of path_fault names_of is_name cut_of
group_form = rw (line_text (codes "/") refl) refl

array_text_of : (data_type shape chunks fill : Text) (lengths sizes : List ℕ) (value : ℤ) → text_of data_type ≡ Ok data_type → numbers_of shape ≡ Ok lengths → numbers_of chunks ≡ Ok sizes → fill_of fill ≡ Ok value
    → array_of data_type shape chunks fill ≡ Ok (array_line_text data_type lengths sizes value)
unfolding array_of
array_text_of data_type shape chunks fill lengths sizes value t s c f = rw (t, s, c, f) refl

array_back : array_of (codes "int32") (codes "512,512") (codes "8,8") (codes "0") ≡ Ok array_text
unfolding numbers_of number_of fill_of
array_back = array_text_of (codes "int32") (codes "512,512") (codes "8,8") (codes "0") (512 ∷ 512 ∷ []) (8 ∷ 8 ∷ []) (pos 0) (rw (line_text (codes "int32") refl) refl) refl refl refl

five_words : five (Some (codes "/x int32 512,512 8,8 0")) ≡ Some (codes "/x", codes "int32", codes "512,512", codes "8,8", codes "0")
unfolding cut_of
five_words = refl

path_and_array_of : (rest : Option Text) (path data_type shape chunks fill text : Text) → five rest ≡ Some (path, data_type, shape, chunks, fill) → path_of path ≡ Ok path → array_of data_type shape chunks fill ≡ Ok text → path_and_array rest ≡ Ok (path, text)
unfolding path_and_array
path_and_array_of rest path data_type shape chunks fill text words p a = rw (words, p, a) refl

form_with : (rest : Option Text) (text : Text) → path_and_array rest ≡ Ok (codes "/x", text) → form_of (codes "array") rest ≡ record { class = c.Edit; call = Ok (call.Edit (edit.Array (codes "/x") text)) }
unfolding form_of node_edit_of
form_with rest text e = rw e refl

array_form : form_of (codes "array") (Some (codes "/x int32 512,512 8,8 0")) ≡ record { class = c.Edit; call = Ok array_call }
array_form =
    form_with (Some (codes "/x int32 512,512 8,8 0")) array_text
    (path_and_array_of (Some (codes "/x int32 512,512 8,8 0")) (codes "/x") (codes "int32") (codes "512,512") (codes "8,8") (codes "0") array_text five_words path_back array_back)

commit_form : form_of (codes "commit") (Some (codes "base")) ≡ record { class = c.Commit; call = Ok commit_call }
unfolding form_of node_edit_of chunk_edit_of key_edit_of read_of commit_of
commit_form = rw (line_text (codes "base") refl) refl

group_at : (after : List Text) → words_line (so_far (with_body [] ∷ [])) 2 after (codes "group") (Some (codes "/")) ≡ Ok (so_far (with_body first_lines ∷ []))
unfolding words_line
group_at after = body_back (so_far (with_body [] ∷ [])) 2 (codes "group") (Some (codes "/")) c.Edit group_call group_form refl refl

array_at : (after : List Text) → words_line (so_far (with_body first_lines ∷ [])) 3 after (codes "array") (Some (codes "/x int32 512,512 8,8 0")) ≡ Ok (so_far (with_body two_lines ∷ []))
unfolding words_line
array_at after = body_back (so_far (with_body first_lines ∷ [])) 3 (codes "array") (Some (codes "/x int32 512,512 8,8 0")) c.Edit array_call array_form refl refl

commit_at : (after : List Text) → words_line (so_far (with_body two_lines ∷ [])) 4 after (codes "commit") (Some (codes "base")) ≡ Ok (so_far (with_body base_lines ∷ []))
unfolding words_line
commit_at after = body_back (so_far (with_body two_lines ∷ [])) 4 (codes "commit") (Some (codes "base")) c.Commit commit_call commit_form refl refl

-- the four lines

abbrev pub base : Task
base = with_body base_lines

head_reads : Reads empty 1 (codes "task t0 write main 0 fail\n") (so_far (with_body [] ∷ [])) 2
unfolding cut_of
head_reads = one_line empty (so_far (with_body [] ∷ [])) 1 (codes "task t0 write main 0 fail") refl (λ after. by_words empty 1 after (codes "task t0 write main 0 fail") (codes "task") (Some (codes "t0 write main 0 fail")) _ refl refl refl (begun_at after))

group_reads : Reads (so_far (with_body [] ∷ [])) 2 (codes "group /\n") (so_far (with_body first_lines ∷ [])) 3
unfolding cut_of
group_reads = one_line (so_far (with_body [] ∷ [])) (so_far (with_body first_lines ∷ [])) 2 (codes "group /") refl (λ after. by_words (so_far (with_body [] ∷ [])) 2 after (codes "group /") (codes "group") (Some (codes "/")) _ refl refl refl (group_at after))

array_reads : Reads (so_far (with_body first_lines ∷ [])) 3 (codes "array /x int32 512,512 8,8 0\n") (so_far (with_body two_lines ∷ [])) 4
unfolding cut_of
array_reads = one_line (so_far (with_body first_lines ∷ [])) (so_far (with_body two_lines ∷ [])) 3 (codes "array /x int32 512,512 8,8 0") refl (λ after. by_words (so_far (with_body first_lines ∷ [])) 3 after (codes "array /x int32 512,512 8,8 0") (codes "array") (Some (codes "/x int32 512,512 8,8 0")) _ refl refl refl (array_at after))

commit_reads : Reads (so_far (with_body two_lines ∷ [])) 4 (codes "commit base\n") (so_far (with_body base_lines ∷ [])) 5
unfolding cut_of
commit_reads = one_line (so_far (with_body two_lines ∷ [])) (so_far (with_body base_lines ∷ [])) 4 (codes "commit base") refl (λ after. by_words (so_far (with_body two_lines ∷ [])) 4 after (codes "commit base") (codes "commit") (Some (codes "base")) _ refl refl refl (commit_at after))

pub base_reads : Reads empty 1 base_task (so_far (base ∷ [])) 5
base_reads =
    joined _ _ _ _ _ _ (codes "task t0 write main 0 fail\n") (codes "group /\narray /x int32 512,512 8,8 0\ncommit base\n") head_reads
    (joined _ _ _ _ _ _ (codes "group /\n") (codes "array /x int32 512,512 8,8 0\ncommit base\n") group_reads
    (joined _ _ _ _ _ _ (codes "array /x int32 512,512 8,8 0\n") (codes "commit base\n") array_reads commit_reads))

pub base_named : AreNamed 0 (base ∷ [])
base_named = (ap (λ (ds : Text). 116 ∷ ds) (sym (decimal_digit 0 (omega arith))), tt)
