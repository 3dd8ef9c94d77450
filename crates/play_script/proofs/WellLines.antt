-- What heads, body lines and turns are where they are read.
use Rattle.std.proofs.Common.{◌≡◌, ℕ, ◌+◌, ◌<◌, ◌≤◌, Bool, true, false, cond, List, [], ◌∷◌, length, Option, None, Some, Result, Ok, Err, refl, subst, arith}
use Rattle.std.specs.Prelude.{ℤ, ◌==◌, IfSome, unwrap_or, codes}
use Rattle.std.specs.Option.{option_or}
use Rattle.std.proofs.lemmas.Bool.{cond_both}
use Rattle.ice_base.specs.Names.{IsRefName}
use Rattle.ice_base.specs.Lists.{IsBytes}
use Rattle.ice_ids.specs.declared.Id12.{Id12}
use Rattle.conflicts.specs.declared.solving.Policy.{Policy}
use Rattle.repo_read.specs.declared.resolving.At.{At}
use Rattle.repo_read.specs.declared.resolving.At.TheVariants as at
use Rattle.script_values.specs.declared.kinds.ScriptKind.{ScriptKind}
use Rattle.script_calls.specs.declared.calls.Call.{Call}
use Rattle.script_calls.specs.declared.calls.Call.TheVariants as call
use Rattle.script_calls.specs.declared.calls.CellBox.{CellBox}
use Rattle.script_calls.specs.declared.calls.EditCall.TheVariants as edit
use Rattle.script_calls.specs.declared.calls.ReadCall.TheVariants as read
use Rattle.script_values.specs.declared.kinds.ScriptKind.TheVariants as k
use Rattle.script_calls.specs.declared.calls.RefCall.TheVariants as ref
use Rattle.script_calls.specs.declared.calls.Access.{Access}
use Rattle.script_calls.specs.declared.calls.Access.TheVariants as access
use Rattle.script_calls.specs.declared.calls.Head.{Head}
use Rattle.script_calls.specs.declared.calls.Head.TheVariants as head
use Rattle.play_script.specs.declared.scripts.Task.{Task}
use Rattle.play_script.specs.declared.scripts.Turn.{Turn}
use Rattle.script_calls.specs.declared.calls.Class.{Class}
use Rattle.script_calls.specs.declared.calls.Class.TheVariants as c
use Rattle.script_calls.specs.declared.forms.Form.{Form}
use Rattle.script_values.specs.Words.{Text, cut_of, next, one, two, three, four, five}
use Rattle.script_values.specs.Parts.{◌&◌, made}
use Rattle.script_values.specs.Values.{◌reads◌, path_of, text_of, ref_name_of, id_of, tries_in, policy_in, numbers_of, fill_of, count_of, index_of, bytes_of, byte_of, corner_of, cells_of, cutoff_of, flags_of}
use Rattle.script_values.specs.Arrays.{array_line_text}
use Rattle.script_calls.specs.Forms.{taken, lone_path, path_and_text, array_of, path_and_array, path_and_index, chunk_and_bytes, chunk_and_byte, cell_box, box_of, lone_box, box_and_cells, lone_key, key_and_bytes, node_edit_of, chunk_edit_of, key_edit_of, edit_of, read_of, commit_of, name_and_value, prop_of, lease_of, at_of, lone_at, lone_name, name_and_at, ref_of, form, no_form, form_of, write_of, refs_of, collect_of, expire_of, check_of, head_of}
use Rattle.play_script.specs.Places.{class_of, client_from, turn, turn_of}
use Rattle.play_script.specs.Well.{IsWellPath, IsWellText, IsWellIndex, IsWellBox, AreWellCells, IsWellEdit, IsWellRead, IsWellAt, IsWellRef, IsWellCall, IsWellAccess, IsWellHead, IsWellTurn}
use Rattle.script_values.proofs.Inversions.{made_ok, both_ok, path_ok, text_ok, ref_name_ok, numbers_ok, fill_ok, count_ok, index_ok, byte_ok, bytes_ok, tries_ok}
use Rattle.play_script.proofs.Inversions.{taken_ok, corner_ok, cells_ok}
use Rattle.script_values.proofs.WellCutoffs.{IsCutoff, cutoff_ok}
use Rattle.script_values.proofs.ArrayUtf8.{array_utf8}

lone_path_ok : (rest : Option Text) (path : Text) → lone_path rest ≡ Ok path → IsWellPath path
unfolding lone_path
lone_path_ok rest path h = let t = taken_ok (one rest) path_of path h in path_ok t.0 path t.2

-- all that is left of a line
rest_ok : (rest : Option Text) (text : Text) → taken rest text_of ≡ Ok text → IsWellText text
rest_ok rest text h = let t = taken_ok rest text_of text h in text_ok t.0 text t.2

abbrev IsWellBoth : Text × Text → Type 0
IsWellBoth v = IsWellPath v.0 × IsWellText v.1

path_and_text_ok : (rest : Option Text) (v : Text × Text) → path_and_text rest ≡ Ok v → IsWellBoth v
unfolding path_and_text
path_and_text_ok rest v h =
    let t = taken_ok (next rest) (λ p. path_of p.0 & taken p.1 text_of) v h in
    let b = both_ok (path_of t.0.0) (taken t.0.1 text_of) v t.2 in
    (path_ok t.0.0 v.0 b.0, rest_ok t.0.1 v.1 b.1)

array_ok : (data_type shape chunks fill text : Text) → array_of data_type shape chunks fill ≡ Ok text → IsWellText text
unfolding array_of
array_ok data_type shape chunks fill text h =
    let m = made_ok (λ (v : ((Text × List ℕ) × List ℕ) × ℤ). array_line_text v.0.0.0 v.0.0.1 v.0.1 v.1) (text_of data_type & numbers_of shape & numbers_of chunks & fill_of fill) text h in
    let all = both_ok (text_of data_type & numbers_of shape & numbers_of chunks) (fill_of fill) m.0 m.1 in
    let lists = both_ok (text_of data_type & numbers_of shape) (numbers_of chunks) m.0.0 all.0 in
    let one = both_ok (text_of data_type) (numbers_of shape) m.0.0.0 lists.0 in
    subst IsWellText m.2 (array_utf8 _ _ _ _ (text_ok data_type _ one.0) (numbers_ok shape _ one.1) (numbers_ok chunks _ lists.1) (fill_ok fill _ all.1))

path_and_array_ok : (rest : Option Text) (v : Text × Text) → path_and_array rest ≡ Ok v → IsWellBoth v
unfolding path_and_array
path_and_array_ok rest v h =
    let t = taken_ok (five rest) (λ w. path_of w.0 & array_of w.1 w.2 w.3 w.4) v h in
    let b = both_ok (path_of t.0.0) (array_of t.0.1 t.0.2 t.0.3 t.0.4) v t.2 in
    (path_ok t.0.0 v.0 b.0, array_ok t.0.1 t.0.2 t.0.3 t.0.4 v.1 b.1)

-- a chunk by its array and its index
abbrev IsWellChunk : Text × List ℕ → Type 0
IsWellChunk v = IsWellPath v.0 × IsWellIndex v.1

path_and_index_ok : (rest : Option Text) (v : Text × List ℕ) → path_and_index rest ≡ Ok v → IsWellChunk v
unfolding path_and_index
path_and_index_ok rest v h =
    let t = taken_ok (two rest) (λ w. path_of w.0 & index_of w.1) v h in
    let b = both_ok (path_of t.0.0) (index_of t.0.1) v t.2 in
    (path_ok t.0.0 v.0 b.0, index_ok t.0.1 v.1 b.1)

abbrev IsWellBytes : (Text × List ℕ) × List ℕ → Type 0
IsWellBytes v = IsWellPath v.0.0 × IsWellIndex v.0.1 × IsBytes v.1

chunk_and_bytes_ok : (rest : Option Text) (v : (Text × List ℕ) × List ℕ) → chunk_and_bytes rest ≡ Ok v → IsWellBytes v
unfolding chunk_and_bytes
chunk_and_bytes_ok rest v h =
    let t = taken_ok (three rest) (λ w. path_of w.0 & index_of w.1 & bytes_of w.2) v h in
    let b = both_ok (path_of t.0.0 & index_of t.0.1) (bytes_of t.0.2) v t.2 in
    let a = both_ok (path_of t.0.0) (index_of t.0.1) v.0 b.0 in
    (path_ok t.0.0 v.0.0 a.0, index_ok t.0.1 v.0.1 a.1, bytes_ok t.0.2 v.1 b.1)

abbrev IsWellByte : (Text × List ℕ) × ℕ → Type 0
IsWellByte v = IsWellPath v.0.0 × IsWellIndex v.0.1 × (v.1 < 256)

chunk_and_byte_ok : (rest : Option Text) (v : (Text × List ℕ) × ℕ) → chunk_and_byte rest ≡ Ok v → IsWellByte v
unfolding chunk_and_byte
chunk_and_byte_ok rest v h =
    let t = taken_ok (three rest) (λ w. path_of w.0 & index_of w.1 & byte_of w.2) v h in
    let b = both_ok (path_of t.0.0 & index_of t.0.1) (byte_of t.0.2) v t.2 in
    let a = both_ok (path_of t.0.0) (index_of t.0.1) v.0 b.0 in
    (path_ok t.0.0 v.0.0 a.0, index_ok t.0.1 v.0.1 a.1, byte_ok t.0.2 v.1 b.1)

box_ok : (path from to : Text) (v : CellBox) → box_of path from to ≡ Ok v → IsWellBox v
box_ok path from to v h =
    let m = made_ok cell_box (path_of path & corner_of from & corner_of to) v h in
    let all = both_ok (path_of path & corner_of from) (corner_of to) m.0 m.1 in
    let one = both_ok (path_of path) (corner_of from) m.0.0 all.0 in
    subst IsWellBox m.2 (path_ok path _ one.0, corner_ok from _ one.1, corner_ok to _ all.1)

lone_box_ok : (rest : Option Text) (v : CellBox) → lone_box rest ≡ Ok v → IsWellBox v
unfolding lone_box
lone_box_ok rest v h =
    let t = taken_ok (three rest) (λ w. box_of w.0 w.1 w.2) v h in
    box_ok t.0.0 t.0.1 t.0.2 v t.2

abbrev IsWellPut : CellBox × List ℤ → Type 0
IsWellPut v = IsWellBox v.0 × AreWellCells v.1

box_and_cells_ok : (rest : Option Text) (v : CellBox × List ℤ) → box_and_cells rest ≡ Ok v → IsWellPut v
unfolding box_and_cells
box_and_cells_ok rest v h =
    let t = taken_ok (four rest) (λ w. box_of w.0 w.1 w.2 & cells_of w.3) v h in
    let b = both_ok (box_of t.0.0 t.0.1 t.0.2) (cells_of t.0.3) v t.2 in
    (box_ok t.0.0 t.0.1 t.0.2 v.0 b.0, cells_ok t.0.3 v.1 b.1)

lone_key_ok : (rest : Option Text) (key : Text) → lone_key rest ≡ Ok key → IsWellText key
unfolding lone_key
lone_key_ok rest key h = let t = taken_ok (one rest) text_of key h in text_ok t.0 key t.2

abbrev IsWellValue : Text × List ℕ → Type 0
IsWellValue v = IsWellText v.0 × IsBytes v.1

key_and_bytes_ok : (rest : Option Text) (v : Text × List ℕ) → key_and_bytes rest ≡ Ok v → IsWellValue v
unfolding key_and_bytes
key_and_bytes_ok rest v h =
    let t = taken_ok (two rest) (λ w. text_of w.0 & bytes_of w.1) v h in
    let b = both_ok (text_of t.0.0) (bytes_of t.0.1) v t.2 in
    (text_ok t.0.0 v.0 b.0, bytes_ok t.0.1 v.1 b.1)

-- what was read is of its grammar
abbrev IsRight : {A : Type 0} → (A → Type 0) → Option (Result A ScriptKind) → Type 0
IsRight {A} P words = IfSome words (λ r. (x : A) → r ≡ Ok x → P x)

-- what is made of parts that are right
made_right : {A B : Type 0} (P : A → Type 0) (Q : B → Type 0) (f : A → B) (r : Result A ScriptKind) → ((x : A) → P x → Q (f x)) → ((x : A) → r ≡ Ok x → P x) → (y : B) → made f r ≡ Ok y → Q y
made_right P Q f r one right y h = let m = made_ok f r y h in subst Q m.2 (one m.0 (right m.0 m.1))

-- a line of one form, or else another
form_right : {A : Type 0} (P : A → Type 0) (word : Bool) (r : Result A ScriptKind) (other : Option (Result A ScriptKind)) → ((x : A) → r ≡ Ok x → P x) → IsRight P other → IsRight P (cond word (Some r) other)
form_right P word r other right rest = cond_both word (Some r) other (IsRight P) (λ _. right) (λ _. rest)

node_edit_ok : (first : Text) (rest : Option Text) → IsRight IsWellEdit (node_edit_of first rest)
unfolding node_edit_of
node_edit_ok first rest =
    form_right IsWellEdit (first reads codes "group") _ _ (made_right IsWellPath IsWellEdit edit.Group (lone_path rest) (λ x w. w) (lone_path_ok rest))
    (form_right IsWellEdit (first reads codes "array") _ _ (made_right IsWellBoth IsWellEdit (λ v. edit.Array v.0 v.1) (path_and_array rest) (λ x w. w) (path_and_array_ok rest))
    (form_right IsWellEdit (first reads codes "make") _ _ (made_right IsWellBoth IsWellEdit (λ v. edit.Make v.0 v.1) (path_and_text rest) (λ x w. w) (path_and_text_ok rest))
    (form_right IsWellEdit (first reads codes "meta") _ _ (made_right IsWellBoth IsWellEdit (λ v. edit.Meta v.0 v.1) (path_and_text rest) (λ x w. w) (path_and_text_ok rest))
    (form_right IsWellEdit (first reads codes "drop") _ _ (made_right IsWellPath IsWellEdit edit.Drop (lone_path rest) (λ x w. w) (lone_path_ok rest)) tt))))

chunk_edit_ok : (first : Text) (rest : Option Text) → IsRight IsWellEdit (chunk_edit_of first rest)
unfolding chunk_edit_of
chunk_edit_ok first rest =
    form_right IsWellEdit (first reads codes "set") _ _ (made_right IsWellBytes IsWellEdit (λ v. edit.Set v.0.0 v.0.1 v.1) (chunk_and_bytes rest) (λ x w. w) (chunk_and_bytes_ok rest))
    (form_right IsWellEdit (first reads codes "fill") _ _ (made_right IsWellByte IsWellEdit (λ v. edit.Fill v.0.0 v.0.1 v.1) (chunk_and_byte rest) (λ x w. w) (chunk_and_byte_ok rest))
    (form_right IsWellEdit (first reads codes "unset") _ _ (made_right IsWellChunk IsWellEdit (λ v. edit.Unset v.0 v.1) (path_and_index rest) (λ x w. w) (path_and_index_ok rest))
    (form_right IsWellEdit (first reads codes "put") _ _ (made_right IsWellPut IsWellEdit (λ v. edit.Put v.0 v.1) (box_and_cells rest) (λ x w. w) (box_and_cells_ok rest)) tt)))

key_edit_ok : (first : Text) (rest : Option Text) → IsRight IsWellEdit (key_edit_of first rest)
unfolding key_edit_of
key_edit_ok first rest =
    form_right IsWellEdit (first reads codes "zset") _ _ (made_right IsWellValue IsWellEdit (λ v. edit.KeySet v.0 v.1) (key_and_bytes rest) (λ x w. w) (key_and_bytes_ok rest))
    (form_right IsWellEdit (first reads codes "zdel") _ _ (made_right IsWellText IsWellEdit edit.KeyErase (lone_key rest) (λ x w. w) (lone_key_ok rest)) tt)

-- a line of one kind, or else of another
or_right : {A : Type 0} (P : A → Type 0) (words other : Option (Result A ScriptKind)) → IsRight P words → IsRight P other → IsRight P (option_or words other)
or_right P None other right rest = rest
or_right P (Some r) other right rest = right

edit_ok : (first : Text) (rest : Option Text) → IsRight IsWellEdit (edit_of first rest)
edit_ok first rest =
    or_right IsWellEdit (node_edit_of first rest) _ (node_edit_ok first rest)
    (or_right IsWellEdit (chunk_edit_of first rest) _ (chunk_edit_ok first rest) (key_edit_ok first rest))

read_ok : (first : Text) (rest : Option Text) → IsRight IsWellRead (read_of first rest)
unfolding read_of
read_ok first rest =
    form_right IsWellRead (first reads codes "list") _ _ (made_right IsWellPath IsWellRead read.List (lone_path rest) (λ x w. w) (lone_path_ok rest))
    (form_right IsWellRead (first reads codes "get") _ _ (made_right IsWellPath IsWellRead read.Get (lone_path rest) (λ x w. w) (lone_path_ok rest))
    (form_right IsWellRead (first reads codes "chunk") _ _ (made_right IsWellChunk IsWellRead (λ v. read.Chunk v.0 v.1) (path_and_index rest) (λ x w. w) (path_and_index_ok rest))
    (form_right IsWellRead (first reads codes "cells") _ _ (made_right IsWellBox IsWellRead read.Cells (lone_box rest) (λ x w. w) (lone_box_ok rest))
    (form_right IsWellRead (first reads codes "zget") _ _ (made_right IsWellText IsWellRead read.KeyGet (lone_key rest) (λ x w. w) (lone_key_ok rest)) tt))))

commit_ok : (first : Text) (rest : Option Text) → IsRight IsWellText (commit_of first rest)
unfolding commit_of
commit_ok first rest = form_right IsWellText (first reads codes "commit") _ _ (rest_ok rest) tt

-- a property's name and its value
abbrev IsWellProp : Text × Text → Type 0
IsWellProp v = IsWellText v.0 × IsWellText v.1

name_and_value_ok : (rest : Option Text) (v : Text × Text) → name_and_value rest ≡ Ok v → IsWellProp v
unfolding name_and_value
name_and_value_ok rest v h =
    let t = taken_ok (next rest) (λ p. text_of p.0 & taken p.1 text_of) v h in
    let b = both_ok (text_of t.0.0) (taken t.0.1 text_of) v t.2 in
    (text_ok t.0.0 v.0 b.0, rest_ok t.0.1 v.1 b.1)

prop_ok : (first : Text) (rest : Option Text) → IsRight IsWellProp (prop_of first rest)
unfolding prop_of
prop_ok first rest = form_right IsWellProp (first reads codes "prop") _ _ (name_and_value_ok rest) tt

-- a line without words of its own
abbrev IsAny : Unit {0} → Type 0
IsAny none = Unit {0}

lease_ok : (first : Text) (rest : Option Text) → IsRight IsAny (lease_of first rest)
unfolding lease_of
lease_ok first rest = form_right IsAny (first reads codes "lease") _ _ (λ x h. tt) tt

-- what names a snapshot, where it is read
abbrev AreWellAts : Result At ScriptKind → Type 0
AreWellAts r = (v : At) → r ≡ Ok v → IsWellAt v

abbrev IsAnyId : Id12 → Type 0
IsAnyId own = Unit {0}

at_ok : (word w : Text) → AreWellAts (at_of word w)
unfolding at_of
at_ok word w =
    cond_both (word reads codes "branch") _ _ AreWellAts (λ _. made_right IsRefName IsWellAt at.Branch (ref_name_of w) (λ x n. n) (ref_name_ok w)) (λ _.
    cond_both (word reads codes "tag") _ _ AreWellAts (λ _. made_right IsRefName IsWellAt at.Tag (ref_name_of w) (λ x n. n) (ref_name_ok w)) (λ _.
    cond_both (word reads codes "id") _ _ AreWellAts (λ _. made_right IsAnyId IsWellAt at.Snapshot (id_of w) (λ x n. n) (λ x h. tt)) (λ _ v h. absurd (cc))))

lone_at_ok : (rest : Option Text) → AreWellAts (lone_at rest)
unfolding lone_at
lone_at_ok rest v h = let t = taken_ok (two rest) (λ w. at_of w.0 w.1) v h in at_ok t.0.0 t.0.1 v t.2

lone_name_ok : (rest : Option Text) (name : Text) → lone_name rest ≡ Ok name → IsRefName name
unfolding lone_name
lone_name_ok rest name h = let t = taken_ok (one rest) ref_name_of name h in ref_name_ok t.0 name t.2

abbrev IsWellNamed : Text × At → Type 0
IsWellNamed v = IsRefName v.0 × IsWellAt v.1

name_and_at_ok : (rest : Option Text) (v : Text × At) → name_and_at rest ≡ Ok v → IsWellNamed v
unfolding name_and_at
name_and_at_ok rest v h =
    let t = taken_ok (three rest) (λ w. ref_name_of w.0 & at_of w.1 w.2) v h in
    let b = both_ok (ref_name_of t.0.0) (at_of t.0.1 t.0.2) v t.2 in
    (ref_name_ok t.0.0 v.0 b.0, at_ok t.0.1 t.0.2 v.1 b.1)

ref_ok : (first : Text) (rest : Option Text) → IsRight IsWellRef (ref_of first rest)
unfolding ref_of
ref_ok first rest =
    form_right IsWellRef (first reads codes "branch") _ _ (made_right IsWellNamed IsWellRef (λ v. ref.Branch v.0 v.1) (name_and_at rest) (λ x w. w) (name_and_at_ok rest))
    (form_right IsWellRef (first reads codes "reset") _ _ (made_right IsWellNamed IsWellRef (λ v. ref.Reset v.0 v.1) (name_and_at rest) (λ x w. w) (name_and_at_ok rest))
    (form_right IsWellRef (first reads codes "unbranch") _ _ (made_right IsRefName IsWellRef ref.Unbranch (lone_name rest) (λ x w. w) (lone_name_ok rest))
    (form_right IsWellRef (first reads codes "tag") _ _ (made_right IsWellNamed IsWellRef (λ v. ref.Tag v.0 v.1) (name_and_at rest) (λ x w. w) (name_and_at_ok rest))
    (form_right IsWellRef (first reads codes "untag") _ _ (made_right IsRefName IsWellRef ref.Untag (lone_name rest) (λ x w. w) (lone_name_ok rest))
    (form_right IsWellRef (first reads codes "log") _ _ (made_right IsWellAt IsWellRef ref.Log (lone_at rest) (λ x w. w) (lone_at_ok rest)) tt)))))

-- a call is well, and of this class
abbrev pub IsOf : Class → Call → Type 0
IsOf class v = IsWellCall v × (class_of v ≡ class)

abbrev pub IsWellForm : Form → Type 0
IsWellForm f = (v : Call) → f.call ≡ Ok v → IsOf f.class v

-- a line of a class, or else another
class_ok : {A : Type 0} (P : A → Type 0) (class : Class) (call : A → Call) (words : Option (Result A ScriptKind)) (other : Form) → ((x : A) → P x → IsOf class (call x)) → IsRight P words → IsWellForm other → IsWellForm (unwrap_or (form class call words) other)
class_ok P class call None other one right rest = rest
class_ok P class call (Some r) other one right rest = λ v h. let m = made_ok call r v h in subst (IsOf class) m.2 (one m.0 (right m.0 m.1))

pub form_ok : (first : Text) (rest : Option Text) → IsWellForm (form_of first rest)
unfolding form_of
form_ok first rest =
    class_ok IsWellEdit c.Edit call.Edit (edit_of first rest) _ (λ x w. (w, refl)) (edit_ok first rest)
    (class_ok IsWellRead c.Read call.Read (read_of first rest) _ (λ x w. (w, refl)) (read_ok first rest)
    (class_ok IsWellText c.Commit call.Commit (commit_of first rest) _ (λ x w. (w, refl)) (commit_ok first rest)
    (class_ok IsWellRef c.Ref call.Ref (ref_of first rest) _ (λ x w. (w, refl)) (ref_ok first rest)
    (class_ok IsWellProp c.Edit (λ v. call.Prop v.0 v.1) (prop_of first rest) _ (λ x w. (w, refl)) (prop_ok first rest)
    (class_ok IsAny c.Read (λ _. call.Lease) (lease_of first rest) no_form (λ x w. (tt, refl)) (lease_ok first rest) (λ v h. absurd (cc)))))))

-- what a task opens, where it is read
written : (branch : Text) (tries : ℕ) (policy : Policy) (opened : Access) → access.Write branch tries policy ≡ opened → IsRefName branch → tries ≤ 9 → IsWellAccess opened
written branch tries policy opened same name few = subst IsWellAccess same (name, few)

write_ok : (rest : Option Text) (v : Access) → write_of rest ≡ Ok v → IsWellAccess v
unfolding write_of
write_ok rest v h =
    let t = taken_ok (three rest) (λ w. made (λ v. access.Write v.0.0 v.0.1 v.1) (ref_name_of w.0 & tries_in w.1 & policy_in w.2)) v h in
    let m = made_ok (λ (v : (Text × ℕ) × Policy). access.Write v.0.0 v.0.1 v.1) (ref_name_of t.0.0 & tries_in t.0.1 & policy_in t.0.2) v t.2 in
    let b = both_ok (ref_name_of t.0.0 & tries_in t.0.1) (policy_in t.0.2) m.0 m.1 in
    let a = both_ok (ref_name_of t.0.0) (tries_in t.0.1) m.0.0 b.0 in
    written m.0.0.0 m.0.0.1 m.0.1 v m.2 (ref_name_ok t.0.0 m.0.0.0 a.0) (tries_ok t.0.1 m.0.0.1 a.1)

abbrev AreWellHeads : Result Head ScriptKind → Type 0
AreWellHeads r = (v : Head) → r ≡ Ok v → IsWellHead v

refs_ok : (rest : Option Text) → AreWellHeads (refs_of rest)
refs_ok None v h = let same : head.Refs ≡ v = cc in subst IsWellHead same tt
refs_ok (Some rest) v h = absurd (cc)

collect_ok : (rest : Option Text) → AreWellHeads (collect_of rest)
collect_ok rest =
    made_right IsCutoff IsWellHead head.Collect (taken (one rest) cutoff_of) (λ x w. w)
    (λ cutoff h. let t = taken_ok (one rest) cutoff_of cutoff h in cutoff_ok t.0 cutoff t.2)

-- a cutoff, and which refs are dropped
abbrev AreTerms : ℕ × (Bool × Bool) → Type 0
AreTerms v = IsCutoff v.0

expire_ok : (rest : Option Text) → AreWellHeads (expire_of rest)
unfolding expire_of
expire_ok rest =
    made_right AreTerms IsWellHead (λ v. head.Expire v.0 v.1.0 v.1.1) (taken (two rest) (λ w. cutoff_of w.0 & flags_of w.1)) (λ x w. w)
    (λ v h. let t = taken_ok (two rest) (λ w. cutoff_of w.0 & flags_of w.1) v h in
    let b = both_ok (cutoff_of t.0.0) (flags_of t.0.1) v t.2 in
    cutoff_ok t.0.0 v.0 b.0)

check_ok : (rest : Option Text) → AreWellHeads (check_of rest)
check_ok None v h = let same : head.Check ≡ v = cc in subst IsWellHead same tt
check_ok (Some rest) v h = absurd (cc)

pub head_ok : (word : Text) (rest : Option Text) → AreWellHeads (head_of word rest)
unfolding head_of
head_ok word rest =
    cond_both (word reads codes "write") _ _ AreWellHeads (λ _. made_right IsWellAccess IsWellHead head.Session (write_of rest) (λ x w. w) (write_ok rest)) (λ _.
    cond_both (word reads codes "read") _ _ AreWellHeads (λ _. made_right IsWellAccess IsWellHead head.Session (made access.Read (lone_at rest)) (λ x w. w) (made_right IsWellAt IsWellAccess access.Read (lone_at rest) (λ x w. w) (lone_at_ok rest))) (λ _.
    cond_both (word reads codes "refs") _ _ AreWellHeads (λ _. refs_ok rest) (λ _.
    cond_both (word reads codes "collect") _ _ AreWellHeads (λ _. collect_ok rest) (λ _.
    cond_both (word reads codes "expire") _ _ AreWellHeads (λ _. expire_ok rest) (λ _.
    cond_both (word reads codes "check") _ _ AreWellHeads (λ _. check_ok rest) (λ _ v h. absurd (cc)))))))

-- a task of refs has the word `refs`
abbrev IsNoRefs : Result Head ScriptKind → Type 0
IsNoRefs r = r ≡ Ok head.Refs → ⊥

opens : (r : Result Access ScriptKind) → IsNoRefs (made head.Session r)
opens r h = let m = made_ok head.Session r head.Refs h in let e : head.Session m.0 ≡ head.Refs = m.2 in absurd (cc)

collects : (r : Result ℕ ScriptKind) → IsNoRefs (made head.Collect r)
collects r h = let m = made_ok head.Collect r head.Refs h in let e : head.Collect m.0 ≡ head.Refs = m.2 in absurd (cc)

expires : (rest : Option Text) → IsNoRefs (expire_of rest)
unfolding expire_of
expires rest h =
    let m = made_ok (λ (v : ℕ × (Bool × Bool)). head.Expire v.0 v.1.0 v.1.1) (taken (two rest) (λ w. cutoff_of w.0 & flags_of w.1)) head.Refs h in
    let e : head.Expire m.0.0 m.0.1.0 m.0.1.1 ≡ head.Refs = m.2 in
    absurd (cc)

checks : (rest : Option Text) → IsNoRefs (check_of rest)
checks None h = absurd (cc)
checks (Some rest) h = absurd (cc)

abbrev ReadsRefs : Text → Result Head ScriptKind → Type 0
ReadsRefs word r = r ≡ Ok head.Refs → (word reads codes "refs") ≡ true

pub refs_word : (word : Text) (rest : Option Text) → head_of word rest ≡ Ok head.Refs → (word reads codes "refs") ≡ true
unfolding head_of
refs_word word rest =
    cond_both (word reads codes "write") _ _ (ReadsRefs word) (λ _ h. absurd (opens _ h)) (λ _.
    cond_both (word reads codes "read") _ _ (ReadsRefs word) (λ _ h. absurd (opens _ h)) (λ _.
    cond_both (word reads codes "refs") _ _ (ReadsRefs word) (λ e _. e) (λ _.
    cond_both (word reads codes "collect") _ _ (ReadsRefs word) (λ _ h. absurd (collects (taken (one rest) cutoff_of) h)) (λ _.
    cond_both (word reads codes "expire") _ _ (ReadsRefs word) (λ _ h. absurd (expires rest h)) (λ _.
    cond_both (word reads codes "check") _ _ (ReadsRefs word) (λ _ h. absurd (checks rest h)) (λ _ h. absurd (cc)))))))

-- a client is the number of a task
abbrev IsFrom : ℕ → ℕ → Result ℕ ScriptKind → Type 0
IsFrom i count r = (n : ℕ) → r ≡ Ok n → (i ≤ n) × (n < i + count)

client_ok : (i : ℕ) (tasks : List Task) (name : Text) → IsFrom i (length tasks) (client_from i tasks name)
client_ok i [] name = λ n h. absurd (cc)
client_ok i (t ∷ ts) name =
    cond_both (t.name reads name) (Ok i) (client_from (i + 1) ts name) (IsFrom i (length (t ∷ ts)))
    (λ _ n h. let e : i ≡ n = cc in (omega (arith, e), omega (arith, e)))
    (λ _ n h. let rest = client_ok (i + 1) ts name n h in (omega (arith, rest.0), omega (arith, rest.1)))

-- what isn't refused is read on
word_ok : {A : Type 0} (empty : Bool) (r : Result A ScriptKind) (t : A) → cond empty (Err k.Word) r ≡ Ok t → r ≡ Ok t
word_ok true r t h = absurd (cc)
word_ok false r t h = h

pub turn_ok : (tasks : List Task) (w : Text) (t : Turn) → turn_of tasks w ≡ Ok t → IsWellTurn (length tasks) t
unfolding turn_of
turn_ok tasks w t h =
    let filled = word_ok (length w == 0) (made turn (client_from 1 tasks (cut_of 42 w).0 & count_of (cut_of 42 w).1)) t h in
    let m = made_ok turn (client_from 1 tasks (cut_of 42 w).0 & count_of (cut_of 42 w).1) t filled in
    let b = both_ok (client_from 1 tasks (cut_of 42 w).0) (count_of (cut_of 42 w).1) m.0 m.1 in
    let client = client_ok 1 tasks (cut_of 42 w).0 m.0.0 b.0 in
    let count = count_ok (cut_of 42 w).1 m.0.1 b.1 in
    subst (IsWellTurn (length tasks)) m.2 (record { at_least = client.0; at_most = omega (arith, client.1); some_steps = count.0; few_steps = count.1 })
