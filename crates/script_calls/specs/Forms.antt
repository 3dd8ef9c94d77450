-- Own: the forms of heads and body lines, each by its words.
use Rattle.std.specs.Prelude.{ℕ, ℤ, List, if◌then◌else◌, Option, Some, None}
use Rattle.std.specs.Prelude.{option_map, unwrap_or, Result, Ok, Err, codes}
use Rattle.std.specs.Option.{option_or}
use Rattle.repo_read.specs.declared.resolving.At.{At}
use Rattle.repo_read.specs.declared.resolving.At.TheVariants as at
use Rattle.script_values.specs.declared.kinds.ScriptKind.{ScriptKind}
use Rattle.script_values.specs.declared.kinds.ScriptKind.TheVariants as k
use Rattle.script_calls.specs.declared.calls.Call.{Call}
use Rattle.script_calls.specs.declared.calls.Call.TheVariants as call
use Rattle.script_calls.specs.declared.calls.CellBox.{CellBox}
use Rattle.script_calls.specs.declared.calls.EditCall.{EditCall}
use Rattle.script_calls.specs.declared.calls.EditCall.TheVariants as edit
use Rattle.script_calls.specs.declared.calls.ReadCall.{ReadCall}
use Rattle.script_calls.specs.declared.calls.ReadCall.TheVariants as read
use Rattle.script_calls.specs.declared.calls.RefCall.{RefCall}
use Rattle.script_calls.specs.declared.calls.RefCall.TheVariants as ref
use Rattle.script_calls.specs.declared.calls.Access.{Access}
use Rattle.script_calls.specs.declared.calls.Access.TheVariants as access
use Rattle.script_calls.specs.declared.calls.Head.{Head}
use Rattle.script_calls.specs.declared.calls.Head.TheVariants as head
use Rattle.script_calls.specs.declared.calls.Class.{Class}
use Rattle.script_calls.specs.declared.calls.Class.TheVariants as c
use Rattle.script_calls.specs.declared.forms.Form.{Form}
use Rattle.script_values.specs.Words.{Text, next, one, two, three, four, five}
use Rattle.script_values.specs.Parts.{◌&◌, made}
use Rattle.script_values.specs.Values.{◌reads◌, path_of, text_of, ref_name_of, id_of, tries_in}
use Rattle.script_values.specs.Values.{policy_in, numbers_of, fill_of, index_of, bytes_of}
use Rattle.script_values.specs.Values.{byte_of, corner_of, cells_of, cutoff_of, flags_of}
use Rattle.script_values.specs.Arrays.{array_line_text}

-- the words that a form takes, and what it makes of them
abbrev pub taken : {A B : Type 0} → Option A → (A → Result B ScriptKind) → Result B ScriptKind
taken None f = Err k.Word
taken (Some words) f = f words

-- one path, and nothing else
unfoldable pub lone_path : Option Text → Result Text ScriptKind
lone_path rest = taken (one rest) path_of

-- a path and one space, and then a text to the line's end, perhaps empty
unfoldable pub path_and_text : Option Text → Result (Text × Text) ScriptKind
path_and_text rest = taken (next rest) (λ p. path_of p.0 & taken p.1 text_of)

-- the text of an array that is told by its type, shape, chunks and fill value
unfoldable pub array_of : Text → Text → Text → Text → Result Text ScriptKind
array_of data_type shape chunks fill =
    made (λ v. array_line_text v.0.0.0 v.0.0.1 v.0.1 v.1)
    (text_of data_type & numbers_of shape & numbers_of chunks & fill_of fill)

-- a path, and the array that four more words tell
unfoldable pub path_and_array : Option Text → Result (Text × Text) ScriptKind
path_and_array rest = taken (five rest) (λ w. path_of w.0 & array_of w.1 w.2 w.3 w.4)

-- a path and the index of a chunk, and nothing else
unfoldable pub path_and_index : Option Text → Result (Text × List ℕ) ScriptKind
path_and_index rest = taken (two rest) (λ w. path_of w.0 & index_of w.1)

-- a path, the index of a chunk, and bytes
unfoldable pub chunk_and_bytes : Option Text → Result ((Text × List ℕ) × List ℕ) ScriptKind
chunk_and_bytes rest = taken (three rest) (λ w. path_of w.0 & index_of w.1 & bytes_of w.2)

-- a path, the index of a chunk, and one byte
unfoldable pub chunk_and_byte : Option Text → Result ((Text × List ℕ) × ℕ) ScriptKind
chunk_and_byte rest = taken (three rest) (λ w. path_of w.0 & index_of w.1 & byte_of w.2)

-- a box by its array and its two corners
abbrev pub cell_box : (Text × List ℕ) × List ℕ → CellBox
cell_box v = record { path = v.0.0; from = v.0.1; to = v.1 }

abbrev pub box_of : Text → Text → Text → Result CellBox ScriptKind
box_of path from to = made cell_box (path_of path & corner_of from & corner_of to)

-- a box, and nothing else
unfoldable pub lone_box : Option Text → Result CellBox ScriptKind
lone_box rest = taken (three rest) (λ w. box_of w.0 w.1 w.2)

-- a box, and the numbers of its cells
unfoldable pub box_and_cells : Option Text → Result (CellBox × List ℤ) ScriptKind
box_and_cells rest = taken (four rest) (λ w. box_of w.0 w.1 w.2 & cells_of w.3)

-- one key, which is any word, and nothing else
unfoldable pub lone_key : Option Text → Result Text ScriptKind
lone_key rest = taken (one rest) text_of

-- a key and bytes
unfoldable pub key_and_bytes : Option Text → Result (Text × List ℕ) ScriptKind
key_and_bytes rest = taken (two rest) (λ w. text_of w.0 & bytes_of w.1)

-- a name, which is any word, and one space, and then a value to the line's end, perhaps empty
unfoldable pub name_and_value : Option Text → Result (Text × Text) ScriptKind
name_and_value rest = taken (next rest) (λ p. text_of p.0 & taken p.1 text_of)

-- Lines by class: what a line of this first word calls, if the class has such a line.

-- `group PATH`, `array PATH TYPE SHAPE CHUNKS FILL`,
-- `make PATH JSON`, `meta PATH JSON`, `drop PATH`
unfoldable pub node_edit_of : Text → Option Text → Option (Result EditCall ScriptKind)
node_edit_of first rest =
    if first reads codes "group" then Some (made edit.Group (lone_path rest)) else
    (if first reads codes "array"
    then Some (made (λ v. edit.Array v.0 v.1) (path_and_array rest)) else
    (if first reads codes "make" then Some (made (λ v. edit.Make v.0 v.1) (path_and_text rest)) else
    (if first reads codes "meta" then Some (made (λ v. edit.Meta v.0 v.1) (path_and_text rest)) else
    (if first reads codes "drop" then Some (made edit.Drop (lone_path rest)) else None))))

-- `set PATH INDEX HEX`, `fill PATH INDEX BYTE`, `unset PATH INDEX`, `put PATH FROM TO CELLS`
unfoldable pub chunk_edit_of : Text → Option Text → Option (Result EditCall ScriptKind)
chunk_edit_of first rest =
    if first reads codes "set"
    then Some (made (λ v. edit.Set v.0.0 v.0.1 v.1) (chunk_and_bytes rest)) else
    (if first reads codes "fill"
    then Some (made (λ v. edit.Fill v.0.0 v.0.1 v.1) (chunk_and_byte rest)) else
    (if first reads codes "unset"
    then Some (made (λ v. edit.Unset v.0 v.1) (path_and_index rest)) else
    (if first reads codes "put" then Some (made (λ v. edit.Put v.0 v.1) (box_and_cells rest))
    else None)))

-- `zset KEY HEX`, `zdel KEY`
unfoldable pub key_edit_of : Text → Option Text → Option (Result EditCall ScriptKind)
key_edit_of first rest =
    if first reads codes "zset"
    then Some (made (λ v. edit.KeySet v.0 v.1) (key_and_bytes rest)) else
    (if first reads codes "zdel" then Some (made edit.KeyErase (lone_key rest)) else None)

abbrev pub edit_of : Text → Option Text → Option (Result EditCall ScriptKind)
edit_of first rest =
    option_or (node_edit_of first rest)
    (option_or (chunk_edit_of first rest) (key_edit_of first rest))

-- `list PATH`, `get PATH`, `chunk PATH INDEX`, `cells PATH FROM TO`, `zget KEY`
unfoldable pub read_of : Text → Option Text → Option (Result ReadCall ScriptKind)
read_of first rest =
    if first reads codes "list" then Some (made read.List (lone_path rest)) else
    (if first reads codes "get" then Some (made read.Get (lone_path rest)) else
    (if first reads codes "chunk"
    then Some (made (λ v. read.Chunk v.0 v.1) (path_and_index rest)) else
    (if first reads codes "cells" then Some (made read.Cells (lone_box rest)) else
    (if first reads codes "zget" then Some (made read.KeyGet (lone_key rest)) else None))))

-- `commit MESSAGE`: the rest of the line, perhaps empty
unfoldable pub commit_of : Text → Option Text → Option (Result Text ScriptKind)
commit_of first rest =
    if first reads codes "commit" then Some (taken rest text_of) else None

-- `prop NAME VALUE`
unfoldable pub prop_of : Text → Option Text → Option (Result (Text × Text) ScriptKind)
prop_of first rest = if first reads codes "prop" then Some (name_and_value rest) else None

-- nothing is left of a line
abbrev pub nothing : Option Text → Result (Unit {0}) ScriptKind
nothing None = Ok tt
nothing (Some rest) = Err k.Word

-- `lease`, and nothing else
unfoldable pub lease_of : Text → Option Text → Option (Result (Unit {0}) ScriptKind)
lease_of first rest = if first reads codes "lease" then Some (nothing rest) else None

-- Names of snapshots, and calls on refs.

-- `branch NAME`, `tag NAME` or `id ID`
unfoldable pub at_of : Text → Text → Result At ScriptKind
at_of word w =
    if word reads codes "branch" then made at.Branch (ref_name_of w) else
    (if word reads codes "tag" then made at.Tag (ref_name_of w) else
    (if word reads codes "id" then made at.Snapshot (id_of w) else Err k.Word))

-- what names a snapshot, and nothing else
unfoldable pub lone_at : Option Text → Result At ScriptKind
lone_at rest = taken (two rest) (λ w. at_of w.0 w.1)

-- the name of a ref, and nothing else
unfoldable pub lone_name : Option Text → Result Text ScriptKind
lone_name rest = taken (one rest) ref_name_of

-- the name of a ref, and what names a snapshot
unfoldable pub name_and_at : Option Text → Result (Text × At) ScriptKind
name_and_at rest = taken (three rest) (λ w. ref_name_of w.0 & at_of w.1 w.2)

-- `branch NAME AT`, `reset NAME AT`, `unbranch NAME`, `tag NAME AT`, `untag NAME`, `log AT`
unfoldable pub ref_of : Text → Option Text → Option (Result RefCall ScriptKind)
ref_of first rest =
    if first reads codes "branch" then Some (made (λ v. ref.Branch v.0 v.1) (name_and_at rest)) else
    (if first reads codes "reset" then Some (made (λ v. ref.Reset v.0 v.1) (name_and_at rest)) else
    (if first reads codes "unbranch" then Some (made ref.Unbranch (lone_name rest)) else
    (if first reads codes "tag" then Some (made (λ v. ref.Tag v.0 v.1) (name_and_at rest)) else
    (if first reads codes "untag" then Some (made ref.Untag (lone_name rest)) else
    (if first reads codes "log" then Some (made ref.Log (lone_at rest)) else None)))))

-- lines of a class
abbrev pub form : {A : Type 0} → Class → (A → Call) → Option (Result A ScriptKind) → Option Form
form class call words = option_map (λ words. record { class = class; call = made call words }) words

-- a line of no class is refused as an edit is
abbrev pub no_form : Form
no_form = record { class = c.Edit; call = Err k.Word }

-- a body line by its first word
unfoldable pub form_of : Text → Option Text → Form
form_of first rest =
    unwrap_or (form c.Edit call.Edit (edit_of first rest))
    (unwrap_or (form c.Read call.Read (read_of first rest))
    (unwrap_or (form c.Commit call.Commit (commit_of first rest))
    (unwrap_or (form c.Ref call.Ref (ref_of first rest))
    (unwrap_or (form c.Edit (λ v. call.Prop v.0 v.1) (prop_of first rest))
    (unwrap_or (form c.Read (λ _. call.Lease) (lease_of first rest)) no_form)))))

-- Heads.

-- `write BRANCH TRIES POLICY`
unfoldable pub write_of : Option Text → Result Access ScriptKind
write_of rest =
    taken (three rest)
    (λ w. made (λ v. access.Write v.0.0 v.0.1 v.1) (ref_name_of w.0 & tries_in w.1 & policy_in w.2))

-- `refs`, and nothing else
abbrev pub refs_of : Option Text → Result Head ScriptKind
refs_of None = Ok head.Refs
refs_of (Some rest) = Err k.Word

-- `collect CUTOFF`
abbrev pub collect_of : Option Text → Result Head ScriptKind
collect_of rest = made head.Collect (taken (one rest) cutoff_of)

-- `expire CUTOFF FLAGS`
unfoldable pub expire_of : Option Text → Result Head ScriptKind
expire_of rest =
    made (λ v. head.Expire v.0 v.1.0 v.1.1) (taken (two rest) (λ w. cutoff_of w.0 & flags_of w.1))

-- `check`, and nothing else
abbrev pub check_of : Option Text → Result Head ScriptKind
check_of None = Ok head.Check
check_of (Some rest) = Err k.Word

-- a head by its word
unfoldable pub head_of : Text → Option Text → Result Head ScriptKind
head_of word rest =
    if word reads codes "write" then made head.Session (write_of rest) else
    (if word reads codes "read" then made head.Session (made access.Read (lone_at rest)) else
    (if word reads codes "refs" then refs_of rest else
    (if word reads codes "collect" then collect_of rest else
    (if word reads codes "expire" then expire_of rest else
    (if word reads codes "check" then check_of rest else Err k.Word)))))
