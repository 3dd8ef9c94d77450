-- Own: where a line may stand, in view of the script before it and nothing else.
use Rattle.std.specs.Prelude.{ℕ, ◌+◌, ◌-◌, List, [], ◌∷◌, ◌++◌, ◌==◌, nat_lt}
use Rattle.std.specs.Prelude.{if◌then◌else◌, Option, Some, None, is_some, Result, Ok, Err}
use Rattle.std.specs.Prelude.{Bool, true, false, not, ◌&&◌, ◌||◌, length, slice_get, codes}
use Rattle.std.specs.List.{list_any}
use Rattle.std.specs.Str.{is_utf8}
use Rattle.script_values.specs.declared.kinds.ScriptKind.{ScriptKind}
use Rattle.script_values.specs.declared.kinds.ScriptKind.TheVariants as k
use Rattle.script_calls.specs.declared.calls.Call.{Call}
use Rattle.script_calls.specs.declared.calls.Call.TheVariants as call
use Rattle.script_calls.specs.declared.calls.Access.{Access}
use Rattle.script_calls.specs.declared.calls.Access.TheVariants as access
use Rattle.script_calls.specs.declared.calls.Head.{Head}
use Rattle.script_calls.specs.declared.calls.Head.TheVariants as head
use Rattle.play_script.specs.declared.scripts.Line.{Line}
use Rattle.play_script.specs.declared.scripts.Task.{Task}
use Rattle.play_script.specs.declared.scripts.Turn.{Turn}
use Rattle.play_script.specs.declared.scripts.Script.{Script}
use Rattle.script_calls.specs.declared.calls.Class.{Class}
use Rattle.script_calls.specs.declared.calls.Class.TheVariants as c
use Rattle.script_values.specs.Words.{Text, cut_of, pieces, next}
use Rattle.script_values.specs.Parts.{◌&◌, made, each, only_if}
use Rattle.script_values.specs.Values.{◌reads◌, task_name_of, count_of}
use Rattle.script_calls.specs.Forms.{taken, form_of, head_of}

-- how many tasks a script may have
abbrev pub most_tasks : ℕ
most_tasks = 64

abbrev pub last : {A : Type 0} → List A → Option A
last xs = slice_get xs (length xs - 1)

-- the line of turns hasn't come yet
abbrev pub is_open : Script → Bool
is_open s = not (is_some s.turns)

-- a task's head takes the line, and its commit hasn't come yet

abbrev pub class_of : Call → Class
class_of (call.Edit change) = c.Edit
class_of (call.Read look) = c.Read
class_of (call.Commit message) = c.Commit
class_of (call.Ref r) = c.Ref
class_of (call.Prop name value) = c.Edit
class_of call.Lease = c.Read

abbrev pub access_takes : Access → Class → Bool
access_takes (access.Write branch tries policy) c.Ref = false
access_takes (access.Write branch tries policy) _ = true
access_takes (access.Read at) c.Read = true
access_takes (access.Read at) _ = false

abbrev pub head_takes : Head → Class → Bool
head_takes (head.Session opened) class = access_takes opened class
head_takes head.Refs c.Ref = true
head_takes head.Refs _ = false
head_takes (head.Collect cutoff) class = false
head_takes (head.Expire cutoff drop_branches drop_tags) class = false
head_takes head.Check class = false

abbrev pub is_commit_call : Call → Bool
is_commit_call (call.Edit change) = false
is_commit_call (call.Read look) = false
is_commit_call (call.Commit message) = true
is_commit_call (call.Ref r) = false
is_commit_call (call.Prop name value) = false
is_commit_call call.Lease = false

abbrev pub is_commit : Option Line → Bool
is_commit None = false
is_commit (Some l) = is_commit_call l.call

abbrev pub takes : Option Task → Class → Bool
takes None class = false
takes (Some t) class = head_takes t.head class && not (is_commit (last t.body))

-- one more line in the last task

abbrev pub onto_last : Line → List Task → List Task
onto_last l [] = []
onto_last l (t ∷ []) = record t { body = t.body ++ l ∷ [] } ∷ []
onto_last l (t ∷ u ∷ ts) = t ∷ onto_last l (u ∷ ts)

abbrev pub with_line : Script → ℕ → Call → Script
with_line s n call = record s { tasks = onto_last (record { number = n; call = call }) s.tasks }

unfoldable pub body_line : Script → ℕ → Text → Option Text → Result Script ScriptKind
body_line s n first rest =
    let f = form_of first rest in
    made (λ v. with_line s n v.1)
    (only_if (is_open s && takes (last s.tasks) f.class) k.Misplaced & f.call)

-- which lines are passed over: empty ones and comments
abbrev pub is_passed : Text → Bool
is_passed [] = true
is_passed (b ∷ bs) = b == 35

-- a head or the turns, by the first word
abbrev pub ends_task : Text → Bool
ends_task line = ((cut_of 32 line).0 reads codes "task") || ((cut_of 32 line).0 reads codes "turns")

-- a body line follows: the first of these lines that isn't passed over is one
unfoldable pub has_line : List Text → Bool
has_line [] = false
has_line (l ∷ ls) = if is_passed l then has_line ls else not (ends_task l)

-- one more task

abbrev pub is_used : List Task → Text → Bool
is_used tasks name = list_any (λ t. t.name reads name) tasks

abbrev pub with_task : Script → ℕ → Text → Head → Script
with_task s n name head =
    record s { tasks = s.tasks ++ record { name = name; line = n; head = head; body = [] } ∷ [] }

-- a head's place: before the turns, and a task of refs has a line
unfoldable pub is_head_placed : Script → List Text → Text → Bool
is_head_placed s after word = is_open s && (not (word reads codes "refs") || has_line after)

-- what a head asks of the script before it and of the lines behind it
unfoldable pub may_begin : Script → List Text → Text → Text → Result (Unit {0}) ScriptKind
may_begin s after name word = made (λ v. v.1) (
    only_if (is_head_placed s after word) k.Misplaced
    & only_if (nat_lt (length s.tasks) most_tasks) k.Many
    & only_if (not (is_used s.tasks name)) k.Name)

unfoldable pub task_line : Script → ℕ → List Text → Text → Text → Option Text
    → Result Script ScriptKind
task_line s n after name word rest =
    made (λ v. with_task s n v.0.1 v.1)
    (may_begin s after name word & task_name_of name & head_of word rest)

-- `task NAME HEAD`
unfoldable pub head_line : Script → ℕ → List Text → Option Text → Result Script ScriptKind
head_line s n after rest =
    taken (next rest) (λ p. taken (next p.1) (λ q. task_line s n after p.0 q.0 q.1))

-- the turns: each word is `NAME` or `NAME*COUNT`

-- the number of the task of this name
abbrev pub client_from : ℕ → List Task → Text → Result ℕ ScriptKind
client_from i [] name = Err k.Turn
client_from i (t ∷ ts) name = if t.name reads name then Ok i else client_from (i + 1) ts name

abbrev pub turn : ℕ × ℕ → Turn
turn v = record { client = v.0; count = v.1 }

unfoldable pub turn_of : List Task → Text → Result Turn ScriptKind
turn_of tasks w =
    if length w == 0 then Err k.Word
    else made turn (client_from 1 tasks (cut_of 42 w).0 & count_of (cut_of 42 w).1)

-- `turns WORDS`
unfoldable pub turns_line : Script → Option Text → Result Script ScriptKind
turns_line s rest =
    made (λ v. record s { turns = Some v.1 })
    (only_if (is_open s) k.Misplaced & each (turn_of s.tasks) (pieces 32 rest))

-- a line by its first word
unfoldable pub words_line : Script → ℕ → List Text → Text → Option Text → Result Script ScriptKind
words_line s n after first rest =
    if first reads codes "task" then head_line s n after rest else
    (if first reads codes "turns" then turns_line s rest else body_line s n first rest)

-- line n, behind the lines of s and before those after it
unfoldable pub line_at : Script → ℕ → List Text → Text → Result Script ScriptKind
line_at s n after line =
    if not (is_utf8 line) then Err k.Text else
    (if is_passed line then Ok s else words_line s n after (cut_of 32 line).0 (cut_of 32 line).1)
