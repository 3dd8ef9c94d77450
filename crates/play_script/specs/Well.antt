-- Own: what holds of every script that was read.
use Rattle.std.specs.Prelude.{◌≡◌, ◌≢◌, ℕ, ℤ, ◌+◌, ◌^◌, ◌<◌, ◌≤◌, List, [], ◌∷◌}
use Rattle.std.specs.Prelude.{length, map, IfSome, IsTrue, All, AllPairs}
use Rattle.ice_base.specs.Names.{IsRefName}
use Rattle.ice_base.specs.Lists.{IsBytes}
use Rattle.std.specs.Str.{is_utf8}
use Rattle.zarr_path.specs.Paths.{is_path}
use Rattle.zarr_path.specs.Indices.{is_index}
use Rattle.repo_read.specs.declared.resolving.At.{At}
use Rattle.repo_read.specs.declared.resolving.At.TheVariants as at
use Rattle.script_calls.specs.declared.calls.Call.{Call}
use Rattle.script_calls.specs.declared.calls.Call.TheVariants as call
use Rattle.script_calls.specs.declared.calls.CellBox.{CellBox}
use Rattle.script_calls.specs.declared.calls.EditCall.{EditCall}
use Rattle.script_calls.specs.declared.calls.EditCall.TheVariants as edit
use Rattle.script_calls.specs.declared.calls.ReadCall.{ReadCall}
use Rattle.script_calls.specs.declared.calls.ReadCall.TheVariants as read
use Rattle.script_calls.specs.declared.calls.RefCall.{RefCall}
use Rattle.script_calls.specs.declared.calls.RefCall.TheVariants as ref
use Rattle.script_calls.specs.declared.calls.Access.{Access}
use Rattle.script_calls.specs.declared.calls.Access.TheVariants as access
use Rattle.script_calls.specs.declared.calls.Head.{Head}
use Rattle.script_calls.specs.declared.calls.Head.TheVariants as head
use Rattle.play_script.specs.declared.scripts.Line.{Line}
use Rattle.play_script.specs.declared.scripts.Task.{Task}
use Rattle.play_script.specs.declared.scripts.Turn.{Turn}
use Rattle.play_script.specs.declared.scripts.Script.{Script}
use Rattle.script_values.specs.Words.{Text}
use Rattle.script_values.specs.Values.{is_task_name, is_signed}
use Rattle.play_script.specs.Places.{most_tasks, class_of, head_takes, is_commit_call}
use Rattle.play_script.specs.Reading.{most_bytes}

-- the values of a call are of their grammars
abbrev pub IsWellPath : Text → Type 0
IsWellPath path = IsTrue (is_path path) × IsTrue (is_utf8 path)

-- any text of the language
abbrev pub IsWellText : Text → Type 0
IsWellText text = IsTrue (is_utf8 text)

-- an index has numbers of 32 bits
abbrev pub IsWellIndex : List ℕ → Type 0
IsWellIndex index = IsTrue (is_index index)

-- a corner of a box has numbers of 64 bits
abbrev pub IsWellCorner : List ℕ → Type 0
IsWellCorner corner = All (λ n. n < 2 ^ 64) corner

abbrev pub IsWellBox : CellBox → Type 0
IsWellBox place = IsWellPath place.path × IsWellCorner place.from × IsWellCorner place.to

-- the numbers of cells have 128 bits, with a sign
abbrev pub AreWellCells : List ℤ → Type 0
AreWellCells numbers = All (λ z. IsTrue (is_signed z)) numbers

abbrev pub IsWellEdit : EditCall → Type 0
IsWellEdit (edit.Group path) = IsWellPath path
IsWellEdit (edit.Array path text) = IsWellPath path × IsWellText text
IsWellEdit (edit.Make path text) = IsWellPath path × IsWellText text
IsWellEdit (edit.Meta path text) = IsWellPath path × IsWellText text
IsWellEdit (edit.Drop path) = IsWellPath path
IsWellEdit (edit.Set path index bytes) = IsWellPath path × IsWellIndex index × IsBytes bytes
IsWellEdit (edit.Fill path index byte) = IsWellPath path × IsWellIndex index × (byte < 256)
IsWellEdit (edit.Unset path index) = IsWellPath path × IsWellIndex index
IsWellEdit (edit.Put place numbers) = IsWellBox place × AreWellCells numbers
IsWellEdit (edit.KeySet key bytes) = IsWellText key × IsBytes bytes
IsWellEdit (edit.KeyErase key) = IsWellText key

abbrev pub IsWellRead : ReadCall → Type 0
IsWellRead (read.List path) = IsWellPath path
IsWellRead (read.Get path) = IsWellPath path
IsWellRead (read.Chunk path index) = IsWellPath path × IsWellIndex index
IsWellRead (read.Cells place) = IsWellBox place
IsWellRead (read.KeyGet key) = IsWellText key

-- refs go by their names
abbrev pub IsWellAt : At → Type 0
IsWellAt (at.Branch name) = IsRefName name
IsWellAt (at.Tag name) = IsRefName name
IsWellAt (at.Snapshot own) = Unit {0}

abbrev pub IsWellRef : RefCall → Type 0
IsWellRef (ref.Branch name at) = IsRefName name × IsWellAt at
IsWellRef (ref.Reset name at) = IsRefName name × IsWellAt at
IsWellRef (ref.Unbranch name) = IsRefName name
IsWellRef (ref.Tag name at) = IsRefName name × IsWellAt at
IsWellRef (ref.Untag name) = IsRefName name
IsWellRef (ref.Log at) = IsWellAt at

abbrev pub IsWellCall : Call → Type 0
IsWellCall (call.Edit change) = IsWellEdit change
IsWellCall (call.Read look) = IsWellRead look
IsWellCall (call.Commit message) = IsWellText message
IsWellCall (call.Ref r) = IsWellRef r
IsWellCall (call.Prop name value) = IsWellText name × IsWellText value
IsWellCall call.Lease = Unit {0}

-- a number of a line, which is at most that of the first byte too many
abbrev pub IsLineNumber : ℕ → Type 0
IsLineNumber n = (1 ≤ n) × (n ≤ most_bytes + 1)

pub record IsWellLine (l : Line) : Type 0 where
  pub number : IsLineNumber l.number
  pub call : IsWellCall l.call

-- a commit has no line behind it
abbrev pub EndsAtCommit : List Line → Type 0
EndsAtCommit [] = Unit {0}
EndsAtCommit (l ∷ ls) = (IsTrue (is_commit_call l.call) → ls ≡ []) × EndsAtCommit ls

-- a commit is carried over those of others at most 9 times
abbrev pub IsWellAccess : Access → Type 0
IsWellAccess (access.Write branch tries policy) = IsRefName branch × (tries ≤ 9)
IsWellAccess (access.Read at) = IsWellAt at

abbrev pub IsWellHead : Head → Type 0
IsWellHead (head.Session opened) = IsWellAccess opened
IsWellHead head.Refs = Unit {0}
IsWellHead (head.Collect cutoff) = cutoff < 2 ^ 64
IsWellHead (head.Expire cutoff drop_branches drop_tags) = cutoff < 2 ^ 64
IsWellHead head.Check = Unit {0}

-- a task of refs has a line
abbrev pub HasItsLine : Head → List Line → Type 0
HasItsLine (head.Session opened) body = Unit {0}
HasItsLine head.Refs body = body ≢ []
HasItsLine (head.Collect cutoff) body = Unit {0}
HasItsLine (head.Expire cutoff drop_branches drop_tags) body = Unit {0}
HasItsLine head.Check body = Unit {0}

-- the lines are of classes that the head takes
abbrev pub AreTaken : Head → List Line → Type 0
AreTaken h body = All (λ l. IsTrue (head_takes h (class_of l.call))) body

pub record IsWellTask (t : Task) : Type 0 where
  pub name : IsTrue (is_task_name t.name)
  pub line : IsLineNumber t.line
  pub head : IsWellHead t.head
  pub body : All IsWellLine t.body
  pub taken : AreTaken t.head t.body
  pub commit : EndsAtCommit t.body
  pub some : HasItsLine t.head t.body

-- a turn of one of so many clients
pub record IsWellTurn (clients : ℕ) (t : Turn) : Type 0 where
  pub at_least : 1 ≤ t.client
  pub at_most : t.client ≤ clients
  pub some_steps : 1 ≤ t.count
  pub few_steps : t.count ≤ 9999

pub record IsWell (s : Script) : Type 0 where
  pub few : length s.tasks ≤ most_tasks
  pub tasks : All IsWellTask s.tasks
  pub names : AllPairs (λ a b. a ≢ b) (map (λ t. t.name) s.tasks)
  pub turns : IfSome s.turns (All (IsWellTurn (length s.tasks)))
