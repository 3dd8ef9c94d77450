-- What the top call reads, does and writes (own).
use Rattle.std.specs.Prelude.{◌≡◌, ◌⊎◌, ℕ, List, Some, Ok, Err}
use Rattle.ice_base.specs.Ends.{InputAt, OutputAt, IsInput, Rose, WroteWhole, WroteLess}
use Rattle.script_values.specs.declared.kinds.ScriptKind.{ScriptKind}
use Rattle.play_script.specs.declared.scripts.Script.{Script}
use Rattle.play_script.specs.Reading.{script_of}
use Rattle.store_api.specs.Callers.{View}
use Rattle.grow_script.specs.Script.{script_text}
use Rattle.cells_script.specs.Script.{cells_text}
use Rattle.command_words.specs.declared.reading.Command.{Command}
use Rattle.command_words.specs.declared.reading.Command.TheVariants as C
use Rattle.top_call.specs.declared.statuses.Status.{Status}
use Rattle.top_call.specs.declared.statuses.Status.TheVariants as S

-- the longest input that is read: one byte more than a script may have
abbrev pub most_input : ℕ
most_input = 1048577

-- ---- the script that a command plays
-- its text: by `cells` the one that is made from the words, by `grow` the one that is made
-- from the number, else the input
abbrev pub IsSource : Command → InputAt → InputAt → List ℕ → Type 0
IsSource (C.Cells box) old new text = text ≡ cells_text box.branch box.path box.from box.to
IsSource (C.Grow tasks) old new text = text ≡ script_text tasks
IsSource command old new text = IsInput most_input old new text

-- the input couldn't be read; the text that `cells` or `grow` makes is no input
abbrev pub HasFailed : Command → InputAt → InputAt → Type 0
HasFailed (C.Cells box) old new = ⊥
HasFailed (C.Grow tasks) old new = ⊥
HasFailed command old new = Rose old.faults new.faults

-- the text is that of this script
pub record HasScript (command : Command) (old new : InputAt) (script : Script) : Type 0 where
  pub text : List ℕ
  pub source : IsSource command old new text
  pub reads : script_of text ≡ Ok script

-- the first line of the text that is refused
pub record HasFault (command : Command) (old new : InputAt) (line : ℕ)
    (kind : ScriptKind) : Type 0 where
  pub text : List ℕ
  pub source : IsSource command old new text
  pub reads : script_of text ≡ Err (line, kind)

-- why there is no script: the source failed, or a line is refused; want of memory is free
abbrev pub HasNone : Command → InputAt → InputAt → Status → Type 0
HasNone command old new S.ReadFault = HasFailed command old new
HasNone command old new (S.Script line kind) = HasFault command old new line kind
HasNone command old new S.NoMemory = Unit {0}
HasNone command old new _ = ⊥

-- nothing was done, and nothing written
pub record IsUntouched (store_old store_new : View) (out_old out_new : OutputAt) : Type 0 where
  pub store : store_new ≡ store_old
  pub out : out_new ≡ out_old

-- ---- what each status says of a command that prints a text
-- all of the text was written, or not all of it and the sink failed;
-- without memory nothing was written
abbrev pub SayEnds : List ℕ → OutputAt → OutputAt → Status → Type 0
SayEnds text old new S.Ok = WroteWhole old new text
SayEnds text old new S.WriteFault = WroteLess old new text
SayEnds text old new S.NoMemory = new ≡ old
SayEnds text old new _ = ⊥

-- and nothing was read or done
abbrev pub Says : List ℕ → InputAt → InputAt → View → View → OutputAt → OutputAt → Status → Type 0
Says text in_old in_new s t out_old out_new status =
    (in_new ≡ in_old) × (t ≡ s) × SayEnds text out_old out_new status

-- ---- which statuses there can be
-- where the source tells its bytes and a line of them is refused, the status is that line,
-- unless the source failed or memory was wanting; and so it is where a line of the text that
-- `cells` or `grow` makes is refused
abbrev pub TellsRefused : Command → InputAt → Status → Type 0
TellsRefused C.Play input status =
    (bytes : List ℕ) (line : ℕ) (kind : ScriptKind) → input.left ≡ Some bytes
    → script_of bytes ≡ Err (line, kind)
    → (status ≡ S.Script line kind) ⊎ ((status ≡ S.ReadFault) ⊎ (status ≡ S.NoMemory))
TellsRefused (C.Cells box) input status =
    (line : ℕ) (kind : ScriptKind)
    → script_of (cells_text box.branch box.path box.from box.to) ≡ Err (line, kind)
    → (status ≡ S.Script line kind) ⊎ (status ≡ S.NoMemory)
TellsRefused (C.Grow tasks) input status =
    (line : ℕ) (kind : ScriptKind) → script_of (script_text tasks) ≡ Err (line, kind)
    → (status ≡ S.Script line kind) ⊎ (status ≡ S.NoMemory)
TellsRefused command input status = Unit {0}

-- no count of faults rose
pub record IsCalm (in_old in_new : InputAt) (s t : View) (out_old out_new : OutputAt) : Type 0 where
  pub input : ¬ Rose in_old.faults in_new.faults
  pub store : ¬ Rose s.faults t.faults
  pub output : ¬ Rose out_old.faults out_new.faults

-- a status that needs no fault
abbrev pub IsFaultless : Status → Type 0
IsFaultless S.Ok = Unit {0}
IsFaultless S.Refused = Unit {0}
IsFaultless (S.Script line kind) = Unit {0}
IsFaultless S.NoMemory = Unit {0}
IsFaultless _ = ⊥
