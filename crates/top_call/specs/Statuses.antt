-- The statuses of the program (own).
use Rattle.std.specs.Prelude.{◌≡◌, ◌⊎◌, ◌↔◌, ℕ, List, [], ◌++◌}
use Rattle.std.specs.Prelude.{Bool, true, false, if◌then◌else◌, codes, decimal}
use Rattle.std.specs.declared.io.ErrorKind.{ErrorKind}
use Rattle.std.specs.declared.io.ErrorKind.TheVariants as K
use Rattle.ice_base.specs.declared.ends.InputFault.{InputFault}
use Rattle.ice_base.specs.declared.ends.InputFault.TheVariants as I
use Rattle.script_values.specs.Parts.{kind_text}
use Rattle.play_script.specs.declared.faults.ScriptFault.{ScriptFault}
use Rattle.play_script.specs.declared.faults.ScriptFault.TheVariants as F
use Rattle.command_words.specs.declared.reading.UsageFault.TheVariants as U
use Rattle.command_words.specs.declared.reading.WordsFault.{WordsFault}
use Rattle.command_words.specs.declared.reading.WordsFault.TheVariants as W
use Rattle.top_call.specs.declared.statuses.Causes.{Causes}
use Rattle.top_call.specs.declared.statuses.Status.{Status}
use Rattle.top_call.specs.declared.statuses.Status.TheVariants as S

-- the number that the process ends with
abbrev pub number_of : Status → ℕ
number_of S.Ok = 0
number_of S.Refused = 1
number_of (S.Usage fault) = 2
number_of (S.Script line kind) = 3
number_of S.ReadFault = 4
number_of S.WriteFault = 5
number_of S.StoreFault = 6
number_of S.NoMemory = 7

-- the line on standard error, without its line feed
abbrev pub line_of : Status → List ℕ
line_of S.Ok = []
line_of S.Refused = []
line_of (S.Usage fault) = codes "icerepo: usage"
line_of (S.Script line kind) =
    codes "icerepo: script line " ++ decimal line ++ codes ": " ++ kind_text kind
line_of S.ReadFault = codes "icerepo: read fault"
line_of S.WriteFault = codes "icerepo: write fault"
line_of S.StoreFault = codes "icerepo: store fault"
line_of S.NoMemory = codes "icerepo: no memory"

-- whether there is such a line
abbrev pub is_told : Status → Bool
is_told S.Ok = false
is_told S.Refused = false
is_told (S.Usage fault) = true
is_told (S.Script line kind) = true
is_told S.ReadFault = true
is_told S.WriteFault = true
is_told S.StoreFault = true
is_told S.NoMemory = true

-- words that say nothing
abbrev pub of_words : WordsFault → Status
of_words (W.Usage fault) = S.Usage fault
of_words W.NoMemory = S.NoMemory

-- an input that couldn't be read
abbrev pub of_input : InputFault → Status
of_input I.Fault = S.ReadFault
of_input I.NoMemory = S.NoMemory

-- a text that is no script
abbrev pub of_script : ScriptFault → Status
of_script (F.At line kind) = S.Script line kind
of_script F.NoMemory = S.NoMemory

-- arguments of the program that couldn't be had
abbrev pub of_arguments : ErrorKind → Status
of_arguments K.OutOfMemory = S.NoMemory
of_arguments _ = S.Usage U.Words

-- arguments are refused for want of memory, or as wrong words
abbrev pub IsUnread : Status → Type 0
IsUnread status = (status ≡ S.NoMemory) ⊎ (status ≡ S.Usage U.Words)

-- the first cause that holds
abbrev pub status_of : Causes → Status
status_of c =
    if c.no_memory then S.NoMemory else
    (if c.store_fault then S.StoreFault else
    (if c.unwritten then S.WriteFault else
    (if c.refused then S.Refused else S.Ok)))

-- where each status of a run comes
pub record Rows (c : Causes) : Type 0 where
  pub no_memory : (status_of c ≡ S.NoMemory) ↔ (c.no_memory ≡ true)
  pub store_fault : (status_of c ≡ S.StoreFault) ↔ ((c.no_memory ≡ false) × (c.store_fault ≡ true))
  pub write_fault : (status_of c ≡ S.WriteFault)
      ↔ ((c.no_memory ≡ false) × (c.store_fault ≡ false) × (c.unwritten ≡ true))
  pub refused : (status_of c ≡ S.Refused)
      ↔ ((c.no_memory ≡ false) × (c.store_fault ≡ false)
      × (c.unwritten ≡ false) × (c.refused ≡ true))
  pub ok : (status_of c ≡ S.Ok)
      ↔ ((c.no_memory ≡ false) × (c.store_fault ≡ false) × (c.unwritten ≡ false)
      × (c.refused ≡ false))

abbrev pub RowsLaw : Type 0
RowsLaw = (c : Causes) → Rows c

-- one status for each number
abbrev pub plain_of : Status → Status → Status
plain_of (S.Usage fault) (S.Usage other) = S.Usage other
plain_of (S.Script line kind) (S.Script other_line other_kind) = S.Script other_line other_kind
plain_of s t = s

-- statuses of one number are the same, but for what `Usage` and `Script` hold
abbrev pub NumbersLaw : Type 0
NumbersLaw = (s t : Status) → number_of s ≡ number_of t → plain_of s t ≡ t
