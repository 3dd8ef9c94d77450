-- What is told of words that are no command (own).
use Rattle.std.specs.Prelude.{◌≡◌, ◌++◌, ℕ, List, [], ◌∷◌, drop, slice_get, codes, string_bytes}
use Rattle.std.specs.Prelude.{Option, Some, None, option_map, IfSome, Result, Ok, Err, not}
use Rattle.std.specs.Fmt.{debug_str, ◌++?◌}
use Rattle.std.specs.List.{find}
use Rattle.clap.specs.Words.{Text}
use Rattle.command_words.specs.declared.complaints.Complaint.{Complaint}
use Rattle.command_words.specs.declared.complaints.Complaint.TheVariants as K
use Rattle.command_words.specs.declared.reading.Command.{Command}
use Rattle.command_words.specs.declared.reading.UsageFault.{UsageFault}
use Rattle.command_words.specs.declared.reading.UsageFault.TheVariants.{NoCommand, Unknown, Words}
use Rattle.command_words.specs.declared.reading.BoxWords.{BoxWords}
use Rattle.command_words.specs.Words.{box_in, is_one}

-- the fault of words that are no command
abbrev pub fault_in : Result Command UsageFault → Option UsageFault
fault_in (Ok command) = None
fault_in (Err fault) = Some fault

-- of which fault a complaint is
abbrev pub fault_of : Complaint → UsageFault
fault_of K.NoCommand = NoCommand
fault_of (K.Unknown word) = Unknown
fault_of (K.Behind word) = Words
fault_of (K.NotOneWord word) = Words
fault_of (K.Refused says) = Words

-- of the four words of `cells` the first that is no word of a script
abbrev pub first_strange : BoxWords → Option Text
first_strange box =
    find (λ word. not (is_one word)) (box.branch ∷ box.path ∷ box.from ∷ box.to ∷ [])

-- the word that a complaint names is the first one; the one behind it; the first of the
-- four that is no word of a script
abbrev pub Names : List Text → Complaint → Type 0
Names words K.NoCommand = Unit {0}
Names words (K.Unknown word) = slice_get words 0 ≡ Some word.now
Names words (K.Behind word) = slice_get (drop 1 words) 0 ≡ Some word.now
Names words (K.NotOneWord word) = first_strange (box_in words) ≡ Some word.now
Names words (K.Refused says) = Unit {0}

-- there is a complaint exactly where the words have a fault: it is of
-- that fault, and names its word
abbrev pub Complains : List Text → Result Command UsageFault → Option Complaint → Type 0
Complains words said complaint =
    (fault_in said ≡ option_map fault_of complaint) × IfSome complaint (Names words)

-- ---- texts
-- where help is
abbrev pub help_line : List ℕ
help_line = codes "\n\nFor more information, try 'icerepo --help'.\n"

-- what is wrong, with the word in quotes, and where help is; what clap says stays as it is
abbrev pub complaint_text : Complaint → Option (List ℕ)
complaint_text K.NoCommand = Some (codes "error: a command is missing" ++ help_line)
complaint_text (K.Unknown word) =
    Some (codes "error: unknown command ") ++? debug_str word.now ++? Some help_line
complaint_text (K.Behind word) =
    Some (codes "error: unexpected word ") ++? debug_str word.now ++? Some help_line
complaint_text (K.NotOneWord word) =
    Some (codes "error: ") ++? debug_str word.now ++? Some
    (codes " holds a space or a line feed" ++ help_line)
complaint_text (K.Refused says) = Some (string_bytes says)
