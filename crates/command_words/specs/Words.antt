-- What the words of the command line say (own).
use Rattle.std.specs.Prelude.{◌≡◌, ◌≤◌, ◌==◌, ◌&&◌, ◌||◌, not, ℕ, Bool, List, [], ◌∷◌}
use Rattle.std.specs.Prelude.{drop, Option, Some, None, unwrap_or, Result, Ok, Err}
use Rattle.std.specs.Prelude.{MatchResult, true, false, bytes_eq, codes, if◌then◌else◌}
use Rattle.std.specs.List.{list_all, list_any}
use Rattle.clap.specs.Words.{Text, Kinds}
use Rattle.clap.specs.declared.error.kind.ErrorKind.TheVariants.{DisplayHelp}
use Rattle.command_words.specs.declared.reading.BoxWords.{BoxWords}
use Rattle.command_words.specs.declared.reading.Command.{Command}
use Rattle.command_words.specs.declared.reading.Command.TheVariants as C
use Rattle.command_words.specs.declared.reading.Topic.{Topic}
use Rattle.command_words.specs.declared.reading.Topic.TheVariants as T
use Rattle.command_words.specs.declared.reading.Name.{Name}
use Rattle.command_words.specs.declared.reading.Name.TheVariants as N
use Rattle.command_words.specs.declared.reading.UsageFault.{UsageFault}
use Rattle.command_words.specs.declared.reading.UsageFault.TheVariants.{NoCommand, Unknown, Words}
use Rattle.command_words.specs.declared.reading.WordsFault.{WordsFault}
use Rattle.command_words.specs.declared.reading.WordsFault.TheVariants as F
use Rattle.command_words.specs.declared.reading.Location.{Location}
use Rattle.command_words.specs.declared.reading.Location.TheVariants as P
use Rattle.command_words.specs.Parsers.{play, cells, grow, check, mirror, kinds_of}
use Rattle.command_words.specs.Parsers.{dir_in, word_in, path_in, count_in}

-- a word that asks for help; for the version
abbrev pub asks_help : Text → Bool
asks_help word = bytes_eq word (codes "--help") || bytes_eq word (codes "-h")

abbrev pub asks_version : Text → Bool
asks_version word = bytes_eq word (codes "--version") || bytes_eq word (codes "-V")

-- what the first word names
abbrev pub name_of : Text → Option Name
name_of word =
    if bytes_eq word (codes "play") then Some N.Play else
    (if bytes_eq word (codes "cells") then Some N.Cells else
    (if bytes_eq word (codes "grow") then Some N.Grow else
    (if bytes_eq word (codes "check") then Some N.Check else
    (if bytes_eq word (codes "mirror") then Some N.Mirror else
    (if asks_help word then Some N.Help else
    (if asks_version word then Some N.Version else None))))))

-- clap takes the words, and this is what they say; they ask for help;
-- or clap refuses them otherwise
abbrev pub answer_of : Kinds → Result Command UsageFault → Topic → Result Command UsageFault
answer_of [] said topic = said
answer_of (DisplayHelp ∷ kinds) said topic = Ok (C.Help topic)
answer_of (kind ∷ kinds) said topic = Err Words

-- no word stands behind
abbrev pub alone : List Text → Command → Result Command UsageFault
alone [] command = Ok command
alone (word ∷ others) command = Err Words

-- a word without a space and a line feed is one word of a script
abbrev pub is_one : Text → Bool
is_one word = list_all (λ b. not (b == 32) && not (b == 10)) word

abbrev pub are_ones : BoxWords → Bool
are_ones box = is_one box.branch && is_one box.path && is_one box.from && is_one box.to

-- the four words of `cells`
abbrev pub box_in : List Text → BoxWords
box_in words = record {
  branch = word_in (codes "branch") words;
  path = word_in (codes "path") words;
  from = word_in (codes "from") words;
  to = word_in (codes "to") words;
}

abbrev pub box_said : BoxWords → Result Command UsageFault
box_said box = if are_ones box then Ok (C.Cells box) else Err Words

abbrev pub count_of : List Text → ℕ
count_of words = unwrap_or (count_in words) 0

abbrev pub command_named : Option Name → List Text → Result Command UsageFault
command_named None words = Err Unknown
command_named (Some N.Play) words = answer_of (kinds_of play words) (Ok C.Play) T.Play
command_named (Some N.Cells) words =
    answer_of (kinds_of cells words) (box_said (box_in words)) T.Cells
command_named (Some N.Grow) words =
    answer_of (kinds_of grow words) (Ok (C.Grow (count_of words))) T.Grow
command_named (Some N.Check) words = answer_of (kinds_of check words) (Ok C.Check) T.Check
command_named (Some N.Mirror) words = answer_of (kinds_of mirror words) (Err Unknown) T.Mirror
command_named (Some N.Help) words = alone (drop 1 words) (C.Help T.Program)
command_named (Some N.Version) words = alone (drop 1 words) C.Version

-- The command that the words after the program's name say. `mirror FROM TO` is none: it is for two
-- directories, and no command over one.
abbrev pub command_of : List Text → Result Command UsageFault
command_of [] = Err NoCommand
command_of (first ∷ others) = command_named (name_of first) (first ∷ others)

-- clap reads the words of these commands, and takes memory for it
abbrev pub is_parsed : Option Name → Bool
is_parsed None = false
is_parsed (Some N.Play) = true
is_parsed (Some N.Cells) = true
is_parsed (Some N.Grow) = true
is_parsed (Some N.Check) = true
is_parsed (Some N.Mirror) = true
is_parsed (Some N.Help) = false
is_parsed (Some N.Version) = false

abbrev pub asks_clap : List Text → Bool
asks_clap [] = false
asks_clap (first ∷ others) = is_parsed (name_of first)

-- what is said is this; want of memory is free
abbrev pub IsFault : Result Command UsageFault → WordsFault → Type 0
IsFault said (F.Usage fault) = said ≡ Err fault
IsFault said F.NoMemory = Unit {0}

abbrev pub IsSaid : Result Command UsageFault → Result Command WordsFault → Type 0
IsSaid said result = MatchResult result (λ command. said ≡ Ok command) (IsFault said)

-- a number of tasks is one from 1 to 60
abbrev pub IsInRange : Command → Type 0
IsInRange (C.Grow count) = (1 ≤ count) × (count ≤ 60)
IsInRange _ = Unit {0}

-- ---- where the repository lies
-- what `--dir` gives, where clap takes the words
abbrev pub dir_where : Kinds → Option Text → Option Text
dir_where [] dir = dir
dir_where (kind ∷ kinds) dir = None

-- what it gives beside the words of `cells`, where those are words of a script
abbrev pub dir_beside : BoxWords → Option Text → Option Text
dir_beside box dir = if are_ones box then dir else None

abbrev pub box_dir : List Text → Option Text
box_dir words = dir_beside (box_in words) (dir_in cells words)

abbrev pub dir_named : Option Name → List Text → Option Text
dir_named (Some N.Play) words = dir_where (kinds_of play words) (dir_in play words)
dir_named (Some N.Cells) words = dir_where (kinds_of cells words) (box_dir words)
dir_named (Some N.Grow) words = dir_where (kinds_of grow words) (dir_in grow words)
dir_named (Some N.Check) words = dir_where (kinds_of check words) (dir_in check words)
dir_named _ words = None

-- the path of the directory: there is one exactly where the first word names a command, clap takes
-- the words, those of `cells` are words of a script, and `--dir` is among them
abbrev pub dir_of : List Text → Option Text
dir_of [] = None
dir_of (first ∷ others) = dir_named (name_of first) (first ∷ others)

abbrev pub path_of : Location → Option Text
path_of P.Memory = None
path_of (P.Dir path) = Some path.now
path_of (P.Pair from to) = None

-- the two words of `mirror`
abbrev pub pair_in : List Text → Text × Text
pair_in words = (path_in (codes "from") words, path_in (codes "to") words)

-- these, where clap takes the words
abbrev pub pair_where : Kinds → Text × Text → Option (Text × Text)
pair_where [] pair = Some pair
pair_where (kind ∷ kinds) pair = None

abbrev pub pair_named : Option Name → List Text → Option (Text × Text)
pair_named (Some N.Mirror) words = pair_where (kinds_of mirror words) (pair_in words)
pair_named _ words = None

-- the paths of two directories: they are told exactly where the first word is
-- `mirror` and clap takes the words
abbrev pub pair_of : List Text → Option (Text × Text)
pair_of [] = None
pair_of (first ∷ others) = pair_named (name_of first) (first ∷ others)

abbrev pub paths_of : Location → Option (Text × Text)
paths_of P.Memory = None
paths_of (P.Dir path) = None
paths_of (P.Pair from to) = Some (from.now, to.now)

-- ---- how far a check is
-- whether one of the words is `--progress`
abbrev pub has_progress : List Text → Bool
has_progress words = list_any (λ word. bytes_eq word (codes "--progress")) words

-- whether the words ask that it is told: the first one is `check`,
-- and `--progress` stands behind it
abbrev pub shows_progress : List Text → Bool
shows_progress [] = false
shows_progress (first ∷ others) = bytes_eq first (codes "check") && has_progress others
