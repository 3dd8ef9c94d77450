-- What the code's own functions say of clap's answers; no public contract cites this.
use Rattle.std.specs.Prelude.{IfOk, Result, option_map, ℕ, ◌≡◌, ◌≢◌, ◌≤◌}
use Rattle.std.specs.Prelude.{List, [], ◌∷◌, Option, Some, None, true, false, codes}
use Rattle.clap.specs.Words.{App, Text, app_of, IsPlain}
use Rattle.clap.specs.declared.builder.command.Command.TheViews.{out-Command}
use Rattle.clap.specs.Facts.{args_of, least_values}
use Rattle.clap.specs.declared.builder.arg.Arg.{Arg}
use Rattle.clap.specs.declared.builder.command.Command.{Command}
use Rattle.clap.specs.declared.builder.action.ArgAction.TheVariants.{Set}
use Rattle.clap.specs.declared.error.kind.ErrorKind.{ErrorKind}
use Rattle.clap.specs.declared.error.kind.ErrorKind.TheVariants.{DisplayHelp, OutOfMemory}
use Rattle.command_words.specs.Parsers.{cells, grow, mirror, kinds_of}
use Rattle.command_words.specs.Parsers.{dir_in, count_in, count_parser}
use Rattle.std.specs.Borrow.{Bor}
use Rattle.std.specs.declared.alloc.AllocError.{AllocError}
use Rattle.command_words.specs.Words.{box_in, dir_where, pair_in}
use Rattle.command_words.specs.declared.reading.BoxWords.{BoxWords}
use Rattle.command_words.specs.declared.parsers.CellsGiven.{CellsGiven}
use Rattle.command_words.specs.declared.parsers.MirrorWords.{MirrorWords}
use Rattle.command_words.specs.declared.parsers.Refusal.{Refusal}
use Rattle.command_words.specs.declared.parsers.Refusal.TheVariants as R

-- clap takes the words, and this is what `--dir` gives
abbrev pub IsTaken : App → List Text → Option Text → Type 0
IsTaken a words dir = (kinds_of a words ≡ []) × (dir ≡ dir_in a words)

-- ... and this is the number
abbrev pub IsGrown : List Text → ℕ → Option Text → Type 0
IsGrown words count dir =
    IsTaken grow words dir × (count_in words ≡ Some count) × (1 ≤ count) × (count ≤ 60)

-- ... and these are the four words
abbrev pub box_seen : CellsGiven → BoxWords
box_seen g = record { branch = g.branch.now; path = g.path.now; from = g.from.now; to = g.to.now }

abbrev pub IsBox : List Text → CellsGiven → Type 0
IsBox words g = IsTaken cells words (option_map (λ s. s.now) g.dir) × (box_seen g ≡ box_in words)

-- clap takes the words, and these are the two paths
abbrev pub pair_seen : MirrorWords → Text × Text
pair_seen g = (g.from.now, g.to.now)

abbrev pub IsPair : List Text → MirrorWords → Type 0
IsPair words g = (kinds_of mirror words ≡ []) × (pair_seen g ≡ pair_in words)

-- what the kind of an error of clap's says
abbrev pub IsRefusalFor : ErrorKind → Refusal → Type 0
IsRefusalFor kind R.Help = kind ≡ DisplayHelp
IsRefusalFor kind (R.Words error) = (kind ≢ OutOfMemory) × (kind ≢ DisplayHelp)
IsRefusalFor kind R.NoMemory = Unit {0}

-- clap refuses the words, and one kind says why
abbrev pub IsRefused : App → List Text → Refusal → Type 0
IsRefused a words R.Help = kinds_of a words ≡ DisplayHelp ∷ []
IsRefused a words (R.Words error) =
    (kind : ErrorKind) × (kinds_of a words ≡ kind ∷ []) × (kind ≢ DisplayHelp)
IsRefused a words R.NoMemory = Unit {0}

-- a command of clap with the arguments of `grow`
abbrev pub IsGrow : Command → Type 0
IsGrow c =
    (app_of c ≡ grow) × IsPlain c × ((out-Command c).has_globals ≡ false)
    × ((out-Command c).subcommand_negates_reqs ≡ false)
    × (a : Arg) × (b : Arg) × (args_of c ≡ a ∷ b ∷ []) × (a.id.now ≡ codes "n")
    × (b.id.now ≡ codes "dir") × (a.required ≡ true) × (a.action ≡ Some Set)
    × (a.val_delim ≡ None) × (1 ≤ least_values a) × (a.value_parser ≡ Some count_parser)

-- the path that the words give, where clap takes them
abbrev pub IsDirOf : App → List Text → Option Text → Result (Option (Bor Text)) AllocError → Type 0
IsDirOf a words dir result =
    IfOk result (λ d. option_map (λ s. s.now) d ≡ dir_where (kinds_of a words) dir)

-- the path that the words give, if any
abbrev pub IsDir : App → List Text → Result (Option (Bor Text)) AllocError → Type 0
IsDir a words result = IsDirOf a words (dir_in a words) result
