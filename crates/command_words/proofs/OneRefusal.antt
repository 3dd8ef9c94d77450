-- A command without subcommands refuses its words by one kind at most.
use Rattle.std.proofs.Common.{◌≡◌, ◌&&◌, ◌||◌, ℕ, Bool, true, not, List, [], ◌∷◌, Option, Some, None}
use Rattle.std.specs.Prelude.{is_some}
use Rattle.std.specs.List.{list_any}
use Rattle.clap.specs.Words.{App, Rule, Row, Shape, Text, Kinds, built, fault_of}
use Rattle.clap.specs.Facts.{explicit_source, parser_of_value}
use Rattle.clap.specs.Takes.{is_given}
use Rattle.clap.specs.Walk.{Held, Names, Walk, Step, next, trailing, subcommand, value, action_of, arg_by_index, has_row, is_empty, nothing_held, settled, walk, walk_from, walked, with_default, word_met, finished}
use Rattle.clap.specs.Simple.{argument_words, entered, names_of}
use Rattle.clap.specs.Kinds.{check_kinds}
use Rattle.clap.specs.Faults.{default_fault, defaults_fault, entered_fault, level_fault, step_fault, turn_fault, walk_fault}
use Rattle.command_words.proofs.OneKind.{IsOne, none, just, first, either, of_values, of_request, of_settle, of_word, of_positional}

of_step : (s : Shape) (position : ℕ) (h : Held) (step : Step) → s.is_leaf ≡ true → IsOne (step_fault s position h step)
of_step s position h value leaf = of_positional s h (arg_by_index s.rules position) leaf
of_step s position h (next waiting) leaf = none
of_step s position h (trailing p) leaf = none
of_step s position h (subcommand name) leaf = none

of_turn : (s : Shape) (names : Names) (w : Walk) (word : Text) → s.disable_help_subcommand ≡ true → s.is_leaf ≡ true → IsOne (turn_fault s names w word)
of_turn s names w word disabled leaf =
    let met = word_met s.rules names w.is_trailing w.waiting w.position word w.held in
    either (is_some w.stopped) _ _ none
    (first _ _ (of_word s names w.is_trailing w.waiting word w.held disabled) (of_step s w.position met.0 met.1 leaf))

of_walk : (s : Shape) (names : Names) (w : Walk) (words : List Text) → s.disable_help_subcommand ≡ true → s.is_leaf ≡ true → IsOne (walk_fault s names w words)
unfolding walk_fault
of_walk s names w [] disabled leaf = none
of_walk s names w (word ∷ rest) disabled leaf = first _ _ (of_turn s names w word disabled leaf) (of_walk s names (walked s.rules names w word) rest disabled leaf)

-- ---- after the walk
of_default : (rows : List Row) (a : Rule) → IsOne (default_fault rows a)
of_default rows a = either (has_row a.id rows || is_empty a.defaults) _ _ none (first _ _ (of_request (action_of a)) (of_values a.ignore_case (parser_of_value a.parser) a.defaults))

of_defaults : (rows : List Row) (rules : List Rule) → IsOne (defaults_fault rows rules)
unfolding defaults_fault
of_defaults rows [] = none
of_defaults rows (a ∷ rest) = first _ _ (of_default rows a) (of_defaults (with_default rows a) rest)

of_check : (help below argument : Bool) → IsOne (check_kinds help below argument)
of_check help below argument = either help _ _ (just _) (either below _ _ (just _) (either argument _ _ (just _) none))

of_level : (s : Shape) (names : Names) (h : Held) (words : List Text) (has_subcommand : Bool) (below : Kinds) → s.disable_help_subcommand ≡ true → s.is_leaf ≡ true → IsOne below
    → IsOne (level_fault s names h words has_subcommand below)
of_level s names h words has_subcommand below disabled leaf one =
    let end = (walk s.rules names h words).held in
    first _ _ (of_walk s names (walk_from h) words disabled leaf)
    (first _ _ one (first _ _ (of_settle s.rules s.args_override_self end)
    (first _ _ (of_defaults (settled s.rules end).rows s.rules) (of_check (not has_subcommand && (s.arg_required_else_help && not (list_any (λ r. explicit_source r.source) (finished s.rules end)))) (not has_subcommand && s.subcommand_required) (not (s.subcommand_negates_reqs && has_subcommand) && list_any (λ a. a.required && not (is_given a.id (finished s.rules end))) s.rules)))))

of_entered : (a : App) (stop : Option (Text × List Text)) → a.subs ≡ [] → IsOne (entered_fault a stop)
of_entered a None leaf = none
of_entered a (Some p) leaf = rw leaf none

pub one_kind : (a : App) (words : List Text) → (built a).subs ≡ [] → (built a).top.disable_help_subcommand ≡ true → (built a).top.is_leaf ≡ true → IsOne (fault_of a words)
one_kind a words subs disabled leaf =
    let b = built a in
    let stop = (walk b.top.rules (names_of b) nothing_held (argument_words a words)).stopped in
    of_level b.top (names_of b) nothing_held (argument_words a words) (is_some (entered b stop)) (entered_fault b stop) disabled leaf (of_entered b stop subs)
