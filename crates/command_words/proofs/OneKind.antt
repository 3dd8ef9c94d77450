-- A word of a command without subcommands is refused by one kind at most.
use Rattle.std.proofs.Common.{◌≡◌, ◌==◌, ◌&&◌, ◌+◌, ℕ, zero, suc, Bool, true, false, not, List, [], ◌∷◌, Option, Some, None, refl, sym, true≢false, ap, inl, inr, codes, length, min}
use Rattle.std.specs.Prelude.{if◌then◌else◌, nat_lt, slice_get, is_some}
use Rattle.std.specs.Option.{option_map_or}
use Rattle.std.specs.Str.{bytes_eq, chars}
use Rattle.clap.specs.Words.{Rule, Row, Shape, Text, Kinds, IsAmong}
use Rattle.clap.specs.Lexer.{long_of, short_of}
use Rattle.clap.specs.Facts.{parser_of_value, unwrap_or_range}
use Rattle.clap.specs.Matches.{count_text}
use Rattle.clap.specs.ValueTests.{accepts}
use Rattle.clap.specs.Walk.{Held, Names, Waiting, action_of, arg_by_id, arg_by_long, arg_by_short, attached_value, count_of, has_row, is_pending, most_values, reacted, settled, subcommand_met, takes_several, takes_values, values_or_missing}
use Rattle.clap.specs.Kinds.{or_else, range_kinds, request_kinds, value_kinds, values_kinds}
use Rattle.clap.specs.Faults.{action_fault, bundle_fault, bundle_step_fault, count_fault, flag_word_fault, flags_fault, long_fault, option_fault, other_fault, positional_fault, react_fault, set_fault, settle_fault, short_fault, stray_fault, use_fault, word_fault}
use Rattle.clap.specs.declared.builder.action.ArgAction.{ArgAction}
use Rattle.clap.specs.declared.builder.action.ArgAction.TheVariants as act
use Rattle.clap.specs.declared.builder.value_parser.ValueParser.{ValueParser}
use Rattle.clap.specs.declared.error.kind.ErrorKind.{ErrorKind}

-- a kind that is among these is the only one
abbrev pub IsOne : Kinds → Type 0
IsOne kinds = (k : ErrorKind) → IsAmong k kinds → kinds ≡ k ∷ []

pub none : IsOne []
none k among = absurd among

pub just : (x : ErrorKind) → IsOne (x ∷ [])
just x k (inl same) = ap (λ y. y ∷ []) (sym same)
just x k (inr among) = absurd among

pub first : (a b : Kinds) → IsOne a → IsOne b → IsOne (or_else a b)
first [] b one other = other
first (x ∷ xs) b one other = one

pub either : (test : Bool) (a b : Kinds) → IsOne a → IsOne b → IsOne (if test then a else b)
either true a b one other = one
either false a b one other = other

-- ---- one use of an argument
pub of_value : (ignore_case : Bool) (parser : ValueParser) (text : Text) → IsOne (value_kinds ignore_case parser text)
of_value ignore_case parser text = either (accepts ignore_case parser text) _ _ none (just _)

pub of_values : (ignore_case : Bool) (parser : ValueParser) (texts : List Text) → IsOne (values_kinds ignore_case parser texts)
of_values ignore_case parser [] = none
of_values ignore_case parser (v ∷ vs) = first _ _ (of_value ignore_case parser v) (of_values ignore_case parser vs)

pub of_range : (least most n : ℕ) → IsOne (range_kinds least most n)
of_range least most n =
    either (nat_lt 0 least && n == 0) _ _ (just _)
    (either (least == most) _ _ (either (least == n) _ _ none (just _))
    (either (nat_lt n least) _ _ (just _) (either (nat_lt most n) _ _ (just _) none)))

pub of_request : (action : ArgAction) → IsOne (request_kinds action)
of_request act.Set = none
of_request act.Append = none
of_request act.SetTrue = none
of_request act.SetFalse = none
of_request act.Count = none
of_request act.Help = just _
of_request act.HelpShort = just _
of_request act.HelpLong = just _
of_request act.Version = just _

pub of_set : (again : Bool) (a : Rule) (values : List Text) (rows : List Row) → IsOne (set_fault again a values rows)
of_set again a values rows = first _ _ (either (has_row a.id rows && not again) _ _ (just _) none) (of_values _ _ values)

pub of_count : (a : Rule) (values : List Text) (rows : List Row) → IsOne (count_fault a values rows)
of_count a [] rows = of_value a.ignore_case (parser_of_value a.parser) (count_text (min (count_of a.id rows + 1) 255))
of_count a (v ∷ vs) rows = of_values _ _ (v ∷ vs)

pub of_action : (action : ArgAction) (again : Bool) (a : Rule) (values : List Text) (rows : List Row) → IsOne (action_fault action again a values rows)
of_action act.Set again a values rows = of_set again a values rows
of_action act.SetTrue again a values rows = of_set again a values rows
of_action act.SetFalse again a values rows = of_set again a values rows
of_action act.Append again a values rows = of_values _ _ values
of_action act.Count again a values rows = of_count a values rows
of_action act.Help again a values rows = just _
of_action act.HelpShort again a values rows = just _
of_action act.HelpLong again a values rows = just _
of_action act.Version again a values rows = just _

pub of_use : (again : Bool) (a : Rule) (values : List Text) (rows : List Row) → IsOne (use_fault again a values rows)
of_use again a values rows = first _ _ (of_range (unwrap_or_range a.range).start_inclusive (most_values a) (length values)) (of_action (action_of a) again a (values_or_missing a values) rows)

-- ---- the walk
pub of_held : (c : List Rule) (again : Bool) (rows : List Row) (p : Text × List Text) (found : Option Rule) → IsOne (option_map_or (λ a. use_fault again a p.1 rows) found [])
of_held c again rows p None = none
of_held c again rows p (Some a) = of_use again a p.1 rows

pub of_pending : (c : List Rule) (again : Bool) (rows : List Row) (pending : Option (Text × List Text))
    → IsOne (option_map_or (λ p. option_map_or (λ a. use_fault again a p.1 rows) (arg_by_id c p.0) []) pending [])
of_pending c again rows None = none
of_pending c again rows (Some p) = of_held c again rows p (arg_by_id c p.0)

pub of_settle : (c : List Rule) (again : Bool) (h : Held) → IsOne (settle_fault c again h)
of_settle c again h = of_pending c again h.rows h.pending

pub of_react : (c : List Rule) (again : Bool) (a : Rule) (values : List Text) (h : Held) → IsOne (react_fault c again a values h)
of_react c again a values h = first _ _ (of_settle c again h) (of_use again a values (settled c h).rows)

pub of_option : (c : List Rule) (again : Bool) (a : Rule) (v : Option Text) (h : Held) → IsOne (option_fault c again a v h)
of_option c again a None h = of_settle c again h
of_option c again a (Some v) h = of_react c again a (v ∷ []) h

pub of_long : (c : List Rule) (again : Bool) (found : Option Rule) (v : Option Text) (h : Held) → IsOne (long_fault c again found v h)
of_long c again None v h = just _
of_long c again (Some a) v h = either (takes_values a) _ _ (of_option c again a v h) (either (is_some v) _ _ (just _) (of_react c again a [] h))

pub of_short : (c : List Rule) (again : Bool) (found : Option Rule) (rest : Text) (h : Held) (next : Held → Kinds) → ((g : Held) → IsOne (next g))
    → IsOne (short_fault c again found rest h next)
of_short c again None rest h next one = just _
of_short c again (Some a) rest h next one =
    either (takes_values a) _ _ (of_option c again a (attached_value rest) h) (first _ _ (of_react c again a [] h) (one (reacted c a [] h)))

pub of_step : (c : List Rule) (again : Bool) (x : Option ℕ) (flags : Text) (skip : ℕ) (h : Held) (next : Text → ℕ → Held → Kinds)
    → ((t : Text) (n : ℕ) (g : Held) → IsOne (next t n g)) → IsOne (bundle_step_fault c again x flags skip h next)
of_step c again None flags skip h next one = none
of_step c again (Some x) flags zero h next one = of_short c again (arg_by_short c x) _ h _ (one _ 0)
of_step c again (Some x) flags (suc skip) h next one = one _ skip h

pub of_flags : (c : List Rule) (again : Bool) (k : ℕ) (flags : Text) (skip : ℕ) (h : Held) → IsOne (flags_fault c again k flags skip h)
unfolding flags_fault
of_flags c again zero flags skip h = none
of_flags c again (suc k) flags skip h = of_step c again (slice_get (chars flags) 0) flags skip h (flags_fault c again k) (of_flags c again k)

pub of_bundle : (c : List Rule) (again : Bool) (flags : Option Text) (h : Held) → IsOne (option_map_or (λ fs. bundle_fault c again fs h) flags [])
of_bundle c again None h = none
of_bundle c again (Some flags) h = of_flags c again (length flags) flags h.skip (record h { skip = 0 })

pub of_flag_word : (c : List Rule) (again : Bool) (long : Option (Text × Option Text)) (word : Text) (h : Held) → IsOne (flag_word_fault c again long word h)
of_flag_word c again (Some p) word h = of_long c again (arg_by_long c p.0) p.1 h
of_flag_word c again None word h = of_bundle c again (short_of word) h

pub of_other : (s : Shape) (name : Option Text) (word : Text) (h : Held) → s.disable_help_subcommand ≡ true → IsOne (other_fault s name word h)
of_other s (Some name) word h disabled =
    let test : (bytes_eq name (codes "help") && not s.disable_help_subcommand) ≡ false = off (bytes_eq name (codes "help")) s.disable_help_subcommand disabled in
    rw test none
  where
    off : (a b : Bool) → b ≡ true → (a && not b) ≡ false
    off true true e = refl
    off false true e = refl
    off true false e = absurd (true≢false (sym e))
    off false false e = refl
of_other s None word h disabled = either (bytes_eq word (45 ∷ 45 ∷ [])) _ _ none (of_flag_word s.rules s.args_override_self (long_of word) word h)

pub of_word : (s : Shape) (names : Names) (is_trailing : Bool) (waiting : Waiting) (word : Text) (h : Held) → s.disable_help_subcommand ≡ true
    → IsOne (word_fault s names is_trailing waiting word h)
of_word s names is_trailing waiting word h disabled = either is_trailing _ _ none (of_other s (subcommand_met names waiting word) word h disabled)

pub of_stray : (s : Shape) → s.is_leaf ≡ true → IsOne (stray_fault s)
of_stray s leaf = rw leaf (just _)

pub of_positional : (s : Shape) (h : Held) (found : Option Rule) → s.is_leaf ≡ true
    → IsOne (option_map_or (λ a. positional_fault s.rules s.args_override_self a h) found (stray_fault s))
of_positional s h None leaf = of_stray s leaf
of_positional s h (Some a) leaf = either (is_pending a h.pending && takes_several a) _ _ none (of_settle s.rules s.args_override_self h)
