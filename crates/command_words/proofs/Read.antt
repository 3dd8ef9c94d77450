-- From clap's clauses to this crate's words.
use Rattle.std.proofs.Common.{◌≡◌, ◌∙◌, ◌<◌, ◌≤◌, ℕ, zero, suc, Bool, List, [], ◌∷◌, Option, Some, None, true, false, refl, sym, ap, subst, inl, inr, map, true≢false, arith, length, codes, slice_index}
use Rattle.std.specs.List.{slice_index_or}
use Rattle.std.specs.Str.{bytes_eq}
use Rattle.std.proofs.lemmas.Slice.Eq.{bytes_eq-Decides}
use Rattle.clap.specs.Words.{App, Text, Accepts, IsParsedFrom, found_of, one_text, read_as, reading_of}
use Rattle.clap.specs.Facts.{args_of}
use Rattle.clap.proofs.CallerReads.{required_reads}
use Rattle.clap.specs.declared.builder.arg.Arg.{Arg}
use Rattle.clap.specs.declared.builder.command.Command.{Command}
use Rattle.clap.specs.declared.parser.matches.ArgMatches.{ArgMatches}
use Rattle.std.specs.Prelude.{Result, option_map, unwrap_or}
use Rattle.std.specs.declared.num.ParseIntError.{ParseIntError}
use Rattle.std.specs.Str.Parse.{ParsesUnsigned, ExplainsUnsignedError, HasUnsignedDigitsIfOk, digits_value, without_leading_plus}
use Rattle.clap.specs.Matches.{ReadsOne}
use Rattle.clap.specs.Words.{HasMatchesOf, app_of, fault_of, first_of, first_value, one_of, is_simple, is_simple_and_free, matches_of}
use Rattle.clap.specs.declared.error.kind.ErrorKind.{ErrorKind}
use Rattle.clap.proofs.WalkLemmas.{first_value-rows, one_text-rows}
use Rattle.clap.proofs.CallerReads.{signed_reads}
use Rattle.clap.proofs.OnLiterals.{clap_on_literals}
use Rattle.std.proofs.Common.{ap₂, ◌||◌, ◌++◌}
use Rattle.std.specs.List.{All}
use Rattle.std.proofs.lemmas.List.Elements.{All-nil}
use Rattle.clap.specs.Words.{AddsArg, IsPlain, IsPlainArg, new_app, rule_of, with_rule}
use Rattle.clap.specs.Facts.{groups_of, least_values}
use Rattle.clap.proofs.CallerLemmas.{added_plain}
use Rattle.clap.specs.declared.builder.action.ArgAction.TheVariants.{Set}
use Rattle.clap.specs.declared.builder.command.Command.TheViews.{out-Command}
use Rattle.command_words.specs.Parsers.{count_rule, dir_rule}
use Rattle.command_words.specs.Parsers.{count_parser, count_in, dir_in, kinds_of, word_in, path_in, cells, check, grow, mirror, play}
use Rattle.command_words.specs.declared.reading.BoxWords.{BoxWords}
use Rattle.command_words.specs.Words.{box_in, pair_in}
use Rattle.command_words.specs.inside.Parsing.{IsGrow, IsGrown, IsTaken, IsRefused, IsRefusalFor}
use Rattle.command_words.specs.declared.parsers.Refusal.{Refusal}
use Rattle.command_words.specs.declared.parsers.Refusal.TheVariants as R
use Rattle.clap.specs.declared.error.kind.ErrorKind.TheVariants.{DisplayHelp, OutOfMemory}
use Rattle.clap.specs.Words.{kind_of}
use Rattle.clap.specs.Kinds.{HasKind}
use Rattle.clap.specs.declared.error.Error.{Error}
use Rattle.command_words.proofs.OneKind.{IsOne}
use Rattle.command_words.proofs.OneRefusal.{one_kind}

clash : (m n : ℕ) → m < n → m ≡ n → ⊥
clash m n lt e = omega arith

at_first : (args : List Arg) (a b : Arg) → args ≡ a ∷ b ∷ [] → slice_index_or args 0 a ≡ a
at_first args a b list = ap (λ l. slice_index_or l 0 a) list

grow_is_simple : is_simple grow ≡ true
unfolding grow clap_on_literals
grow_is_simple = refl

pub grow_is_free : is_simple_and_free grow ≡ true
unfolding grow clap_on_literals
grow_is_free = refl

-- no second argument has the first one's id
only_first : (args : List Arg) (a b : Arg) → args ≡ a ∷ b ∷ [] → a.id.now ≡ codes "n" → b.id.now ≡ codes "dir" → (j : ℕ) (e : Arg) → j < length args
    → bytes_eq (slice_index_or args j e).id.now (slice_index_or args 0 a).id.now ≡ true → j ≡ 0
only_first args a b list an bn j e lt same =
    go j (subst (λ (l : List Arg). j < length l) list lt)
    (subst (λ (l : List Arg). bytes_eq (slice_index_or l j e).id.now (slice_index_or l 0 a).id.now ≡ true) list same)
  where
    go : (i : ℕ) → i < 2 → bytes_eq (slice_index_or (a ∷ b ∷ []) i e).id.now a.id.now ≡ true → i ≡ 0
    go zero lt same = refl
    go (suc zero) lt same =
        let ids : b.id.now ≡ a.id.now = (bytes_eq-Decides b.id.now a.id.now).0 same in
        let first : (t : List ℕ) → a.id.now ≡ t → slice_index t 0 ≡ 110 = λ t e. ap (λ (s : List ℕ). slice_index s 0) (sym e ∙ an) in
        absurd (clash 100 110 (omega arith) (first (codes "dir") (sym ids ∙ bn)))
    go (suc (suc i)) lt same = absurd (omega arith)

-- the number's text passed its parser
pub counted : (c : Command) (m : ArgMatches) → IsGrow c → IsParsedFrom c m
    → (t : List ℕ) × (one_text (found_of m) (codes "n") ≡ Some (read_as (reading_of count_parser) t)) × ((ignore_case : Bool) × Accepts ignore_case count_parser t)
counted c m g p =
    let a = g.4 in
    let elem : slice_index_or (args_of c) 0 a ≡ a = at_first (args_of c) a g.5 g.6 in
    let back = sym elem in
    let id_is : (slice_index_or (args_of c) 0 a).id.now ≡ codes "n" = ap (λ (x : Arg). x.id.now) elem ∙ g.7 in
    let lt : 0 < length (args_of c) = subst (λ (l : List Arg). 0 < length l) (sym g.6) (omega arith) in
    let first : (t : List ℕ) → (slice_index_or (args_of c) 0 a).id.now ≡ t → slice_index t 0 ≡ 110 = λ t e. ap (λ (s : List ℕ). slice_index s 0) (sym e ∙ id_is) in
    let read = required_reads c m p g.1 g.2 g.3 0 a lt
    (subst (λ (x : Arg). x.required ≡ true) back g.9)
    (ap (λ (x : Arg). x.action) elem ∙ g.10)
    (ap (λ (x : Arg). x.val_delim) elem ∙ g.11)
    (subst (λ (x : Arg). 1 ≤ Rattle.clap.specs.Facts.least_values x) back g.12)
    (only_first (args_of c) a g.5 g.6 g.7 g.8)
    (λ e. let bad : 0 ≡ 110 = first [] e in absurd (omega arith))
    (λ auto. elim auto [
      | inl h ↦ let bad : 104 ≡ 110 = first _ h in absurd (omega arith)
      | inr h ↦ let bad : 118 ≡ 110 = first _ h in absurd (omega arith)
    ])
    count_parser (ap (λ (x : Arg). x.value_parser) elem ∙ g.13) in
    (read.0, subst (λ (w : List ℕ). one_text (found_of m) w ≡ Some (read_as (reading_of count_parser) read.0)) id_is read.1, ((slice_index_or (args_of c) 0 a).ignore_case, read.2))

-- what `get_one` gives, where the text passed
pub counted_one : (t : List ℕ) (ignore_case : Bool) (r : Option ℕ)
    → ReadsOne (λ bs (x : Result ℕ ParseIntError). ParsesUnsigned 8 10 bs x × ExplainsUnsignedError 10 bs x × HasUnsignedDigitsIfOk bs x) (read_as (reading_of count_parser) t) r
    → Accepts ignore_case count_parser t
    → (n : ℕ) × (r ≡ Some n) × (1 ≤ n) × (n ≤ 60) × (n ≡ digits_value 10 (without_leading_plus (read_as (reading_of count_parser) t)))
counted_one t ignore_case r one accepted =
    let got = signed_reads ParseIntError (λ bs x. ParsesUnsigned 8 10 bs x × ExplainsUnsignedError 10 bs x × HasUnsignedDigitsIfOk bs x) 8 1 60 t r one (λ u x g. g.0) (omega arith) accepted in
    let P : Option ℕ → Type 0 = ReadsOne (λ bs (x : Result ℕ ParseIntError). ParsesUnsigned 8 10 bs x × ExplainsUnsignedError 10 bs x × HasUnsignedDigitsIfOk bs x) (read_as (reading_of count_parser) t) in
    let at_some : P (Some got.0) = subst P got.1 one in
    (got.0, got.1, got.2, got.3, at_some.0.1)

abbrev asks_help : ErrorKind → Bool
asks_help DisplayHelp = true
asks_help _ = false

-- lent texts are the words themselves
pub lent : (words : List Text) → map (λ (word : Text). word) words ≡ words
lent [] = refl
lent (word ∷ words) = ap (λ ws. word ∷ ws) (lent words)

clash_kinds : OutOfMemory ≡ DisplayHelp → ⊥
clash_kinds e = true≢false (ap asks_help (sym e))

pub given : (c : Command) (words : List Text) (m : ArgMatches) (n : ℕ) (text : List ℕ) (dir : Option Text) → IsGrow c → HasMatchesOf (app_of c) words m
    → fault_of (app_of c) words ≡ [] → one_text (found_of m) (codes "n") ≡ Some text → 1 ≤ n → n ≤ 60 → n ≡ digits_value 10 (without_leading_plus text)
    → dir ≡ first_value (found_of m) (codes "dir") → IsGrown words n dir
unfolding kinds_of dir_in count_in
given c words m n text dir g matches none reads low high is gives =
    let simple : is_simple (app_of c) ≡ true = ap is_simple g.0 ∙ grow_is_simple in
    let rows = (matches simple).0 ∙ ap (λ (x : App). matches_of x words) g.0 in
    let count : option_map (λ t. digits_value 10 (without_leading_plus t)) (one_of (codes "n") (matches_of grow words)) ≡ Some n =
    ap (λ r. option_map (λ t. digits_value 10 (without_leading_plus t)) (one_of (codes "n") r)) (sym rows)
    ∙ ap (option_map (λ t. digits_value 10 (without_leading_plus t))) (sym (one_text-rows (found_of m) (codes "n")) ∙ reads)
    ∙ ap Some (sym is) in (
      (ap (λ (x : App). fault_of x words) (sym g.0) ∙ none, gives ∙ first_value-rows (found_of m) (codes "dir") ∙ ap (first_of (codes "dir")) rows),
      count,
      low,
      high,
    )

-- clap takes the words of a command
pub taken : (a : App) (words : List Text) (m : ArgMatches) (dir : Option Text) → is_simple a ≡ true → HasMatchesOf a words m → fault_of a words ≡ []
    → dir ≡ first_value (found_of m) (codes "dir") → IsTaken a words dir
unfolding kinds_of dir_in
taken a words m dir simple matches none gives = (none, gives ∙ first_value-rows (found_of m) (codes "dir") ∙ ap (first_of (codes "dir")) (matches simple).0)

-- clap refuses them
pub refused : (a : App) (words : List Text) (e : Error) (refusal : Refusal) → IsOne (fault_of a words) → HasKind (fault_of a words) e → IsRefusalFor (kind_of e) refusal → IsRefused a words refusal
unfolding kinds_of
refused a words e R.Help one (inl memory) is = absurd (clash_kinds (sym memory ∙ is))
refused a words e R.Help one (inr among) is = one (kind_of e) among ∙ ap (λ k. k ∷ []) is
refused a words e (R.Words error) one (inl memory) is = absurd (is.0 memory)
refused a words e (R.Words error) one (inr among) is = (kind_of e, one (kind_of e) among, is.1)
refused a words e R.NoMemory one has is = tt

pub play_is_simple : is_simple play ≡ true
unfolding play clap_on_literals
play_is_simple = refl

pub play_is_free : is_simple_and_free play ≡ true
unfolding play clap_on_literals
play_is_free = refl

pub play_one : (words : List Text) → IsOne (fault_of play words)
unfolding play
play_one words = one_kind play words refl refl refl

pub check_is_simple : is_simple check ≡ true
unfolding check clap_on_literals
check_is_simple = refl

pub check_is_free : is_simple_and_free check ≡ true
unfolding check clap_on_literals
check_is_free = refl

pub check_one : (words : List Text) → IsOne (fault_of check words)
unfolding check
check_one words = one_kind check words refl refl refl

pub cells_is_simple : is_simple cells ≡ true
unfolding cells clap_on_literals
cells_is_simple = refl

pub cells_is_free : is_simple_and_free cells ≡ true
unfolding cells clap_on_literals
cells_is_free = refl

pub cells_one : (words : List Text) → IsOne (fault_of cells words)
unfolding cells
cells_one words = one_kind cells words refl refl refl

-- a word of `cells` that clap gives
word_given : (words : List Text) (m : ArgMatches) (id word : Text) → HasMatchesOf cells words m → word ≡ unwrap_or (first_value (found_of m) id) [] → word ≡ word_in id words
unfolding word_in
word_given words m id word matches is =
    is ∙ ap (λ o. unwrap_or o []) (first_value-rows (found_of m) id ∙ ap (first_of id) (matches cells_is_simple).0)

-- the four words of it
pub boxed : (words : List Text) (m : ArgMatches) (b p f t : Text) → HasMatchesOf cells words m
    → b ≡ unwrap_or (first_value (found_of m) (codes "branch")) [] → p ≡ unwrap_or (first_value (found_of m) (codes "path")) []
    → f ≡ unwrap_or (first_value (found_of m) (codes "from")) [] → t ≡ unwrap_or (first_value (found_of m) (codes "to")) []
    → ◌≡◌ {A = BoxWords} (record { branch = b; path = p; from = f; to = t }) (box_in words)
boxed words m b p f t matches is_b is_p is_f is_t =
    rw (word_given words m (codes "branch") b matches is_b, word_given words m (codes "path") p matches is_p, word_given words m (codes "from") f matches is_f, word_given words m (codes "to") t matches is_t) refl

pub mirror_is_simple : is_simple mirror ≡ true
unfolding mirror clap_on_literals
mirror_is_simple = refl

pub mirror_is_free : is_simple_and_free mirror ≡ true
unfolding mirror clap_on_literals
mirror_is_free = refl

pub mirror_one : (words : List Text) → IsOne (fault_of mirror words)
unfolding mirror
mirror_one words = one_kind mirror words refl refl refl

-- a word of `mirror` that clap gives
path_given : (words : List Text) (m : ArgMatches) (id word : Text) → HasMatchesOf mirror words m → word ≡ unwrap_or (first_value (found_of m) id) [] → word ≡ path_in id words
unfolding path_in
path_given words m id word matches is =
    is ∙ ap (λ o. unwrap_or o []) (first_value-rows (found_of m) id ∙ ap (first_of id) (matches mirror_is_simple).0)

-- clap takes the words of it, and these are the two
pub paired : (words : List Text) (m : ArgMatches) (f t : Text) → HasMatchesOf mirror words m → fault_of mirror words ≡ []
    → f ≡ unwrap_or (first_value (found_of m) (codes "from")) [] → t ≡ unwrap_or (first_value (found_of m) (codes "to")) []
    → (kinds_of mirror words ≡ []) × (◌≡◌ {A = Text × Text} (f, t) (pair_in words))
unfolding kinds_of
paired words m f t matches none is_f is_t = (
  none,
  rw (path_given words m (codes "from") f matches is_f, path_given words m (codes "to") t matches is_t) refl,
)

pub grow_one : (words : List Text) → IsOne (fault_of grow words)
unfolding grow
grow_one words = one_kind grow words refl refl refl

-- two arguments added to a new command
pub grown : (start one two : Command) (a b : Arg) → AddsArg start a one → AddsArg one b two → app_of start ≡ new_app (codes "grow")
    → args_of start ≡ [] → groups_of start ≡ [] → (out-Command start).has_globals ≡ false → (out-Command start).subcommand_negates_reqs ≡ false
    → IsPlainArg a → IsPlainArg b → a.global ≡ false → b.global ≡ false → rule_of a ≡ count_rule → rule_of b ≡ dir_rule
    → a.required ≡ true → a.action ≡ Some Set → a.val_delim ≡ None → 1 ≤ least_values a → a.value_parser ≡ Some count_parser
    → a.id.now ≡ codes "n" → b.id.now ≡ codes "dir" → IsGrow two
unfolding grow
grown start one two a b first second app args groups globals negates plain_a plain_b global_a global_b rule_a rule_b required set delim least parser id_a id_b =
    let start_plain : IsPlain start = (subst (All IsPlainArg) (sym args) (All-nil IsPlainArg), groups) in (
      second.shape global_b ∙ ap₂ with_rule (first.shape global_a ∙ ap₂ with_rule app rule_a) rule_b,
      added_plain one two b second (added_plain start one a first start_plain plain_a) plain_b,
      second.globals ∙ ap₂ ◌||◌ (first.globals ∙ ap₂ ◌||◌ globals global_a) global_b,
      second.negates ∙ first.negates ∙ negates,
      first.arg,
      second.arg,
      second.args ∙ ap (λ l. l ++ second.arg ∷ []) (first.args ∙ ap (λ l. l ++ first.arg ∷ []) args),
      ap (λ x. x.now) first.rules.id ∙ id_a,
      ap (λ x. x.now) second.rules.id ∙ id_b,
      first.rules.required ∙ required,
      first.rules.action Set set,
      first.rules.val_delim ∙ delim,
      first.rules.least set least,
      first.rules.parser count_parser parser,
    )
