-- What clap reads the words of each command as (own). Of all words the
-- first one is the command's name.
use Rattle.std.specs.Prelude.{ℕ, pos, List, [], Option, Some, true, codes, option_map, unwrap_or}
use Rattle.std.specs.Str.Parse.{digits_value, without_leading_plus}
use Rattle.clap.specs.Words.{App, Rule, Text, Kinds, first_of, one_of, new_app}
use Rattle.clap.specs.Words.{new_rule, with_rule, matches_of, fault_of}
use Rattle.clap.specs.declared.builder.action.ArgAction.TheVariants.{Set, SetTrue}
use Rattle.clap.specs.declared.builder.value_parser.ValueParser.{ValueParser}
use Rattle.clap.specs.declared.builder.value_parser.ValueParser.TheVariants as vp

-- `--dir PATH`
abbrev pub dir_rule : Rule
dir_rule = record (new_rule (codes "dir")) { long = Some (codes "dir"); action = Some Set }

-- a number from 1 to 60
abbrev pub count_parser : ValueParser
count_parser = vp.Signed (pos 1) (pos 60)

abbrev pub count_rule : Rule
count_rule = record (new_rule (codes "n")) {
  action = Some Set;
  required = true;
  parser = Some count_parser;
}

-- `play [--dir PATH]`, and clap's own `--help`
unfoldable pub play : App
play = with_rule (new_app (codes "play")) dir_rule

-- `grow N [--dir PATH]`, and clap's own `--help`
unfoldable pub grow : App
grow = with_rule (with_rule (new_app (codes "grow")) count_rule) dir_rule

-- a word that must be there
abbrev pub word_rule : Text → Rule
word_rule id = record (new_rule id) { action = Some Set; required = true }

-- `cells BRANCH PATH FROM TO [--dir PATH]`, and clap's own `--help`
unfoldable pub cells : App
cells =
    with_rule (with_rule (with_rule (with_rule (with_rule (new_app (codes "cells"))
    (word_rule (codes "branch"))) (word_rule (codes "path")))
    (word_rule (codes "from"))) (word_rule (codes "to"))) dir_rule

-- `--progress`
abbrev pub progress_rule : Rule
progress_rule = record (new_rule (codes "progress")) {
  long = Some (codes "progress");
  action = Some SetTrue;
}

-- `check [--dir PATH] [--progress]`, and clap's own `--help`
unfoldable pub check : App
check = with_rule (with_rule (new_app (codes "check")) dir_rule) progress_rule

-- `mirror FROM TO`, and clap's own `--help`
unfoldable pub mirror : App
mirror =
    with_rule (with_rule (new_app (codes "mirror")) (word_rule (codes "from")))
    (word_rule (codes "to"))

-- why clap refuses the words; empty where it takes them
unfoldable pub kinds_of : App → List Text → Kinds
kinds_of a words = fault_of a words

-- what `--dir` gives
unfoldable pub dir_in : App → List Text → Option Text
dir_in a words = first_of (codes "dir") (matches_of a words)

-- what the words of `cells` give for a word of it, by its id
unfoldable pub word_in : Text → List Text → Text
word_in id words = unwrap_or (first_of id (matches_of cells words)) []

-- what the words of `mirror` give for a word of it, by its id
unfoldable pub path_in : Text → List Text → Text
path_in id words = unwrap_or (first_of id (matches_of mirror words)) []

-- the number that the words of `grow` give
unfoldable pub count_in : List Text → Option ℕ
count_in words =
    option_map (λ t. digits_value 10 (without_leading_plus t))
    (one_of (codes "n") (matches_of grow words))
