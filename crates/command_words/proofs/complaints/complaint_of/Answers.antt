use Rattle.std.proofs.Common.{◌≡◌, List, ◌∷◌, Some, arith, subst}
use Rattle.std.proofs.lemmas.List.{take_rest}
use Rattle.clap.specs.Words.{Text}
use Rattle.command_words.specs.Complaints.{Complains}
use Rattle.command_words.specs.declared.reading.Command.TheVariants as C
use Rattle.command_words.specs.declared.reading.Name.TheVariants as N
use Rattle.command_words.specs.declared.reading.Topic.TheVariants as T
use Rattle.command_words.specs.Words.{alone, name_of}
use Rattle.command_words.proofs.Behind.{behind_help, behind_version}
use Rattle.command_words.proofs.complaints.complaint_of.Goals as goal

pub returns-in-Some-Help-clause-complains : goal.returns-in-Some-Help-clause-complains
returns-in-Some-Help-clause-complains c =
    let first = c.first-item.result in
    let named : name_of first ≡ Some N.Help = grind arith in
    behind_help first c.word_behind.result c.args.words.now c.in-len1-up.len_at_least c.first-item.is named
    (subst (λ (others : List Text). Complains (first ∷ others) (alone others (C.Help T.Program)) c.word_behind.result) (take_rest c.args.words.now 1) (c.word_behind.ensures first (C.Help T.Program)))

pub returns-in-Some-Version-clause-complains : goal.returns-in-Some-Version-clause-complains
returns-in-Some-Version-clause-complains c =
    let first = c.first-item.result in
    let named : name_of first ≡ Some N.Version = grind arith in
    behind_version first c.word_behind-in-Some-Version.result c.args.words.now c.in-len1-up.len_at_least c.first-item.is named
    (subst (λ (others : List Text). Complains (first ∷ others) (alone others C.Version) c.word_behind-in-Some-Version.result) (take_rest c.args.words.now 1) (c.word_behind-in-Some-Version.ensures first C.Version))
