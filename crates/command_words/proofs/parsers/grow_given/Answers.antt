use Rattle.std.proofs.Common.{◌≡◌, ◌∙◌, ap, subst, sym}
use Rattle.std.specs.Prelude.{is_some, ◌≤◌, unwrap_or}
use Rattle.clap.specs.Words.{is_simple_and_free, fault_of, app_of, HasMatchesOf}
use Rattle.clap.specs.Kinds.{HasKind}
use Rattle.command_words.proofs.Read.{counted, counted_one, given, refused, grow_is_free, grow_one, lent}
use Rattle.command_words.proofs.parsers.grow_given.Goals as goal

pub unwrap-count-requires : goal.unwrap-count-requires
unwrap-count-requires c =
    let text = counted c.args.command c.in-Ok.matches c.requires c.in-Ok.ensures.parsed in
    let one = counted_one text.0 text.2.0 c.get_one.result (c.get_one.ensures.value _ text.1) text.2.1 in
    ap is_some one.1

pub returns-in-Ok : goal.returns-in-Ok
returns-in-Ok c =
    let words = c.args.words.now in
    let text = counted c.args.command c.in-Ok.matches c.requires c.in-Ok.ensures.parsed in
    let one = counted_one text.0 text.2.0 c.get_one.result (c.get_one.ensures.value _ text.1) text.2.1 in
    let same : one.0 ≡ c.unwrap-count.result = ap (λ o. unwrap_or o 0) (sym one.1 ∙ c.unwrap-count.ensures) in
    let matches = subst (λ ws. HasMatchesOf (app_of c.args.command) ws c.in-Ok.matches) (lent words) c.in-Ok.ensures.matches in
    let takes = ap (fault_of (app_of c.args.command)) (sym (lent words)) ∙ c.in-Ok.ensures.kinds (ap is_simple_and_free c.requires.0 ∙ grow_is_free) in
    given c.args.command words c.in-Ok.matches c.unwrap-count.result _ _ c.requires matches takes
    text.1 (subst (λ n. 1 ≤ n) same one.2) (subst (λ n. n ≤ 60) same one.3) (sym same ∙ one.4) c.get_str-dir.ensures

pub returns-in-Err : goal.returns-in-Err
returns-in-Err c =
    let words = c.args.words.now in
    let kinds = subst (λ ws. HasKind (fault_of (app_of c.args.command) ws) c.in-Err.error) (lent words) (c.in-Err.ensures.kinds (ap is_simple_and_free c.requires.0 ∙ grow_is_free)) in
    refused _ words c.in-Err.error _ (grow_one words) (subst (λ a. HasKind (fault_of a words) c.in-Err.error) c.requires.0 kinds) c.refusal_of.ensures
