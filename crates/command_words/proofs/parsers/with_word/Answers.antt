use Rattle.std.proofs.Common.{rules, ap, ◌≡◌, ◌∙◌}
use Rattle.std.proofs.lemmas.Result.{IfOk-weaker}
use Rattle.clap.specs.Words.{app_of, rule_of, with_rule}
use Rattle.command_words.specs.Parsers.{word_rule}
use Rattle.command_words.proofs.parsers.with_word.Goals as goal

pub returns : goal.returns
returns c =
    let word_is : rule_of c.action-word.result ≡ word_rule c.args.id.now = search rules in
    IfOk-weaker c.arg.result _ _ (λ m h. h.shape (search rules) ∙ ap (with_rule (app_of c.args.command)) word_is) c.arg.ensures
