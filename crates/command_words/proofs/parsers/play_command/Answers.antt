use Rattle.std.proofs.Common.{rules, ap₂, ◌≡◌, ◌∙◌}
use Rattle.std.proofs.lemmas.Result.{IfOk-weaker}
use Rattle.clap.specs.Words.{rule_of, with_rule}
use Rattle.command_words.specs.Parsers.{play, dir_rule}
use Rattle.command_words.proofs.parsers.play_command.Goals as goal

pub returns : goal.returns
unfolding play
returns c =
    let dir_is : rule_of c.action-dir.result ≡ dir_rule = search rules in
    IfOk-weaker c.arg.result _ _ (λ m h. h.shape (search rules) ∙ ap₂ with_rule c.new-2.ensures.app dir_is) c.arg.ensures
