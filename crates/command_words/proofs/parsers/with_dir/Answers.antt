use Rattle.std.proofs.Common.{rules, ap, ◌≡◌, ◌∙◌}
use Rattle.std.proofs.lemmas.Result.{IfOk-weaker}
use Rattle.clap.specs.Words.{app_of, rule_of, with_rule}
use Rattle.command_words.specs.Parsers.{dir_rule}
use Rattle.command_words.proofs.parsers.with_dir.Goals as goal

pub returns : goal.returns
returns c =
    let dir_is : rule_of c.action-dir.result ≡ dir_rule = search rules in
    IfOk-weaker c.arg.result _ _ (λ m h. h.shape (search rules) ∙ ap (with_rule (app_of c.args.command)) dir_is) c.arg.ensures
