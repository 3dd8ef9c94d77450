use Rattle.std.proofs.Common.{rules, ap, ◌≡◌, ◌∙◌, Some, Option}
use Rattle.std.specs.Prelude.{pos}
use Rattle.std.proofs.lemmas.Result.{IfOk-weaker}
use Rattle.clap.specs.Words.{rule_of, Rule}
use Rattle.clap.specs.declared.builder.value_parser.ValueParser.{ValueParser}
use Rattle.clap.specs.declared.builder.value_parser.ValueParser.TheVariants as vp
use Rattle.command_words.specs.Parsers.{count_rule, count_parser}
use Rattle.command_words.proofs.Read.{grown}
use Rattle.command_words.proofs.parsers.grow_command.Goals as goal

pub returns : goal.returns
returns c =
    let given = c.value_parser-count.ensures.given in
    let made : c.range.result ≡ vp.Signed (pos 1) (pos 60) = rw c.value_parser.ensures at c.range.ensures in
    let parser : c.value_parser-count.result.value_parser ≡ Some count_parser = given.1 ∙ ap Some (given.2 ∙ made) in
    let with_parser : Option ValueParser → Rule = λ q. record count_rule { parser = q } in
    let others : rule_of c.value_parser-count.result ≡ with_parser c.value_parser-count.result.value_parser = search rules in
    IfOk-weaker c.arg-2.result _ _
    (λ m h. grown c.new-3.result c.in_ok-arg.field-0 m c.value_parser-count.result c.action-dir.result c.in_ok-arg.ensures h c.new-3.ensures.app (search rules) (search rules) (search rules) (search rules) (search rules) (search rules) (search rules) (search rules) (others ∙ ap with_parser parser) (search rules) (search rules) (search rules) (search rules) (search rules) parser (search rules) (search rules))
    c.arg-2.ensures
