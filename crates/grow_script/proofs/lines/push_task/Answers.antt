use Rattle.std.proofs.Common.{◌∙◌, ◌++◌, ap, string_bytes, codes, decimal}
use Rattle.std.proofs.lemmas.Result.{on_ok_weaker}
use Rattle.grow_script.specs.Script.{fill_lines}
use Rattle.grow_script.proofs.Parts.{task_joined}
use Rattle.grow_script.proofs.lines.push_task.Goals as goal

pub returns-clause-text : goal.returns-clause-text
returns-clause-text c =
    let before = string_bytes c.args.text.now in
    let number = decimal c.args.number in
    let head = codes "task t" ++ number ++ codes " write main 9 ours\n" in
    let fills = fill_lines 50 c.args.draws.now.state in
    let joined = c.in_ok-push_fills.ensures.text ∙ ap (λ t. t ++ fills) c.in_ok-write.ensures.bytes in
    on_ok_weaker c.write-2.result (λ e. e ∙ ap (λ t. t ++ (codes "commit t" ++ (number ++ codes "\n"))) joined ∙ task_joined before head fills number) c.write-2.ensures.bytes
