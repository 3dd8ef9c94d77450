use Rattle.std.proofs.Common.{◌∙◌, ◌++◌, ◌+◌, ap, sym, string_bytes}
use Rattle.grow_script.specs.Draws.{after}
use Rattle.grow_script.specs.Script.{grow_task}
use Rattle.grow_script.proofs.Parts.{after_none, after_task, behind, tasks_more, tasks_none, none}
use Rattle.grow_script.proofs.lines.push_tasks.Goals as goal

pub loop-before-init : goal.loop-before-init
loop-before-init c = record {
  text = none _ ∙ ap (λ t. string_bytes c.args.text.now ++ t) (sym (tasks_none _));
  state = sym (after_none _);
}

pub loop-before-preserved : goal.loop-before-preserved
loop-before-preserved c =
    let x = c.args.draws.now.state in
    let k = c.loop-before.before in record {
      text = c.in_ok-push_task.ensures.text ∙ ap (λ s. string_bytes c.loop-before.text ++ grow_task (k + 1) s) c.loop-before.invariant.state
          ∙ behind _ _ _ _ _ c.loop-before.invariant.text (tasks_more k x);
      state = c.in_ok-push_task.ensures.state ∙ ap (after 150) c.loop-before.invariant.state ∙ sym (after_task k x);
    }
