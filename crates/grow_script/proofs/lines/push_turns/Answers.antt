use Rattle.std.proofs.Common.{◌∙◌, ◌++◌, ◌+◌, ap, sym, string_bytes, codes, decimal}
use Rattle.grow_script.specs.Draws.{drawn, next_state}
use Rattle.grow_script.proofs.Parts.{after_none, after_one, behind, turns_more, turns_none, none}
use Rattle.grow_script.proofs.lines.push_turns.Goals as goal

pub loop-init : goal.loop-init
loop-init c = record {
  text = none _ ∙ ap (λ t. string_bytes c.args.text.now ++ t) (sym (turns_none _ _));
  state = sym (after_none _);
}

pub loop-preserved : goal.loop-preserved
loop-preserved c =
    let x = c.args.draws.now.state in
    let k = c.loop.counter in
    let stands = c.below.ensures.state ∙ ap next_state c.loop.invariant.state ∙ sym (after_one k x) in
    let turn = c.below.ensures.value ∙ ap (drawn c.args.tasks) stands in record {
      text = c.in_ok-write.ensures.bytes ∙ ap (λ d. string_bytes c.loop.text ++ (codes " t" ++ decimal (1 + d))) turn
          ∙ behind _ _ _ _ _ c.loop.invariant.text (turns_more c.args.tasks k x);
      state = stands;
    }
