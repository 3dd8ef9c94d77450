use Rattle.std.proofs.Common.{◌∙◌, ◌++◌, ap, sym, string_bytes}
use Rattle.grow_script.specs.Draws.{after}
use Rattle.grow_script.specs.Script.{fill_line}
use Rattle.grow_script.proofs.Parts.{after_none, after_three, behind, fills_more, fills_none, none}
use Rattle.grow_script.proofs.lines.push_fills.Goals as goal

pub loop-init : goal.loop-init
loop-init c = record {
  text = none _ ∙ ap (λ t. string_bytes c.args.text.now ++ t) (sym (fills_none _));
  state = sym (after_none _);
}

pub loop-preserved : goal.loop-preserved
loop-preserved c =
    let x = c.args.draws.now.state in
    let k = c.loop.counter in record {
      text = c.in_ok-push_fill.ensures.text ∙ ap (λ s. string_bytes c.loop.text ++ fill_line s) c.loop.invariant.state
          ∙ behind _ _ _ _ _ c.loop.invariant.text (fills_more k x);
      state = c.push_fill.ensures.state ∙ ap (after 3) c.loop.invariant.state ∙ sym (after_three k x);
    }
