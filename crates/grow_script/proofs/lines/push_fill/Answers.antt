use Rattle.std.proofs.Common.{◌≡◌, ◌∙◌, ◌++◌, ap, subst, string_bytes, OnOk}
use Rattle.grow_script.specs.Draws.{after, drawn, next_state}
use Rattle.grow_script.specs.Script.{fill_line, fill_text}
use Rattle.grow_script.proofs.lines.push_fill.Goals as goal

pub returns-clause-text : goal.returns-clause-text
unfolding after
returns-clause-text c =
    let x = c.args.draws.now.state in
    let first = c.below-row.ensures.state in
    let second = c.below-column.ensures.state ∙ ap next_state first in
    let third = c.below-byte.ensures.state ∙ ap next_state second in
    let row = c.below-row.ensures.value ∙ ap (drawn 64) first in
    let column = c.below-column.ensures.value ∙ ap (drawn 64) second in
    let byte = c.below-byte.ensures.value ∙ ap (drawn 256) third in
    let line : fill_text c.below-row.result c.below-column.result c.below-byte.result ≡ fill_line x =
    ap (λ r. fill_text r c.below-column.result c.below-byte.result) row ∙ ap (λ d. fill_text (drawn 64 (after 1 x)) d c.below-byte.result) column
    ∙ ap (fill_text (drawn 64 (after 1 x)) (drawn 64 (after 2 x))) byte in
    subst (λ t. OnOk c.push_chunk.result (string_bytes c.push_chunk.new.text ≡ string_bytes c.args.text.now ++ t)) line c.push_chunk.ensures

pub returns-clause-state : goal.returns-clause-state
unfolding after
returns-clause-state c = c.below-byte.ensures.state ∙ ap next_state (c.below-column.ensures.state ∙ ap next_state c.below-row.ensures.state)
