use Rattle.std.proofs.Common.{◌≡◌, ◌⊎◌, length, inl, inr}
use Rattle.std.proofs.lemmas.Bool.{false≢true}
use Rattle.region_cells.proofs.WalkLaws.{not_empty}
use Rattle.region_cells.proofs.boxes.is_empty.Goals as goal

pub returns : goal.returns
returns c =
    let from = c.loop-first.first-iterator.a.rest.now in
    let to = c.loop-first.first-iterator.b.rest.now in
    let ended : (length from ≡ 0) ⊎ (length to ≡ 0) = elim c.in-None.ensures.steps [ inl h ↦ inl h.1.0 | inr h ↦ inr h.1.0 ] in
    (λ h. absurd (false≢true h), λ e. absurd (not_empty from to c.args.from.now c.args.to.now c.loop-first.invariant.2 ended e))
