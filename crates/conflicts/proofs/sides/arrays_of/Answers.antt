use Rattle.std.proofs.Common.{◌∙◌, ℕ, List, ap, arith}
use Rattle.ice_ids.specs.declared.Id8.{Id8}
use Rattle.zarr_changes.specs.Edits.{with_id}
use Rattle.conflicts.proofs.Steps.{one-more}
use Rattle.conflicts.proofs.sides.arrays_of.Goals as goal

pub loop-id-preserved : goal.loop-id-preserved
loop-id-preserved c = λ id.
    one-more (λ (key : Id8 × List ℕ). key.0) c.loop-id.set c.insert.new.self c.args.chunks.now c.loop-id.id-index c.loop-id-item.result id _ (omega arith)
    (c.in_ok-insert.ensures.ok ∙ ap (λ (key : Id8 × List ℕ). with_id c.loop-id.set key.0) c.loop-id-item.is) (c.loop-id.invariant id)
