use Rattle.std.proofs.Common.{List, sym, ap, ◌∙◌}
use Rattle.zarr_changes.specs.declared.placing.Before.{Before}
use Rattle.zarr_changes.specs.inside.Placing.{all_back}
use Rattle.zarr_changes.proofs.PlacedLaws.{none_back, back_last}
use Rattle.zarr_changes.proofs.placing.put_all_back.Goals as goal

pub loop-last-preserved : goal.loop-last-preserved
loop-last-preserved c =
    ap (all_back c.pop.new.self.items) c.put_back.ensures
    ∙ sym (back_last c.pop.new.self.items c.in-Some.last c.loop-last.chunks.entries)
    ∙ ap (λ (bs : List Before). all_back bs c.loop-last.chunks.entries) (sym c.in-Some.ensures.items)
    ∙ c.loop-last.invariant

pub returns : goal.returns
returns c = sym (none_back c.loop-last.before.items c.loop-last.chunks.entries (sym c.loop-last.before.ok.0 ∙ c.in_default.ensures.cases.0)) ∙ c.loop-last.invariant
