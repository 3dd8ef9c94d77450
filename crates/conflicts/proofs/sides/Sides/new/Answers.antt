use Rattle.std.proofs.Common.{◌∙◌, ℕ, List, ap}
use Rattle.std.specs.List.{list_any}
use Rattle.ice_ids.specs.declared.Id8.{Id8}
use Rattle.ice_ids.specs.Text.{same_id8}
use Rattle.zarr_tree.specs.Touched.{lists}
use Rattle.zarr_changes.specs.declared.keys.ChangeKeys.{ChangeKeys}
use Rattle.conflicts.proofs.Steps.{meta-keys, chunk-keys}
use Rattle.conflicts.proofs.sides.Sides.new.Goals as goal

pub invariant_of-result : goal.invariant_of-result
invariant_of-result g c = record {
  dropped = λ id. c.in_ok-sets.ensures.dropped id ∙ ap (λ (keys : ChangeKeys). lists keys.dropped id) c.in_ok-keys.ensures;
  metas = λ id. c.in_ok-sets.ensures.metas id ∙ ap (λ (keys : ChangeKeys). lists keys.metas id) c.in_ok-keys.ensures ∙ meta-keys c.args.mine.now.metas id;
  arrays = λ id. c.in_ok-sets.ensures.arrays id ∙ ap (λ (keys : ChangeKeys). list_any (λ (key : Id8 × List ℕ). same_id8 key.0 id) keys.chunks) c.in_ok-keys.ensures ∙ chunk-keys c.args.mine.now.chunks id;
  added = ap (λ (keys : ChangeKeys). keys.added) c.in_ok-keys.ensures;
  news = c.in_ok-news.ensures;
  ordered = c.requires;
}
