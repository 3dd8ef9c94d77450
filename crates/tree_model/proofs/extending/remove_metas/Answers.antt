use Rattle.std.proofs.Common.{rules, not}
use Rattle.std.proofs.lemmas.Fn.{filter_same}
use Rattle.ice_ids.specs.declared.Id8.{Id8}
use Rattle.zarr_meta.specs.declared.metas.Meta.{Meta}
use Rattle.zarr_tree.specs.Touched.{lists}
use Rattle.tree_model.proofs.extending.remove_metas.Goals as goal

pub returns : goal.returns
returns c = filter_same _ (λ (row : Id8 × Meta). not (lists c.args.ids.now row.0)) _ (λ row b f k. search rules) _ _ c.retain.ensures.filtered
