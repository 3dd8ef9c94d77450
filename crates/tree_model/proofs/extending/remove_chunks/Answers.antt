use Rattle.std.proofs.Common.{rules, not, ℕ, List}
use Rattle.std.proofs.lemmas.Fn.{filter_same}
use Rattle.zarr_tree.specs.Held.{HeldEntry}
use Rattle.zarr_tree.specs.Touched.{lists}
use Rattle.tree_model.proofs.extending.remove_chunks.Goals as goal

pub returns : goal.returns
returns c = filter_same _ (λ (row : HeldEntry (List ℕ)). not (lists c.args.ids.now row.0)) _ (λ row b f k. search rules) _ _ c.retain.ensures.filtered
