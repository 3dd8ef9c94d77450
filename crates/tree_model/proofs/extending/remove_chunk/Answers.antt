use Rattle.std.proofs.Common.{rules, not, ◌&&◌, ℕ, List}
use Rattle.std.proofs.lemmas.Fn.{filter_same}
use Rattle.ice_ids.specs.Text.{same_id8}
use Rattle.zarr_tree.specs.Nodes.{same_numbers}
use Rattle.zarr_tree.specs.Held.{HeldEntry}
use Rattle.tree_model.proofs.extending.remove_chunk.Goals as goal

pub returns : goal.returns
returns c = filter_same _ (λ (row : HeldEntry (List ℕ)). not (same_id8 row.0 c.args.id.now && same_numbers row.1 c.args.index.now)) _ (λ row b f k. search rules) _ _ c.retain.ensures.filtered
