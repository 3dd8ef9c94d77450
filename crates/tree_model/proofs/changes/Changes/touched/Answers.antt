use Rattle.tree_model.specs.Models.{held_of, tree_of}
use Rattle.tree_model.proofs.Listed.{listed}
use Rattle.tree_model.proofs.changes.Changes.touched.Goals as goal

pub returns : goal.returns
returns c =
    listed (held_of c.args.self.now) (tree_of c.args.tree.now) (record {
      new_groups = c.in_ok-new_ids.field-0;
      new_arrays = c.in_ok-new_ids-2.field-0;
      deleted_groups = c.in_ok-deleted_ids.field-0;
      deleted_arrays = c.in_ok-deleted_ids-2.field-0;
      updated_arrays = c.in_ok-updated_ids.field-0;
      updated_groups = c.in_ok-updated_ids-2.field-0;
      updated_chunks = c.in_ok-chunks_in.field-0;
    }) c.in_ok-under.under c.in_ok-under.ensures c.in_ok-new_ids.ensures c.in_ok-new_ids-2.ensures c.in_ok-deleted_ids.ensures c.in_ok-deleted_ids-2.ensures
    c.in_ok-updated_ids.ensures c.in_ok-updated_ids-2.ensures c.in_ok-chunks_in.ensures
