use Rattle.zarr_changes.proofs.set.ChangeSet.net.Goals as goal

pub returns : goal.returns
returns g c = λ i. record {
  new_groups = c.in_ok-new.ensures.0 i;
  new_arrays = c.in_ok-new.ensures.1 i;
  deleted_groups = c.in_ok-deleted.ensures.0 i;
  deleted_arrays = c.in_ok-deleted.ensures.1 i;
  updated_arrays = c.in_ok-updated.ensures.1 i;
  updated_groups = c.in_ok-updated.ensures.0 i;
  updated_chunks = c.in_ok-updated_chunks.ensures i;
}
