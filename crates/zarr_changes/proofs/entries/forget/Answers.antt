use Rattle.std.proofs.Common.{◌∙◌}
use Rattle.zarr_changes.proofs.EntryLaws.{row-removed}
use Rattle.zarr_changes.proofs.entries.forget.Goals as goal

pub returns : goal.returns
returns c = c.remove.ensures.entries ∙ row-removed c.args.chunks.now.entries c.args.index.now c.len-ordered.ensures.ordered
