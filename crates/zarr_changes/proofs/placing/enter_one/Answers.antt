use Rattle.std.proofs.Common.{◌++◌, [], ◌∷◌, Some, sym, ◌∙◌}
use Rattle.std.specs.BTreeMap.{insert_entry}
use Rattle.zarr_path.specs.Indices.{index_cmp}
use Rattle.zarr_changes.specs.inside.Kept.{ChunkRows}
use Rattle.zarr_changes.specs.inside.Placing.{all_back}
use Rattle.zarr_changes.proofs.PlacedLaws.{noted}
use Rattle.zarr_changes.proofs.placing.enter_one.Goals as goal

pub returns-clause-back : goal.returns-clause-back
returns-clause-back c =
    let rows : ChunkRows = c.args.chunks.now.entries in
    let after : ChunkRows = insert_entry index_cmp rows c.in_ok-key.key (Some c.args.placed.place) in
    (λ t. all_back (c.push_reserved.ensures.items t) (c.in_ok-entry.ensures.entries t))
    ∙ (λ t. all_back (c.reserve.ensures.items t ++ (record { index = sym c.in_ok-key.ensures t; entry = c.in_ok-entry.entry }) ∷ []) after)
    ∙ noted c.args.before.now.items c.in_ok-key.key (Some c.args.placed.place) c.in_ok-entry.entry rows c.insert.ensures.was_ordered c.in_ok-entry.ensures.old
