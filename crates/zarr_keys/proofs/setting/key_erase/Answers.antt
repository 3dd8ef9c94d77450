use Rattle.std.proofs.Common.{ap, ◌∙◌}
use Rattle.std.specs.Prelude.{Some}
use Rattle.zarr_path.specs.declared.keys.ZarrKey.TheVariants.{Meta, Chunk}
use Rattle.zarr_keys.proofs.Keying.{erases_at, erase_refused}
use Rattle.zarr_keys.proofs.setting.key_erase.Goals as goal

pub returns-in-Ok-Meta : goal.returns-in-Ok-Meta
returns-in-Ok-Meta c = erases_at c.args.session.now c.args.key.now (Meta c.in-Ok-Meta.path) c.drop_node.result c.drop_node.new.self (c.in-Ok-Meta.ensures ∙ ap Some c.in-Ok-Meta.field-0-is) c.drop_node.ensures

pub returns-in-Ok-Chunk : goal.returns-in-Ok-Chunk
returns-in-Ok-Chunk c =
    erases_at c.args.session.now c.args.key.now (Chunk c.in-Ok-Chunk.path c.in-Ok-Chunk.index) c.unset_chunk.result c.unset_chunk.new.self (c.in-Ok-Chunk.ensures ∙ ap Some c.in-Ok-Chunk.field-0-is) c.unset_chunk.ensures

pub returns-in-Err : goal.returns-in-Err
returns-in-Err c = erase_refused c.args.session.now c.args.key.now c.in-Err.why c.in-Err.ensures
