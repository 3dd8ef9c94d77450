use Rattle.std.proofs.Common.{ap, ◌∙◌}
use Rattle.std.specs.Prelude.{Some}
use Rattle.zarr_path.specs.declared.keys.ZarrKey.TheVariants.{Meta, Chunk}
use Rattle.zarr_keys.proofs.Keying.{sets_at, set_refused}
use Rattle.zarr_keys.proofs.setting.key_set.Goals as goal

pub returns-in-Ok-Meta : goal.returns-in-Ok-Meta
returns-in-Ok-Meta c = sets_at c.args.session c.args.key.now c.args.bytes.now (Meta c.in-Ok-Meta.path) c.set_node.result (c.in-Ok-Meta.ensures ∙ ap Some c.in-Ok-Meta.field-0-is) c.set_node.ensures

pub returns-in-Ok-Chunk : goal.returns-in-Ok-Chunk
returns-in-Ok-Chunk c = sets_at c.args.session c.args.key.now c.args.bytes.now (Chunk c.in-Ok-Chunk.path c.in-Ok-Chunk.index) c.set_chunk.result (c.in-Ok-Chunk.ensures ∙ ap Some c.in-Ok-Chunk.field-0-is) c.set_chunk.ensures.sets

pub returns-in-Err : goal.returns-in-Err
returns-in-Err c = set_refused c.args.session c.args.key.now c.args.bytes.now c.in-Err.why c.in-Err.ensures
