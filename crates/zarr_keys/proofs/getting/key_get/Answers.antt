use Rattle.std.proofs.Common.{ap, ◌∙◌}
use Rattle.std.specs.Prelude.{Some}
use Rattle.zarr_path.specs.declared.keys.ZarrKey.TheVariants.{Meta, Chunk}
use Rattle.zarr_keys.proofs.Keying.{gets_at, get_refused}
use Rattle.zarr_keys.proofs.getting.key_get.Goals as goal

pub returns-in-Ok-Meta-clause-read : goal.returns-in-Ok-Meta-clause-read
returns-in-Ok-Meta-clause-read c = gets_at c.args.session c.args.key.now (Meta c.in-Ok-Meta.path) c.get_node.result (c.in-Ok-Meta.ensures ∙ ap Some c.in-Ok-Meta.field-0-is) c.get_node.ensures.read

pub returns-in-Ok-Chunk-clause-read : goal.returns-in-Ok-Chunk-clause-read
returns-in-Ok-Chunk-clause-read c = gets_at c.args.session c.args.key.now (Chunk c.in-Ok-Chunk.path c.in-Ok-Chunk.index) c.get_value.result (c.in-Ok-Chunk.ensures ∙ ap Some c.in-Ok-Chunk.field-0-is) c.get_value.ensures.read

pub returns-in-Err-clause-read : goal.returns-in-Err-clause-read
returns-in-Err-clause-read c = get_refused c.args.session c.args.key.now c.in-Err.why c.in-Err.ensures
