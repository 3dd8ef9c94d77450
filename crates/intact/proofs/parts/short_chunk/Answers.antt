use Rattle.std.proofs.Common.{List, [], Option, unwrap_or, ap, sym, ◌∙◌}
use Rattle.manifest_file.specs.declared.manifest.ChunkRef.{ChunkRef}
use Rattle.intact.specs.Parts.{first_short}
use Rattle.intact.proofs.parts.short_chunk.Goals as goal

pub returns-in-None : goal.returns-in-None
unfolding first_short
returns-in-None c = sym (ap (λ (o : Option (List ChunkRef)). first_short c.args.visit.now.want (unwrap_or o [])) (sym c.node.ensures ∙ c.in-None.is))
