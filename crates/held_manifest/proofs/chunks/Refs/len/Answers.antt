use Rattle.std.proofs.Common.{List, None, length, ap, sym, subst, ◌∙◌}
use Rattle.flat_tables.specs.Rows.{Ascends}
use Rattle.manifest_file.specs.declared.manifest.ChunkRef.{ChunkRef}
use Rattle.manifest_file.specs.Manifests.{ref_key}
use Rattle.held_manifest.proofs.Parts.{refs_count, refs_ascend}
use Rattle.held_manifest.proofs.chunks.Refs.len.Goals as goal

pub returns-clause-count : goal.returns-clause-count
returns-clause-count c = c.len.ensures ∙ sym (refs_count c.self.inside.vector c.self.invariant.0) ∙ ap length c.self.view_is

pub returns-clause-order : goal.returns-clause-order
returns-clause-order c = subst (λ (xs : List ChunkRef). Ascends ref_key None xs) c.self.view_is (refs_ascend c.self.inside.vector c.self.invariant.0)
