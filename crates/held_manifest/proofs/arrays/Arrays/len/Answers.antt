use Rattle.std.proofs.Common.{List, None, length, ap, sym, subst, ◌∙◌}
use Rattle.flat_tables.specs.Rows.{Ascends}
use Rattle.manifest_file.specs.declared.manifest.ArrayRefs.{ArrayRefs}
use Rattle.manifest_file.specs.Manifests.{array_key}
use Rattle.held_manifest.proofs.Parts.{arrays_count, arrays_ascend}
use Rattle.held_manifest.proofs.arrays.Arrays.len.Goals as goal

pub returns-clause-count : goal.returns-clause-count
returns-clause-count c = c.len.ensures ∙ sym (arrays_count c.self.inside.vector c.self.invariant.0) ∙ ap length c.self.view_is

pub returns-clause-order : goal.returns-clause-order
returns-clause-order c = subst (λ (xs : List ArrayRefs). Ascends array_key None xs) c.self.view_is (arrays_ascend c.self.inside.vector c.self.invariant.0)
