use Rattle.std.proofs.Common.{List, None, length, ap, sym, subst, ◌∙◌}
use Rattle.flat_tables.specs.Rows.{Ascends}
use Rattle.zarr_tree.specs.declared.lists.ArrayChunks.{ArrayChunks}
use Rattle.txn_file.specs.Logs.{array_key}
use Rattle.held_log.proofs.Parts.{arrays_count, arrays_ascend}
use Rattle.held_log.proofs.arrays.ArrayVector.len.Goals as goal

pub returns-clause-count : goal.returns-clause-count
returns-clause-count c = c.len.ensures ∙ sym (arrays_count c.self.inside.vector c.self.invariant.0) ∙ ap length c.self.view_is

pub returns-clause-order : goal.returns-clause-order
returns-clause-order c = subst (λ (xs : List ArrayChunks). Ascends array_key None xs) c.self.view_is (arrays_ascend c.self.inside.vector c.self.invariant.0)
