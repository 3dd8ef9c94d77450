use Rattle.std.proofs.Common.{ℕ, List, None, length, ap, sym, subst, ◌∙◌}
use Rattle.flat_tables.specs.Rows.{Ascends}
use Rattle.file_fields.specs.Fields.{index_key}
use Rattle.held_log.proofs.Parts.{indices_count, indices_ascend}
use Rattle.held_log.proofs.indices.IndexVector.len.Goals as goal

pub returns-clause-count : goal.returns-clause-count
returns-clause-count c = c.len.ensures ∙ sym (indices_count c.self.inside.vector c.self.invariant.0) ∙ ap length c.self.view_is

pub returns-clause-order : goal.returns-clause-order
returns-clause-order c = subst (λ (xs : List (List ℕ)). Ascends index_key None xs) c.self.view_is (indices_ascend c.self.inside.vector c.self.invariant.0)
