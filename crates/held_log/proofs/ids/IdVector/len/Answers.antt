use Rattle.std.proofs.Common.{List, None, length, ap, sym, subst, ◌∙◌}
use Rattle.ice_ids.specs.declared.Id8.{Id8}
use Rattle.flat_tables.specs.Rows.{Ascends}
use Rattle.file_fields.specs.Fields.{id_key}
use Rattle.held_log.proofs.Parts.{ids_count, ids_ascend}
use Rattle.held_log.proofs.ids.IdVector.len.Goals as goal

pub returns-clause-count : goal.returns-clause-count
returns-clause-count c = c.len.ensures ∙ sym (ids_count c.self.inside.slot c.self.inside.vector c.self.invariant.0) ∙ ap length c.self.view_is

pub returns-clause-order : goal.returns-clause-order
returns-clause-order c = subst (λ (xs : List Id8). Ascends id_key None xs) c.self.view_is (ids_ascend c.self.inside.slot c.self.inside.vector c.self.invariant.0)
