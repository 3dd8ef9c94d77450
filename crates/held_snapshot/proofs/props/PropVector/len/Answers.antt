use Rattle.std.proofs.Common.{ℕ, List, length, ap, sym, subst, ◌∙◌}
use Rattle.flat_tables.specs.Rows.{each}
use Rattle.snapshot_file.specs.Props.{prop_key, AreProps}
use Rattle.snapshot_file.specs.Snapshots.{property_at, properties_in}
use Rattle.snapshot_file.proofs.PropsRead.{in_vector}
use Rattle.held_manifest.specs.Views.{rows_or_none}
use Rattle.held_manifest.proofs.Checked.{read_ok, count_ok}
use Rattle.held_snapshot.proofs.Parts.{some_properties}
use Rattle.held_snapshot.proofs.props.PropVector.len.Goals as goal

pub returns-clause-count : goal.returns-clause-count
returns-clause-count c =
    let v = c.self.inside.vector in
    let few = some_properties v c.self.invariant.0 in
    c.len.ensures ∙ sym (count_ok prop_key 5 (each (property_at v)) v.count few.ok) ∙ ap (λ r. length (rows_or_none r)) (sym few.is) ∙ ap length c.self.view_is

pub returns-clause-rule : goal.returns-clause-rule
returns-clause-rule c =
    let v = c.self.inside.vector in
    let few = some_properties v c.self.invariant.0 in
    let are = in_vector v _ few.few (read_ok (properties_in v) few.ok) in
    subst (λ (xs : List (List ℕ × List ℕ)). AreProps xs) (ap (λ r. rows_or_none r) (sym few.is) ∙ c.self.view_is) are
