use Rattle.std.proofs.Common.{sym, subst, ◌∙◌}
use Rattle.std.specs.Prelude.{IsOk, Result, Option}
use Rattle.flat_tables.specs.declared.fault.FlatFault.{FlatFault}
use Rattle.flat_tables.specs.Places.{VectorIn, vector_of}
use Rattle.snapshot_file.specs.Snapshots.{few_properties_in, properties_of}
use Rattle.held_manifest.proofs.Checked.{read_ok}
use Rattle.held_manifest.proofs.Parts.{sized}
use Rattle.held_snapshot.proofs.Parts.{found_ok, none_was, some_was}
use Rattle.held_snapshot.proofs.props.held_properties.Goals as goal

pub unwrap-requires : goal.unwrap-requires
unfolding properties_of
unwrap-requires c = subst (λ (r : Result (Option VectorIn) FlatFault). IsOk r) (sym c.vector.ensures.read) (found_ok (vector_of c.args.table.now 5 4) few_properties_in c.requires)

pub invariant_of-result : goal.invariant_of-result
unfolding properties_of
invariant_of-result c =
    let same = some_was (vector_of c.args.table.now 5 4) few_properties_in c.in-Some.vector (sym c.vector.ensures.read ∙ c.in-Some.ensures) in
    (subst (λ r. IsOk r) same c.requires, sized c.vector.result _ c.in-Some.vector 4 c.vector.ensures.size c.unwrap.ensures c.in-Some.is)

pub returns-in-None : goal.returns-in-None
unfolding properties_of
returns-in-None c = none_was (vector_of c.args.table.now 5 4) few_properties_in (sym c.vector.ensures.read ∙ c.in-None.ensures)

pub returns-in-Some : goal.returns-in-Some
unfolding properties_of
returns-in-Some c =
    let same = some_was (vector_of c.args.table.now 5 4) few_properties_in c.in-Some.vector (sym c.vector.ensures.read ∙ c.in-Some.ensures) in
    same ∙ read_ok (few_properties_in c.in-Some.vector) (subst (λ r. IsOk r) same c.requires)
