use Rattle.std.proofs.Common.{sym, subst, ◌∙◌}
use Rattle.std.specs.Prelude.{IsOk, Result, Option}
use Rattle.flat_tables.specs.declared.fault.FlatFault.{FlatFault}
use Rattle.flat_tables.specs.Places.{VectorIn}
use Rattle.held_manifest.proofs.Parts.{sized}
use Rattle.held_snapshot.proofs.Parts.{names_found, no_names, some_names}
use Rattle.held_snapshot.proofs.names.held_names.Goals as goal

pub unwrap-requires : goal.unwrap-requires
unwrap-requires c = subst (λ (r : Result (Option VectorIn) FlatFault). IsOk r) (sym c.vector.ensures.read) (names_found c.args.table.now c.requires)

pub invariant_of-result : goal.invariant_of-result
invariant_of-result c =
    let some = some_names c.args.table.now c.in-Some.vector c.requires (sym c.vector.ensures.read ∙ c.in-Some.ensures) in
    (some.ok, sized c.vector.result _ c.in-Some.vector 4 c.vector.ensures.size c.unwrap.ensures c.in-Some.is)

pub returns-in-None : goal.returns-in-None
returns-in-None c = no_names c.args.table.now (sym c.vector.ensures.read ∙ c.in-None.ensures)

pub returns-in-Some : goal.returns-in-Some
returns-in-Some c =
    let some = some_names c.args.table.now c.in-Some.vector c.requires (sym c.vector.ensures.read ∙ c.in-Some.ensures) in
    some.is
