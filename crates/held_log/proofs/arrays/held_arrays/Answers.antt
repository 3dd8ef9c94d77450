use Rattle.std.proofs.Common.{ap, sym, subst, ◌∙◌}
use Rattle.std.specs.Prelude.{IsOk, Result, Option}
use Rattle.flat_tables.specs.declared.fault.FlatFault.{FlatFault}
use Rattle.flat_tables.specs.Places.{VectorIn, vector_of}
use Rattle.txn_file.specs.Logs.{arrays_in, arrays_of}
use Rattle.held_manifest.specs.Views.{rows_or_none}
use Rattle.held_manifest.proofs.Parts.{sized}
use Rattle.held_log.proofs.Parts.{found_ok, none_was, some_was}
use Rattle.held_log.proofs.arrays.held_arrays.Goals as goal

pub unwrap-requires : goal.unwrap-requires
unfolding arrays_of
unwrap-requires c = subst (λ (r : Result (Option VectorIn) FlatFault). IsOk r) (sym c.vector.ensures.read) (found_ok (vector_of c.args.table.now 7 4) arrays_in c.requires)

pub invariant_of-result : goal.invariant_of-result
unfolding arrays_of
invariant_of-result c =
    let same = some_was (vector_of c.args.table.now 7 4) arrays_in c.in-Some.vector (sym c.vector.ensures.read ∙ c.in-Some.ensures) in
    (subst (λ r. IsOk r) same c.requires, sized c.vector.result _ c.in-Some.vector 4 c.vector.ensures.size c.unwrap.ensures c.in-Some.is)

pub returns-in-None : goal.returns-in-None
unfolding arrays_of
returns-in-None c = none_was (vector_of c.args.table.now 7 4) arrays_in (sym c.vector.ensures.read ∙ c.in-None.ensures)

pub returns-in-Some : goal.returns-in-Some
unfolding arrays_of
returns-in-Some c = ap rows_or_none (sym (some_was (vector_of c.args.table.now 7 4) arrays_in c.in-Some.vector (sym c.vector.ensures.read ∙ c.in-Some.ensures)))
