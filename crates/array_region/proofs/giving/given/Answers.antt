use Rattle.std.proofs.Common.{◌≡◌, ◌∙◌, None, sym, ap}
use Rattle.array_region.specs.Writing.{cells_refused}
use Rattle.array_region.proofs.Ranged.{not_refused}
use Rattle.array_region.proofs.giving.given.Goals as goal

pub invariant_of-result : goal.invariant_of-result
invariant_of-result c =
    let p = c.args.plan in
    let none : cells_refused p.array.kind p.count c.args.numbers.items ≡ None = sym (ap (cells_refused p.array.kind p.count) c.as_slice.ensures.value) ∙ sym c.refused.ensures ∙ c.in_default.is in
    let are = not_refused p.array.kind p.count c.args.numbers.items none in record { whole = are.whole; range = are.range }
