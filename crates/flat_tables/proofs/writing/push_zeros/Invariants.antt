use Rattle.std.proofs.Common.{◌≡◌, ◌++◌}
use Rattle.flat_tables.specs.Layout.{zeros}
use Rattle.flat_tables.proofs.writing.push_zeros.Given as goal

abbrev pub invariant-loop : goal.invariant-loop
invariant-loop l = l.out.items ≡ l.fn.out.items ++ zeros l.counter
