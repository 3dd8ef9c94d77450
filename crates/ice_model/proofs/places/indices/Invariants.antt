use Rattle.std.proofs.Common.{◌≡◌, length}
use Rattle.ice_model.proofs.places.indices.Given as goal

abbrev pub invariant-loop-numbers : goal.invariant-loop-numbers
invariant-loop-numbers l = length l.all ≡ l.numbers-index
