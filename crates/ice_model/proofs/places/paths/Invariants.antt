use Rattle.std.proofs.Common.{◌≡◌, length}
use Rattle.ice_model.proofs.places.paths.Given as goal

abbrev pub invariant-loop-text : goal.invariant-loop-text
invariant-loop-text l = length l.all ≡ l.text-index
