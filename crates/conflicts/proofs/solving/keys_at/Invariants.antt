use Rattle.std.proofs.Common.{◌≡◌, ◌++◌, drop}
use Rattle.conflicts.specs.Solving.{keys_in}
use Rattle.conflicts.proofs.solving.keys_at.Given as goal

abbrev pub invariant-loop-place : goal.invariant-loop-place
invariant-loop-place g l = l.keys ++ keys_in (g.T.TreeLike.nodes l.tree) (drop l.place-index l.places) ≡ keys_in (g.T.TreeLike.nodes l.tree) l.places
