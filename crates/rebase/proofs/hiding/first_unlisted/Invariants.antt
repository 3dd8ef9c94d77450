use Rattle.std.proofs.Common.{◌≡◌, drop}
use Rattle.rebase.specs.inside.Working.{first_unlisted}
use Rattle.rebase.proofs.hiding.first_unlisted.Given as goal

-- the ids so far are in the set
abbrev pub invariant-loop-id : goal.invariant-loop-id
invariant-loop-id l = first_unlisted (drop l.id-index l.ids) l.set ≡ first_unlisted l.ids l.set
