use Rattle.std.proofs.Common.{ap, ◌∙◌}
use Rattle.held_snapshot.specs.LookUp.{is_array}
use Rattle.held_snapshot.proofs.Parts.{array_or_not}
use Rattle.held_snapshot.proofs.kinds.HeldKind.is_array.Goals as goal

pub returns : goal.returns
returns c = c.is_some.ensures ∙ array_or_not c.self.inside.array c.self.invariant ∙ ap is_array c.self.view_is
