use Rattle.std.proofs.Common.{length, ap, sym, ◌∙◌}
use Rattle.snapshot_file.specs.Nodes.{dimension_of}
use Rattle.held_snapshot.proofs.Made.{made_count}
use Rattle.held_snapshot.proofs.pairs.HeldShape.len.Goals as goal

pub returns : goal.returns
returns c = c.len.ensures ∙ sym (made_count dimension_of c.self.inside.vector) ∙ ap length c.self.view_is
