use Rattle.std.proofs.Common.{length, ap, sym, ◌∙◌}
use Rattle.snapshot_file.specs.Nodes.{manifest_at}
use Rattle.held_snapshot.proofs.Walked.{walked_count}
use Rattle.held_snapshot.proofs.manifests.ManifestVector.len.Goals as goal

pub returns : goal.returns
returns c = c.len.ensures ∙ sym (walked_count (manifest_at c.self.inside.vector) c.self.inside.vector.count c.self.invariant.0) ∙ ap length c.self.view_is
