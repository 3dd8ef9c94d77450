use Rattle.std.proofs.Common.{ap, sym, ◌∙◌}
use Rattle.std.specs.FinMap.{len}
use Rattle.snapshot_file.specs.declared.snapshot.SnapshotFile.{SnapshotFile}
use Rattle.repo_objects.specs.Trees.{nodes_in}
use Rattle.repo_objects.proofs.Metas.{same_length}
use Rattle.repo_objects.proofs.Rows.{len-nodes}
use Rattle.repo_objects.proofs.loaded_snapshot.LoadedTreeLike.len.Goals as goal

pub returns : goal.returns
returns c =
    let rows = c.self.inside.held.nodes in
    c.len.ensures ∙ same_length rows c.self.inside.metas c.self.invariant.1 ∙ sym (len-nodes rows c.self.invariant.0.nodes)
    ∙ ap (λ (s : SnapshotFile). len (nodes_in s.nodes)) c.self.view_is
