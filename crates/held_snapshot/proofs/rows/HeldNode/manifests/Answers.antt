use Rattle.std.proofs.Common.{ap, sym, ◌∙◌}
use Rattle.snapshot_file.specs.declared.nodes.NodeKind.{NodeKind}
use Rattle.snapshot_file.specs.Snapshots.{manifests_named}
use Rattle.held_snapshot.proofs.Parts.{group_names_none}
use Rattle.held_snapshot.proofs.rows.HeldNode.manifests.Goals as goal

pub returns-then-not-is_array : goal.returns-then-not-is_array
returns-then-not-is_array c =
    c.none.ensures ∙ sym (group_names_none c.args.self.now.kind (sym c.is_array.ensures ∙ c.if-not-is_array.true))

pub returns : goal.returns
returns c = c.manifests.ensures ∙ ap (λ (k : NodeKind). manifests_named k) c.kind.ensures
