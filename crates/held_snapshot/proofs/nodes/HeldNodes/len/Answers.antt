use Rattle.std.proofs.Common.{List, None, length, ap, sym, subst, ◌∙◌}
use Rattle.flat_tables.specs.Rows.{each, Ascends}
use Rattle.snapshot_file.specs.declared.nodes.NodeRow.{NodeRow}
use Rattle.snapshot_file.specs.Nodes.{node_at}
use Rattle.snapshot_file.specs.Snapshots.{node_key}
use Rattle.held_manifest.proofs.Checked.{count_ok, ascends_ok}
use Rattle.held_snapshot.proofs.nodes.HeldNodes.len.Goals as goal

pub returns-clause-count : goal.returns-clause-count
returns-clause-count c =
    let v = c.self.inside.vector in
    c.len.ensures ∙ sym (count_ok node_key 2 (each (node_at v)) v.count c.self.invariant.0) ∙ ap length c.self.view_is

pub returns-clause-order : goal.returns-clause-order
returns-clause-order c =
    let v = c.self.inside.vector in
    subst (λ (xs : List NodeRow). Ascends node_key None xs) c.self.view_is (ascends_ok node_key 2 (each (node_at v)) v.count c.self.invariant.0)
