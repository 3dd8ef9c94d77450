use Rattle.std.proofs.Common.{◌<◌, List, Some, length, ap, sym, subst, ◌∙◌}
use Rattle.std.specs.Prelude.{slice_get}
use Rattle.snapshot_file.specs.declared.nodes.NodeRow.{NodeRow}
use Rattle.snapshot_file.specs.Nodes.{node_at}
use Rattle.snapshot_file.specs.Snapshots.{node_key}
use Rattle.held_manifest.proofs.Checked.{ok_by, ok_same}
use Rattle.held_snapshot.proofs.Walked.{ordered_here}
use Rattle.held_snapshot.proofs.nodes.HeldNodes.at.Goals as goal

pub held_node-requires-clause-below : goal.held_node-requires-clause-below
held_node-requires-clause-below c =
    let v = c.self.inside.vector in
    let here = ordered_here node_key 2 (node_at v) v.count c.args.i c.self.invariant.0 (subst (λ (xs : List NodeRow). c.args.i < length xs) (sym c.self.view_is) c.requires) in
    here.below

pub held_node-requires-clause-read : goal.held_node-requires-clause-read
held_node-requires-clause-read c =
    let v = c.self.inside.vector in
    let here = ordered_here node_key 2 (node_at v) v.count c.args.i c.self.invariant.0 (subst (λ (xs : List NodeRow). c.args.i < length xs) (sym c.self.view_is) c.requires) in
    ok_by (node_at v c.args.i) here.row here.is

pub returns : goal.returns
returns c =
    let v = c.self.inside.vector in
    let here = ordered_here node_key 2 (node_at v) v.count c.args.i c.self.invariant.0 (subst (λ (xs : List NodeRow). c.args.i < length xs) (sym c.self.view_is) c.requires) in
    let same = ok_same here.row c.held_node.result (sym here.is ∙ c.held_node.ensures) in
    ap (λ (xs : List NodeRow). slice_get xs c.args.i) (sym c.self.view_is) ∙ here.at ∙ ap (λ (r : NodeRow). Some r) same
