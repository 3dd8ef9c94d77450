use Rattle.std.proofs.Common.{◌≡◌, ℕ, List, true, ap, sym, subst, ◌∙◌}
use Rattle.zarr_path.specs.Paths.{is_path}
use Rattle.snapshot_file.specs.declared.nodes.NodeRow.{NodeRow}
use Rattle.held_manifest.proofs.Checked.{gives_ok, gives_same}
use Rattle.held_snapshot.proofs.Parts.{some_node}
use Rattle.held_snapshot.proofs.rows.HeldNode.path.Goals as goal

pub unwrap-requires : goal.unwrap-requires
unwrap-requires c =
    let parts = some_node c.self.inside.at c.self.inside.table c.self.invariant in
    gives_ok (λ text. text.now) c.text_in.result _ _ c.text_in.ensures parts.path_is

pub returns-clause-value : goal.returns-clause-value
returns-clause-value c =
    let parts = some_node c.self.inside.at c.self.inside.table c.self.invariant in
    gives_same (λ text. text.now) c.text_in.result _ c.unwrap.result _ c.text_in.ensures c.unwrap.ensures parts.path_is ∙ ap (λ (r : NodeRow). r.path) c.self.view_is

pub returns-clause-path : goal.returns-clause-path
returns-clause-path c =
    let parts = some_node c.self.inside.at c.self.inside.table c.self.invariant in
    let same = gives_same (λ text. text.now) c.text_in.result _ c.unwrap.result _ c.text_in.ensures c.unwrap.ensures parts.path_is in
    subst (λ (p : List ℕ). is_path p ≡ true) (sym same) parts.proper
