use Rattle.std.proofs.Common.{◌≡◌, ◌∙◌, false, sym, ap}
use Rattle.zarr_tree.specs.Rows.{node_found}
use Rattle.zarr_changes.specs.Sets.{has_chunks}
use Rattle.held_log.specs.LookUp.{chunks_listed}
use Rattle.conflicts.specs.Found.{Sides}
use Rattle.conflicts.proofs.Steps.{twice-next, none-both}
use Rattle.conflicts.proofs.sides.Sides.push_twice.Goals as goal

pub returns-then-not-contains : goal.returns-then-not-contains
returns-then-not-contains g c =
    let own : has_chunks c.args.self.now.held.chunks c.args.node.id ≡ false =
    sym (ap (λ (s : Sides). has_chunks s.held.chunks c.args.node.id) c.self.view_is) ∙ sym (c.self.invariant.arrays c.args.node.id) ∙ sym c.contains.ensures ∙ c.if-not-contains.true in
    none-both c.args.self.now c.args.path.now (node_found c.args.node) c.args.found.now own

pub loop-at-preserved : goal.loop-at-preserved
loop-at-preserved g c =
    twice-next c.args.self.now c.args.path.now c.args.node.id (chunks_listed c.args.self.now.theirs.updated_chunks c.args.node.id) c.loop-at.at c.at.result c.loop-at.found c.push_chunk.new.found _
    (sym (ap (λ xs. Rattle.std.specs.Prelude.slice_get xs c.loop-at.at) c.chunks_listed-listed.ensures) ∙ c.at.ensures) c.in_ok-push_chunk.ensures c.loop-at.invariant
