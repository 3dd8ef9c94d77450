use Rattle.std.proofs.Common.{◌≡◌, ◌∙◌, ℕ, List, length, Some, sym, ap, arith}
use Rattle.std.specs.Prelude.{slice_get}
use Rattle.std.specs.FinMap.{entries, len, len-entries}
use Rattle.zarr_tree.specs.Nodes.{Node}
use Rattle.zarr_tree.specs.Rows.{node_found}
use Rattle.conflicts.specs.Found.{Sides, of_row}
use Rattle.conflicts.proofs.Steps.{one-pushed, all-pushed}
use Rattle.conflicts.proofs.sides.Sides.push_rest.Goals as goal

pub loop-at-preserved : goal.loop-at-preserved
loop-at-preserved g c =
    let row : List ℕ × Node = (c.row.result.0.now, node_found c.row.result.1) in
    let stands : slice_get (entries c.args.self.now.before) c.loop-at.at ≡ Some row = ap (λ (s : Sides). slice_get (entries s.before) c.loop-at.at) (sym c.self.view_is) ∙ c.row.ensures.row in
    one-pushed (of_row c.args.self.now) (entries c.args.self.now.before) c.loop-at.at c.loop-at.found c.push_row.new.found _ row stands c.in_ok-push_row.ensures c.loop-at.invariant

pub returns : goal.returns
returns g c =
    let many : c.len-at-end.result ≡ length (entries c.args.self.now.before) = c.len-at-end.ensures ∙ ap (λ (s : Sides). len s.before) c.self.view_is ∙ len-entries c.args.self.now.before in
    all-pushed (of_row c.args.self.now) (entries c.args.self.now.before) c.loop-at.at c.loop-at.found _ (omega (arith, c.loop-at-test.false, many)) c.loop-at.invariant
