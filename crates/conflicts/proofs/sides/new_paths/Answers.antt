use Rattle.std.proofs.Common.{ℕ, List, map, Bor, arith}
use Rattle.std.specs.FinMap.{entries, len-entries}
use Rattle.zarr_tree.specs.Nodes.{Node}
use Rattle.zarr_tree.specs.Rows.{node_found}
use Rattle.zarr_tree.specs.Touched.{lists_new}
use Rattle.conflicts.proofs.Steps.{one-path, all-paths}
use Rattle.conflicts.proofs.sides.new_paths.Goals as goal

pub loop-at-preserved : goal.loop-at-preserved
loop-at-preserved g c =
    one-path (λ (row : List ℕ × Node). lists_new c.args.theirs.now row.1.id) (entries (g.U.TreeLike.nodes c.args.after.now)) c.loop-at.at
    (map (λ (text : Bor (List ℕ)). text.now) c.loop-at.news.items) (map (λ (text : Bor (List ℕ)). text.now) c.push_new.new.news.items) _
    (c.row.result.0.now, node_found c.row.result.1) c.row.ensures.row c.in_ok-push_new.ensures c.loop-at.invariant

pub returns : goal.returns
returns g c =
    all-paths (λ (row : List ℕ × Node). lists_new c.args.theirs.now row.1.id) (entries (g.U.TreeLike.nodes c.args.after.now)) c.loop-at.at
    (map (λ (text : Bor (List ℕ)). text.now) c.loop-at.news.items) _ (omega (arith, c.loop-at-test.false, c.len-at-end.ensures, len-entries (g.U.TreeLike.nodes c.args.after.now))) c.loop-at.invariant
