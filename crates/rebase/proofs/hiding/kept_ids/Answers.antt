use Rattle.std.proofs.Common.{arith}
use Rattle.std.specs.FinMap.{entries, len-entries}
use Rattle.repo_objects.specs.Trees.{nodes_in}
use Rattle.zarr_tree.specs.Rows.{node_found}
use Rattle.rebase.proofs.Keeping.{one-kept, all-kept}
use Rattle.rebase.proofs.hiding.kept_ids.Goals as goal

pub loop-at-preserved : goal.loop-at-preserved
loop-at-preserved c = λ id.
    one-kept c.args.held.now.metas (entries (nodes_in c.args.tree.now.nodes)) c.loop-at.at id c.loop-at.kept c.enter_kept.new.kept (c.row.result.0.now, node_found c.row.result.1) c.row.ensures.row (c.in_ok-enter_kept.ensures id) (c.loop-at.invariant id)

pub returns : goal.returns
returns c = λ id.
    all-kept c.args.held.now.metas (entries (nodes_in c.args.tree.now.nodes)) c.loop-at.at id c.loop-at.kept (omega (arith, c.loop-at-test.false, c.len-at-end.ensures, len-entries (nodes_in c.args.tree.now.nodes))) (c.loop-at.invariant id)
