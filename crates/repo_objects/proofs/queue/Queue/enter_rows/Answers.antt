use Rattle.std.proofs.Common.{List, ap, sym, ◌∙◌, arith}
use Rattle.std.proofs.lemmas.List.{drop_all}
use Rattle.snapshot_file.specs.declared.nodes.NodeRow.{NodeRow}
use Rattle.held_snapshot.proofs.Made.{from_here}
use Rattle.repo_objects.specs.Lines.{enter_rows}
use Rattle.repo_objects.proofs.queue.Queue.enter_rows.Goals as goal

pub loop-at-preserved : goal.loop-at-preserved
loop-at-preserved c =
    let here = ap (λ (rows : List NodeRow). enter_rows rows c.loop-at.self) (from_here c.args.rows.now c.loop-at.at c.at.result c.at.ensures) in
    rw (c.in_ok-enter_refs.ensures, c.manifests.ensures) (sym here ∙ c.loop-at.invariant)

pub returns : goal.returns
returns c = ap (λ (rows : List NodeRow). enter_rows rows c.loop-at.self) (sym (drop_all c.loop-at.at c.args.rows.now (omega (arith, c.len-at-end.ensures.count)))) ∙ c.loop-at.invariant
