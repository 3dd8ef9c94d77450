use Rattle.std.proofs.Common.{arith}
use Rattle.std.proofs.lemmas.Result.{err_from_is_err_and}
use Rattle.flat_tables.specs.Rows.{each}
use Rattle.flat_tables.proofs.Loop.{each_goes_on, each_faulty, all_read}
use Rattle.snapshot_file.specs.Nodes.{name_at}
use Rattle.snapshot_file.proofs.node_reading.names_in.Goals as goal

pub returns-in_err-name_at : goal.returns-in_err-name_at
returns-in_err-name_at c =
    let v = c.args.vector.now in
    let p = err_from_is_err_and c.from_residual.result c.from_residual.ensures.1 in
    rw (p.1, p.2) (each_faulty (name_at v) v.count c.loop-at.names.items c.loop-at.at c.in_err-name_at.field-0.0 c.loop-at.invariant (omega arith) c.in_err-name_at.ensures)

pub loop-at-preserved : goal.loop-at-preserved
loop-at-preserved c =
    let v = c.args.vector.now in
    rw c.in_ok-push.ensures.items (each_goes_on (name_at v) v.count c.loop-at.names.items c.loop-at.at c.in_ok-name_at.field-0 c.loop-at.invariant (omega arith) c.in_ok-name_at.ensures)

pub returns : goal.returns
returns c =
    let v = c.args.vector.now in
    rw c.from_vec.ensures (all_read (each (name_at v)) v.count c.loop-at.names.items c.loop-at.at c.loop-at.invariant (omega arith))
