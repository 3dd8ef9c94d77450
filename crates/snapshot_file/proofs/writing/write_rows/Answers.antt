use Rattle.std.proofs.Common.{◌≡◌, ◌++◌, arith, rules}
use Rattle.std.proofs.lemmas.Result.{err_from_is_err_and}
use Rattle.flat_tables.specs.declared.header.Kind.TheVariants as kinds
use Rattle.flat_tables.specs.Header.{header}
use Rattle.flat_tables.specs.Layout.{payload}
use Rattle.flat_tables.proofs.Files.{length_file}
use Rattle.snapshot_file.specs.Heads.{with_nodes}
use Rattle.snapshot_file.specs.Layout.{snapshot_block, snapshot_bytes}
use Rattle.snapshot_file.proofs.Again.{snapshot_again}
use Rattle.snapshot_file.proofs.writing.write_rows.Goals as goal

pub returns-in_err-payload-clause-written : goal.returns-in_err-payload-clause-written
unfolding snapshot_bytes
returns-in_err-payload-clause-written g c =
    let p = err_from_is_err_and c.from_residual.result c.from_residual.ensures.1 in
    let len = length_file kinds.Snapshot (payload (snapshot_block (with_nodes c.args.head.now (g.S.RowSource.rows c.args.rows.now)))) in
    rw (p.1, p.2, len) c.in_err-payload.ensures.written

pub returns-clause-written : goal.returns-clause-written
unfolding snapshot_bytes
returns-clause-written g c =
    let bytes = payload (snapshot_block (with_nodes c.args.head.now (g.S.RowSource.rows c.args.rows.now))) in
    let e : c.in_ok-with_header.field-0.items ≡ header kinds.Snapshot ++ bytes = search rules in
    (e, omega (arith, length_file kinds.Snapshot bytes, c.in_ok-payload.ensures.written.1))

pub returns-clause-again : goal.returns-clause-again
unfolding snapshot_bytes
returns-clause-again g c =
    let s = with_nodes c.args.head.now (g.S.RowSource.rows c.args.rows.now) in
    let e : c.in_ok-with_header.field-0.items ≡ snapshot_bytes s = search rules in
    rw e (snapshot_again s c.in_ok-payload.ensures.sized c.requires (omega (arith, c.in_ok-payload.ensures.written.1)))
