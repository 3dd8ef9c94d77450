use Rattle.std.proofs.Common.{◌≡◌, ◌++◌, arith, rules}
use Rattle.std.proofs.lemmas.Result.{err_from_is_err_and}
use Rattle.flat_tables.specs.declared.header.Kind.TheVariants as kinds
use Rattle.flat_tables.specs.Header.{header}
use Rattle.flat_tables.specs.Layout.{payload}
use Rattle.flat_tables.proofs.Files.{length_file}
use Rattle.txn_file.specs.Layout.{log_block, log_file}
use Rattle.txn_file.proofs.Again.{txn_again}
use Rattle.txn_file.proofs.writing.write.Goals as goal

pub returns-in_err-payload-clause-written : goal.returns-in_err-payload-clause-written
unfolding log_file
returns-in_err-payload-clause-written c =
    let p = err_from_is_err_and c.from_residual.result c.from_residual.ensures.1 in
    let len = length_file kinds.Log (payload (log_block c.args.log.now)) in
    rw (p.1, p.2, len) c.in_err-payload.ensures.written

pub returns-clause-written : goal.returns-clause-written
unfolding log_file
returns-clause-written c =
    let bytes = payload (log_block c.args.log.now) in
    let len = length_file kinds.Log bytes in
    let e : c.extend_from_slice-2.new.self.items ≡ header kinds.Log ++ bytes = search rules in
    (e, omega (arith, len, c.in_ok-payload.ensures.written.1))

pub returns-clause-again : goal.returns-clause-again
unfolding log_file
returns-clause-again c =
    let bytes = payload (log_block c.args.log.now) in
    let e : c.extend_from_slice-2.new.self.items ≡ log_file c.args.log.now = search rules in
    rw e (txn_again c.args.log.now c.in_ok-payload.ensures.sized c.requires (omega (arith, c.in_ok-payload.ensures.written.1)))
