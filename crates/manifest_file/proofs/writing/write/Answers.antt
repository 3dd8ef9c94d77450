use Rattle.std.proofs.Common.{◌≡◌, ◌++◌, arith, rules}
use Rattle.std.proofs.lemmas.Result.{err_from_is_err_and}
use Rattle.flat_tables.specs.declared.header.Kind.TheVariants as kinds
use Rattle.flat_tables.specs.Header.{header}
use Rattle.flat_tables.specs.Layout.{payload}
use Rattle.flat_tables.proofs.Files.{length_file}
use Rattle.manifest_file.specs.Layout.{manifest_block, file_bytes}
use Rattle.manifest_file.proofs.Again.{manifest_again}
use Rattle.manifest_file.proofs.writing.write.Goals as goal

pub returns-in_err-payload-clause-written : goal.returns-in_err-payload-clause-written
unfolding file_bytes
returns-in_err-payload-clause-written c =
    let p = err_from_is_err_and c.from_residual.result c.from_residual.ensures.1 in
    let len = length_file kinds.Manifest (payload (manifest_block c.args.manifest.now)) in
    rw (p.1, p.2, len) c.in_err-payload.ensures.written

pub returns-clause-written : goal.returns-clause-written
unfolding file_bytes
returns-clause-written c =
    let bytes = payload (manifest_block c.args.manifest.now) in
    let len = length_file kinds.Manifest bytes in
    let e : c.extend_from_slice-2.new.self.items ≡ header kinds.Manifest ++ bytes = search rules in
    (e, omega (arith, len, c.in_ok-payload.ensures.written.1))

pub returns-clause-again : goal.returns-clause-again
unfolding file_bytes
returns-clause-again c =
    let e : c.extend_from_slice-2.new.self.items ≡ file_bytes c.args.manifest.now = search rules in
    rw e (manifest_again c.args.manifest.now c.in_ok-payload.ensures.sized c.requires (omega (arith, c.in_ok-payload.ensures.written.1)))
