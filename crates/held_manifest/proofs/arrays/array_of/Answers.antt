use Rattle.std.proofs.Common.{◌+◌, sym, ◌∙◌, arith}
use borrow.Author.Tests.{ltb-false}
use Rattle.flat_tables.specs.Rows.{each, in_order}
use Rattle.file_fields.proofs.WasRead.{rows_count}
use Rattle.manifest_file.specs.Manifests.{refs_limit, ref_key, ref_at}
use Rattle.held_manifest.proofs.arrays.array_of.Goals as goal

pub returns-clause-few : goal.returns-clause-few
returns-clause-few c =
    let v = c.in-Some.vector in
    let count = rows_count (in_order ref_key 1 (each (ref_at v))) v.count c.in_ok-refs.refs (sym c.in_ok-refs.ensures) in
    let within = ltb-false refs_limit (c.args.before + c.len.result) (sym c.pass_limit.ensures ∙ c.if-pass_limit.false) in
    omega (arith, count, within, c.len.ensures)
