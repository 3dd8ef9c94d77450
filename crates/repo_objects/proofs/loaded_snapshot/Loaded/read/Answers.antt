use Rattle.std.proofs.Common.{List, Err, sym, ap, ◌∙◌}
use Rattle.std.proofs.lemmas.Result.{err_from_is_err_and}
use Rattle.std.proofs.lemmas.Bool.{not-true, not-false}
use Rattle.ice_ids.specs.declared.Id12.{Id12}
use Rattle.ice_ids.specs.Text.{same_id12}
use Rattle.file_fields.proofs.Bytes.{bytes_pass}
use Rattle.snapshot_file.specs.declared.nodes.NodeRow.{NodeRow}
use Rattle.repo_objects.specs.declared.bad_objects.Bad.TheVariants.{WrongId}
use Rattle.repo_objects.specs.Readings.{first_bad}
use Rattle.repo_objects.proofs.Steps.{snapshot_fault, snapshot_other, snapshot_bad, snapshot_same}
use Rattle.repo_objects.proofs.loaded_snapshot.Loaded.read.Goals as goal

pub returns-in-Err : goal.returns-in-Err
returns-in-Err c = snapshot_fault c.args.id c.args.file c.in-Err.fault (bytes_pass c.args.file c.as_slice-bytes.ensures.bytes) c.in-Err.ensures.1

pub returns-then-ne : goal.returns-then-ne
returns-then-ne c =
    let other = ap (λ (i : Id12). same_id12 i c.args.id) (sym c.id.ensures) ∙ not-true _ (sym c.ne.ensures ∙ c.if-ne.true) in
    snapshot_other c.args.id c.args.file c.in-Ok.held (bytes_pass c.args.file c.as_slice-bytes.ensures.bytes) c.in-Ok.ensures other
    ∙ ap (λ (i : Id12). Err (WrongId i)) (sym c.id-then-ne.ensures)

pub returns-in_err-metas : goal.returns-in_err-metas
returns-in_err-metas c =
    let err = err_from_is_err_and c.from_residual.result c.from_residual.ensures.1 in
    let same = ap (λ (i : Id12). same_id12 i c.args.id) (sym c.id.ensures) ∙ not-false _ (sym c.ne.ensures ∙ c.if-ne.false) in
    rw (err.1, err.2) (snapshot_bad c.args.id c.args.file c.in-Ok.held _ _ (bytes_pass c.args.file c.as_slice-bytes.ensures.bytes) c.in-Ok.ensures same c.nodes.ensures c.in_err-metas.ensures)

pub returns : goal.returns
returns c =
    let same = ap (λ (i : Id12). same_id12 i c.args.id) (sym c.id.ensures) ∙ not-false _ (sym c.ne.ensures ∙ c.if-ne.false) in
    snapshot_same c.args.id c.args.file c.in-Ok.held (bytes_pass c.args.file c.as_slice-bytes.ensures.bytes) c.in-Ok.ensures same (ap (λ (rows : List NodeRow). first_bad 0 rows) (sym c.nodes.ensures) ∙ c.in_ok-metas.ensures.0)
