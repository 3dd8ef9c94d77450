use Rattle.std.proofs.Common.{sym, ◌∙◌, ap, Err}
use Rattle.ice_ids.specs.declared.Id12.{Id12}
use Rattle.ice_ids.specs.Text.{same_id12}
use Rattle.file_fields.proofs.Bytes.{bytes_pass}
use Rattle.repo_objects.specs.declared.bad_objects.Bad.TheVariants.{WrongId}
use Rattle.repo_objects.proofs.Steps.{manifest_fault, manifest_same, manifest_other}
use Rattle.repo_objects.proofs.readings.manifest_hold.Goals as goal

pub returns-in-Err : goal.returns-in-Err
returns-in-Err c = sym (manifest_fault c.args.id c.args.file c.in-Err.fault (bytes_pass c.args.file c.as_slice-bytes.ensures.bytes) c.in-Err.ensures.1)

pub returns-then-eq : goal.returns-then-eq
returns-then-eq c =
    sym (manifest_same c.args.id c.args.file c.in-Ok.held (bytes_pass c.args.file c.as_slice-bytes.ensures.bytes) c.in-Ok.ensures
    (ap (λ (i : Id12). same_id12 i c.args.id) (sym c.id.ensures) ∙ sym c.if-eq.ensures))

pub returns : goal.returns
returns c =
    ap (λ (i : Id12). Err (WrongId i)) c.id-else-eq.ensures
    ∙ sym (manifest_other c.args.id c.args.file c.in-Ok.held (bytes_pass c.args.file c.as_slice-bytes.ensures.bytes) c.in-Ok.ensures
    (ap (λ (i : Id12). same_id12 i c.args.id) (sym c.id.ensures) ∙ sym c.if-eq.ensures))
