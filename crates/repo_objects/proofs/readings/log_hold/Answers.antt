use Rattle.std.proofs.Common.{sym, ◌∙◌, ap, Err}
use Rattle.ice_ids.specs.declared.Id12.{Id12}
use Rattle.ice_ids.specs.Text.{same_id12}
use Rattle.repo_objects.specs.declared.bad_objects.Bad.TheVariants.{WrongId}
use Rattle.repo_objects.proofs.Steps.{log_fault, log_same, log_other}
use Rattle.repo_objects.proofs.readings.log_hold.Goals as goal

pub returns-in-Err : goal.returns-in-Err
returns-in-Err c = sym (log_fault c.args.id c.args.file c.in-Err.fault c.in-Err.ensures.1)

pub returns-then-eq : goal.returns-then-eq
returns-then-eq c =
    sym (log_same c.args.id c.args.file c.in-Ok.log c.in-Ok.ensures
    (ap (λ (i : Id12). same_id12 i c.args.id) (sym c.id.ensures) ∙ sym c.if-eq.ensures))

pub returns : goal.returns
returns c =
    ap (λ (i : Id12). Err (WrongId i)) c.id-else-eq.ensures
    ∙ sym (log_other c.args.id c.args.file c.in-Ok.log c.in-Ok.ensures
    (ap (λ (i : Id12). same_id12 i c.args.id) (sym c.id.ensures) ∙ sym c.if-eq.ensures))
