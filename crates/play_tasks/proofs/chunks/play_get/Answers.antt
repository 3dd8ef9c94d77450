use Rattle.std.proofs.Common.{inl, subst, Ok}
use Rattle.session.specs.Chunks.{get_program}
use Rattle.session.specs.declared.getting.Getting.{Getting}
use Rattle.session.specs.Getting.{get_rest, get_session, GetBegun}
use Rattle.play_tasks.specs.inside.Working.{lines_from}
use Rattle.play_tasks.proofs.Calm.{get-calm}
use Rattle.play_tasks.proofs.Locals.{well_refused}
use Rattle.play_tasks.proofs.Machines.{get-why, calm-why, get-began}
use Rattle.play_tasks.proofs.chunks.play_get.Goals as goal

pub returns-in-Ok-Again-clause-comes : goal.returns-in-Ok-Again-clause-comes
returns-in-Ok-Again-clause-comes c = λ access task.
    let s = c.args.session in
    let get = c.in-Ok-Again.get in
    let p = get_program s c.args.path.now c.args.index.now in
    let is = subst (λ (x : Getting). GetBegun p s (Ok x)) c.in-Ok-Again.field-0-is c.in-Ok-Again.ensures.read in
    inl (get-began c.args.line c.args.shown.items p (get_rest get) s (get_session get) (lines_from task c.args.at) is.0 is.1 is.2)

pub returns-in-Err-clause-clean : goal.returns-in-Err-clause-clean
returns-in-Err-clause-clean c =
    let s = c.args.session in
    let p = get_program s c.args.path.now c.args.index.now in
    well_refused c.refuse-in-Err.result c.args.line c.args.shown.items c.in-Err.why c.refuse-in-Err.ensures
    (calm-why p c.in-Err.why (get-calm s c.args.path.now c.args.index.now) (get-why p s c.in-Err.session c.in-Err.why c.in-Err.ensures.read))
