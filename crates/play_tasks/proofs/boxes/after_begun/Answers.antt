use Rattle.std.proofs.Common.{inl, subst, Ok}
use Rattle.std.specs.Prelude.{Result}
use Rattle.store_api.specs.declared.machines.Refusal.{Refusal}
use Rattle.session.specs.Sessions.{SessionState}
use Rattle.array_region.specs.declared.getting.Getting.{Getting}
use Rattle.array_region.specs.Getting.{region_rest, region_session, Begins}
use Rattle.play_tasks.specs.Lines.{cells_shown}
use Rattle.play_tasks.specs.inside.Working.{lines_from}
use Rattle.play_tasks.proofs.Machines.{reads-began}
use Rattle.play_tasks.proofs.boxes.after_begun.Goals as goal

pub returns-in-Ok-Again-clause-comes : goal.returns-in-Ok-Again-clause-comes
returns-in-Ok-Again-clause-comes c = λ s p begins task.
    let get = c.in-Ok-Again.get in
    let was = subst (λ (x : Result Getting (SessionState × Refusal)). Begins p s x) c.in-Ok-Again.is begins in
    let is = subst (λ (x : Getting). Begins p s (Ok x)) c.in-Ok-Again.field-0-is was in
    inl (reads-began (cells_shown c.args.line) c.args.line c.args.shown.items p (region_rest get) s (region_session get) (lines_from task c.args.at) is.0 is.1 is.2)
