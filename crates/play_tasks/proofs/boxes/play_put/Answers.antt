use Rattle.std.proofs.Common.{◌≡◌, ℤ, List, subst}
use Rattle.store_api.specs.Running.{Program}
use Rattle.store_api.specs.Plays.{call}
use Rattle.session.specs.Sessions.{SessionState}
use Rattle.array_region.specs.declared.plans.Region.{Region}
use Rattle.array_region.specs.Writing.{region_set_program}
use Rattle.script_calls.specs.declared.calls.CellBox.{CellBox}
use Rattle.play_tasks.specs.inside.Working.{after_set, PlayComes, IsBoxOf}
use Rattle.play_tasks.proofs.boxes.play_put.Goals as goal

-- the box and the numbers are the line's
same : (s : SessionState) (place : CellBox) (region : Region) (numbers given : List ℤ) → IsBoxOf place region → numbers ≡ given → region_set_program s region.path region.from.items region.to.items numbers ≡ region_set_program s place.path place.from place.to given
same s place region numbers given is e = λ i. region_set_program s (is.path i) (is.from i) (is.to i) (e i)

pub returns-clause-comes : goal.returns-clause-comes
returns-clause-comes c = λ access.
    let s = c.args.session in
    let region = c.in-Ok.region in
    let numbers = c.in-Ok.numbers.items in
    let line = c.args.line in
    let shown = c.args.shown.items in
    subst (λ (p : Program SessionState). PlayComes line c.args.at shown (λ rest. call p (after_set line shown rest)) c.after_put.result) (same s c.args.place.now region numbers c.args.numbers.now c.in-Ok.ensures.0 c.in-Ok.ensures.1)
    (c.after_put.ensures.comes s (region_set_program s region.path region.from.items region.to.items numbers) c.start-came.ensures.begins)

pub returns-clause-clean : goal.returns-clause-clean
returns-clause-clean c =
    let region = c.in-Ok.region in
    c.after_put.ensures.clean c.args.session (region_set_program c.args.session region.path region.from.items region.to.items c.in-Ok.numbers.items) c.start-came.ensures.begins
