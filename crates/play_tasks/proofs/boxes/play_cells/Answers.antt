use Rattle.std.proofs.Common.{◌≡◌, ℤ, List, subst}
use Rattle.store_api.specs.Running.{Program}
use Rattle.store_api.specs.Plays.{call}
use Rattle.session.specs.Sessions.{SessionState}
use Rattle.array_region.specs.declared.plans.Region.{Region}
use Rattle.array_region.specs.Reading.{region_program}
use Rattle.script_calls.specs.declared.calls.CellBox.{CellBox}
use Rattle.play_tasks.specs.Lines.{cells_shown}
use Rattle.play_tasks.specs.inside.Working.{after_get, PlayComes, IsBoxOf}
use Rattle.play_tasks.proofs.boxes.play_cells.Goals as goal

-- the box is the line's
same : (s : SessionState) (place : CellBox) (region : Region) → IsBoxOf place region → region_program s region.path region.from.items region.to.items ≡ region_program s place.path place.from place.to
same s place region is = λ i. region_program s (is.path i) (is.from i) (is.to i)

pub returns-clause-comes : goal.returns-clause-comes
returns-clause-comes c = λ access.
    let s = c.args.session in
    let region = c.in-Ok.region in
    let line = c.args.line in
    let shown = c.args.shown.items in
    subst (λ (p : Program (List ℤ)). PlayComes line c.args.at shown (λ rest. call p (after_get (cells_shown line) line shown s rest)) c.after_begun.result) (same s c.args.place.now region c.in-Ok.ensures)
    (c.after_begun.ensures.comes s (region_program s region.path region.from.items region.to.items) c.start.ensures.begins)

pub returns-clause-clean : goal.returns-clause-clean
returns-clause-clean c =
    let region = c.in-Ok.region in
    c.after_begun.ensures.clean c.args.session (region_program c.args.session region.path region.from.items region.to.items) c.start.ensures.begins
