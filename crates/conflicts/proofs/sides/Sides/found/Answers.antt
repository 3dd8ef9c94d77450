use Rattle.std.proofs.Common.{◌≡◌, ◌∙◌, ap, arith}
use Rattle.std.specs.FinMap.{keys}
use Rattle.conflicts.specs.Found.{Sides}
use Rattle.conflicts.proofs.Steps.{all-found}
use Rattle.conflicts.proofs.sides.Sides.found.Goals as goal

pub returns : goal.returns
returns g c =
    let paths : c.as_slice-path-items.result.now ≡ keys c.args.self.now.held.added = c.as_slice-path-items.ensures ∙ c.self.invariant.added ∙ ap (λ (s : Sides). keys s.held.added) c.self.view_is in
    all-found c.args.self.now c.as_slice-path-items.result.now c.loop-path.path-index c.loop-path.at c.loop-path.found c.push_rest.new.found (omega arith) paths c.in_ok-push_rest.ensures c.loop-path.invariant
