use Rattle.std.proofs.Common.{◌∙◌, sym, ap, subst}
use Rattle.store_api.specs.Running.{Program}
use Rattle.session.specs.Sessions.{SessionState}
use Rattle.session.specs.Chunks.{set_program}
use Rattle.session.specs.Placing.{set_allowed}
use Rattle.session.proofs.Places.{allowed}
use Rattle.array_region.specs.Setting.{run_entered, Places}
use Rattle.array_region.proofs.Objects.{may_place}
use Rattle.array_region.proofs.runs.Run.place.Goals as goal

pub returns-in-Ok-may_set-clause-places : goal.returns-in-Ok-may_set-clause-places
returns-in-Ok-may_set-clause-places c =
    let m = c.args.self.now in
    let path = m.given.plan.region.path in
    let a = allowed m.session path c.args.index _ (sym c.in-Ok-may_set.is ∙ c.may_set.ensures ∙ ap (set_allowed m.session path c.args.index) c.len-len.ensures) in
    subst (λ (p : Program SessionState). Places p m c.place_bytes.new.self c.place_bytes.result)
    (may_place m.session path c.args.index c.in-Ok.bytes m.placed.items a ∙ ap (set_program (run_entered m) path c.args.index) c.in-Ok.ensures) c.place_bytes.ensures.places
