use Rattle.std.proofs.Common.{refl, sym, ap, subst, ◌∙◌, Result, Err}
use Rattle.store_api.specs.declared.machines.Refusal.{Refusal}
use Rattle.session.specs.Sessions.{SessionState, writes}
use Rattle.session.specs.Viewed.{viewed}
use Rattle.session.specs.Editing.{Leaves, prop_added}
use Rattle.session.proofs.PropAdding.{prop-read_only, prop-refused, prop-done}
use Rattle.session.proofs.session.Session.add_prop.Goals as goal
use Rattle.session.proofs.session.Session.add_prop.Goals.{in-Ok, in-Err}

pub returns-then-not-writes : goal.returns-then-not-writes
returns-then-not-writes c = (prop-read_only c.args.self.now c.args.name.now c.args.value.now (sym c.writes.ensures ∙ c.if-not-writes.true), refl)

pub returns : goal.returns
returns c =
    let v = viewed c.self.inside in
    let new = viewed (record c.self.inside { props = c.add.new.self }) in
    let at_view : Leaves (prop_added v c.args.name.now c.args.value.now) v c.match-add.result new = elim c.match-add.branch [
      | in-Ok w ↦
          subst (λ (r : Result (Unit {0}) Refusal). Leaves (prop_added v c.args.name.now c.args.value.now) v r new) (sym w.result-is)
          (prop-done v c.args.name.now c.args.value.now c.add.new.self (ap writes c.self.view_is ∙ (sym c.writes.ensures ∙ c.if-not-writes.false)) w.in-Ok.ensures.none w.in-Ok.ensures.added)
      | in-Err w ↦
          subst (λ (r : Result (Unit {0}) Refusal). Leaves (prop_added v c.args.name.now c.args.value.now) v r new) (sym (w.result-is ∙ ap (λ (r : Refusal). Err r) w.refusal_of_prop.ensures))
          (prop-refused v c.args.name.now c.args.value.now c.add.new.self w.in-Err.fault (ap writes c.self.view_is ∙ (sym c.writes.ensures ∙ c.if-not-writes.false)) w.in-Err.ensures.refused w.in-Err.ensures.kept)
    ] in
    subst (λ (s : SessionState). Leaves (prop_added s c.args.name.now c.args.value.now) s c.match-add.result new) c.self.view_is at_view
