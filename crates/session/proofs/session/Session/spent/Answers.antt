use Rattle.std.proofs.Common.{◌≡◌, refl, sym, ap, subst, ◌∙◌, Err, None}
use Rattle.ice_ids.specs.Drawing.{drawn8}
use Rattle.store_api.specs.declared.machines.Refusal.{Refusal}
use Rattle.store_api.specs.declared.machines.Refusal.TheVariants as R
use Rattle.session.specs.Sessions.{SessionState}
use Rattle.session.specs.Viewed.{viewed}
use Rattle.session.specs.Editing.{Adds, entered, refusal_of_edit}
use Rattle.session.proofs.Adding.{refused, spent}
use Rattle.session.proofs.session.Session.spent.Goals as goal

pub returns-in-Ok : goal.returns-in-Ok
returns-in-Ok c = λ text.
    let v = viewed c.self.inside in
    let none : drawn8 v.ids ≡ None = ap (λ (s : SessionState). drawn8 s.ids) c.self.view_is ∙ c.requires in
    let at_view = spent v c.args.path.now text c.in-Ok.field-0 (sym c.in-Ok.is ∙ c.may_add.ensures) none in
    (subst (λ (s : SessionState). entered s c.args.path.now text ≡ Err R.IdsSpent) c.self.view_is at_view, refl)

pub returns-in-Err : goal.returns-in-Err
returns-in-Err c = λ text.
    let at_view = refused (viewed c.self.inside) c.args.path.now text c.in-Err.fault (sym c.in-Err.is ∙ c.may_add.ensures) in
    let at_now = subst (λ (s : SessionState). Adds (entered s c.args.path.now text) s (Err (refusal_of_edit c.in-Err.fault)) s) c.self.view_is at_view in
    subst (λ (r : Refusal). Adds (entered c.args.self.now c.args.path.now text) c.args.self.now (Err r) c.args.self.now) (sym c.refusal_of_edit.ensures) at_now
