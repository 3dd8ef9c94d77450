use Rattle.std.proofs.Common.{◌≡◌, Some, None, sym, ap, subst, ◌∙◌}
use Rattle.ice_ids.specs.declared.drawing.AnyIds.{AnyIds}
use Rattle.ice_ids.specs.Drawing.{drawn12}
use Rattle.session.specs.Sessions.{SessionState}
use Rattle.session.specs.Viewed.{viewed}
use Rattle.session.proofs.Chunking.{IsPut, put_drawn}
use Rattle.session.proofs.session.Session.set_object.Goals as goal

pub returns-clause-sets : goal.returns-clause-sets
returns-clause-sets c =
    let v = viewed c.self.inside in
    let after = viewed (record c.self.inside { ids = c.next12.new.self }) in
    let drawn : drawn12 v.ids ≡ Some c.in-Some.id = sym c.next12.ensures.drawn ∙ c.in-Some.is in
    subst (IsPut after c.args.node c.args.index c.args.bytes c.in-Some.id) c.self.view_is
    (put_drawn v after c.args.node c.args.index c.args.bytes c.in-Some.id drawn (ap (λ (ids : AnyIds). record v { ids = ids }) c.next12.ensures.after))

pub returns-clause-spent : goal.returns-clause-spent
returns-clause-spent c = λ none.
    let drawn : drawn12 (viewed c.self.inside).ids ≡ Some c.in-Some.id = sym c.next12.ensures.drawn ∙ c.in-Some.is in
    let spent : drawn12 (viewed c.self.inside).ids ≡ None = ap (λ (s : SessionState). drawn12 s.ids) c.self.view_is ∙ none in
    let apart = sym drawn ∙ spent in absurd (cc)
