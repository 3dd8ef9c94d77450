use Rattle.std.proofs.Common.{◌≡◌, ◌∙◌, ap, subst, Ok}
use Rattle.std.specs.Prelude.{not, IsOk}
use Rattle.std.specs.FinMap.{get}
use Rattle.zarr_tree.specs.Rows.{node_found}
use Rattle.session.specs.Sessions.{SessionState, nodes_seen}
use Rattle.session.specs.Viewed.{viewed}
use Rattle.session.specs.Editing.{listed}
use Rattle.session.proofs.SeenRows.{list-there, listed-there}
use Rattle.session.proofs.session.Session.list_beneath.Goals as goal

pub returns-in-Ok-as_listings-clause-told : goal.returns-in-Ok-as_listings-clause-told
returns-in-Ok-as_listings-clause-told c =
    let at_view = listed-there node_found c.lookup.result (viewed c.self.inside) c.args.path.now c.in-Ok.rows.items c.in-Ok-as_listings.list (c.is_none.ensures ∙ ap not c.if-is_none.false) (c.lookup.ensures ∙ ap (get (nodes_seen (viewed c.self.inside))) c.as_str.ensures.value) c.in-Ok.ensures c.in-Ok-as_listings.ensures in
    subst (λ (s : SessionState). listed s c.args.path.now ≡ Ok c.in-Ok-as_listings.list) c.self.view_is at_view

pub returns-in_default-clause-memory : goal.returns-in_default-clause-memory
returns-in_default-clause-memory c = λ is.
    subst (λ (s : SessionState). IsOk (listed s c.args.path.now)) c.self.view_is
    (list-there node_found c.lookup.result (viewed c.self.inside) c.args.path.now (c.is_none.ensures ∙ ap not c.if-is_none.false) (c.lookup.ensures ∙ ap (get (nodes_seen (viewed c.self.inside))) c.as_str.ensures.value))

pub returns-in-Err-clause-memory : goal.returns-in-Err-clause-memory
returns-in-Err-clause-memory c = λ is.
    subst (λ (s : SessionState). IsOk (listed s c.args.path.now)) c.self.view_is
    (list-there node_found c.lookup.result (viewed c.self.inside) c.args.path.now (c.is_none.ensures ∙ ap not c.if-is_none.false) (c.lookup.ensures ∙ ap (get (nodes_seen (viewed c.self.inside))) c.as_str.ensures.value))
