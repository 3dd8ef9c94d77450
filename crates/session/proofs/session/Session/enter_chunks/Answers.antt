use Rattle.std.proofs.Common.{◌≡◌, List, ℕ, Some, None, sym, ap, subst, ◌∙◌}
use Rattle.std.specs.Prelude.{OnOk, option_map}
use Rattle.std.specs.FinMap.{get}
use Rattle.zarr_tree.specs.Rows.{node_found}
use Rattle.session.specs.Sessions.{SessionState, base_nodes, nodes_seen}
use Rattle.session.specs.Viewed.{viewed}
use Rattle.session.specs.Placing.{with_places}
use Rattle.session.proofs.Places.{places-none, places-entered, few-placed}
use Rattle.session.proofs.session.Session.enter_chunks.Goals as goal

pub invariant_of-self : goal.invariant_of-self
invariant_of-self c =
    few-placed c.enter_chunks.result c.self.inside.changes c.enter_chunks.new.self (base_nodes (viewed c.self.inside)) c.in-Some.found.id c.args.placed.items c.self.invariant c.enter_chunks.ensures.ok c.enter_chunks.ensures.err

pub returns-in-Some-clause-ok : goal.returns-in-Some-clause-ok
returns-in-Some-clause-ok c =
    let v = viewed c.self.inside in
    let there : get (nodes_seen v) c.args.path.now ≡ Some (node_found c.in-Some.found) =
    ap (λ (p : List ℕ). get (nodes_seen v) p) (sym c.as_str.ensures.value) ∙ sym c.lookup.ensures ∙ ap (option_map node_found) c.in-Some.is in
    subst (λ (s : SessionState). OnOk c.enter_chunks.result (record v { held = c.enter_chunks.new.self } ≡ with_places s c.args.path.now c.args.placed.items)) c.self.view_is
    (places-entered c.args.path.now c.enter_chunks.result c.args.placed.items v (node_found c.in-Some.found) c.enter_chunks.new.self there c.enter_chunks.ensures.ok)

pub returns-in-None-clause-ok : goal.returns-in-None-clause-ok
returns-in-None-clause-ok c =
    let v = viewed c.self.inside in
    let none : get (nodes_seen v) c.args.path.now ≡ None =
    ap (λ (p : List ℕ). get (nodes_seen v) p) (sym c.as_str.ensures.value) ∙ sym c.lookup.ensures ∙ ap (option_map node_found) c.in-None.is in
    sym (places-none c.args.path.now c.args.placed.items c.args.self.now (ap (λ (s : SessionState). get (nodes_seen s) c.args.path.now) (sym c.self.view_is) ∙ none))
