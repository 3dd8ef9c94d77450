use Rattle.std.proofs.Common.{refl, sym, ap, subst, ◌∙◌, Result, Err}
use Rattle.store_api.specs.declared.machines.Refusal.{Refusal}
use Rattle.session.specs.Sessions.{SessionState, base_nodes, writes}
use Rattle.session.specs.Viewed.{viewed}
use Rattle.session.specs.Editing.{Leaves, node_dropped}
use Rattle.session.proofs.Changing.{drop-read_only, drop-refused, drop-done, few-dropped}
use Rattle.session.proofs.session.Session.drop_node.Goals as goal
use Rattle.session.proofs.session.Session.drop_node.Goals.{in-Ok, in-Err}

pub returns-then-not-writes : goal.returns-then-not-writes
returns-then-not-writes c = (drop-read_only c.args.self.now c.args.path.now (sym c.writes.ensures ∙ c.if-not-writes.true), refl)

pub invariant_of-self : goal.invariant_of-self
invariant_of-self c = few-dropped c.self.inside.changes (base_nodes (viewed c.self.inside)) c.args.path.now c.drop_node.new.self c.drop_node.result c.self.invariant c.drop_node.ensures

pub returns : goal.returns
returns c =
    let v = viewed c.self.inside in
    let new = viewed (record c.self.inside { changes = c.drop_node.new.self }) in
    let at_view : Leaves (node_dropped v c.args.path.now) v c.match-drop_node.result new = elim c.match-drop_node.branch [
      | in-Ok w ↦
          subst (λ (r : Result (Unit {0}) Refusal). Leaves (node_dropped v c.args.path.now) v r new) (sym w.result-is)
          (drop-done v c.args.path.now c.drop_node.new.self tt (ap writes c.self.view_is ∙ (sym c.writes.ensures ∙ c.if-not-writes.false)) w.in-Ok.ensures)
      | in-Err w ↦
          subst (λ (r : Result (Unit {0}) Refusal). Leaves (node_dropped v c.args.path.now) v r new) (sym (w.result-is ∙ ap (λ (r : Refusal). Err r) w.refusal_of_edit.ensures))
          (drop-refused v c.args.path.now c.drop_node.new.self w.in-Err.fault (ap writes c.self.view_is ∙ (sym c.writes.ensures ∙ c.if-not-writes.false)) w.in-Err.ensures)
    ] in
    subst (λ (s : SessionState). Leaves (node_dropped s c.args.path.now) s c.match-drop_node.result new) c.self.view_is at_view
