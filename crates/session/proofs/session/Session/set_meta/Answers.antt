use Rattle.std.proofs.Common.{refl, sym, ap, subst, ◌∙◌, Result, Err}
use Rattle.std.proofs.lemmas.Result.{err_from_is_err_and}
use Rattle.store_api.specs.declared.machines.Refusal.{Refusal}
use Rattle.session.specs.Sessions.{SessionState, base_nodes, writes}
use Rattle.session.specs.Viewed.{viewed}
use Rattle.session.specs.Editing.{Leaves, meta_set}
use Rattle.session.proofs.Changing.{set-read_only, set-bad_text, set-refused, set-done, few-set}
use Rattle.session.proofs.session.Session.set_meta.Goals as goal
use Rattle.session.proofs.session.Session.set_meta.Goals.{in-Ok, in-Err}

pub returns-then-not-writes : goal.returns-then-not-writes
returns-then-not-writes c = (set-read_only c.args.self.now c.args.path.now c.args.text.now (sym c.writes.ensures ∙ c.if-not-writes.true), refl)

pub returns-in_err-meta : goal.returns-in_err-meta
returns-in_err-meta c =
    let p = err_from_is_err_and c.from_residual.result c.from_residual.ensures.1 in
    rw (p.1, p.2, c.read_node.ensures.same)
    (set-bad_text c.args.self.now c.args.path.now c.args.text.now c.in_err-meta.field-0.0 (sym c.writes.ensures ∙ c.if-not-writes.false) c.in_err-meta.ensures.reads)

pub invariant_of-self : goal.invariant_of-self
invariant_of-self c = few-set c.self.inside.changes (base_nodes (viewed c.self.inside)) c.args.path.now c.in_ok-meta.meta.text c.set_meta.new.self c.set_meta.result c.self.invariant c.set_meta.ensures

pub returns : goal.returns
returns c =
    let v = viewed c.self.inside in
    let new = viewed (record c.self.inside { changes = c.set_meta.new.self }) in
    let at_view : Leaves (meta_set v c.args.path.now c.args.text.now) v c.match-set_meta.result new = elim c.match-set_meta.branch [
      | in-Ok w ↦
          subst (λ (r : Result (Unit {0}) Refusal). Leaves (meta_set v c.args.path.now c.args.text.now) v r new) (sym w.result-is)
          (set-done v c.args.path.now c.args.text.now c.in_ok-meta.meta c.set_meta.new.self tt (ap writes (c.self.view_is ∙ c.read_node.ensures.same) ∙ (sym c.writes.ensures ∙ c.if-not-writes.false)) c.in_ok-meta.ensures.reads w.in-Ok.ensures)
      | in-Err w ↦
          subst (λ (r : Result (Unit {0}) Refusal). Leaves (meta_set v c.args.path.now c.args.text.now) v r new) (sym (w.result-is ∙ ap (λ (r : Refusal). Err r) w.refusal_of_edit.ensures))
          (set-refused v c.args.path.now c.args.text.now c.in_ok-meta.meta c.set_meta.new.self w.in-Err.fault (ap writes (c.self.view_is ∙ c.read_node.ensures.same) ∙ (sym c.writes.ensures ∙ c.if-not-writes.false)) c.in_ok-meta.ensures.reads w.in-Err.ensures)
    ] in
    subst (λ (s : SessionState). Leaves (meta_set s c.args.path.now c.args.text.now) s c.match-set_meta.result new) (c.self.view_is ∙ c.read_node.ensures.same) at_view
