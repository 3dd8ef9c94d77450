use Rattle.std.proofs.Common.{refl, sym, ap, subst, ◌∙◌}
use Rattle.std.proofs.lemmas.Result.{err_from_is_err_and}
use Rattle.session.specs.Sessions.{SessionState, writes}
use Rattle.session.specs.Editing.{Adds, node_added, node_fault}
use Rattle.session.proofs.Adding.{read_only, bad_text, added_text}
use Rattle.session.proofs.session.Session.add_node.Goals as goal

pub returns-then-not-writes : goal.returns-then-not-writes
returns-then-not-writes c = (read_only node_fault c.args.self.now c.args.path.now c.args.text.now (sym c.writes.ensures ∙ c.if-not-writes.true), refl)

pub returns-in_err-meta : goal.returns-in_err-meta
returns-in_err-meta c =
    let p = err_from_is_err_and c.from_residual.result c.from_residual.ensures.1 in
    rw (p.1, p.2, c.read_node.ensures.same)
    (bad_text node_fault c.args.self.now c.args.path.now c.args.text.now c.in_err-meta.field-0.0 (sym c.writes.ensures ∙ c.if-not-writes.false) c.in_err-meta.ensures.reads)

pub returns : goal.returns
returns c =
    subst (λ (s : SessionState). Adds (node_added s c.args.path.now c.args.text.now) s c.add.result c.add.new.self) c.read_node.ensures.same
    (added_text node_fault c.read_node.new.self c.args.path.now c.args.text.now c.in_ok-meta.meta c.add.new.self c.add.result (ap writes c.read_node.ensures.same ∙ (sym c.writes.ensures ∙ c.if-not-writes.false)) c.in_ok-meta.ensures.reads c.add.ensures)
