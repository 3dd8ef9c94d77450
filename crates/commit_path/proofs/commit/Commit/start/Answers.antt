use Rattle.std.proofs.Common.{sym, ◌∙◌, ap, subst}
use Rattle.session.specs.Sessions.{SessionState, base_nodes}
use Rattle.commit_path.specs.Committing.{IsDrawn, ids_for}
use Rattle.commit_path.proofs.Ascending.{these-ascend}
use Rattle.commit_path.proofs.Walking.{undrawn, read-only, nothing-changed, begins, never-both}
use Rattle.commit_path.proofs.commit.Commit.start.Goals as goal

pub returns-then-not-writes-clause-starts : goal.returns-then-not-writes-clause-starts
returns-then-not-writes-clause-starts c = (undrawn c.args.session, λ n. read-only c.args.session c.args.message (sym c.writes.ensures ∙ c.if-not-writes.true))

pub returns-then-is_unchanged-clause-starts : goal.returns-then-is_unchanged-clause-starts
returns-then-is_unchanged-clause-starts c =
    (undrawn c.args.session, λ n. nothing-changed c.args.session c.args.message (sym c.writes.ensures ∙ c.if-not-writes.false) (sym c.is_unchanged.ensures ∙ c.if-is_unchanged.true))

pub new-requires : goal.new-requires
new-requires c = these-ascend c.in-Ok.arrays c.args.session.held (base_nodes c.args.session) c.in-Ok.ensures

pub returns-in-Ok-go_on-clause-starts : goal.returns-in-Ok-go_on-clause-starts
returns-in-Ok-go_on-clause-starts c =
    let r = c.in-Ok-go_on.ensures.reaches in (
      sym (begins c.args.session c.new-session.result c.args.message c.new.result c.in-Ok.arrays c.new-session.ensures (sym c.writes.ensures ∙ c.if-not-writes.false) (sym c.is_unchanged.ensures ∙ c.if-is_unchanged.false) c.new.ensures.news c.new.ensures.left c.in-Ok.ensures ∙ r.0),
      r.1,
      subst (λ (x : SessionState). IsDrawn x c.go_on.new.self.session) c.new-session.ensures c.in-Ok-go_on.ensures.kept,
      c.in-Ok-go_on.ensures.drew ∙ ap (λ (x : SessionState). ids_for c.go_on.new.self.state x.ids) c.new-session.ensures,
    )

pub returns-in-Err-clause-starts : goal.returns-in-Err-clause-starts
returns-in-Err-clause-starts c =
    let r = c.in-Err.ensures.reaches in (
      subst (λ (x : SessionState). IsDrawn x c.into_parts-session.result.0) c.new-session.ensures (subst (IsDrawn c.new-session.result) (sym c.into_parts-session.ensures.session) c.in-Err.ensures.kept),
      λ n. begins c.args.session c.new-session.result c.args.message c.new.result c.in-Ok.arrays c.new-session.ensures (sym c.writes.ensures ∙ c.if-not-writes.false) (sym c.is_unchanged.ensures ∙ c.if-is_unchanged.false) c.new.ensures.news c.new.ensures.left c.in-Ok.ensures ∙ r.1 n,
    )

pub returns-then-not-writes-clause-unchanged : goal.returns-then-not-writes-clause-unchanged
returns-then-not-writes-clause-unchanged c = λ w u. never-both w (sym c.writes.ensures ∙ c.if-not-writes.true)

pub returns-then-is_unchanged-clause-read_only : goal.returns-then-is_unchanged-clause-read_only
returns-then-is_unchanged-clause-read_only c = λ r. never-both (sym c.writes.ensures ∙ c.if-not-writes.false) r

pub returns-in_default-clause-read_only : goal.returns-in_default-clause-read_only
returns-in_default-clause-read_only c = λ r. never-both (sym c.writes.ensures ∙ c.if-not-writes.false) r

pub returns-in_default-clause-unchanged : goal.returns-in_default-clause-unchanged
returns-in_default-clause-unchanged c = λ w u. never-both u (sym c.is_unchanged.ensures ∙ c.if-is_unchanged.false)

pub returns-in-Ok-go_on-clause-read_only : goal.returns-in-Ok-go_on-clause-read_only
returns-in-Ok-go_on-clause-read_only c = λ r. never-both (sym c.writes.ensures ∙ c.if-not-writes.false) r

pub returns-in-Ok-go_on-clause-unchanged : goal.returns-in-Ok-go_on-clause-unchanged
returns-in-Ok-go_on-clause-unchanged c = λ w u. never-both u (sym c.is_unchanged.ensures ∙ c.if-is_unchanged.false)

pub returns-in-Err-clause-read_only : goal.returns-in-Err-clause-read_only
returns-in-Err-clause-read_only c = λ r. never-both (sym c.writes.ensures ∙ c.if-not-writes.false) r

pub returns-in-Err-clause-unchanged : goal.returns-in-Err-clause-unchanged
returns-in-Err-clause-unchanged c = λ w u. never-both u (sym c.is_unchanged.ensures ∙ c.if-is_unchanged.false)
