use Rattle.std.proofs.Common.{refl, sym, ◌∙◌, ap, Some}
use Rattle.store_api.specs.Running.{◌>>=◌}
use Rattle.repo_read.specs.Programs.{resolve_program}
use Rattle.session.specs.Sessions.{SessionState, branch_of}
use Rattle.rebase.specs.Rebasing.{after_ref}
use Rattle.rebase.proofs.Rebases.{read-only, begins}
use Rattle.rebase.proofs.machine.Rebase.start.Goals as goal

pub returns-then-not-writes-clause-starts : goal.returns-then-not-writes-clause-starts
returns-then-not-writes-clause-starts c = (read-only c.args.policy c.args.session (sym c.writes.ensures ∙ c.if-not-writes.true), refl)

pub returns-clause-starts : goal.returns-clause-starts
returns-clause-starts c = (
  ap (λ (s : SessionState). resolve_program (branch_of s) >>= after_ref c.args.policy s) c.new.ensures ∙ begins c.args.policy c.args.session (sym c.writes.ensures ∙ c.if-not-writes.false),
  tt,
  ap (λ (s : SessionState). Some s) c.new.ensures,
)
