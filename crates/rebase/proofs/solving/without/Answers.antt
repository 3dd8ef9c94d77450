use Rattle.std.proofs.Common.{sym, ◌∙◌}
use Rattle.std.specs.Prelude.{unwrap_or}
use Rattle.rebase.proofs.Solved.{all-held, no-length}
use Rattle.rebase.proofs.solving.without.Goals as goal

pub returns-then-is_empty : goal.returns-then-is_empty
returns-then-is_empty c = all-held (unwrap_or c.args.held c.args.own.now) c.args.out.now (no-length c.args.out.now (sym c.is_empty.ensures ∙ c.if-is_empty.true))
