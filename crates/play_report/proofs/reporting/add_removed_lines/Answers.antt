use Rattle.std.proofs.Common.{◌≡◌, true, sym, ◌∙◌}
use Rattle.drafts.proofs.Taking.{took_none}
use Rattle.play_report.specs.Report.{is_nothing}
use Rattle.play_report.proofs.reporting.add_removed_lines.Goals as goal

pub returns-then-is_nothing : goal.returns-then-is_nothing
returns-then-is_nothing g c = let nothing : is_nothing c.args.removed ≡ true = sym c.is_nothing.ensures ∙ c.if-is_nothing.true in rw nothing (took_none _ _)
