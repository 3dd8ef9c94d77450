use Rattle.std.proofs.Common.{◌≡◌, true, false, sym, ◌∙◌}
use Rattle.drafts.proofs.Taking.{took_none}
use Rattle.play_report.specs.Report.{is_left}
use Rattle.play_report.proofs.reporting.add_left_lines.Goals as goal

pub returns-then-not-is_left : goal.returns-then-not-is_left
returns-then-not-is_left g c = let other : is_left c.args.shown.now ≡ false = sym c.is_left.ensures ∙ c.if-not-is_left.true in rw other (took_none _ _)

pub returns : goal.returns
returns g c = let left : is_left c.args.shown.now ≡ true = sym c.is_left.ensures ∙ c.if-not-is_left.false in rw left c.add_shown_line.ensures
