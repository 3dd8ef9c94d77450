use Rattle.std.proofs.Common.{◌≡◌, true, false, sym, ◌∙◌}
use Rattle.drafts.proofs.Taking.{◌then◌, took_none}
use Rattle.play_report.specs.Report.{is_lease}
use Rattle.play_report.proofs.reporting.add_shown_lines.Goals as goal

pub returns-then-is_lease : goal.returns-then-is_lease
returns-then-is_lease g c = let lease : is_lease c.args.shown.now ≡ true = sym c.is_lease.ensures ∙ c.if-is_lease.true in rw lease (took_none _ _)

pub returns : goal.returns
returns g c = let other : is_lease c.args.shown.now ≡ false = sym c.is_lease.ensures ∙ c.if-is_lease.false in rw other (c.add_shown_line.ensures then c.add_property_lines.ensures)
