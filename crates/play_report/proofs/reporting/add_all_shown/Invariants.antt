use Rattle.std.proofs.Common.{◌≡◌, drop}
use Rattle.std.specs.List.{flat_map}
use Rattle.play_report.specs.Report.{shown_lines}
use Rattle.play_report.specs.inside.Drafts.{added}
use Rattle.play_report.proofs.reporting.add_all_shown.Given as goal

abbrev pub invariant-loop-shown : goal.invariant-loop-shown
invariant-loop-shown l = added l.out (flat_map (shown_lines l.name) (drop l.shown-index l.all)) ≡ added l.fn.out (flat_map (shown_lines l.name) l.all)
