use Rattle.std.proofs.Common.{ap}
use Rattle.std.specs.Int.{w128}
use Rattle.std.proofs.lemmas.Int.{to_z-of_z}
use Rattle.drafts.proofs.Taking.{◌then◌, took_as}
use Rattle.play_report.specs.Report.{next_cell}
use Rattle.play_report.proofs.cells.add_next_cell.Goals as goal

pub returns : goal.returns
returns g c = took_as (ap next_cell (to_z-of_z w128 c.args.number c.ranges.number)) (c.add.ensures then c.add_signed.ensures)
