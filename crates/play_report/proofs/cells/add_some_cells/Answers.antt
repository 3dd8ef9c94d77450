use Rattle.std.proofs.Common.{◌++◌, ap}
use Rattle.std.specs.Fmt.{signed_decimal}
use Rattle.std.specs.Int.{w128}
use Rattle.std.specs.List.{flat_map}
use Rattle.std.proofs.lemmas.Int.{to_z-of_z}
use Rattle.drafts.proofs.Taking.{◌then◌, took_as}
use Rattle.play_report.specs.Report.{next_cell}
use Rattle.play_report.proofs.cells.add_some_cells.Goals as goal

pub returns : goal.returns
returns g c =
    took_as (ap (λ z. signed_decimal z ++ flat_map next_cell c.args.more.now) (to_z-of_z w128 c.args.first c.ranges.first))
    (c.add_signed.ensures then c.add_more_cells.ensures)
