use Rattle.std.proofs.Common.{sym}
use Rattle.region_cells.proofs.PartLaws.{none_left}
use Rattle.array_region.specs.Writing.{is_covered}
use Rattle.array_region.proofs.writing.+covered.Goals as goal

pub returns-in_default : goal.returns-in_default
returns-in_default t c =
    let s = c.args.sides in
    let n = none_left s.from.now s.to.now s.chunks.now s.index.now c.requires c.in_default.ensures in
    sym (λ i. is_covered (n.0 i) (n.1 i) (n.2 i) (n.3 i))
