use Rattle.std.proofs.Common.{◌≡◌, ◌∙◌, ◌*◌, ◌<◌, length, rules, arith, ap, FitsSigned}
use Rattle.std.proofs.Math.Nat.{mul_comm}
use Rattle.std.proofs.lemmas.List.{take_rest}
use Rattle.region_cells.specs.Numbers.{number_of}
use Rattle.std.proofs.lemmas.Int.{to_z-of_z}
use Rattle.zarr_meta.specs.Kinds.{size_of}
use Rattle.region_cells.proofs.RowLaws.{read_more}
use Rattle.region_cells.proofs.parts.read_row.Goals as goal

pub loop-at-preserved : goal.loop-at-preserved
loop-at-preserved c =
    let kind = c.args.element.kind in
    let fits : FitsSigned mir.Syntax.w128 c.read.result = search rules in
    let value : mir.Val.to_z mir.Syntax.w128 (mir.Val.of_z mir.Syntax.w128 c.read.result) ≡ c.read.result = to_z-of_z mir.Syntax.w128 c.read.result fits in
    let size : c.from-size.result ≡ size_of kind = search rules in
    let place : c.loop-at.at * c.from-size.result ≡ size_of kind * c.loop-at.at = ap (λ s. c.loop-at.at * s) size ∙ mul_comm c.loop-at.at (size_of kind) in
    let within : c.loop-at.at < length c.loop-at.row = omega arith in
    read_more kind c.args.element.big c.args.bytes.now c.loop-at.row c.loop-at.at (c.loop-at.at * c.from-size.result) _
    within place (value ∙ c.read.ensures ∙ ap (number_of kind c.args.element.big) (take_rest c.args.bytes.now (c.loop-at.at * c.from-size.result))) c.loop-at.invariant
