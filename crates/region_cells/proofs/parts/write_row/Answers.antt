use Rattle.std.proofs.Common.{◌≡◌, ◌∙◌, ◌*◌, ◌+◌, ◌-◌, ◌≤◌, ◌++◌, length, drop, get_or, pos, rules, arith, ap, ap₂, FitsSigned}
use Rattle.std.proofs.Math.Nat.{mul_comm, mul-le-mul_left}
use Rattle.std.proofs.lemmas.Int.{to_z-of_z}
use Rattle.std.proofs.lemmas.List.{take_rest}
use Rattle.zarr_meta.specs.Kinds.{size_of}
use Rattle.region_cells.specs.Numbers.{bytes_of}
use Rattle.region_cells.proofs.RowLaws.{write_more}
use Rattle.region_cells.proofs.parts.write_row.Goals as goal

pub loop-at-preserved : goal.loop-at-preserved
loop-at-preserved c =
    let kind = c.args.element.kind in
    let at = c.loop-at.at in
    let size : c.from-size.result ≡ size_of kind = search rules in
    let place : at * c.from-size.result ≡ size_of kind * at = ap (λ s. at * s) size ∙ mul_comm at (size_of kind) in
    let room : size_of kind * (at + 1) ≤ size_of kind * length c.args.row.now = mul-le-mul_left (size_of kind) (omega arith) in
    let within : at * c.from-size.result + size_of kind ≤ length c.loop-at.bytes = omega (arith, c.requires.room, c.loop-at.invariant.same_length) in
    let fits : FitsSigned mir.Syntax.w128 (get_or c.args.row.now at (pos 0)) = search rules in
    let written : c.write.new.bytes ≡ bytes_of kind c.args.element.big (get_or c.args.row.now at (pos 0)) ++ drop (size_of kind) (drop (at * c.from-size.result) c.loop-at.bytes) =
    c.write.ensures ∙ ap₂ (λ n xs. bytes_of kind c.args.element.big n ++ drop (size_of kind) xs) (to_z-of_z mir.Syntax.w128 (get_or c.args.row.now at (pos 0)) fits) (take_rest c.loop-at.bytes (at * c.from-size.result)) in
    let rest : length c.write.new.bytes ≡ length c.loop-at.bytes - at * c.from-size.result = search rules in
    write_more kind c.args.element.big c.args.row.now at (at * c.from-size.result) c.args.bytes.now c.loop-at.bytes c.write.new.bytes (omega arith) place within written rest c.loop-at.invariant
