use Rattle.std.proofs.Common.{◌≡◌, ◌∙◌, ◌+◌, ◌++◌, suc, take, rules, arith, ap, ap₂}
use Rattle.zarr_meta.specs.Kinds.{size_of}
use Rattle.region_cells.specs.Numbers.{bytes_of}
use Rattle.region_cells.specs.Walks.{repeated}
use Rattle.region_cells.proofs.FillLaws.{repeated_more, front_written}
use Rattle.region_cells.proofs.filling.filled_chunk.Goals as goal

pub loop-preserved : goal.loop-preserved
loop-preserved c =
    let kind = c.args.element.kind in
    let big = c.args.element.big in
    let number = mir.Val.to_z mir.Syntax.w128 (mir.Val.of_z mir.Syntax.w128 c.args.number) in
    let one = bytes_of kind big (mir.Val.to_z mir.Syntax.w128 (mir.Val.of_z mir.Syntax.w128 c.args.number)) in
    let size : c.from-size.result ≡ size_of kind = search rules in
    let pushed : c.extend_from_slice.new.self.items ≡ c.loop.bytes.items ++ take c.from-size.result c.write.new.bytes = search rules in
    let front : take (size_of kind) c.write.new.bytes ≡ one = front_written kind big number c.write.new.bytes _ c.write.ensures in
    let written : take c.from-size.result c.write.new.bytes ≡ one = ap (λ n. take n c.write.new.bytes) size ∙ front in
    let next : suc c.loop.counter ≡ c.loop.counter + 1 = omega arith in
    let more : repeated one (suc c.loop.counter) ≡ repeated one (c.loop.counter + 1) = ap (repeated one) next in
    pushed ∙ ap₂ (λ a b. a ++ b) c.loop.invariant written ∙ repeated_more one c.loop.counter ∙ more
