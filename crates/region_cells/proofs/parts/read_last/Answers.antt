use Rattle.std.proofs.Common.{◌≡◌, ◌∙◌, ◌<◌, ◌+◌, ◌-◌, ◌*◌, length, drop, refl, rules, arith, ap, subst}
use Rattle.std.proofs.lemmas.List.{take_rest}
use Rattle.zarr_meta.specs.Kinds.{size_of}
use Rattle.region_cells.specs.Rows.{ReadsRow}
use Rattle.region_cells.proofs.PartLaws.{read_last}
use Rattle.region_cells.proofs.parts.read_last.Goals as goal

pub returns : goal.returns
returns c =
    let kind = c.args.element.kind in
    let first = c.first-first.result in
    let at = (first - c.start.result) * c.from.result in
    let size : c.from.result ≡ size_of kind = search rules in
    let put = first - c.args.side.from in
    let less : first < c.end-end.result = omega arith in
    let at_is : at ≡ (first - c.args.side.number * c.args.side.chunk) * size_of kind = ap (λ s. (first - s) * c.from.result) c.start.ensures ∙ ap (λ s. (first - c.args.side.number * c.args.side.chunk) * s) size in
    let count : put + (c.end-end.result - first) - put ≡ c.end-end.result - first = omega arith in
    let long : length c.read_row.new.row ≡ put + (c.end-end.result - first) - put = search rules in
    let read : ReadsRow kind c.args.element.big (drop at c.args.bytes.now) c.read_row.new.row = subst (λ ys. ReadsRow kind c.args.element.big ys c.read_row.new.row) (take_rest c.args.bytes.now at) c.read_row.ensures in
    read_last kind c.args.element.big c.args.side.from c.args.side.to c.args.side.chunk c.args.side.number c.args.bytes.now first c.end-end.result at put
    (put + (c.end-end.result - first) - put) c.args.cells.now c.read_row.new.row
    c.requires.some c.first-first.ensures c.end-end.ensures less at_is refl count c.requires.count long read
