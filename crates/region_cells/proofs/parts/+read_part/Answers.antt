use Rattle.std.proofs.Common.{◌≡◌, ◌∙◌, ◌<◌, ◌≤◌, ◌+◌, ◌*◌, length, rules, refl, arith, max, min}
use Rattle.zarr_meta.specs.Kinds.{size_of}
use Rattle.region_cells.specs.Parts.{ReadsPart}
use Rattle.region_cells.specs.Sides.{Splits}
use Rattle.region_cells.proofs.PartLaws.{IsStep, one_element, read_one, count_of_last, joined_last, over_parted, fewer_left, length_block, length_cells, read_on}
use Rattle.region_cells.proofs.parts.+read_part.Goals as goal

pub read_row-requires : goal.read_row-requires
read_row-requires t c =
    let s = c.args.sides in
    one_element (size_of c.args.element.kind) (length c.args.bytes.now) (length c.args.cells.now) s.from.now s.to.now s.chunks.now s.index.now c.requires.over c.in_default.ensures c.requires.whole c.requires.count

pub returns-in_default : goal.returns-in_default
returns-in_default t c =
    let s = c.args.sides in
    let same : length c.read_row.new.row ≡ length c.args.cells.now = search rules in
    read_one c.args.element.kind c.args.element.big s.from.now s.to.now s.chunks.now s.index.now c.args.bytes.now c.args.cells.now c.read_row.new.row c.requires.over c.in_default.ensures c.requires.count same c.read_row.ensures

pub read_last-requires-clause-count : goal.read_last-requires-clause-count
read_last-requires-clause-count t c =
    let split : Splits c.args.sides c.in-Some.side c.in-Some.rest = c.in-Some.ensures in
    let step : IsStep c.args.element.kind c.args.sides c.in-Some.side c.in-Some.rest (length c.args.bytes.now) (length c.args.cells.now) = record { split = split; over = c.requires.over; whole = c.requires.whole; count = c.requires.count } in
    let rank : length c.in-Some.rest.chunks.now ≡ 0 = search rules in
    c.requires.count ∙ count_of_last c.args.sides c.in-Some.side c.in-Some.rest split (over_parted c.args.element.kind c.args.sides c.in-Some.side c.in-Some.rest (length c.args.bytes.now) (length c.args.cells.now) step).2 rank

pub returns-then-is_empty : goal.returns-then-is_empty
returns-then-is_empty t c =
    let split : Splits c.args.sides c.in-Some.side c.in-Some.rest = c.in-Some.ensures in
    let step : IsStep c.args.element.kind c.args.sides c.in-Some.side c.in-Some.rest (length c.args.bytes.now) (length c.args.cells.now) = record { split = split; over = c.requires.over; whole = c.requires.whole; count = c.requires.count } in
    let rank : length c.in-Some.rest.chunks.now ≡ 0 = search rules in
    joined_last (λ from to chunks index. ReadsPart c.args.element.kind c.args.element.big from to chunks index c.args.bytes.now c.args.cells.now c.read_last.new.cells) c.args.sides c.in-Some.side c.in-Some.rest split
    (over_parted c.args.element.kind c.args.sides c.in-Some.side c.in-Some.rest (length c.args.bytes.now) (length c.args.cells.now) step).2 rank c.read_last.ensures

pub read_part-requires : goal.read_part-requires
read_part-requires t c =
    let split : Splits c.args.sides c.in-Some.side c.in-Some.rest = c.in-Some.ensures in
    let step : IsStep c.args.element.kind c.args.sides c.in-Some.side c.in-Some.rest (length c.args.bytes.now) (length c.args.cells.now) = record { split = split; over = c.requires.over; whole = c.requires.whole; count = c.requires.count } in
    let fewer : length c.in-Some.rest.chunks.now < length c.args.sides.chunks.now = fewer_left c.args.element.kind c.args.sides c.in-Some.side c.in-Some.rest (length c.args.bytes.now) (length c.args.cells.now) step in
    let begins : max c.in-Some.side.from (c.in-Some.side.number * c.in-Some.side.chunk) ≤ c.loop-position.position = omega arith in
    let ends : c.loop-position.position < min c.in-Some.side.to (c.in-Some.side.number * c.in-Some.side.chunk + c.in-Some.side.chunk) = omega arith in (
      omega (arith, fewer, c.decreases),
      (
        (over_parted c.args.element.kind c.args.sides c.in-Some.side c.in-Some.rest (length c.args.bytes.now) (length c.args.cells.now) step).2,
        (
          length_block c.args.element.kind c.args.sides c.in-Some.side c.in-Some.rest (length c.args.bytes.now) (length c.args.cells.now) step c.loop-position.position c.start.result begins ends c.start.ensures c.args.bytes.now refl,
          length_cells c.args.element.kind c.args.sides c.in-Some.side c.in-Some.rest (length c.args.bytes.now) (length c.args.cells.now) step c.loop-position.position c.start.result begins ends c.start.ensures c.loop-position.cells c.loop-position.invariant.same_length,
        ),
      ),
    )

pub loop-position-preserved : goal.loop-position-preserved
loop-position-preserved t c =
    let split : Splits c.args.sides c.in-Some.side c.in-Some.rest = c.in-Some.ensures in
    let step : IsStep c.args.element.kind c.args.sides c.in-Some.side c.in-Some.rest (length c.args.bytes.now) (length c.args.cells.now) = record { split = split; over = c.requires.over; whole = c.requires.whole; count = c.requires.count } in
    let begins : max c.in-Some.side.from (c.in-Some.side.number * c.in-Some.side.chunk) ≤ c.loop-position.position = omega arith in
    let ends : c.loop-position.position < min c.in-Some.side.to (c.in-Some.side.number * c.in-Some.side.chunk + c.in-Some.side.chunk) = omega arith in
    read_on c.args.element.kind c.args.sides c.in-Some.side c.in-Some.rest (length c.args.bytes.now) (length c.args.cells.now) step c.loop-position.position c.start.result begins ends c.start.ensures
    c.args.element.big c.args.bytes.now c.args.cells.now c.loop-position.cells c.read_part.new.cells c.loop-position.invariant.same_length c.loop-position.invariant c.read_part.ensures
