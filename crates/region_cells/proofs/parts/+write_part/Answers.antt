use Rattle.std.proofs.Common.{◌≡◌, ◌∙◌, ◌<◌, ◌≤◌, ◌+◌, ◌*◌, length, rules, refl, arith, max, min}
use Rattle.zarr_meta.specs.Kinds.{size_of}
use Rattle.region_cells.specs.Parts.{WritesPart}
use Rattle.region_cells.specs.Sides.{Splits}
use Rattle.region_cells.proofs.PartLaws.{IsStep, one_element, count_of_last, joined_last, over_parted, fewer_left, length_block, length_cells}
use Rattle.region_cells.proofs.WriteLaws.{write_one, write_on, range_within}
use Rattle.region_cells.proofs.parts.+write_part.Goals as goal

pub write_row-requires-clause-room : goal.write_row-requires-clause-room
write_row-requires-clause-room t c =
    let s = c.args.sides in
    one_element (size_of c.args.element.kind) (length c.args.bytes.now) (length c.args.cells.now) s.from.now s.to.now s.chunks.now s.index.now c.requires.over c.in_default.ensures c.requires.whole c.requires.count

pub returns-in_default : goal.returns-in_default
returns-in_default t c =
    let s = c.args.sides in
    write_one c.args.element.kind c.args.element.big s.from.now s.to.now s.chunks.now s.index.now c.args.cells.now c.args.bytes.now c.write_row.new.bytes c.requires.over c.in_default.ensures c.requires.count c.write_row.ensures

pub write_last-requires-clause-count : goal.write_last-requires-clause-count
write_last-requires-clause-count t c =
    let split : Splits c.args.sides c.in-Some.side c.in-Some.rest = c.in-Some.ensures in
    let step : IsStep c.args.element.kind c.args.sides c.in-Some.side c.in-Some.rest (length c.args.bytes.now) (length c.args.cells.now) = record { split = split; over = c.requires.over; whole = c.requires.whole; count = c.requires.count } in
    let rank : length c.in-Some.rest.chunks.now ≡ 0 = search rules in
    c.requires.count ∙ count_of_last c.args.sides c.in-Some.side c.in-Some.rest split (over_parted c.args.element.kind c.args.sides c.in-Some.side c.in-Some.rest (length c.args.bytes.now) (length c.args.cells.now) step).2 rank

pub returns-then-is_empty : goal.returns-then-is_empty
returns-then-is_empty t c =
    let split : Splits c.args.sides c.in-Some.side c.in-Some.rest = c.in-Some.ensures in
    let step : IsStep c.args.element.kind c.args.sides c.in-Some.side c.in-Some.rest (length c.args.bytes.now) (length c.args.cells.now) = record { split = split; over = c.requires.over; whole = c.requires.whole; count = c.requires.count } in
    let rank : length c.in-Some.rest.chunks.now ≡ 0 = search rules in
    joined_last (λ from to chunks index. WritesPart c.args.element.kind c.args.element.big from to chunks index c.args.cells.now c.args.bytes.now c.write_last.new.bytes) c.args.sides c.in-Some.side c.in-Some.rest split
    (over_parted c.args.element.kind c.args.sides c.in-Some.side c.in-Some.rest (length c.args.bytes.now) (length c.args.cells.now) step).2 rank c.write_last.ensures

pub write_part-requires : goal.write_part-requires
write_part-requires t c =
    let split : Splits c.args.sides c.in-Some.side c.in-Some.rest = c.in-Some.ensures in
    let step : IsStep c.args.element.kind c.args.sides c.in-Some.side c.in-Some.rest (length c.args.bytes.now) (length c.args.cells.now) = record { split = split; over = c.requires.over; whole = c.requires.whole; count = c.requires.count } in
    let fewer : length c.in-Some.rest.chunks.now < length c.args.sides.chunks.now = fewer_left c.args.element.kind c.args.sides c.in-Some.side c.in-Some.rest (length c.args.bytes.now) (length c.args.cells.now) step in
    let begins : max c.in-Some.side.from (c.in-Some.side.number * c.in-Some.side.chunk) ≤ c.loop-position.position = omega arith in
    let ends : c.loop-position.position < min c.in-Some.side.to (c.in-Some.side.number * c.in-Some.side.chunk + c.in-Some.side.chunk) = omega arith in (
      omega (arith, fewer, c.decreases),
      (
        (over_parted c.args.element.kind c.args.sides c.in-Some.side c.in-Some.rest (length c.args.bytes.now) (length c.args.cells.now) step).2,
        (
          length_block c.args.element.kind c.args.sides c.in-Some.side c.in-Some.rest (length c.args.bytes.now) (length c.args.cells.now) step c.loop-position.position c.start.result begins ends c.start.ensures c.loop-position.bytes c.loop-position.invariant.same_length,
          (
            length_cells c.args.element.kind c.args.sides c.in-Some.side c.in-Some.rest (length c.args.bytes.now) (length c.args.cells.now) step c.loop-position.position c.start.result begins ends c.start.ensures c.args.cells.now refl,
            range_within c.args.element.kind _ _ c.args.cells.now c.requires.range,
          ),
        ),
      ),
    )

pub loop-position-preserved : goal.loop-position-preserved
loop-position-preserved t c =
    let split : Splits c.args.sides c.in-Some.side c.in-Some.rest = c.in-Some.ensures in
    let step : IsStep c.args.element.kind c.args.sides c.in-Some.side c.in-Some.rest (length c.args.bytes.now) (length c.args.cells.now) = record { split = split; over = c.requires.over; whole = c.requires.whole; count = c.requires.count } in
    let begins : max c.in-Some.side.from (c.in-Some.side.number * c.in-Some.side.chunk) ≤ c.loop-position.position = omega arith in
    let ends : c.loop-position.position < min c.in-Some.side.to (c.in-Some.side.number * c.in-Some.side.chunk + c.in-Some.side.chunk) = omega arith in
    write_on c.args.element.kind c.args.sides c.in-Some.side c.in-Some.rest (length c.args.bytes.now) (length c.args.cells.now) step c.loop-position.position c.start.result begins ends c.start.ensures
    c.args.element.big c.args.cells.now c.args.bytes.now c.loop-position.bytes c.write_part.new.bytes refl c.loop-position.invariant.same_length c.loop-position.invariant c.write_part.ensures
