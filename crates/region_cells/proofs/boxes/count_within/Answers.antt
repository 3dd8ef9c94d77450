use Rattle.std.proofs.Common.{◌≡◌, ◌⊎◌, ◌-◌, ◌*◌, length, inl, inr, arith}
use Rattle.region_cells.proofs.WalkLaws.{counted, count_below, count_some, count_whole, too_many, few_enough, long_dimension}
use Rattle.region_cells.proofs.boxes.count_within.Goals as goal

pub returns-then-length : goal.returns-then-length
returns-then-length c =
    let a = c.in-Some.first.now in
    let b = c.in-Some.end.now in
    let so_far = c.loop-first.invariant.2 in
    let next = counted c.loop-first.count a b c.loop-first.first-iterator.a.rest.now c.next.new.self.a.rest.now c.loop-first.first-iterator.b.rest.now c.next.new.self.b.rest.now c.args.from.now c.args.to.now c.in-Some.ensures.steps.0 c.in-Some.ensures.steps.1 so_far in
    too_many c.args.from.now c.args.to.now (long_dimension c.loop-first.count a b c.next.new.self.a.rest.now c.next.new.self.b.rest.now c.args.from.now c.args.to.now
    (count_some c.loop-first.count c.loop-first.first-iterator.a.rest.now c.loop-first.first-iterator.b.rest.now c.args.from.now c.args.to.now so_far) (omega arith) next)

pub returns-then-count-gt-MOST_CELLS : goal.returns-then-count-gt-MOST_CELLS
returns-then-count-gt-MOST_CELLS c =
    let a = c.in-Some.first.now in
    let b = c.in-Some.end.now in
    let next = counted c.loop-first.count a b c.loop-first.first-iterator.a.rest.now c.next.new.self.a.rest.now c.loop-first.first-iterator.b.rest.now c.next.new.self.b.rest.now c.args.from.now c.args.to.now c.in-Some.ensures.steps.0 c.in-Some.ensures.steps.1 c.loop-first.invariant.2 in
    let below = count_below (c.loop-first.count * (b - a)) c.next.new.self.a.rest.now c.next.new.self.b.rest.now c.args.from.now c.args.to.now next in
    too_many c.args.from.now c.args.to.now (omega (arith, below))

pub returns : goal.returns
returns c =
    let from = c.loop-first.first-iterator.a.rest.now in
    let to = c.loop-first.first-iterator.b.rest.now in
    let ended : (length from ≡ 0) ⊎ (length to ≡ 0) = elim c.in-None.ensures.steps [ inl h ↦ inl h.1.0 | inr h ↦ inr h.1.0 ] in
    few_enough c.loop-first.count c.args.from.now c.args.to.now (count_whole c.loop-first.count from to c.args.from.now c.args.to.now c.loop-first.invariant.2 ended) c.loop-first.invariant.3
