use Rattle.std.proofs.Common.{◌≡◌, ◌⊎◌, ◌≤◌, ◌-◌, ◌*◌, ◌/◌, length, inl, inr, rules, arith, ap}
use Rattle.std.specs.Int.{div_ceil}
use Rattle.region_cells.specs.Boxes.{count_of}
use Rattle.region_cells.proofs.WalkLaws.{some_cells, met_start, met_below, met_whole, met_counted}
use Rattle.region_cells.proofs.boxes.count_chunks.Goals as goal

pub loop-chunk-init : goal.loop-chunk-init
loop-chunk-init c =
    let some : 1 ≤ count_of c.args.from.now c.args.to.now = some_cells c.is_empty.result (count_of c.args.from.now c.args.to.now) c.is_empty.ensures c.if-is_empty.false in
    let e : c.into_iter-chunk-iterator.result.a.a.rest.now ≡ c.args.chunks.now = search rules in
    let f : c.into_iter-chunk-iterator.result.a.b.rest.now ≡ c.args.from.now = search rules in
    let g : c.into_iter-chunk-iterator.result.b.rest.now ≡ c.args.to.now = search rules in
    (((tt, tt), tt), tt, met_start _ _ _ c.args.chunks.now c.args.from.now c.args.to.now e f g c.requires.gridded some)

pub overflow_mul-count : goal.overflow_mul-count
overflow_mul-count c =
    let some : 1 ≤ count_of c.args.from.now c.args.to.now = some_cells c.is_empty.result (count_of c.args.from.now c.args.to.now) c.is_empty.ensures c.if-is_empty.false in
    let before = c.loop-chunk.chunk-iterator in
    let after = c.next.new.self in
    let n = c.in-Some.chunk.now in
    let a = c.in-Some.first.now in
    let b = c.in-Some.end.now in
    let next = met_counted c.loop-chunk.count n a b before.a.a.rest.now after.a.a.rest.now before.a.b.rest.now after.a.b.rest.now before.b.rest.now after.b.rest.now c.args.chunks.now c.args.from.now c.args.to.now
    c.in-Some.ensures.steps.0.0 c.in-Some.ensures.steps.0.1 c.in-Some.ensures.steps.1 c.loop-chunk.invariant.2 in
    let below = met_below (c.loop-chunk.count * (div_ceil b n - a / n)) after.a.a.rest.now after.a.b.rest.now after.b.rest.now c.args.chunks.now c.args.from.now c.args.to.now next c.requires.gridded some c.requires.few in
    let same : c.loop-chunk.count * (c.div_ceil.result - a / n) ≡ c.loop-chunk.count * (div_ceil b n - a / n) = ap (λ q. c.loop-chunk.count * (q - a / n)) c.div_ceil.ensures in
    omega (arith, below, same)

pub returns : goal.returns
returns c =
    let some : 1 ≤ count_of c.args.from.now c.args.to.now = some_cells c.is_empty.result (count_of c.args.from.now c.args.to.now) c.is_empty.ensures c.if-is_empty.false in
    let left = c.loop-chunk.chunk-iterator in
    let ended : ((length left.a.a.rest.now ≡ 0) ⊎ (length left.a.b.rest.now ≡ 0)) ⊎ (length left.b.rest.now ≡ 0) =
    elim c.in-None.ensures.steps [ inl h ↦ elim (h.1) [ inl k ↦ inl (inl k.1.0) | inr k ↦ inl (inr k.1.0) ] | inr k ↦ inr k.1.0 ] in
    met_whole c.loop-chunk.count left.a.a.rest.now left.a.b.rest.now left.b.rest.now c.args.chunks.now c.args.from.now c.args.to.now c.loop-chunk.invariant.2 c.requires.gridded some ended
