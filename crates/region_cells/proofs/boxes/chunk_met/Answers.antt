use Rattle.std.proofs.Common.{◌≡◌, ◌∙◌, ◌⊎◌, ◌-◌, ◌+◌, ◌/◌, ◌%◌, ◌++◌, [], ◌∷◌, length, inl, inr, rules, arith, sym, subst}
use Rattle.region_cells.proofs.WalkLaws.{IsMetSoFar, met_begun, met_next, met_found}
use Rattle.region_cells.proofs.boxes.chunk_met.Goals as goal

pub loop-chunk-init : goal.loop-chunk-init
loop-chunk-init c =
    let i = c.into_iter-chunk-iterator.result in
    let e : c.into_iter-chunk-iterator.result.a.a.rest.now ≡ c.args.chunks.now = search rules in
    let f : c.into_iter-chunk-iterator.result.a.b.rest.now ≡ c.args.from.now = search rules in
    let g : c.into_iter-chunk-iterator.result.b.rest.now ≡ c.args.to.now = search rules in
    let none : c.new-numbers.result.items ≡ [] = search rules in
    let begun = met_begun c.count_chunks-count.result c.args.at i.a.a.rest.now i.a.b.rest.now i.b.rest.now c.args.chunks.now c.args.from.now c.args.to.now e f g c.requires.gridded c.count_chunks-count.ensures c.requires.within in
    (((tt, tt), tt), tt, subst (λ l. IsMetSoFar l c.count_chunks-count.result c.args.at c.args.at i.a.a.rest.now i.a.b.rest.now i.b.rest.now c.args.chunks.now c.args.from.now c.args.to.now) (sym none) begun)

pub nonzero_div-rest : goal.nonzero_div-rest
nonzero_div-rest c =
    let before = c.loop-chunk.chunk-iterator in
    let after = c.next.new.self in
    let next = met_next c.loop-chunk.numbers.items c.loop-chunk.count c.loop-chunk.rest c.args.at c.in-Some.chunk.now c.in-Some.first.now c.in-Some.end.now c.div_ceil.result
    before.a.a.rest.now after.a.a.rest.now before.a.b.rest.now after.a.b.rest.now before.b.rest.now after.b.rest.now c.args.chunks.now c.args.from.now c.args.to.now
    c.in-Some.ensures.steps.0.0 c.in-Some.ensures.steps.0.1 c.in-Some.ensures.steps.1 c.div_ceil.ensures c.loop-chunk.invariant.2 in
    omega (arith, next.some)

pub nonzero_rem-rest : goal.nonzero_rem-rest
nonzero_rem-rest c =
    let before = c.loop-chunk.chunk-iterator in
    let after = c.next.new.self in
    let next = met_next c.loop-chunk.numbers.items c.loop-chunk.count c.loop-chunk.rest c.args.at c.in-Some.chunk.now c.in-Some.first.now c.in-Some.end.now c.div_ceil.result
    before.a.a.rest.now after.a.a.rest.now before.a.b.rest.now after.a.b.rest.now before.b.rest.now after.b.rest.now c.args.chunks.now c.args.from.now c.args.to.now
    c.in-Some.ensures.steps.0.0 c.in-Some.ensures.steps.0.1 c.in-Some.ensures.steps.1 c.div_ceil.ensures c.loop-chunk.invariant.2 in
    omega (arith, next.some)

pub overflow_add-number : goal.overflow_add-number
overflow_add-number c =
    let before = c.loop-chunk.chunk-iterator in
    let after = c.next.new.self in
    let next = met_next c.loop-chunk.numbers.items c.loop-chunk.count c.loop-chunk.rest c.args.at c.in-Some.chunk.now c.in-Some.first.now c.in-Some.end.now c.div_ceil.result
    before.a.a.rest.now after.a.a.rest.now before.a.b.rest.now after.a.b.rest.now before.b.rest.now after.b.rest.now c.args.chunks.now c.args.from.now c.args.to.now
    c.in-Some.ensures.steps.0.0 c.in-Some.ensures.steps.0.1 c.in-Some.ensures.steps.1 c.div_ceil.ensures c.loop-chunk.invariant.2 in
    omega (arith, next.small)

pub overflow_cast-number : goal.overflow_cast-number
overflow_cast-number c =
    let before = c.loop-chunk.chunk-iterator in
    let after = c.next.new.self in
    let next = met_next c.loop-chunk.numbers.items c.loop-chunk.count c.loop-chunk.rest c.args.at c.in-Some.chunk.now c.in-Some.first.now c.in-Some.end.now c.div_ceil.result
    before.a.a.rest.now after.a.a.rest.now before.a.b.rest.now after.a.b.rest.now before.b.rest.now after.b.rest.now c.args.chunks.now c.args.from.now c.args.to.now
    c.in-Some.ensures.steps.0.0 c.in-Some.ensures.steps.0.1 c.in-Some.ensures.steps.1 c.div_ceil.ensures c.loop-chunk.invariant.2 in
    omega (arith, next.small)

pub loop-chunk-preserved : goal.loop-chunk-preserved
loop-chunk-preserved c =
    let before = c.loop-chunk.chunk-iterator in
    let after = c.next.new.self in
    let next = met_next c.loop-chunk.numbers.items c.loop-chunk.count c.loop-chunk.rest c.args.at c.in-Some.chunk.now c.in-Some.first.now c.in-Some.end.now c.div_ceil.result
    before.a.a.rest.now after.a.a.rest.now before.a.b.rest.now after.a.b.rest.now before.b.rest.now after.b.rest.now c.args.chunks.now c.args.from.now c.args.to.now
    c.in-Some.ensures.steps.0.0 c.in-Some.ensures.steps.0.1 c.in-Some.ensures.steps.1 c.div_ceil.ensures c.loop-chunk.invariant.2 in
    let pushed : c.push.new.self.items ≡ c.loop-chunk.numbers.items ++ (c.in-Some.first.now / c.in-Some.chunk.now + c.loop-chunk.rest / (c.loop-chunk.count / (c.div_ceil.result - c.in-Some.first.now / c.in-Some.chunk.now))) ∷ [] = search rules in (
      ((tt, tt), tt),
      tt,
      subst (λ l. IsMetSoFar l (c.loop-chunk.count / (c.div_ceil.result - c.in-Some.first.now / c.in-Some.chunk.now)) (c.loop-chunk.rest % (c.loop-chunk.count / (c.div_ceil.result - c.in-Some.first.now / c.in-Some.chunk.now))) c.args.at
          after.a.a.rest.now after.a.b.rest.now after.b.rest.now c.args.chunks.now c.args.from.now c.args.to.now) (sym pushed) next.next,
    )

pub returns : goal.returns
returns c =
    let left = c.loop-chunk.chunk-iterator in
    let ended : ((length left.a.a.rest.now ≡ 0) ⊎ (length left.a.b.rest.now ≡ 0)) ⊎ (length left.b.rest.now ≡ 0) =
    elim c.in-None.ensures.steps [ inl h ↦ elim (h.1) [ inl k ↦ inl (inl k.1.0) | inr k ↦ inl (inr k.1.0) ] | inr k ↦ inr k.1.0 ] in
    c.from_parts.ensures ∙ met_found c.loop-chunk.numbers.items c.loop-chunk.count c.loop-chunk.rest c.args.at left.a.a.rest.now left.a.b.rest.now left.b.rest.now c.args.chunks.now c.args.from.now c.args.to.now c.loop-chunk.invariant.2 c.requires.gridded c.requires.within ended
