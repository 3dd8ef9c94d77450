use Rattle.std.proofs.Common.{◌∙◌, ◌+◌, arith, ℕ, min, max, sym, ap, subst}
use Rattle.std.specs.Prelude.{slice_index}
use Rattle.manifest_index.proofs.Spans.{Spans, number, same_element, spans_next}
use Rattle.manifest_index.proofs.Least.{last_low}
use Rattle.manifest_index.proofs.extents.extent_at.Goals as goal

pub loop-chunk-preserved : goal.loop-chunk-preserved
loop-chunk-preserved c =
    let k : ℕ = c.args.k in
    let n : ℕ = slice_index c.parts-in-loop-chunk.result.now k in
    let next : Spans k c.args.refs.now (c.loop-chunk.chunk-index + 1) (min c.loop-chunk.first n) (max c.loop-chunk.last n) =
    spans_next k c.args.refs.now c.loop-chunk.chunk-index c.loop-chunk.first c.loop-chunk.last n (omega (arith, c.loop-chunk-test.true))
    (λ d. ap (number k) (same_element c.args.refs.now c.loop-chunk.chunk-index d c.chunk-item.result (omega (arith, c.loop-chunk-test.true)) ∙ sym c.chunk-item.is)
    ∙ ap (λ index. slice_index index k) (sym c.parts-in-loop-chunk.ensures.value))
    c.loop-chunk.invariant.0 in (
      subst (λ (m : ℕ). Spans k c.args.refs.now (c.loop-chunk.chunk-index + 1) m c.max-last.result) (sym c.min-first.ensures)
          (subst (λ (m : ℕ). Spans k c.args.refs.now (c.loop-chunk.chunk-index + 1) (min c.loop-chunk.first n) m) (sym c.max-last.ensures) next),
      c.max-last.type_inv,
    )

pub overflow_add-result : goal.overflow_add-result
overflow_add-result c =
    omega (arith, last_low c.args.k c.args.refs.now c.loop-chunk.chunk-index c.loop-chunk.first c.loop-chunk.last c.requires.ranks c.requires.low c.loop-chunk.invariant.0)
