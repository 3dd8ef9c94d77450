use Rattle.std.proofs.Common.{◌≡◌, ◌≤◌, ◌*◌, ◌∙◌, All, sym, subst, ap, arith}
use Rattle.zarr_meta.specs.Grids.{product, chunk_bytes}
use Rattle.zarr_meta.specs.Kinds.{size_of}
use Rattle.array_region.proofs.Planned.{box_of}
use Rattle.array_region.proofs.Ranged.{one_byte}
use Rattle.array_region.proofs.plans.Plan.unheld.Goals as goal

pub chunk_bytes-count-requires-clause-positive : goal.chunk_bytes-count-requires-clause-positive
chunk_bytes-count-requires-clause-positive c =
    let p = c.args.self.now in
    subst (All (λ n. 1 ≤ n)) (sym c.as_slice.ensures) (box_of p.array p.region.from.items p.region.to.items p.count p.within).positive

pub chunk_bytes-count-requires-clause-small : goal.chunk_bytes-count-requires-clause-small
chunk_bytes-count-requires-clause-small c =
    let p = c.args.self.now in
    let same : chunk_bytes 1 c.as_slice.result.now ≡ chunk_bytes 1 p.array.chunks = ap (chunk_bytes 1) c.as_slice.ensures in
    let small = one_byte p.array.kind p.array.chunks (box_of p.array p.region.from.items p.region.to.items p.count p.within).small in
    omega (arith, same, small)

pub filled_chunk-requires-clause-small : goal.filled_chunk-requires-clause-small
filled_chunk-requires-clause-small c =
    let p = c.args.self.now in
    let one : 1 * product p.array.chunks ≡ product p.array.chunks = omega arith in
    let same : c.chunk_bytes-count.result ≡ product p.array.chunks = c.chunk_bytes-count.ensures ∙ ap (chunk_bytes 1) c.as_slice.ensures ∙ one in
    let whole : size_of c.element.result.kind * c.chunk_bytes-count.result ≡ size_of p.array.kind * product p.array.chunks = λ i. size_of (c.element.ensures.kind i) * same i in
    omega (arith, whole, (box_of p.array p.region.from.items p.region.to.items p.count p.within).small)
