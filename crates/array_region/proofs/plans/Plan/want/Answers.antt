use Rattle.std.proofs.Common.{◌≡◌, ◌≤◌, All, sym, subst, arith}
use Rattle.zarr_meta.specs.Grids.{chunk_bytes}
use Rattle.zarr_meta.specs.Kinds.{size_of}
use Rattle.array_region.proofs.Planned.{box_of}
use Rattle.array_region.proofs.plans.Plan.want.Goals as goal

pub chunk_bytes-requires-clause-positive : goal.chunk_bytes-requires-clause-positive
chunk_bytes-requires-clause-positive c =
    let p = c.args.self.now in
    subst (All (λ n. 1 ≤ n)) (sym c.as_slice.ensures) (box_of p.array p.region.from.items p.region.to.items p.count p.within).positive

pub chunk_bytes-requires-clause-small : goal.chunk_bytes-requires-clause-small
chunk_bytes-requires-clause-small c =
    let p = c.args.self.now in
    let same : chunk_bytes c.size.result c.as_slice.result.now ≡ chunk_bytes (size_of p.array.kind) p.array.chunks = λ i. chunk_bytes (c.size.ensures i) (c.as_slice.ensures i) in
    omega (arith, same, (box_of p.array p.region.from.items p.region.to.items p.count p.within).small)
