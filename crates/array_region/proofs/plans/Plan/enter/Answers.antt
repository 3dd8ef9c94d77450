use Rattle.std.proofs.Common.{◌≡◌, true, length, sym, ◌∙◌, ap, subst}
use Rattle.zarr_meta.specs.Grids.{chunk_bytes}
use Rattle.zarr_meta.specs.Kinds.{size_of}
use Rattle.region_cells.specs.Boxes.{count_of}
use Rattle.region_cells.specs.Parts.{ReadsPart}
use Rattle.array_region.specs.Reading.{fits}
use Rattle.array_region.specs.Getting.{reads_of}
use Rattle.array_region.proofs.Planned.{over_at, same_rank}
use Rattle.array_region.proofs.Entered.{fitting, entered}
use Rattle.array_region.proofs.plans.Plan.enter.Goals as goal
use Rattle.array_region.proofs.plans.Plan.enter.Goals.{After-read_part-arg-1}

fit : (c : After-read_part-arg-1) → fits (reads_of c.args.self.now) c.args.index.now c.in-Bytes.bytes c.args.numbers.now ≡ true
fit c = ap (λ b. fits (reads_of c.args.self.now) c.args.index.now b c.args.numbers.now) (sym c.as_slice.ensures.value) ∙ sym c.fits.ensures ∙ c.if-not-fits.false

pub read_part-requires-clause-over : goal.read_part-requires-clause-over
read_part-requires-clause-over c =
    let p = c.args.self.now in
    over_at p.array p.region.from.items p.region.to.items c.sides.result.chunks.now c.sides.result.from.now c.sides.result.to.now c.sides.result.index.now p.count p.within c.sides.ensures.chunks c.sides.ensures.from c.sides.ensures.to
    (ap length c.sides.ensures.index ∙ (fitting (reads_of p) c.args.index.now c.in-Bytes.bytes c.args.numbers.now (fit (goal.at.read_part-requires-clause-over c).After-read_part-arg-1)).rank)

pub read_part-requires-clause-whole : goal.read_part-requires-clause-whole
read_part-requires-clause-whole c =
    let p = c.args.self.now in
    ap length c.as_slice-2.ensures.value ∙ (fitting (reads_of p) c.args.index.now c.in-Bytes.bytes c.args.numbers.now (fit (goal.at.read_part-requires-clause-whole c).After-read_part-arg-1)).whole
    ∙ sym (ap (chunk_bytes (size_of p.array.kind)) c.sides.ensures.chunks)

pub read_part-requires-clause-count : goal.read_part-requires-clause-count
read_part-requires-clause-count c =
    let p = c.args.self.now in
    (fitting (reads_of p) c.args.index.now c.in-Bytes.bytes c.args.numbers.now (fit (goal.at.read_part-requires-clause-count c).After-read_part-arg-1)).count
    ∙ sym (λ i. count_of (c.sides.ensures.from i) (c.sides.ensures.to i))

pub returns : goal.returns
returns c =
    let p = c.args.self.now in
    let from = subst (λ l. ReadsPart p.array.kind p.array.big l c.sides.result.to.now c.sides.result.chunks.now c.sides.result.index.now c.as_slice-2.result.now c.args.numbers.now c.read_part.new.cells) c.sides.ensures.from c.read_part.ensures in
    let to = subst (λ l. ReadsPart p.array.kind p.array.big p.region.from.items l c.sides.result.chunks.now c.sides.result.index.now c.as_slice-2.result.now c.args.numbers.now c.read_part.new.cells) c.sides.ensures.to from in
    let chunks = subst (λ l. ReadsPart p.array.kind p.array.big p.region.from.items p.region.to.items l c.sides.result.index.now c.as_slice-2.result.now c.args.numbers.now c.read_part.new.cells) c.sides.ensures.chunks to in
    let index = subst (λ l. ReadsPart p.array.kind p.array.big p.region.from.items p.region.to.items p.array.chunks l c.as_slice-2.result.now c.args.numbers.now c.read_part.new.cells) c.sides.ensures.index chunks in
    let read = subst (λ l. ReadsPart p.array.kind p.array.big p.region.from.items p.region.to.items p.array.chunks c.args.index.now l c.args.numbers.now c.read_part.new.cells) c.as_slice-2.ensures.value index in
    entered (reads_of p) c.args.index.now c.in-Bytes.bytes c.args.value.now c.args.numbers.now c.read_part.new.cells (same_rank p.array p.region.from.items p.region.to.items p.count p.within) (fit (goal.at.returns c).After-read_part-arg-1) c.in-Bytes.is read
