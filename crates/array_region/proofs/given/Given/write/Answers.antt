use Rattle.std.proofs.Common.{◌≡◌, ◌∙◌, true, length, sym, ap}
use Rattle.array_region.specs.Reading.{fits}
use Rattle.array_region.specs.Getting.{reads_of}
use Rattle.array_region.proofs.Planned.{over_at, box_of}
use Rattle.array_region.proofs.Entered.{fitting}
use Rattle.array_region.proofs.Written.{written, moved}
use Rattle.array_region.proofs.given.Given.write.Goals as goal

pub write_part-requires-clause-over : goal.write_part-requires-clause-over
write_part-requires-clause-over c =
    let p = c.args.self.now.plan in
    let fit : fits (reads_of p) c.args.index.now c.args.bytes.now c.args.self.now.numbers.items ≡ true = sym (ap (fits (reads_of p) c.args.index.now c.args.bytes.now) c.as_slice.ensures.value) ∙ sym c.fits.ensures ∙ c.if-fits.true in
    over_at p.array p.region.from.items p.region.to.items c.sides.result.chunks.now c.sides.result.from.now c.sides.result.to.now c.sides.result.index.now p.count p.within c.sides.ensures.chunks c.sides.ensures.from c.sides.ensures.to
    (ap length c.sides.ensures.index ∙ (fitting (reads_of p) c.args.index.now c.args.bytes.now c.args.self.now.numbers.items fit).rank)

pub returns-then-fits : goal.returns-then-fits
returns-then-fits c =
    let p = c.args.self.now.plan in
    let fit : fits (reads_of p) c.args.index.now c.args.bytes.now c.args.self.now.numbers.items ≡ true = sym (ap (fits (reads_of p) c.args.index.now c.args.bytes.now) c.as_slice.ensures.value) ∙ sym c.fits.ensures ∙ c.if-fits.true in
    written (reads_of p) c.args.index.now c.args.bytes.now c.args.self.now.numbers.items c.write_part.new.bytes fit
    ((box_of p.array p.region.from.items p.region.to.items p.count p.within).over c.args.index.now (fitting (reads_of p) c.args.index.now c.args.bytes.now c.args.self.now.numbers.items fit).rank)
    (moved c.args.bytes.now c.write_part.new.bytes c.element.ensures.kind c.element.ensures.big c.sides.ensures.from c.sides.ensures.to c.sides.ensures.chunks c.sides.ensures.index c.as_slice-then-fits.ensures.value c.write_part.ensures)
