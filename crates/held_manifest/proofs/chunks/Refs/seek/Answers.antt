use Rattle.std.proofs.Common.{◌+◌, ◌-◌, ◌/◌, ◌<◌, ◌≤◌, None, Some, ap, sym, ◌∙◌, arith}
use Rattle.std.specs.Prelude.{option_map}
use Rattle.manifest_file.specs.declared.manifest.ChunkRef.{ChunkRef}
use Rattle.manifest_file.specs.Manifests.{ref_key}
use Rattle.held_manifest.proofs.Halves.{whole, upper_half, lower_half, found_at, not_found}
use Rattle.held_manifest.proofs.chunks.Refs.seek.Goals as goal

pub loop-low-init : goal.loop-low-init
loop-low-init c = whole ref_key c.args.self.now c.args.index.now c.len-high.result c.len-high.ensures.count

pub loop-low-preserved-in-Less : goal.loop-low-preserved-in-Less
loop-low-preserved-in-Less c =
    let m = c.loop-low.low + (c.loop-low.high - c.loop-low.low) / 2 in
    let lt : m < c.loop-low.high = omega arith in
    upper_half ref_key c.args.self.now c.args.index.now c.loop-low.low c.loop-low.high m c.at-chunk.result c.len-high.ensures.order c.loop-low.invariant lt c.at-chunk.ensures (sym c.in-Less.ensures)

pub loop-low-preserved : goal.loop-low-preserved
loop-low-preserved c =
    let m = c.loop-low.low + (c.loop-low.high - c.loop-low.low) / 2 in
    let lt : m < c.loop-low.high = omega arith in
    let le : c.loop-low.low ≤ m = omega arith in
    lower_half ref_key c.args.self.now c.args.index.now c.loop-low.low c.loop-low.high m c.at-chunk.result c.len-high.ensures.order c.loop-low.invariant le lt c.at-chunk.ensures (sym c.in-Greater.ensures)

pub returns-in-Equal : goal.returns-in-Equal
returns-in-Equal c =
    let m = c.loop-low.low + (c.loop-low.high - c.loop-low.low) / 2 in
    let found = found_at ref_key None c.args.self.now c.args.index.now m c.at-chunk.result c.len-high.ensures.order c.at-chunk.ensures (sym c.in-Equal.ensures) in
    ap Some c.place.ensures ∙ ap (option_map (λ (r : ChunkRef). r.place)) (sym found)

pub returns : goal.returns
returns c = ap (option_map (λ (r : ChunkRef). r.place)) (sym (not_found ref_key c.args.self.now c.args.index.now c.loop-low.low c.loop-low.high c.loop-low.invariant (omega arith)))
