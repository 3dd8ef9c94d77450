use Rattle.std.proofs.Common.{◌+◌, ◌-◌, ◌/◌, ◌<◌, ◌≤◌, None, ap, sym, ◌∙◌, arith}
use Rattle.std.specs.Ordering.{nat_cmp}
use Rattle.std.specs.Cmp.Lexicographic.{slice_cmp}
use Rattle.ice_ids.specs.declared.Id8.{Id8}
use Rattle.file_fields.specs.Fields.{id_key}
use Rattle.txn_file.specs.Logs.{array_key}
use Rattle.held_manifest.proofs.Halves.{whole, upper_half, lower_half, found_at, not_found}
use Rattle.held_log.proofs.Listed.{chunks_found, chunks_missing}
use Rattle.held_log.proofs.arrays.ArrayVector.chunks_of.Goals as goal

pub loop-low-init : goal.loop-low-init
loop-low-init c = whole array_key c.args.self.now (id_key c.args.id.now) c.len-high.result c.len-high.ensures.count

pub loop-low-preserved-in-Less : goal.loop-low-preserved-in-Less
loop-low-preserved-in-Less c =
    let m = c.loop-low.low + (c.loop-low.high - c.loop-low.low) / 2 in
    let lt : m < c.loop-low.high = omega arith in
    upper_half array_key c.args.self.now (id_key c.args.id.now) c.loop-low.low c.loop-low.high m c.at-array.result c.len-high.ensures.order c.loop-low.invariant lt c.at-array.ensures (ap (λ (id : Id8). slice_cmp nat_cmp id.0 c.args.id.now.0) (sym c.id.ensures) ∙ sym c.in-Less.ensures)

pub loop-low-preserved : goal.loop-low-preserved
loop-low-preserved c =
    let m = c.loop-low.low + (c.loop-low.high - c.loop-low.low) / 2 in
    let lt : m < c.loop-low.high = omega arith in
    let le : c.loop-low.low ≤ m = omega arith in
    lower_half array_key c.args.self.now (id_key c.args.id.now) c.loop-low.low c.loop-low.high m c.at-array.result c.len-high.ensures.order c.loop-low.invariant le lt c.at-array.ensures (ap (λ (id : Id8). slice_cmp nat_cmp id.0 c.args.id.now.0) (sym c.id.ensures) ∙ sym c.in-Greater.ensures)

pub returns-in-Equal : goal.returns-in-Equal
returns-in-Equal c =
    let m = c.loop-low.low + (c.loop-low.high - c.loop-low.low) / 2 in
    let found = found_at array_key None c.args.self.now (id_key c.args.id.now) m c.at-array.result c.len-high.ensures.order c.at-array.ensures (ap (λ (id : Id8). slice_cmp nat_cmp id.0 c.args.id.now.0) (sym c.id.ensures) ∙ sym c.in-Equal.ensures) in
    c.new.ensures ∙ c.into_chunks.ensures ∙ chunks_found c.args.self.now c.args.id.now c.at-array.result c.len-high.ensures.order found

pub returns : goal.returns
returns c =
    c.new-2.ensures ∙ chunks_missing c.args.self.now c.args.id.now c.len-high.ensures.order (not_found array_key c.args.self.now (id_key c.args.id.now) c.loop-low.low c.loop-low.high c.loop-low.invariant (omega arith))
