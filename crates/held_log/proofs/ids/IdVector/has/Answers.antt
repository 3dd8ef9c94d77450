use Rattle.std.proofs.Common.{◌+◌, ◌-◌, ◌/◌, ◌<◌, ◌≤◌, None, sym, arith}
use Rattle.file_fields.specs.Fields.{id_key}
use Rattle.held_manifest.proofs.Halves.{whole, upper_half, lower_half, found_at, not_found}
use Rattle.held_log.proofs.Listed.{id_found, id_missing}
use Rattle.held_log.proofs.ids.IdVector.has.Goals as goal

pub loop-low-init : goal.loop-low-init
loop-low-init c = whole id_key c.args.self.now (id_key c.args.id.now) c.len-high.result c.len-high.ensures.count

pub loop-low-preserved-in-Less : goal.loop-low-preserved-in-Less
loop-low-preserved-in-Less c =
    let m = c.loop-low.low + (c.loop-low.high - c.loop-low.low) / 2 in
    let lt : m < c.loop-low.high = omega arith in
    upper_half id_key c.args.self.now (id_key c.args.id.now) c.loop-low.low c.loop-low.high m c.at-found.result c.len-high.ensures.order c.loop-low.invariant lt c.at-found.ensures (sym c.in-Less.ensures)

pub loop-low-preserved : goal.loop-low-preserved
loop-low-preserved c =
    let m = c.loop-low.low + (c.loop-low.high - c.loop-low.low) / 2 in
    let lt : m < c.loop-low.high = omega arith in
    let le : c.loop-low.low ≤ m = omega arith in
    lower_half id_key c.args.self.now (id_key c.args.id.now) c.loop-low.low c.loop-low.high m c.at-found.result c.len-high.ensures.order c.loop-low.invariant le lt c.at-found.ensures (sym c.in-Greater.ensures)

pub returns-in-Equal : goal.returns-in-Equal
returns-in-Equal c =
    let m = c.loop-low.low + (c.loop-low.high - c.loop-low.low) / 2 in
    id_found c.args.self.now c.args.id.now c.at-found.result (found_at id_key None c.args.self.now (id_key c.args.id.now) m c.at-found.result c.len-high.ensures.order c.at-found.ensures (sym c.in-Equal.ensures))

pub returns : goal.returns
returns c = id_missing c.args.self.now c.args.id.now (not_found id_key c.args.self.now (id_key c.args.id.now) c.loop-low.low c.loop-low.high c.loop-low.invariant (omega arith))
