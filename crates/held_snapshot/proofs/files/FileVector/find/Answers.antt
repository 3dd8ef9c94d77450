use Rattle.std.proofs.Common.{◌+◌, ◌-◌, ◌/◌, ◌<◌, ◌≤◌, None, sym, arith}
use Rattle.snapshot_file.specs.Snapshots.{file_key}
use Rattle.held_manifest.proofs.Halves.{whole, upper_half, lower_half, found_at, not_found}
use Rattle.held_snapshot.proofs.files.FileVector.find.Goals as goal

pub loop-low-init : goal.loop-low-init
loop-low-init c = whole file_key c.args.self.now c.args.id.now.0 c.len-high.result c.len-high.ensures.count

pub loop-low-preserved-in-Less : goal.loop-low-preserved-in-Less
loop-low-preserved-in-Less c =
    let m = c.loop-low.low + (c.loop-low.high - c.loop-low.low) / 2 in
    let lt : m < c.loop-low.high = omega arith in
    upper_half file_key c.args.self.now c.args.id.now.0 c.loop-low.low c.loop-low.high m c.at-file.result c.len-high.ensures.order c.loop-low.invariant lt c.at-file.ensures (sym c.in-Less.ensures)

pub loop-low-preserved : goal.loop-low-preserved
loop-low-preserved c =
    let m = c.loop-low.low + (c.loop-low.high - c.loop-low.low) / 2 in
    let lt : m < c.loop-low.high = omega arith in
    let le : c.loop-low.low ≤ m = omega arith in
    lower_half file_key c.args.self.now c.args.id.now.0 c.loop-low.low c.loop-low.high m c.at-file.result c.len-high.ensures.order c.loop-low.invariant le lt c.at-file.ensures (sym c.in-Greater.ensures)

pub returns-in-Equal : goal.returns-in-Equal
returns-in-Equal c =
    let m = c.loop-low.low + (c.loop-low.high - c.loop-low.low) / 2 in
    sym (found_at file_key None c.args.self.now c.args.id.now.0 m c.at-file.result c.len-high.ensures.order c.at-file.ensures (sym c.in-Equal.ensures))

pub returns : goal.returns
returns c = sym (not_found file_key c.args.self.now c.args.id.now.0 c.loop-low.low c.loop-low.high c.loop-low.invariant (omega arith))
