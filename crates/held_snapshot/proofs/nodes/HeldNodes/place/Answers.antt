use Rattle.std.proofs.Common.{ℕ, List, ◌+◌, ◌-◌, ◌/◌, ◌<◌, ◌≤◌, ap, sym, ◌∙◌, arith}
use Rattle.zarr_path.specs.Paths.{path_cmp}
use Rattle.snapshot_file.specs.Snapshots.{node_key}
use Rattle.held_manifest.proofs.Halves.{whole, upper_half, lower_half}
use Rattle.held_snapshot.proofs.Places.{place_found, place_missing}
use Rattle.held_snapshot.proofs.nodes.HeldNodes.place.Goals as goal

pub loop-low-init : goal.loop-low-init
loop-low-init c = whole node_key c.args.self.now c.args.path.now c.len-high.result c.len-high.ensures.count

pub loop-low-preserved-in-Less : goal.loop-low-preserved-in-Less
loop-low-preserved-in-Less c =
    let m = c.loop-low.low + (c.loop-low.high - c.loop-low.low) / 2 in
    let lt : m < c.loop-low.high = omega arith in
    let is = ap (λ (p : List ℕ). path_cmp p c.args.path.now) (sym c.path.ensures.value) ∙ sym c.cmp.ensures ∙ c.in-Less.is in
    upper_half node_key c.args.self.now c.args.path.now c.loop-low.low c.loop-low.high m c.at.result c.len-high.ensures.order c.loop-low.invariant lt c.at.ensures is

pub loop-low-preserved : goal.loop-low-preserved
loop-low-preserved c =
    let m = c.loop-low.low + (c.loop-low.high - c.loop-low.low) / 2 in
    let lt : m < c.loop-low.high = omega arith in
    let le : c.loop-low.low ≤ m = omega arith in
    let is = ap (λ (p : List ℕ). path_cmp p c.args.path.now) (sym c.path.ensures.value) ∙ sym c.cmp.ensures ∙ c.in-Greater.is in
    lower_half node_key c.args.self.now c.args.path.now c.loop-low.low c.loop-low.high m c.at.result c.len-high.ensures.order c.loop-low.invariant le lt c.at.ensures is

pub returns-in-Equal : goal.returns-in-Equal
returns-in-Equal c =
    let m = c.loop-low.low + (c.loop-low.high - c.loop-low.low) / 2 in
    let is = ap (λ (p : List ℕ). path_cmp p c.args.path.now) (sym c.path.ensures.value) ∙ sym c.cmp.ensures ∙ c.in-Equal.is in
    sym (place_found c.args.self.now c.args.path.now m c.at.result c.len-high.ensures.order c.at.ensures is)

pub returns : goal.returns
returns c = sym (place_missing c.args.self.now c.args.path.now c.loop-low.low c.loop-low.high c.loop-low.invariant (omega arith))
