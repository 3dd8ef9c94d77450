use Rattle.std.proofs.Common.{◌+◌, ◌-◌, ◌/◌, ◌<◌, ◌≤◌, None, Some, ap, sym, ◌∙◌, arith}
use Rattle.std.specs.Prelude.{option_map}
use Rattle.std.specs.Ordering.{nat_cmp}
use Rattle.std.specs.Cmp.Lexicographic.{slice_cmp}
use Rattle.ice_ids.specs.declared.Id8.{Id8}
use Rattle.manifest_file.specs.declared.manifest.ArrayRefs.{ArrayRefs}
use Rattle.file_fields.specs.Fields.{id_key}
use Rattle.manifest_file.specs.Manifests.{array_key}
use Rattle.held_manifest.proofs.Halves.{whole, upper_half, lower_half, found_at, not_found}
use Rattle.held_manifest.proofs.arrays.Arrays.node.Goals as goal

pub loop-low-init : goal.loop-low-init
loop-low-init c = whole array_key c.args.self.now (id_key c.args.node) c.len-high.result c.len-high.ensures.count

pub loop-low-preserved-in-Less : goal.loop-low-preserved-in-Less
loop-low-preserved-in-Less c =
    let m = c.loop-low.low + (c.loop-low.high - c.loop-low.low) / 2 in
    let lt : m < c.loop-low.high = omega arith in
    upper_half array_key c.args.self.now (id_key c.args.node) c.loop-low.low c.loop-low.high m c.at-array.result c.len-high.ensures.order c.loop-low.invariant lt c.at-array.ensures (ap (λ (id : Id8). slice_cmp nat_cmp id.0 c.args.node.0) (sym c.id.ensures) ∙ sym c.in-Less.ensures)

pub loop-low-preserved : goal.loop-low-preserved
loop-low-preserved c =
    let m = c.loop-low.low + (c.loop-low.high - c.loop-low.low) / 2 in
    let lt : m < c.loop-low.high = omega arith in
    let le : c.loop-low.low ≤ m = omega arith in
    lower_half array_key c.args.self.now (id_key c.args.node) c.loop-low.low c.loop-low.high m c.at-array.result c.len-high.ensures.order c.loop-low.invariant le lt c.at-array.ensures (ap (λ (id : Id8). slice_cmp nat_cmp id.0 c.args.node.0) (sym c.id.ensures) ∙ sym c.in-Greater.ensures)

pub returns-in-Equal : goal.returns-in-Equal
returns-in-Equal c =
    let m = c.loop-low.low + (c.loop-low.high - c.loop-low.low) / 2 in
    let found = found_at array_key None c.args.self.now (id_key c.args.node) m c.at-array.result c.len-high.ensures.order c.at-array.ensures (ap (λ (id : Id8). slice_cmp nat_cmp id.0 c.args.node.0) (sym c.id.ensures) ∙ sym c.in-Equal.ensures) in
    ap Some c.into_refs.ensures ∙ ap (option_map (λ (r : ArrayRefs). r.refs)) (sym found)

pub returns : goal.returns
returns c = ap (option_map (λ (r : ArrayRefs). r.refs)) (sym (not_found array_key c.args.self.now (id_key c.args.node) c.loop-low.low c.loop-low.high c.loop-low.invariant (omega arith)))
