use Rattle.std.proofs.Common.{◌<◌, Some, length, ap, sym, ◌∙◌, arith}
use Rattle.std.specs.Prelude.{ℕ, List, slice_get}
use Rattle.snapshot_file.specs.Nodes.{extent_of}
use Rattle.held_snapshot.proofs.Made.{made_count, made_at}
use Rattle.held_snapshot.proofs.pairs.HeldExtents.at.Goals as goal

pub item-requires : goal.item-requires
item-requires c =
    let count = made_count extent_of c.self.inside.vector in
    let len = ap length c.self.view_is in
    omega (arith, c.requires, count, len)

pub extent_of-requires : goal.extent_of-requires
extent_of-requires c = c.item.ensures.len ∙ c.self.invariant

pub returns : goal.returns
returns c =
    let v = c.self.inside.vector in
    let count = made_count extent_of v in
    let len = ap length c.self.view_is in
    let lt : c.args.k < v.count = omega (arith, c.requires, count, len) in
    ap (λ (xs : List (ℕ × ℕ)). slice_get xs c.args.k) (sym c.self.view_is) ∙ made_at extent_of v c.args.k lt ∙ ap (λ (x : ℕ × ℕ). Some x) (sym (c.extent_of.ensures ∙ ap extent_of c.item.ensures.item))
