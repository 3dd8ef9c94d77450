use Rattle.std.proofs.Common.{◌<◌, Some, length, ap, sym, ◌∙◌, arith}
use Rattle.std.specs.Prelude.{ℕ, List, slice_get}
use Rattle.snapshot_file.specs.Nodes.{dimension_of}
use Rattle.held_snapshot.proofs.Made.{made_count, made_at}
use Rattle.held_snapshot.proofs.pairs.HeldShape.at.Goals as goal

pub item-requires : goal.item-requires
item-requires c =
    let count = made_count dimension_of c.self.inside.vector in
    let len = ap length c.self.view_is in
    omega (arith, c.requires, count, len)

pub dimension_of-requires : goal.dimension_of-requires
dimension_of-requires c = c.item.ensures.len ∙ c.self.invariant

pub returns : goal.returns
returns c =
    let v = c.self.inside.vector in
    let count = made_count dimension_of v in
    let len = ap length c.self.view_is in
    let lt : c.args.k < v.count = omega (arith, c.requires, count, len) in
    ap (λ (xs : List (ℕ × ℕ)). slice_get xs c.args.k) (sym c.self.view_is) ∙ made_at dimension_of v c.args.k lt ∙ ap (λ (x : ℕ × ℕ). Some x) (sym (c.dimension_of.ensures ∙ ap dimension_of c.item.ensures.item))
