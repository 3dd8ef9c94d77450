-- In a well-formed tree all that is above a node is there.
use Rattle.std.proofs.Common.{◌≡◌, ◌≢◌, ℕ, zero, suc, ◌<◌, true, false, length, Some, refl, sym, ap, subst, ◌∙◌, arith}
use Rattle.zarr_path.specs.Laws.{IsBeneath}
use Rattle.zarr_path.specs.Paths.{same_path, is_path, is_within, parent_of}
use Rattle.zarr_path.proofs.OrderLaws.{same_path-true, same_path-refl}
use Rattle.zarr_path.proofs.PathLaws.{beneath}
use Rattle.zarr_tree.specs.Nodes.{Node, is_group}
use Rattle.zarr_tree.specs.Trees.{Tree, node_at, IsWellFormed, HasGroup}
use Rattle.zarr_tree.proofs.Maps.{Path}

pub apart : (p q : Path) → same_path p q ≡ false → p ≢ q
apart p q h e = let f : same_path p q ≡ true = subst (λ x. same_path p x ≡ true) e (same_path-refl p) in cc

pub record Has (t : Tree) (p : Path) : Type 0 where
  pub node : Node
  pub found : node_at t p ≡ Some node

module _ (t : Tree) (wt : IsWellFormed t) (p : Path) (v : is_path p ≡ true) where
  above_of : (k : ℕ) (q : Path) (n : Node) → length q < k → node_at t q ≡ Some n → is_within p q ≡ true → Has t p
  above_of zero q n h f w = absurd (omega arith)
  above_of (suc k) q n h f w =
      elim (same_path p q) as (λ b. same_path p q ≡ b → Has t p) [
        | true ↦ λ e. record { node = n; found = ap (node_at t) (same_path-true p q e) ∙ f }
        | false ↦ λ e.
            let b : IsBeneath p q = beneath p q v w (apart p q e) in
            let g : HasGroup t (parent_of q) = wt.parents q n f b.not_root in
            let less : length (parent_of q) < k = omega (arith, b.shorter, h) in
            above_of k (parent_of q) g.node less g.found b.parent
      ] refl

  pub above : (q : Path) (n : Node) → node_at t q ≡ Some n → is_within p q ≡ true → Has t p
  above q n f w = above_of (suc (length q)) q n (omega arith) f w

  -- what is above a node is a group
  group_of : (k : ℕ) (q : Path) (n a : Node) → length q < k → node_at t q ≡ Some n → is_within p q ≡ true → p ≢ q → node_at t p ≡ Some a → is_group a.text ≡ true
  group_of zero q n a h f w ne e = absurd (omega arith)
  group_of (suc k) q n a h f w ne e =
      let b : IsBeneath p q = beneath p q v w ne in
      let g : HasGroup t (parent_of q) = wt.parents q n f b.not_root in
      elim (same_path p (parent_of q)) as (λ s. same_path p (parent_of q) ≡ s → is_group a.text ≡ true) [
        | true ↦ λ s.
            let here : node_at t p ≡ Some g.node = ap (node_at t) (same_path-true p (parent_of q) s) ∙ g.found in
            let same : a ≡ g.node = cc (sym e ∙ here) in
            ap (λ (m : Node). is_group m.text) same ∙ g.group
        | false ↦ λ s.
            let less : length (parent_of q) < k = omega (arith, b.shorter, h) in
            group_of k (parent_of q) g.node a less g.found b.parent (apart p (parent_of q) s) e
      ] refl

  pub group_above : (q : Path) (n a : Node) → node_at t q ≡ Some n → is_within p q ≡ true → p ≢ q → node_at t p ≡ Some a → is_group a.text ≡ true
  group_above q n a f w ne e = group_of (suc (length q)) q n a (omega arith) f w ne e
