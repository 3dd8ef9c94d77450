-- An edit that is done or refused by its parts is done or refused as its definition says.
use Rattle.std.proofs.Common.{◌≡◌, Option, Some, None, Ok, Err, refl, sym, ap, ◌∙◌}
use Rattle.std.specs.FinMap.{FinMap}
use Rattle.zarr_path.specs.Paths.{path_cmp}
use Rattle.zarr_tree.specs.declared.edit.EditFault.{EditFault}
use Rattle.zarr_tree.specs.declared.edit.EditFault.TheVariants as fault
use Rattle.zarr_tree.specs.Nodes.{Node}
use Rattle.zarr_tree.specs.Trees.{Tree}
use Rattle.zarr_tree.specs.Edits.{Edit, Add, SetMeta, Drop, Set, Unset, refusal, edited, unless, change}
use Rattle.zarr_tree.specs.Changes.{Changes, apply, nodes_under, extended, extend}
use Rattle.tree_model.specs.Models.{tree_with, Takes, Extends}
use Rattle.tree_model.specs.inside.Entering.{entered}

-- a refusal reads no chunk
same_refusal : (t : Tree) (e : Edit) → refusal (tree_with t.nodes) e ≡ refusal t e
same_refusal t (Add p id text) = refl
same_refusal t (SetMeta p text) = refl
same_refusal t (Drop p) = refl
same_refusal t (Set p i bytes) = refl
same_refusal t (Unset p i) = refl

module _ (t u : Tree) (e : Edit) where
  refused : (f : EditFault) → refusal t e ≡ Some f → change t e ≡ Err f
  refused f is = ap (λ (r : Option EditFault). unless r (edited t e)) is

  pub takes_edit : refusal (tree_with t.nodes) e ≡ None → u ≡ edited t e → Takes t e (Ok tt) u
  takes_edit why is = ap (λ (r : Option EditFault). unless r (edited t e)) (sym (same_refusal t e) ∙ why) ∙ ap (λ (x : Tree). Ok x) (sym is)

  pub takes_refusal : (f : EditFault) → refusal (tree_with t.nodes) e ≡ Some f → u ≡ t → Takes t e (Err f) u
  takes_refusal f why is = by_fault f (refused f (sym (same_refusal t e) ∙ why))
    where
      by_fault : (f : EditFault) → change t e ≡ Err f → Takes t e (Err f) u
      by_fault fault.NodeExists h = (h, is)
      by_fault fault.NoParent h = (h, is)
      by_fault fault.Full h = (h, is)
      by_fault fault.NoNode h = (h, is)
      by_fault (fault.FrozenField part) h = (h, is)
      by_fault fault.NotArray h = (h, is)
      by_fault fault.OutOfGrid h = (h, is)
      by_fault (fault.ChunkLength want got) h = (h, is)
      by_fault fault.NoMemory h = is

-- ---- the same of changes
same_entered : (c : Changes) (t : Tree) (e : Edit) → entered c t.nodes (nodes_under c t.nodes) e ≡ extended c t e
same_entered c t (Add p id text) = refl
same_entered c t (SetMeta p text) = refl
same_entered c t (Drop p) = refl
same_entered c t (Set p i bytes) = refl
same_entered c t (Unset p i) = refl

module _ (c d : Changes) (t : Tree) (under : FinMap path_cmp Node) (e : Edit) (is_under : under ≡ nodes_under c t.nodes) where
  refusal_under : refusal (tree_with under) e ≡ refusal (apply c t) e
  refusal_under = ap (λ (nodes : FinMap path_cmp Node). refusal (tree_with nodes) e) is_under ∙ same_refusal (apply c t) e

  pub extends_edit : refusal (tree_with under) e ≡ None → d ≡ entered c t.nodes under e → Extends c t e (Ok tt) d
  extends_edit why is =
      ap (λ (r : Option EditFault). unless r (extended c t e)) (sym refusal_under ∙ why)
      ∙ ap (λ (x : Changes). Ok x) (sym (is ∙ ap (λ (nodes : FinMap path_cmp Node). entered c t.nodes nodes e) is_under ∙ same_entered c t e))

  pub extends_refusal : (f : EditFault) → refusal (tree_with under) e ≡ Some f → d ≡ c → Extends c t e (Err f) d
  extends_refusal f why is = by_fault f (ap (λ (r : Option EditFault). unless r (extended c t e)) (sym refusal_under ∙ why))
    where
      by_fault : (f : EditFault) → extend c t e ≡ Err f → Extends c t e (Err f) d
      by_fault fault.NodeExists h = (h, is)
      by_fault fault.NoParent h = (h, is)
      by_fault fault.Full h = (h, is)
      by_fault fault.NoNode h = (h, is)
      by_fault (fault.FrozenField part) h = (h, is)
      by_fault fault.NotArray h = (h, is)
      by_fault fault.OutOfGrid h = (h, is)
      by_fault (fault.ChunkLength want got) h = (h, is)
      by_fault fault.NoMemory h = is
