-- What adding a node answers.
use Rattle.std.proofs.Common.{◌≡◌, Bool, true, false, cond, not, ◌&&◌, Option, Some, None, Result, Ok, Err, is_some, option_map, refl, sym, ap, ◌∙◌}
use Rattle.std.specs.Prelude.{◌||◌, nat_le}
use Rattle.std.specs.Option.{option_or}
use Rattle.std.specs.FinMap.{FinMap, get, len}
use Rattle.zarr_path.specs.Paths.{path_cmp, same_path, root, parent_of}
use Rattle.zarr_path.proofs.OrderLaws.{same_path-false}
use Rattle.std.proofs.Common.{◌≢◌, List, ℕ}
use Rattle.zarr_tree.specs.declared.edit.EditFault.{EditFault}
use Rattle.zarr_tree.specs.declared.edit.EditFault.TheVariants as fault
use Rattle.zarr_tree.specs.Nodes.{Node}
use Rattle.zarr_tree.specs.Edits.{unless, is_group_at, most_nodes}
use Rattle.zarr_tree.specs.Held.{Held, nodes_over}
use Rattle.zarr_changes.specs.Sets.{Enters, add_refusal}
use Rattle.zarr_changes.specs.inside.Own.{own_node, place_refusal}
use Rattle.zarr_changes.proofs.Over.{node-over}

pub some-map : {A B : Type 0} (f : A → B) (o : Option A) → is_some (option_map f o) ≡ is_some o
some-map f None = refl
some-map f (Some x) = refl

-- what asking whether a node may be added answers
abbrev pub Asked : Result (Unit {0}) EditFault → Option EditFault → Type 0
Asked r refusal = r ≡ unless refusal tt

some_fault : (r : Option EditFault) (f : EditFault) → Asked (Err f) r → r ≡ Some f
some_fault None f e = cc
some_fault (Some g) f e = let same : g ≡ f = cc in ap (λ (x : EditFault). Some x) same

pub not_refused : (r : Option EditFault) (u : Unit {0}) → Asked (Ok u) r → r ≡ None
not_refused None u e = refl
not_refused (Some g) u e = cc

module _ {P : Type 0} (h new : Held P) (r : Option EditFault) where
  -- a refusal leaves what is held
  refused : (f : EditFault) → Asked (Err f) r → Enters r new h (Err f) h
  refused fault.NodeExists e = (some_fault r fault.NodeExists e, refl)
  refused fault.NoParent e = (some_fault r fault.NoParent e, refl)
  refused fault.Full e = (some_fault r fault.Full e, refl)
  refused fault.NoNode e = (some_fault r fault.NoNode e, refl)
  refused (fault.FrozenField part) e = (some_fault r (fault.FrozenField part) e, refl)
  refused fault.NotArray e = (some_fault r fault.NotArray e, refl)
  refused fault.OutOfGrid e = (some_fault r fault.OutOfGrid e, refl)
  refused (fault.ChunkLength want got) e = (some_fault r (fault.ChunkLength want got) e, refl)
  refused fault.NoMemory e = refl

  -- what asking answers, where there is a refusal
  pub answered : (s : Result (Unit {0}) EditFault) → is_some r ≡ true → Asked s r → Enters r new h s h
  answered (Ok u) there e = let none : r ≡ None = not_refused r u e in cc
  answered (Err g) there e = refused g e

-- a path that isn't `/`, and no group at its parent
pub no_parent : (nodes : FinMap path_cmp Node) (p : List ℕ) → p ≢ root → is_group_at (get nodes (parent_of p)) ≡ false → place_refusal nodes p ≡ Some fault.NoParent
no_parent nodes p other alone i = cond (not (same_path-false p root other i) && not (alone i)) (Some fault.NoParent) (cond (nat_le most_nodes (len nodes)) (Some fault.Full) None)

-- ---- by the added nodes, the tree's own, and the place
abbrev refused_by : (added own : Option Node) (place : Option EditFault) → Option EditFault
refused_by added own place = cond (is_some (option_or added own)) (Some fault.NodeExists) place

closed_by : (added own : Option Node) (place : Option EditFault) → (is_some own || is_some place) ≡ true → is_some (refused_by added own place) ≡ true
closed_by (Some n) own place e = refl
closed_by None (Some n) place e = refl
closed_by None None (Some f) e = refl
closed_by None None None e = absurd (cc)

free_by : (added own : Option Node) (place : Option EditFault) → (is_some own || is_some place) ≡ false → refused_by added own place ≡ cond (is_some added) (Some fault.NodeExists) None
free_by (Some n) own place e = refl
free_by None (Some n) place e = absurd (cc)
free_by None None (Some f) e = absurd (cc)
free_by None None None e = refl

module _ {P : Type 0} (h : Held P) (nodes : FinMap path_cmp Node) (p : List ℕ) where
  abbrev place : Option EditFault
  place = place_refusal (nodes_over h nodes) p

  parted : add_refusal (nodes_over h nodes) p ≡ refused_by (get h.added p) (own_node h nodes p) place
  parted = ap (λ (o : Option Node). cond (is_some o) (Some fault.NodeExists) place) (node-over h nodes p)

  pub closed : (is_some (own_node h nodes p) || is_some place) ≡ true → is_some (add_refusal (nodes_over h nodes) p) ≡ true
  closed e = ap (λ (o : Option EditFault). is_some o) parted ∙ closed_by (get h.added p) (own_node h nodes p) place e

  -- else an added node alone refuses it
  pub by_added : (free : Bool) → (is_some (own_node h nodes p) || is_some place) ≡ false → free ≡ not (is_some (get h.added p)) → add_refusal (nodes_over h nodes) p ≡ cond free None (Some fault.NodeExists)
  by_added free e f = parted ∙ free_by (get h.added p) (own_node h nodes p) place e ∙ turned (is_some (get h.added p)) ∙ ap (λ (b : Bool). cond b None (Some fault.NodeExists)) (sym f)
    where
      turned : (b : Bool) → cond b (Some fault.NodeExists) None ≡ cond (not b) None (Some fault.NodeExists)
      turned true = refl
      turned false = refl
