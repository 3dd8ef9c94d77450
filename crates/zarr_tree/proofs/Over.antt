-- Changes lie over a tree whatever ids are added.
use Rattle.std.proofs.Common.{◌≡◌, ◌⊎◌, inl, inr, ℕ, Bool, true, false, cond, not, ◌||◌, List, Option, Some, None, is_some, refl, sym, ap, ◌∙◌}
use Rattle.std.specs.FinMap.{get, insert, get-empty}
use Rattle.ice_ids.specs.declared.Id8.{Id8}
use Rattle.zarr_path.specs.Paths.{path_cmp, same_path, is_within}
use Rattle.zarr_path.proofs.OrderLaws.{same_path-true}
use Rattle.zarr_tree.specs.Nodes.{Node, is_metadata}
use Rattle.zarr_tree.specs.Trees.{Tree, node_at}
use Rattle.zarr_tree.specs.Edits.{Edit, Add, SetMeta, Drop, Set, Unset, refusal, with_text}
use Rattle.zarr_tree.specs.Changes.{Changes, none, is_gone, patched, apply, extended, with_meta, with_entry, HasMetadata, IsOver, IsNormal}
use Rattle.zarr_tree.specs.declared.cases.Case.TheVariants as case
use Rattle.zarr_tree.specs.Touched.{Touched}
use Rattle.zarr_tree.specs.Conflicts.{NoHardConflict, without}
use Rattle.zarr_tree.specs.Laws.{OverLaw}
use Rattle.zarr_tree.proofs.Maps.{Path, Index, get-put, get-where}
use Rattle.zarr_tree.proofs.NodeLaws.{Text, frozen-metadata}
use Rattle.zarr_tree.proofs.Apply.{Gone, gone-intro, gone-elim, added_node, own_node}
use Rattle.zarr_tree.proofs.Extend.{passed, none_left, Kept, kept_of}

or-left : (a b : Bool) → a ≡ true → (a || b) ≡ true
or-left true b h = refl
or-left false b h = cc

-- a node put into `added`
put_over : (c : Changes) (t : Tree) (p : Path) (x : Node) → IsOver c t → is_metadata x.text ≡ true → ((n : Node) → node_at t p ≡ Some n → is_gone c.dropped t.nodes p ≡ true) → IsOver (record c { added = insert c.added p x }) t
put_over c t p x o meta free = record { readable = λ q n f. readable q n (cases q n f); free = λ q m n f g. over q m n (cases q m f) g }
  where
    cases : (q : Path) (n : Node) → get (insert c.added p x) q ≡ Some n → ((q ≡ p) × (n ≡ x)) ⊎ (get c.added q ≡ Some n)
    cases q n f = elim (same_path q p) as (λ s. same_path q p ≡ s → ((q ≡ p) × (n ≡ x)) ⊎ (get c.added q ≡ Some n)) [
      | true ↦ λ s. let here : Some n ≡ Some x = sym f ∙ get-put c.added p x q ∙ ap (λ b. cond b (Some x) (get c.added q)) s in inl (same_path-true q p s, cc here)
      | false ↦ λ s. inr (sym (get-put c.added p x q ∙ ap (λ b. cond b (Some x) (get c.added q)) s) ∙ f)
    ] refl

    readable : (q : Path) (n : Node) → ((q ≡ p) × (n ≡ x)) ⊎ (get c.added q ≡ Some n) → is_metadata n.text ≡ true
    readable q n (inl e) = ap (λ (y : Node). is_metadata y.text) e.1 ∙ meta
    readable q n (inr f) = o.readable q n f

    over : (q : Path) (m n : Node) → ((q ≡ p) × (m ≡ x)) ⊎ (get c.added q ≡ Some m) → node_at t q ≡ Some n → is_gone c.dropped t.nodes q ≡ true
    over q m n (inl e) g = ap (is_gone c.dropped t.nodes) e.0 ∙ free n (ap (node_at t) (sym e.0) ∙ g)
    over q m n (inr f) g = o.free q m n f g

-- where no node stands under the changes, the tree's own is gone
bare_gone : (c : Changes) (t : Tree) (p : Path) → node_at (apply c t) p ≡ None → (n : Node) → node_at t p ≡ Some n → is_gone c.dropped t.nodes p ≡ true
bare_gone c t p absent n f = by_case (is_gone c.dropped t.nodes p) refl (get c.added p) refl
  where
    by_case : (b : Bool) → is_gone c.dropped t.nodes p ≡ b → (o : Option Node) → get c.added p ≡ o → b ≡ true
    by_case true e o g = refl
    by_case false e None g = let bad : None ≡ Some (patched c.metas n) = sym absent ∙ own_node c t p n g e f in cc
    by_case false e (Some x) g = let bad : None ≡ Some x = sym absent ∙ added_node c t p x g in cc

module _ (c : Changes) (t : Tree) (o : IsOver c t) where
  meta-over : (p : Path) (m : Text) → refusal (apply c t) (SetMeta p m) ≡ None → (a u : Option Node) → get c.added p ≡ a → node_at (apply c t) p ≡ u → IsOver (with_meta c p m a u) t
  meta-over p m ok (Some n) u e f = put_over c t p (with_text m n) o meta (λ x g. o.free p n x e g)
    where
      kept : Kept (apply c t) p m
      kept = kept_of (apply c t) p m ok

      meta : is_metadata m ≡ true
      meta =
          let here : kept.node ≡ n = cc (sym kept.found ∙ added_node c t p n e) in
          sym (frozen-metadata kept.node.text m kept.same) ∙ ap (λ (x : Node). is_metadata x.text) here ∙ o.readable p n e
  meta-over p m ok None None e f = o
  meta-over p m ok None (Some n) e f = record { readable = o.readable; free = o.free }

  drop-over : (p : Path) → IsOver (extended c t (Drop p)) t
  drop-over p = record { readable = λ q n f. o.readable q n (left q n f); free = λ q m n f g. over q (o.free q m n (left q m f) g) }
    where
      left : (q : Path) (n : Node) → get (extended c t (Drop p)).added q ≡ Some n → get c.added q ≡ Some n
      left q n f = elim (is_within p q) as (λ b. cond (not b) (get c.added q) None ≡ Some n → get c.added q ≡ Some n) [ true ↦ λ h. cc | false ↦ λ h. h ] (sym (get-where c.added (λ r. not (is_within p r)) q) ∙ f)

      over : (q : Path) → is_gone c.dropped t.nodes q ≡ true → is_gone (extended c t (Drop p)).dropped t.nodes q ≡ true
      over q h =
          let g : Gone c.dropped t q = gone-elim c.dropped t q h in
          gone-intro (extended c t (Drop p)).dropped t q (record { path = g.path; node = g.node; found = g.found; dropped_id = or-left (c.dropped g.node.id) _ g.dropped_id; within = g.within })

  entry-over : (i : Index) (e : Option (Option (List ℕ))) (u : Option Node) → IsOver (with_entry c i e u) t
  entry-over i e None = o
  entry-over i e (Some n) = record { readable = o.readable; free = o.free }

  over : (e : Edit) → HasMetadata e → refusal (apply c t) e ≡ None → IsOver (extended c t e) t
  over (Add p id m) r h = put_over c t p (record { id = id; text = m }) o r (bare_gone c t p (none_left (node_at (apply c t) p) (passed _ _ _ h).0))
  over (SetMeta p m) r h = meta-over p m h (get c.added p) (node_at (apply c t) p) refl refl
  over (Drop p) r h = drop-over p
  over (Set p i b) r h = entry-over i (Some (Some b)) (node_at (apply c t) p)
  over (Unset p i) r h = entry-over i _ (node_at (apply c t) p)

none_over : (t : Tree) → IsOver none t
none_over t = record { readable = λ p n f. absurd (never p n f); free = λ p m n f g. absurd (never p m f) }
  where
    never : (p : Path) (n : Node) → get none.added p ≡ Some n → ⊥
    never p n f = let bad : None ≡ Some n = sym (get-empty path_cmp p) ∙ f in cc

pub normal_over : (c : Changes) (t : Tree) → IsNormal c t → IsOver c t
normal_over c t nc = record { readable = λ p n f. nc.well_formed.readable p n (added_node c t p n f); free = nc.free }

rebased : (c : Changes) (s : Touched) (t u : Tree) (out : Id8 → List ℕ → Bool) → IsOver c t → NoHardConflict c s t u → IsOver (without c out) u
rebased c s t u out o hard = record { readable = o.readable; free = λ p m n a f. free p m n a f (is_gone c.dropped u.nodes p) refl }
  where
    free : (p : Path) (m n : Node) → get c.added p ≡ Some m → node_at u p ≡ Some n → (b : Bool) → is_gone c.dropped u.nodes p ≡ b → b ≡ true
    free p m n a f true g = refl
    free p m n a f false g = absurd (hard case.NewNodeConflictsWithExistingNode p None refl (ap is_some a, ap is_some f, g))

pub over-law : OverLaw
over-law = record { none_over = none_over; kept = λ c t e o r h. over c t o e r h; normal = normal_over; rebased = rebased }
