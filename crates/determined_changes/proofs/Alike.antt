-- Changes that are the same can't be told apart by what they do.
use Rattle.std.proofs.Common.{◌≡◌, Bool, true, false, cond, Some, None, is_some, option_map, refl, sym, ap, subst, ◌∙◌}
use Rattle.std.specs.Cmp.{both_ways}
use Rattle.std.specs.Option.{option_or}
use Rattle.std.specs.FinMap.{get}
use Rattle.ice_ids.specs.declared.Id8.{Id8}
use Rattle.zarr_path.specs.Paths.{same_path}
use Rattle.zarr_path.proofs.OrderLaws.{same_path-true}
use Rattle.zarr_path.proofs.PathLaws.{within-refl, strictly_from}
use Rattle.zarr_tree.specs.Nodes.{Node, is_array, is_group}
use Rattle.zarr_tree.specs.Trees.{Tree, node_at, IsWellFormed}
use Rattle.zarr_tree.specs.Changes.{Changes, is_gone, patched, has_id, chunk_of, apply, StillHas, EntryFits, IsNormal}
use Rattle.zarr_tree.specs.declared.lists.Touched.{Touched}
use Rattle.zarr_tree.specs.Touched.{Touches, IsNew, IsDeleted, IsUpdated, IsUpdatedChunk}
use Rattle.zarr_tree.proofs.Maps.{Path, Index}
use Rattle.zarr_tree.proofs.NodeLaws.{Text}
use Rattle.zarr_tree.proofs.Above.{apart}
use Rattle.zarr_tree.proofs.Apply.{node-apply, Gone, gone-intro, gone-elim}
use Rattle.zarr_tree.proofs.Extend.{same_tree}
use Rattle.determined_changes.specs.Same.{AreSame, DropsNoneAdded, NoneGoneAbove}
use Rattle.determined_changes.specs.Laws.{AlikeLaw, TopmostLaw}

turned : (t : Tree) (c d : Changes) → AreSame t c d → AreSame t d c
turned t c d a = record { added = sym a.added; metas = λ id. sym (a.metas id); chunks = λ id i. sym (a.chunks id i); gone = λ p. sym (a.gone p) }

-- ---- the trees under them
nodes-same : (t : Tree) (c d : Changes) → AreSame t c d → (p : Path) → node_at (apply c t) p ≡ node_at (apply d t) p
nodes-same t c d a p =
    node-apply c t p
    ∙ (λ i. option_or (get (a.added i) p) (cond (a.gone p i) None (option_map (patched (λ id. a.metas id i)) (node_at t p))))
    ∙ sym (node-apply d t p)

tree-same : (t : Tree) (c d : Changes) → AreSame t c d → apply c t ≡ apply d t
tree-same t c d a = same_tree (apply c t) (apply d t) (nodes-same t c d a) (λ p j i. chunk_of (λ id k. a.chunks id k i) t p j (nodes-same t c d a p i))

-- ---- what is listed
module _ (t : Tree) (c d : Changes) (a : AreSame t c d) where
  there : (p : Path) (n : Node) → node_at (apply c t) p ≡ Some n → node_at (apply d t) p ≡ Some n
  there p n h = sym (nodes-same t c d a p) ∙ h

  new-too : (kind : Text → Bool) (id : Id8) → IsNew c kind id → IsNew d kind id
  new-too kind id x = record { path = x.path; node = x.node; added = sym (ap (λ m. get m x.path) a.added) ∙ x.added; same = x.same; kind_of = x.kind_of }

  deleted-too : (kind : Text → Bool) (id : Id8) → IsDeleted c t kind id → IsDeleted d t kind id
  deleted-too kind id x = record { path = x.path; node = x.node; found = x.found; same = x.same; kind_of = x.kind_of; gone = sym (a.gone x.path) ∙ x.gone }

  updated-too : (kind : Text → Bool) (id : Id8) → IsUpdated c t kind id → IsUpdated d t kind id
  updated-too kind id x = record {
    path = x.path;
    node = x.node;
    found = x.found;
    same = x.same;
    kind_of = x.kind_of;
    stays = ap (has_id id) (sym (nodes-same t c d a x.path)) ∙ x.stays;
    updated = ap is_some (sym (a.metas id)) ∙ x.updated;
  }

  chunk-too : (id : Id8) (i : Index) → IsUpdatedChunk c t id i → IsUpdatedChunk d t id i
  chunk-too id i x = record { path = x.path; node = x.node; found = there x.path x.node x.found; same = x.same; kind_of = x.kind_of; entry = ap is_some (sym (a.chunks id i)) ∙ x.entry }

touched-too : (t : Tree) (c d : Changes) → AreSame t c d → (l : Touched) → Touches c t l → Touches d t l
touched-too t c d a l ts =
    let b : AreSame t d c = turned t c d a in
    record {
      new_groups = λ id. (λ h. new-too t c d a is_group id ((ts.new_groups id).0 h), λ x. (ts.new_groups id).1 (new-too t d c b is_group id x));
      new_arrays = λ id. (λ h. new-too t c d a is_array id ((ts.new_arrays id).0 h), λ x. (ts.new_arrays id).1 (new-too t d c b is_array id x));
      deleted_groups = λ id. (λ h. deleted-too t c d a is_group id ((ts.deleted_groups id).0 h), λ x. (ts.deleted_groups id).1 (deleted-too t d c b is_group id x));
      deleted_arrays = λ id. (λ h. deleted-too t c d a is_array id ((ts.deleted_arrays id).0 h), λ x. (ts.deleted_arrays id).1 (deleted-too t d c b is_array id x));
      updated_arrays = λ id. (λ h. updated-too t c d a is_array id ((ts.updated_arrays id).0 h), λ x. (ts.updated_arrays id).1 (updated-too t d c b is_array id x));
      updated_groups = λ id. (λ h. updated-too t c d a is_group id ((ts.updated_groups id).0 h), λ x. (ts.updated_groups id).1 (updated-too t d c b is_group id x));
      updated_chunks = λ id i. (λ h. chunk-too t c d a id i ((ts.updated_chunks id i).0 h), λ x. (ts.updated_chunks id i).1 (chunk-too t d c b id i x));
    }

-- ---- they are normal
normal-too : (t : Tree) (c d : Changes) → IsNormal c t → AreSame t c d → DropsNoneAdded d → IsNormal d t
normal-too t c d nc a none = record {
  distinct = λ p q m n f g. nc.distinct p q m n (own p m f) (own q n g);
  fresh = λ p q m n f g. nc.fresh p q m n (own p m f) g;
  not_dropped = none;
  free = λ p m n f g. sym (a.gone p) ∙ nc.free p m n (own p m f) g;
  metas = λ id text m. subst (λ (u : Tree). StillHas t u id) (tree-same t c d a) (nc.metas id text (a.metas id ∙ m));
  frozen = λ id text p n m. nc.frozen id text p n (a.metas id ∙ m);
  chunks = λ id i entry m. subst (λ (u : Tree). EntryFits t u id i entry) (tree-same t c d a) (nc.chunks id i entry (a.chunks id i ∙ m));
  well_formed = subst IsWellFormed (tree-same t c d a) nc.well_formed;
}
  where
    own : (p : Path) (m : Node) → get d.added p ≡ Some m → get c.added p ≡ Some m
    own p m f = ap (λ x. get x p) a.added ∙ f

pub alike-law : AlikeLaw
alike-law t c d nc a none = (normal-too t c d nc a none, tree-same t c d a, touched-too t c d a)

-- ---- nodes above which none is gone
-- such a node is gone where it is dropped itself
dropped-is : (t : Tree) (c : Changes) (p : Path) (n : Node) → node_at t p ≡ Some n → NoneGoneAbove t c p → c.dropped n.id ≡ is_gone c.dropped t.nodes p
dropped-is t c p n f none = both_ways (c.dropped n.id) (is_gone c.dropped t.nodes p) (λ h. gone-intro c.dropped t p (record { path = p; node = n; found = f; dropped_id = h; within = within-refl p })) (λ h. itself (gone-elim c.dropped t p h))
  where
    itself : Gone c.dropped t p → c.dropped n.id ≡ true
    itself g =
        elim (same_path g.path p) as (λ b. same_path g.path p ≡ b → c.dropped n.id ≡ true) [
          | true ↦ λ s.
              let here : n ≡ g.node = cc (sym f ∙ ap (node_at t) (sym (same_path-true g.path p s)) ∙ g.found) in
              ap (λ (m : Node). c.dropped m.id) here ∙ g.dropped_id
          | false ↦ λ s.
              let above : is_gone c.dropped t.nodes g.path ≡ true = gone-intro c.dropped t g.path (record { path = g.path; node = g.node; found = g.found; dropped_id = g.dropped_id; within = within-refl g.path }) in
              let bad : true ≡ false = sym above ∙ none g.path (strictly_from g.path p g.within (apart g.path p s)) in
              cc
        ] refl

pub topmost-law : TopmostLaw
topmost-law t c d a p n f none = dropped-is t c p n f none ∙ a.gone p ∙ sym (dropped-is t d p n f (λ q h. sym (a.gone q) ∙ none q h))
