-- Changes are determined by the trees before and after them, and by what is listed.
use Rattle.std.proofs.Common.{◌≡◌, ◌⊎◌, inl, inr, ℕ, Bool, true, false, cond, List, Option, Some, None, is_some, unwrap_or, refl, sym, ap, ◌∙◌}
use Rattle.std.specs.Cmp.{both_ways}
use Rattle.std.specs.FinMap.{get}
use Rattle.ice_ids.specs.declared.Id8.{Id8}
use Rattle.ice_ids.specs.Text.{same_id8}
use Rattle.zarr_path.proofs.PathLaws.{within-refl, within-trans}
use Rattle.zarr_tree.specs.Nodes.{Node, is_metadata, is_group, is_array}
use Rattle.zarr_tree.specs.Trees.{Tree, node_at}
use Rattle.zarr_tree.specs.Changes.{Changes, is_gone, patched, has_id, own_chunk, chunk_of, apply, StillHas, EntryFits, IsNormal}
use Rattle.zarr_tree.specs.declared.lists.Touched.{Touched}
use Rattle.zarr_tree.specs.Touched.{Touches}
use Rattle.zarr_tree.proofs.Maps.{Path, Index, same}
use Rattle.zarr_tree.proofs.NodeLaws.{Text, frozen-metadata, fits-array, group_or_array}
use Rattle.zarr_tree.proofs.Apply.{id-refl, Gone, gone-intro, gone-elim, Own, node_cases, added_node, own_node}
use Rattle.zarr_tree.proofs.Extend.{own-id}
use Rattle.determined_changes.specs.Laws.{NodesLaw, SameLaw}

-- what the one has, the other has: so they are one
some-iff : {A : Type 0} (a b : Option A) → ((x : A) → a ≡ Some x → b ≡ Some x) → ((x : A) → b ≡ Some x → a ≡ Some x) → a ≡ b
some-iff (Some x) b f g = sym (f x refl)
some-iff None (Some x) f g = g x refl
some-iff None None f g = refl

none-some : {A : Type 0} (a : Option A) → a ≡ None → is_some a ≡ true → ⊥
none-some None e h = cc
none-some (Some x) e h = cc

module _ (t : Tree) (c : Changes) (nc : IsNormal c t) where
  -- the other text of a node that is still there is its text
  text-of : (id : Id8) (text : Text) → c.metas id ≡ Some text → (s : StillHas t (apply c t) id) → s.after.text ≡ text
  text-of id text e s = by_case (node_cases c t s.path s.after s.is)
    where
      by_case : (get c.added s.path ≡ Some s.after) ⊎ Own c t s.path s.after → s.after.text ≡ text
      by_case (inl a) = absurd (nc.fresh s.path s.path s.after s.before a s.was (s.after_id ∙ sym s.before_id))
      by_case (inr o) =
          let here : o.before ≡ s.before = cc (sym o.found ∙ s.was) in
          ap (λ (n : Node). n.text) o.same ∙ ap (λ (x : Option Text). unwrap_or x o.before.text) (ap c.metas (ap (λ (n : Node). n.id) here ∙ s.before_id) ∙ e)

  -- an entry for a chunk of an array of the new tree is what is held there
  entry-of : (p : Path) (i : Index) (n : Node) (id : Id8) (entry : Option (List ℕ)) → node_at (apply c t) p ≡ Some n → n.id ≡ id → is_array n.text ≡ true → c.chunks id i ≡ Some entry → (apply c t).chunk p i ≡ entry
  entry-of p i n id entry f is k e =
      ap (chunk_of c.chunks t p i) f
      ∙ ap (λ (b : Bool). cond b (unwrap_or (c.chunks n.id i) (own_chunk (node_at t p) n.id (t.chunk p i))) None) k
      ∙ ap (λ (x : Option (Option (List ℕ))). unwrap_or x (own_chunk (node_at t p) n.id (t.chunk p i))) (ap (λ (m : Id8). c.chunks m i) is ∙ e)

module _ (t : Tree) (c d : Changes) (nc : IsNormal c t) (nd : IsNormal d t) (e : apply c t ≡ apply d t) where
  there : (p : Path) (n : Node) → node_at (apply c t) p ≡ Some n → node_at (apply d t) p ≡ Some n
  there p n h = sym (ap (λ (u : Tree). node_at u p) e) ∙ h

  back : (p : Path) (n : Node) → node_at (apply d t) p ≡ Some n → node_at (apply c t) p ≡ Some n
  back p n h = ap (λ (u : Tree). node_at u p) e ∙ h

  -- a node that the one adds has an id that is new to the tree, so the other adds it
  added-one : (p : Path) (n : Node) → get c.added p ≡ Some n → get d.added p ≡ Some n
  added-one p n a = by_case (node_cases d t p n (there p n (added_node c t p n a)))
    where
      by_case : (get d.added p ≡ Some n) ⊎ Own d t p n → get d.added p ≡ Some n
      by_case (inl h) = h
      by_case (inr o) = absurd (nc.fresh p p n o.before a o.found (own-id d t p n o))

  -- a node of the tree that the one takes away isn't in the new tree, so the other takes it away
  gone-at : (q : Path) (m : Node) → node_at t q ≡ Some m → is_gone c.dropped t.nodes q ≡ true → is_gone d.dropped t.nodes q ≡ true
  gone-at q m f g = by_case (is_gone d.dropped t.nodes q) refl (get d.added q) refl
    where
      stays : (get c.added q ≡ Some (patched d.metas m)) ⊎ Own c t q (patched d.metas m) → ⊥
      stays (inl a) = nc.fresh q q (patched d.metas m) m a f refl
      stays (inr o) = let bad : true ≡ false = sym g ∙ o.stays in cc

      by_case : (b : Bool) → is_gone d.dropped t.nodes q ≡ b → (o : Option Node) → get d.added q ≡ o → is_gone d.dropped t.nodes q ≡ true
      by_case true h o a = h
      by_case false h (Some x) a = nd.free q x m a f
      by_case false h None a = absurd (stays (node_cases c t q (patched d.metas m) (back q (patched d.metas m) (own_node d t q m a h f))))

  gone-one : (p : Path) → is_gone c.dropped t.nodes p ≡ true → is_gone d.dropped t.nodes p ≡ true
  gone-one p h =
      let g : Gone c.dropped t p = gone-elim c.dropped t p h in
      let here : is_gone c.dropped t.nodes g.path ≡ true = gone-intro c.dropped t g.path (record { path = g.path; node = g.node; found = g.found; dropped_id = g.dropped_id; within = within-refl g.path }) in
      let o : Gone d.dropped t g.path = gone-elim d.dropped t g.path (gone-at g.path g.node g.found here) in
      gone-intro d.dropped t p (record { path = o.path; node = o.node; found = o.found; dropped_id = o.dropped_id; within = within-trans o.path g.path p o.within g.within })

  module _ (l : Touched) (ts : Touches c t l) (us : Touches d t l) where
    -- a node with another text is listed as updated, so it has one by the other
    updated-one : (id : Id8) (text : Text) → c.metas id ≡ Some text → (s : StillHas t (apply c t) id) → is_some (d.metas id) ≡ true
    updated-one id text m s = by_kind (group_or_array s.before.text readable)
      where
        readable : is_metadata s.before.text ≡ true
        readable = frozen-metadata s.before.text text (nc.frozen id text s.path s.before m s.was s.before_id) ∙ ap is_metadata (sym (text-of t c nc id text m s)) ∙ nc.well_formed.readable s.path s.after s.is

        stays : has_id id (node_at (apply c t) s.path) ≡ true
        stays = ap (has_id id) s.is ∙ ap (λ (k : Id8). same_id8 k id) s.after_id ∙ id-refl id

        by_kind : (is_array s.before.text ≡ true) ⊎ (is_group s.before.text ≡ true) → is_some (d.metas id) ≡ true
        by_kind (inl k) = ((us.updated_arrays id).0 ((ts.updated_arrays id).1 (record { path = s.path; node = s.before; found = s.was; same = s.before_id; kind_of = k; stays = stays; updated = ap is_some m }))).updated
        by_kind (inr k) = ((us.updated_groups id).0 ((ts.updated_groups id).1 (record { path = s.path; node = s.before; found = s.was; same = s.before_id; kind_of = k; stays = stays; updated = ap is_some m }))).updated

    -- and each is the text that the node has in the new tree
    text-one : (id : Id8) (text : Text) → c.metas id ≡ Some text → d.metas id ≡ Some text
    text-one id text m = by_case (d.metas id) refl
      where
        s : StillHas t (apply c t) id
        s = nc.metas id text m

        other : StillHas t (apply d t) id
        other = record { path = s.path; before = s.before; after = s.after; was = s.was; is = there s.path s.after s.is; before_id = s.before_id; after_id = s.after_id }

        by_case : (o : Option Text) → d.metas id ≡ o → d.metas id ≡ Some text
        by_case None h = absurd (none-some (d.metas id) h (updated-one id text m s))
        by_case (Some y) h = h ∙ ap (λ (x : Text). Some x) (sym (text-of t d nd id y h other) ∙ text-of t c nc id text m s)

    -- an entry is listed, so the other has one; and each is the chunk that the new tree holds
    entry-one : (id : Id8) (i : Index) (entry : Option (List ℕ)) → c.chunks id i ≡ Some entry → d.chunks id i ≡ Some entry
    entry-one id i entry m = by_case (d.chunks id i) refl
      where
        x : EntryFits t (apply c t) id i entry
        x = nc.chunks id i entry m

        k : is_array x.node.text ≡ true
        k = fits-array x.node.text i entry x.fits

        some : is_some (d.chunks id i) ≡ true
        some = ((us.updated_chunks id i).0 ((ts.updated_chunks id i).1 (record { path = x.path; node = x.node; found = x.found; same = x.same; kind_of = k; entry = ap is_some m }))).entry

        by_case : (o : Option (Option (List ℕ))) → d.chunks id i ≡ o → d.chunks id i ≡ Some entry
        by_case None h = absurd (none-some (d.chunks id i) h some)
        by_case (Some y) h =
            h
            ∙ ap (λ (z : Option (List ℕ)). Some z)
            (sym (entry-of t d nd x.path i x.node id y (there x.path x.node x.found) x.same k h)
            ∙ sym (ap (λ (u : Tree). u.chunk x.path i) e)
            ∙ entry-of t c nc x.path i x.node id entry x.found x.same k m)

pub nodes-law : NodesLaw
nodes-law t c d nc nd e = (
  same c.added d.added (λ p. some-iff (get c.added p) (get d.added p) (added-one t c d nc nd e p) (added-one t d c nd nc (sym e) p)),
  λ p. both_ways (is_gone c.dropped t.nodes p) (is_gone d.dropped t.nodes p) (gone-one t c d nc nd e p) (gone-one t d c nd nc (sym e) p),
)

pub same-law : SameLaw
same-law t c d l nc nd e ts us = record {
  added = (nodes-law t c d nc nd e).0;
  metas = λ id. some-iff (c.metas id) (d.metas id) (text-one t c d nc nd e l ts us id) (text-one t d c nd nc (sym e) l us ts id);
  chunks = λ id i. some-iff (c.chunks id i) (d.chunks id i) (entry-one t c d nc nd e l ts us id i) (entry-one t d c nd nc (sym e) l us ts id i);
  gone = (nodes-law t c d nc nd e).1;
}
