-- Where all conflicts can be solved, the changes without the entries given up are normal for the later tree.
use Rattle.std.proofs.Common.{◌≡◌, ℕ, Bool, true, false, cond, List, Option, Some, None, is_some, unwrap_or, refl, sym, ap, subst, ◌∙◌, ◌⊎◌, inl, inr}
use Rattle.std.specs.FinMap.{get}
use Rattle.ice_ids.specs.declared.Id8.{Id8}
use Rattle.ice_ids.specs.Text.{same_id8}
use Rattle.zarr_path.specs.Paths.{parent_of}
use Rattle.zarr_tree.specs.declared.cases.Case.{Case}
use Rattle.zarr_tree.specs.declared.cases.Case.TheVariants as case
use Rattle.zarr_tree.specs.Nodes.{Node, is_group, is_array, SameFrozen}
use Rattle.zarr_tree.specs.Trees.{Tree, node_at, IsWellFormed, HasArray}
use Rattle.zarr_tree.specs.Changes.{Changes, is_gone, patched, own_chunk, chunk_of, apply, IsNormal, StillHas, EntryFits}
use Rattle.zarr_tree.specs.Touched.{Touched, Touches}
use Rattle.zarr_tree.specs.Conflicts.{IsConflict, HasEntry, NoHardConflict, AddsUnlike, is_hard, without}
use Rattle.zarr_tree.specs.Laws.{RebaseLaw}
use Rattle.zarr_tree.proofs.Maps.{Path, Index}
use Rattle.zarr_tree.proofs.NodeLaws.{Text, frozen-refl, frozen-sym, frozen-trans, frozen-array, fits-frozen, fits-array, group_or_array}
use Rattle.zarr_tree.proofs.Apply.{node-apply, id-true, Own, node_cases, added_node, own_node}
use Rattle.zarr_tree.proofs.Extend.{own-id}
use Rattle.zarr_tree.proofs.Commute.{patched_frozen, back, foreign, frozen_under, some_or, well_formed}
use Rattle.zarr_tree.proofs.Normal.{Keeps, still, entry}

-- ---- entries given up leave changes normal
module _ (c : Changes) (t : Tree) (out : Id8 → Index → Bool) (wt : IsWellFormed t) (nc : IsNormal c t) where
  nodes : (q : Path) → node_at (apply (without c out) t) q ≡ node_at (apply c t) q
  nodes q = node-apply (without c out) t q ∙ sym (node-apply c t q)

  keeps : {id : Id8} (q : Path) (n : Node) → node_at (apply c t) q ≡ Some n → n.id ≡ id → Keeps (apply (without c out) t) q n
  keeps q n f e = record { node = n; found = nodes q ∙ f; id = refl; frozen = frozen-refl n.text }

  kept : (b : Bool) (o : Option (Option (List ℕ))) (e : Option (List ℕ)) → cond b None o ≡ Some e → o ≡ Some e
  kept true o e h = cc
  kept false o e h = h

  fits : (p : Path) (i : Index) (b : List ℕ) → (apply (without c out) t).chunk p i ≡ Some b → HasArray (apply (without c out) t) p i b
  fits p i b h = by_node (node_at (apply c t) p) refl (ap (chunk_of (without c out).chunks t p i) (sym (nodes p)) ∙ h)
    where
      old : HasArray (apply c t) p i b → HasArray (apply (without c out) t) p i b
      old a = record { node = a.node; found = nodes p ∙ a.found; fits = a.fits }

      own : (x : Node) → node_at (apply c t) p ≡ Some x → (y : Node) → node_at t p ≡ Some y → y.id ≡ x.id → t.chunk p i ≡ Some b → HasArray (apply (without c out) t) p i b
      own x f y g is k = by_case (wt.chunks p i b k) (node_cases c t p x f)
        where
          by_case : HasArray t p i b → (get c.added p ≡ Some x) ⊎ Own c t p x → HasArray (apply (without c out) t) p i b
          by_case a (inl z) = absurd (nc.fresh p p x y z g (sym is))
          by_case a (inr o) =
              let here : a.node ≡ o.before = cc (sym a.found ∙ o.found) in
              let s : SameFrozen a.node.text x.text = subst (λ (n : Node). SameFrozen a.node.text n.text) (ap (patched c.metas) here ∙ sym o.same) (by_meta a.node a.found (c.metas a.node.id) refl) in
              record { node = x; found = nodes p ∙ f; fits = fits-frozen a.node.text x.text i (Some b) s a.fits }
            where
              by_meta : (n : Node) → node_at t p ≡ Some n → (o : Option Text) → c.metas n.id ≡ o → SameFrozen n.text (unwrap_or o n.text)
              by_meta n e None z = frozen-refl n.text
              by_meta n e (Some m) z = nc.frozen n.id m p n z e refl

      chosen : (x y : Node) → (k : Bool) → same_id8 y.id x.id ≡ k → cond k (t.chunk p i) None ≡ Some b → (y.id ≡ x.id) × (t.chunk p i ≡ Some b)
      chosen x y true e h = (id-true y.id x.id e, h)
      chosen x y false e h = cc

      by_own : (x : Node) → node_at (apply c t) p ≡ Some x → (o : Option Node) → node_at t p ≡ o → own_chunk o x.id (t.chunk p i) ≡ Some b → HasArray (apply (without c out) t) p i b
      by_own x f None g h = cc
      by_own x f (Some y) g h = let z = chosen x y (same_id8 y.id x.id) refl h in own x f y g z.0 z.1

      by_out : (x : Node) → node_at (apply c t) p ≡ Some x → (a : Bool) → is_array x.text ≡ a → (k : Bool) → out x.id i ≡ k → cond a (unwrap_or (cond k None (c.chunks x.id i)) (own_chunk (node_at t p) x.id (t.chunk p i))) None ≡ Some b → HasArray (apply (without c out) t) p i b
      by_out x f false a k e h = cc
      by_out x f true a true e h = by_own x f (node_at t p) refl h
      by_out x f true a false e h = old (nc.well_formed.chunks p i b (ap (chunk_of c.chunks t p i) f ∙ ap (λ k. cond k (unwrap_or (c.chunks x.id i) (own_chunk (node_at t p) x.id (t.chunk p i))) None) a ∙ h))

      by_node : (o : Option Node) → node_at (apply c t) p ≡ o → chunk_of (without c out).chunks t p i o ≡ Some b → HasArray (apply (without c out) t) p i b
      by_node None f h = cc
      by_node (Some x) f h = by_out x f (is_array x.text) refl (out x.id i) refl h

  pub without-normal : IsNormal (without c out) t
  without-normal = record {
    distinct = nc.distinct;
    fresh = nc.fresh;
    not_dropped = nc.not_dropped;
    free = nc.free;
    metas = λ id m h. still t (apply c t) (apply (without c out) t) id keeps (nc.metas id m h);
    frozen = nc.frozen;
    chunks = λ id i e h. entry t (apply c t) (apply (without c out) t) id i e keeps (nc.chunks id i e (kept (out id i) (c.chunks id i) e h));
    well_formed = record {
      named = λ p n f. nc.well_formed.named p n (sym (nodes p) ∙ f);
      readable = λ p n f. nc.well_formed.readable p n (sym (nodes p) ∙ f);
      distinct = λ p q m n f g e. nc.well_formed.distinct p q m n (sym (nodes p) ∙ f) (sym (nodes q) ∙ g) e;
      parents = λ p n f ne. let g = nc.well_formed.parents p n (sym (nodes p) ∙ f) ne in record { node = g.node; found = nodes (parent_of p) ∙ g.found; group = g.group };
      chunks = fits;
    };
  }

-- ---- the later tree
module _ (c d : Changes) (t : Tree) (s : Touched) (wt : IsWellFormed t) (nc : IsNormal c t) (nd : IsNormal d t) (acd : AddsUnlike c d) (adc : AddsUnlike d c) (ts : Touches d t s) (hard : NoHardConflict c s t (apply d t)) where
  not_gone : (b : Bool) → (b ≡ true → ⊥) → b ≡ false
  not_gone true h = absurd (h refl)
  not_gone false h = refl

  -- what our tree has of t's node, the later tree under our changes has too, unless the later commit dropped it
  record Carried (p : Path) (b v : Node) : Type 0 where
    node : Node
    below : Node
    found : node_at (apply c (apply d t)) p ≡ Some node
    under : node_at (apply d t) p ≡ Some below
    id : node.id ≡ b.id
    below_id : below.id ≡ b.id
    frozen : SameFrozen v.text node.text

  carried : (p : Path) (v : Node) (o : Own c t p v) → is_gone d.dropped t.nodes p ≡ false → Carried p o.before v
  carried p v o g = by_added (get d.added p) refl
    where
      by_added : (x : Option Node) → get d.added p ≡ x → Carried p o.before v
      by_added (Some x) e = let k : is_gone d.dropped t.nodes p ≡ true = nd.free p x o.before e o.found in cc
      by_added None e =
          let under : node_at (apply d t) p ≡ Some (patched d.metas o.before) = own_node d t p o.before e g o.found in
          let stays : is_gone c.dropped (apply d t).nodes p ≡ false = not_gone _ (λ h. let k : is_gone c.dropped t.nodes p ≡ true = back c d t wt nc nd acd adc p o.before o.found g h in cc (o.stays)) in
          let own : SameFrozen o.before.text v.text = subst (λ (n : Node). SameFrozen o.before.text n.text) (sym o.same) (patched_frozen c d t wt nc nd acd adc p o.before o.found) in
          let other : SameFrozen o.before.text (patched d.metas o.before).text = patched_frozen d c t wt nd nc adc acd p o.before o.found in
          record {
            node = patched c.metas (patched d.metas o.before);
            below = patched d.metas o.before;
            found = own_node c (apply d t) p (patched d.metas o.before) o.not_added stays under;
            under = under;
            id = refl;
            below_id = refl;
            frozen = frozen-trans v.text o.before.text (patched c.metas (patched d.metas o.before)).text (frozen-sym o.before.text v.text own)
                (frozen-trans o.before.text (patched d.metas o.before).text (patched c.metas (patched d.metas o.before)).text other (frozen_under c d t wt nc nd acd adc p (patched d.metas o.before) under));
          }

  -- the later commit hasn't dropped a node that has new metadata of ours
  meta_kept : (p : Path) (b : Node) → node_at t p ≡ Some b → is_some (c.metas b.id) ≡ true → is_gone d.dropped t.nodes p ≡ false
  meta_kept p b f m = not_gone _ (λ g. by_kind g (group_or_array b.text (wt.readable p b f)))
    where
      by_kind : is_gone d.dropped t.nodes p ≡ true → (is_array b.text ≡ true) ⊎ (is_group b.text ≡ true) → ⊥
      by_kind g (inl a) = hard case.ZarrMetadataUpdateOfDeletedArray p None refl (b, f, (m, (ts.deleted_arrays b.id).1 (record { path = p; node = b; found = f; same = refl; kind_of = a; gone = g })))
      by_kind g (inr a) = hard case.ZarrMetadataUpdateOfDeletedGroup p None refl (b, f, (m, (ts.deleted_groups b.id).1 (record { path = p; node = b; found = f; same = refl; kind_of = a; gone = g })))

  -- nor an array that has entries of ours
  entry_kept : (p : Path) (b : Node) (i : Index) → node_at t p ≡ Some b → is_array b.text ≡ true → is_some (c.chunks b.id i) ≡ true → is_gone d.dropped t.nodes p ≡ false
  entry_kept p b i f a m = not_gone _ (λ g. hard case.ChunksUpdatedInDeletedArray p None refl (b, f, (a, record { index = i; entry = m }, (ts.deleted_arrays b.id).1 (record { path = p; node = b; found = f; same = refl; kind_of = a; gone = g }))))

  metas : (id : Id8) (m : Text) → c.metas id ≡ Some m → StillHas (apply d t) (apply c (apply d t)) id
  metas id m h = by_case (nc.metas id m h)
    where
      at_own : (k : StillHas t (apply c t) id) → (get c.added k.path ≡ Some k.after) ⊎ Own c t k.path k.after → StillHas (apply d t) (apply c (apply d t)) id
      at_own k (inl a) = absurd (nc.fresh k.path k.path k.after k.before a k.was (k.after_id ∙ sym k.before_id))
      at_own k (inr o) =
          let same : o.before.id ≡ id = sym (own-id c t k.path k.after o) ∙ k.after_id in
          let x : Carried k.path o.before k.after = carried k.path k.after o (meta_kept k.path o.before o.found (ap (λ n. is_some (c.metas n)) same ∙ ap is_some h)) in
          record { path = k.path; before = x.below; after = x.node; was = x.under; is = x.found; before_id = x.below_id ∙ same; after_id = x.id ∙ same }

      by_case : StillHas t (apply c t) id → StillHas (apply d t) (apply c (apply d t)) id
      by_case k = at_own k (node_cases c t k.path k.after k.is)

  chunks : (id : Id8) (i : Index) (e : Option (List ℕ)) → c.chunks id i ≡ Some e → EntryFits (apply d t) (apply c (apply d t)) id i e
  chunks id i e h = let k = nc.chunks id i e h in by_case k (node_cases c t k.path k.node k.found)
    where
      -- the array is one that we added
      ours : (k : EntryFits t (apply c t) id i e) → get c.added k.path ≡ Some k.node → e ≡ None → StillHas (apply d t) (apply c (apply d t)) id
      ours k a is = let z = k.unset is in absurd (nc.fresh k.path z.path k.node z.before a z.was (k.same ∙ sym z.before_id))

      by_case : (k : EntryFits t (apply c t) id i e) → (get c.added k.path ≡ Some k.node) ⊎ Own c t k.path k.node → EntryFits (apply d t) (apply c (apply d t)) id i e
      by_case k (inl a) = record { path = k.path; node = k.node; found = added_node c (apply d t) k.path k.node a; same = k.same; fits = k.fits; unset = ours k a }
      by_case k (inr o) =
          let same : o.before.id ≡ id = sym (own-id c t k.path k.node o) ∙ k.same in
          let array : is_array o.before.text ≡ true =
          frozen-array o.before.text (patched c.metas o.before).text (patched_frozen c d t wt nc nd acd adc k.path o.before o.found) ∙ ap (λ (n : Node). is_array n.text) (sym o.same) ∙ fits-array k.node.text i e k.fits in
          let x : Carried k.path o.before k.node = carried k.path k.node o (entry_kept k.path o.before i o.found array (ap (λ n. is_some (c.chunks n i)) same ∙ ap is_some h)) in
          record {
            path = k.path;
            node = x.node;
            found = x.found;
            same = x.id ∙ same;
            fits = fits-frozen k.node.text x.node.text i e x.frozen k.fits;
            unset = λ is. record { path = k.path; before = x.below; after = x.node; was = x.under; is = x.found; before_id = x.below_id ∙ same; after_id = x.id ∙ same };
          }

  frozen_parts : (id : Id8) (m : Text) (p : Path) (n : Node) → c.metas id ≡ Some m → node_at (apply d t) p ≡ Some n → n.id ≡ id → SameFrozen n.text m
  frozen_parts id m p n h f e = by_case (node_cases d t p n f)
    where
      by_case : (get d.added p ≡ Some n) ⊎ Own d t p n → SameFrozen n.text m
      by_case (inl a) = let k = nc.metas id m h in absurd (nd.fresh p k.path n k.before a k.was (e ∙ sym k.before_id))
      by_case (inr o) =
          let old : SameFrozen o.before.text m = nc.frozen id m p o.before h o.found (sym (own-id d t p n o) ∙ e) in
          let new : SameFrozen o.before.text n.text = subst (λ (x : Node). SameFrozen o.before.text x.text) (sym o.same) (patched_frozen d c t wt nd nc adc acd p o.before o.found) in
          frozen-trans n.text o.before.text m (frozen-sym o.before.text n.text new) old

  free : (p : Path) (m n : Node) → get c.added p ≡ Some m → node_at (apply d t) p ≡ Some n → is_gone c.dropped (apply d t).nodes p ≡ true
  free p m n a f = by_case (some_or (is_gone c.dropped (apply d t).nodes p))
    where
      by_case : (is_gone c.dropped (apply d t).nodes p ≡ true) ⊎ (is_gone c.dropped (apply d t).nodes p ≡ false) → is_gone c.dropped (apply d t).nodes p ≡ true
      by_case (inl g) = g
      by_case (inr g) = absurd (hard case.NewNodeConflictsWithExistingNode p None refl (ap is_some a, ap is_some f, g))

  pub later : IsNormal c (apply d t)
  later = record {
    distinct = nc.distinct;
    fresh = λ p q m n a f e. foreign c d t wt nc nd acd adc p q m n a f (sym e);
    not_dropped = nc.not_dropped;
    free = free;
    metas = metas;
    frozen = frozen_parts;
    chunks = chunks;
    well_formed = well_formed c d t s wt nc nd acd adc hard;
  }

has_entry : (c : Changes) (out : Id8 → Index → Bool) (id : Id8) → HasEntry (without c out) id → HasEntry c id
has_entry c out id e = record { index = e.index; entry = some_left (out id e.index) (c.chunks id e.index) e.entry }
  where
    some_left : (b : Bool) (o : Option (Option (List ℕ))) → is_some (cond b None o) ≡ true → is_some o ≡ true
    some_left true o h = cc
    some_left false o h = h

-- a hard conflict of fewer entries is one of all
still_hard : (c : Changes) (s : Touched) (t u : Tree) (out : Id8 → Index → Bool) (k : Case) (p : Path) (i : Option Index) → is_hard k ≡ true → IsConflict (without c out) s t u k p i → IsConflict c s t u k p i
still_hard c s t u out case.NewNodeConflictsWithExistingNode p None h x = x
still_hard c s t u out case.NewNodeInInvalidGroup p None h x = x
still_hard c s t u out case.ZarrMetadataDoubleUpdate p None h x = x
still_hard c s t u out case.ZarrMetadataUpdateOfDeletedArray p None h x = x
still_hard c s t u out case.ZarrMetadataUpdateOfDeletedGroup p None h x = x
still_hard c s t u out case.ChunksUpdatedInDeletedArray p None h (n, f, (a, e, l)) = (n, f, (a, has_entry c out n.id e, l))
still_hard c s t u out case.ChunksUpdatedInUpdatedArray p None h (n, f, (a, e, l)) = (n, f, (a, has_entry c out n.id e, l))
still_hard c s t u out case.NewNodeConflictsWithExistingNode p (Some i) h x = absurd x
still_hard c s t u out case.NewNodeInInvalidGroup p (Some i) h x = absurd x
still_hard c s t u out case.ZarrMetadataDoubleUpdate p (Some i) h x = absurd x.2
still_hard c s t u out case.ZarrMetadataUpdateOfDeletedArray p (Some i) h x = absurd x.2
still_hard c s t u out case.ZarrMetadataUpdateOfDeletedGroup p (Some i) h x = absurd x.2
still_hard c s t u out case.ChunksUpdatedInDeletedArray p (Some i) h x = absurd x.2
still_hard c s t u out case.ChunksUpdatedInUpdatedArray p (Some i) h x = absurd x.2
still_hard c s t u out case.ChunkDoubleUpdate p i h x = cc
still_hard c s t u out case.DeleteOfUpdatedArray p i h x = cc
still_hard c s t u out case.DeleteOfUpdatedGroup p i h x = cc

pub rebase-law : RebaseLaw
rebase-law c d t s out wt nc nd unlike ts hard =
    later (without c out) d t s wt (without-normal c t out wt nc) nd unlike (λ p n a q m b e. unlike q m b p n a (sym e)) ts (λ k p i h x. hard k p i h (still_hard c s t (apply d t) out k p i h x))
