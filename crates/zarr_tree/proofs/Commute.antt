-- Where nothing conflicts, both orders give one tree.
use Rattle.std.proofs.Common.{◌≡◌, ◌≢◌, ℕ, zero, suc, ◌<◌, Bool, true, false, cond, ◌||◌, List, length, Option, Some, None, is_some, unwrap_or, refl, sym, ap, subst, ◌∙◌, arith, ◌⊎◌, inl, inr}
use Rattle.std.specs.FinMap.{get}
use Rattle.ice_ids.specs.declared.Id8.{Id8}
use Rattle.ice_ids.specs.Text.{same_id8}
use Rattle.zarr_path.specs.Laws.{IsBeneath}
use Rattle.zarr_path.specs.Paths.{root, is_path, is_within, parent_of}
use Rattle.zarr_path.proofs.PathLaws.{within-refl, within-trans, parent-within, beneath}
use Rattle.zarr_tree.specs.declared.cases.Case.TheVariants as case
use Rattle.zarr_tree.specs.Nodes.{Node, is_metadata, is_group, is_array, SameFrozen, Fits}
use Rattle.zarr_tree.specs.Trees.{Tree, node_at, IsWellFormed, HasGroup, HasArray}
use Rattle.zarr_tree.specs.Changes.{Changes, is_gone, patched, has_id, own_chunk, chunk_of, apply, IsNormal, StillHas, EntryFits}
use Rattle.zarr_tree.specs.Touched.{Touched, Touches, lists, lists_chunk, lists_new, lists_updated}
use Rattle.zarr_tree.specs.Conflicts.{same_node, NoConflict, NoHardConflict, IsApart, AddsUnlike}
use Rattle.zarr_tree.specs.Laws.{CommuteLaw}
use Rattle.zarr_tree.proofs.Maps.{Path, Index}
use Rattle.zarr_tree.proofs.NodeLaws.{Text, frozen-refl, frozen-sym, frozen-trans, frozen-array, frozen-group, frozen-metadata, fits-frozen, fits-array, group_or_array}
use Rattle.zarr_tree.proofs.Above.{Has, group_above, above}
use Rattle.zarr_tree.proofs.Apply.{Gone, gone-intro, gone-elim, gone-false, id-true, id-refl, id-false, Own, node_cases, added_node, own_node, no_node, some_id}
use Rattle.zarr_tree.proofs.Extend.{same_tree, own-id}

patched-none : (metas : Id8 → Option Text) (n : Node) → metas n.id ≡ None → patched metas n ≡ n
patched-none metas n e = ap (λ (o : Option Text). let x : Node = record { id = n.id; text = unwrap_or o n.text } in x) e

pub some_or : (b : Bool) → (b ≡ true) ⊎ (b ≡ false)
some_or true = inl refl
some_or false = inr refl

or-left : (a b : Bool) → a ≡ true → (a || b) ≡ true
or-left true b h = refl
or-left false b h = cc

or-right : (a b : Bool) → b ≡ true → (a || b) ≡ true
or-right true b h = refl
or-right false b h = h

gone-below : (d : Id8 → Bool) (t : Tree) (p q : Path) → is_gone d t.nodes p ≡ true → is_within p q ≡ true → is_gone d t.nodes q ≡ true
gone-below d t p q h w = let g = gone-elim d t p h in gone-intro d t q (record { path = g.path; node = g.node; found = g.found; dropped_id = g.dropped_id; within = within-trans g.path p q g.within w })

-- ---- what holds whether or not there are conflicts
module _ (c d : Changes) (t : Tree) (wt : IsWellFormed t) (nc : IsNormal c t) (nd : IsNormal d t) (acd : AddsUnlike c d) (adc : AddsUnlike d c) where
  pub patched_frozen : (p : Path) (n : Node) → node_at t p ≡ Some n → SameFrozen n.text (patched c.metas n).text
  patched_frozen p n f = by_case (c.metas n.id) refl
    where
      by_case : (o : Option Text) → c.metas n.id ≡ o → SameFrozen n.text (unwrap_or o n.text)
      by_case None e = frozen-refl n.text
      by_case (Some m) e = nc.frozen n.id m p n e f refl

  -- what we drop of the later tree, at a node of t that the later commit left, we drop of t
  pub back : (p : Path) (n : Node) → node_at t p ≡ Some n → is_gone d.dropped t.nodes p ≡ false → is_gone c.dropped (apply d t).nodes p ≡ true → is_gone c.dropped t.nodes p ≡ true
  back p n f stays h = let g = gone-elim c.dropped (apply d t) p h in by_case g (node_cases d t g.path g.node g.found)
    where
      new : (g : Gone c.dropped (apply d t) p) → get d.added g.path ≡ Some g.node → is_gone d.dropped t.nodes p ≡ true
      new g a =
          let there : Has t g.path = above t wt g.path (nd.well_formed.named g.path g.node g.found) p n f g.within in
          gone-below d.dropped t g.path p (nd.free g.path g.node there.node a there.found) g.within

      by_case : (g : Gone c.dropped (apply d t) p) → (get d.added g.path ≡ Some g.node) ⊎ Own d t g.path g.node → is_gone c.dropped t.nodes p ≡ true
      by_case g (inl a) = let k : is_gone d.dropped t.nodes p ≡ true = new g a in cc (stays)
      by_case g (inr o) = gone-intro c.dropped t p (record { path = g.path; node = o.before; found = o.found; dropped_id = ap c.dropped (sym (own-id d t g.path g.node o)) ∙ g.dropped_id; within = g.within })

  forth : (p : Path) → is_gone c.dropped t.nodes p ≡ true → (is_gone c.dropped (apply d t).nodes p ≡ true) ⊎ (is_gone d.dropped t.nodes p ≡ true)
  forth p h = let g = gone-elim c.dropped t p h in by_case g (is_gone d.dropped t.nodes g.path) refl (get d.added g.path) refl
    where
      by_case : (g : Gone c.dropped t p) (b : Bool) → is_gone d.dropped t.nodes g.path ≡ b → (o : Option Node) → get d.added g.path ≡ o → (is_gone c.dropped (apply d t).nodes p ≡ true) ⊎ (is_gone d.dropped t.nodes p ≡ true)
      by_case g true e o a = inr (gone-below d.dropped t g.path p e g.within)
      by_case g false e None a = inl (gone-intro c.dropped (apply d t) p (record { path = g.path; node = patched d.metas g.node; found = own_node d t g.path g.node a e g.found; dropped_id = g.dropped_id; within = g.within }))
      by_case g false e (Some x) a = let k : is_gone d.dropped t.nodes g.path ≡ true = nd.free g.path x g.node a g.found in cc

  -- an added node has no new metadata from the other side
  meta_own : (p : Path) (n : Node) → get c.added p ≡ Some n → patched d.metas n ≡ n
  meta_own p n a = by_case (d.metas n.id) refl
    where
      by_case : (o : Option Text) → d.metas n.id ≡ o → patched d.metas n ≡ n
      by_case None e = patched-none d.metas n e
      by_case (Some m) e = let h : StillHas t (apply d t) n.id = nd.metas n.id m e in absurd (nc.fresh p h.path n h.before a h.was (sym h.before_id))

-- our array at a path, which an entry fits
pub record There (c : Changes) (t : Tree) (p : Path) (id : Id8) (i : Index) (e : Option (List ℕ)) : Type 0 where
  pub node : Node
  pub found : node_at (apply c t) p ≡ Some node
  pub same : node.id ≡ id
  pub fits : Fits node.text i e

-- ---- what holds of chunks, whether or not there are conflicts
module _ (c d : Changes) (t : Tree) (wt : IsWellFormed t) (nc : IsNormal c t) (nd : IsNormal d t) (acd : AddsUnlike c d) (adc : AddsUnlike d c) where
  -- our metadata leaves what is frozen in a node of the other tree
  pub frozen_under : (p : Path) (y : Node) → node_at (apply d t) p ≡ Some y → SameFrozen y.text (patched c.metas y).text
  frozen_under p y f = by_case (node_cases d t p y f)
    where
      over : (b : Node) → node_at t p ≡ Some b → y.id ≡ b.id → SameFrozen b.text y.text → (o : Option Text) → c.metas y.id ≡ o → SameFrozen b.text (unwrap_or o y.text)
      over b g h l None e = l
      over b g h l (Some m) e = nc.frozen y.id m p b e g (sym h)

      by_case : (get d.added p ≡ Some y) ⊎ Own d t p y → SameFrozen y.text (patched c.metas y).text
      by_case (inl a) = subst (λ (n : Node). SameFrozen y.text n.text) (sym (meta_own d c t wt nd nc adc acd p y a)) (frozen-refl y.text)
      by_case (inr r) =
          let l : SameFrozen r.before.text y.text = subst (λ (n : Node). SameFrozen r.before.text n.text) (sym r.same) (patched_frozen d c t wt nd nc adc acd p r.before r.found) in
          frozen-trans y.text r.before.text (patched c.metas y).text (frozen-sym r.before.text y.text l) (over r.before r.found (own-id d t p y r) l (c.metas y.id) refl)

  -- what we added has no id of the other tree
  pub foreign : (p q : Path) (x m : Node) → get c.added p ≡ Some x → node_at (apply d t) q ≡ Some m → m.id ≢ x.id
  foreign p q x m g f = by_case (node_cases d t q m f)
    where
      by_case : (get d.added q ≡ Some m) ⊎ Own d t q m → m.id ≢ x.id
      by_case (inl b) h = acd p x g q m b h
      by_case (inr o) h = nc.fresh p q x o.before g o.found (sym h ∙ own-id d t q m o)

  -- an entry of ours at a node x of the whole: x is in our tree, at the same path
  pub entry_there : (p : Path) (x : Node) (i : Index) (e : Option (List ℕ)) → node_at (apply c (apply d t)) p ≡ Some x → c.chunks x.id i ≡ Some e → There c t p x.id i e
  entry_there p x i e f k = by_case (nc.chunks x.id i e k) (node_cases c (apply d t) p x f)
    where
      moved : (f : EntryFits t (apply c t) x.id i e) → f.path ≡ p → There c t p x.id i e
      moved f at = record { node = f.node; found = ap (node_at (apply c t)) (sym at) ∙ f.found; same = f.same; fits = f.fits }

      -- x is t's own
      at_own : (b : Node) → node_at t p ≡ Some b → x.id ≡ b.id → (f : EntryFits t (apply c t) x.id i e) → (get c.added f.path ≡ Some f.node) ⊎ Own c t f.path f.node → f.path ≡ p
      at_own b g h f (inl a) = absurd (nc.fresh f.path p f.node b a g (f.same ∙ h))
      at_own b g h f (inr o) = wt.distinct f.path p o.before b o.found g (sym (own-id c t f.path f.node o) ∙ f.same ∙ h)

      -- x is the other side's
      never : (m : Node) → get d.added p ≡ Some m → x.id ≡ m.id → (f : EntryFits t (apply c t) x.id i e) → (get c.added f.path ≡ Some f.node) ⊎ Own c t f.path f.node → f.path ≡ p
      never m a h f (inl b) = absurd (adc p m a f.path f.node b (f.same ∙ h))
      never m a h f (inr o) = absurd (nd.fresh p f.path m o.before a o.found (sym h ∙ sym f.same ∙ own-id c t f.path f.node o))

      under : (o : Own c (apply d t) p x) → EntryFits t (apply c t) x.id i e → (get d.added p ≡ Some o.before) ⊎ Own d t p o.before → There c t p x.id i e
      under o f (inl a) = moved f (never o.before a (own-id c (apply d t) p x o) f (node_cases c t f.path f.node f.found))
      under o f (inr r) = moved f (at_own r.before r.found (own-id c (apply d t) p x o ∙ own-id d t p o.before r) f (node_cases c t f.path f.node f.found))

      by_case : EntryFits t (apply c t) x.id i e → (get c.added p ≡ Some x) ⊎ Own c (apply d t) p x → There c t p x.id i e
      by_case f (inl a) = moved f (nc.well_formed.distinct f.path p f.node x f.found (added_node c t p x a) f.same)
      by_case f (inr o) = under o f (node_cases d t p o.before o.found)

  -- an entry of ours alone is what the other order finds in our tree
  entry_alone : (p : Path) (x : Node) (i : Index) (e : Option (List ℕ)) → node_at (apply c (apply d t)) p ≡ Some x → c.chunks x.id i ≡ Some e → own_chunk (node_at (apply c t) p) x.id ((apply c t).chunk p i) ≡ e
  entry_alone p x i e f k =
      let v : There c t p x.id i e = entry_there p x i e f k in
      (λ j. own_chunk (v.found j) x.id (chunk_of c.chunks t p i (v.found j)))
      ∙ (λ j. cond (ap (λ n. same_id8 n x.id) v.same j) (cond (fits-array v.node.text i e v.fits j) (unwrap_or (c.chunks (v.same j) i) (own_chunk (node_at t p) (v.same j) (t.chunk p i))) None) None)
      ∙ (λ j. cond (id-refl x.id j) (unwrap_or (k j) (own_chunk (node_at t p) x.id (t.chunk p i))) None)

  -- without entries, a chunk of the other tree is t's own
  own_alone : (p : Path) (x : Node) (i : Index) → node_at (apply c (apply d t)) p ≡ Some x → is_array x.text ≡ true → d.chunks x.id i ≡ None → own_chunk (node_at (apply d t) p) x.id ((apply d t).chunk p i) ≡ own_chunk (node_at t p) x.id (t.chunk p i)
  own_alone p x i f a k = by_case (node_cases c (apply d t) p x f)
    where
      nothing : (n : Option Node) → ((m : Node) → n ≡ Some m → m.id ≢ x.id) → (b : Option (List ℕ)) → own_chunk n x.id b ≡ None
      nothing None h b = refl
      nothing (Some m) h b = ap (λ (y : Bool). cond y b None) (id-false m.id x.id (h m refl))

      plain : (y : Node) → y.id ≡ x.id → is_array y.text ≡ true → cond (same_id8 y.id x.id) (cond (is_array y.text) (unwrap_or (d.chunks y.id i) (own_chunk (node_at t p) y.id (t.chunk p i))) None) None ≡ own_chunk (node_at t p) x.id (t.chunk p i)
      plain y e b = (λ j. cond (same_id8 (e j) x.id) (cond (b j) (unwrap_or (d.chunks (e j) i) (own_chunk (node_at t p) (e j) (t.chunk p i))) None) None)
          ∙ (λ j. cond (id-refl x.id j) (unwrap_or (k j) (own_chunk (node_at t p) x.id (t.chunk p i))) None)

      by_case : (get c.added p ≡ Some x) ⊎ Own c (apply d t) p x → own_chunk (node_at (apply d t) p) x.id ((apply d t).chunk p i) ≡ own_chunk (node_at t p) x.id (t.chunk p i)
      by_case (inl g) = nothing (node_at (apply d t) p) (λ m h. foreign p p x m g h) ((apply d t).chunk p i) ∙ sym (nothing (node_at t p) (λ m h is. nc.fresh p p x m g h (sym is)) (t.chunk p i))
      by_case (inr o) = (λ j. own_chunk (o.found j) x.id (chunk_of d.chunks t p i (o.found j)))
          ∙ plain o.before (sym (own-id c (apply d t) p x o)) (frozen-array o.before.text (patched c.metas o.before).text (frozen_under p o.before o.found) ∙ ap (λ (y : Node). is_array y.text) (sym o.same) ∙ a)

  -- what is frozen in a node of the whole is what is in ours
  pub frozen_there : (p : Path) (x : Node) (i : Index) (e : Option (List ℕ)) → node_at (apply c (apply d t)) p ≡ Some x → (v : There c t p x.id i e) → SameFrozen v.node.text x.text
  frozen_there p x i e f v = by_case (node_cases c (apply d t) p x f)
    where
      ours : (o : Own c (apply d t) p x) (r : Own d t p o.before) → (get c.added p ≡ Some v.node) ⊎ Own c t p v.node → SameFrozen v.node.text x.text
      ours o r (inl a) = absurd (nc.fresh p p v.node r.before a r.found (v.same ∙ own-id c (apply d t) p x o ∙ own-id d t p o.before r))
      ours o r (inr z) =
          let here : z.before ≡ r.before = cc (sym z.found ∙ r.found) in
          let own : SameFrozen r.before.text v.node.text = subst (λ (n : Node). SameFrozen r.before.text n.text) (ap (patched c.metas) (sym here) ∙ sym z.same) (patched_frozen c d t wt nc nd acd adc p r.before r.found) in
          let other : SameFrozen r.before.text o.before.text = subst (λ (n : Node). SameFrozen r.before.text n.text) (sym r.same) (patched_frozen d c t wt nd nc adc acd p r.before r.found) in
          let whole : SameFrozen o.before.text x.text = subst (λ (n : Node). SameFrozen o.before.text n.text) (sym o.same) (frozen_under p o.before o.found) in
          frozen-trans v.node.text r.before.text x.text (frozen-sym r.before.text v.node.text own) (frozen-trans r.before.text o.before.text x.text other whole)

      theirs : (o : Own c (apply d t) p x) → get d.added p ≡ Some o.before → (get c.added p ≡ Some v.node) ⊎ Own c t p v.node → SameFrozen v.node.text x.text
      theirs o b (inl a) = absurd (adc p o.before b p v.node a (v.same ∙ own-id c (apply d t) p x o))
      theirs o b (inr z) = absurd (nd.fresh p p o.before z.before b z.found (sym (own-id c (apply d t) p x o) ∙ sym v.same ∙ own-id c t p v.node z))

      under : (o : Own c (apply d t) p x) → (get d.added p ≡ Some o.before) ⊎ Own d t p o.before → SameFrozen v.node.text x.text
      under o (inl b) = theirs o b (node_cases c t p v.node v.found)
      under o (inr r) = ours o r (node_cases c t p v.node v.found)

      by_case : (get c.added p ≡ Some x) ⊎ Own c (apply d t) p x → SameFrozen v.node.text x.text
      by_case (inl a) = let here : v.node ≡ x = cc (sym v.found ∙ added_node c t p x a) in subst (λ (n : Node). SameFrozen v.node.text n.text) here (frozen-refl v.node.text)
      by_case (inr o) = under o (node_cases d t p o.before o.found)

-- ---- the tree of both is well formed where no conflict is hard
module _ (c d : Changes) (t : Tree) (s : Touched) (wt : IsWellFormed t) (nc : IsNormal c t) (nd : IsNormal d t) (acd : AddsUnlike c d) (adc : AddsUnlike d c) (hard : NoHardConflict c s t (apply d t)) where
  -- ---- the tree of both is well formed
  not_gone : (b : Bool) → (b ≡ true → ⊥) → b ≡ false
  not_gone true h = absurd (h refl)
  not_gone false h = refl

  group : (m n : Node) → m ≡ n → is_group m.text ≡ is_group n.text
  group m n e = ap (λ (x : Node). is_group x.text) e

  distinct : (p q : Path) (m n : Node) → node_at (apply c (apply d t)) p ≡ Some m → node_at (apply c (apply d t)) q ≡ Some n → m.id ≡ n.id → p ≡ q
  distinct p q m n f g e = by_case (node_cases c (apply d t) p m f) (node_cases c (apply d t) q n g)
    where
      by_case : (get c.added p ≡ Some m) ⊎ Own c (apply d t) p m → (get c.added q ≡ Some n) ⊎ Own c (apply d t) q n → p ≡ q
      by_case (inl a) (inl b) = nc.distinct p q m n a b e
      by_case (inl a) (inr o) = absurd (foreign c d t wt nc nd acd adc p q m o.before a o.found (sym (own-id c (apply d t) q n o) ∙ sym e))
      by_case (inr o) (inl b) = absurd (foreign c d t wt nc nd acd adc q p n o.before b o.found (sym (own-id c (apply d t) p m o) ∙ e))
      by_case (inr o) (inr r) = nd.well_formed.distinct p q o.before r.before o.found r.found (sym (own-id c (apply d t) p m o) ∙ e ∙ own-id c (apply d t) q n r)

  named : (p : Path) (n : Node) → node_at (apply c (apply d t)) p ≡ Some n → is_path p ≡ true
  named p n f = by_case (node_cases c (apply d t) p n f)
    where
      by_case : (get c.added p ≡ Some n) ⊎ Own c (apply d t) p n → is_path p ≡ true
      by_case (inl a) = nc.well_formed.named p n (added_node c t p n a)
      by_case (inr o) = nd.well_formed.named p o.before o.found

  readable : (p : Path) (n : Node) → node_at (apply c (apply d t)) p ≡ Some n → is_metadata n.text ≡ true
  readable p n f = by_case (node_cases c (apply d t) p n f)
    where
      by_case : (get c.added p ≡ Some n) ⊎ Own c (apply d t) p n → is_metadata n.text ≡ true
      by_case (inl a) = nc.well_formed.readable p n (added_node c t p n a)
      by_case (inr o) =
          ap (λ (x : Node). is_metadata x.text) o.same ∙ sym (frozen-metadata o.before.text (patched c.metas o.before).text (frozen_under c d t wt nc nd acd adc p o.before o.found))
          ∙ nd.well_formed.readable p o.before o.found

  parents : (p : Path) (n : Node) → node_at (apply c (apply d t)) p ≡ Some n → p ≢ root → HasGroup (apply c (apply d t)) (parent_of p)
  parents p n f ne = by_case (node_cases c (apply d t) p n f)
    where
      -- the parent is t's own group, and the other tree has it
      kept : (g : HasGroup (apply c t) (parent_of p)) (r : Own c t (parent_of p) g.node) (y : Node) → node_at (apply d t) (parent_of p) ≡ Some y → y.id ≡ r.before.id → HasGroup (apply c (apply d t)) (parent_of p)
      kept g r y h id = record {
        node = patched c.metas y;
        found = own_node c (apply d t) (parent_of p) y r.not_added (not_gone _ (λ i. let j : is_gone c.dropped t.nodes (parent_of p) ≡ true = back c d t wt nc nd acd adc (parent_of p) r.before r.found (left (node_cases d t (parent_of p) y h)) i in cc (r.stays))) h;
        group = sym (frozen-group y.text (patched c.metas y).text (frozen_under c d t wt nc nd acd adc (parent_of p) y h)) ∙ kind (node_cases d t (parent_of p) y h);
      }
        where
          left : (get d.added (parent_of p) ≡ Some y) ⊎ Own d t (parent_of p) y → is_gone d.dropped t.nodes (parent_of p) ≡ false
          left (inl b) = absurd (nd.fresh (parent_of p) (parent_of p) y r.before b r.found id)
          left (inr o) = o.stays

          kind : (get d.added (parent_of p) ≡ Some y) ⊎ Own d t (parent_of p) y → is_group y.text ≡ true
          kind (inl b) = absurd (nd.fresh (parent_of p) (parent_of p) y r.before b r.found id)
          kind (inr o) =
              let here : o.before ≡ r.before = cc (sym o.found ∙ r.found) in
              group _ _ o.same ∙ sym (frozen-group o.before.text (patched d.metas o.before).text (patched_frozen d c t wt nd nc adc acd (parent_of p) o.before o.found)) ∙ group _ _ here
              ∙ frozen-group r.before.text (patched c.metas r.before).text (patched_frozen c d t wt nc nd acd adc (parent_of p) r.before r.found) ∙ group _ _ (sym r.same) ∙ g.group

      ours : get c.added p ≡ Some n → (g : HasGroup (apply c t) (parent_of p)) → (get c.added (parent_of p) ≡ Some g.node) ⊎ Own c t (parent_of p) g.node → HasGroup (apply c (apply d t)) (parent_of p)
      ours a g (inl b) = record { node = g.node; found = added_node c (apply d t) (parent_of p) g.node b; group = g.group }
      ours a g (inr r) = test (some_or (same_node (node_at t (parent_of p)) (node_at (apply d t) (parent_of p))))
        where
          test : (same_node (node_at t (parent_of p)) (node_at (apply d t) (parent_of p)) ≡ true) ⊎ (same_node (node_at t (parent_of p)) (node_at (apply d t) (parent_of p)) ≡ false) → HasGroup (apply c (apply d t)) (parent_of p)
          test (inl e) = let y = some_id r.before.id (node_at (apply d t) (parent_of p)) (ap (λ o. same_node o (node_at (apply d t) (parent_of p))) (sym r.found) ∙ e) in kept g r y.0 y.1 y.2
          test (inr e) = absurd (hard case.NewNodeInInvalidGroup p None refl (ap is_some a, ne, r.not_added, e))

      theirs : (o : Own c (apply d t) p n) → HasGroup (apply d t) (parent_of p) → (x : Option Node) → get c.added (parent_of p) ≡ x → HasGroup (apply c (apply d t)) (parent_of p)
      theirs o g x e = by_added x e
        where
          gone : is_gone c.dropped (apply d t).nodes (parent_of p) ≡ false
          gone = not_gone _ (λ i. let j : is_gone c.dropped (apply d t).nodes p ≡ true = gone-below c.dropped (apply d t) (parent_of p) p i (parent-within p (named p n f)) in cc (o.stays))

          by_added : (x : Option Node) → get c.added (parent_of p) ≡ x → HasGroup (apply c (apply d t)) (parent_of p)
          by_added None e = record { node = patched c.metas g.node; found = own_node c (apply d t) (parent_of p) g.node e gone g.found; group = sym (frozen-group g.node.text (patched c.metas g.node).text (frozen_under c d t wt nc nd acd adc (parent_of p) g.node g.found)) ∙ g.group }
          by_added (Some z) e = absurd (hard case.NewNodeConflictsWithExistingNode (parent_of p) None refl (ap is_some e, ap is_some g.found, gone))

      by_case : (get c.added p ≡ Some n) ⊎ Own c (apply d t) p n → HasGroup (apply c (apply d t)) (parent_of p)
      by_case (inl a) = let g = nc.well_formed.parents p n (added_node c t p n a) ne in ours a g (node_cases c t (parent_of p) g.node g.found)
      by_case (inr o) = theirs o (nd.well_formed.parents p o.before o.found ne) (get c.added (parent_of p)) refl

  chunks : (p : Path) (i : Index) (b : List ℕ) → (apply c (apply d t)).chunk p i ≡ Some b → HasArray (apply c (apply d t)) p i b
  chunks p i b h = by_node (node_at (apply c (apply d t)) p) refl h
    where
      -- the entry of ours at x
      entry : (x : Node) → node_at (apply c (apply d t)) p ≡ Some x → (e : Option (List ℕ)) → c.chunks x.id i ≡ Some e → e ≡ Some b → Fits x.text i (Some b)
      entry x f e k h =
          let v : There c t p x.id i e = entry_there c d t wt nc nd acd adc p x i e f k in
          subst (Fits x.text i) h (fits-frozen v.node.text x.text i e (frozen_there c d t wt nc nd acd adc p x i e f v) v.fits)

      -- the other tree's chunk at x
      left : (x y : Node) → node_at (apply c (apply d t)) p ≡ Some x → node_at (apply d t) p ≡ Some y → y.id ≡ x.id → HasArray (apply d t) p i b → Fits x.text i (Some b)
      left x y f g id z = by_case (node_cases c (apply d t) p x f)
        where
          by_case : (get c.added p ≡ Some x) ⊎ Own c (apply d t) p x → Fits x.text i (Some b)
          by_case (inl k) = absurd (foreign c d t wt nc nd acd adc p p x y k g id)
          by_case (inr o) =
              let here : z.node ≡ o.before = cc (sym z.found ∙ o.found) in
              let s : SameFrozen z.node.text x.text = subst (λ (n : Node). SameFrozen z.node.text n.text) (ap (patched c.metas) here ∙ sym o.same) (frozen_under c d t wt nc nd acd adc p z.node z.found) in
              fits-frozen z.node.text x.text i (Some b) s z.fits

      chosen : (x y : Node) → (k : Bool) → same_id8 y.id x.id ≡ k → cond k ((apply d t).chunk p i) None ≡ Some b → (y.id ≡ x.id) × ((apply d t).chunk p i ≡ Some b)
      chosen x y true e h = (id-true y.id x.id e, h)
      chosen x y false e h = cc

      by_own : (x : Node) → node_at (apply c (apply d t)) p ≡ Some x → (o : Option Node) → node_at (apply d t) p ≡ o → own_chunk o x.id ((apply d t).chunk p i) ≡ Some b → Fits x.text i (Some b)
      by_own x f None g h = cc
      by_own x f (Some y) g h = let z = chosen x y (same_id8 y.id x.id) refl h in left x y f g z.0 (nd.well_formed.chunks p i b z.1)

      by_entry : (x : Node) → node_at (apply c (apply d t)) p ≡ Some x → (e : Option (Option (List ℕ))) → c.chunks x.id i ≡ e → unwrap_or e (own_chunk (node_at (apply d t) p) x.id ((apply d t).chunk p i)) ≡ Some b → Fits x.text i (Some b)
      by_entry x f None k h = by_own x f (node_at (apply d t) p) refl h
      by_entry x f (Some e) k h = entry x f e k h

      by_array : (x : Node) → node_at (apply c (apply d t)) p ≡ Some x → (k : Bool) → is_array x.text ≡ k → cond k (unwrap_or (c.chunks x.id i) (own_chunk (node_at (apply d t) p) x.id ((apply d t).chunk p i))) None ≡ Some b → Fits x.text i (Some b)
      by_array x f true a h = by_entry x f (c.chunks x.id i) refl h
      by_array x f false a h = cc

      by_node : (o : Option Node) → node_at (apply c (apply d t)) p ≡ o → chunk_of c.chunks (apply d t) p i o ≡ Some b → HasArray (apply c (apply d t)) p i b
      by_node None f h = cc
      by_node (Some x) f h = record { node = x; found = f; fits = by_array x f (is_array x.text) refl h }

  pub well_formed : IsWellFormed (apply c (apply d t))
  well_formed = record { named = named; readable = readable; distinct = distinct; parents = parents; chunks = chunks }

-- ---- where nothing conflicts
module _ (c d : Changes) (t : Tree) (s : Touched) (wt : IsWellFormed t) (nc : IsNormal c t) (nd : IsNormal d t) (acd : IsApart c d) (adc : IsApart d c) (ts : Touches d t s) (free : NoConflict c s t (apply d t)) where
  ours_unlike : AddsUnlike c d
  ours_unlike p n a = (acd p n a).1

  theirs_unlike : AddsUnlike d c
  theirs_unlike p n a = (adc p n a).1

  new_listed : (p : Path) (m : Node) → get d.added p ≡ Some m → lists_new s m.id ≡ true
  new_listed p m a = by_case (group_or_array m.text (nd.well_formed.readable p m (added_node d t p m a)))
    where
      by_case : (is_array m.text ≡ true) ⊎ (is_group m.text ≡ true) → lists_new s m.id ≡ true
      by_case (inl e) = or-right (lists s.new_groups m.id) _ ((ts.new_arrays m.id).1 (record { path = p; node = m; added = a; same = refl; kind_of = e }))
      by_case (inr e) = or-left _ (lists s.new_arrays m.id) ((ts.new_groups m.id).1 (record { path = p; node = m; added = a; same = refl; kind_of = e }))

  -- what we drop takes nothing along that the other side added
  new_kept : (p : Path) (m : Node) → get d.added p ≡ Some m → is_gone c.dropped (apply d t).nodes p ≡ false
  new_kept p m a = gone-false c.dropped (apply d t) p (λ g. by_case g (node_cases d t g.path g.node g.found))
    where
      by_case : (g : Gone c.dropped (apply d t) p) → (get d.added g.path ≡ Some g.node) ⊎ Own d t g.path g.node → ⊥
      by_case g (inl x) = let k : c.dropped g.node.id ≡ false = (adc g.path g.node x).0 in cc (g.dropped_id)
      by_case g (inr o) =
          free case.DeleteOfUpdatedGroup g.path None
          (o.before, o.found, (kind, (lacks (get c.added g.path) refl, has), inr (record { path = p; node = m; beneath = g.within; apart = ne; found = added_node d t p m a; listed = new_listed p m a })))
        where
          id : g.node.id ≡ o.before.id
          id = own-id d t g.path g.node o

          ne : g.path ≢ p
          ne e = let k : None ≡ Some m = sym o.not_added ∙ ap (get d.added) e ∙ a in cc

          kind : is_group o.before.text ≡ true
          kind = frozen-group o.before.text (patched d.metas o.before).text (patched_frozen d c t wt nd nc theirs_unlike ours_unlike g.path o.before o.found) ∙ ap (λ (x : Node). is_group x.text) (sym o.same)
              ∙ group_above (apply d t) nd.well_formed g.path (nd.well_formed.named g.path g.node g.found) p m g.node (added_node d t p m a) g.within ne g.found

          gone : is_gone c.dropped t.nodes g.path ≡ true
          gone = gone-intro c.dropped t g.path (record { path = g.path; node = o.before; found = o.found; dropped_id = ap c.dropped (sym id) ∙ g.dropped_id; within = within-refl g.path })

          lacks : (x : Option Node) → get c.added g.path ≡ x → has_id o.before.id (node_at (apply c t) g.path) ≡ false
          lacks None e = ap (has_id o.before.id) (no_node c t g.path e (inl gone))
          lacks (Some x) e = ap (has_id o.before.id) (added_node c t g.path x e) ∙ id-false x.id o.before.id (nc.fresh g.path g.path x o.before e o.found)

          has : has_id o.before.id (node_at (apply d t) g.path) ≡ true
          has = ap (has_id o.before.id) g.found ∙ ap (λ k. same_id8 k o.before.id) id ∙ id-refl o.before.id

  -- the other side drops nothing above what we added
  kept_above : (p : Path) (n : Node) → get c.added p ≡ Some n → is_gone d.dropped (apply c t).nodes p ≡ false
  kept_above p n a = gone-false d.dropped (apply c t) p (λ g. by_case g (node_cases c t g.path g.node g.found))
    where
      by_case : (g : Gone d.dropped (apply c t) p) → (get c.added g.path ≡ Some g.node) ⊎ Own c t g.path g.node → ⊥
      by_case g (inl x) = let k : d.dropped g.node.id ≡ false = (acd g.path g.node x).0 in cc (g.dropped_id)
      by_case g (inr o) = walk (suc (length p)) p n (omega arith) a (ne p n a) g.within
        where
          ne : (q : Path) (x : Node) → get c.added q ≡ Some x → g.path ≢ q
          ne q x b e = let k : None ≡ Some x = sym o.not_added ∙ ap (get c.added) e ∙ b in cc

          valid : is_path g.path ≡ true
          valid = nc.well_formed.named g.path g.node g.found

          stop : (q : Path) (x : Node) → get c.added q ≡ Some x → IsBeneath g.path q → get c.added (parent_of q) ≡ None → ⊥
          stop q x a up e = own_parent (node_cases c t (parent_of q) above.node above.found)
            where
              above : HasGroup (apply c t) (parent_of q)
              above = nc.well_formed.parents q x (added_node c t q x a) up.not_root

              gone : is_gone d.dropped t.nodes (parent_of q) ≡ true
              gone = gone-intro d.dropped t (parent_of q) (record { path = g.path; node = o.before; found = o.found; dropped_id = ap d.dropped (sym (own-id c t g.path g.node o)) ∙ g.dropped_id; within = up.parent })

              differs : (b : Node) → node_at t (parent_of q) ≡ Some b → (y : Option Node) → get d.added (parent_of q) ≡ y → same_node (node_at t (parent_of q)) (node_at (apply d t) (parent_of q)) ≡ false
              differs b f None y = (λ i. same_node (f i) (no_node d t (parent_of q) y (inl gone) i))
              differs b f (Some z) y = (λ i. same_node (f i) (added_node d t (parent_of q) z y i)) ∙ id-false z.id b.id (nd.fresh (parent_of q) (parent_of q) z b y f)

              own_parent : (get c.added (parent_of q) ≡ Some above.node) ⊎ Own c t (parent_of q) above.node → ⊥
              own_parent (inl y) = cc
              own_parent (inr r) = free case.NewNodeInInvalidGroup q None (ap is_some a, up.not_root, e, differs r.before r.found (get d.added (parent_of q)) refl)

          walk : (k : ℕ) (q : Path) (x : Node) → length q < k → get c.added q ≡ Some x → g.path ≢ q → is_within g.path q ≡ true → ⊥
          walk zero q x h b f w = omega arith
          walk (suc k) q x h b f w =
              let up : IsBeneath g.path q = beneath g.path q valid w f in
              elim (get c.added (parent_of q)) as (λ y. get c.added (parent_of q) ≡ y → ⊥) [
                | None ↦ λ e. stop q x b up e
                | Some y ↦ λ e. let less : length (parent_of q) < k = omega (arith, up.shorter, h) in walk k (parent_of q) y less e (ne (parent_of q) y e) up.parent
              ] refl

  no_both : (p : Path) (n : Node) → get c.added p ≡ Some n → get d.added p ≡ None
  no_both p n a = by_case (get d.added p) refl
    where
      by_case : (o : Option Node) → get d.added p ≡ o → o ≡ None
      by_case None e = refl
      by_case (Some m) e = absurd (free case.NewNodeConflictsWithExistingNode p None (ap is_some a, ap is_some (added_node d t p m e), new_kept p m e))

  metas_commute : (p : Path) (n : Node) → get d.added p ≡ None → is_gone d.dropped t.nodes p ≡ false → node_at t p ≡ Some n → patched c.metas (patched d.metas n) ≡ patched d.metas (patched c.metas n)
  metas_commute p n a g f = by_case (c.metas n.id) refl (d.metas n.id) refl
    where
      stays : has_id n.id (node_at (apply d t) p) ≡ true
      stays = ap (has_id n.id) (own_node d t p n a g f) ∙ id-refl n.id

      listed : is_some (d.metas n.id) ≡ true → (is_array n.text ≡ true) ⊎ (is_group n.text ≡ true) → lists_updated s n.id ≡ true
      listed h (inl e) = or-left _ (lists s.updated_groups n.id) ((ts.updated_arrays n.id).1 (record { path = p; node = n; found = f; same = refl; kind_of = e; stays = stays; updated = h }))
      listed h (inr e) = or-right (lists s.updated_arrays n.id) _ ((ts.updated_groups n.id).1 (record { path = p; node = n; found = f; same = refl; kind_of = e; stays = stays; updated = h }))

      by_case : (x : Option Text) → c.metas n.id ≡ x → (y : Option Text) → d.metas n.id ≡ y → patched c.metas (patched d.metas n) ≡ patched d.metas (patched c.metas n)
      by_case None e y k = patched-none c.metas (patched d.metas n) e ∙ ap (patched d.metas) (sym (patched-none c.metas n e))
      by_case (Some x) e None k = ap (patched c.metas) (patched-none d.metas n k) ∙ sym (patched-none d.metas (patched c.metas n) k)
      by_case (Some x) e (Some y) k = absurd (free case.ZarrMetadataDoubleUpdate p None (n, f, (ap is_some e, listed (ap is_some k) (group_or_array n.text (wt.readable p n f)))))

  nodes_commute : (p : Path) → node_at (apply c (apply d t)) p ≡ node_at (apply d (apply c t)) p
  nodes_commute p = by_case (get c.added p) refl (get d.added p) refl
    where
      not_gone : (b : Bool) → (b ≡ true → ⊥) → b ≡ false
      not_gone true h = absurd (h refl)
      not_gone false h = refl

      own : get c.added p ≡ None → get d.added p ≡ None → (x : Option Node) → node_at t p ≡ x → (g : Bool) → is_gone d.dropped t.nodes p ≡ g → (h : Bool) → is_gone c.dropped t.nodes p ≡ h → node_at (apply c (apply d t)) p ≡ node_at (apply d (apply c t)) p
      own e k None f g eg h eh = no_node c (apply d t) p e (inr (no_node d t p k (inr f))) ∙ sym (no_node d (apply c t) p k (inr (no_node c t p e (inr f))))
      own e k (Some n) f true eg h eh = no_node c (apply d t) p e (inr (no_node d t p k (inl eg))) ∙ sym (gone_too (forth d c t wt nd nc theirs_unlike ours_unlike p eg))
        where
          gone_too : (is_gone d.dropped (apply c t).nodes p ≡ true) ⊎ (is_gone c.dropped t.nodes p ≡ true) → node_at (apply d (apply c t)) p ≡ None
          gone_too (inl i) = no_node d (apply c t) p k (inl i)
          gone_too (inr i) = no_node d (apply c t) p k (inr (no_node c t p e (inl i)))
      own e k (Some n) f false eg true eh = gone_too (forth c d t wt nc nd ours_unlike theirs_unlike p eh) ∙ sym (no_node d (apply c t) p k (inr (no_node c t p e (inl eh))))
        where
          gone_too : (is_gone c.dropped (apply d t).nodes p ≡ true) ⊎ (is_gone d.dropped t.nodes p ≡ true) → node_at (apply c (apply d t)) p ≡ None
          gone_too (inl i) = no_node c (apply d t) p e (inl i)
          gone_too (inr i) = cc
      own e k (Some n) f false eg false eh =
          own_node c (apply d t) p (patched d.metas n) e (not_gone _ (λ i. let j = back c d t wt nc nd ours_unlike theirs_unlike p n f eg i in cc)) (own_node d t p n k eg f)
          ∙ ap (λ (x : Node). Some x) (metas_commute p n k eg f)
          ∙ sym (own_node d (apply c t) p (patched c.metas n) k (not_gone _ (λ i. let j = back d c t wt nd nc theirs_unlike ours_unlike p n f eh i in cc)) (own_node c t p n e eh f))

      by_case : (x : Option Node) → get c.added p ≡ x → (y : Option Node) → get d.added p ≡ y → node_at (apply c (apply d t)) p ≡ node_at (apply d (apply c t)) p
      by_case (Some n) e y k = added_node c (apply d t) p n e ∙ sym (own_node d (apply c t) p n (no_both p n e) (kept_above p n e) (added_node c t p n e) ∙ ap (λ (x : Node). Some x) (meta_own c d t wt nc nd ours_unlike theirs_unlike p n e))
      by_case None e (Some m) k = own_node c (apply d t) p m e (new_kept p m k) (added_node d t p m k) ∙ ap (λ (x : Node). Some x) (meta_own d c t wt nd nc theirs_unlike ours_unlike p m k) ∙ sym (added_node d (apply c t) p m k)
      by_case None e None k = own e k (node_at t p) refl (is_gone d.dropped t.nodes p) refl (is_gone c.dropped t.nodes p) refl

  -- ---- chunks
  chunks_commute : (p : Path) (i : Index) → (apply c (apply d t)).chunk p i ≡ (apply d (apply c t)).chunk p i
  chunks_commute p i = by_node (node_at (apply c (apply d t)) p) refl ∙ ap (chunk_of d.chunks (apply c t) p i) (nodes_commute p)
    where
      both_entries : (x : Node) → node_at (apply c (apply d t)) p ≡ Some x → (e : Option (List ℕ)) → c.chunks x.id i ≡ Some e → (g : Option (List ℕ)) → d.chunks x.id i ≡ Some g → ⊥
      both_entries x f e k g l = by_case (node_cases c t p ours.node ours.found) (node_cases d t p theirs.node theirs.found)
        where
          ours : There c t p x.id i e
          ours = entry_there c d t wt nc nd ours_unlike theirs_unlike p x i e f k

          theirs : There d t p x.id i g
          theirs = entry_there d c t wt nd nc theirs_unlike ours_unlike p x i g (sym (nodes_commute p) ∙ f) l

          by_case : (get c.added p ≡ Some ours.node) ⊎ Own c t p ours.node → (get d.added p ≡ Some theirs.node) ⊎ Own d t p theirs.node → ⊥
          by_case (inl a) y = foreign c d t wt nc nd ours_unlike theirs_unlike p p ours.node theirs.node a theirs.found (theirs.same ∙ sym ours.same)
          by_case (inr o) y =
              let id : x.id ≡ o.before.id = sym ours.same ∙ own-id c t p ours.node o in
              free case.ChunkDoubleUpdate p (Some i) (
                o.before,
                o.found,
                (
                  frozen-array o.before.text (patched c.metas o.before).text (patched_frozen c d t wt nc nd ours_unlike theirs_unlike p o.before o.found) ∙ ap (λ (z : Node). is_array z.text) (sym o.same) ∙ fits-array ours.node.text i e ours.fits,
                  ap (λ n. is_some (c.chunks n i)) (sym id) ∙ ap is_some k,
                  ap (λ n. lists_chunk s.updated_chunks n i) (sym id) ∙ (ts.updated_chunks x.id i).1 (record { path = p; node = theirs.node; found = theirs.found; same = theirs.same; kind_of = fits-array theirs.node.text i g theirs.fits; entry = ap is_some l }),
                ),
              )

      by_entries : (x : Node) → node_at (apply c (apply d t)) p ≡ Some x → is_array x.text ≡ true → (e : Option (Option (List ℕ))) → c.chunks x.id i ≡ e → (g : Option (Option (List ℕ))) → d.chunks x.id i ≡ g
          → unwrap_or e (own_chunk (node_at (apply d t) p) x.id ((apply d t).chunk p i)) ≡ unwrap_or g (own_chunk (node_at (apply c t) p) x.id ((apply c t).chunk p i))
      by_entries x f a None k None l = own_alone c d t wt nc nd ours_unlike theirs_unlike p x i f a l ∙ sym (own_alone d c t wt nd nc theirs_unlike ours_unlike p x i (sym (nodes_commute p) ∙ f) a k)
      by_entries x f a (Some e) k None l = sym (entry_alone c d t wt nc nd ours_unlike theirs_unlike p x i e f k)
      by_entries x f a None k (Some g) l = entry_alone d c t wt nd nc theirs_unlike ours_unlike p x i g (sym (nodes_commute p) ∙ f) l
      by_entries x f a (Some e) k (Some g) l = absurd (both_entries x f e k g l)

      by_array : (x : Node) → node_at (apply c (apply d t)) p ≡ Some x → (b : Bool) → is_array x.text ≡ b
          → cond b (unwrap_or (c.chunks x.id i) (own_chunk (node_at (apply d t) p) x.id ((apply d t).chunk p i))) None ≡ cond b (unwrap_or (d.chunks x.id i) (own_chunk (node_at (apply c t) p) x.id ((apply c t).chunk p i))) None
      by_array x f true a = by_entries x f a (c.chunks x.id i) refl (d.chunks x.id i) refl
      by_array x f false a = refl

      by_node : (o : Option Node) → node_at (apply c (apply d t)) p ≡ o → chunk_of c.chunks (apply d t) p i o ≡ chunk_of d.chunks (apply c t) p i o
      by_node None f = refl
      by_node (Some x) f = by_array x f (is_array x.text) refl

pub commute-law : CommuteLaw
commute-law c d t s wt nc nd acd adc ts free = (
  same_tree _ _ (nodes_commute c d t s wt nc nd acd adc ts free) (chunks_commute c d t s wt nc nd acd adc ts free),
  well_formed c d t s wt nc nd (λ p n a. (acd p n a).1) (λ p n a. (adc p n a).1) (λ k p i h. free k p i),
)
