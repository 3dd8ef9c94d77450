-- An edit on the tree under the changes is one more edit in the changes.
use Rattle.std.proofs.Common.{◌≡◌, ◌≢◌, ℕ, Bool, true, false, cond, not, ◌&&◌, ◌||◌, List, Option, Some, None, Ok, is_some, option_map, unwrap_or, refl, sym, ap, subst, ◌∙◌, ◌⊎◌, inl, inr}
use Rattle.std.specs.Option.{option_or}
use Rattle.std.specs.Cmp.{both_ways}
use Rattle.std.specs.FinMap.{FinMap, get, insert}
use Rattle.ice_ids.specs.declared.Id8.{Id8}
use Rattle.ice_ids.specs.Text.{same_id8}
use Rattle.zarr_meta.specs.declared.views.ArrayView.{ArrayView}
use Rattle.zarr_path.specs.Paths.{path_cmp, same_path, is_within}
use Rattle.zarr_path.proofs.OrderLaws.{same_path-true}
use Rattle.zarr_path.proofs.PathLaws.{within-trans}
use Rattle.zarr_tree.specs.declared.edit.EditFault.{EditFault}
use Rattle.zarr_tree.specs.declared.edit.EditFault.TheVariants.{FrozenField}
use Rattle.zarr_tree.specs.declared.edit.Frozen.{Frozen}
use Rattle.zarr_tree.specs.Nodes.{Node, is_array, array_in, frozen_change, SameFrozen, same_numbers}
use Rattle.zarr_tree.specs.Trees.{Tree, node_at, IsWellFormed}
use Rattle.zarr_tree.specs.Edits.{Edit, Add, SetMeta, Drop, Set, Unset, at_node, at_array, refusal, edited, unless, with_text, put_some}
use Rattle.zarr_tree.specs.Changes.{Changes, is_gone, patched, has_id, has_id_within, own_chunk, chunk_of, apply, extended, with_entry, with_meta, IsNormal, IsFresh, CanExtend, result_map}
use Rattle.zarr_tree.specs.Laws.{ChangeLaw}
use Rattle.zarr_tree.proofs.Maps.{Path, Index, get-put, get-where, same}
use Rattle.zarr_tree.proofs.NodeLaws.{Text, frozen-array}
use Rattle.zarr_tree.proofs.Above.{apart, Has, above}
use Rattle.zarr_tree.proofs.Apply.{node-apply, Gone, gone-intro, gone-elim, IdWithin, id_within-elim, id-true, id-refl, id-false, second, both, Own, node_cases, added_node, own_node, no_node}

pub same_tree : (t u : Tree) → ((q : Path) → node_at t q ≡ node_at u q) → ((q : Path) (j : Index) → t.chunk q j ≡ u.chunk q j) → t ≡ u
same_tree t u h g = λ i. record { nodes = same t.nodes u.nodes h i; chunk = λ q j. g q j i }

-- ---- refusals
pub passed : (b : Bool) (f : EditFault) (r : Option EditFault) → cond b (Some f) r ≡ None → (b ≡ false) × (r ≡ None)
passed true f r h = cc
passed false f r h = (refl, h)

pub some_node : (o : Option Node) (f : Node → Option EditFault) → at_node o f ≡ None → (n : Node) × (o ≡ Some n) × (f n ≡ None)
some_node None f h = cc
some_node (Some n) f h = (n, refl, h)

pub some_array : (o : Option ArrayView) (f : ArrayView → Option EditFault) → at_array o f ≡ None → (a : ArrayView) × (o ≡ Some a) × (f a ≡ None)
some_array None f h = cc
some_array (Some a) f h = (a, refl, h)

pub no_change : (o : Option Frozen) → option_map FrozenField o ≡ None → o ≡ None
no_change None h = refl
no_change (Some f) h = cc

pub none_left : {A : Type 0} (o : Option A) → is_some o ≡ false → o ≡ None
none_left None h = refl
none_left (Some x) h = cc

pub not_not : (b : Bool) → not b ≡ false → b ≡ true
not_not true h = refl
not_not false h = cc

-- a node whose text is to be replaced is there, and the parts that stay are the same
pub record Kept (t : Tree) (p : Path) (m : Text) : Type 0 where
  pub node : Node
  pub found : node_at t p ≡ Some node
  pub same : SameFrozen node.text m

pub kept_of : (t : Tree) (p : Path) (m : Text) → refusal t (SetMeta p m) ≡ None → Kept t p m
kept_of t p m ok = let sn = some_node (node_at t p) (λ n. option_map FrozenField (frozen_change n.text m)) ok in record { node = sn.0; found = sn.1; same = no_change _ sn.2 }

-- ---- formulas
or_cond : {A : Type 0} (s : Bool) (v : A) (o x : Option A) → cond s (Some v) (option_or o x) ≡ option_or (cond s (Some v) o) x
or_cond true v o x = refl
or_cond false v o x = refl

pub get-updated : (m : FinMap path_cmp Node) (p : Path) (f : Node → Node) (n : Node) (q : Path) → get m p ≡ Some n → get (put_some m p (option_map f (get m p))) q ≡ cond (same_path q p) (Some (f n)) (get m q)
get-updated m p f n q h = ap (λ o. get (put_some m p (option_map f o)) q) h ∙ get-put m p (f n) q

-- a node put into `added` is put into the tree
pub put_added : (c : Changes) (t : Tree) (p : Path) (n : Node) (q : Path) → node_at (apply (record c { added = insert c.added p n }) t) q ≡ cond (same_path q p) (Some n) (node_at (apply c t) q)
put_added c t p n q =
    node-apply (record c { added = insert c.added p n }) t q ∙ ap (λ o. option_or o (cond (is_gone c.dropped t.nodes q) None (option_map (patched c.metas) (node_at t q)))) (get-put c.added p n q)
    ∙ sym (or_cond (same_path q p) n (get c.added q) (cond (is_gone c.dropped t.nodes q) None (option_map (patched c.metas) (node_at t q)))) ∙ ap (cond (same_path q p) (Some n)) (sym (node-apply c t q))

-- ---- what the new tree's nodes and entries have to do with each other
patched-id : (metas : Id8 → Option Text) (n : Node) → (patched metas n).id ≡ n.id
patched-id metas n = refl

pub own-id : (c : Changes) (t : Tree) (p : Path) (n : Node) (o : Own c t p n) → n.id ≡ o.before.id
own-id c t p n o = ap (λ (m : Node). m.id) o.same

pub fresh-apply : (c : Changes) (t : Tree) (id : Id8) → IsFresh c t id → (p : Path) (n : Node) → node_at (apply c t) p ≡ Some n → n.id ≢ id
fresh-apply c t id fr p n h e = by_case (node_cases c t p n h)
  where
    by_case : (get c.added p ≡ Some n) ⊎ Own c t p n → ⊥
    by_case (inl a) = fr.not_added p n a e
    by_case (inr o) = fr.not_own p o.before o.found (sym (own-id c t p n o) ∙ e)

pub fresh-chunk : (c : Changes) (t : Tree) (id : Id8) (j : Index) → IsNormal c t → IsFresh c t id → c.chunks id j ≡ None
fresh-chunk c t id j nc fr = by_case (c.chunks id j) refl
  where
    by_case : (o : Option (Option (List ℕ))) → c.chunks id j ≡ o → o ≡ None
    by_case None e = refl
    by_case (Some x) e = let f = nc.chunks id j x e in absurd (fresh-apply c t id fr f.path f.node f.found f.same)

-- no entry, and not the tree's own node: no chunk
pub blank : (n : Node) (e : Option (Option (List ℕ))) (o : Option Node) (b : Option (List ℕ)) → e ≡ None → ((m : Node) → o ≡ Some m → m.id ≢ n.id) → cond (is_array n.text) (unwrap_or e (own_chunk o n.id b)) None ≡ None
blank n (Some x) o b h g = cc
blank n None None b h g = elim (is_array n.text) as (λ (a : Bool). cond {A = Option (List ℕ)} a None None ≡ None) [ true ↦ refl | false ↦ refl ]
blank n None (Some m) b h g = ap (λ (t : Bool). cond (is_array n.text) (cond t b None) None) (id-false m.id n.id (g m refl)) ∙ elim (is_array n.text) as (λ (a : Bool). cond {A = Option (List ℕ)} a None None ≡ None) [ true ↦ refl | false ↦ refl ]

module _ (c : Changes) (t : Tree) (wt : IsWellFormed t) (nc : IsNormal c t) where
  -- ---- Add
  pub add-law : (p : Path) (id : Id8) (m : Text) → IsFresh c t id → refusal (apply c t) (Add p id m) ≡ None → edited (apply c t) (Add p id m) ≡ apply (extended c t (Add p id m)) t
  add-law p id m fr ok =
      let n : Node = record { id = id; text = m } in
      let d : Changes = record c { added = insert c.added p n } in
      let absent : node_at (apply c t) p ≡ None = none_left _ (passed _ _ _ ok).0 in
      let nodes : (q : Path) → node_at (apply d t) q ≡ cond (same_path q p) (Some n) (node_at (apply c t) q) = put_added c t p n in
      same_tree _ _ (λ q. get-put _ p n q ∙ sym (nodes q)) (λ q j. sym (ap (chunk_of c.chunks t q j) (nodes q) ∙ chunk q j absent))
    where
      chunk : (q : Path) (j : Index) → node_at (apply c t) p ≡ None → chunk_of c.chunks t q j (cond (same_path q p) (Some (record { id = id; text = m })) (node_at (apply c t) q)) ≡ chunk_of c.chunks t q j (node_at (apply c t) q)
      chunk q j absent = elim (same_path q p) as (λ s. same_path q p ≡ s → chunk_of c.chunks t q j (cond s (Some (record { id = id; text = m })) (node_at (apply c t) q)) ≡ chunk_of c.chunks t q j (node_at (apply c t) q)) [
        | true ↦ λ e. blank (record { id = id; text = m }) _ _ _ (fresh-chunk c t id j nc fr) (λ x f. fr.not_own q x f) ∙ sym (ap (chunk_of c.chunks t q j) (ap (node_at (apply c t)) (same_path-true q p e) ∙ absent))
        | false ↦ λ _. refl
      ] refl

  -- ---- SetMeta
  -- a chunk doesn't look at metadata, but for its being an array's
  meta_blind : (p q : Path) (j : Index) (n : Node) (m : Text) → node_at (apply c t) p ≡ Some n → is_array n.text ≡ is_array m → chunk_of c.chunks t q j (cond (same_path q p) (Some (with_text m n)) (node_at (apply c t) q)) ≡ chunk_of c.chunks t q j (node_at (apply c t) q)
  meta_blind p q j n m f a = elim (same_path q p) as (λ s. same_path q p ≡ s → chunk_of c.chunks t q j (cond s (Some (with_text m n)) (node_at (apply c t) q)) ≡ chunk_of c.chunks t q j (node_at (apply c t) q)) [
    | true ↦ λ e. ap (λ (b : Bool). cond b (unwrap_or (c.chunks n.id j) (own_chunk (node_at t q) n.id (t.chunk q j))) None) (sym a) ∙ sym (ap (chunk_of c.chunks t q j) (ap (node_at (apply c t)) (same_path-true q p e) ∙ f))
    | false ↦ λ _. refl
  ] refl

  pub meta-law : (p : Path) (m : Text) → refusal (apply c t) (SetMeta p m) ≡ None → edited (apply c t) (SetMeta p m) ≡ apply (extended c t (SetMeta p m)) t
  meta-law p m ok = by_case (get c.added p) refl
    where
      kept : Kept (apply c t) p m
      kept = kept_of (apply c t) p m ok

      array_at : (n : Node) → node_at (apply c t) p ≡ Some n → is_array n.text ≡ is_array m
      array_at n f =
          let here : kept.node ≡ n = cc (sym kept.found ∙ f) in
          ap (λ (x : Node). is_array x.text) (sym here) ∙ frozen-array kept.node.text m kept.same

      by_case : (o : Option Node) → get c.added p ≡ o → edited (apply c t) (SetMeta p m) ≡ apply (with_meta c p m o (node_at (apply c t) p)) t
      by_case (Some n) e =
          let f : node_at (apply c t) p ≡ Some n = added_node c t p n e in
          let nodes : (q : Path) → node_at (apply (record c { added = insert c.added p (with_text m n) }) t) q ≡ cond (same_path q p) (Some (with_text m n)) (node_at (apply c t) q) = put_added c t p (with_text m n) in
          same_tree _ _ (λ q. get-updated _ p (with_text m) n q f ∙ sym (nodes q)) (λ q j. sym (ap (chunk_of c.chunks t q j) (nodes q) ∙ meta_blind p q j n m f (array_at n f)))
      by_case None e =
          subst (λ u. edited (apply c t) (SetMeta p m) ≡ apply (with_meta c p m None u) t) (sym kept.found) (own_case kept.node kept.found (own_of kept.node kept.found))
        where
          own_of : (n : Node) → node_at (apply c t) p ≡ Some n → Own c t p n
          own_of n f = pick (node_cases c t p n f)
            where
              pick : (get c.added p ≡ Some n) ⊎ Own c t p n → Own c t p n
              pick (inl x) = cc
              pick (inr o) = o

          own_case : (n : Node) → node_at (apply c t) p ≡ Some n → Own c t p n → edited (apply c t) (SetMeta p m) ≡ apply (with_meta c p m None (Some n)) t
          own_case n f o = same_tree _ _ (λ q. get-updated _ p (with_text m) n q f ∙ sym (nodes q)) (λ q j. sym (ap (chunk_of c.chunks t q j) (nodes q) ∙ meta_blind p q j n m f (array_at n f)))
            where
              at_p : node_at (apply (with_meta c p m None (Some n)) t) p ≡ Some (with_text m n)
              at_p = own_node (with_meta c p m None (Some n)) t p o.before o.not_added o.stays o.found
                  ∙ (λ i. Some (record { id = sym (own-id c t p n o) i; text = unwrap_or (cond (yes i) (Some m) (c.metas o.before.id)) o.before.text }))
                where
                  yes : same_id8 o.before.id n.id ≡ true
                  yes = ap (same_id8 o.before.id) (own-id c t p n o) ∙ id-refl o.before.id

              other : (q : Path) → same_path q p ≡ false → (x : Option Node) → node_at t q ≡ x → option_map (patched (with_meta c p m None (Some n)).metas) x ≡ option_map (patched c.metas) x
              other q s None g = refl
              other q s (Some x) g = ap (λ b. Some (record { id = x.id; text = unwrap_or (cond b (Some m) (c.metas x.id)) x.text })) (id-false x.id n.id (λ is. apart q p s (wt.distinct q p x o.before g o.found (is ∙ own-id c t p n o))))

              nodes : (q : Path) → node_at (apply (with_meta c p m None (Some n)) t) q ≡ cond (same_path q p) (Some (with_text m n)) (node_at (apply c t) q)
              nodes q = elim (same_path q p) as (λ s. same_path q p ≡ s → node_at (apply (with_meta c p m None (Some n)) t) q ≡ cond s (Some (with_text m n)) (node_at (apply c t) q)) [
                | true ↦ λ e. ap (node_at (apply (with_meta c p m None (Some n)) t)) (same_path-true q p e) ∙ at_p
                | false ↦ λ e. node-apply (with_meta c p m None (Some n)) t q
                    ∙ ap (λ x. option_or (get c.added q) (cond (is_gone c.dropped t.nodes q) None x)) (other q e (node_at t q) refl)
                    ∙ sym (node-apply c t q)
              ] refl

  -- ---- chunks
  entry-law : (p : Path) (i : Index) (e : Option (Option (List ℕ))) (r : Option (List ℕ)) (n : Node) → node_at (apply c t) p ≡ Some n → is_array n.text ≡ true → unwrap_or e (own_chunk (node_at t p) n.id (t.chunk p i)) ≡ r
      → record (apply c t) { chunk = λ q j. cond (same_path q p && same_numbers j i) r (chunk_of c.chunks t q j (node_at (apply c t) q)) } ≡ apply (with_entry c i e (Some n)) t
  entry-law p i e r n f a is = same_tree _ _ nodes (λ q j. chunk q j ∙ ap (chunk_of (with_entry c i e (Some n)).chunks t q j) (nodes q))
    where
      nodes : (q : Path) → node_at (apply c t) q ≡ node_at (apply (with_entry c i e (Some n)) t) q
      nodes q = node-apply c t q ∙ sym (node-apply (with_entry c i e (Some n)) t q)

      at_p : (j : Index) → cond (same_numbers j i) r (chunk_of c.chunks t p j (Some n)) ≡ chunk_of (with_entry c i e (Some n)).chunks t p j (Some n)
      at_p j = elim (same_numbers j i) as (λ s. same_numbers j i ≡ s → cond s r (chunk_of c.chunks t p j (Some n)) ≡ cond (is_array n.text) (unwrap_or (cond (same_id8 n.id n.id && s) e (c.chunks n.id j)) (own_chunk (node_at t p) n.id (t.chunk p j))) None) [
        | true ↦ λ s. sym is ∙ (λ k. cond (sym a k) (unwrap_or (cond (sym (id-refl n.id) k && true) e (c.chunks n.id j)) (own_chunk (node_at t p) n.id (t.chunk p (sym (same_path-true j i s) k)))) None)
        | false ↦ λ s. ap (λ b. cond (is_array n.text) (unwrap_or (cond (b && false) e (c.chunks n.id j)) (own_chunk (node_at t p) n.id (t.chunk p j))) None) (sym (id-refl n.id))
      ] refl

      other : (q : Path) (j : Index) → same_path q p ≡ false → (x : Option Node) → node_at (apply c t) q ≡ x → chunk_of c.chunks t q j x ≡ chunk_of (with_entry c i e (Some n)).chunks t q j x
      other q j s None g = refl
      other q j s (Some x) g = ap (λ b. cond (is_array x.text) (unwrap_or (cond (b && same_numbers j i) e (c.chunks x.id j)) (own_chunk (node_at t q) x.id (t.chunk q j))) None) (sym (id-false x.id n.id (λ same_id. apart q p s (nc.well_formed.distinct q p x n g f same_id))))

      chunk : (q : Path) (j : Index) → cond (same_path q p && same_numbers j i) r (chunk_of c.chunks t q j (node_at (apply c t) q)) ≡ chunk_of (with_entry c i e (Some n)).chunks t q j (node_at (apply c t) q)
      chunk q j = elim (same_path q p) as (λ s. same_path q p ≡ s → cond (s && same_numbers j i) r (chunk_of c.chunks t q j (node_at (apply c t) q)) ≡ chunk_of (with_entry c i e (Some n)).chunks t q j (node_at (apply c t) q)) [
        | true ↦ λ s.
            let there : node_at (apply c t) q ≡ Some n = ap (node_at (apply c t)) (same_path-true q p s) ∙ f in
            ap (λ o. cond (same_numbers j i) r (chunk_of c.chunks t q j o)) there ∙ ap (λ w. cond (same_numbers j i) r (chunk_of c.chunks t w j (Some n))) (same_path-true q p s) ∙ at_p j
            ∙ ap (λ w. chunk_of (with_entry c i e (Some n)).chunks t w j (Some n)) (sym (same_path-true q p s)) ∙ ap (chunk_of (with_entry c i e (Some n)).chunks t q j) (sym there)
        | false ↦ λ s. other q j s (node_at (apply c t) q) refl
      ] refl

  pub set-law : (p : Path) (i : Index) (b : List ℕ) → refusal (apply c t) (Set p i b) ≡ None → edited (apply c t) (Set p i b) ≡ apply (extended c t (Set p i b)) t
  set-law p i b ok =
      let sn = some_node (node_at (apply c t) p) _ ok in
      let array = ap is_some (some_array (array_in sn.0.text) _ sn.2).1 in
      subst (λ u. edited (apply c t) (Set p i b) ≡ apply (with_entry c i (Some (Some b)) u) t) (sym sn.1) (entry-law p i (Some (Some b)) (Some b) sn.0 sn.1 array refl)

  pub unset-law : (p : Path) (i : Index) → refusal (apply c t) (Unset p i) ≡ None → edited (apply c t) (Unset p i) ≡ apply (extended c t (Unset p i)) t
  unset-law p i ok =
      let sn = some_node (node_at (apply c t) p) _ ok in
      let array = ap is_some (some_array (array_in sn.0.text) _ sn.2).1 in
      subst (λ u. edited (apply c t) (Unset p i) ≡ apply (with_entry c i (cond (is_some (get c.added p)) None (Some None)) u) t) (sym sn.1) (entry-law p i (cond (is_some (get c.added p)) None (Some None)) None sn.0 sn.1 array (left sn.0 sn.1 (get c.added p) refl))
    where
      no_own : (n : Node) → get c.added p ≡ Some n → (o : Option Node) → node_at t p ≡ o → own_chunk o n.id (t.chunk p i) ≡ None
      no_own n e None g = refl
      no_own n e (Some x) g = ap (λ (b : Bool). cond b (t.chunk p i) None) (id-false x.id n.id (λ is. nc.fresh p p n x e g (sym is)))

      left : (n : Node) → node_at (apply c t) p ≡ Some n → (o : Option Node) → get c.added p ≡ o → unwrap_or (cond (is_some o) None (Some None)) (own_chunk (node_at t p) n.id (t.chunk p i)) ≡ None
      left n f None e = refl
      left n f (Some x) e = let same_node : x ≡ n = cc (added_node c t p x e) in no_own n (e ∙ ap (λ (y : Node). Some y) same_node) (node_at t p) refl

  -- ---- Drop
  pub drop-law : (p : Path) → refusal (apply c t) (Drop p) ≡ None → edited (apply c t) (Drop p) ≡ apply (extended c t (Drop p)) t
  drop-law p ok = same_tree _ _ (λ q. get-where _ _ q ∙ sym (nodes q)) (λ q j. chunk q j ∙ ap (chunk_of (extended c t (Drop p)).chunks t q j) (sym (nodes q)))
    where
      there : (n : Node) × (node_at (apply c t) p ≡ Some n)
      there = let sn = some_node (node_at (apply c t) p) _ ok in (sn.0, sn.1)

      dropped : Id8 → Bool
      dropped = (extended c t (Drop p)).dropped

      or-left : (a b : Bool) → a ≡ true → (a || b) ≡ true
      or-left true b h = refl
      or-left false b h = cc

      or-right : (a b : Bool) → b ≡ true → (a || b) ≡ true
      or-right true b h = refl
      or-right false b h = h

      or-cases : (a b : Bool) → (a || b) ≡ true → (a ≡ true) ⊎ (b ≡ true)
      or-cases true b h = inl refl
      or-cases false b h = inr h

      has-id : (m n : Node) (o : Option Node) → o ≡ Some m → m.id ≡ n.id → has_id n.id o ≡ true
      has-id m n o e is = ap (has_id n.id) e ∙ ap (λ k. same_id8 k n.id) is ∙ id-refl n.id

      -- what is gone at p is gone beneath it
      carried : (q : Path) → is_within p q ≡ true → Gone c.dropped t p → is_gone dropped t.nodes q ≡ true
      carried q w g = gone-intro dropped t q (record { path = g.path; node = g.node; found = g.found; dropped_id = or-left _ _ g.dropped_id; within = within-trans g.path p q g.within w })

      left_out : (q : Path) → is_within p q ≡ true → (is_gone dropped t.nodes q ≡ true) ⊎ (node_at t q ≡ None)
      left_out q w = by_case (node_cases c t p there.0 there.1)
        where
          own_there : (o : Option Node) → get c.added p ≡ Some there.0 → node_at t p ≡ o → (r : Option Node) → node_at t q ≡ r → (is_gone dropped t.nodes q ≡ true) ⊎ (node_at t q ≡ None)
          own_there (Some x) a e r f = inl (carried q w (gone-elim c.dropped t p (nc.free p there.0 x a e)))
          own_there None a e None f = inr f
          own_there None a e (Some y) f = let h : Has t p = above t wt p (nc.well_formed.named p there.0 there.1) q y f w in let bad : None ≡ Some h.node = sym e ∙ h.found in cc

          by_case : (get c.added p ≡ Some there.0) ⊎ Own c t p there.0 → (is_gone dropped t.nodes q ≡ true) ⊎ (node_at t q ≡ None)
          by_case (inl a) = own_there (node_at t p) a refl (node_at t q) refl
          by_case (inr o) = inl (gone-intro dropped t q (record {
            path = p;
            node = o.before;
            found = o.found;
            dropped_id = or-right (c.dropped o.before.id) _ (both _ _ (has-id there.0 o.before _ there.1 (own-id c t p there.0 o)) (has-id o.before o.before _ o.found refl));
            within = w;
          }))

      -- nothing else is gone
      same_gone : (q : Path) → is_within p q ≡ false → is_gone dropped t.nodes q ≡ is_gone c.dropped t.nodes q
      same_gone q w = both_ways _ _ (λ h. up_to (gone-elim dropped t q h)) (λ h. let g = gone-elim c.dropped t q h in gone-intro dropped t q (record { path = g.path; node = g.node; found = g.found; dropped_id = or-left _ _ g.dropped_id; within = g.within }))
        where
          up_to : Gone dropped t q → is_gone c.dropped t.nodes q ≡ true
          up_to g = by_case (or-cases (c.dropped g.node.id) _ g.dropped_id)
            where
              id_at : (o : Option Node) → node_at t p ≡ o → has_id g.node.id o ≡ true → is_within p q ≡ true
              id_at None e h = cc
              id_at (Some y) e h = let here : p ≡ g.path = wt.distinct p g.path y g.node e g.found (id-true y.id g.node.id h) in ap (λ r. is_within r q) here ∙ g.within

              absurd_of : is_within p q ≡ true → is_gone c.dropped t.nodes q ≡ true
              absurd_of inside = cc

              by_case : (c.dropped g.node.id ≡ true) ⊎ ((has_id g.node.id (node_at (apply c t) p) && has_id g.node.id (node_at t p)) ≡ true) → is_gone c.dropped t.nodes q ≡ true
              by_case (inl h) = gone-intro c.dropped t q (record { path = g.path; node = g.node; found = g.found; dropped_id = h; within = g.within })
              by_case (inr h) = absurd_of (id_at (node_at t p) refl (second _ _ h))

      -- another node's id isn't one of those that leave
      not_within : (q : Path) (x : Node) → is_within p q ≡ false → node_at (apply c t) q ≡ Some x → has_id_within (apply c t).nodes p x.id ≡ false
      not_within q x w f = by_test (has_id_within (apply c t).nodes p x.id) refl
        where
          by_test : (b : Bool) → has_id_within (apply c t).nodes p x.id ≡ b → b ≡ false
          by_test false e = refl
          by_test true e =
              let g : IdWithin (apply c t) p x.id = id_within-elim (apply c t) p x.id e in
              let here : g.path ≡ q = nc.well_formed.distinct g.path q g.node x g.found f g.same in
              let yes : is_within p q ≡ true = ap (is_within p) (sym here) ∙ g.within in
              cc

      nodes_out : (q : Path) → is_within p q ≡ true → node_at (apply (extended c t (Drop p)) t) q ≡ None
      nodes_out q w = no_node (extended c t (Drop p)) t q (get-where c.added _ q ∙ ap (λ b. cond (not b) (get c.added q) None) w) (left_out q w)

      nodes_in : (q : Path) → is_within p q ≡ false → node_at (apply (extended c t (Drop p)) t) q ≡ node_at (apply c t) q
      nodes_in q w = node-apply (extended c t (Drop p)) t q
          ∙ (λ i. option_or ((get-where c.added (λ r. not (is_within p r)) q ∙ ap (λ b. cond (not b) (get c.added q) None) w) i) (cond (same_gone q w i) None (option_map (patched (extended c t (Drop p)).metas) (node_at t q))))
          ∙ formula (get c.added q) (is_gone c.dropped t.nodes q) (node_at t q) refl refl refl
          ∙ sym (node-apply c t q)
        where
          formula : (o : Option Node) (b : Bool) (x : Option Node) → get c.added q ≡ o → is_gone c.dropped t.nodes q ≡ b → node_at t q ≡ x
              → option_or o (cond b None (option_map (patched (extended c t (Drop p)).metas) x)) ≡ option_or o (cond b None (option_map (patched c.metas) x))
          formula (Some n) b x e g f = refl
          formula None true x e g f = refl
          formula None false None e g f = refl
          formula None false (Some x) e g f = ap (λ b. Some (record { id = x.id; text = unwrap_or (cond b None (c.metas x.id)) x.text })) (not_within q (patched c.metas x) w (own_node c t q x e g f))

      nodes : (q : Path) → node_at (apply (extended c t (Drop p)) t) q ≡ cond (not (is_within p q)) (node_at (apply c t) q) None
      nodes q = elim (is_within p q) as (λ w. is_within p q ≡ w → node_at (apply (extended c t (Drop p)) t) q ≡ cond (not w) (node_at (apply c t) q) None) [ true ↦ nodes_out q | false ↦ nodes_in q ] refl

      chunk : (q : Path) (j : Index) → cond (is_within p q) None (chunk_of c.chunks t q j (node_at (apply c t) q)) ≡ chunk_of (extended c t (Drop p)).chunks t q j (cond (not (is_within p q)) (node_at (apply c t) q) None)
      chunk q j = elim (is_within p q) as (λ w. is_within p q ≡ w → cond w None (chunk_of c.chunks t q j (node_at (apply c t) q)) ≡ chunk_of (extended c t (Drop p)).chunks t q j (cond (not w) (node_at (apply c t) q) None)) [
        | true ↦ λ _. refl
        | false ↦ λ w. stays w (node_at (apply c t) q) refl
      ] refl
        where
          stays : is_within p q ≡ false → (o : Option Node) → node_at (apply c t) q ≡ o → chunk_of c.chunks t q j o ≡ chunk_of (extended c t (Drop p)).chunks t q j o
          stays w None f = refl
          stays w (Some x) f = ap (λ b. cond (is_array x.text) (unwrap_or (cond b None (c.chunks x.id j)) (own_chunk (node_at t q) x.id (t.chunk q j))) None) (sym (not_within q x w f))

  law : (e : Edit) → CanExtend c t e → (o : Option EditFault) → refusal (apply c t) e ≡ o → unless o (edited (apply c t) e) ≡ result_map (λ d. apply d t) (unless o (extended c t e))
  law e can (Some f) h = refl
  law (Add p id m) can None h = ap Ok (add-law p id m can h)
  law (SetMeta p m) can None h = ap Ok (meta-law p m h)
  law (Drop p) can None h = ap Ok (drop-law p h)
  law (Set p i b) can None h = ap Ok (set-law p i b h)
  law (Unset p i) can None h = ap Ok (unset-law p i h)

pub change-law : ChangeLaw
change-law c t e wt nc can = law c t wt nc e can (refusal (apply c t) e) refl
