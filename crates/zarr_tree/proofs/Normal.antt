-- One more edit keeps changes normal.
use Rattle.std.proofs.Common.{◌≡◌, ◌≢◌, ℕ, Bool, true, false, cond, not, ◌&&◌, ◌||◌, List, length, Option, Some, None, is_some, unwrap_or, refl, sym, ap, subst, ◌∙◌, ◌⊎◌, inl, inr}
use Rattle.std.specs.Prelude.{nat_le}
use Rattle.std.specs.FinMap.{get, insert, len, get-empty}
use Rattle.std.proofs.lemmas.Bool.{eqb-true}
use Rattle.ice_ids.specs.declared.Id8.{Id8}
use Rattle.ice_ids.specs.Text.{same_id8}
use Rattle.zarr_path.specs.Paths.{path_cmp, same_path, root, is_path, is_within, parent_of}
use Rattle.zarr_path.proofs.OrderLaws.{same_path-true, same_path-refl, same_path-false}
use Rattle.zarr_path.proofs.PathLaws.{within-trans, parent-within}
use Rattle.zarr_tree.specs.declared.edit.EditFault.{EditFault}
use Rattle.zarr_tree.specs.declared.edit.EditFault.TheVariants.{NodeExists, NoParent, Full}
use Rattle.zarr_tree.specs.Nodes.{Node, is_metadata, is_group, is_array, array_in, SameFrozen, Fits, same_numbers}
use Rattle.zarr_tree.specs.Trees.{Tree, no_tree, node_at, IsWellFormed, HasGroup, HasArray}
use Rattle.zarr_tree.specs.Edits.{Edit, Add, SetMeta, Drop, Set, Unset, refusal, edited, most_nodes, is_group_at, is_place, with_text}
use Rattle.zarr_tree.specs.Changes.{Changes, is_gone, patched, has_id, has_id_within, own_chunk, chunk_of, apply, extended, with_meta, with_entry, IsNormal, StillHas, EntryFits, IsFresh, CanExtend, NamesPath, HasMetadata, none}
use Rattle.zarr_tree.specs.Laws.{NormalLaw, NoneLaw, EmptyLaw}
use Rattle.zarr_tree.proofs.Maps.{Path, Index, get-put, get-where}
use Rattle.zarr_tree.proofs.ViewLaws.{InGrid, in_grid_is}
use Rattle.zarr_tree.proofs.NodeLaws.{Text, frozen-refl, frozen-trans, frozen-group, frozen-metadata, fits-frozen, fits-array}
use Rattle.zarr_tree.proofs.Apply.{node-apply, Gone, gone-intro, gone-elim, gone-false, id_within-intro, id-true, id-refl, id-false, first, second, Own, node_cases, added_node, own_node, no_node}
use Rattle.zarr_tree.proofs.Extend.{same_tree, own-id, fresh-apply, passed, some_node, some_array, Kept, kept_of, none_left, not_not, get-updated, add-law, meta-law, set-law, unset-law, drop-law}

-- what a tree keeps of a node
pub record Keeps (u : Tree) (q : Path) (n : Node) : Type 0 where
  pub node : Node
  pub found : node_at u q ≡ Some node
  pub id : node.id ≡ n.id
  pub frozen : SameFrozen n.text node.text

pub keeps_group : (u : Tree) (q : Path) (n : Node) → Keeps u q n → is_group n.text ≡ true → HasGroup u q
keeps_group u q n k g = record { node = k.node; found = k.found; group = sym (frozen-group n.text k.node.text k.frozen) ∙ g }

pub keeps_array : (u : Tree) (q : Path) (i : Index) (b : List ℕ) (n : Node) → Keeps u q n → Fits n.text i (Some b) → HasArray u q i b
keeps_array u q i b n k f = record { node = k.node; found = k.found; fits = fits-frozen n.text k.node.text i (Some b) k.frozen f }

-- what stands in one tree stands in one that keeps the node
pub still : (t u v : Tree) (id : Id8) → ((q : Path) (n : Node) → node_at u q ≡ Some n → n.id ≡ id → Keeps v q n) → StillHas t u id → StillHas t v id
still t u v id k h =
    let x = k h.path h.after h.is h.after_id in
    record { path = h.path; before = h.before; after = x.node; was = h.was; is = x.found; before_id = h.before_id; after_id = x.id ∙ h.after_id }

pub entry : (t u v : Tree) (id : Id8) (i : Index) (e : Option (List ℕ)) → ((q : Path) (n : Node) → node_at u q ≡ Some n → n.id ≡ id → Keeps v q n) → EntryFits t u id i e → EntryFits t v id i e
entry t u v id i e k h =
    let x = k h.path h.node h.found h.same in
    record {
      path = h.path;
      node = x.node;
      found = x.found;
      same = x.id ∙ h.same;
      fits = fits-frozen h.node.text x.node.text i e x.frozen h.fits;
      unset = λ is. still t u v id k (h.unset is);
    }

-- ---- an edit keeps a tree well formed
module _ (u : Tree) (wu : IsWellFormed u) where
  -- a node with its metadata replaced, or a new one, at one path
  module _ (p : Path) (x : Node) (v : is_path p ≡ true) (meta : is_metadata x.text ≡ true) (unique : (q : Path) (n : Node) → node_at u q ≡ Some n → n.id ≡ x.id → q ≡ p) (keep : (n : Node) → node_at u p ≡ Some n → (n.id ≡ x.id) × SameFrozen n.text x.text) (group : p ≢ root → HasGroup u (parent_of p)) (w : Tree) (nodes : (q : Path) → node_at w q ≡ cond (same_path q p) (Some x) (node_at u q)) (chunks : (q : Path) (i : Index) → w.chunk q i ≡ u.chunk q i) where
    at_p : node_at w p ≡ Some x
    at_p = nodes p ∙ ap (λ b. cond b (Some x) (node_at u p)) (same_path-refl p)

    pub put_keeps : (q : Path) (n : Node) → node_at u q ≡ Some n → Keeps w q n
    put_keeps q n f = elim (same_path q p) as (λ s. same_path q p ≡ s → Keeps w q n) [
      | true ↦ λ s.
          let e : q ≡ p = same_path-true q p s in
          let k = keep n (ap (node_at u) (sym e) ∙ f) in
          record { node = x; found = ap (node_at w) e ∙ at_p; id = sym k.0; frozen = k.1 }
      | false ↦ λ s. record { node = n; found = nodes q ∙ ap (λ b. cond b (Some x) (node_at u q)) s ∙ f; id = refl; frozen = frozen-refl n.text }
    ] refl

    put_cases : (q : Path) (n : Node) → node_at w q ≡ Some n → ((q ≡ p) × (n ≡ x)) ⊎ (node_at u q ≡ Some n)
    put_cases q n f = elim (same_path q p) as (λ s. same_path q p ≡ s → ((q ≡ p) × (n ≡ x)) ⊎ (node_at u q ≡ Some n)) [
      | true ↦ λ s. let here : Some n ≡ Some x = sym f ∙ nodes q ∙ ap (λ b. cond b (Some x) (node_at u q)) s in inl (same_path-true q p s, cc here)
      | false ↦ λ s. inr (sym (nodes q ∙ ap (λ b. cond b (Some x) (node_at u q)) s) ∙ f)
    ] refl

    pub put_wf : IsWellFormed w
    put_wf = record { named = names; readable = metas; distinct = ids; parents = ups; chunks = fits }
      where
        metas : (q : Path) (n : Node) → node_at w q ≡ Some n → is_metadata n.text ≡ true
        metas q n f = by_case (put_cases q n f)
          where
            by_case : ((q ≡ p) × (n ≡ x)) ⊎ (node_at u q ≡ Some n) → is_metadata n.text ≡ true
            by_case (inl e) = ap (λ (y : Node). is_metadata y.text) e.1 ∙ meta
            by_case (inr g) = wu.readable q n g

        names : (q : Path) (n : Node) → node_at w q ≡ Some n → is_path q ≡ true
        names q n f = by_case (put_cases q n f)
          where
            by_case : ((q ≡ p) × (n ≡ x)) ⊎ (node_at u q ≡ Some n) → is_path q ≡ true
            by_case (inl e) = ap is_path e.0 ∙ v
            by_case (inr g) = wu.named q n g

        ids : (q r : Path) (m n : Node) → node_at w q ≡ Some m → node_at w r ≡ Some n → m.id ≡ n.id → q ≡ r
        ids q r m n f g e = by_case (put_cases q m f) (put_cases r n g)
          where
            by_case : ((q ≡ p) × (m ≡ x)) ⊎ (node_at u q ≡ Some m) → ((r ≡ p) × (n ≡ x)) ⊎ (node_at u r ≡ Some n) → q ≡ r
            by_case (inl a) (inl b) = a.0 ∙ sym b.0
            by_case (inl a) (inr b) = a.0 ∙ sym (unique r n b (sym e ∙ ap (λ (y : Node). y.id) a.1))
            by_case (inr a) (inl b) = unique q m a (e ∙ ap (λ (y : Node). y.id) b.1) ∙ sym b.0
            by_case (inr a) (inr b) = wu.distinct q r m n a b e

        up_of : (q : Path) → HasGroup u q → HasGroup w q
        up_of q g = keeps_group w q g.node (put_keeps q g.node g.found) g.group

        ups : (q : Path) (n : Node) → node_at w q ≡ Some n → q ≢ root → HasGroup w (parent_of q)
        ups q n f ne = by_case (put_cases q n f)
          where
            by_case : ((q ≡ p) × (n ≡ x)) ⊎ (node_at u q ≡ Some n) → HasGroup w (parent_of q)
            by_case (inl e) = up_of (parent_of q) (subst (λ r. HasGroup u (parent_of r)) (sym e.0) (group (λ is. ne (e.0 ∙ is))))
            by_case (inr g) = up_of (parent_of q) (wu.parents q n g ne)

        fits : (q : Path) (i : Index) (b : List ℕ) → w.chunk q i ≡ Some b → HasArray w q i b
        fits q i b h = let a : HasArray u q i b = wu.chunks q i b (sym (chunks q i) ∙ h) in keeps_array w q i b a.node (put_keeps q a.node a.found) a.fits

  -- what is within a path leaves
  pub drop_wf : (p : Path) → IsWellFormed (edited u (Drop p))
  drop_wf p = record { named = λ q n f. wu.named q n (stays q n f).1; readable = λ q n f. wu.readable q n (stays q n f).1; distinct = λ q r m n f g e. wu.distinct q r m n (stays q m f).1 (stays r n g).1 e; parents = ups; chunks = fits }
    where
      at : (q : Path) → node_at (edited u (Drop p)) q ≡ cond (not (is_within p q)) (node_at u q) None
      at q = get-where u.nodes (λ r. not (is_within p r)) q

      stays : (q : Path) (n : Node) → node_at (edited u (Drop p)) q ≡ Some n → (is_within p q ≡ false) × (node_at u q ≡ Some n)
      stays q n f = elim (is_within p q) as (λ b. cond (not b) (node_at u q) None ≡ Some n → (b ≡ false) × (node_at u q ≡ Some n)) [ true ↦ λ h. cc | false ↦ λ h. (refl, h) ] (sym (at q) ∙ f)

      back_in : (q : Path) (n : Node) → is_within p q ≡ false → node_at u q ≡ Some n → node_at (edited u (Drop p)) q ≡ Some n
      back_in q n w f = at q ∙ ap (λ b. cond (not b) (node_at u q) None) w ∙ f

      above_out : (q : Path) → is_path q ≡ true → is_within p q ≡ false → is_within p (parent_of q) ≡ false
      above_out q v w = by_test (is_within p (parent_of q)) refl
        where
          by_test : (b : Bool) → is_within p (parent_of q) ≡ b → b ≡ false
          by_test false e = refl
          by_test true e = let inside : is_within p q ≡ true = within-trans p (parent_of q) q e (parent-within q v) in cc

      ups : (q : Path) (n : Node) → node_at (edited u (Drop p)) q ≡ Some n → q ≢ root → HasGroup (edited u (Drop p)) (parent_of q)
      ups q n f ne =
          let s = stays q n f in
          let g : HasGroup u (parent_of q) = wu.parents q n s.1 ne in
          record { node = g.node; found = back_in (parent_of q) g.node (above_out q (wu.named q n s.1) s.0) g.found; group = g.group }

      fits : (q : Path) (i : Index) (b : List ℕ) → cond (is_within p q) None (u.chunk q i) ≡ Some b → HasArray (edited u (Drop p)) q i b
      fits q i b h = elim (is_within p q) as (λ w. is_within p q ≡ w → cond w None (u.chunk q i) ≡ Some b → HasArray (edited u (Drop p)) q i b) [
        | true ↦ λ w k. cc
        | false ↦ λ w k. let a : HasArray u q i b = wu.chunks q i b k in record { node = a.node; found = back_in q a.node w a.found; fits = a.fits }
      ] refl h

  -- a chunk is set or unset
  pub chunk_wf : (p : Path) (i : Index) (o : Option (List ℕ)) → ((b : List ℕ) → o ≡ Some b → HasArray u p i b) → IsWellFormed (record u { chunk = λ q j. cond (is_place p i q j) o (u.chunk q j) })
  chunk_wf p i o fit = record { named = wu.named; readable = wu.readable; distinct = wu.distinct; parents = ups; chunks = fits }
    where
      w : Tree
      w = record u { chunk = λ q j. cond (is_place p i q j) o (u.chunk q j) }

      ups : (q : Path) (n : Node) → node_at u q ≡ Some n → q ≢ root → HasGroup (record u { chunk = λ q j. cond (is_place p i q j) o (u.chunk q j) }) (parent_of q)
      ups q n f ne = let g = wu.parents q n f ne in record { node = g.node; found = g.found; group = g.group }

      moved : (q : Path) (j : Index) (b : List ℕ) → HasArray u q j b → HasArray (record u { chunk = λ q j. cond (is_place p i q j) o (u.chunk q j) }) q j b
      moved q j b a = record { node = a.node; found = a.found; fits = a.fits }

      fits : (q : Path) (j : Index) (b : List ℕ) → cond (is_place p i q j) o (u.chunk q j) ≡ Some b → HasArray (record u { chunk = λ q j. cond (is_place p i q j) o (u.chunk q j) }) q j b
      fits q j b h = moved q j b (elim (is_place p i q j) as (λ s. is_place p i q j ≡ s → cond s o (u.chunk q j) ≡ Some b → HasArray u q j b) [
        | true ↦ λ s k. let e : q ≡ p = same_path-true q p (first _ _ s) in let f : j ≡ i = same_path-true j i (second _ _ s) in
            subst (λ r. HasArray u r j b) (sym e) (subst (λ l. HasArray u p l b) (sym f) (fit b k))
        | false ↦ λ s k. wu.chunks q j b k
      ] refl h)

second_passed : (a b : Bool) (f g : EditFault) (h : Option EditFault) → cond a (Some f) (cond b (Some g) h) ≡ None → b ≡ false
second_passed true b f g h k = cc
second_passed false true f g h k = cc
second_passed false false f g h k = refl

module _ (c : Changes) (t : Tree) (wt : IsWellFormed t) (nc : IsNormal c t) where
  -- a node put into `added`
  put_normal : (p : Path) (x : Node) → ((q : Path) (n : Node) → node_at t q ≡ Some n → n.id ≢ x.id) → ((q : Path) (n : Node) → get c.added q ≡ Some n → n.id ≡ x.id → q ≡ p) → c.dropped x.id ≡ false
      → ((n : Node) → node_at t p ≡ Some n → is_gone c.dropped t.nodes p ≡ true) → ((q : Path) (n : Node) → node_at (apply c t) q ≡ Some n → Keeps (apply (record c { added = insert c.added p x }) t) q n)
      → IsWellFormed (apply (record c { added = insert c.added p x }) t) → IsNormal (record c { added = insert c.added p x }) t
  put_normal p x not_own others not_dropped free keeps wf = record {
    distinct = λ q r m n f g e. ids q r m n (cases q m f) (cases r n g) e;
    fresh = λ q r m n f g e. foreign q r m n (cases q m f) g e;
    not_dropped = λ q n f. stays q n (cases q n f);
    free = λ q m n f g. over q m n (cases q m f) g;
    metas = λ id m h. still t (apply c t) _ id (λ q n f e. keeps q n f) (nc.metas id m h);
    frozen = nc.frozen;
    chunks = λ id i e h. entry t (apply c t) _ id i e (λ q n f s. keeps q n f) (nc.chunks id i e h);
    well_formed = wf;
  }
    where
      cases : (q : Path) (n : Node) → get (insert c.added p x) q ≡ Some n → ((q ≡ p) × (n ≡ x)) ⊎ (get c.added q ≡ Some n)
      cases q n f = elim (same_path q p) as (λ s. same_path q p ≡ s → ((q ≡ p) × (n ≡ x)) ⊎ (get c.added q ≡ Some n)) [
        | true ↦ λ s. let here : Some n ≡ Some x = sym f ∙ get-put c.added p x q ∙ ap (λ b. cond b (Some x) (get c.added q)) s in inl (same_path-true q p s, cc here)
        | false ↦ λ s. inr (sym (get-put c.added p x q ∙ ap (λ b. cond b (Some x) (get c.added q)) s) ∙ f)
      ] refl

      ids : (q r : Path) (m n : Node) → ((q ≡ p) × (m ≡ x)) ⊎ (get c.added q ≡ Some m) → ((r ≡ p) × (n ≡ x)) ⊎ (get c.added r ≡ Some n) → m.id ≡ n.id → q ≡ r
      ids q r m n (inl a) (inl b) e = a.0 ∙ sym b.0
      ids q r m n (inl a) (inr b) e = a.0 ∙ sym (others r n b (sym e ∙ ap (λ (y : Node). y.id) a.1))
      ids q r m n (inr a) (inl b) e = others q m a (e ∙ ap (λ (y : Node). y.id) b.1) ∙ sym b.0
      ids q r m n (inr a) (inr b) e = nc.distinct q r m n a b e

      foreign : (q r : Path) (m n : Node) → ((q ≡ p) × (m ≡ x)) ⊎ (get c.added q ≡ Some m) → node_at t r ≡ Some n → m.id ≡ n.id → ⊥
      foreign q r m n (inl a) g e = not_own r n g (sym e ∙ ap (λ (y : Node). y.id) a.1)
      foreign q r m n (inr a) g e = nc.fresh q r m n a g e

      stays : (q : Path) (n : Node) → ((q ≡ p) × (n ≡ x)) ⊎ (get c.added q ≡ Some n) → c.dropped n.id ≡ false
      stays q n (inl a) = ap (λ (y : Node). c.dropped y.id) a.1 ∙ not_dropped
      stays q n (inr a) = nc.not_dropped q n a

      over : (q : Path) (m n : Node) → ((q ≡ p) × (m ≡ x)) ⊎ (get c.added q ≡ Some m) → node_at t q ≡ Some n → is_gone c.dropped t.nodes q ≡ true
      over q m n (inl a) g = ap (is_gone c.dropped t.nodes) a.0 ∙ free n (ap (node_at t) (sym a.0) ∙ g)
      over q m n (inr a) g = nc.free q m n a g

  add-normal : (p : Path) (id : Id8) (m : Text) → IsFresh c t id → is_path p ≡ true → is_metadata m ≡ true → refusal (apply c t) (Add p id m) ≡ None → IsNormal (extended c t (Add p id m)) t
  add-normal p id m fr v meta ok =
      put_normal p (record { id = id; text = m }) fr.not_own (λ q n f e. absurd (fr.not_added q n f e)) fr.not_dropped free
      (λ q n f. subst (λ w. Keeps w q n) law (put_keeps (apply c t) nc.well_formed p (record { id = id; text = m }) v meta unique keep group (edited (apply c t) (Add p id m)) nodes (λ q i. refl) q n f))
      (subst IsWellFormed law (put_wf (apply c t) nc.well_formed p (record { id = id; text = m }) v meta unique keep group (edited (apply c t) (Add p id m)) nodes (λ q i. refl)))
    where
      law : edited (apply c t) (Add p id m) ≡ apply (extended c t (Add p id m)) t
      law = add-law c t wt nc p id m fr ok

      absent : node_at (apply c t) p ≡ None
      absent = none_left _ (passed _ _ _ ok).0

      nodes : (q : Path) → node_at (edited (apply c t) (Add p id m)) q ≡ cond (same_path q p) (Some (record { id = id; text = m })) (node_at (apply c t) q)
      nodes q = get-put (apply c t).nodes p (record { id = id; text = m }) q

      unique : (q : Path) (n : Node) → node_at (apply c t) q ≡ Some n → n.id ≡ id → q ≡ p
      unique q n f e = absurd (fresh-apply c t id fr q n f e)

      keep : (n : Node) → node_at (apply c t) p ≡ Some n → (n.id ≡ id) × SameFrozen n.text m
      keep n f = let bad : None ≡ Some n = sym absent ∙ f in cc

      free : (n : Node) → node_at t p ≡ Some n → is_gone c.dropped t.nodes p ≡ true
      free n f = by_case (is_gone c.dropped t.nodes p) refl (get c.added p) refl
        where
          by_case : (b : Bool) → is_gone c.dropped t.nodes p ≡ b → (o : Option Node) → get c.added p ≡ o → b ≡ true
          by_case true e o g = refl
          by_case false e None g = let bad : None ≡ Some (patched c.metas n) = sym absent ∙ own_node c t p n g e f in cc
          by_case false e (Some x) g = let bad : None ≡ Some x = sym absent ∙ added_node c t p x g in cc

      group_of : (o : Option Node) → node_at (apply c t) (parent_of p) ≡ o → is_group_at o ≡ true → HasGroup (apply c t) (parent_of p)
      group_of None f h = cc
      group_of (Some n) f h = record { node = n; found = f; group = h }

      parent_ok : (not (same_path p root) && not (is_group_at (node_at (apply c t) (parent_of p)))) ≡ false
      parent_ok = second_passed (is_some (node_at (apply c t) p)) (not (same_path p root) && not (is_group_at (node_at (apply c t) (parent_of p)))) NodeExists NoParent (cond (nat_le most_nodes (len (apply c t).nodes)) (Some Full) None) ok

      group : p ≢ root → HasGroup (apply c t) (parent_of p)
      group ne = group_of (node_at (apply c t) (parent_of p)) refl (test (same_path p root) (same_path-false p root ne) (is_group_at (node_at (apply c t) (parent_of p))) parent_ok)
        where
          test : (a : Bool) → a ≡ false → (b : Bool) → (not a && not b) ≡ false → b ≡ true
          test true e b h = cc
          test false e true h = refl
          test false e false h = cc

  meta-normal : (p : Path) (m : Text) → refusal (apply c t) (SetMeta p m) ≡ None → IsNormal (extended c t (SetMeta p m)) t
  meta-normal p m ok = by_case (get c.added p) refl
    where
      found : Kept (apply c t) p m
      found = kept_of (apply c t) p m ok

      there : (n : Node) × (node_at (apply c t) p ≡ Some n)
      there = (found.node, found.found)

      same : SameFrozen there.0.text m
      same = found.same

      meta : is_metadata m ≡ true
      meta = sym (frozen-metadata there.0.text m same) ∙ nc.well_formed.readable p there.0 there.1

      law : edited (apply c t) (SetMeta p m) ≡ apply (extended c t (SetMeta p m)) t
      law = meta-law c t wt nc p m ok

      nodes : (q : Path) → node_at (edited (apply c t) (SetMeta p m)) q ≡ cond (same_path q p) (Some (with_text m there.0)) (node_at (apply c t) q)
      nodes q = get-updated (apply c t).nodes p (with_text m) there.0 q there.1

      unique : (q : Path) (n : Node) → node_at (apply c t) q ≡ Some n → n.id ≡ there.0.id → q ≡ p
      unique q n f e = nc.well_formed.distinct q p n there.0 f there.1 e

      keep : (n : Node) → node_at (apply c t) p ≡ Some n → (n.id ≡ there.0.id) × SameFrozen n.text m
      keep n f = let e : n ≡ there.0 = cc (sym f ∙ there.1) in (ap (λ (y : Node). y.id) e, subst (λ (y : Node). SameFrozen y.text m) (sym e) same)

      group : p ≢ root → HasGroup (apply c t) (parent_of p)
      group ne = nc.well_formed.parents p there.0 there.1 ne

      keeps : (q : Path) (n : Node) → node_at (apply c t) q ≡ Some n → Keeps (apply (extended c t (SetMeta p m)) t) q n
      keeps q n f = subst (λ w. Keeps w q n) law (put_keeps (apply c t) nc.well_formed p (with_text m there.0) (nc.well_formed.named p there.0 there.1) meta unique keep group (edited (apply c t) (SetMeta p m)) nodes (λ q i. refl) q n f)

      wf : IsWellFormed (apply (extended c t (SetMeta p m)) t)
      wf = subst IsWellFormed law (put_wf (apply c t) nc.well_formed p (with_text m there.0) (nc.well_formed.named p there.0 there.1) meta unique keep group (edited (apply c t) (SetMeta p m)) nodes (λ q i. refl))

      own_case : get c.added p ≡ None → Own c t p there.0 → IsNormal (with_meta c p m None (Some there.0)) t
      own_case e o = record {
        distinct = nc.distinct;
        fresh = nc.fresh;
        not_dropped = nc.not_dropped;
        free = nc.free;
        metas = λ id x h. new_metas id x (id_case id x h);
        frozen = λ id x q n h f g. new_frozen id x q n (id_case id x h) f g;
        chunks = λ id i x h. entry t (apply c t) (apply (with_meta c p m None (Some there.0)) t) id i x (λ q n f s. kept q n f) (nc.chunks id i x h);
        well_formed = subst (λ d. IsWellFormed (apply d t)) here wf;
      }
        where
          here : extended c t (SetMeta p m) ≡ with_meta c p m None (Some there.0)
          here = λ i. with_meta c p m (e i) (there.1 i)

          kept : (q : Path) (n : Node) → node_at (apply c t) q ≡ Some n → Keeps (apply (with_meta c p m None (Some there.0)) t) q n
          kept q n f = subst (λ d. Keeps (apply d t) q n) here (keeps q n f)

          id_case : (id : Id8) (x : Text) → cond (same_id8 id there.0.id) (Some m) (c.metas id) ≡ Some x → ((id ≡ there.0.id) × (x ≡ m)) ⊎ (c.metas id ≡ Some x)
          id_case id x h = elim (same_id8 id there.0.id) as (λ b. same_id8 id there.0.id ≡ b → cond b (Some m) (c.metas id) ≡ Some x → ((id ≡ there.0.id) × (x ≡ m)) ⊎ (c.metas id ≡ Some x)) [
            | true ↦ λ g k. inl (id-true id there.0.id g, cc (sym k))
            | false ↦ λ g k. inr k
          ] refl h

          new_metas : (id : Id8) (x : Text) → ((id ≡ there.0.id) × (x ≡ m)) ⊎ (c.metas id ≡ Some x) → StillHas t (apply (with_meta c p m None (Some there.0)) t) id
          new_metas id x (inl g) = let k = kept p there.0 there.1 in record { path = p; before = o.before; after = k.node; was = o.found; is = k.found; before_id = sym (own-id c t p there.0 o) ∙ sym g.0; after_id = k.id ∙ sym g.0 }
          new_metas id x (inr h) = still t (apply c t) (apply (with_meta c p m None (Some there.0)) t) id (λ q n f s. kept q n f) (nc.metas id x h)

          new_frozen : (id : Id8) (x : Text) (q : Path) (n : Node) → ((id ≡ there.0.id) × (x ≡ m)) ⊎ (c.metas id ≡ Some x) → node_at t q ≡ Some n → n.id ≡ id → SameFrozen n.text x
          new_frozen id x q n (inr h) f g = nc.frozen id x q n h f g
          new_frozen id x q n (inl h) f g =
              let at : q ≡ p = wt.distinct q p n o.before f o.found (g ∙ h.0 ∙ own-id c t p there.0 o) in
              let is : n ≡ o.before = cc (sym f ∙ ap (node_at t) at ∙ o.found) in
              let s : SameFrozen o.before.text m = frozen-trans o.before.text (patched c.metas o.before).text m (old (c.metas o.before.id) refl) (subst (λ (y : Node). SameFrozen y.text m) o.same same) in
              subst (λ (y : Node). SameFrozen y.text x) (sym is) (subst (λ y. SameFrozen o.before.text y) (sym h.1) s)
            where
              old : (y : Option Text) → c.metas o.before.id ≡ y → SameFrozen o.before.text (unwrap_or y o.before.text)
              old None e = frozen-refl o.before.text
              old (Some y) e = nc.frozen o.before.id y p o.before e o.found refl

      by_case : (o : Option Node) → get c.added p ≡ o → IsNormal (with_meta c p m o (node_at (apply c t) p)) t
      by_case (Some n) e =
          let is : n ≡ there.0 = cc (sym (added_node c t p n e) ∙ there.1) in
          let here : extended c t (SetMeta p m) ≡ record c { added = insert c.added p (with_text m n) } = λ i. with_meta c p m (e i) (node_at (apply c t) p) in
          put_normal p (with_text m n) (λ q x f g. nc.fresh p q n x e f (sym g)) (λ q x f g. nc.distinct q p x n f e g) (nc.not_dropped p n e) (λ x f. nc.free p n x e f)
          (λ q x f. subst (λ d. Keeps (apply d t) q x) here (keeps q x f)) (subst (λ d. IsWellFormed (apply d t)) here wf)
      by_case None e = subst (λ u. IsNormal (with_meta c p m None u) t) (sym there.1) (own_case e (own_of (node_cases c t p there.0 there.1)))
        where
          own_of : (get c.added p ≡ Some there.0) ⊎ Own c t p there.0 → Own c t p there.0
          own_of (inl x) = cc
          own_of (inr o) = o

  drop-normal : (p : Path) → refusal (apply c t) (Drop p) ≡ None → IsNormal (extended c t (Drop p)) t
  drop-normal p ok = record {
    distinct = λ q r m n f g e. nc.distinct q r m n (left q m f).1 (left r n g).1 e;
    fresh = λ q r m n f g e. nc.fresh q r m n (left q m f).1 g e;
    not_dropped = λ q n f. stays q n (left q n f).1;
    free = λ q m n f g. over q (nc.free q m n (left q m f).1 g);
    metas = λ id m h. let k = kept_in (has_id_within (apply c t).nodes p id) (c.metas id) m h in still t (apply c t) (apply (extended c t (Drop p)) t) id (keeps id k.0) (nc.metas id m k.1);
    frozen = λ id m q n h f g. nc.frozen id m q n (kept_in (has_id_within (apply c t).nodes p id) (c.metas id) m h).1 f g;
    chunks = λ id i e h. let k = kept_in (has_id_within (apply c t).nodes p id) (c.chunks id i) e h in entry t (apply c t) (apply (extended c t (Drop p)) t) id i e (keeps id k.0) (nc.chunks id i e k.1);
    well_formed = subst IsWellFormed law (drop_wf (apply c t) nc.well_formed p);
  }
    where
      law : edited (apply c t) (Drop p) ≡ apply (extended c t (Drop p)) t
      law = drop-law c t wt nc p ok

      left : (q : Path) (n : Node) → get (extended c t (Drop p)).added q ≡ Some n → (is_within p q ≡ false) × (get c.added q ≡ Some n)
      left q n f = elim (is_within p q) as (λ b. cond (not b) (get c.added q) None ≡ Some n → (b ≡ false) × (get c.added q ≡ Some n)) [ true ↦ λ h. cc | false ↦ λ h. (refl, h) ] (sym (get-where c.added (λ r. not (is_within p r)) q) ∙ f)

      kept_in : {A : Type 0} (b : Bool) (o : Option A) (x : A) → cond b None o ≡ Some x → (b ≡ false) × (o ≡ Some x)
      kept_in true o x h = cc
      kept_in false o x h = (refl, h)

      stays : (q : Path) (n : Node) → get c.added q ≡ Some n → (extended c t (Drop p)).dropped n.id ≡ false
      stays q n f = neither (c.dropped n.id) (has_id n.id (node_at (apply c t) p)) (has_id n.id (node_at t p)) (nc.not_dropped q n f) (not_own (node_at t p) refl)
        where
          neither : (a b d : Bool) → a ≡ false → d ≡ false → (a || (b && d)) ≡ false
          neither true b d e f = cc
          neither false true d e f = f
          neither false false d e f = refl

          not_own : (o : Option Node) → node_at t p ≡ o → has_id n.id o ≡ false
          not_own None g = refl
          not_own (Some y) g = id-false y.id n.id (λ is. nc.fresh q p n y f g (sym is))

      over : (q : Path) → is_gone c.dropped t.nodes q ≡ true → is_gone (extended c t (Drop p)).dropped t.nodes q ≡ true
      over q h = let g : Gone c.dropped t q = gone-elim c.dropped t q h in gone-intro (extended c t (Drop p)).dropped t q (record { path = g.path; node = g.node; found = g.found; dropped_id = or-left (c.dropped g.node.id) _ g.dropped_id; within = g.within })
        where
          or-left : (a b : Bool) → a ≡ true → (a || b) ≡ true
          or-left true b h = refl
          or-left false b h = cc

      keeps : (id : Id8) → has_id_within (apply c t).nodes p id ≡ false → (q : Path) (n : Node) → node_at (apply c t) q ≡ Some n → n.id ≡ id → Keeps (apply (extended c t (Drop p)) t) q n
      keeps id h q n f e = by_test (is_within p q) refl
        where
          by_test : (b : Bool) → is_within p q ≡ b → Keeps (apply (extended c t (Drop p)) t) q n
          by_test true w = let k : has_id_within (apply c t).nodes p id ≡ true = id_within-intro (apply c t) p id (record { path = q; node = n; found = f; same = e; within = w }) in cc
          by_test false w = record {
            node = n;
            found = ap (λ x. node_at x q) (sym law) ∙ get-where (apply c t).nodes (λ r. not (is_within p r)) q ∙ ap (λ b. cond (not b) (node_at (apply c t) q) None) w ∙ f;
            id = refl;
            frozen = frozen-refl n.text;
          }

  -- an entry at an array of the tree under the changes
  entry_normal : (p : Path) (i : Index) (e : Option (Option (List ℕ))) (n : Node) → node_at (apply c t) p ≡ Some n → ((x : Option (List ℕ)) → e ≡ Some x → Fits n.text i x) → (e ≡ Some None → StillHas t (apply c t) n.id)
      → IsWellFormed (apply (with_entry c i e (Some n)) t) → IsNormal (with_entry c i e (Some n)) t
  entry_normal p i e n f z u wf = record {
    distinct = nc.distinct;
    fresh = nc.fresh;
    not_dropped = nc.not_dropped;
    free = nc.free;
    metas = λ id m h. still t (apply c t) (apply (with_entry c i e (Some n)) t) id keeps (nc.metas id m h);
    frozen = nc.frozen;
    chunks = λ id j x h. by_case id j x (cases id j x h);
    well_formed = wf;
  }
    where
      keeps : {id : Id8} (q : Path) (m : Node) → node_at (apply c t) q ≡ Some m → m.id ≡ id → Keeps (apply (with_entry c i e (Some n)) t) q m
      keeps q m g s = record { node = m; found = node-apply (with_entry c i e (Some n)) t q ∙ sym (node-apply c t q) ∙ g; id = refl; frozen = frozen-refl m.text }

      cases : (id : Id8) (j : Index) (x : Option (List ℕ)) → cond (same_id8 id n.id && same_numbers j i) e (c.chunks id j) ≡ Some x → ((id ≡ n.id) × (j ≡ i) × (e ≡ Some x)) ⊎ (c.chunks id j ≡ Some x)
      cases id j x h = elim (same_id8 id n.id && same_numbers j i) as (λ b. (same_id8 id n.id && same_numbers j i) ≡ b → cond b e (c.chunks id j) ≡ Some x → ((id ≡ n.id) × (j ≡ i) × (e ≡ Some x)) ⊎ (c.chunks id j ≡ Some x)) [
        | true ↦ λ s k. inl (id-true id n.id (first _ _ s), same_path-true j i (second _ _ s), k)
        | false ↦ λ s k. inr k
      ] refl h

      by_case : (id : Id8) (j : Index) (x : Option (List ℕ)) → ((id ≡ n.id) × (j ≡ i) × (e ≡ Some x)) ⊎ (c.chunks id j ≡ Some x) → EntryFits t (apply (with_entry c i e (Some n)) t) id j x
      by_case id j x (inr h) = entry t (apply c t) (apply (with_entry c i e (Some n)) t) id j x keeps (nc.chunks id j x h)
      by_case id j x (inl h) = entry t (apply c t) (apply (with_entry c i e (Some n)) t) id j x keeps (record {
        path = p;
        node = n;
        found = f;
        same = sym h.0;
        fits = subst (λ l. Fits n.text l x) (sym h.1) (z x h.2);
        unset = λ is. subst (StillHas t (apply c t)) (sym h.0) (u (h.2 ∙ ap (λ (y : Option (List ℕ)). Some y) is));
      })

  set-normal : (p : Path) (i : Index) (b : List ℕ) → refusal (apply c t) (Set p i b) ≡ None → IsNormal (extended c t (Set p i b)) t
  set-normal p i b ok =
      let sn = some_node (node_at (apply c t) p) _ ok in
      let sa = some_array (array_in sn.0.text) _ sn.2 in
      let one = passed _ _ _ sa.2 in
      let two = passed _ _ _ one.1 in
      let g : InGrid sa.0 i = in_grid_is sn.0.text sa.0 i sa.1 (not_not _ one.0) in
      let z = eqb-true _ _ (not_not _ two.0) in
      let fits : Fits sn.0.text i (Some b) = record { array = sa.0; found = sa.1; rank = g.rank; low = g.low; whole = λ x is. ap length (same_some x b is) ∙ z } in
      let here : extended c t (Set p i b) ≡ with_entry c i (Some (Some b)) (Some sn.0) = ap (with_entry c i (Some (Some b))) sn.1 in
      let wf : IsWellFormed (edited (apply c t) (Set p i b)) = chunk_wf (apply c t) nc.well_formed p i (Some b) (λ x is. record { node = sn.0; found = sn.1; fits = subst (Fits sn.0.text i) is fits }) in
      subst (λ d. IsNormal d t) (sym here) (entry_normal p i (Some (Some b)) sn.0 sn.1 (λ x is. subst (Fits sn.0.text i) (inner x is) fits) (λ is. cc)
      (subst (λ d. IsWellFormed (apply d t)) here (subst IsWellFormed (set-law c t wt nc p i b ok) wf)))
    where
      same_some : (x y : List ℕ) → Some y ≡ Some x → x ≡ y
      same_some x y e = cc

      inner : (x : Option (List ℕ)) → Some (Some b) ≡ Some x → Some b ≡ x
      inner x e = cc

  unset-normal : (p : Path) (i : Index) → refusal (apply c t) (Unset p i) ≡ None → IsNormal (extended c t (Unset p i)) t
  unset-normal p i ok =
      let sn = some_node (node_at (apply c t) p) _ ok in
      let sa = some_array (array_in sn.0.text) _ sn.2 in
      let one = passed _ _ _ sa.2 in
      let g : InGrid sa.0 i = in_grid_is sn.0.text sa.0 i sa.1 (not_not _ one.0) in
      let fits : Fits sn.0.text i None = record { array = sa.0; found = sa.1; rank = g.rank; low = g.low; whole = λ x is. cc } in
      let e : Option (Option (List ℕ)) = cond (is_some (get c.added p)) None (Some None) in
      let here : extended c t (Unset p i) ≡ with_entry c i e (Some sn.0) = ap (with_entry c i e) sn.1 in
      let wf : IsWellFormed (edited (apply c t) (Unset p i)) = chunk_wf (apply c t) nc.well_formed p i None (λ x is. cc) in
      subst (λ d. IsNormal d t) (sym here) (entry_normal p i e sn.0 sn.1 (λ x is. subst (Fits sn.0.text i) (inner (is_some (get c.added p)) x is) fits) (λ is. had sn.0 sn.1 (get c.added p) refl is (node_cases c t p sn.0 sn.1))
      (subst (λ d. IsWellFormed (apply d t)) here (subst IsWellFormed (unset-law c t wt nc p i ok) wf)))
    where
      inner : (b : Bool) (x : Option (List ℕ)) → cond b None (Some None) ≡ Some x → None ≡ x
      inner true x is = cc
      inner false x is = cc

      had : (n : Node) → node_at (apply c t) p ≡ Some n → (o : Option Node) → get c.added p ≡ o → cond {A = Option (Option (List ℕ))} (is_some o) None (Some None) ≡ Some None → (get c.added p ≡ Some n) ⊎ Own c t p n → StillHas t (apply c t) n.id
      had n f (Some x) g is w = cc
      had n f None g is (inl y) = let bad : None ≡ Some n = sym g ∙ y in cc
      had n f None g is (inr r) = record { path = p; before = r.before; after = n; was = r.found; is = f; before_id = sym (own-id c t p n r); after_id = refl }

  normal : (e : Edit) → CanExtend c t e → NamesPath e → HasMetadata e → refusal (apply c t) e ≡ None → IsNormal (extended c t e) t
  normal (Add p id m) can v r h = add-normal p id m can v r h
  normal (SetMeta p m) can v r h = meta-normal p m h
  normal (Drop p) can v r h = drop-normal p h
  normal (Set p i b) can v r h = set-normal p i b h
  normal (Unset p i) can v r h = unset-normal p i h

pub normal-law : NormalLaw
normal-law c t e wt nc can v r h = normal c t wt nc e can v r h

no_gone : (t : Tree) (p : Path) → is_gone none.dropped t.nodes p ≡ false
no_gone t p = gone-false none.dropped t p (λ g. let h : false ≡ true = g.dropped_id in cc)

none_added : (p : Path) → get none.added p ≡ None
none_added p = get-empty path_cmp p

none_nodes : (t : Tree) (p : Path) → node_at (apply none t) p ≡ node_at t p
none_nodes t p = by_case (node_at t p) refl
  where
    by_case : (o : Option Node) → node_at t p ≡ o → node_at (apply none t) p ≡ o
    by_case None f = no_node none t p (none_added p) (inr f)
    by_case (Some n) f = own_node none t p n (none_added p) (no_gone t p) f

none_chunks : (t : Tree) → IsWellFormed t → (p : Path) (i : Index) → (apply none t).chunk p i ≡ t.chunk p i
none_chunks t wt p i = ap (chunk_of none.chunks t p i) (none_nodes t p) ∙ by_chunk (t.chunk p i) refl
  where
    own_none : (o : Option Node) (id : Id8) → own_chunk o id None ≡ None
    own_none None id = refl
    own_none (Some m) id = elim (same_id8 m.id id) as (λ b. cond {A = Option (List ℕ)} b None None ≡ None) [ true ↦ refl | false ↦ refl ]

    all_none : (b : Bool) (o : Option (List ℕ)) → o ≡ None → cond b o None ≡ None
    all_none true o e = e
    all_none false o e = refl

    blank : (x : Option Node) → t.chunk p i ≡ None → chunk_of none.chunks t p i x ≡ None
    blank None h = refl
    blank (Some n) h = ap (λ b. cond (is_array n.text) (own_chunk (node_at t p) n.id b) None) h ∙ all_none (is_array n.text) _ (own_none (node_at t p) n.id)

    by_chunk : (o : Option (List ℕ)) → t.chunk p i ≡ o → chunk_of none.chunks t p i (node_at t p) ≡ t.chunk p i
    by_chunk (Some b) h =
        let a : HasArray t p i b = wt.chunks p i b h in
        (λ j. chunk_of none.chunks t p i (a.found j)) ∙ (λ j. cond (fits-array a.node.text i (Some b) a.fits j) (own_chunk (a.found j) a.node.id (t.chunk p i)) None) ∙ ap (λ k. cond k (t.chunk p i) None) (id-refl a.node.id)
    by_chunk None h = blank (node_at t p) h ∙ sym h

pub none-law : NoneLaw
none-law t wt =
    let same : apply none t ≡ t = same_tree _ _ (none_nodes t) (none_chunks t wt) in (
      same,
      record {
        distinct = λ p q m n f g e. never p q m f;
        fresh = λ p q m n f g e. never_here p m f;
        not_dropped = λ p n f. refl;
        free = λ p m n f g. absurd (never_here p m f);
        metas = λ id m h. cc;
        frozen = λ id m p n h f g. cc;
        chunks = λ id i e h. cc;
        well_formed = subst IsWellFormed (sym same) wt;
      },
    )
  where
    never_here : (p : Path) (m : Node) → get none.added p ≡ Some m → ⊥
    never_here p m f = let bad : None ≡ Some m = sym (none_added p) ∙ f in cc

    never : (p q : Path) (m : Node) → get none.added p ≡ Some m → p ≡ q
    never p q m f = absurd (never_here p m f)

pub empty-law : EmptyLaw
empty-law = record {
  named = λ p n f. absurd (never p n f);
  readable = λ p n f. absurd (never p n f);
  distinct = λ p q m n f g e. absurd (never p m f);
  parents = λ p n f ne. absurd (never p n f);
  chunks = λ p i b h. cc;
}
  where
    never : (p : Path) (n : Node) → node_at no_tree p ≡ Some n → ⊥
    never p n f = let bad : None ≡ Some n = sym (get-empty path_cmp p) ∙ f in cc
