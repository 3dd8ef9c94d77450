-- The test of a conflict says exactly what conflicts.
use Rattle.std.proofs.Common.{◌≡◌, ◌∙◌, ℕ, Bool, true, false, cond, not, ◌&&◌, ◌||◌, List, [], ◌∷◌, length, Option, Some, None, is_some, option_map, Result, Ok, Err, IfOk, refl, sym, ap, ◌⊎◌, inl, inr, arith}
use Rattle.std.specs.Prelude.{find, ◌↔◌, ◌==◌}
use Rattle.std.proofs.lemmas.Bool.{false_from_ne_true}
use Rattle.std.specs.Borrow.{Bor}
use Rattle.std.specs.Option.{option_copied}
use Rattle.std.specs.List.{list_any}
use Rattle.std.specs.FinMap.{get}
use Rattle.ice_ids.specs.declared.Id8.{Id8}
use Rattle.ice_ids.specs.Text.{same_id8}
use Rattle.zarr_path.specs.Paths.{same_path, root, parent_of, is_within, is_beneath}
use Rattle.zarr_path.proofs.OrderLaws.{same_path-refl, same_path-false}
use Rattle.zarr_path.proofs.PathLaws.{by_numbers}
use Rattle.zarr_tree.specs.declared.cases.Case.{Case}
use Rattle.zarr_tree.specs.declared.cases.Case.TheVariants as case
use Rattle.zarr_tree.specs.declared.lists.ArrayChunks.{ArrayChunks}
use Rattle.zarr_tree.specs.declared.lists.Touched.{Touched}
use Rattle.zarr_tree.specs.Nodes.{Node, is_group, is_array, same_numbers}
use Rattle.zarr_tree.specs.Changes.{Changes, has_id}
use Rattle.zarr_tree.specs.Touched.{lists, lists_index, lists_new}
use Rattle.zarr_tree.specs.Held.{HeldEntry, meta_in, entry_in, changes_of, nodes_over}
use Rattle.zarr_tree.specs.Conflicts.{IsConflict, AtNode, HasEntry, HasChunkListed, HasNewBeneath, TakesAway}
use Rattle.zarr_tree.proofs.Apply.{both, first, second}
use Rattle.tree_model.specs.Models.{tree_with}
use Rattle.tree_model.specs.inside.Listing.{has_chunks}
use Rattle.tree_model.specs.inside.Conflicting.{Map, Lists, is_taken, is_orphan, takes_away, has_listed, has_new_beneath, is_twice, at_node, at_path, is_conflict}
use Rattle.tree_model.proofs.Finding.{any-entry, entry-any}
use Rattle.zarr_tree.proofs.FoundRows.{or-true}

turned : (b : Bool) → not b ≡ true → b ≡ false
turned true h = cc
turned false h = refl

turned-back : (b : Bool) → b ≡ false → not b ≡ true
turned-back true h = cc
turned-back false h = refl

either : (a b : Bool) → (a || b) ≡ true → (a ≡ true) ⊎ (b ≡ true)
either true b h = inl refl
either false b h = inr h

or-left : (a b : Bool) → a ≡ true → (a || b) ≡ true
or-left true b h = refl
or-left false b h = cc

or-right : (a b : Bool) → b ≡ true → (a || b) ≡ true
or-right true b h = refl
or-right false b h = h

none-of : {A : Type 0} (o : Option A) → is_some o ≡ false → o ≡ None
none-of None h = refl
none-of (Some x) h = cc

of-none : {A : Type 0} (o : Option A) → o ≡ None → is_some o ≡ false
of-none None h = refl
of-none (Some x) h = cc

some-map : {A B : Type 0} (f : A → B) (o : Option A) → is_some (option_map f o) ≡ is_some o
some-map f None = refl
some-map f (Some x) = refl

-- ---- a member of a list that passes
module _ {A : Type 0} (f : A → Bool) where
  abbrev pub Member : List A → A → Type 0
  Member [] x = ⊥
  Member (y ∷ ys) x = (y ≡ x) ⊎ Member ys x

  any-in : (xs : List A) → list_any f xs ≡ true → (x : A) × Member xs x × (f x ≡ true)
  any-in [] h = cc
  any-in (x ∷ xs) h = elim (f x) as (λ b. f x ≡ b → (b || list_any f xs) ≡ true → (y : A) × Member (x ∷ xs) y × (f y ≡ true)) [
    | true ↦ λ e _. (x, inl refl, e)
    | false ↦ λ _ g. let r = any-in xs g in (r.0, inr r.1, r.2)
  ] refl h

  in-any : (xs : List A) (x : A) → Member xs x → f x ≡ true → list_any f xs ≡ true
  in-any [] x h e = absurd h
  in-any (y ∷ ys) x (inl k) e = ap (λ b. b || list_any f ys) (ap f k) ∙ ap (λ b. b || list_any f ys) e
  in-any (y ∷ ys) x (inr h) e = ap (λ b. f y || b) (in-any ys x h e) ∙ or-true (f y)

-- a member of a list, by another test
other-test : {A : Type 0} (f g : A → Bool) (xs : List A) (x : A) → Member f xs x → Member g xs x
other-test f g [] x h = absurd h
other-test f g (y ∷ ys) x (inl k) = inl k
other-test f g (y ∷ ys) x (inr h) = inr (other-test f g ys x h)

-- ---- entries
abbrev Chunks : Type 0
Chunks = List (HeldEntry (List ℕ))

entry-found : (rows : Chunks) (id : Id8) (i : List ℕ) → is_some (entry_in rows id i) ≡ true → has_chunks rows id ≡ true
entry-found [] id i h = cc
entry-found (r ∷ rs) id i h = by_id (entry-found rs id i) (same_id8 r.0 id) (same_numbers r.1 i) h
  where
    by_id : (is_some (entry_in rs id i) ≡ true → has_chunks rs id ≡ true) → (a b : Bool)
        → is_some (option_map (λ (row : HeldEntry (List ℕ)). row.2) (cond (a && b) (Some r) (find (λ (row : HeldEntry (List ℕ)). same_id8 row.0 id && same_numbers row.1 i) rs))) ≡ true → (a || has_chunks rs id) ≡ true
    by_id f true b h = refl
    by_id f false b h = f h

abbrev FoundEntry : Chunks → Id8 → Type 0
FoundEntry rows id = (i : List ℕ) × (is_some (entry_in rows id i) ≡ true)

found-entry : (rows : Chunks) (id : Id8) → has_chunks rows id ≡ true → FoundEntry rows id
found-entry [] id h = cc
found-entry (e ∷ es) id h = by_id (found-entry es id) (same_id8 e.0 id) refl h
  where
    rest : List ℕ → Option (HeldEntry (List ℕ))
    rest i = find (λ (row : HeldEntry (List ℕ)). same_id8 row.0 id && same_numbers row.1 i) es

    at_last : (i : List ℕ) → is_some (entry_in es id i) ≡ true → (b : Bool) → is_some (option_map (λ (row : HeldEntry (List ℕ)). row.2) (cond b (Some e) (rest i))) ≡ true
    at_last i x true = refl
    at_last i x false = x

    by_id : (has_chunks es id ≡ true → FoundEntry es id) → (a : Bool) → same_id8 e.0 id ≡ a → (a || has_chunks es id) ≡ true → FoundEntry (e ∷ es) id
    by_id f true is h = (e.1, ap (λ b. is_some (option_map (λ (row : HeldEntry (List ℕ)). row.2) (cond b (Some e) (rest e.1)))) (both _ _ is (same_path-refl e.1)))
    by_id f false is h = let x = f h in (x.0, at_last x.0 x.1 (same_id8 e.0 id && same_numbers e.1 x.0))

-- ---- listed chunks
first_index : (xs : List (List ℕ)) → not (length xs == 0) ≡ true → (i : List ℕ) × (lists_index xs i ≡ true)
first_index [] h = cc
first_index (x ∷ xs) h = (x, ap (λ b. b || list_any (λ (other : List ℕ). same_numbers other x) xs) (same_path-refl x))

some_index : (xs : List (List ℕ)) (i : List ℕ) → lists_index xs i ≡ true → not (length xs == 0) ≡ true
some_index [] i h = cc
some_index (x ∷ xs) i h = turned-back _ (false_from_ne_true (length (x ∷ xs) == 0) (λ e. let zero_is : length (x ∷ xs) ≡ 0 = (by_numbers (length (x ∷ xs)) 0).0 e in omega arith))

module _ (s : Touched) (id : Id8) where
  abbrev has_any : ArrayChunks → Bool
  has_any array = same_id8 array.node id && not (length array.chunks == 0)

  abbrev has_this : List ℕ → ArrayChunks → Bool
  has_this i array = same_id8 array.node id && lists_index array.chunks i

  has-listed : has_listed s id ≡ true → HasChunkListed s id
  has-listed h =
      let a = any-in has_any s.updated_chunks h in
      let x = first_index a.0.chunks (second (same_id8 a.0.node id) _ a.2) in
      record { index = x.0; listed = in-any (has_this x.0) s.updated_chunks a.0 (other-test has_any (has_this x.0) s.updated_chunks a.0 a.1) (both _ _ (first (same_id8 a.0.node id) _ a.2) x.1) }

  listed-has : HasChunkListed s id → has_listed s id ≡ true
  listed-has h =
      let a = any-in (has_this h.index) s.updated_chunks h.listed in
      in-any has_any s.updated_chunks a.0 (other-test (has_this h.index) has_any s.updated_chunks a.0 a.1)
      (both _ _ (first (same_id8 a.0.node id) _ a.2) (some_index a.0.chunks h.index (second (same_id8 a.0.node id) _ a.2)))

-- ---- new nodes beneath a path
module _ (s : Touched) (u : Map) (p : List ℕ) where
  abbrev is_new_beneath : List ℕ → Node → Bool
  is_new_beneath q n = is_beneath p q && lists_new s n.id

  has-beneath : has_new_beneath s u p ≡ true → HasNewBeneath s (tree_with u) p
  has-beneath h =
      let r = any-entry u is_new_beneath h in
      let below = first (is_beneath p r.0) _ r.3 in
      record {
        path = r.0;
        node = r.1;
        beneath = first (is_within p r.0) _ below;
        apart = λ e. let bad : same_path r.0 p ≡ true = ap (same_path r.0) e ∙ same_path-refl r.0 in let good : same_path r.0 p ≡ false = turned _ (second (is_within p r.0) _ below) in cc;
        found = r.2;
        listed = second (is_beneath p r.0) _ r.3;
      }

  beneath-has : HasNewBeneath s (tree_with u) p → has_new_beneath s u p ≡ true
  beneath-has h =
      entry-any u is_new_beneath h.path h.node h.found (both _ _ (both _ _ h.beneath (turned-back _ (same_path-false h.path p (λ e. h.apart (sym e))))) h.listed)

module _ (h : Lists) (s : Touched) (t u : Map) where
  abbrev c : Changes
  c = changes_of (λ (b : List ℕ). Some b) h

  entry-is : (id : Id8) (i : List ℕ) → is_some (c.chunks id i) ≡ is_some (entry_in h.chunks id i)
  entry-is id i = some-map _ (entry_in h.chunks id i)

  entry-has : (id : Id8) → HasEntry c id → has_chunks h.chunks id ≡ true
  entry-has id e = entry-found h.chunks id e.index (sym (entry-is id e.index) ∙ e.entry)

  has-entry : (id : Id8) → has_chunks h.chunks id ≡ true → HasEntry c id
  has-entry id e = let x = found-entry h.chunks id e in record { index = x.0; entry = entry-is id x.0 ∙ x.1 }

  -- ---- a node that we take away
  taken : (p : List ℕ) (n : Node) → takes_away h t u p n.id ≡ true → TakesAway c (tree_with t) (tree_with u) p n
  taken p n k = (turned _ (first (not (has_id n.id (get (nodes_over h t) p))) _ k), second (not (has_id n.id (get (nodes_over h t) p))) _ k)

  taken-back : (p : List ℕ) (n : Node) → TakesAway c (tree_with t) (tree_with u) p n → takes_away h t u p n.id ≡ true
  taken-back p n k = both _ _ (turned-back _ k.0) k.1

  -- ---- at a node
  abbrev Says : Case → List ℕ → Option (List ℕ) → Node → Type 0
  Says k p i n = AtNode k c s (tree_with t) (tree_with u) p i n

  node-sound : (k : Case) (p : List ℕ) (n : Node) → at_node k h s t u p n ≡ true → Says k p None n
  node-sound case.NewNodeConflictsWithExistingNode p n k = cc
  node-sound case.NewNodeInInvalidGroup p n k = cc
  node-sound case.ZarrMetadataDoubleUpdate p n k = (first (is_some (meta_in h.metas n.id)) _ k, second (is_some (meta_in h.metas n.id)) _ k)
  node-sound case.ZarrMetadataUpdateOfDeletedArray p n k = (first (is_some (meta_in h.metas n.id)) _ k, second (is_some (meta_in h.metas n.id)) _ k)
  node-sound case.ZarrMetadataUpdateOfDeletedGroup p n k = (first (is_some (meta_in h.metas n.id)) _ k, second (is_some (meta_in h.metas n.id)) _ k)
  node-sound case.ChunkDoubleUpdate p n k = cc
  node-sound case.ChunksUpdatedInDeletedArray p n k =
      let l = first (is_array n.text && has_chunks h.chunks n.id) _ k in (first (is_array n.text) _ l, has-entry n.id (second (is_array n.text) _ l), second (is_array n.text && has_chunks h.chunks n.id) _ k)
  node-sound case.ChunksUpdatedInUpdatedArray p n k =
      let l = first (is_array n.text && has_chunks h.chunks n.id) _ k in (first (is_array n.text) _ l, has-entry n.id (second (is_array n.text) _ l), second (is_array n.text && has_chunks h.chunks n.id) _ k)
  node-sound case.DeleteOfUpdatedArray p n k =
      let l = second (is_array n.text) _ k in (
        first (is_array n.text) _ k,
        taken p n (second (lists s.updated_arrays n.id || has_listed s n.id) _ l),
        elim (either (lists s.updated_arrays n.id) _ (first (lists s.updated_arrays n.id || has_listed s n.id) _ l)) [ inl a ↦ inl a | inr b ↦ inr (has-listed s n.id b) ],
      )
  node-sound case.DeleteOfUpdatedGroup p n k =
      let l = second (is_group n.text) _ k in (
        first (is_group n.text) _ k,
        taken p n (second (lists s.updated_groups n.id || has_new_beneath s u p) _ l),
        elim (either (lists s.updated_groups n.id) _ (first (lists s.updated_groups n.id || has_new_beneath s u p) _ l)) [ inl a ↦ inl a | inr b ↦ inr (has-beneath s u p b) ],
      )

  updated_array : (n : Node) → (lists s.updated_arrays n.id ≡ true) ⊎ HasChunkListed s n.id → (lists s.updated_arrays n.id || has_listed s n.id) ≡ true
  updated_array n (inl a) = or-left _ _ a
  updated_array n (inr b) = or-right _ _ (listed-has s n.id b)

  updated_group : (p : List ℕ) (n : Node) → (lists s.updated_groups n.id ≡ true) ⊎ HasNewBeneath s (tree_with u) p → (lists s.updated_groups n.id || has_new_beneath s u p) ≡ true
  updated_group p n (inl a) = or-left _ _ a
  updated_group p n (inr b) = or-right _ _ (beneath-has s u p b)

  node-complete : (k : Case) (p : List ℕ) (n : Node) → Says k p None n → at_node k h s t u p n ≡ true
  node-complete case.NewNodeConflictsWithExistingNode p n x = absurd x
  node-complete case.NewNodeInInvalidGroup p n x = absurd x
  node-complete case.ZarrMetadataDoubleUpdate p n x = both _ _ x.0 x.1
  node-complete case.ZarrMetadataUpdateOfDeletedArray p n x = both _ _ x.0 x.1
  node-complete case.ZarrMetadataUpdateOfDeletedGroup p n x = both _ _ x.0 x.1
  node-complete case.ChunkDoubleUpdate p n x = absurd x
  node-complete case.ChunksUpdatedInDeletedArray p n x = both _ _ (both _ _ x.0 (entry-has n.id x.1)) x.2
  node-complete case.ChunksUpdatedInUpdatedArray p n x = both _ _ (both _ _ x.0 (entry-has n.id x.1)) x.2
  node-complete case.DeleteOfUpdatedArray p n x = both _ _ x.0 (both _ _ (updated_array n x.2) (taken-back p n x.1))
  node-complete case.DeleteOfUpdatedGroup p n x = both _ _ x.0 (both _ _ (updated_group p n x.2) (taken-back p n x.1))

  -- ---- at an index
  twice-sound : (p i : List ℕ) (n : Node) → is_twice h s i n ≡ true → Says case.ChunkDoubleUpdate p (Some i) n
  twice-sound p i n k =
      let l = second (is_array n.text) _ k in (first (is_array n.text) _ k, entry-is n.id i ∙ first (is_some (entry_in h.chunks n.id i)) _ l, second (is_some (entry_in h.chunks n.id i)) _ l)

  twice-complete : (p i : List ℕ) (n : Node) → Says case.ChunkDoubleUpdate p (Some i) n → is_twice h s i n ≡ true
  twice-complete p i n x = both _ _ x.0 (both _ _ (sym (entry-is n.id i) ∙ x.1) x.2)

  -- ---- at a path where a node stood
  abbrev There : Case → List ℕ → Option (List ℕ) → Option Node → Type 0
  There k p i there = (n : Node) × (there ≡ Some n) × Says k p i n

  is_node : (n m : Node) → ◌≡◌ {A = Option Node} (Some n) (Some m) → n ≡ m
  is_node n m e = cc

  path-sound : (k : Case) (p : List ℕ) (i : Option (List ℕ)) (there : Option Node) → at_path k h s t u p i there ≡ true → There k p i there
  path-sound k p i None x = cc
  path-sound k p None (Some n) x = (n, refl, node-sound k p n x)
  path-sound case.NewNodeConflictsWithExistingNode p (Some i) (Some n) x = cc
  path-sound case.NewNodeInInvalidGroup p (Some i) (Some n) x = cc
  path-sound case.ZarrMetadataDoubleUpdate p (Some i) (Some n) x = cc
  path-sound case.ZarrMetadataUpdateOfDeletedArray p (Some i) (Some n) x = cc
  path-sound case.ZarrMetadataUpdateOfDeletedGroup p (Some i) (Some n) x = cc
  path-sound case.ChunkDoubleUpdate p (Some i) (Some n) x = (n, refl, twice-sound p i n x)
  path-sound case.ChunksUpdatedInDeletedArray p (Some i) (Some n) x = cc
  path-sound case.ChunksUpdatedInUpdatedArray p (Some i) (Some n) x = cc
  path-sound case.DeleteOfUpdatedArray p (Some i) (Some n) x = cc
  path-sound case.DeleteOfUpdatedGroup p (Some i) (Some n) x = cc

  path-complete : (k : Case) (p : List ℕ) (i : Option (List ℕ)) (n : Node) → Says k p i n → at_path k h s t u p i (Some n) ≡ true
  path-complete k p None n x = node-complete k p n x
  path-complete case.NewNodeConflictsWithExistingNode p (Some i) n x = absurd x
  path-complete case.NewNodeInInvalidGroup p (Some i) n x = absurd x
  path-complete case.ZarrMetadataDoubleUpdate p (Some i) n x = absurd x
  path-complete case.ZarrMetadataUpdateOfDeletedArray p (Some i) n x = absurd x
  path-complete case.ZarrMetadataUpdateOfDeletedGroup p (Some i) n x = absurd x
  path-complete case.ChunkDoubleUpdate p (Some i) n x = twice-complete p i n x
  path-complete case.ChunksUpdatedInDeletedArray p (Some i) n x = absurd x
  path-complete case.ChunksUpdatedInUpdatedArray p (Some i) n x = absurd x
  path-complete case.DeleteOfUpdatedArray p (Some i) n x = absurd x
  path-complete case.DeleteOfUpdatedGroup p (Some i) n x = absurd x

  there-complete : (k : Case) (p : List ℕ) (i : Option (List ℕ)) (there : Option Node) → There k p i there → at_path k h s t u p i there ≡ true
  there-complete k p i there x = ap (at_path k h s t u p i) x.1 ∙ path-complete k p i x.0 x.2

  abbrev Conflict : Case → List ℕ → Option (List ℕ) → Type 0
  Conflict k p i = IsConflict c s (tree_with t) (tree_with u) k p i

  -- ---- an added path
  taken-sound : (p : List ℕ) → is_taken h u p ≡ true → Conflict case.NewNodeConflictsWithExistingNode p None
  taken-sound p x =
      let l = second (is_some (get h.added p)) _ x in
      (first (is_some (get h.added p)) _ x, first (is_some (get u p)) _ l, turned _ (second (is_some (get u p)) _ l))

  taken-complete : (p : List ℕ) → Conflict case.NewNodeConflictsWithExistingNode p None → is_taken h u p ≡ true
  taken-complete p x = both _ _ x.0 (both _ _ x.1 (turned-back _ x.2))

  orphan-sound : (p : List ℕ) → is_orphan h t u p ≡ true → Conflict case.NewNodeInInvalidGroup p None
  orphan-sound p x =
      let l = second (is_some (get h.added p)) _ x in
      let k = second (not (same_path p root)) _ l in (
        first (is_some (get h.added p)) _ x,
        (λ e. let bad : same_path p root ≡ true = ap (same_path p) (sym e) ∙ same_path-refl p in let good : same_path p root ≡ false = turned _ (first (not (same_path p root)) _ l) in cc),
        none-of (get h.added (parent_of p)) (turned _ (first (not (is_some (get h.added (parent_of p)))) _ k)),
        turned _ (second (not (is_some (get h.added (parent_of p)))) _ k),
      )

  orphan-complete : (p : List ℕ) → Conflict case.NewNodeInInvalidGroup p None → is_orphan h t u p ≡ true
  orphan-complete p x =
      both _ _ x.0 (both _ _ (turned-back _ (same_path-false p root x.1)) (both _ _ (turned-back _ (of-none (get h.added (parent_of p)) x.2)) (turned-back _ x.3)))

  -- ---- all cases
  pub sound : (k : Case) (p : List ℕ) (i : Option (List ℕ)) → is_conflict k h s t u p i ≡ true → Conflict k p i
  sound case.NewNodeConflictsWithExistingNode p None x = taken-sound p x
  sound case.NewNodeConflictsWithExistingNode p (Some i) x = cc
  sound case.NewNodeInInvalidGroup p None x = orphan-sound p x
  sound case.NewNodeInInvalidGroup p (Some i) x = cc
  sound case.ZarrMetadataDoubleUpdate p i x = path-sound case.ZarrMetadataDoubleUpdate p i (get t p) x
  sound case.ZarrMetadataUpdateOfDeletedArray p i x = path-sound case.ZarrMetadataUpdateOfDeletedArray p i (get t p) x
  sound case.ZarrMetadataUpdateOfDeletedGroup p i x = path-sound case.ZarrMetadataUpdateOfDeletedGroup p i (get t p) x
  sound case.ChunkDoubleUpdate p i x = path-sound case.ChunkDoubleUpdate p i (get t p) x
  sound case.ChunksUpdatedInDeletedArray p i x = path-sound case.ChunksUpdatedInDeletedArray p i (get t p) x
  sound case.ChunksUpdatedInUpdatedArray p i x = path-sound case.ChunksUpdatedInUpdatedArray p i (get t p) x
  sound case.DeleteOfUpdatedArray p i x = path-sound case.DeleteOfUpdatedArray p i (get t p) x
  sound case.DeleteOfUpdatedGroup p i x = path-sound case.DeleteOfUpdatedGroup p i (get t p) x

  pub complete : (k : Case) (p : List ℕ) (i : Option (List ℕ)) → Conflict k p i → is_conflict k h s t u p i ≡ true
  complete case.NewNodeConflictsWithExistingNode p None x = taken-complete p x
  complete case.NewNodeConflictsWithExistingNode p (Some i) x = absurd x
  complete case.NewNodeInInvalidGroup p None x = orphan-complete p x
  complete case.NewNodeInInvalidGroup p (Some i) x = absurd x
  complete case.ZarrMetadataDoubleUpdate p i x = there-complete case.ZarrMetadataDoubleUpdate p i (get t p) x
  complete case.ZarrMetadataUpdateOfDeletedArray p i x = there-complete case.ZarrMetadataUpdateOfDeletedArray p i (get t p) x
  complete case.ZarrMetadataUpdateOfDeletedGroup p i x = there-complete case.ZarrMetadataUpdateOfDeletedGroup p i (get t p) x
  complete case.ChunkDoubleUpdate p i x = there-complete case.ChunkDoubleUpdate p i (get t p) x
  complete case.ChunksUpdatedInDeletedArray p i x = there-complete case.ChunksUpdatedInDeletedArray p i (get t p) x
  complete case.ChunksUpdatedInUpdatedArray p i x = there-complete case.ChunksUpdatedInUpdatedArray p i (get t p) x
  complete case.DeleteOfUpdatedArray p i x = there-complete case.DeleteOfUpdatedArray p i (get t p) x
  complete case.DeleteOfUpdatedGroup p i x = there-complete case.DeleteOfUpdatedGroup p i (get t p) x

  -- a test of all cases, and the answer by a path
  pub as_tested : (k : Case) (p : List ℕ) (i : Option (List ℕ)) (b : Bool) → b ≡ is_conflict k h s t u p i → (b ≡ true) ↔ Conflict k p i
  as_tested k p i b e = ((λ x. sound k p i (sym e ∙ x)), (λ x. e ∙ complete k p i x))

  pub at_path_only : (k : Case) (p : List ℕ) (i : Option (List ℕ)) → (k ≡ case.NewNodeConflictsWithExistingNode → ⊥) → (k ≡ case.NewNodeInInvalidGroup → ⊥) → at_path k h s t u p i (get t p) ≡ is_conflict k h s t u p i
  at_path_only case.NewNodeConflictsWithExistingNode p i a b = absurd (a refl)
  at_path_only case.NewNodeInInvalidGroup p i a b = absurd (b refl)
  at_path_only case.ZarrMetadataDoubleUpdate p i a b = refl
  at_path_only case.ZarrMetadataUpdateOfDeletedArray p i a b = refl
  at_path_only case.ZarrMetadataUpdateOfDeletedGroup p i a b = refl
  at_path_only case.ChunkDoubleUpdate p i a b = refl
  at_path_only case.ChunksUpdatedInDeletedArray p i a b = refl
  at_path_only case.ChunksUpdatedInUpdatedArray p i a b = refl
  at_path_only case.DeleteOfUpdatedArray p i a b = refl
  at_path_only case.DeleteOfUpdatedGroup p i a b = refl

-- what is said of an answer, if there is one
pub is_left : {E : Type 0} (r : Result Bool E) (x : Bool) (P : Bool → Type 0) → IfOk r (λ b. b ≡ x) → ((b : Bool) → b ≡ x → P b) → IfOk r P
is_left (Ok b) x P e f = f b e
is_left (Err fault) x P e f = tt

pub left_out : {A : Type 0} (o : Option (Bor A)) → is_some o ≡ false → option_copied o ≡ None
left_out None h = refl
left_out (Some x) h = cc
