-- What is found is exactly what conflicts.
use Rattle.std.proofs.Common.{◌≡◌, ◌∙◌, ℕ, Bool, true, false, cond, not, ◌||◌, List, [], ◌∷◌, length, Option, Some, None, is_some, Contains, refl, sym, ap, subst, ◌⊎◌, inl, inr}
use Rattle.std.specs.Prelude.{◌↔◌, ◌==◌}
use Rattle.std.specs.Ordering.{is_lt}
use Rattle.std.specs.List.{filter, flat_map}
use Rattle.std.specs.FinMap.{get, keys, entries}
use Rattle.zarr_path.specs.Paths.{path_cmp, same_path, root, parent_of}
use Rattle.zarr_path.proofs.OrderLaws.{same_path-refl, same_path-false}
use Rattle.manifest_file.specs.declared.manifest.Place.{Place}
use Rattle.zarr_tree.specs.declared.cases.Case.{Case}
use Rattle.zarr_tree.specs.declared.cases.Case.TheVariants as case
use Rattle.zarr_tree.specs.declared.cases.Conflict.{Conflict}
use Rattle.zarr_tree.specs.declared.lists.Touched.{Touched}
use Rattle.zarr_tree.specs.Nodes.{Node, is_group, is_array}
use Rattle.zarr_tree.specs.Trees.{Tree, node_at}
use Rattle.zarr_tree.specs.Changes.{Changes, has_id}
use Rattle.zarr_tree.specs.Touched.{lists}
use Rattle.zarr_tree.specs.Held.{Held, Rows, meta_in, entry_in, nodes_over, changes_of}
use Rattle.zarr_tree.specs.Conflicts.{IsConflict, AtNode, TakesAway, HasChunkListed, HasNewBeneath}
use Rattle.zarr_tree.proofs.Apply.{both, first, second}
use Rattle.zarr_changes.specs.Sets.{has_chunks}
use Rattle.held_log.specs.LookUp.{chunks_listed}
use Rattle.conflicts.specs.Found.{Sides, is_taken, if_so, of_added, has_new_beneath, takes_away, holds, twice, of_case, node_cases, of_row, rows_before, rows_from, found_in, found}
use Rattle.conflicts.specs.Laws.{sides, ExactLaw}
use Rattle.conflicts.proofs.Members.{In, in-contains, contains-in, in-append, in-left, in-right, in-filter, filter-in, in-map, map-in, in-flat, flat-in}
use Rattle.conflicts.proofs.Facts.{turned, turned-back, either, or-left, or-right, none-of, of-none, row-in, in-row, key-in, in-key, entry-is, entry-has, has-entry, listed-in, in-listed, has-listed, listed-has, has-beneath, beneath-has}

-- a conflict, as a value
abbrev pub made : Case → List ℕ → Option (List ℕ) → Conflict
made k p i = record { case = k; path = p; index = i }

pub so-in : (b : Bool) (k : Case) (p : List ℕ) (y : Conflict) → In (if_so b k p) y → (b ≡ true) × (made k p None ≡ y)
so-in true k p y (inl e) = (refl, e)
so-in true k p y (inr h) = absurd h
so-in false k p y h = absurd h

in-so : (b : Bool) (k : Case) (p : List ℕ) → b ≡ true → In (if_so b k p) (made k p None)
in-so true k p h = inl refl
in-so false k p h = cc

-- ---- what is found of a row stands at its path
pub record IsTwice (s : Sides) (p : List ℕ) (n : Node) (y : Conflict) : Type 0 where
  pub index : List ℕ
  pub is : made case.ChunkDoubleUpdate p (Some index) ≡ y
  pub array : is_array n.text ≡ true
  pub listed : In (chunks_listed s.theirs.updated_chunks n.id) index
  pub entry : is_some (entry_in s.held.chunks n.id index) ≡ true

module _ (s : Sides) (p : List ℕ) (n : Node) where
  abbrev listed : List (List ℕ)
  listed = chunks_listed s.theirs.updated_chunks n.id

  abbrev ours : List ℕ → Bool
  ours i = is_some (entry_in s.held.chunks n.id i)

  pub twice-in : (y : Conflict) → In (of_case s p n case.ChunkDoubleUpdate) y → IsTwice s p n y
  twice-in y h = let r = in-map (λ i. made case.ChunkDoubleUpdate p (Some i)) (twice s n) y h in by_array r.0 r.2 (is_array n.text) refl r.1
    where
      by_array : (i : List ℕ) → made case.ChunkDoubleUpdate p (Some i) ≡ y → (b : Bool) → is_array n.text ≡ b → In (cond b (filter ours listed) []) i → IsTwice s p n y
      by_array i is true e k = let r = in-filter ours listed i k in record { index = i; is = is; array = e; listed = r.0; entry = r.1 }
      by_array i is false e k = absurd k

  pub in-twice : (i : List ℕ) → is_array n.text ≡ true → In listed i → ours i ≡ true → In (of_case s p n case.ChunkDoubleUpdate) (made case.ChunkDoubleUpdate p (Some i))
  in-twice i e l o = map-in (λ j. made case.ChunkDoubleUpdate p (Some j)) (twice s n) i (subst (λ b. In (cond b (filter ours listed) []) i) (sym e) (filter-in ours listed i l o))

-- what is found of a case: it stands at the path, and is of the case
pub record IsOf (p : List ℕ) (k : Case) (y : Conflict) : Type 0 where
  pub path : y.path ≡ p
  pub case_is : y.case ≡ k

made-of : (k : Case) (p : List ℕ) (i : Option (List ℕ)) (y : Conflict) → made k p i ≡ y → IsOf p k y
made-of k p i y e = record { path = ap (λ (z : Conflict). z.path) (sym e); case_is = ap (λ (z : Conflict). z.case) (sym e) }

pub case-of : (s : Sides) (p : List ℕ) (n : Node) (k : Case) (y : Conflict) → In (of_case s p n k) y → IsOf p k y
case-of s p n case.NewNodeConflictsWithExistingNode y h = made-of case.NewNodeConflictsWithExistingNode p None y (so-in (holds case.NewNodeConflictsWithExistingNode s p n) case.NewNodeConflictsWithExistingNode p y h).1
case-of s p n case.NewNodeInInvalidGroup y h = made-of case.NewNodeInInvalidGroup p None y (so-in (holds case.NewNodeInInvalidGroup s p n) case.NewNodeInInvalidGroup p y h).1
case-of s p n case.ZarrMetadataDoubleUpdate y h = made-of case.ZarrMetadataDoubleUpdate p None y (so-in (holds case.ZarrMetadataDoubleUpdate s p n) case.ZarrMetadataDoubleUpdate p y h).1
case-of s p n case.ZarrMetadataUpdateOfDeletedArray y h = made-of case.ZarrMetadataUpdateOfDeletedArray p None y (so-in (holds case.ZarrMetadataUpdateOfDeletedArray s p n) case.ZarrMetadataUpdateOfDeletedArray p y h).1
case-of s p n case.ZarrMetadataUpdateOfDeletedGroup y h = made-of case.ZarrMetadataUpdateOfDeletedGroup p None y (so-in (holds case.ZarrMetadataUpdateOfDeletedGroup s p n) case.ZarrMetadataUpdateOfDeletedGroup p y h).1
case-of s p n case.ChunkDoubleUpdate y h = let r = twice-in s p n y h in made-of case.ChunkDoubleUpdate p (Some r.index) y r.is
case-of s p n case.ChunksUpdatedInDeletedArray y h = made-of case.ChunksUpdatedInDeletedArray p None y (so-in (holds case.ChunksUpdatedInDeletedArray s p n) case.ChunksUpdatedInDeletedArray p y h).1
case-of s p n case.ChunksUpdatedInUpdatedArray y h = made-of case.ChunksUpdatedInUpdatedArray p None y (so-in (holds case.ChunksUpdatedInUpdatedArray s p n) case.ChunksUpdatedInUpdatedArray p y h).1
case-of s p n case.DeleteOfUpdatedArray y h = made-of case.DeleteOfUpdatedArray p None y (so-in (holds case.DeleteOfUpdatedArray s p n) case.DeleteOfUpdatedArray p y h).1
case-of s p n case.DeleteOfUpdatedGroup y h = made-of case.DeleteOfUpdatedGroup p None y (so-in (holds case.DeleteOfUpdatedGroup s p n) case.DeleteOfUpdatedGroup p y h).1

module _ (bytes_at : Place → Option (List ℕ)) (h : Held Place) (s : Touched) (t u : Tree) where
  abbrev c : Changes
  c = changes_of bytes_at h

  abbrev both_sides : Sides
  both_sides = sides h s t u

  -- ---- at a node
  taken : (p : List ℕ) (n : Node) → takes_away both_sides p n.id ≡ true → TakesAway c t u p n
  taken p n k = (turned _ (first (not (has_id n.id (get (nodes_over h t.nodes) p))) _ k), second (not (has_id n.id (get (nodes_over h t.nodes) p))) _ k)

  taken-back : (p : List ℕ) (n : Node) → TakesAway c t u p n → takes_away both_sides p n.id ≡ true
  taken-back p n k = both _ _ (turned-back _ k.0) k.1

  abbrev is_changed : Node → Bool
  is_changed n = lists s.updated_arrays n.id || not (length (chunks_listed s.updated_chunks n.id) == 0)

  node-sound : (k : Case) (p : List ℕ) (n : Node) → holds k both_sides p n ≡ true → AtNode k c s t u p None n
  node-sound case.NewNodeConflictsWithExistingNode p n k = cc
  node-sound case.NewNodeInInvalidGroup p n k = cc
  node-sound case.ZarrMetadataDoubleUpdate p n k = (first (is_some (meta_in h.metas n.id)) _ k, second (is_some (meta_in h.metas n.id)) _ k)
  node-sound case.ZarrMetadataUpdateOfDeletedArray p n k = (first (is_some (meta_in h.metas n.id)) _ k, second (is_some (meta_in h.metas n.id)) _ k)
  node-sound case.ZarrMetadataUpdateOfDeletedGroup p n k = (first (is_some (meta_in h.metas n.id)) _ k, second (is_some (meta_in h.metas n.id)) _ k)
  node-sound case.ChunkDoubleUpdate p n k = cc
  node-sound case.ChunksUpdatedInDeletedArray p n k =
      let l = second (is_array n.text) _ k in (first (is_array n.text) _ k, has-entry bytes_at h n.id (first (has_chunks h.chunks n.id) _ l), second (has_chunks h.chunks n.id) _ l)
  node-sound case.ChunksUpdatedInUpdatedArray p n k =
      let l = second (is_array n.text) _ k in (first (is_array n.text) _ k, has-entry bytes_at h n.id (first (has_chunks h.chunks n.id) _ l), second (has_chunks h.chunks n.id) _ l)
  node-sound case.DeleteOfUpdatedArray p n k =
      let l = second (is_array n.text) _ k in (
        first (is_array n.text) _ k,
        taken p n (second (is_changed n) _ l),
        elim (either (lists s.updated_arrays n.id) _ (first (is_changed n) _ l)) [ inl a ↦ inl a | inr b ↦ inr (has-listed s n.id b) ],
      )
  node-sound case.DeleteOfUpdatedGroup p n k =
      let l = second (is_group n.text) _ k in (
        first (is_group n.text) _ k,
        taken p n (first (takes_away both_sides p n.id) _ l),
        elim (either (lists s.updated_groups n.id) _ (second (takes_away both_sides p n.id) _ l)) [ inl a ↦ inl a | inr b ↦ inr (has-beneath s u p b) ],
      )

  updated_array : (n : Node) → (lists s.updated_arrays n.id ≡ true) ⊎ HasChunkListed s n.id → (lists s.updated_arrays n.id || not (length (chunks_listed s.updated_chunks n.id) == 0)) ≡ true
  updated_array n (inl a) = or-left _ _ a
  updated_array n (inr b) = or-right _ _ (listed-has s n.id b)

  updated_group : (p : List ℕ) (n : Node) → (lists s.updated_groups n.id ≡ true) ⊎ HasNewBeneath s u p → (lists s.updated_groups n.id || has_new_beneath both_sides p) ≡ true
  updated_group p n (inl a) = or-left _ _ a
  updated_group p n (inr b) = or-right _ _ (beneath-has s u p b)

  -- a case that holds at a node is found there
  abbrev IsFoundAt : Case → List ℕ → Option (List ℕ) → Node → Type 0
  IsFoundAt k p i n = In (of_case both_sides p n k) (made k p i)

  node-complete : (k : Case) (p : List ℕ) (i : Option (List ℕ)) (n : Node) → AtNode k c s t u p i n → IsFoundAt k p i n
  node-complete case.NewNodeConflictsWithExistingNode p None n x = absurd x
  node-complete case.NewNodeConflictsWithExistingNode p (Some i) n x = absurd x
  node-complete case.NewNodeInInvalidGroup p None n x = absurd x
  node-complete case.NewNodeInInvalidGroup p (Some i) n x = absurd x
  node-complete case.ZarrMetadataDoubleUpdate p None n x = in-so _ _ p (both _ _ x.0 x.1)
  node-complete case.ZarrMetadataDoubleUpdate p (Some i) n x = absurd x
  node-complete case.ZarrMetadataUpdateOfDeletedArray p None n x = in-so _ _ p (both _ _ x.0 x.1)
  node-complete case.ZarrMetadataUpdateOfDeletedArray p (Some i) n x = absurd x
  node-complete case.ZarrMetadataUpdateOfDeletedGroup p None n x = in-so _ _ p (both _ _ x.0 x.1)
  node-complete case.ZarrMetadataUpdateOfDeletedGroup p (Some i) n x = absurd x
  node-complete case.ChunkDoubleUpdate p None n x = absurd x
  node-complete case.ChunkDoubleUpdate p (Some i) n x = in-twice both_sides p n i x.0 (listed-in s.updated_chunks n.id i x.2) (sym (entry-is bytes_at h n.id i) ∙ x.1)
  node-complete case.ChunksUpdatedInDeletedArray p None n x = in-so _ _ p (both _ _ x.0 (both _ _ (entry-has bytes_at h n.id x.1) x.2))
  node-complete case.ChunksUpdatedInDeletedArray p (Some i) n x = absurd x
  node-complete case.ChunksUpdatedInUpdatedArray p None n x = in-so _ _ p (both _ _ x.0 (both _ _ (entry-has bytes_at h n.id x.1) x.2))
  node-complete case.ChunksUpdatedInUpdatedArray p (Some i) n x = absurd x
  node-complete case.DeleteOfUpdatedArray p None n x = in-so _ _ p (both _ _ x.0 (both _ _ (updated_array n x.2) (taken-back p n x.1)))
  node-complete case.DeleteOfUpdatedArray p (Some i) n x = absurd x
  node-complete case.DeleteOfUpdatedGroup p None n x = in-so _ _ p (both _ _ x.0 (both _ _ (taken-back p n x.1) (updated_group p n x.2)))
  node-complete case.DeleteOfUpdatedGroup p (Some i) n x = absurd x

  abbrev Conflicts : Conflict → Type 0
  Conflicts y = IsConflict c s t u y.case y.path y.index

  -- ---- a row
  node-found : (k : Case) (p : List ℕ) (n : Node) (y : Conflict) → node_at t p ≡ Some n → In (if_so (holds k both_sides p n) k p) y → ((AtNode k c s t u p None n) → IsConflict c s t u k p None) → Conflicts y
  node-found k p n y f e is = let r = so-in (holds k both_sides p n) k p y e in subst Conflicts r.1 (is (node-sound k p n r.0))

  case-sound : (k : Case) (p : List ℕ) (n : Node) (y : Conflict) → node_at t p ≡ Some n → In (of_case both_sides p n k) y → Conflicts y
  case-sound case.NewNodeConflictsWithExistingNode p n y f e = let r = so-in false case.NewNodeConflictsWithExistingNode p y e in cc
  case-sound case.NewNodeInInvalidGroup p n y f e = let r = so-in false case.NewNodeInInvalidGroup p y e in cc
  case-sound case.ZarrMetadataDoubleUpdate p n y f e = node-found case.ZarrMetadataDoubleUpdate p n y f e (λ x. (n, f, x))
  case-sound case.ZarrMetadataUpdateOfDeletedArray p n y f e = node-found case.ZarrMetadataUpdateOfDeletedArray p n y f e (λ x. (n, f, x))
  case-sound case.ZarrMetadataUpdateOfDeletedGroup p n y f e = node-found case.ZarrMetadataUpdateOfDeletedGroup p n y f e (λ x. (n, f, x))
  case-sound case.ChunkDoubleUpdate p n y f e =
      let r = twice-in both_sides p n y e in
      subst Conflicts r.is (n, f, (r.array, entry-is bytes_at h n.id r.index ∙ r.entry, in-listed s.updated_chunks n.id r.index r.listed))
  case-sound case.ChunksUpdatedInDeletedArray p n y f e = node-found case.ChunksUpdatedInDeletedArray p n y f e (λ x. (n, f, x))
  case-sound case.ChunksUpdatedInUpdatedArray p n y f e = node-found case.ChunksUpdatedInUpdatedArray p n y f e (λ x. (n, f, x))
  case-sound case.DeleteOfUpdatedArray p n y f e = node-found case.DeleteOfUpdatedArray p n y f e (λ x. (n, f, x))
  case-sound case.DeleteOfUpdatedGroup p n y f e = node-found case.DeleteOfUpdatedGroup p n y f e (λ x. (n, f, x))

  row-sound : (e : List ℕ × Node) (y : Conflict) → In (entries t.nodes) e → In (of_row both_sides e) y → Conflicts y
  row-sound e y r k = let a = in-flat (λ l. of_case both_sides e.0 e.1 l) node_cases y k in case-sound a.0 e.0 e.1 y (in-row t.nodes e r) a.2

  -- ---- an added path
  added-sound : (p : List ℕ) (y : Conflict) → In (keys h.added) p → In (of_added both_sides p) y → Conflicts y
  added-sound p y a k = elim (in-append (if_so (is_taken both_sides p) case.NewNodeConflictsWithExistingNode p) _ y k) [
    | inl l ↦
        let r = so-in _ _ p y l in
        subst Conflicts r.1 (in-key h.added p a, first (is_some (get u.nodes p)) _ r.0, turned _ (second (is_some (get u.nodes p)) _ r.0))
    | inr l ↦
        let r = so-in _ _ p y l in
        let k = second (not (same_path p root)) _ r.0 in
        subst Conflicts r.1 (
          in-key h.added p a,
          (λ e. let bad : same_path p root ≡ true = ap (same_path p) (sym e) ∙ same_path-refl p in let good : same_path p root ≡ false = turned _ (first (not (same_path p root)) _ r.0) in cc),
          none-of (get h.added (parent_of p)) (turned _ (first (not (is_some (get h.added (parent_of p)))) _ k)),
          turned _ (second (not (is_some (get h.added (parent_of p)))) _ k),
        )
  ]

  -- ---- all
  abbrev Sound : List (List ℕ) → Rows → Type 0
  Sound ps rows = ((p : List ℕ) → In ps p → In (keys h.added) p) × ((e : List ℕ × Node) → In rows e → In (entries t.nodes) e)

  before-in : (p : List ℕ) (rows : Rows) (e : List ℕ × Node) → In (rows_before p rows) e → In rows e
  before-in p [] e k = k
  before-in p (r ∷ rs) e k = by_test (before-in p rs e) (is_lt (path_cmp r.0 p)) k
    where
      by_test : (In (rows_before p rs) e → In rs e) → (b : Bool) → In (cond b (r ∷ rows_before p rs) []) e → In (r ∷ rs) e
      by_test f true (inl x) = inl x
      by_test f true (inr x) = inr (f x)
      by_test f false x = absurd x

  from-in : (p : List ℕ) (rows : Rows) (e : List ℕ × Node) → In (rows_from p rows) e → In rows e
  from-in p [] e k = k
  from-in p (r ∷ rs) e k = by_test (from-in p rs e) (is_lt (path_cmp r.0 p)) k
    where
      by_test : (In (rows_from p rs) e → In rs e) → (b : Bool) → In (cond b (rows_from p rs) (r ∷ rs)) e → In (r ∷ rs) e
      by_test f true x = inr (f x)
      by_test f false x = x

  in-parts : (p : List ℕ) (rows : Rows) (e : List ℕ × Node) → In rows e → In (rows_before p rows) e ⊎ In (rows_from p rows) e
  in-parts p [] e k = absurd k
  in-parts p (r ∷ rs) e k = by_test (in-parts p rs e) (is_lt (path_cmp r.0 p)) k
    where
      by_test : (In rs e → In (rows_before p rs) e ⊎ In (rows_from p rs) e) → (b : Bool) → In (r ∷ rs) e → In (cond b (r ∷ rows_before p rs) []) e ⊎ In (cond b (rows_from p rs) (r ∷ rs)) e
      by_test f true (inl x) = inl (inl x)
      by_test f true (inr x) = elim (f x) [ inl a ↦ inl (inr a) | inr b ↦ inr b ]
      by_test f false x = inr x

  all-sound : (ps : List (List ℕ)) (rows : Rows) (y : Conflict) → Sound ps rows → In (found_in both_sides ps rows) y → Conflicts y
  all-sound [] rows y g k = let a = in-flat (of_row both_sides) rows y k in row-sound a.0 y (g.1 a.0 a.1) a.2
  all-sound (p ∷ ps) rows y g k = elim (in-append (flat_map (of_row both_sides) (rows_before p rows)) _ y k) [
    | inl l ↦ let a = in-flat (of_row both_sides) (rows_before p rows) y l in row-sound a.0 y (g.1 a.0 (before-in p rows a.0 a.1)) a.2
    | inr l ↦ elim (in-append (of_added both_sides p) _ y l) [
      | inl m ↦ added-sound p y (g.0 p (inl refl)) m
      | inr m ↦ all-sound ps (rows_from p rows) y ((λ q z. g.0 q (inr z)), (λ e z. g.1 e (from-in p rows e z))) m
    ]
  ]

  row-in-all : (ps : List (List ℕ)) (rows : Rows) (e : List ℕ × Node) (y : Conflict) → In rows e → In (of_row both_sides e) y → In (found_in both_sides ps rows) y
  row-in-all [] rows e y r k = flat-in (of_row both_sides) rows e y r k
  row-in-all (p ∷ ps) rows e y r k = elim (in-parts p rows e r) [
    | inl a ↦ in-left _ _ y (flat-in (of_row both_sides) (rows_before p rows) e y a k)
    | inr b ↦ in-right (flat_map (of_row both_sides) (rows_before p rows)) _ y (in-right (of_added both_sides p) _ y (row-in-all ps (rows_from p rows) e y b k))
  ]

  added-in-all : (ps : List (List ℕ)) (rows : Rows) (p : List ℕ) (y : Conflict) → In ps p → In (of_added both_sides p) y → In (found_in both_sides ps rows) y
  added-in-all [] rows p y a k = absurd a
  added-in-all (q ∷ qs) rows p y (inl e) k = in-right (flat_map (of_row both_sides) (rows_before q rows)) _ y (in-left (of_added both_sides q) _ y (subst (λ z. In (of_added both_sides z) y) (sym e) k))
  added-in-all (q ∷ qs) rows p y (inr a) k = in-right (flat_map (of_row both_sides) (rows_before q rows)) _ y (in-right (of_added both_sides q) _ y (added-in-all qs (rows_from q rows) p y a k))

  abbrev All : Conflict → Type 0
  All y = In (found_in both_sides (keys h.added) (entries t.nodes)) y

  -- a conflict at a node
  at-node : (k : Case) (p : List ℕ) (i : Option (List ℕ)) (n : Node) → In node_cases k → node_at t p ≡ Some n → AtNode k c s t u p i n → All (made k p i)
  at-node k p i n m f x = row-in-all (keys h.added) (entries t.nodes) (p, n) (made k p i) (row-in t.nodes p n f) (flat-in (λ l. of_case both_sides p n l) node_cases k (made k p i) m (node-complete k p i n x))

  all-complete : (k : Case) (p : List ℕ) (i : Option (List ℕ)) → IsConflict c s t u k p i → All (made k p i)
  all-complete case.NewNodeConflictsWithExistingNode p None x =
      added-in-all (keys h.added) (entries t.nodes) p _ (key-in h.added p x.0) (in-left _ _ _ (in-so _ _ p (both _ _ x.1 (turned-back _ x.2))))
  all-complete case.NewNodeConflictsWithExistingNode p (Some i) x = absurd x
  all-complete case.NewNodeInInvalidGroup p None x =
      added-in-all (keys h.added) (entries t.nodes) p _ (key-in h.added p x.0)
      (in-right (if_so (is_taken both_sides p) case.NewNodeConflictsWithExistingNode p) _ _
      (in-so _ _ p (both _ _ (turned-back _ (same_path-false p root x.1)) (both _ _ (turned-back _ (of-none _ x.2)) (turned-back _ x.3)))))
  all-complete case.NewNodeInInvalidGroup p (Some i) x = absurd x
  all-complete case.ZarrMetadataDoubleUpdate p i x = at-node _ p i x.0 (inl refl) x.1 x.2
  all-complete case.ZarrMetadataUpdateOfDeletedArray p i x = at-node _ p i x.0 (inr (inl refl)) x.1 x.2
  all-complete case.ZarrMetadataUpdateOfDeletedGroup p i x = at-node _ p i x.0 (inr (inr (inl refl))) x.1 x.2
  all-complete case.ChunkDoubleUpdate p i x = at-node _ p i x.0 (inr (inr (inr (inl refl)))) x.1 x.2
  all-complete case.ChunksUpdatedInDeletedArray p i x = at-node _ p i x.0 (inr (inr (inr (inr (inl refl))))) x.1 x.2
  all-complete case.ChunksUpdatedInUpdatedArray p i x = at-node _ p i x.0 (inr (inr (inr (inr (inr (inl refl)))))) x.1 x.2
  all-complete case.DeleteOfUpdatedArray p i x = at-node _ p i x.0 (inr (inr (inr (inr (inr (inr (inl refl))))))) x.1 x.2
  all-complete case.DeleteOfUpdatedGroup p i x = at-node _ p i x.0 (inr (inr (inr (inr (inr (inr (inr (inl refl)))))))) x.1 x.2

  pub exactly : (y : Conflict) → Contains (found both_sides) y ↔ Conflicts y
  unfolding found
  exactly y = (
    λ k. all-sound (keys h.added) (entries t.nodes) y ((λ p z. z), (λ e z. z)) (contains-in _ y k),
    λ x. in-contains _ y (all-complete y.case y.path y.index x),
  )

pub exact-law : ExactLaw
exact-law bytes_at h s t u y = exactly bytes_at h s t u y
