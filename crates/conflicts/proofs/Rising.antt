-- What is found stands in order.
use Rattle.std.proofs.Common.{◌≡◌, ◌∙◌, ℕ, ◌<◌, nat_lt, Bool, true, false, cond, ◌&&◌, is_some, List, [], ◌∷◌, ◌++◌, map, Some, None, refl, sym, ap, subst, ◌⊎◌, inl, inr, arith}
use Rattle.std.specs.Ordering.{is_lt, ordering_reverse}
use Rattle.std.specs.declared.cmp.Ordering.{Ordering}
use Rattle.std.specs.declared.cmp.Ordering.TheVariants.{Less, Equal, Greater}
use Rattle.std.specs.Cmp.{tied_itself}
use Rattle.std.specs.List.{list_all, filter, flat_map, AllByRecursion}
use Rattle.std.specs.List.Sorted.{IsStrictlySortedBy}
use Rattle.std.specs.FinMap.{keys, entries, entries_sorted}
use Rattle.ice_ids.specs.declared.Id8.{Id8}
use Rattle.ice_ids.specs.Text.{same_id8, id8_cmp}
use Rattle.zarr_path.specs.Indices.{index_cmp}
use Rattle.zarr_path.specs.Paths.{path_cmp}
use Rattle.zarr_path.proofs.OrderLaws.{total, exact}
use Rattle.zarr_tree.specs.declared.cases.Case.{Case}
use Rattle.zarr_tree.specs.declared.cases.Case.TheVariants as case
use Rattle.zarr_tree.specs.declared.cases.Conflict.{Conflict}
use Rattle.zarr_tree.specs.declared.lists.ArrayChunks.{ArrayChunks}
use Rattle.zarr_tree.specs.Nodes.{Node, is_array}
use Rattle.zarr_tree.specs.Touched.{IdsAscend, IndicesAscend, IsOrdered}
use Rattle.zarr_tree.specs.Held.{Rows, entry_in}
use Rattle.zarr_tree.proofs.Apply.{id-true, first, second}
use Rattle.zarr_changes.proofs.IdLaws.{id_total}
use Rattle.zarr_tree.specs.Cases.{number}
use Rattle.conflicts.specs.Order.{ConflictPrecedes, Ascend}
use Rattle.held_log.specs.LookUp.{chunks_listed}
use Rattle.conflicts.specs.Found.{Sides, is_taken, if_so, of_added, holds, twice, of_case, node_cases, of_row, rows_before, rows_from, found_in, found}
use Rattle.conflicts.specs.Laws.{AscendLaw}
use Rattle.conflicts.proofs.Members.{In, contains-in, InTurn, in-append, in-flat, turn-append, turn-filter, turn-map, turn-flat}
use Rattle.conflicts.proofs.Facts.{tested, less, Before, Rise, rows-turn, keys-turn}
use Rattle.conflicts.proofs.Exactness.{made, so-in, IsOf, case-of}

pub ascending : (xs : List Conflict) → InTurn ConflictPrecedes xs → Ascend xs
ascending [] h = tt
ascending (x ∷ xs) h = (λ y k. h.0 y (contains-in xs y k), ascending xs h.1)

-- ---- lists that rise
all-in : {A : Type 0} (P : A → Type 0) (xs : List A) → AllByRecursion P xs → (y : A) → In xs y → P y
all-in P [] h y k = absurd k
all-in P (x ∷ xs) h y (inl e) = subst P e h.0
all-in P (x ∷ xs) h y (inr k) = all-in P xs h.1 y k

indices-turn : (xs : List (List ℕ)) → IndicesAscend xs → InTurn (λ i j. index_cmp i j ≡ Less) xs
unfolding IsStrictlySortedBy
indices-turn [] h = tt
indices-turn (x ∷ xs) h = (λ y k. all-in (λ j. index_cmp x j ≡ Less) xs h.0 y k, indices-turn xs h.1)

all-nodes : (id : Id8) (arrays : List ArrayChunks) → AllByRecursion (λ y. id8_cmp id y ≡ Less) (map (λ (a : ArrayChunks). a.node) arrays) → (b : ArrayChunks) → In arrays b → id8_cmp id b.node ≡ Less
all-nodes id [] h b k = absurd k
all-nodes id (a ∷ rest) h b (inl e) = ap (λ (z : ArrayChunks). id8_cmp id z.node) (sym e) ∙ h.0
all-nodes id (a ∷ rest) h b (inr k) = all-nodes id rest h.1 b k

abbrev Rises : ArrayChunks → ArrayChunks → Type 0
Rises a b = id8_cmp a.node b.node ≡ Less

arrays-turn : (arrays : List ArrayChunks) → IdsAscend (map (λ (a : ArrayChunks). a.node) arrays) → InTurn Rises arrays
unfolding IsStrictlySortedBy
arrays-turn [] h = tt
arrays-turn (a ∷ rest) h = (λ b k. all-nodes a.node rest h.0 b k, arrays-turn rest h.1)

-- ---- the chunks of one array
chunks-turn : (arrays : List ArrayChunks) (id : Id8) → IdsAscend (map (λ (a : ArrayChunks). a.node) arrays) → AllByRecursion (λ (a : ArrayChunks). IndicesAscend a.chunks) arrays
    → InTurn (λ i j. index_cmp i j ≡ Less) (chunks_listed arrays id)
chunks-turn arrays id ids each = turn-flat Rises (λ i j. index_cmp i j ≡ Less) picked arrays (arrays-turn arrays ids) of_one of_two
  where
    picked : ArrayChunks → List (List ℕ)
    picked a = cond (same_id8 a.node id) a.chunks []

    by_id : (b : Bool) (xs : List (List ℕ)) → InTurn (λ i j. index_cmp i j ≡ Less) xs → InTurn (λ i j. index_cmp i j ≡ Less) (cond b xs [])
    by_id true xs h = h
    by_id false xs h = tt

    of_one : (a : ArrayChunks) → In arrays a → InTurn (λ i j. index_cmp i j ≡ Less) (picked a)
    of_one a k = by_id (same_id8 a.node id) a.chunks (indices-turn a.chunks (all-in (λ (b : ArrayChunks). IndicesAscend b.chunks) arrays each a k))

    is_id : (a : ArrayChunks) (i : List ℕ) (b : Bool) → same_id8 a.node id ≡ b → In (cond b a.chunks []) i → a.node ≡ id
    is_id a i true e k = id-true a.node id e
    is_id a i false e k = absurd k

    of_two : (a b : ArrayChunks) → Rises a b → (i j : List ℕ) → In (picked a) i → In (picked b) j → index_cmp i j ≡ Less
    of_two a b lt i j k l =
        let same : a.node ≡ b.node = is_id a i (same_id8 a.node id) refl k ∙ sym (is_id b j (same_id8 b.node id) refl l) in
        let tied : id8_cmp a.node b.node ≡ Equal = ap (id8_cmp a.node) (sym same) ∙ tied_itself id_total a.node in
        cc

-- ---- the cases at one path
abbrev Later : Case → Case → Type 0
Later k l = number k < number l

number-lt : (a b : ℕ) → nat_lt a b ≡ true → a < b
number-lt a b h = grind (arith, Rattle.std.proofs.lemmas.Bool.Decides.nat_tests)

rising : List Case → Bool
rising [] = true
rising (k ∷ ks) = list_all (λ l. nat_lt (number k) (number l)) ks && rising ks

turn-cases : (ks : List Case) → rising ks ≡ true → InTurn Later ks
unfolding rising
turn-cases [] h = tt
turn-cases (k ∷ ks) h = (
  λ y e. number-lt _ _ (tested (λ l. nat_lt (number k) (number l)) ks (first (list_all (λ l. nat_lt (number k) (number l)) ks) _ h) y e),
  turn-cases ks (second (list_all (λ l. nat_lt (number k) (number l)) ks) _ h),
)

cases-turn : InTurn Later node_cases
unfolding rising
cases-turn = turn-cases node_cases refl

late : (k : Case) → In node_cases k → 2 < number k
late k h = number-lt _ _ (tested (λ l. nat_lt 2 (number l)) node_cases refl k h)

so-turn : (b : Bool) (k : Case) (p : List ℕ) → InTurn ConflictPrecedes (if_so b k p)
so-turn true k p = (λ y h. absurd h, tt)
so-turn false k p = tt

module _ (s : Sides) (ordered : IsOrdered s.theirs) where
  twice-turn : (p : List ℕ) (n : Node) → InTurn ConflictPrecedes (of_case s p n case.ChunkDoubleUpdate)
  twice-turn p n = turn-map (λ i j. index_cmp i j ≡ Less) ConflictPrecedes (λ i. made case.ChunkDoubleUpdate p (Some i)) (twice s n) (by_array (is_array n.text)) (λ i j lt. inr (refl, inr (refl, lt)))
    where
      by_array : (b : Bool) → InTurn (λ i j. index_cmp i j ≡ Less) (cond b (filter (λ i. is_some (entry_in s.held.chunks n.id i)) (chunks_listed s.theirs.updated_chunks n.id)) [])
      by_array true = turn-filter (λ i j. index_cmp i j ≡ Less) (λ i. is_some (entry_in s.held.chunks n.id i)) (chunks_listed s.theirs.updated_chunks n.id) (chunks-turn s.theirs.updated_chunks n.id ordered.arrays ordered.chunks)
      by_array false = tt

  case-turn : (p : List ℕ) (n : Node) (k : Case) → InTurn ConflictPrecedes (of_case s p n k)
  case-turn p n case.NewNodeConflictsWithExistingNode = so-turn (holds case.NewNodeConflictsWithExistingNode s p n) case.NewNodeConflictsWithExistingNode p
  case-turn p n case.NewNodeInInvalidGroup = so-turn (holds case.NewNodeInInvalidGroup s p n) case.NewNodeInInvalidGroup p
  case-turn p n case.ZarrMetadataDoubleUpdate = so-turn (holds case.ZarrMetadataDoubleUpdate s p n) case.ZarrMetadataDoubleUpdate p
  case-turn p n case.ZarrMetadataUpdateOfDeletedArray = so-turn (holds case.ZarrMetadataUpdateOfDeletedArray s p n) case.ZarrMetadataUpdateOfDeletedArray p
  case-turn p n case.ZarrMetadataUpdateOfDeletedGroup = so-turn (holds case.ZarrMetadataUpdateOfDeletedGroup s p n) case.ZarrMetadataUpdateOfDeletedGroup p
  case-turn p n case.ChunkDoubleUpdate = twice-turn p n
  case-turn p n case.ChunksUpdatedInDeletedArray = so-turn (holds case.ChunksUpdatedInDeletedArray s p n) case.ChunksUpdatedInDeletedArray p
  case-turn p n case.ChunksUpdatedInUpdatedArray = so-turn (holds case.ChunksUpdatedInUpdatedArray s p n) case.ChunksUpdatedInUpdatedArray p
  case-turn p n case.DeleteOfUpdatedArray = so-turn (holds case.DeleteOfUpdatedArray s p n) case.DeleteOfUpdatedArray p
  case-turn p n case.DeleteOfUpdatedGroup = so-turn (holds case.DeleteOfUpdatedGroup s p n) case.DeleteOfUpdatedGroup p

  -- ---- a row
  row-turn : (e : List ℕ × Node) → InTurn ConflictPrecedes (of_row s e)
  row-turn e = turn-flat Later ConflictPrecedes (λ k. of_case s e.0 e.1 k) node_cases cases-turn (λ k m. case-turn e.0 e.1 k)
      (λ k l lt x y h g.
      let a : IsOf e.0 k x = case-of s e.0 e.1 k x h in
      let b : IsOf e.0 l y = case-of s e.0 e.1 l y g in
      let less : number x.case < number y.case = subst (λ (z : Case). number x.case < number z) (sym b.case_is) (subst (λ (z : Case). number z < number l) (sym a.case_is) lt) in
      inr (a.path ∙ sym b.path, inl less))

  -- what is found of a row stands at its path, behind what is found of an added path
  row-at : (e : List ℕ × Node) (y : Conflict) → In (of_row s e) y → (y.path ≡ e.0) × (2 < number y.case)
  row-at e y h =
      let r = in-flat (λ k. of_case s e.0 e.1 k) node_cases y h in
      let a : IsOf e.0 r.0 y = case-of s e.0 e.1 r.0 y r.2 in
      (a.path, subst (λ (z : Case). 2 < number z) (sym a.case_is) (late r.0 r.1))

  -- ---- an added path
  added-at : (p : List ℕ) (y : Conflict) → In (of_added s p) y → (y.path ≡ p) × (number y.case < 3)
  added-at p y h = elim (in-append (if_so (is_taken s p) case.NewNodeConflictsWithExistingNode p) _ y h) [
    | inl a ↦ let r = so-in _ _ p y a in (ap (λ (z : Conflict). z.path) (sym r.1), subst (λ (z : Conflict). number z.case < 3) r.1 (omega arith))
    | inr b ↦ let r = so-in _ _ p y b in (ap (λ (z : Conflict). z.path) (sym r.1), subst (λ (z : Conflict). number z.case < 3) r.1 (omega arith))
  ]

  added-turn : (p : List ℕ) → InTurn ConflictPrecedes (of_added s p)
  added-turn p = turn-append ConflictPrecedes (if_so (is_taken s p) case.NewNodeConflictsWithExistingNode p) _ (so-turn _ _ p) (so-turn _ _ p)
      (λ x y h g.
      let a = so-in _ _ p x h in
      let b = so-in _ _ p y g in
      subst (λ (z : Conflict). ConflictPrecedes z y) a.1 (subst (λ (z : Conflict). ConflictPrecedes (made case.NewNodeConflictsWithExistingNode p None) z) b.1 (inr (refl, inl (omega arith)))))

  -- ---- all
  before-in : (p : List ℕ) (rows : Rows) (e : List ℕ × Node) → In (rows_before p rows) e → In rows e × (path_cmp e.0 p ≡ Less)
  before-in p [] e k = absurd k
  before-in p (r ∷ rs) e k = by_test (before-in p rs e) (is_lt (path_cmp r.0 p)) refl k
    where
      by_test : (In (rows_before p rs) e → In rs e × (path_cmp e.0 p ≡ Less)) → (b : Bool) → is_lt (path_cmp r.0 p) ≡ b → In (cond b (r ∷ rows_before p rs) []) e → In (r ∷ rs) e × (path_cmp e.0 p ≡ Less)
      by_test f true t (inl x) = (inl x, ap (λ (d : List ℕ × Node). path_cmp d.0 p) (sym x) ∙ less _ t)
      by_test f true t (inr x) = let r = f x in (inr r.0, r.1)
      by_test f false t x = absurd x

  from-in : (p : List ℕ) (rows : Rows) (e : List ℕ × Node) → In (rows_from p rows) e → In rows e
  from-in p [] e k = k
  from-in p (r ∷ rs) e k = by_test (from-in p rs e) (is_lt (path_cmp r.0 p)) k
    where
      by_test : (In (rows_from p rs) e → In rs e) → (b : Bool) → In (cond b (rows_from p rs) (r ∷ rs)) e → In (r ∷ rs) e
      by_test f true x = inr (f x)
      by_test f false x = x

  before-turn : (p : List ℕ) (rows : Rows) → InTurn Before rows → InTurn Before (rows_before p rows)
  before-turn p [] t = tt
  before-turn p (r ∷ rs) t = elim (is_lt (path_cmp r.0 p)) as (λ b. InTurn Before (cond b (r ∷ rows_before p rs) [])) [
    | true ↦ (λ e k. t.0 e (before-in p rs e k).0, before-turn p rs t.1)
    | false ↦ tt
  ]

  from-turn : (p : List ℕ) (rows : Rows) → InTurn Before rows → InTurn Before (rows_from p rows)
  from-turn p [] t = tt
  from-turn p (r ∷ rs) t = elim (is_lt (path_cmp r.0 p)) as (λ b. InTurn Before (cond b (rows_from p rs) (r ∷ rs))) [ true ↦ from-turn p rs t.1 | false ↦ t ]

  -- a row that doesn't stand before p stands at p or behind it
  abbrev Follows : List ℕ → List ℕ → Type 0
  Follows p q = (q ≡ p) ⊎ (path_cmp p q ≡ Less)

  follows : (p q : List ℕ) (o : Ordering) → path_cmp q p ≡ o → is_lt o ≡ false → Follows p q
  follows p q Less e h = cc
  follows p q Equal e h = inl (exact q p e)
  follows p q Greater e h = inr (total.antisymm p q ∙ ap ordering_reverse e)

  from-follows : (p : List ℕ) (rows : Rows) (e : List ℕ × Node) → InTurn Before rows → In (rows_from p rows) e → Follows p e.0
  from-follows p [] e t k = absurd k
  from-follows p (r ∷ rs) e t k = by_test (from-follows p rs e t.1) (is_lt (path_cmp r.0 p)) refl k
    where
      further : Follows p r.0 → In rs e → Follows p e.0
      further (inl x) m = inr (ap (λ q. path_cmp q e.0) (sym x) ∙ t.0 e m)
      further (inr x) m = inr (total.trans p r.0 e.0 x (t.0 e m))

      by_test : (In (rows_from p rs) e → Follows p e.0) → (b : Bool) → is_lt (path_cmp r.0 p) ≡ b → In (cond b (rows_from p rs) (r ∷ rs)) e → Follows p e.0
      by_test f true x m = f m
      by_test f false x (inl m) = subst (λ (d : List ℕ × Node). Follows p d.0) m (follows p r.0 (path_cmp r.0 p) refl x)
      by_test f false x (inr m) = further (follows p r.0 (path_cmp r.0 p) refl x) m

  -- where a conflict comes from
  Origin : List (List ℕ) → Rows → Conflict → Type 0
  Origin ps rows y = ((p : List ℕ) × In ps p × (y.path ≡ p)) ⊎ ((e : List ℕ × Node) × In rows e × (y.path ≡ e.0) × (2 < number y.case))

  origin : (ps : List (List ℕ)) (rows : Rows) (y : Conflict) → In (found_in s ps rows) y → Origin ps rows y
  unfolding Origin
  origin [] rows y k = let a = in-flat (of_row s) rows y k in let b = row-at a.0 y a.2 in inr (a.0, a.1, b.0, b.1)
  origin (p ∷ ps) rows y k = elim (in-append (flat_map (of_row s) (rows_before p rows)) _ y k) [
    | inl l ↦ let a = in-flat (of_row s) (rows_before p rows) y l in let b = row-at a.0 y a.2 in inr (a.0, (before-in p rows a.0 a.1).0, b.0, b.1)
    | inr l ↦ elim (in-append (of_added s p) _ y l) [
      | inl m ↦ inl (p, inl refl, (added-at p y m).0)
      | inr m ↦ elim (origin ps (rows_from p rows) y m) [
        | inl a ↦ inl (a.0, inr a.1, a.2)
        | inr a ↦ inr (a.0, from-in p rows a.0 a.1, a.2, a.3)
      ]
    ]
  ]

  -- what stands at a path before another
  by_paths : (x y : Conflict) (p q : List ℕ) → x.path ≡ p → y.path ≡ q → path_cmp p q ≡ Less → ConflictPrecedes x y
  by_paths x y p q a b lt = inl ((λ i. path_cmp (a i) (b i)) ∙ lt)

  all-turn : (ps : List (List ℕ)) (rows : Rows) → InTurn Rise ps → InTurn Before rows → InTurn ConflictPrecedes (found_in s ps rows)
  unfolding Origin
  all-turn [] rows t r = turn-flat Before ConflictPrecedes (of_row s) rows r (λ e m. row-turn e) (λ d e lt x y h g. by_paths x y d.0 e.0 (row-at d x h).0 (row-at e y g).0 lt)
  all-turn (p ∷ ps) rows t r =
      turn-append ConflictPrecedes (flat_map (of_row s) (rows_before p rows)) _
      (turn-flat Before ConflictPrecedes (of_row s) (rows_before p rows) (before-turn p rows r) (λ e m. row-turn e) (λ d e lt x y h g. by_paths x y d.0 e.0 (row-at d x h).0 (row-at e y g).0 lt))
      (turn-append ConflictPrecedes (of_added s p) _ (added-turn p) (all-turn ps (rows_from p rows) t.1 (from-turn p rows r)) added-first)
      rows-first
    where
      added-first : (x y : Conflict) → In (of_added s p) x → In (found_in s ps (rows_from p rows)) y → ConflictPrecedes x y
      added-first x y h g = elim (origin ps (rows_from p rows) y g) [
        | inl a ↦ by_paths x y p a.0 (added-at p x h).0 a.2 (t.0 a.0 a.1)
        | inr a ↦ elim (from-follows p rows a.0 r a.1) [
          | inl e ↦ inr ((added-at p x h).0 ∙ sym e ∙ sym a.2, inl (omega (arith, (added-at p x h).1, a.3)))
          | inr e ↦ by_paths x y p a.0.0 (added-at p x h).0 a.2 e
        ]
      ]

      behind : (d : List ℕ × Node) (q : List ℕ) → In (rows_before p rows) d → Follows p q → path_cmp d.0 q ≡ Less
      behind d q m (inl e) = ap (path_cmp d.0) e ∙ (before-in p rows d m).1
      behind d q m (inr e) = total.trans d.0 p q (before-in p rows d m).1 e

      rows-first : (x y : Conflict) → In (flat_map (of_row s) (rows_before p rows)) x → In (of_added s p ++ found_in s ps (rows_from p rows)) y → ConflictPrecedes x y
      rows-first x y h g =
          let d = in-flat (of_row s) (rows_before p rows) x h in
          let at = (row-at d.0 x d.2).0 in
          elim (in-append (of_added s p) _ y g) [
            | inl m ↦ by_paths x y d.0.0 p at (added-at p y m).0 (behind d.0 p d.1 (inl refl))
            | inr m ↦ elim (origin ps (rows_from p rows) y m) [
              | inl a ↦ by_paths x y d.0.0 a.0 at a.2 (behind d.0 a.0 d.1 (inr (t.0 a.0 a.1)))
              | inr a ↦ by_paths x y d.0.0 a.0.0 at a.2 (behind d.0 a.0.0 d.1 (from-follows p rows a.0 r a.1))
            ]
          ]

  pub ascends : Ascend (found s)
  unfolding found
  ascends = ascending _ (all-turn (keys s.held.added) (entries s.before) (keys-turn s.held.added)
      (rows-turn (entries s.before) (entries_sorted s.before)))

pub ascend-law : AscendLaw
ascend-law s ordered = ascends s ordered
