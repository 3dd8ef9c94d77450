-- The lists read off what is held are what its changes touch.
use Rattle.std.proofs.Common.{◌≡◌, ◌∙◌, ◌↔◌, ℕ, Bool, true, false, cond, ◌&&◌, ◌||◌, T, List, [], ◌∷◌, map, Option, Some, None, is_some, option_map, refl, sym, ap, subst}
use Rattle.std.specs.Prelude.{find}
use Rattle.std.specs.declared.cmp.Ordering.{Ordering}
use Rattle.std.specs.declared.cmp.Ordering.TheVariants.{Less, Equal, Greater}
use Rattle.std.specs.Ordering.{is_eq, is_lt}
use Rattle.std.specs.List.{list_any, list_all, filter, AllByRecursion}
use Rattle.std.specs.FinMap as map
use Rattle.std.specs.FinMap.{FinMap, is_sorted, get, entries, entries_sorted, get-entries}
use Rattle.ice_ids.specs.declared.Id8.{Id8}
use Rattle.ice_ids.specs.Text.{same_id8}
use Rattle.zarr_path.specs.Paths.{path_cmp, same_path}
use Rattle.zarr_path.proofs.OrderLaws.{same_path-true, same_path-refl}
use Rattle.zarr_tree.specs.declared.lists.ArrayChunks.{ArrayChunks}
use Rattle.zarr_tree.specs.Nodes.{Node, is_group, is_array, same_numbers}
use Rattle.zarr_tree.specs.Changes.{is_gone, has_id}
use Rattle.zarr_tree.specs.Touched.{lists, lists_index, lists_chunk, IdsAscend, IndicesAscend, IsNew, IsDeleted, IsUpdated, IsUpdatedChunk}
use Rattle.zarr_tree.specs.Held.{HeldEntry, meta_in, entry_in, changes_of, nodes_over, indices_in_order, Rows, ids_of, gone_rows, updated_rows, indices_of, written_rows, touched}
use Rattle.zarr_tree.specs.Laws.{TouchedLaw, OrderedLaw}
use Rattle.zarr_tree.proofs.Maps.{Path, Index}
use Rattle.zarr_tree.proofs.Apply.{id-true, id-refl, first, second, both}
use Rattle.zarr_tree.proofs.Ordered.{lists-in_order, lists_index-in_order, ids-rise, indices-rise}

-- ---- rows of a map
first_of : (a b : Bool) → T (a && b) → T a
first_of true b p = tt
first_of false b p = p

second_of : (a b : Bool) → T (a && b) → T b
second_of true b p = p
second_of false b p = absurd p

or-true : (b : Bool) → (b || true) ≡ true
or-true true = refl
or-true false = refl

abbrev is_below : Path → Rows → Bool
is_below x rows = list_all (λ (e : Path × Node). is_lt (path_cmp x e.0)) rows

find-below : (x : Path) (rows : Rows) → T (is_below x rows) → map.find path_cmp x rows ≡ None
find-below x [] h = refl
find-below x (e ∷ es) h =
    ap (λ b. cond b (Some e.1) (map.find path_cmp x es)) (not_eq (path_cmp x e.0) (first_of (is_lt (path_cmp x e.0)) (is_below x es) h)) ∙ find-below x es (second_of (is_lt (path_cmp x e.0)) (is_below x es) h)
  where
    not_eq : (o : Ordering) → T (is_lt o) → is_eq o ≡ false
    not_eq Less h = refl
    not_eq Equal h = absurd h
    not_eq Greater h = refl

-- a row that passes a test
record FoundRow (rows : Rows) (f : Path → Node → Bool) : Type 0 where
  path : Path
  node : Node
  found : map.find path_cmp path rows ≡ Some node
  holds : f path node ≡ true

any-row : (rows : Rows) (f : Path → Node → Bool) → T (is_sorted path_cmp rows) → list_any (λ (e : Path × Node). f e.0 e.1) rows ≡ true → FoundRow rows f
any-row [] f h g = cc
any-row (e ∷ es) f h g = elim (f e.0 e.1) as (λ b. f e.0 e.1 ≡ b → (b || list_any (λ (e : Path × Node). f e.0 e.1) es) ≡ true → FoundRow (e ∷ es) f) [
  | true ↦ λ k _. record { path = e.0; node = e.1; found = ap (λ b. cond b (Some e.1) (map.find path_cmp e.0 es)) (same_path-refl e.0); holds = k }
  | false ↦ λ k l.
      let r : FoundRow es f = any-row es f (second_of (is_below e.0 es) (is_sorted path_cmp es) h) l in
      record { path = r.path; node = r.node; found = other r.path r.node (same_path r.path e.0) refl r.found; holds = r.holds }
] refl g
  where
    other : (q : Path) (x : Node) (b : Bool) → same_path q e.0 ≡ b → map.find path_cmp q es ≡ Some x → cond b (Some e.1) (map.find path_cmp q es) ≡ Some x
    other q x false k l = l
    other q x true k l = let bad : None ≡ Some x = sym (find-below e.0 es (first_of (is_below e.0 es) (is_sorted path_cmp es) h)) ∙ ap (λ y. map.find path_cmp y es) (sym (same_path-true q e.0 k)) ∙ l in cc

row-any : (rows : Rows) (f : Path → Node → Bool) (q : Path) (x : Node) → map.find path_cmp q rows ≡ Some x → f q x ≡ true → list_any (λ (e : Path × Node). f e.0 e.1) rows ≡ true
row-any [] f q x h g = cc
row-any (e ∷ es) f q x h g = elim (same_path q e.0) as (λ b. same_path q e.0 ≡ b → cond b (Some e.1) (map.find path_cmp q es) ≡ Some x → (f e.0 e.1 || list_any (λ (e : Path × Node). f e.0 e.1) es) ≡ true) [
  | true ↦ λ k l. let is : e.1 ≡ x = cc l in ap (λ b. b || list_any (λ (e : Path × Node). f e.0 e.1) es) ((λ i. f (sym (same_path-true q e.0 k) i) (is i)) ∙ g)
  | false ↦ λ k l. ap (λ b. f e.0 e.1 || b) (row-any es f q x l g) ∙ or-true (f e.0 e.1)
] refl h

-- ---- the ids of rows that pass a test
abbrev of_kind : (List ℕ → Bool) → Id8 → Node → Bool
of_kind kind id n = kind n.text && same_id8 n.id id

lists-where : (kind : List ℕ → Bool) (rows : Rows) (id : Id8) → lists (map (λ (e : Path × Node). e.1.id) (filter (λ (e : Path × Node). kind e.1.text) rows)) id ≡ list_any (λ (e : Path × Node). of_kind kind id e.1) rows
lists-where kind [] id = refl
lists-where kind (e ∷ es) id = elim (kind e.1.text) as (λ b. lists (map (λ (e : Path × Node). e.1.id) (cond b (e ∷ filter (λ (e : Path × Node). kind e.1.text) es) (filter (λ (e : Path × Node). kind e.1.text) es))) id ≡ ((b && same_id8 e.1.id id) || list_any (λ (e : Path × Node). of_kind kind id e.1) es)) [
  | true ↦ ap (λ b. same_id8 e.1.id id || b) (lists-where kind es id)
  | false ↦ lists-where kind es id
]

any-filter : (f g : Path × Node → Bool) (rows : Rows) → list_any f (filter g rows) ≡ list_any (λ e. g e && f e) rows
any-filter f g [] = refl
any-filter f g (e ∷ es) = elim (g e) as (λ b. list_any f (cond b (e ∷ filter g es) (filter g es)) ≡ ((b && f e) || list_any (λ e. g e && f e) es)) [
  | true ↦ ap (λ b. f e || b) (any-filter f g es)
  | false ↦ any-filter f g es
]

lists_kind : (kind : List ℕ → Bool) (rows : Rows) (id : Id8) → lists (ids_of kind rows) id ≡ list_any (λ (e : Path × Node). of_kind kind id e.1) rows
lists_kind kind rows id = lists-in_order (map (λ (e : Path × Node). e.1.id) (filter (λ (e : Path × Node). kind e.1.text) rows)) id ∙ lists-where kind rows id

-- a node of a map that passes a test, and has a kind and an id
record HasRow (nodes : FinMap path_cmp Node) (test : Path → Node → Bool) (kind : List ℕ → Bool) (id : Id8) : Type 0 where
  path : Path
  node : Node
  found : get nodes path ≡ Some node
  passes : test path node ≡ true
  kind_of : kind node.text ≡ true
  same : node.id ≡ id

listed_row : (nodes : FinMap path_cmp Node) (test : Path → Node → Bool) (kind : List ℕ → Bool) (id : Id8)
    → (lists (ids_of kind (filter (λ (e : Path × Node). test e.0 e.1) (entries nodes))) id ≡ true) ↔ HasRow nodes test kind id
listed_row nodes test kind id = (to, from)
  where
    is : lists (ids_of kind (filter (λ (e : Path × Node). test e.0 e.1) (entries nodes))) id ≡ list_any (λ (e : Path × Node). test e.0 e.1 && of_kind kind id e.1) (entries nodes)
    is = lists_kind kind (filter (λ (e : Path × Node). test e.0 e.1) (entries nodes)) id ∙ any-filter (λ (e : Path × Node). of_kind kind id e.1) (λ (e : Path × Node). test e.0 e.1) (entries nodes)

    to : lists (ids_of kind (filter (λ (e : Path × Node). test e.0 e.1) (entries nodes))) id ≡ true → HasRow nodes test kind id
    to l =
        let r : FoundRow (entries nodes) (λ q x. test q x && of_kind kind id x) = any-row (entries nodes) (λ q x. test q x && of_kind kind id x) (entries_sorted nodes) (sym is ∙ l) in
        let k = second (test r.path r.node) (of_kind kind id r.node) r.holds in
        record {
          path = r.path;
          node = r.node;
          found = get-entries nodes r.path ∙ r.found;
          passes = first (test r.path r.node) (of_kind kind id r.node) r.holds;
          kind_of = first (kind r.node.text) (same_id8 r.node.id id) k;
          same = id-true r.node.id id (second (kind r.node.text) (same_id8 r.node.id id) k);
        }

    from : HasRow nodes test kind id → lists (ids_of kind (filter (λ (e : Path × Node). test e.0 e.1) (entries nodes))) id ≡ true
    from r =
        is ∙ row-any (entries nodes) (λ q x. test q x && of_kind kind id x) r.path r.node (sym (get-entries nodes r.path) ∙ r.found)
        (both (test r.path r.node) _ r.passes (both (kind r.node.text) _ r.kind_of (ap (λ x. same_id8 x id) r.same ∙ id-refl id)))

-- the same without a test
added_row : (nodes : FinMap path_cmp Node) (kind : List ℕ → Bool) (id : Id8) → (lists (ids_of kind (entries nodes)) id ≡ true) ↔ HasRow nodes (λ q x. true) kind id
added_row nodes kind id = (to, from)
  where
    to : lists (ids_of kind (entries nodes)) id ≡ true → HasRow nodes (λ q x. true) kind id
    to l =
        let r : FoundRow (entries nodes) (λ q x. of_kind kind id x) = any-row (entries nodes) (λ q x. of_kind kind id x) (entries_sorted nodes) (sym (lists_kind kind (entries nodes) id) ∙ l) in
        record {
          path = r.path;
          node = r.node;
          found = get-entries nodes r.path ∙ r.found;
          passes = refl;
          kind_of = first (kind r.node.text) (same_id8 r.node.id id) r.holds;
          same = id-true r.node.id id (second (kind r.node.text) (same_id8 r.node.id id) r.holds);
        }

    from : HasRow nodes (λ q x. true) kind id → lists (ids_of kind (entries nodes)) id ≡ true
    from r =
        lists_kind kind (entries nodes) id ∙ row-any (entries nodes) (λ q x. of_kind kind id x) r.path r.node (sym (get-entries nodes r.path) ∙ r.found)
        (both (kind r.node.text) _ r.kind_of (ap (λ x. same_id8 x id) r.same ∙ id-refl id))

kinds-rise : (kind : List ℕ → Bool) (rows : Rows) → IdsAscend (ids_of kind rows)
kinds-rise kind rows = ids-rise (map (λ (e : Path × Node). e.1.id) (filter (λ (e : Path × Node). kind e.1.text) rows))

-- ---- entries
some-map : {A B : Type 0} (f : A → B) (o : Option A) → is_some (option_map f o) ≡ is_some o
some-map f None = refl
some-map f (Some x) = refl

absorbed : (l x : Bool) → (x || (l && x)) ≡ x
absorbed l true = refl
absorbed true false = refl
absorbed false false = refl

module _ {P : Type 0} where
  find-any : (f : HeldEntry P → Bool) (rows : List (HeldEntry P)) → is_some (find f rows) ≡ list_any f rows
  find-any f [] = refl
  find-any f (e ∷ es) = elim (f e) as (λ b. is_some (cond b (Some e) (find f es)) ≡ (b || list_any f es)) [ true ↦ refl | false ↦ find-any f es ]

  lists-indices : (rows : List (HeldEntry P)) (id : Id8) (i : Index) → lists_index (indices_of rows id) i ≡ list_any (λ (e : HeldEntry P). same_id8 e.0 id && same_numbers e.1 i) rows
  lists-indices [] id i = refl
  lists-indices (e ∷ es) id i = elim (same_id8 e.0 id) as (λ b. lists_index (map (λ (e : HeldEntry P). e.1) (cond b (e ∷ filter (λ (e : HeldEntry P). same_id8 e.0 id) es) (filter (λ (e : HeldEntry P). same_id8 e.0 id) es))) i ≡ ((b && same_numbers e.1 i) || list_any (λ (e : HeldEntry P). same_id8 e.0 id && same_numbers e.1 i) es)) [
    | true ↦ ap (λ b. same_numbers e.1 i || b) (lists-indices es id i)
    | false ↦ lists-indices es id i
  ]

  -- an array with an entry at some index has one
  entry-any : (rows : List (HeldEntry P)) (id : Id8) (i : Index) → list_any (λ (e : HeldEntry P). same_id8 e.0 id && same_numbers e.1 i) rows ≡ true → list_any (λ (e : HeldEntry P). same_id8 e.0 id) rows ≡ true
  entry-any [] id i h = cc
  entry-any (e ∷ es) id i h = elim (same_id8 e.0 id) as (λ b. ((b && same_numbers e.1 i) || list_any (λ (e : HeldEntry P). same_id8 e.0 id && same_numbers e.1 i) es) ≡ true → (b || list_any (λ (e : HeldEntry P). same_id8 e.0 id) es) ≡ true) [
    | true ↦ λ _. refl
    | false ↦ λ k. entry-any es id i k
  ] h

  abbrev listed : List (HeldEntry P) → Id8 → ArrayChunks
  listed rows id = record { node = id; chunks = indices_in_order (indices_of rows id) }

  lists-chunks : (rows : List (HeldEntry P)) (ids : List Id8) (id : Id8) (i : Index) → lists_chunk (map (listed rows) ids) id i ≡ (lists ids id && lists_index (indices_in_order (indices_of rows id)) i)
  lists-chunks rows [] id i = refl
  lists-chunks rows (x ∷ xs) id i = elim (same_id8 x id) as (λ b. same_id8 x id ≡ b → ((b && lists_index (indices_in_order (indices_of rows x)) i) || lists_chunk (map (listed rows) xs) id i) ≡ ((b || lists xs id) && lists_index (indices_in_order (indices_of rows id)) i)) [
    | true ↦ λ e.
        (λ j. lists_index (indices_in_order (indices_of rows (id-true x id e j))) i || lists-chunks rows xs id i j) ∙ absorbed (lists xs id) (lists_index (indices_in_order (indices_of rows id)) i)
    | false ↦ λ e. lists-chunks rows xs id i
  ] refl

  listed-nodes : (rows : List (HeldEntry P)) (ids : List Id8) → map (λ (array : ArrayChunks). array.node) (map (listed rows) ids) ≡ ids
  listed-nodes rows [] = refl
  listed-nodes rows (x ∷ xs) = λ i. x ∷ listed-nodes rows xs i

  listed-chunks : (rows : List (HeldEntry P)) (ids : List Id8) → AllByRecursion (λ (array : ArrayChunks). IndicesAscend array.chunks) (map (listed rows) ids)
  listed-chunks rows [] = tt
  listed-chunks rows (x ∷ xs) = (indices-rise (indices_of rows x), listed-chunks rows xs)

  pub ordered-law : OrderedLaw P
  ordered-law h nodes = record {
    new_groups = kinds-rise is_group (entries h.added);
    new_arrays = kinds-rise is_array (entries h.added);
    deleted_groups = kinds-rise is_group (gone_rows h nodes);
    deleted_arrays = kinds-rise is_array (gone_rows h nodes);
    updated_arrays = kinds-rise is_array (updated_rows h nodes);
    updated_groups = kinds-rise is_group (updated_rows h nodes);
    arrays = subst IdsAscend (sym (listed-nodes h.chunks (ids_of is_array (written_rows h nodes)))) (kinds-rise is_array (written_rows h nodes));
    chunks = listed-chunks h.chunks (ids_of is_array (written_rows h nodes));
  }

  pub touched-law : TouchedLaw P
  touched-law bytes_at h t = record {
    new_groups = new is_group;
    new_arrays = new is_array;
    deleted_groups = deleted is_group;
    deleted_arrays = deleted is_array;
    updated_arrays = updated is_array;
    updated_groups = updated is_group;
    updated_chunks = λ id i. (chunk_to id i, chunk_from id i);
  }
    where
      new : (kind : List ℕ → Bool) (id : Id8) → (lists (ids_of kind (entries h.added)) id ≡ true) ↔ IsNew (changes_of bytes_at h) kind id
      new kind id = (
        λ l. let r = (added_row h.added kind id).0 l in record { path = r.path; node = r.node; added = r.found; same = r.same; kind_of = r.kind_of },
        λ n. (added_row h.added kind id).1 (record { path = n.path; node = n.node; found = n.added; passes = refl; kind_of = n.kind_of; same = n.same }),
      )

      deleted : (kind : List ℕ → Bool) (id : Id8) → (lists (ids_of kind (gone_rows h t.nodes)) id ≡ true) ↔ IsDeleted (changes_of bytes_at h) t kind id
      deleted kind id = (
        λ l.
            let r = (listed_row t.nodes (λ q x. is_gone (lists h.dropped) t.nodes q) kind id).0 l in
            record { path = r.path; node = r.node; found = r.found; same = r.same; kind_of = r.kind_of; gone = r.passes },
        λ d. (listed_row t.nodes (λ q x. is_gone (lists h.dropped) t.nodes q) kind id).1 (record { path = d.path; node = d.node; found = d.found; passes = d.gone; kind_of = d.kind_of; same = d.same }),
      )

      changes : Path → Node → Bool
      changes q x = has_id x.id (get (nodes_over h t.nodes) q) && is_some (meta_in h.metas x.id)

      updated : (kind : List ℕ → Bool) (id : Id8) → (lists (ids_of kind (updated_rows h t.nodes)) id ≡ true) ↔ IsUpdated (changes_of bytes_at h) t kind id
      updated kind id = (
        λ l.
            let r = (listed_row t.nodes changes kind id).0 l in
            let both_of = ap (λ x. has_id x (get (nodes_over h t.nodes) r.path) && is_some (meta_in h.metas x)) (sym r.same) ∙ r.passes in
            record {
              path = r.path;
              node = r.node;
              found = r.found;
              same = r.same;
              kind_of = r.kind_of;
              stays = first (has_id id (get (nodes_over h t.nodes) r.path)) (is_some (meta_in h.metas id)) both_of;
              updated = second (has_id id (get (nodes_over h t.nodes) r.path)) (is_some (meta_in h.metas id)) both_of;
            },
        λ u. (listed_row t.nodes changes kind id).1 (record {
          path = u.path;
          node = u.node;
          found = u.found;
          passes = ap (λ x. has_id x (get (nodes_over h t.nodes) u.path) && is_some (meta_in h.metas x)) u.same ∙ both (has_id id (get (nodes_over h t.nodes) u.path)) _ u.stays u.updated;
          kind_of = u.kind_of;
          same = u.same;
        }),
      )

      writes : Path → Node → Bool
      writes q x = list_any (λ (e : HeldEntry P). same_id8 e.0 x.id) h.chunks

      parts : (id : Id8) (i : Index) → lists_chunk (touched h t.nodes).updated_chunks id i ≡ (lists (ids_of is_array (written_rows h t.nodes)) id && list_any (λ (e : HeldEntry P). same_id8 e.0 id && same_numbers e.1 i) h.chunks)
      parts id i =
          lists-chunks h.chunks (ids_of is_array (written_rows h t.nodes)) id i
          ∙ ap (λ b. lists (ids_of is_array (written_rows h t.nodes)) id && b) (lists_index-in_order (indices_of h.chunks id) i ∙ lists-indices h.chunks id i)

      entry_is : (id : Id8) (i : Index) → is_some ((changes_of bytes_at h).chunks id i) ≡ list_any (λ (e : HeldEntry P). same_id8 e.0 id && same_numbers e.1 i) h.chunks
      entry_is id i = some-map _ (entry_in h.chunks id i) ∙ some-map _ (find (λ (e : HeldEntry P). same_id8 e.0 id && same_numbers e.1 i) h.chunks) ∙ find-any (λ (e : HeldEntry P). same_id8 e.0 id && same_numbers e.1 i) h.chunks

      chunk_to : (id : Id8) (i : Index) → lists_chunk (touched h t.nodes).updated_chunks id i ≡ true → IsUpdatedChunk (changes_of bytes_at h) t id i
      chunk_to id i l =
          let both_of = sym (parts id i) ∙ l in
          let r = (listed_row (nodes_over h t.nodes) writes is_array id).0 (first (lists (ids_of is_array (written_rows h t.nodes)) id) _ both_of) in
          record { path = r.path; node = r.node; found = r.found; same = r.same; kind_of = r.kind_of; entry = entry_is id i ∙ second (lists (ids_of is_array (written_rows h t.nodes)) id) _ both_of }

      chunk_from : (id : Id8) (i : Index) → IsUpdatedChunk (changes_of bytes_at h) t id i → lists_chunk (touched h t.nodes).updated_chunks id i ≡ true
      chunk_from id i u =
          let e = sym (entry_is id i) ∙ u.entry in
          let row = (listed_row (nodes_over h t.nodes) writes is_array id).1 (record {
            path = u.path;
            node = u.node;
            found = u.found;
            passes = ap (λ x. list_any (λ (e : HeldEntry P). same_id8 e.0 x) h.chunks) u.same ∙ entry-any h.chunks id i e;
            kind_of = u.kind_of;
            same = u.same;
          }) in
          parts id i ∙ both (lists (ids_of is_array (written_rows h t.nodes)) id) _ row e
