-- Where all that a base's rows name is readable, so is all that a commit's rows name.
use Rattle.std.proofs.Common.{◌≡◌, ℕ, eqb, eqb-true, Bool, true, false, cond, not, List, [], ◌∷◌, length, refl, sym, ◌∙◌, ap, subst, arith}
use Rattle.std.specs.Prelude.{Option, Some, None, IsSome, find, option_map, bytes_eq}
use Rattle.std.specs.Option.{unwrap_or}
use Rattle.std.specs.List.{Contains, AllByRecursion}
use Rattle.std.proofs.lemmas.List.Elements.{All-contains, All-from_recursion}
use Rattle.std.specs.FinMap.{get}
use Rattle.ice_ids.specs.Text.{same_id8}
use Rattle.zarr_path.specs.Paths.{same_path}
use Rattle.zarr_tree.proofs.Apply.{id-true}
use Rattle.zarr_meta.specs.declared.views.ArrayView.{ArrayView}
use Rattle.zarr_meta.specs.declared.views.MetaView.{MetaView}
use Rattle.zarr_meta.specs.declared.views.MetaView.TheVariants as view
use Rattle.zarr_meta.specs.Meta.{view_in}
use Rattle.zarr_tree.specs.declared.edit.Frozen.{Frozen}
use Rattle.zarr_tree.specs.Nodes.{Node, SameFrozen, array_of_view, array_in, array_change, view_change}
use Rattle.zarr_tree.specs.Held.{Held, HeldEntry, entry_in, nodes_over}
use Rattle.zarr_changes.specs.Sets.{chunks_of, has_chunks, changed_arrays}
use Rattle.manifest_file.specs.declared.manifest.Place.{Place}
use Rattle.held_manifest.specs.LookUp.{Listed, look_up, chunk_place}
use Rattle.manifest_index.specs.Merging.{merged}
use Rattle.snapshot_file.specs.declared.nodes.ManifestRef.{ManifestRef}
use Rattle.snapshot_file.specs.declared.nodes.NodeRow.{NodeRow}
use Rattle.snapshot_file.specs.Snapshots.{manifests_named}
use Rattle.repo_objects.specs.Trees.{Puts, manifest_put, or_empty, listed, bytes_at, place_in, place_under, nodes_in, node_of, row_at, Extends, IsReadable}
use Rattle.changed_snapshot.specs.declared.new_snapshot.NewList.{NewList}
use Rattle.changed_snapshot.specs.Rows.{refs_of, manifests_for, own_manifests, kind_of, row_of, row_from, rows_over}
use Rattle.changed_snapshot.specs.Laws.{KeepsFrozen}
use Rattle.repo_objects.proofs.Rows.{node_at_row}
use Rattle.changed_snapshot.proofs.Found.{by_list, row_made, new_row}
use Rattle.changed_snapshot.proofs.Entered.{first-entry}
use Rattle.commit_path.specs.Owed.{HasChunks}
use Rattle.commit_path.proofs.Putting.{bytes-extend}
use Rattle.commit_path.proofs.Rewriting.{AreRead, AreListsOf, found-list, each-changed, are-merged}
use Rattle.commit_path.proofs.Having.{no-chunks, here, there}

pub is_there : {A : Type 0} (o : Option A) (x : A) → o ≡ Some x → IsSome o
is_there o x e = rw e refl

pub some_of : {A : Type 0} (o : Option A) → IsSome o → (x : A) × (o ≡ Some x)
some_of None s = absurd cc
some_of (Some x) s = (x, refl)

none-among : {A : Type 0} (x : A) → Contains [] x → ⊥
none-among x c = let below = c.1 in omega (arith, below)

-- ---- one row
-- all that a row names is readable
pub record RowIsReadable (puts : Puts) (row : NodeRow) : Type 0 where
  pub manifests : (m : ManifestRef) → Contains (manifests_named row.kind) m → IsSome (manifest_put puts m.id)
  pub chunks : (i : List ℕ) (place : Place) → place_under puts row i ≡ Some place → IsSome (bytes_at puts place)

module _ (puts : Puts) where
  abbrev AreThere : List ManifestRef → Type 0
  AreThere refs = (m : ManifestRef) → Contains refs m → IsSome (manifest_put puts m.id)

  module _ (p : List ℕ) (n : Node) (refs : List ManifestRef) where
    abbrev HasPlaces : Type 0
    HasPlaces = (array : ArrayView) → array_in n.text ≡ Some array → (i : List ℕ) (place : Place) → chunk_place (length array.shape) n.id i (listed puts refs) ≡ Some place → IsSome (bytes_at puts place)

    named-manifests : AreThere refs → (a : Option ArrayView) → AreThere (manifests_named (kind_of a refs))
    named-manifests there None m c = absurd (none-among m c)
    named-manifests there (Some array) m c = there m c

    named-chunks : HasPlaces → (a : Option ArrayView) → array_in n.text ≡ a → (i : List ℕ) (place : Place) → place_in puts (record { id = n.id; path = p; user_data = n.text; kind = kind_of a refs }) i a ≡ Some place → IsSome (bytes_at puts place)
    named-chunks has None e i place k = absurd cc
    named-chunks has (Some array) e i place k = has array e i place k

    -- the row of a node with a list of manifests
    row-of : ((m : ManifestRef) → Contains refs m → IsSome (manifest_put puts m.id))
        → ((array : ArrayView) → array_in n.text ≡ Some array → (i : List ℕ) (place : Place) → chunk_place (length array.shape) n.id i (listed puts refs) ≡ Some place → IsSome (bytes_at puts place))
        → RowIsReadable puts (row_of p n refs)
    row-of there has = record { manifests = named-manifests there (array_in n.text); chunks = named-chunks has (array_in n.text) refl }

  row-bare : (p : List ℕ) (n : Node) → RowIsReadable puts (row_of p n [])
  row-bare p n = row-of p n [] (λ m c. absurd (none-among m c)) (λ array e i place k. let none = no-chunks (length array.shape) n.id i in absurd cc)

  -- ---- what the base has of a node
  same_rank : (a b : ArrayView) → array_change a b ≡ None → length a.shape ≡ length b.shape
  same_rank a b h = eqb-true _ _ (tested (eqb (length a.shape) (length b.shape)) _ _ h)
    where
      tested : (b : Bool) (f : Frozen) (r : Option Frozen) → cond (not b) (Some f) r ≡ None → b ≡ true
      tested true f r h = refl
      tested false f r h = cc

  module _ (row : NodeRow) (n : Node) (same : row.id ≡ n.id) (array : ArrayView) (i : List ℕ) (place : Place) where
    by_view : (m v : Option MetaView) → view_change m v ≡ None → array_of_view v ≡ Some array → (place_in puts row i (array_of_view m) ≡ Some place → IsSome (bytes_at puts place))
        → chunk_place (length array.shape) n.id i (listed puts (manifests_named row.kind)) ≡ Some place → IsSome (bytes_at puts place)
    by_view m None h e f k = absurd cc
    by_view m (Some view.Group) h e f k = absurd cc
    by_view None (Some (view.Array b)) h e f k = absurd cc
    by_view (Some view.Group) (Some (view.Array b)) h e f k = absurd cc
    by_view (Some (view.Array a)) (Some (view.Array b)) h e f k =
        let is : b ≡ array = cc in
        let rank : length a.shape ≡ length array.shape = same_rank a b h ∙ ap (λ (v : ArrayView). length v.shape) is in
        f ((λ j. chunk_place (rank j) (same j) i (listed puts (manifests_named row.kind))) ∙ k)

    -- a place that the base's manifests give for the same node with another text
    same-node : SameFrozen row.user_data n.text → array_in n.text ≡ Some array → (place_under puts row i ≡ Some place → IsSome (bytes_at puts place))
        → chunk_place (length array.shape) n.id i (listed puts (manifests_named row.kind)) ≡ Some place → IsSome (bytes_at puts place)
    same-node frozen e f k = by_view (view_in row.user_data) (view_in n.text) frozen e f k

  module _ (rows : List NodeRow) (base : IsReadable puts rows) (p : List ℕ) (n : Node) (frozen : (row : NodeRow) → row_at rows p ≡ Some row → row.id ≡ n.id → SameFrozen row.user_data n.text) where
    base-chunk : (array : ArrayView) → array_in n.text ≡ Some array → (i : List ℕ) (place : Place) → (row : NodeRow) → row_at rows p ≡ Some row → row.id ≡ n.id
        → chunk_place (length array.shape) n.id i (listed puts (manifests_named row.kind)) ≡ Some place → IsSome (bytes_at puts place)
    base-chunk array e i place row there same k = same-node row n same array i place (frozen row there same) e (base.chunks p i row place there) k

    pub own-chunk : (array : ArrayView) → array_in n.text ≡ Some array → (i : List ℕ) (place : Place) → chunk_place (length array.shape) n.id i (listed puts (own_manifests rows p n.id)) ≡ Some place → IsSome (bytes_at puts place)
    own-chunk array e i place = by_row (row_at rows p) refl
      where
        by_row : (o : Option NodeRow) → row_at rows p ≡ o → chunk_place (length array.shape) n.id i (listed puts (manifests_for n.id o)) ≡ Some place → IsSome (bytes_at puts place)
        by_row None there k = let none = no-chunks (length array.shape) n.id i in absurd cc
        by_row (Some row) there k = elim (same_id8 row.id n.id) as (λ b. same_id8 row.id n.id ≡ b → chunk_place (length array.shape) n.id i (listed puts (cond b (manifests_named row.kind) [])) ≡ Some place → IsSome (bytes_at puts place)) [
          | true ↦ λ s h. base-chunk array e i place row there (id-true row.id n.id s) h
          | false ↦ λ s h. let none = no-chunks (length array.shape) n.id i in absurd cc
        ] refl k

    -- the row that the node keeps
    row-kept : RowIsReadable puts (row_from p n (row_at rows p))
    row-kept = by_row (row_at rows p) refl
      where
        by_text : (row : NodeRow) → row_at rows p ≡ Some row → row.id ≡ n.id → (b : Bool) → RowIsReadable puts (cond b row (row_of p n (manifests_named row.kind)))
        by_text row there same true = record { manifests = λ m c. base.manifests p row m there c; chunks = λ i place k. base.chunks p i row place there k }
        by_text row there same false = row-of p n (manifests_named row.kind) (λ m c. base.manifests p row m there c) (λ array e i place k. base-chunk array e i place row there same k)

        by_row : (o : Option NodeRow) → row_at rows p ≡ o → RowIsReadable puts (row_from p n o)
        by_row None there = row-bare p n
        by_row (Some row) there = elim (same_id8 row.id n.id) as (λ b. same_id8 row.id n.id ≡ b → RowIsReadable puts (cond b (cond (bytes_eq row.user_data n.text) row (row_of p n (manifests_named row.kind))) (row_of p n []))) [
          | true ↦ λ s. by_text row there (id-true row.id n.id s) (bytes_eq row.user_data n.text)
          | false ↦ λ s. row-bare p n
        ] refl

    -- ---- a new list
    -- a place that the entries or the base's manifests give
    merged-place : (es : List (HeldEntry Place)) → HasChunks puts es → (array : ArrayView) → array_in n.text ≡ Some array → (i : List ℕ) (place : Place)
        → merged (length array.shape) n.id (listed puts (own_manifests rows p n.id)) (chunks_of es n.id) i ≡ Some place → IsSome (bytes_at puts place)
    merged-place es has array e i place k =
        by_entry (entry_in es n.id i) refl (eqb (length i) (length array.shape)) (own-chunk array e i place)
        (ap (λ entry. cond (eqb (length i) (length array.shape)) (unwrap_or entry (look_up n.id i (listed puts (own_manifests rows p n.id)))) None) (sym (first-entry es n.id i)) ∙ k)
      where
        by_entry : (o : Option (Option Place)) → entry_in es n.id i ≡ o → (b : Bool) → (cond b (look_up n.id i (listed puts (own_manifests rows p n.id))) None ≡ Some place → IsSome (bytes_at puts place))
            → cond b (unwrap_or o (look_up n.id i (listed puts (own_manifests rows p n.id)))) None ≡ Some place → IsSome (bytes_at puts place)
        by_entry None here b f h = f h
        by_entry (Some q) here false f h = absurd cc
        by_entry (Some None) here true f h = absurd cc
        by_entry (Some (Some q)) here true f h =
            let same : q ≡ place = cc in
            let bytes = has n.id i q here in
            subst (λ (x : Place). IsSome (bytes_at puts x)) same (is_there (bytes_at puts q) bytes.0 bytes.1)

-- manifests that are read are there
read-there : (puts : Puts) (refs : List ManifestRef) (new : List Listed) → AreRead puts refs new → AllByRecursion (λ (m : ManifestRef). IsSome (manifest_put puts m.id)) refs
read-there puts [] [] z = tt
read-there puts [] (y ∷ ys) z = absurd z
read-there puts (m ∷ ms) [] z = absurd z
read-there puts (m ∷ ms) (l ∷ ls) z = (is_there (manifest_put puts m.id) l.1 z.0.put, read-there puts ms ls z.1)

-- ---- the rows
module _ (puts : Puts) (h : Held Place) (news : List NewList) (rows : List NodeRow) (base : IsReadable puts rows) (has : HasChunks puts h.chunks) (frozen : KeepsFrozen h rows)
    (lists : AreListsOf puts rows h.chunks (changed_arrays h (nodes_in rows)) news) where
  abbrev Stays : List ℕ → Node → Type 0
  Stays p n = (row : NodeRow) → row_at rows p ≡ Some row → row.id ≡ n.id → SameFrozen row.user_data n.text

  stays : (p : List ℕ) (n : Node) → get (nodes_over h (nodes_in rows)) p ≡ Some n → Stays p n
  stays p n is row there same = frozen p (node_of row) n (node_at_row rows p ∙ ap (option_map node_of) there) is same

  row-written : (p : List ℕ) (n : Node) → get (nodes_over h (nodes_in rows)) p ≡ Some n → (list : NewList) → find (λ (x : NewList). same_path x.path p) news ≡ Some list → RowIsReadable puts (row_of p n (refs_of list.manifest))
  row-written p n found list e =
      let l = found-list puts h rows (changed_arrays h (nodes_in rows)) news lists (each-changed h (nodes_in rows)) p list e in
      let node : l.changed.node ≡ n = cc (sym l.changed.found ∙ ap (get (nodes_over h (nodes_in rows))) l.path ∙ found) in
      row-of puts p n (refs_of list.manifest)
      (λ m c. All-contains (λ (m : ManifestRef). IsSome (manifest_put puts m.id)) (refs_of list.manifest) m (All-from_recursion _ (refs_of list.manifest) (read-there puts (refs_of list.manifest) l.list.new l.list.is)) c)
      (λ array is i place k.
      let t = (are-merged puts h rows news lists).written p n array found is (subst (λ (m : Node). has_chunks h.chunks m.id ≡ true) node l.changed.has) in
      let refs : refs_of list.manifest ≡ t.refs = cc (sym (ap (option_map (λ (x : NewList). refs_of x.manifest)) e) ∙ t.has) in
      merged-place puts rows base p n (stays p n found) h.chunks has array is i place (sym (t.gives i) ∙ ap (λ (r : List ManifestRef). chunk_place (length array.shape) n.id i (listed puts r)) (sym refs) ∙ k))

  row-made : (p : List ℕ) (n : Node) → get (nodes_over h (nodes_in rows)) p ≡ Some n → RowIsReadable puts (row_made news rows p n)
  row-made p n found = by_list news rows (RowIsReadable puts) p n (row-kept puts rows base p n (stays p n found)) (row-written p n found)

  row-there : (p : List ℕ) (row : NodeRow) → row_at (rows_over h news rows) p ≡ Some row → RowIsReadable puts row
  row-there p row e = by_node (get (nodes_over h (nodes_in rows)) p) refl (sym (new_row h news rows p) ∙ e)
    where
      by_node : (o : Option Node) → get (nodes_over h (nodes_in rows)) p ≡ o → option_map (row_made news rows p) o ≡ Some row → RowIsReadable puts row
      by_node None found k = absurd cc
      by_node (Some n) found k = let same : row_made news rows p n ≡ row = cc in subst (RowIsReadable puts) same (row-made p n found)

  pub over-readable : IsReadable puts (rows_over h news rows)
  over-readable = record { manifests = λ p row m there c. (row-there p row there).manifests m c; chunks = λ p i row place there k. (row-there p row there).chunks i place k }

-- ---- what is readable stays so
module _ (p q : Puts) (more : Extends p q) where
  listed-same : (refs : List ManifestRef) → ((m : ManifestRef) → Contains refs m → IsSome (manifest_put p m.id)) → listed q refs ≡ listed p refs
  listed-same [] h = refl
  listed-same (m ∷ ms) h =
      let x = some_of (manifest_put p m.id) (h m (here m ms)) in
      let same : manifest_put q m.id ≡ manifest_put p m.id = more.manifests m.id x.0 x.1 ∙ sym x.1 in
      λ j. (m.extents, or_empty m.id (same j)) ∷ listed-same ms (λ n c. h n (there n m ms c)) j

  place-same : (row : NodeRow) (i : List ℕ) → ((m : ManifestRef) → Contains (manifests_named row.kind) m → IsSome (manifest_put p m.id)) → place_under q row i ≡ place_under p row i
  place-same row i h = by_array (array_in row.user_data)
    where
      by_array : (a : Option ArrayView) → place_in q row i a ≡ place_in p row i a
      by_array None = refl
      by_array (Some array) = ap (chunk_place (length array.shape) row.id i) (listed-same (manifests_named row.kind) h)

  pub readable-extend : (rows : List NodeRow) → IsReadable p rows → IsReadable q rows
  readable-extend rows r = record {
    manifests = λ path row m there c. let x = some_of (manifest_put p m.id) (r.manifests path row m there c) in is_there (manifest_put q m.id) x.0 (more.manifests m.id x.0 x.1);
    chunks = λ path i row place there k.
        let x = some_of (bytes_at p place) (r.chunks path i row place there (sym (place-same row i (λ m c. r.manifests path row m there c)) ∙ k)) in
        is_there (bytes_at q place) x.0 (bytes-extend p q more place x.0 x.1);
  }

-- no rows name anything
pub nothing-readable : (puts : Puts) → IsReadable puts []
nothing-readable puts = record { manifests = λ p row m there c. absurd cc; chunks = λ p i row place there k. absurd cc }
