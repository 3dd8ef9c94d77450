-- Where the new lists are what the changes ask for, the tree of the rows is the base's tree under the changes.
use Rattle.std.proofs.Common.{◌≡◌, ◌∙◌, ℕ, eqb, eqb-true, eq-eqb, Bool, true, false, cond, ◌&&◌, List, [], length, not, Option, Some, None, is_some, option_map, refl, sym, ap}
use Rattle.std.specs.Option.{option_and_then, unwrap_or}
use Rattle.std.specs.Str.{bytes_eq}
use Rattle.std.specs.FinMap.{get}
use Rattle.std.proofs.lemmas.Slice.Eq.{bytes_eq-Decides}
use Rattle.ice_ids.specs.Text.{same_id8}
use Rattle.ice_ids.proofs.TextLaws.{same_id8-true}
use Rattle.zarr_meta.specs.declared.views.ArrayView.{ArrayView}
use Rattle.zarr_meta.specs.declared.views.MetaView.{MetaView}
use Rattle.zarr_meta.specs.declared.views.MetaView.TheVariants as view
use Rattle.zarr_meta.specs.Meta.{view_in}
use Rattle.zarr_tree.specs.declared.edit.Frozen.{Frozen}
use Rattle.zarr_tree.specs.Nodes.{Node, SameFrozen, array_of_view, array_in, is_array, array_change, view_change}
use Rattle.zarr_tree.specs.Changes.{own_chunk, chunk_of, apply}
use Rattle.zarr_tree.specs.Held.{Held, HeldEntry, changes_of, entry_in, nodes_over}
use Rattle.zarr_tree.proofs.Maps.{Path, Index}
use Rattle.zarr_tree.proofs.Apply.{first, second}
use Rattle.zarr_changes.specs.Sets.{chunks_of, has_chunks}
use Rattle.manifest_file.specs.declared.manifest.Place.{Place}
use Rattle.held_manifest.specs.LookUp.{look_up, chunk_place}
use Rattle.manifest_index.specs.Merging.{merged}
use Rattle.snapshot_file.specs.declared.nodes.ManifestRef.{ManifestRef}
use Rattle.snapshot_file.specs.declared.nodes.NodeRow.{NodeRow}
use Rattle.snapshot_file.specs.Snapshots.{manifests_named}
use Rattle.repo_objects.specs.Trees.{Puts, bytes_at, node_of, nodes_in, row_at, listed, place_in, chunk_under, tree_under}
use Rattle.changed_snapshot.specs.declared.new_snapshot.NewList.{NewList}
use Rattle.changed_snapshot.specs.Rows.{new_list, manifests_for, kind_of, row_of, row_from, row_over, rows_over}
use Rattle.changed_snapshot.specs.Laws.{HasMerged, TreeLaw}
use Rattle.repo_objects.proofs.Rows.{node_at_row}
use Rattle.changed_snapshot.proofs.Found.{row_made, new_row}
use Rattle.changed_snapshot.proofs.Entered.{first-entry, no-entry}
use Rattle.changed_snapshot.proofs.NodesHold.{nodes_hold}

module _ (puts : Puts) (i : Index) where
  -- a row without manifests has no chunk
  bare : (p : Path) (n : Node) → chunk_under puts i (Some (row_of p n [])) ≡ None
  bare p n = by_array (array_in n.text)
    where
      by_array : (a : Option ArrayView) → option_and_then (bytes_at puts) (place_in puts (record { id = n.id; path = p; user_data = n.text; kind = kind_of a [] }) i a) ≡ None
      by_array None = refl
      by_array (Some array) = elim (eqb (length i) (length array.shape)) as (λ b. option_and_then (bytes_at puts) (cond b (look_up n.id i []) None) ≡ None) [ true ↦ refl | false ↦ refl ]

  -- a chunk where there is an array
  abbrev at_array : Bool → Option (List ℕ) → Option (List ℕ)
  at_array b bytes = cond b bytes None

  nothing_there : (b : Bool) → at_array b None ≡ None
  nothing_there true = refl
  nothing_there false = refl

  -- the row itself
  kept : (row : NodeRow) → chunk_under puts i (Some row) ≡ at_array (is_array row.user_data) (chunk_under puts i (Some row))
  kept row = by_array (array_in row.user_data)
    where
      by_array : (a : Option ArrayView) → option_and_then (bytes_at puts) (place_in puts row i a) ≡ at_array (is_some a) (option_and_then (bytes_at puts) (place_in puts row i a))
      by_array None = refl
      by_array (Some array) = refl

  -- the same node with another text, of the same rank where it is an array's
  same_rank : (a b : ArrayView) → array_change a b ≡ None → length a.shape ≡ length b.shape
  same_rank a b h = eqb-true _ _ (tested (eqb (length a.shape) (length b.shape)) _ _ h)
    where
      tested : (b : Bool) (f : Frozen) (r : Option Frozen) → cond (not b) (Some f) r ≡ None → b ≡ true
      tested true f r h = refl
      tested false f r h = cc

  changed_view : (p : Path) (n : Node) (row : NodeRow) (m v : Option MetaView) → row.id ≡ n.id → view_change m v ≡ None
      → option_and_then (bytes_at puts) (place_in puts (record { id = n.id; path = p; user_data = n.text; kind = kind_of (array_of_view v) (manifests_named row.kind) }) i (array_of_view v))
      ≡ at_array (is_some (array_of_view v)) (option_and_then (bytes_at puts) (place_in puts row i (array_of_view m)))
  changed_view p n row m None same h = refl
  changed_view p n row m (Some view.Group) same h = refl
  changed_view p n row None (Some (view.Array b)) same h = cc
  changed_view p n row (Some view.Group) (Some (view.Array b)) same h = cc
  changed_view p n row (Some (view.Array a)) (Some (view.Array b)) same h =
      λ j. option_and_then (bytes_at puts) (chunk_place (sym (same_rank a b h) j) (sym same j) i (listed puts (manifests_named row.kind)))

  changed : (p : Path) (n : Node) (row : NodeRow) → row.id ≡ n.id → SameFrozen row.user_data n.text
      → chunk_under puts i (Some (row_of p n (manifests_named row.kind))) ≡ at_array (is_array n.text) (chunk_under puts i (Some row))
  changed p n row same frozen = changed_view p n row (view_in row.user_data) (view_in n.text) same frozen

  -- the row of a node has the chunk of the old row, where that one is of the same node
  row_chunk : (p : Path) (n : Node) (old : Option NodeRow) → ((row : NodeRow) → old ≡ Some row → row.id ≡ n.id → SameFrozen row.user_data n.text)
      → chunk_under puts i (Some (row_from p n old)) ≡ at_array (is_array n.text) (own_chunk (option_map node_of old) n.id (chunk_under puts i old))
  row_chunk p n None frozen = bare p n ∙ sym (nothing_there (is_array n.text))
  row_chunk p n (Some row) frozen = by_id (same_id8 row.id n.id) refl
    where
      by_text : row.id ≡ n.id → (b : Bool) → bytes_eq row.user_data n.text ≡ b
          → chunk_under puts i (Some (cond b row (row_of p n (manifests_named row.kind)))) ≡ at_array (is_array n.text) (chunk_under puts i (Some row))
      by_text same true e =
          let text : row.user_data ≡ n.text = (bytes_eq-Decides row.user_data n.text).0 e in
          kept row ∙ ap (λ t. at_array (is_array t) (chunk_under puts i (Some row))) text
      by_text same false e = changed p n row same (frozen row refl same)

      by_id : (b : Bool) → same_id8 row.id n.id ≡ b
          → chunk_under puts i (Some (cond b (cond (bytes_eq row.user_data n.text) row (row_of p n (manifests_named row.kind))) (row_of p n [])))
          ≡ at_array (is_array n.text) (cond b (chunk_under puts i (Some row)) None)
      by_id true e = by_text (same_id8-true row.id n.id e) (bytes_eq row.user_data n.text) refl
      by_id false e = bare p n ∙ sym (nothing_there (is_array n.text))

  -- the manifests that the base has for a node give its own chunk
  own_manifests_chunk : (p : Path) (n : Node) (old : Option NodeRow) → ((row : NodeRow) → old ≡ Some row → row.id ≡ n.id → SameFrozen row.user_data n.text)
      → chunk_under puts i (Some (row_of p n (manifests_for n.id old))) ≡ at_array (is_array n.text) (own_chunk (option_map node_of old) n.id (chunk_under puts i old))
  own_manifests_chunk p n None frozen = bare p n ∙ sym (nothing_there (is_array n.text))
  own_manifests_chunk p n (Some row) frozen = by_id (same_id8 row.id n.id) refl
    where
      by_id : (b : Bool) → same_id8 row.id n.id ≡ b
          → chunk_under puts i (Some (row_of p n (cond b (manifests_named row.kind) []))) ≡ at_array (is_array n.text) (cond b (chunk_under puts i (Some row)) None)
      by_id true e = let same : row.id ≡ n.id = same_id8-true row.id n.id e in changed p n row same (frozen row refl same)
      by_id false e = bare p n ∙ sym (nothing_there (is_array n.text))

  -- where an array's manifests have its chunk
  at_shape : (p : Path) (n : Node) (array : ArrayView) (refs : List ManifestRef) → array_in n.text ≡ Some array
      → chunk_under puts i (Some (row_of p n refs)) ≡ option_and_then (bytes_at puts) (chunk_place (length array.shape) n.id i (listed puts refs))
  at_shape p n array refs is = ap (λ a. option_and_then (bytes_at puts) (place_in puts (record { id = n.id; path = p; user_data = n.text; kind = kind_of a refs }) i a)) is

  -- an entry, or none, over what was there
  abbrev entered : Option (Option Place) → Option (List ℕ) → Option (List ℕ)
  entered entry own = unwrap_or (option_map (λ place. option_and_then (bytes_at puts) place) entry) own

  of_rank : (rank : ℕ) (entry : Option (Option Place)) (own : Option Place) → (is_some entry ≡ true → length i ≡ rank)
      → option_and_then (bytes_at puts) (cond (eqb (length i) rank) (unwrap_or entry own) None) ≡ entered entry (option_and_then (bytes_at puts) (cond (eqb (length i) rank) own None))
  of_rank rank None own ranked = refl
  of_rank rank (Some place) own ranked = ap (λ b. option_and_then (bytes_at puts) (cond b place None)) (eq-eqb (length i) rank (ranked refl))

  module _ (p : Path) (n : Node) (old : Option NodeRow) (frozen : (row : NodeRow) → old ≡ Some row → row.id ≡ n.id → SameFrozen row.user_data n.text) where
    abbrev own : Option (List ℕ)
    own = own_chunk (option_map node_of old) n.id (chunk_under puts i old)

    -- the row with a new list has the chunks that are merged there
    merged_chunk : (array : ArrayView) (entries : List (HeldEntry Place)) (refs : List ManifestRef) → array_in n.text ≡ Some array
        → (is_some (entry_in entries n.id i) ≡ true → length i ≡ length array.shape)
        → chunk_place (length array.shape) n.id i (listed puts refs) ≡ merged (length array.shape) n.id (listed puts (manifests_for n.id old)) (chunks_of entries n.id) i
        → chunk_under puts i (Some (row_of p n refs)) ≡ at_array (is_array n.text) (entered (entry_in entries n.id i) own)
    merged_chunk array entries refs is ranked gives =
        let rank : ℕ = length array.shape in
        let ours : List ManifestRef = manifests_for n.id old in
        let array_is : is_array n.text ≡ true = ap is_some is in
        at_shape p n array refs is
        ∙ ap (option_and_then (bytes_at puts)) gives
        ∙ ap (λ entry. option_and_then (bytes_at puts) (cond (eqb (length i) rank) (unwrap_or entry (look_up n.id i (listed puts ours))) None)) (first-entry entries n.id i)
        ∙ of_rank rank (entry_in entries n.id i) (look_up n.id i (listed puts ours)) ranked
        ∙ ap (entered (entry_in entries n.id i)) (sym (at_shape p n array ours is) ∙ own_manifests_chunk p n old frozen ∙ ap (λ b. at_array b own) array_is)
        ∙ ap (λ b. at_array b (entered (entry_in entries n.id i) own)) (sym array_is)

    -- the row without one has the base's own
    unchanged : (entry : Option (Option Place)) (has : Bool) → (is_array n.text && has) ≡ false → (has ≡ false → entry ≡ None)
        → chunk_under puts i (Some (row_from p n old)) ≡ at_array (is_array n.text) (entered entry own)
    unchanged entry has untouched no_entry = row_chunk p n old frozen ∙ by_array (is_array n.text) untouched
      where
        by_array : (b : Bool) → (b && has) ≡ false → at_array b own ≡ at_array b (entered entry own)
        by_array true h = ap (λ e. entered e own) (sym (no_entry h))
        by_array false h = refl

-- at a path a node that stays keeps the parts of its metadata that stay
abbrev pub KeepsAt : Held Place → List NodeRow → Path → Type 0
KeepsAt h rows p = (m n : Node) → get (nodes_in rows) p ≡ Some m → get (nodes_over h (nodes_in rows)) p ≡ Some n → m.id ≡ n.id → SameFrozen m.text n.text

-- an entry for an index has the array's rank
abbrev pub RankedAt : Held Place → List NodeRow → Path → Index → Type 0
RankedAt h rows p i = (n : Node) (array : ArrayView) → get (nodes_over h (nodes_in rows)) p ≡ Some n → array_in n.text ≡ Some array
    → is_some (entry_in h.chunks n.id i) ≡ true → length i ≡ length array.shape

-- the new list there, or none, is what the changes ask for
pub record MergedAt (puts : Puts) (h : Held Place) (rows : List NodeRow) (news : List NewList) (p : Path) : Type 0 where
  pub written : (n : Node) (array : ArrayView) → get (nodes_over h (nodes_in rows)) p ≡ Some n → array_in n.text ≡ Some array → has_chunks h.chunks n.id ≡ true
      → HasMerged puts h rows news p n (length array.shape)
  pub others : (n : Node) → get (nodes_over h (nodes_in rows)) p ≡ Some n → (is_array n.text && has_chunks h.chunks n.id) ≡ false → new_list news p ≡ None

-- Then the chunk there is the tree's under the changes.
pub chunk-at : (puts : Puts) (h : Held Place) (news : List NewList) (rows : List NodeRow) (p : Path) (i : Index) → KeepsAt h rows p → RankedAt h rows p i → MergedAt puts h rows news p
    → (tree_under puts (rows_over h news rows)).chunk p i ≡ (apply (changes_of (bytes_at puts) h) (tree_under puts rows)).chunk p i
chunk-at puts h news rows p i keeps ranked asked =
    ap (chunk_under puts i) (new_row h news rows p) ∙ by_node (get (nodes_over h (nodes_in rows)) p) refl
  where
    old : Option NodeRow
    old = row_at rows p

    frozen : (n : Node) → get (nodes_over h (nodes_in rows)) p ≡ Some n → (row : NodeRow) → old ≡ Some row → row.id ≡ n.id → SameFrozen row.user_data n.text
    frozen n is row there same = keeps (node_of row) n (node_at_row rows p ∙ ap (option_map node_of) there) is same

    chunk_after : Node → Option Node → Option (List ℕ)
    chunk_after n before = cond (is_array n.text) (unwrap_or (option_map (λ place. option_and_then (bytes_at puts) place) (entry_in h.chunks n.id i)) (own_chunk before n.id (chunk_under puts i old))) None

    array_of : (n : Node) → is_array n.text ≡ true → (array : ArrayView) × (array_in n.text ≡ Some array)
    array_of n h = by_view (array_in n.text) h
      where
        by_view : (o : Option ArrayView) → is_some o ≡ true → (array : ArrayView) × (o ≡ Some array)
        by_view (Some array) h = (array, refl)
        by_view None h = cc

    -- whether the node is an array with entries
    by_entries : (n : Node) → get (nodes_over h (nodes_in rows)) p ≡ Some n → (b : Bool) → (is_array n.text && has_chunks h.chunks n.id) ≡ b
        → chunk_under puts i (Some (row_over p n old (new_list news p))) ≡ chunk_after n (option_map node_of old)
    by_entries n is true e =
        let array = array_of n (first (is_array n.text) (has_chunks h.chunks n.id) e) in
        let list = asked.written n array.0 is array.1 (second (is_array n.text) (has_chunks h.chunks n.id) e) in
        ap (λ new. chunk_under puts i (Some (row_over p n old new))) list.has
        ∙ merged_chunk puts i p n old (frozen n is) array.0 h.chunks list.refs array.1 (ranked n array.0 is array.1) (list.gives i)
    by_entries n is false e =
        ap (λ new. chunk_under puts i (Some (row_over p n old new))) (asked.others n is e)
        ∙ unchanged puts i p n old (frozen n is) (entry_in h.chunks n.id i) (has_chunks h.chunks n.id) e (no-entry h.chunks n.id i)

    by_node : (o : Option Node) → get (nodes_over h (nodes_in rows)) p ≡ o
        → chunk_under puts i (option_map (row_made news rows p) o) ≡ chunk_of (changes_of (bytes_at puts) h).chunks (tree_under puts rows) p i o
    by_node None is = refl
    by_node (Some n) is = by_entries n is (is_array n.text && has_chunks h.chunks n.id) refl ∙ ap (chunk_after n) (sym (node_at_row rows p))

pub tree-law : TreeLaw
tree-law puts h news rows keeps ranked asked = λ j. record {
  nodes = nodes_hold h news rows j;
  chunk = λ p i. chunk-at puts h news rows p i (keeps p) (λ n array. ranked p n array i) (record { written = asked.written p; others = asked.others p }) j;
}
