-- The chunk of a session's base under its changes.
use Rattle.std.proofs.Common.{◌≡◌, ℕ, suc, Bool, true, false, cond, List, [], ◌∷◌, length, refl, sym, ◌∙◌, ap, arith, eqb-true, eq-eqb}
use Rattle.std.specs.Prelude.{◌==◌, not, Option, Some, None, option_map, is_some, option_and_then, Result, Ok, Err}
use Rattle.std.specs.Option.{unwrap_or}
use Rattle.std.specs.List.{Contains}
use Rattle.std.specs.FinMap.{get}
use Rattle.ice_ids.specs.declared.Id8.{Id8}
use Rattle.ice_ids.specs.Text.{same_id8}
use Rattle.ice_ids.proofs.TextLaws.{same_id8-true}
use Rattle.zarr_path.specs.Paths.{same_path}
use Rattle.zarr_meta.specs.declared.views.ArrayView.{ArrayView}
use Rattle.zarr_meta.specs.declared.views.MetaView.{MetaView}
use Rattle.zarr_meta.specs.declared.views.MetaView.TheVariants as view
use Rattle.zarr_meta.specs.Meta.{view_in}
use Rattle.zarr_tree.specs.declared.edit.EditFault.{EditFault}
use Rattle.zarr_tree.specs.declared.edit.EditFault.TheVariants as E
use Rattle.zarr_tree.specs.declared.edit.Frozen.{Frozen}
use Rattle.zarr_tree.specs.Nodes.{Node, SameFrozen, array_of_view, array_in, in_grid, chunk_length, array_change, view_change}
use Rattle.zarr_tree.specs.Changes.{own_chunk, chunk_of}
use Rattle.zarr_tree.specs.Held.{entry_in}
use Rattle.zarr_tree.proofs.ViewLaws.{in_grid_is}
use Rattle.zarr_changes.specs.declared.chunks.ChunkAt.{ChunkAt}
use Rattle.zarr_changes.specs.Sets.{chunk_found}
use Rattle.manifest_file.specs.declared.manifest.Place.{Place}
use Rattle.held_manifest.specs.LookUp.{look_up}
use Rattle.snapshot_file.specs.declared.nodes.ManifestRef.{ManifestRef}
use Rattle.snapshot_file.specs.declared.nodes.NodeRow.{NodeRow}
use Rattle.snapshot_file.specs.Snapshots.{manifests_named}
use Rattle.repo_objects.specs.Trees.{Puts, NamesManifest, bytes_at, node_of, nodes_in, row_at, listed, place_in, chunk_under}
use Rattle.changed_snapshot.specs.Rows.{manifests_for, own_manifests}
use Rattle.changed_snapshot.specs.Laws.{KeepsFrozen}
use Rattle.repo_objects.proofs.Rows.{node_at_row}
use Rattle.store_api.proofs.SameTree.{find-contains}
use Rattle.session.specs.Sessions.{SessionState, nodes_seen, base_tree, changes_in, overlay}

-- ---- where a chunk is read
pub record IsThere (s : SessionState) (path index : List ℕ) (at : ChunkAt) : Type 0 where
  pub node : Node
  pub found : get (nodes_seen s) path ≡ Some node
  pub array : ArrayView
  pub is : array_in node.text ≡ Some array
  pub rank : length index ≡ length array.shape
  pub id : at.node ≡ node.id
  pub bytes : at.bytes ≡ chunk_length array

-- what is answered of a node that is there
abbrev chunk_in_grid : (index : List ℕ) → Node → ArrayView → Bool → Result ChunkAt EditFault
chunk_in_grid index n array b = cond b (Ok (record { node = n.id; bytes = chunk_length array })) (Err E.OutOfGrid)

abbrev chunk_at_array : (index : List ℕ) → Node → Option ArrayView → Result ChunkAt EditFault
chunk_at_array index n None = Err E.NotArray
chunk_at_array index n (Some array) = chunk_in_grid index n array (in_grid array index)

abbrev chunk_at_node : (index : List ℕ) → Option Node → Result ChunkAt EditFault
chunk_at_node index None = Err E.NoNode
chunk_at_node index (Some n) = chunk_at_array index n (array_in n.text)

found-at : (s : SessionState) (path index : List ℕ) (o : Option Node) → get (nodes_seen s) path ≡ o → chunk_found (nodes_seen s) path index ≡ chunk_at_node index o
found-at s path index None f = rw f refl
found-at s path index (Some n) f = rw f (by_array (array_in n.text) refl)
  where
    by_array : (a : Option ArrayView) → array_in n.text ≡ a → chunk_at_array index n (array_in n.text) ≡ chunk_at_array index n (array_in n.text)
    by_array a e = refl

module _ (s : SessionState) (path index : List ℕ) (at : ChunkAt) where
  by_grid : (n : Node) (a : ArrayView) → get (nodes_seen s) path ≡ Some n → array_in n.text ≡ Some a → (b : Bool) → in_grid a index ≡ b → chunk_in_grid index n a b ≡ Ok at → IsThere s path index at
  by_grid n a f h true g e = record { node = n; found = f; array = a; is = h; rank = (in_grid_is n.text a index h g).rank; id = cc; bytes = cc }
  by_grid n a f h false g e = cc

  by_array : (n : Node) → get (nodes_seen s) path ≡ Some n → (o : Option ArrayView) → array_in n.text ≡ o → chunk_at_array index n o ≡ Ok at → IsThere s path index at
  by_array n f None h e = cc
  by_array n f (Some a) h e = by_grid n a f h (in_grid a index) refl e

  by_node : (o : Option Node) → get (nodes_seen s) path ≡ o → chunk_at_node index o ≡ Ok at → IsThere s path index at
  by_node None f e = cc
  by_node (Some n) f e = by_array n f (array_in n.text) refl e

  pub there : chunk_found (nodes_seen s) path index ≡ Ok at → IsThere s path index at
  there e = by_node (get (nodes_seen s) path) refl (sym (found-at s path index (get (nodes_seen s) path) refl) ∙ e)

-- ---- the rank of a node that stays
same-rank : (a b : ArrayView) → array_change a b ≡ None → length a.shape ≡ length b.shape
same-rank a b h = eqb-true _ _ (tested (length a.shape == length b.shape) _ _ h)
  where
    tested : (b : Bool) (f : Frozen) (r : Option Frozen) → cond (not b) (Some f) r ≡ None → b ≡ true
    tested true f r h = refl
    tested false f r h = cc

-- an earlier text of an array is of an array of its rank
record IsEarlier (m : Option MetaView) (array : ArrayView) : Type 0 where
  pub before : ArrayView
  pub is : array_of_view m ≡ Some before
  pub rank : length before.shape ≡ length array.shape

earlier : (m v : Option MetaView) (array : ArrayView) → view_change m v ≡ None → array_of_view v ≡ Some array → IsEarlier m array
earlier m None array h e = cc
earlier m (Some view.Group) array h e = cc
earlier None (Some (view.Array b)) array h e = cc
earlier (Some view.Group) (Some (view.Array b)) array h e = cc
earlier (Some (view.Array a)) (Some (view.Array b)) array h e =
    let same : b ≡ array = cc in
    record { before = a; is = refl; rank = same-rank a b h ∙ ap (λ (x : ArrayView). length x.shape) same }

-- ---- the base's own chunk
-- the chunk that a node's manifests have
abbrev pub listed_chunk : Puts → Id8 → List ℕ → List ManifestRef → Option (List ℕ)
listed_chunk puts node index manifests = option_and_then (bytes_at puts) (look_up node index (listed puts manifests))

module _ (puts : Puts) (index : List ℕ) where
  row-chunk : (row : NodeRow) (n : Node) (array : ArrayView) → row.id ≡ n.id → SameFrozen row.user_data n.text → array_in n.text ≡ Some array → length index ≡ length array.shape
      → chunk_under puts index (Some row) ≡ listed_chunk puts n.id index (manifests_named row.kind)
  row-chunk row n array same frozen is rank =
      let b = earlier (view_in row.user_data) (view_in n.text) array frozen is in
      let test : (length index == length b.before.shape) ≡ true = eq-eqb _ _ (rank ∙ sym b.rank) in
      ap (λ (a : Option ArrayView). option_and_then (bytes_at puts) (place_in puts row index a)) b.is
      ∙ ap (λ (t : Bool). option_and_then (bytes_at puts) (cond t (look_up row.id index (listed puts (manifests_named row.kind))) None)) test
      ∙ ap (λ (id : Id8). listed_chunk puts id index (manifests_named row.kind)) same

  own-chunk : (rows : List NodeRow) (path : List ℕ) (n : Node) (array : ArrayView) → ((row : NodeRow) → row_at rows path ≡ Some row → row.id ≡ n.id → SameFrozen row.user_data n.text) → array_in n.text ≡ Some array → length index ≡ length array.shape
      → own_chunk (get (nodes_in rows) path) n.id (chunk_under puts index (row_at rows path)) ≡ listed_chunk puts n.id index (own_manifests rows path n.id)
  own-chunk rows path n array frozen is rank =
      ap (λ (o : Option Node). own_chunk o n.id (chunk_under puts index (row_at rows path))) (node_at_row rows path)
      ∙ elim (row_at rows path) as (λ o. row_at rows path ≡ o → own_chunk (option_map node_of o) n.id (chunk_under puts index o) ≡ listed_chunk puts n.id index (manifests_for n.id o)) [
        | None ↦ λ f. refl
        | Some row ↦ λ f. elim (same_id8 row.id n.id) as (λ b. same_id8 row.id n.id ≡ b → cond b (chunk_under puts index (Some row)) None ≡ listed_chunk puts n.id index (cond b (manifests_named row.kind) [])) [
          | true ↦ λ t. let same = same_id8-true row.id n.id t in row-chunk row n array same (frozen row f same) is rank
          | false ↦ λ t. refl
        ] refl
      ] refl

-- ---- the chunk under the changes
module _ (s : SessionState) (path index : List ℕ) (at : ChunkAt) (t : IsThere s path index at) (puts : Puts) where
  -- the entry, or else the base's own chunk
  abbrev seen_chunk : Option (Option Place) → Option (List ℕ)
  seen_chunk entry = unwrap_or (option_map (λ place. option_and_then (bytes_at puts) place) entry) (own_chunk (get (nodes_in s.rows) path) t.node.id (chunk_under puts index (row_at s.rows path)))

  under-changes : (overlay puts s).chunk path index ≡ seen_chunk (entry_in s.held.chunks t.node.id index)
  under-changes =
      ap (chunk_of (changes_in puts s).chunks (base_tree puts s) path index) t.found
      ∙ ap (λ (b : Bool). cond b (seen_chunk (entry_in s.held.chunks t.node.id index)) None) (ap is_some t.is)

  pub by-entry : (entry : Option (Option Place)) → entry_in s.held.chunks at.node index ≡ entry → (overlay puts s).chunk path index ≡ seen_chunk entry
  by-entry entry e = under-changes ∙ ap seen_chunk (ap (λ (id : Id8). entry_in s.held.chunks id index) (sym t.id) ∙ e)

  pub by-base : entry_in s.held.chunks at.node index ≡ None → KeepsFrozen s.held s.rows → (overlay puts s).chunk path index ≡ listed_chunk puts at.node index (own_manifests s.rows path at.node)
  by-base e keeps =
      by-entry None e
      ∙ own-chunk puts index s.rows path t.node t.array (λ row f same. keeps path (node_of row) t.node (node_at_row s.rows path ∙ ap (option_map node_of) f) t.found same) t.is t.rank
      ∙ ap (λ (id : Id8). listed_chunk puts id index (own_manifests s.rows path id)) (sym t.id)

-- ---- the manifests of a node are named by the base's rows
abbrev pub AllNamed : List NodeRow → List ManifestRef → Type 0
AllNamed rows [] = Unit {0}
AllNamed rows (m ∷ ms) = NamesManifest rows m.id × AllNamed rows ms

each-named : (rows : List NodeRow) (ms : List ManifestRef) → ((m : ManifestRef) → Contains ms m → NamesManifest rows m.id) → AllNamed rows ms
each-named rows [] f = tt
each-named rows (m ∷ ms) f = (f m (0, omega arith, refl), each-named rows ms (λ x c. f x (suc c.0, omega (arith, c.1), c.2)))

pub own-named : (rows : List NodeRow) (path : List ℕ) (node : Id8) → AllNamed rows (own_manifests rows path node)
own-named rows path node =
    elim (row_at rows path) as (λ o. row_at rows path ≡ o → AllNamed rows (manifests_for node o)) [
      | None ↦ λ f. tt
      | Some row ↦ λ f. elim (same_id8 row.id node) as (λ b. AllNamed rows (cond b (manifests_named row.kind) [])) [
        | true ↦ each-named rows (manifests_named row.kind) (λ m c. record { row = row; among = find-contains (λ (x : NodeRow). same_path x.path path) rows row f; manifest = m; named = c; is = refl })
        | false ↦ tt
      ]
    ] refl
