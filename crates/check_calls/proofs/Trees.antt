-- The tree of a snapshot whose manifests can be read, and whose chunks are whole.
use Rattle.std.proofs.Common.{◌≡◌, ◌⊎◌, inl, inr, ℕ, ◌+◌, ◌≤◌, Bool, true, false, cond, ◌&&◌, List, [], ◌∷◌, length, take, drop, Option, Some, None, option_map, unwrap_or, is_some, IsSome, refl, sym, ◌∙◌, ap, subst, arith, eqb-true, length-drop, length-take-le}
use Rattle.std.specs.Prelude.{◌==◌, nat_le, nat_lt, Contains, find, option_and_then, bytes_eq}
use Rattle.std.specs.List.{AllByRecursion}
use Rattle.std.specs.Option.{option_or}
use Rattle.std.proofs.lemmas.List.Elements.{All-contains, All-from_recursion}
use Rattle.std.proofs.lemmas.Bool.{ltb-true, lt-ltb, le-leb}
use Rattle.ice_ids.specs.declared.Id8.{Id8}
use Rattle.ice_ids.specs.declared.Id12.{Id12}
use Rattle.zarr_meta.specs.declared.views.ArrayView.{ArrayView}
use Rattle.zarr_meta.specs.Grids.{most_chunks}
use Rattle.zarr_tree.specs.Nodes.{array_in, are_low}
use Rattle.zarr_tree.specs.Trees.{HasArray}
use Rattle.snapshot_file.specs.declared.nodes.ManifestRef.{ManifestRef}
use Rattle.snapshot_file.specs.declared.nodes.NodeKind.{NodeKind}
use Rattle.snapshot_file.specs.declared.nodes.NodeKind.TheVariants.{Group, Array}
use Rattle.snapshot_file.specs.declared.nodes.NodeRow.{NodeRow}
use Rattle.snapshot_file.specs.declared.snapshot.SnapshotFile.{SnapshotFile}
use Rattle.snapshot_file.specs.Snapshots.{manifests_named}
use Rattle.snapshot_file.specs.Layout.{IsNode, IsKind, IsManifest, IsExtent}
use Rattle.manifest_file.specs.declared.manifest.Place.{Place}
use Rattle.manifest_file.specs.declared.manifest.Place.TheVariants.{Inline, Object}
use Rattle.manifest_file.specs.declared.manifest.ChunkRef.{ChunkRef}
use Rattle.manifest_file.specs.declared.manifest.ManifestFile.{ManifestFile}
use Rattle.held_manifest.specs.LookUp.{within, place_of, refs_of_node, entry_of, entry_seen, look_up}
use Rattle.held_snapshot.specs.LookUp.{row_at}
use Rattle.repo_objects.specs.Laws.{IsProper}
use Rattle.repo_objects.specs.Trees.{Puts, HasTree, IsReadable, node_of, part_of, bytes_at, manifest_put, or_empty, listed, place_in, place_under, chunk_under, tree_under}
use Rattle.object_store.specs.declared.keys.Key.TheVariants.{Chunk}
use Rattle.object_store.specs.declared.events.Event.{Event}
use Rattle.store_api.specs.Journal.{puts_of}
use Rattle.store_api.proofs.SameTree.{find-contains}
use Rattle.intact.specs.Rows.{want_in, want_of, first_unwell}
use Rattle.intact.specs.Parts.{entries_of}
use Rattle.ice_ids.proofs.Elements.{first-is, later-is}
use Rattle.check_calls.specs.Whole.{IsWholeChunk, HasEntry}
use Rattle.check_calls.proofs.Steady.{last-stands}
use Rattle.check_calls.proofs.Rows.{both-true, row-there, node-of_row, nodes-named, nodes-readable, nodes-distinct, nodes-parents}

-- ---- values
record MapSome {A B : Type 0} (f : A → B) (o : Option A) (b : B) : Type 0 where
  from : A
  is : o ≡ Some from
  gives : f from ≡ b

map-some : {A B : Type 0} (f : A → B) (o : Option A) (b : B) → option_map f o ≡ Some b → MapSome f o b
map-some f None b e = absurd cc
map-some f (Some a) b e = record { from = a; is = refl; gives = cc }

record ThenSome {A B : Type 0} (f : A → Option B) (o : Option A) (b : B) : Type 0 where
  from : A
  is : o ≡ Some from
  gives : f from ≡ Some b

then-some : {A B : Type 0} (f : A → Option B) (o : Option A) (b : B) → option_and_then f o ≡ Some b → ThenSome f o b
then-some f None b e = absurd cc
then-some f (Some a) b e = record { from = a; is = refl; gives = e }

or-some : {A : Type 0} (o p : Option A) (a : A) → option_or o p ≡ Some a → (o ≡ Some a) ⊎ (p ≡ Some a)
or-some None p a e = inr e
or-some (Some x) p a e = inl e

where-true : {A : Type 0} (b : Bool) (o : Option A) (a : A) → cond b o None ≡ Some a → (b ≡ true) × (o ≡ Some a)
where-true true o a e = (refl, e)
where-true false o a e = absurd cc

there : {A : Type 0} (o : Option A) (a : A) → o ≡ Some a → IsSome o
there o a e = ap is_some e

-- ---- an entry that a search finds
pub record Entered (puts : Puts) (row : NodeRow) (index : List ℕ) (place : Place) (manifests : List ManifestRef) : Type 0 where
  pub manifest : ManifestRef
  pub among : Contains manifests manifest
  pub covers : within manifest.extents index ≡ true
  pub file : ManifestFile
  pub is : manifest_put puts manifest.id ≡ Some file
  pub chunk : ChunkRef
  pub has : Contains (entries_of row.id file) chunk
  pub place_is : chunk.place ≡ place

record EntryOf (node : Id8) (file : ManifestFile) (place : Place) : Type 0 where
  chunk : ChunkRef
  has : Contains (entries_of node file) chunk
  place_is : chunk.place ≡ place

entry-in : (node : Id8) (index : List ℕ) (file : ManifestFile) (place : Place) → entry_of node index file ≡ Some place → EntryOf node file place
entry-in node index file place e =
    let r = then-some (place_of index) (refs_of_node node file.arrays) place e in
    let c = map-some (λ (x : ChunkRef). x.place) (find (λ (x : ChunkRef). bytes_eq x.index index) r.from) place r.gives in
    record {
      chunk = c.from;
      has = subst (λ (o : Option (List ChunkRef)). Contains (unwrap_or o []) c.from) (sym r.is) (find-contains (λ (x : ChunkRef). bytes_eq x.index index) r.from c.from c.is);
      place_is = c.gives;
    }

-- one that can't be read has none
in-put : (id : Id12) (node : Id8) (index : List ℕ) (o : Option ManifestFile) (place : Place) → entry_of node index (or_empty id o) ≡ Some place → (file : ManifestFile) × (o ≡ Some file) × EntryOf node file place
in-put id node index None place e = absurd cc
in-put id node index (Some file) place e = (file, refl, entry-in node index file place e)

entered : (puts : Puts) (row : NodeRow) (index : List ℕ) (place : Place) (manifests : List ManifestRef) → look_up row.id index (listed puts manifests) ≡ Some place → Entered puts row index place manifests
entered puts row index place [] e = absurd cc
entered puts row index place (m ∷ ms) e = elim (or-some (entry_seen row.id index (m.extents, or_empty m.id (manifest_put puts m.id))) (look_up row.id index (listed puts ms)) place e) [
  | inl h ↦ (
      let w = where-true (within m.extents index) (entry_of row.id index (or_empty m.id (manifest_put puts m.id))) place h in
      let f = in-put m.id row.id index (manifest_put puts m.id) place w.1 in
      record { manifest = m; among = first-is m ms; covers = w.0; file = f.0; is = f.1; chunk = f.2.chunk; has = f.2.has; place_is = f.2.place_is }
      )
  | inr h ↦ (
      let r = entered puts row index place ms h in
      record { manifest = r.manifest; among = later-is m r.manifest ms r.among; covers = r.covers; file = r.file; is = r.is; chunk = r.chunk; has = r.has; place_is = r.place_is }
      )
]

-- the place of a row's chunk
pub record Placed (puts : Puts) (row : NodeRow) (index : List ℕ) (place : Place) : Type 0 where
  pub array : ArrayView
  pub array_is : array_in row.user_data ≡ Some array
  pub rank : length index ≡ length array.shape
  pub entry : Entered puts row index place (manifests_named row.kind)

placed : (puts : Puts) (row : NodeRow) (index : List ℕ) (place : Place) → place_under puts row index ≡ Some place → Placed puts row index place
placed puts row index place e = by (array_in row.user_data) refl e
  where
    by : (o : Option ArrayView) → array_in row.user_data ≡ o → place_in puts row index o ≡ Some place → Placed puts row index place
    by None a k = absurd cc
    by (Some array) a k =
        let w = where-true (length index == length array.shape) (look_up row.id index (listed puts (manifests_named row.kind))) place k in
        record { array = array; array_is = a; rank = eqb-true (length index) (length array.shape) w.0; entry = entered puts row index place (manifests_named row.kind) w.1 }

-- ---- an index within extents is low
low-within : (extents : List (ℕ × ℕ)) (index : List ℕ) → AllByRecursion IsExtent extents → within extents index ≡ true → are_low index ≡ true
low-within [] [] a w = refl
low-within [] (k ∷ ks) a w = absurd cc
low-within (e ∷ es) [] a w = absurd cc
low-within (e ∷ es) (k ∷ ks) a w =
    let h = both-true (nat_le e.0 k && nat_lt k e.1) (within es ks) w in
    let below = ltb-true k e.1 (both-true (nat_le e.0 k) (nat_lt k e.1) h.0).1 in
    let bound = a.0.1 in
    let here : nat_lt k most_chunks ≡ true = lt-ltb k most_chunks (omega (arith, below, bound)) in
    let rest : are_low ks ≡ true = low-within es ks a.1 h.1 in
    rw (here, rest) refl

named-manifests : (kind : NodeKind) → IsKind kind → AllByRecursion IsManifest (manifests_named kind)
named-manifests Group h = tt
named-manifests (Array shape names manifests) h = h.manifests_are

-- ---- the bytes of a whole chunk
-- a part that lies in an object has its size
part-size : (offset size : ℕ) (bytes : List ℕ) → offset + size ≤ length bytes → length (take size (drop offset bytes)) ≡ size
part-size offset size bytes h = length-take-le size (drop offset bytes) (omega (arith, length-drop offset bytes, h))

pub record BytesAt (puts : Puts) (want : ℕ) (place : Place) : Type 0 where
  pub bytes : List ℕ
  pub are : bytes_at puts place ≡ Some bytes
  pub long : length bytes ≡ want

whole-bytes : (journal : List Event) (want : ℕ) (place : Place) → IsWholeChunk journal want place → BytesAt (puts_of journal) want place
whole-bytes journal want (Inline bytes) w = record { bytes = bytes; are = refl; long = w }
whole-bytes journal want (Object id offset size) w =
    let h = w.1 in
    let last = last-stands journal (Chunk id) h.stored h.stands in
    let fits : nat_le (offset + size) (length h.stored.bytes) ≡ true = le-leb (offset + size) (length h.stored.bytes) h.long in
    record {
      bytes = take size (drop offset h.stored.bytes);
      are = ap (option_and_then (part_of offset size)) last ∙ ap (λ (b : Bool). cond b (Some (take size (drop offset h.stored.bytes))) None) fits;
      long = part-size offset size h.stored.bytes h.long ∙ w.0;
    }

-- ---- the tree
module _ (journal : List Event) (snap : SnapshotFile) (proper : IsProper snap) (well : first_unwell snap.nodes ≡ None)
    (manifests : (row : NodeRow) (m : ManifestRef) → Contains snap.nodes row → Contains (manifests_named row.kind) m → IsSome (manifest_put (puts_of journal) m.id))
    (chunks : (row : NodeRow) (chunk : ChunkRef) → Contains snap.nodes row → HasEntry (puts_of journal) row chunk → IsWholeChunk journal (want_of row) chunk.place) where
  abbrev puts : Puts
  puts = puts_of journal

  abbrev rows : List NodeRow
  rows = snap.nodes

  at-place : (row : NodeRow) → Contains rows row → (index : List ℕ) (place : Place) → Placed puts row index place → BytesAt puts (want_of row) place
  at-place row c index place h =
      let e = h.entry in
      subst (λ (p : Place). BytesAt puts (want_of row) p) e.place_is
      (whole-bytes journal (want_of row) e.chunk.place (chunks row e.chunk c (record { manifest = e.manifest; named = e.among; file = e.file; is = e.is; has = e.has })))

  readable : IsReadable puts rows
  readable = record {
    manifests = λ p row m e c. manifests row m (row-there rows p row e).0 c;
    chunks = λ p i row place e h. let b = at-place row (row-there rows p row e).0 i place (placed puts row i place h) in there (bytes_at puts place) b.bytes b.are;
  }

  row-low : (row : NodeRow) → Contains rows row → (m : ManifestRef) → Contains (manifests_named row.kind) m → (index : List ℕ) → within m.extents index ≡ true → are_low index ≡ true
  row-low row c m d index w =
      let node = All-contains IsNode rows row (All-from_recursion IsNode rows proper.sized.nodes) c in
      let manifest = All-contains IsManifest (manifests_named row.kind) m (All-from_recursion IsManifest (manifests_named row.kind) (named-manifests row.kind node.kind)) d in
      low-within m.extents index manifest.extents w

  in-row : (p i bytes : List ℕ) (row : NodeRow) → row_at rows p ≡ Some row → option_and_then (bytes_at puts) (place_under puts row i) ≡ Some bytes → HasArray (tree_under puts rows) p i bytes
  in-row p i bytes row e h =
      let c = (row-there rows p row e).0 in
      let t = then-some (bytes_at puts) (place_under puts row i) bytes h in
      let pl = placed puts row i t.from t.is in
      let b = at-place row c i t.from pl in
      let same : b.bytes ≡ bytes = some-same b.bytes bytes (sym b.are ∙ t.gives) in
      record {
        node = node_of row;
        found = node-of_row puts rows p row e;
        fits = record {
          array = pl.array;
          found = pl.array_is;
          rank = pl.rank;
          low = row-low row c pl.entry.manifest pl.entry.among i pl.entry.covers;
          whole = λ x is. ap length (sym (some-same bytes x is)) ∙ (ap length (sym same) ∙ (b.long ∙ ap want_in pl.array_is));
        };
      }
    where
      some-same : (x y : List ℕ) → Some x ≡ Some y → x ≡ y
      some-same x y is = cc

  chunk-fits : (p i bytes : List ℕ) → chunk_under puts i (row_at rows p) ≡ Some bytes → HasArray (tree_under puts rows) p i bytes
  chunk-fits p i bytes h = by (row_at rows p) refl h
    where
      by : (o : Option NodeRow) → row_at rows p ≡ o → chunk_under puts i o ≡ Some bytes → HasArray (tree_under puts rows) p i bytes
      by None e k = absurd cc
      by (Some row) e k = in-row p i bytes row e k

  pub has-tree : HasTree puts rows
  has-tree = record {
    readable = readable;
    well_formed = record {
      named = nodes-named puts snap proper;
      readable = nodes-readable puts snap proper;
      distinct = nodes-distinct puts snap proper well;
      parents = nodes-parents puts snap proper well;
      chunks = chunk-fits;
    };
  }
