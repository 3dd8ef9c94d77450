-- Puts that agree on what rows name give them one tree.
use Rattle.std.proofs.Common.{◌≡◌, ◌⊎◌, inl, inr, ℕ, suc, Bool, true, false, cond, List, [], ◌∷◌, length, refl, sym, ◌∙◌, ap, subst, arith}
use Rattle.std.specs.Prelude.{◌==◌, Option, Some, None, option_map, option_and_then, find, bytes_eq}
use Rattle.std.specs.Option.{option_or}
use Rattle.std.specs.List.{Contains}
use Rattle.ice_ids.specs.declared.Id8.{Id8}
use Rattle.ice_ids.specs.declared.Id12.{Id12}
use Rattle.ice_ids.specs.Text.{same_id8}
use Rattle.zarr_path.specs.Paths.{same_path}
use Rattle.zarr_meta.specs.declared.views.ArrayView.{ArrayView}
use Rattle.zarr_tree.specs.Nodes.{array_in}
use Rattle.snapshot_file.specs.declared.nodes.ManifestRef.{ManifestRef}
use Rattle.snapshot_file.specs.declared.nodes.NodeRow.{NodeRow}
use Rattle.manifest_file.specs.declared.manifest.Place.{Place}
use Rattle.manifest_file.specs.declared.manifest.Place.TheVariants.{Inline, Object}
use Rattle.manifest_file.specs.declared.manifest.ManifestFile.{ManifestFile}
use Rattle.manifest_file.specs.declared.manifest.ArrayRefs.{ArrayRefs}
use Rattle.manifest_file.specs.declared.manifest.ChunkRef.{ChunkRef}
use Rattle.held_manifest.specs.LookUp.{within, place_of, refs_of_node, entry_of, entry_seen, look_up, chunk_place}
use Rattle.repo_objects.specs.Readings.{manifest_by}
use Rattle.snapshot_file.specs.Snapshots.{manifests_named}
use Rattle.repo_objects.specs.Trees.{Puts, NamesManifest, NamesChunk, nodes_in, row_at, part_of, bytes_at, manifest_put, or_empty, listed, place_in, place_under, chunk_under, tree_under}

-- ---- what a search finds is in its list
Contains-here : {X : Type 0} (x : X) (xs : List X) → Contains (x ∷ xs) x
Contains-here x xs = (0, omega arith, refl)

Contains-there : {X : Type 0} (x y : X) (xs : List X) → Contains xs x → Contains (y ∷ xs) x
Contains-there x y xs c = (suc c.0, omega (arith, c.1), c.2)

find-step : {X : Type 0} (b : Bool) (y x : X) (ys : List X) (rest : Option X) → (rest ≡ Some x → Contains ys x) → cond b (Some y) rest ≡ Some x → Contains (y ∷ ys) x
find-step true y x ys rest h e = let same : y ≡ x = cc in subst (λ z. Contains (y ∷ ys) z) same (Contains-here y ys)
find-step false y x ys rest h e = Contains-there x y ys (h e)

pub find-contains : {X : Type 0} (test : X → Bool) (xs : List X) (x : X) → find test xs ≡ Some x → Contains xs x
find-contains test [] x e = cc
find-contains test (y ∷ ys) x e = find-step (test y) y x ys (find test ys) (find-contains test ys x) e

-- ---- where a value comes from
map-some : {A B : Type 0} (f : A → B) (o : Option A) (b : B) → option_map f o ≡ Some b → (a : A) × (o ≡ Some a) × (f a ≡ b)
map-some f None b e = cc
map-some f (Some a) b e = (a, refl, cc)

then-some : {A B : Type 0} (f : A → Option B) (o : Option A) (b : B) → option_and_then f o ≡ Some b → (a : A) × (o ≡ Some a) × (f a ≡ Some b)
then-some f None b e = cc
then-some f (Some a) b e = (a, refl, e)

or-some : {A : Type 0} (o p : Option A) (a : A) → option_or o p ≡ Some a → (o ≡ Some a) ⊎ (p ≡ Some a)
or-some None p a e = inr e
or-some (Some x) p a e = inl e

where-true : {A : Type 0} (b : Bool) (o : Option A) (a : A) → cond b o None ≡ Some a → o ≡ Some a
where-true true o a e = e
where-true false o a e = cc

-- ---- an object in which a chunk is found is named
entry-names : (node : Id8) (index : List ℕ) (manifest : ManifestFile) (object : Id12) (offset size : ℕ) → entry_of node index manifest ≡ Some (Object object offset size) → NamesChunk manifest object
entry-names node index manifest object offset size e =
    let r = then-some (place_of index) (refs_of_node node manifest.arrays) (Object object offset size) e in
    let a = map-some (λ (x : ArrayRefs). x.refs) (find (λ (x : ArrayRefs). same_id8 x.node node) manifest.arrays) r.0 r.1 in
    let c = map-some (λ (x : ChunkRef). x.place) (find (λ (x : ChunkRef). bytes_eq x.index index) r.0) (Object object offset size) r.2 in
    record {
      array = a.0;
      among = find-contains (λ (x : ArrayRefs). same_id8 x.node node) manifest.arrays a.0 a.1;
      chunk = c.0;
      has = subst (λ (refs : List ChunkRef). Contains refs c.0) (sym a.2) (find-contains (λ (x : ChunkRef). bytes_eq x.index index) r.0 c.0 c.1);
      offset = offset;
      size = size;
      is = c.2;
    }

-- one of the manifests has a chunk in the object
pub record NamesListed (puts : Puts) (manifests : List ManifestRef) (object : Id12) : Type 0 where
  pub manifest : ManifestRef
  pub among : Contains manifests manifest
  pub names : NamesChunk (or_empty manifest.id (manifest_put puts manifest.id)) object

look-names : (puts : Puts) (node : Id8) (index : List ℕ) (manifests : List ManifestRef) (object : Id12) (offset size : ℕ) → look_up node index (listed puts manifests) ≡ Some (Object object offset size) → NamesListed puts manifests object
look-names puts node index [] object offset size e = cc
look-names puts node index (m ∷ ms) object offset size e = elim (or-some (entry_seen node index (m.extents, or_empty m.id (manifest_put puts m.id))) (look_up node index (listed puts ms)) (Object object offset size) e) [
  | inl h ↦ record {
    manifest = m;
    among = Contains-here m ms;
    names = entry-names node index (or_empty m.id (manifest_put puts m.id)) object offset size (where-true (within m.extents index) (entry_of node index (or_empty m.id (manifest_put puts m.id))) (Object object offset size) h);
  }
  | inr h ↦ let r = look-names puts node index ms object offset size h in record { manifest = r.manifest; among = Contains-there r.manifest m ms r.among; names = r.names }
]

place-names : (puts : Puts) (row : NodeRow) (index : List ℕ) (array : Option ArrayView) (object : Id12) (offset size : ℕ) → place_in puts row index array ≡ Some (Object object offset size) → NamesListed puts (manifests_named row.kind) object
place-names puts row index None object offset size e = cc
place-names puts row index (Some array) object offset size e =
    look-names puts row.id index (manifests_named row.kind) object offset size
    (where-true (length index == length array.shape) (look_up row.id index (listed puts (manifests_named row.kind))) (Object object offset size) e)

-- ---- puts that agree on what rows name
bytes-same : (p q : Puts) (o : Option Place) → ((object : Id12) (offset size : ℕ) → o ≡ Some (Object object offset size) → q.chunk object ≡ p.chunk object) → option_and_then (bytes_at q) o ≡ option_and_then (bytes_at p) o
bytes-same p q None h = refl
bytes-same p q (Some (Inline bytes)) h = refl
bytes-same p q (Some (Object object offset size)) h = ap (option_and_then (part_of offset size)) (h object offset size refl)

listed-same : (p q : Puts) (manifests : List ManifestRef) → ((m : ManifestRef) → Contains manifests m → q.manifest m.id ≡ p.manifest m.id) → listed q manifests ≡ listed p manifests
listed-same p q [] h = refl
listed-same p q (m ∷ ms) h = λ j. (m.extents, or_empty m.id (option_and_then (manifest_by m.id) (h m (Contains-here m ms) j))) ∷ listed-same p q ms (λ n c. h n (Contains-there n m ms c)) j

place-same : (p q : Puts) (row : NodeRow) (index : List ℕ) (array : Option ArrayView) → listed q (manifests_named row.kind) ≡ listed p (manifests_named row.kind) → place_in q row index array ≡ place_in p row index array
place-same p q row index None e = refl
place-same p q row index (Some array) e = ap (chunk_place (length array.shape) row.id index) e

module _ (p q : Puts) (rows : List NodeRow) (manifests : (m : Id12) → NamesManifest rows m → q.manifest m ≡ p.manifest m) (chunks : (m object : Id12) → NamesManifest rows m → NamesChunk (or_empty m (manifest_put p m)) object → q.chunk object ≡ p.chunk object) where
  names-of : (row : NodeRow) (m : ManifestRef) → Contains rows row → Contains (manifests_named row.kind) m → NamesManifest rows m.id
  names-of row m c d = record { row = row; among = c; manifest = m; named = d; is = refl }

  chunk-same : (path index : List ℕ) (o : Option NodeRow) → row_at rows path ≡ o → chunk_under q index o ≡ chunk_under p index o
  chunk-same path index None e = refl
  chunk-same path index (Some row) e =
      let c : Contains rows row = find-contains (λ (r : NodeRow). same_path r.path path) rows row e in
      ap (option_and_then (bytes_at q)) (place-same p q row index (array_in row.user_data) (listed-same p q (manifests_named row.kind) (λ m d. manifests m.id (names-of row m c d))))
      ∙ bytes-same p q (place_under p row index) (λ object offset size h. let l = place-names p row index (array_in row.user_data) object offset size h in chunks l.manifest.id object (names-of row l.manifest c l.among) l.names)

  pub tree-same : tree_under q rows ≡ tree_under p rows
  tree-same = λ j. record { nodes = nodes_in rows; chunk = λ path index. chunk-same path index (row_at rows path) refl j }
