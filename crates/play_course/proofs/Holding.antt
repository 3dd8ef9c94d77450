-- What a client knows of its session in a run over an empty store: all that it reads was put, and stands where no task collects.
use Rattle.std.proofs.Common.{◌≡◌, ◌≢◌, ℕ, Bool, true, false, cond, List, [], ◌∷◌, ◌++◌, length, refl, sym, ◌∙◌, ap, subst, eq-eqb}
use Rattle.std.specs.Prelude.{Option, Some, None, IsSome, option_map, option_and_then}
use Rattle.std.specs.List.{Contains}
use Rattle.ice_ids.specs.declared.Id8.{Id8}
use Rattle.ice_ids.specs.declared.Id12.{Id12}
use Rattle.ice_ids.specs.declared.drawing.AnyIds.{AnyIds}
use Rattle.ice_ids.specs.Text.{same_id8}
use Rattle.zarr_tree.specs.Nodes.{Node, SameFrozen, chunk_length, array_in}
use Rattle.zarr_tree.specs.Changes.{IsNormal}
use Rattle.zarr_changes.specs.declared.chunks.ChunkAt.{ChunkAt}
use Rattle.manifest_file.specs.declared.manifest.Place.{Place}
use Rattle.manifest_file.specs.declared.manifest.ManifestFile.{ManifestFile}
use Rattle.held_manifest.specs.LookUp.{look_up}
use Rattle.snapshot_file.specs.declared.nodes.ManifestRef.{ManifestRef}
use Rattle.snapshot_file.specs.declared.nodes.NodeRow.{NodeRow}
use Rattle.repo_objects.specs.Readings.{manifest_by}
use Rattle.snapshot_file.specs.Snapshots.{manifests_named}
use Rattle.repo_objects.specs.Trees.{manifest_put, listed, bytes_at, node_of, row_at, HasTree}
use Rattle.changed_snapshot.specs.Rows.{manifests_for, own_manifests}
use Rattle.changed_snapshot.specs.Laws.{KeepsFrozen}
use Rattle.repo_objects.proofs.Rows.{node_at_row}
use Rattle.object_store.specs.declared.keys.Key.{Key}
use Rattle.object_store.specs.declared.keys.Key.TheVariants.{Manifest}
use Rattle.object_store.specs.declared.events.Event.{Event}
use Rattle.object_store.specs.declared.events.Op.TheVariants.{Get}
use Rattle.object_store.specs.Machine.{Stored, found, last_put}
use Rattle.store_api.specs.Journal.{Each, IsGood, puts_of}
use Rattle.object_store.proofs.Journals.{Each-one}
use Rattle.object_store.proofs.Slots.{sound}
use Rattle.session.specs.Sessions.{SessionState, base_tree, changes_in, overlay}
use Rattle.commit_path.specs.Owed.{HasChunks}
use Rattle.commit_path.specs.Opened.{IsOpened}
use Rattle.commit_path.proofs.Knowing.{IsOpened-append}
use Rattle.commit_path.proofs.Readable.{some_of, own-chunk}
use Rattle.commit_path.proofs.Having.{here, there}
use Rattle.collecting.specs.Walks.{IsObject}
use Rattle.run_histories.proofs.Sources.{node-spends}
use Rattle.run_histories.proofs.Drawing.{are-among}
use Rattle.run_histories.proofs.Edits.{OwnAreNew, IsKept, GoesOn}
use Rattle.run_histories.proofs.Sized.{normal-in, sized-keeps}
use Rattle.region_calls.proofs.Seen.{IsThere}
use Rattle.play_course.proofs.Tidy.{Client, AreIts, put-stands}
use Rattle.play_course.proofs.Knowing.{IsSoFar, OfOthers, OfOwn, Before, before-others, before-got, good-others}

some-same : {A : Type 0} (a b : A) → Some a ≡ Some b → a ≡ b
some-same a b e = cc

-- ---- what was put last
-- it stands, where no task collects; and where something stands at the key, it is this
pub record StandsAs (collects : Bool) (journal : List Event) (key : Key) (bytes : List ℕ) : Type 0 where
  pub there : collects ≡ false → found journal key ≢ None
  pub bytes_are : (s : Stored) → found journal key ≡ Some s → s.bytes ≡ bytes

pub last-stands : (collects : Bool) (journal : List Event) (key : Key) (bytes : List ℕ) → IsObject key → IsSoFar collects journal → last_put journal key ≡ Some bytes → StandsAs collects journal key bytes
last-stands collects journal key bytes object so_far last = record {
  there = λ none. put-stands key object journal (so_far.stand none) ((sound journal key).begun bytes last);
  bytes_are = λ s e. some-same s.bytes bytes (sym ((sound journal key).last s e) ∙ last);
}

-- ---- a session
-- The client draws by its own source, and nothing stands under what it may draw; the changes are those of lines of its task, whose node ids
-- are new to the base; and what the session knows of its base holds.
pub record KnowsSession (client : Client) (ids : AnyIds) (s : SessionState) (journal : List Event) : Type 0 where
  pub before : Before client s.ids journal
  pub known : AreIts client s.ids
  pub goes : GoesOn ids s
  pub own : OwnAreNew ids s
  pub opened : IsOpened s journal

-- What is enough for a commit or a rebase: the client draws by its own source, nothing stands under what it may draw, and what the session knows of
-- its base holds.
pub record MayCommit (client : Client) (s : SessionState) (journal : List Event) : Type 0 where
  pub before : Before client s.ids journal
  pub known : AreIts client s.ids
  pub opened : IsOpened s journal

pub knows-may : (client : Client) (ids : AnyIds) (s : SessionState) (journal : List Event) → KnowsSession client ids s journal → MayCommit client s journal
knows-may client ids s journal h = record { before = h.before; known = h.known; opened = h.opened }

module _ (client : Client) (ids : AnyIds) (s : SessionState) where
  pub may-others : (journal more : List Event) → Each (OfOthers client ids) journal more → MayCommit client s journal → MayCommit client s (journal ++ more)
  may-others journal more others m = record {
    before = before-others client ids s.ids m.known journal more others m.before;
    known = m.known;
    opened = IsOpened-append s journal more (good-others client ids journal more others) m.opened;
  }

  pub may-got : (journal : List Event) (event : Event) (key : Key) → OfOwn client ids journal event → event.op ≡ Get key → MayCommit client s journal → MayCommit client s (journal ++ event ∷ [])
  may-got journal event key own is m = record {
    before = before-got client ids s.ids m.known journal event key own is m.before;
    known = m.known;
    opened = IsOpened-append s journal (event ∷ []) (Each-one IsGood journal event own.tidy.good) m.opened;
  }

-- all that the base names is readable, and its tree is well formed
pub base-of : (collects : Bool) (s : SessionState) (journal : List Event) → IsSoFar collects journal → IsOpened s journal → HasTree (puts_of journal) s.rows
base-of collects s journal so_far o =
    let t = so_far.trees s.base o.put in
    subst (HasTree (puts_of journal)) (some-same t.rows s.rows (sym t.is ∙ o.rows so_far.once)) t.has

module _ (client : Client) (ids : AnyIds) (s : SessionState) where
  pub knows-others : (journal more : List Event) → Each (OfOthers client ids) journal more → KnowsSession client ids s journal → KnowsSession client ids s (journal ++ more)
  knows-others journal more others h = record {
    before = before-others client ids s.ids h.known journal more others h.before;
    known = h.known;
    goes = h.goes;
    own = h.own;
    opened = IsOpened-append s journal more (good-others client ids journal more others) h.opened;
  }

  module _ (journal : List Event) (h : KnowsSession client ids s journal) where
    pub base-has : HasTree (puts_of journal) s.rows
    base-has = base-of client.collects s journal h.before.so_far h.opened

    pub has-chunks : HasChunks (puts_of journal) s.held.chunks
    has-chunks = h.opened.chunks h.before.so_far.once

    -- the source that it began with is its client's too
    its : AreIts client ids
    its = let later = h.goes.later in (sym later.way ∙ h.known.0, sym later.client ∙ h.known.1)

    kept : IsKept ids s
    kept = h.goes.kept (node-spends client.draw client.most client.once ids (are-among client.draw client.number client.most ids client.small its)) h.own

    pub is-normal : IsNormal (changes_in (puts_of journal) s) (base_tree (puts_of journal) s)
    is-normal = normal-in (puts_of journal) s has-chunks (kept.normal (puts_of journal) base-has.well_formed)

    pub keeps-frozen : KeepsFrozen s.held s.rows
    keeps-frozen = sized-keeps (puts_of journal) s (kept.normal (puts_of journal) base-has.well_formed)

-- ---- the manifests of the base
-- the base has this manifest for a node
pub record IsOfBase (rows : List NodeRow) (m : ManifestRef) : Type 0 where
  pub path : List ℕ
  pub row : NodeRow
  pub there : row_at rows path ≡ Some row
  pub named : Contains (manifests_named row.kind) m

abbrev pub AreOfBase : List NodeRow → List ManifestRef → Type 0
AreOfBase rows [] = Unit {0}
AreOfBase rows (m ∷ ms) = IsOfBase rows m × AreOfBase rows ms

each-of : (rows : List NodeRow) (ms : List ManifestRef) → ((m : ManifestRef) → Contains ms m → IsOfBase rows m) → AreOfBase rows ms
each-of rows [] f = tt
each-of rows (m ∷ ms) f = (f m (here m ms), each-of rows ms (λ x c. f x (there x m ms c)))

pub own-of-base : (rows : List NodeRow) (path : List ℕ) (node : Id8) → AreOfBase rows (own_manifests rows path node)
own-of-base rows path node = by_row (row_at rows path) refl
  where
    by_row : (o : Option NodeRow) → row_at rows path ≡ o → AreOfBase rows (manifests_for node o)
    by_row None f = tt
    by_row (Some row) f = elim (same_id8 row.id node) as (λ b. AreOfBase rows (cond b (manifests_named row.kind) [])) [
      | true ↦ each-of rows (manifests_named row.kind) (λ m c. record { path = path; row = row; there = f; named = c })
      | false ↦ tt
    ]

-- it was put, and reads as this where it stands; and it does where no task collects
pub record ManifestStands (collects : Bool) (journal : List Event) (id : Id12) : Type 0 where
  pub file : ManifestFile
  pub put : manifest_put (puts_of journal) id ≡ Some file
  pub there : collects ≡ false → found journal (Manifest id) ≢ None
  pub read : (s : Stored) → found journal (Manifest id) ≡ Some s → manifest_by id s.bytes ≡ Some file

and-then : {A B : Type 0} (f : A → Option B) (o : Option A) (b : B) → option_and_then f o ≡ Some b → (a : A) × (o ≡ Some a) × (f a ≡ Some b)
and-then f None b e = absurd cc
and-then f (Some a) b e = (a, refl, e)

pub put-reads : (collects : Bool) (journal : List Event) (id : Id12) (file : ManifestFile) → IsSoFar collects journal → manifest_put (puts_of journal) id ≡ Some file → ManifestStands collects journal id
put-reads collects journal id file so_far put =
    let bytes = and-then (manifest_by id) (last_put journal (Manifest id)) file put in
    let stands = last-stands collects journal (Manifest id) bytes.0 tt so_far bytes.1 in
    record { file = file; put = put; there = stands.there; read = λ s e. ap (manifest_by id) (stands.bytes_are s e) ∙ bytes.2 }

pub manifest-stands : (collects : Bool) (s : SessionState) (journal : List Event) → IsSoFar collects journal → IsOpened s journal → (m : ManifestRef) → IsOfBase s.rows m → ManifestStands collects journal m.id
manifest-stands collects s journal so_far opened m o =
    let file = some_of (manifest_put (puts_of journal) m.id) ((base-of collects s journal so_far opened).readable.manifests o.path o.row m o.there o.named) in
    put-reads collects journal m.id file.0 so_far file.1

module _ (client : Client) (ids : AnyIds) (s : SessionState) (journal : List Event) (h : KnowsSession client ids s journal) where
  -- ---- a chunk
  module _ (path index : List ℕ) (at : ChunkAt) (t : IsThere s path index at) where
    -- the bytes of the session's tree are a whole chunk
    pub is-whole : (bytes : List ℕ) → (overlay (puts_of journal) s).chunk path index ≡ Some bytes → length bytes ≡ at.bytes
    is-whole bytes e =
        let a = (is-normal client ids s journal h).well_formed.chunks path index bytes e in
        let node : a.node ≡ t.node = some-same a.node t.node (sym a.found ∙ t.found) in
        let array : a.fits.array ≡ t.array = some-same a.fits.array t.array (sym a.fits.found ∙ ap (λ (n : Node). array_in n.text) node ∙ t.is) in
        a.fits.whole bytes refl ∙ ap chunk_length array ∙ sym t.bytes

    -- the place that the base's manifests give has its bytes
    pub base-place : (place : Place) → look_up at.node index (listed (puts_of journal) (own_manifests s.rows path at.node)) ≡ Some place → IsSome (bytes_at (puts_of journal) place)
    base-place place e =
        let frozen : (row : NodeRow) → row_at s.rows path ≡ Some row → row.id ≡ t.node.id → SameFrozen row.user_data t.node.text =
        λ row there same. keeps-frozen client ids s journal h path (node_of row) t.node (node_at_row s.rows path ∙ ap (option_map node_of) there) t.found same in
        let here : look_up t.node.id index (listed (puts_of journal) (own_manifests s.rows path t.node.id)) ≡ Some place = subst (λ (i : Id8). look_up i index (listed (puts_of journal) (own_manifests s.rows path i)) ≡ Some place) t.id e in
        own-chunk (puts_of journal) s.rows (base-has client ids s journal h).readable path t.node frozen t.array t.is index place
        (ap (λ (b : Bool). cond b (look_up t.node.id index (listed (puts_of journal) (own_manifests s.rows path t.node.id))) None) (eq-eqb (length index) (length t.array.shape) t.rank) ∙ here)
