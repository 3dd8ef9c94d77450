-- The law of standing trees, and that what is polite stays polite.
use Rattle.std.proofs.Common.{◌≡◌, ◌≢◌, inl, inr, ℕ, Bool, true, false, List, [], ◌∷◌, ◌++◌, length, refl, sym, ◌∙◌, ap, subst, append_assoc, append-nil, arith}
use Rattle.std.specs.Prelude.{Option, Some, None, option_map, option_and_then, bytes_eq}
use Rattle.ice_ids.specs.declared.Id12.{Id12}
use Rattle.ice_ids.specs.Text.{initial_id}
use Rattle.zarr_tree.specs.Trees.{Tree}
use Rattle.zarr_tree.specs.declared.lists.Touched.{Touched}
use Rattle.snapshot_file.specs.declared.nodes.NodeRow.{NodeRow}
use Rattle.snapshot_file.specs.declared.snapshot.SnapshotFile.{SnapshotFile}
use Rattle.manifest_file.specs.declared.manifest.ManifestFile.{ManifestFile}
use Rattle.txn_file.specs.declared.log.TxnFile.{TxnFile}
use Rattle.repo_objects.specs.Readings.{snapshot_by, manifest_by, log_by}
use Rattle.repo_objects.specs.Trees.{Puts, NamesChunk, manifest_put, or_empty, tree_under}
use Rattle.repo_objects.specs.Laws.{initial_bytes}
use Rattle.object_store.specs.declared.keys.Key.{Key}
use Rattle.object_store.specs.declared.keys.Key.TheVariants.{Snapshot, Manifest, Txn, Chunk, Branch, Tag, Tombstone, Lease}
use Rattle.object_store.specs.declared.keys.Why.{Why}
use Rattle.object_store.specs.declared.events.Op.{Op}
use Rattle.object_store.specs.declared.events.Op.TheVariants.{Get, PutNew, PutOver, Remove, RemoveAt, List as ListPart}
use Rattle.object_store.specs.declared.events.Event.{Event}
use Rattle.object_store.specs.Machine.{Stored, Slot, leaves, put_at, slot_of, found, first_put, last_put, is_on}
use Rattle.store_api.specs.Journal.{Each, WasPut, puts_of, snap_in, snap_made, log_made, ManifestsPut, ChunksPut, IsUnused, PutsFirst, IsFirst, IsFirstOp, IsOnce, IsCommitOver, IsMadeOver, ParentPut, HadRows, ManifestsKnown, ChunksKnown, NamesPut, IsCut, MayPutOver, IsPolite, IsGood}
use Rattle.store_api.specs.Laws.{TreesLaw, PutsLaw, PoliteLaw}
use Rattle.object_store.proofs.Slots.{same_key-true, bytes-same, id-true, effect-cases, free-cases, old-cases, slot-append_one, sound, stood-is, first-append, WasPut-append, StoodAt-append}
use Rattle.object_store.proofs.Journals.{Each-append, Each-back}
use Rattle.store_api.proofs.SameTree.{tree-same}
use Rattle.store_api.proofs.Once.{initial-last, manifests-put, chunks-put}

-- ---- what is read of a key's last put stays, where nothing is put again and puts over leave it
module _ {A : Type 0} (key : Key) (read : Option (List ℕ) → A) (unused : (journal : List Event) (bytes : List ℕ) → PutsFirst journal bytes key → IsUnused journal key) (over : (journal : List Event) (bytes : List ℕ) (s : Stored) (why : Why) → found journal key ≡ Some s → MayPutOver journal bytes s.version why key → read (Some bytes) ≡ read (last_put journal key)) where
  abbrev Reads : List Event → Slot → Type 0
  Reads journal slot = read slot.last ≡ read (last_put journal key)

  leaves-read : (journal : List Event) (time : ℕ) (op : Op) → is_on key op ≡ true → WasPut journal key → IsPolite journal op → IsFirstOp journal op → Reads journal (leaves (length journal) time op (slot_of journal key))
  leaves-read journal time (Get k) e w p f = refl
  leaves-read journal time (PutNew k bytes why) e w p f =
      free-cases (Reads journal) (found journal key) (put_at (length journal) time bytes (slot_of journal key)) (slot_of journal key) refl
      (λ free. let never = unused journal bytes (subst (λ (x : Key). PutsFirst journal bytes x) (same_key-true k key e) f) free in let once = w.1 in cc)
  leaves-read journal time (PutOver k bytes old why) e w p f =
      let p' : MayPutOver journal bytes old.0 why key = subst (λ (x : Key). MayPutOver journal bytes old.0 why x) (same_key-true k key e) p in
      old-cases (Reads journal) old.0 (found journal key) (put_at (length journal) time bytes (slot_of journal key)) (slot_of journal key) refl
      (λ s d v. over journal bytes s why d (subst (λ (n : ℕ). MayPutOver journal bytes n why key) (sym v) p'))
  leaves-read journal time (Remove k why) e w p f = refl
  leaves-read journal time (RemoveAt k old why) e w p f = old-cases (Reads journal) old.0 (found journal key) _ (slot_of journal key) refl (λ s d v. refl)
  leaves-read journal time (ListPart part) e w p f = refl

  read-one : (journal : List Event) (event : Event) → WasPut journal key → IsGood journal event → IsFirst journal event → read (last_put (journal ++ event ∷ []) key) ≡ read (last_put journal key)
  read-one journal event w g f =
      subst (Reads journal) (sym (slot-append_one journal event key))
      (effect-cases (Reads journal) key (length journal) (slot_of journal key) event refl (λ e d. leaves-read journal event.time event.op e w g.polite (f d)))

  pub read-stays : (journal more : List Event) → WasPut journal key → Each IsGood journal more → Each IsFirst journal more → read (last_put (journal ++ more) key) ≡ read (last_put journal key)
  unfolding Each
  read-stays journal [] w g f = ap (λ (h : List Event). read (last_put h key)) (append-nil journal)
  read-stays journal (x ∷ xs) w g f =
      ap (λ (h : List Event). read (last_put h key)) (sym (append_assoc journal (x ∷ []) xs))
      ∙ read-stays (journal ++ x ∷ []) xs (WasPut-append journal (x ∷ []) key w) g.1 f.1
      ∙ read-one journal x w g.0 f.0

-- ---- manifests, objects with chunks, and the rows of snapshots
pub manifest-stays : (journal more : List Event) (m : Id12) → WasPut journal (Manifest m) → Each IsGood journal more → Each IsFirst journal more → last_put (journal ++ more) (Manifest m) ≡ last_put journal (Manifest m)
manifest-stays journal more m w g f = read-stays (Manifest m) (λ (o : Option (List ℕ)). o) (λ j bytes h. h.0) (λ j bytes s why e p. absurd p) journal more w g f

pub chunk-stays : (journal more : List Event) (object : Id12) → WasPut journal (Chunk object) → Each IsGood journal more → Each IsFirst journal more → last_put (journal ++ more) (Chunk object) ≡ last_put journal (Chunk object)
chunk-stays journal more object w g f = read-stays (Chunk object) (λ (o : Option (List ℕ)). o) (λ j bytes h. h) (λ j bytes s why e p. absurd p) journal more w g f

abbrev rows_of : Option SnapshotFile → Option (List NodeRow)
rows_of o = option_map (λ (s : SnapshotFile). s.nodes) o

abbrev rows_in : Id12 → Option (List ℕ) → Option (List NodeRow)
rows_in id o = rows_of (snap_in id o)

-- a cut leaves the rows
cut-rows : (journal : List Event) (id : Id12) (bytes : List ℕ) (s : Stored) → found journal (Snapshot id) ≡ Some s → IsCut journal id s.version bytes → rows_in id (Some bytes) ≡ rows_in id (last_put journal (Snapshot id))
cut-rows journal id bytes s e c =
    let same : s.bytes ≡ c.before = stood-is journal (Snapshot id) s c.before e c.stood in
    let last : last_put journal (Snapshot id) ≡ Some c.before = (sound journal (Snapshot id)).last s e ∙ ap (λ (b : List ℕ). Some b) same in
    ap rows_of c.is ∙ sym (ap rows_of c.was) ∙ ap (rows_in id) (sym last)

pub rows-stay : (id : Id12) (journal more : List Event) → IsOnce journal → WasPut journal (Snapshot id) → Each IsGood journal more → Each IsFirst journal more → rows_in id (last_put (journal ++ more) (Snapshot id)) ≡ rows_in id (last_put journal (Snapshot id))
rows-stay id journal more once w g f = by_case (bytes_eq id.0 initial_id.0) refl
  where
    by_case : (b : Bool) → bytes_eq id.0 initial_id.0 ≡ b → rows_in id (last_put (journal ++ more) (Snapshot id)) ≡ rows_in id (last_put journal (Snapshot id))
    by_case true e =
        let same : id ≡ initial_id = id-true id initial_id e in
        let w' : WasPut journal (Snapshot initial_id) = subst (λ (i : Id12). WasPut journal (Snapshot i)) same w in
        let old : last_put journal (Snapshot initial_id) ≡ Some initial_bytes = initial-last journal once w' in
        let new : last_put (journal ++ more) (Snapshot initial_id) ≡ Some initial_bytes = initial-last (journal ++ more) (Each-append IsFirst [] journal more once f) (WasPut-append journal more (Snapshot initial_id) w') in
        subst (λ (i : Id12). rows_in i (last_put (journal ++ more) (Snapshot i)) ≡ rows_in i (last_put journal (Snapshot i))) (sym same) (ap (rows_in initial_id) (new ∙ sym old))
    by_case false e =
        let other : id ≢ initial_id = λ s. let y : bytes_eq id.0 initial_id.0 ≡ true = subst (λ (i : Id12). bytes_eq id.0 i.0 ≡ true) s (bytes-same id.0) in cc in
        read-stays (Snapshot id) (rows_in id) (λ j bytes h. h.other other) (λ j bytes s why d p. cut-rows j id bytes s d p) journal more w g f

-- ---- trees
abbrev tree_by : Puts → Option SnapshotFile → Option Tree
tree_by puts o = option_map (λ (s : SnapshotFile). tree_under puts s.nodes) o

pub by-rows : (puts : Puts) (o : Option SnapshotFile) → tree_by puts o ≡ option_map (tree_under puts) (rows_of o)
by-rows puts None = refl
by-rows puts (Some s) = refl

-- an object that is named was put, since an unreadable manifest names none
chunk-put : (journal : List Event) (m object : Id12) (manifest : Option ManifestFile) → ChunksPut journal manifest → NamesChunk (or_empty m manifest) object → WasPut journal (Chunk object)
chunk-put journal m object None h n = absurd (omega (arith, n.among.1))
chunk-put journal m object (Some manifest) h n = h object n

-- the tree of rows whose manifests were put stays
tree-stays : (journal more : List Event) (o : Option SnapshotFile) → IsOnce journal → ManifestsPut journal o → Each IsGood journal more → Each IsFirst journal more → tree_by (puts_of (journal ++ more)) o ≡ tree_by (puts_of journal) o
tree-stays journal more None once h g f = refl
tree-stays journal more (Some s) once h g f =
    ap (λ (t : Tree). Some t) (tree-same (puts_of journal) (puts_of (journal ++ more)) s.nodes
    (λ m n. manifest-stays journal more m (h m n) g f)
    (λ m object n c. chunk-stays journal more object (chunk-put journal m object (manifest_put (puts_of journal) m) (chunks-put m journal once) c) g f))

-- A snapshot that was put keeps its tree, or keeps having none.
pub standing : TreesLaw
standing id journal more once w g f =
    by-rows (puts_of (journal ++ more)) (snap_in id (last_put (journal ++ more) (Snapshot id)))
    ∙ ap (option_map (tree_under (puts_of (journal ++ more)))) (rows-stay id journal more once w g f)
    ∙ sym (by-rows (puts_of (journal ++ more)) (snap_in id (last_put journal (Snapshot id))))
    ∙ tree-stays journal more (snap_in id (last_put journal (Snapshot id))) once (manifests-put id journal once) g f

-- ---- what was put stays put and readable
last-put : (journal : List Event) (key : Key) (bytes : List ℕ) → last_put journal key ≡ Some bytes → WasPut journal key
last-put journal key bytes e = (sound journal key).begun bytes e

some-chained : {A B : Type 0} (o : Option A) (f : A → Option B) (b : B) → option_and_then f o ≡ Some b → (a : A) × (o ≡ Some a)
some-chained None f b e = absurd cc
some-chained (Some a) f b e = (a, refl)

pub puts-stay : PutsLaw
puts-stay journal more once g f = record {
  manifests = λ id m e.
      let put = some-chained (last_put journal (Manifest id)) (manifest_by id) m e in
      ap (option_and_then (manifest_by id)) (manifest-stays journal more id (last-put journal (Manifest id) put.0 put.1) g f) ∙ e;
  chunks = λ id bytes e. chunk-stays journal more id (last-put journal (Chunk id) bytes e) g f ∙ e;
}

-- ---- politeness
bind-some : {A B : Type 0} (o p : Option A) (f : A → Option B) (b : B) → ((a : A) → o ≡ Some a → p ≡ Some a) → option_and_then f o ≡ Some b → option_and_then f p ≡ Some b
bind-some None p f b k e = cc
bind-some (Some a) p f b k e = ap (λ x. option_and_then f x) (k a refl) ∙ e

mapped-some : {A B : Type 0} (o p : Option A) (f : A → B) (b : B) → ((a : A) → o ≡ Some a → p ≡ Some a) → option_map f o ≡ Some b → option_map f p ≡ Some b
mapped-some None p f b k e = cc
mapped-some (Some a) p f b k e = ap (option_map f) (k a refl) ∙ e

-- what was first put stays so
pub snap_made-append : (journal more : List Event) (id : Id12) (s : SnapshotFile) → snap_made journal id ≡ Some s → snap_made (journal ++ more) id ≡ Some s
snap_made-append journal more id s e = bind-some (first_put journal (Snapshot id)) (first_put (journal ++ more) (Snapshot id)) (snapshot_by id) s (first-append journal more (Snapshot id)) e

pub log_made-append : (journal more : List Event) (id : Id12) (s : Touched) → log_made journal id ≡ Some s → log_made (journal ++ more) id ≡ Some s
log_made-append journal more id s e =
    mapped-some (option_and_then (log_by id) (first_put journal (Txn id))) (option_and_then (log_by id) (first_put (journal ++ more) (Txn id))) _ s
    (λ (log : TxnFile) d. bind-some (first_put journal (Txn id)) (first_put (journal ++ more) (Txn id)) (log_by id) log (first-append journal more (Txn id)) d) e

pub snap_made-put : (journal : List Event) (id : Id12) (s : SnapshotFile) → snap_made journal id ≡ Some s → WasPut journal (Snapshot id)
snap_made-put journal id s e = by_case (first_put journal (Snapshot id)) refl
  where
    by_case : (o : Option (List ℕ)) → first_put journal (Snapshot id) ≡ o → WasPut journal (Snapshot id)
    by_case None h = let n : snap_made journal id ≡ None = ap (snap_in id) h in cc
    by_case (Some b) h = (b, h)

IsMadeOver-append : (journal more : List Event) (base id : Id12) → IsOnce journal → WasPut journal (Snapshot base) → Each IsGood journal more → Each IsFirst journal more → IsMadeOver journal base id → IsMadeOver (journal ++ more) base id
IsMadeOver-append journal more base id once put g f m = record {
  snap = m.snap;
  made = snap_made-append journal more id m.snap m.made;
  parent = m.parent;
  log = m.log;
  logged = log_made-append journal more id m.log m.logged;
  differs = λ t u e w h. m.differs t u (sym (standing base journal more once put g f) ∙ e) w (sym (standing id journal more once (snap_made-put journal id m.snap m.made) g f) ∙ h);
}

IsCommitOver-append : (journal more : List Event) (branch : List ℕ) (old : ℕ) (id : Id12) → Each IsGood journal more → IsCommitOver journal branch old id → IsCommitOver (journal ++ more) branch old id
IsCommitOver-append journal more branch old id g c = record {
  base = c.base;
  named_by = c.named_by;
  named = StoodAt-append journal more (Branch branch) old c.named_by c.named;
  names = c.names;
  base_put = WasPut-append journal more (Snapshot c.base) c.base_put;
  child = record { version = c.child.version; bytes = c.child.bytes; stood = StoodAt-append journal more (Snapshot id) c.child.version c.child.bytes c.child.stood; snap = c.child.snap; read = c.child.read; parent_is = c.child.parent_is };
  log_put = WasPut-append journal more (Txn id) c.log_put;
  once = λ once. let parts = Each-back IsFirst [] journal more once in IsMadeOver-append journal more c.base id parts.0 c.base_put g parts.1 (c.once parts.0);
}

pub ParentPut-append : (journal more : List Event) (s : Option SnapshotFile) → ParentPut journal s → ParentPut (journal ++ more) s
ParentPut-append journal more None p = p
ParentPut-append journal more (Some s) p = λ id e. WasPut-append journal more (Snapshot id) (p id e)

abbrev pub HadRows-append : (journal more : List Event) (id : Id12) (rows : List NodeRow) → HadRows journal id rows → HadRows (journal ++ more) id rows
HadRows-append journal more id rows h = record { version = h.version; bytes = h.bytes; stood = StoodAt-append journal more (Snapshot id) h.version h.bytes h.stood; snap = h.snap; read = h.read; rows_are = h.rows_are }

ManifestsKnown-append : (journal more : List Event) (s : Option SnapshotFile) → ManifestsKnown journal s → ManifestsKnown (journal ++ more) s
ManifestsKnown-append journal more None k = k
ManifestsKnown-append journal more (Some s) k = λ m n. elim (k m n) [
  | inl w ↦ inl (WasPut-append journal more (Manifest m) w)
  | inr p ↦ inr (record { id = p.id; is = p.is; rows = p.rows; had = HadRows-append journal more p.id p.rows p.had; names = p.names })
]

ChunksKnown-append : (journal more : List Event) (manifest : Option ManifestFile) → ChunksKnown journal manifest → ChunksKnown (journal ++ more) manifest
ChunksKnown-append journal more None k = k
ChunksKnown-append journal more (Some manifest) k = λ object n. elim (k object n) [
  | inl w ↦ inl (WasPut-append journal more (Chunk object) w)
  | inr o ↦ inr (record { id = o.id; version = o.version; bytes = o.bytes; stood = StoodAt-append journal more (Manifest o.id) o.version o.bytes o.stood; manifest = o.manifest; read = o.read; names = o.names })
]

abbrev pub NamesPut-append : (journal more : List Event) (bytes : List ℕ) → NamesPut journal bytes → NamesPut (journal ++ more) bytes
NamesPut-append journal more bytes n = record { id = n.id; reference = n.reference; put = WasPut-append journal more (Snapshot n.id) n.put }

-- what is polite stays polite
pub IsPolite-append : PoliteLaw
IsPolite-append journal more (Get key) g p = p
IsPolite-append journal more (PutNew (Snapshot id) bytes why) g p = (
  elim p.0 [ inl e ↦ inl e | inr w ↦ inr (WasPut-append journal more (Txn id) w) ],
  ParentPut-append journal more (snapshot_by id bytes) p.1,
  ManifestsKnown-append journal more (snapshot_by id bytes) p.2,
)
IsPolite-append journal more (PutNew (Txn id) bytes why) g p = p
IsPolite-append journal more (PutNew (Manifest id) bytes why) g p = ChunksKnown-append journal more (manifest_by id bytes) p
IsPolite-append journal more (PutNew (Chunk id) bytes why) g p = p
IsPolite-append journal more (PutNew (Branch name) bytes why) g p = (NamesPut-append journal more bytes p.0, p.1)
IsPolite-append journal more (PutNew (Tag name) bytes why) g p = (NamesPut-append journal more bytes p.0, p.1)
IsPolite-append journal more (PutNew (Tombstone name) bytes why) g p = WasPut-append journal more (Tag name) p
IsPolite-append journal more (PutNew (Lease id) bytes why) g p = (NamesPut-append journal more bytes p.0, p.1)
IsPolite-append journal more (PutOver (Snapshot id) bytes old why) g p = record { before = p.before; stood = StoodAt-append journal more (Snapshot id) old.0 p.before p.stood; snap = p.snap; was = p.was; is = p.is; not_initial = p.not_initial }
IsPolite-append journal more (PutOver (Txn id) bytes old why) g p = p
IsPolite-append journal more (PutOver (Manifest id) bytes old why) g p = p
IsPolite-append journal more (PutOver (Chunk id) bytes old why) g p = p
IsPolite-append journal more (PutOver (Branch name) bytes old why) g p = record {
  names = NamesPut-append journal more bytes p.names;
  cause = elim p.cause [
    | inl r ↦ inl r
    | inr c ↦ inr (c.0, IsCommitOver-append journal more name old.0 p.names.id g c.1)
  ];
}
IsPolite-append journal more (PutOver (Tag name) bytes old why) g p = p
IsPolite-append journal more (PutOver (Tombstone name) bytes old why) g p = p
IsPolite-append journal more (PutOver (Lease id) bytes old why) g p = p
IsPolite-append journal more (Remove key why) g p = p
IsPolite-append journal more (RemoveAt key old why) g p = p
IsPolite-append journal more (ListPart part) g p = p
