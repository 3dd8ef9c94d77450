-- Where nothing was put again, what is named was put.
use Rattle.std.proofs.Common.{◌≡◌, inl, inr, ℕ, ◌+◌, true, List, [], ◌∷◌, ◌++◌, length, take, drop, refl, sym, ◌∙◌, ap, subst, append_assoc, append-nil, take-append-drop}
use Rattle.std.specs.Prelude.{Option, Some, None, option_and_then}
use Rattle.ice_ids.specs.declared.Id12.{Id12}
use Rattle.ice_ids.specs.Text.{initial_id}
use Rattle.snapshot_file.specs.declared.nodes.NodeRow.{NodeRow}
use Rattle.snapshot_file.specs.declared.snapshot.SnapshotFile.{SnapshotFile}
use Rattle.manifest_file.specs.declared.manifest.ManifestFile.{ManifestFile}
use Rattle.repo_objects.specs.Readings.{snapshot_by, manifest_by}
use Rattle.repo_objects.specs.Trees.{NamesManifest}
use Rattle.repo_objects.specs.Laws.{initial_bytes}
use Rattle.object_store.specs.declared.keys.Key.{Key}
use Rattle.object_store.specs.declared.keys.Key.TheVariants.{Snapshot, Manifest, Txn, Chunk, Branch, Tag, Tombstone, Lease}
use Rattle.object_store.specs.declared.events.Op.{Op}
use Rattle.object_store.specs.declared.events.Op.TheVariants.{Get, PutNew, PutOver, Remove, RemoveAt, List as ListPart}
use Rattle.object_store.specs.declared.events.Event.{Event}
use Rattle.object_store.specs.Machine.{Slot, leaves, put_at, slot_of, found, last_put, is_on}
use Rattle.store_api.specs.Journal.{Each, WasPut, StoodAt, snap_in, ManifestsPut, ChunksPut, ManifestsKnown, ChunksKnown, PutsFirst, PutsOver, IsFirst, IsFirstOp, IsOnce, IsCut}
use Rattle.store_api.specs.Laws.{FirstLaw}
use Rattle.object_store.proofs.Slots.{same_key-true, effect-cases, free-cases, old-cases, slot-append_one, slot-none, sound, WasPut-append}
use Rattle.object_store.proofs.Journals.{Each-back}

-- ---- what was put stays so
pub ManifestsPut-append : (journal more : List Event) (s : Option SnapshotFile) → ManifestsPut journal s → ManifestsPut (journal ++ more) s
ManifestsPut-append journal more None p = p
ManifestsPut-append journal more (Some s) p = λ m n. WasPut-append journal more (Manifest m) (p m n)

pub ChunksPut-append : (journal more : List Event) (manifest : Option ManifestFile) → ChunksPut journal manifest → ChunksPut (journal ++ more) manifest
ChunksPut-append journal more None p = p
ChunksPut-append journal more (Some manifest) p = λ object n. WasPut-append journal more (Chunk object) (p object n)

-- ---- a fact on the last put, along a journal in which nothing is put again
module _ (key : Key) (Q : List Event → Option (List ℕ) → Type 0) (later : (journal : List Event) (event : Event) (o : Option (List ℕ)) → Q journal o → Q (journal ++ event ∷ []) o) (new : (journal : List Event) (bytes : List ℕ) → PutsFirst journal bytes key → Q journal (Some bytes)) (over : (journal : List Event) (bytes : List ℕ) → PutsOver journal bytes key → Q journal (Some bytes)) where
  abbrev Fine : List Event → Slot → Type 0
  Fine journal slot = Q journal slot.last

  leaves-fine : (journal : List Event) (time : ℕ) (op : Op) → is_on key op ≡ true → IsFirstOp journal op → Fine journal (slot_of journal key) → Fine journal (leaves (length journal) time op (slot_of journal key))
  leaves-fine journal time (Get k) e f h = h
  leaves-fine journal time (PutNew k bytes why) e f h =
      free-cases (Fine journal) (found journal key) (put_at (length journal) time bytes (slot_of journal key)) (slot_of journal key) h
      (λ free. new journal bytes (subst (λ (x : Key). PutsFirst journal bytes x) (same_key-true k key e) f))
  leaves-fine journal time (PutOver k bytes old why) e f h =
      old-cases (Fine journal) old.0 (found journal key) (put_at (length journal) time bytes (slot_of journal key)) (slot_of journal key) h
      (λ s d v. over journal bytes (subst (λ (x : Key). PutsOver journal bytes x) (same_key-true k key e) f))
  leaves-fine journal time (Remove k why) e f h = h
  leaves-fine journal time (RemoveAt k old why) e f h = old-cases (Fine journal) old.0 (found journal key) _ (slot_of journal key) h (λ s d v. h)
  leaves-fine journal time (ListPart part) e f h = h

  fine-along : (journal more : List Event) → Fine journal (slot_of journal key) → Each IsFirst journal more → Fine (journal ++ more) (slot_of (journal ++ more) key)
  unfolding Each
  fine-along journal [] h f = subst (λ (j : List Event). Fine j (slot_of j key)) (sym (append-nil journal)) h
  fine-along journal (x ∷ xs) h f =
      let now : Fine journal (slot_of (journal ++ x ∷ []) key) = subst (Fine journal) (sym (slot-append_one journal x key))
      (effect-cases (Fine journal) key (length journal) (slot_of journal key) x h (λ e d. leaves-fine journal x.time x.op e (f.0 d) h))
      in
      subst (λ (j : List Event). Fine j (slot_of j key)) (append_assoc journal (x ∷ []) xs) (fine-along (journal ++ x ∷ []) xs (later journal x (last_put (journal ++ x ∷ []) key) now) f.1)

  pub last-fine : Q [] None → (journal : List Event) → IsOnce journal → Q journal (last_put journal key)
  last-fine start journal once = fine-along [] journal (subst (Fine []) (sym (slot-none key)) start) once

-- ---- the initial snapshot has its own bytes
abbrev IsInitial : List Event → Option (List ℕ) → Type 0
IsInitial journal o = (b : List ℕ) → o ≡ Some b → b ≡ initial_bytes

initial-fine : (journal : List Event) → IsOnce journal → IsInitial journal (last_put journal (Snapshot initial_id))
initial-fine journal once =
    last-fine (Snapshot initial_id) IsInitial (λ j x o h. h) (λ j bytes f b e. let same : bytes ≡ b = cc in sym same ∙ f.initial refl) (λ j bytes f b e. let same : bytes ≡ b = cc in sym same ∙ f.0 refl)
    (λ b e. cc) journal once

pub initial-last : (journal : List Event) → IsOnce journal → WasPut journal (Snapshot initial_id) → last_put journal (Snapshot initial_id) ≡ Some initial_bytes
initial-last journal once w =
    let last = (sound journal (Snapshot initial_id)).put w.0 w.1 in
    last.1 ∙ ap (λ (b : List ℕ). Some b) (initial-fine journal once last.0 last.1)

-- ---- what the last puts name was put
pub manifests-put : (id : Id12) (journal : List Event) → IsOnce journal → ManifestsPut journal (snap_in id (last_put journal (Snapshot id)))
manifests-put id journal once =
    last-fine (Snapshot id) (λ j o. ManifestsPut j (snap_in id o)) (λ j x o h. ManifestsPut-append j (x ∷ []) (snap_in id o) h) (λ j bytes f. f.named) (λ j bytes f. f.1) tt journal once

pub chunks-put : (id : Id12) (journal : List Event) → IsOnce journal → ChunksPut journal (option_and_then (manifest_by id) (last_put journal (Manifest id)))
chunks-put id journal once =
    last-fine (Manifest id) (λ j o. ChunksPut j (option_and_then (manifest_by id) o)) (λ j x o h. ChunksPut-append j (x ∷ []) (option_and_then (manifest_by id) o) h) (λ j bytes f. f.1) (λ j bytes f. f) tt journal once

-- ---- a polite operation that puts nothing again

-- the manifests that any put named were put
stood-named : (journal : List Event) (id : Id12) (version : ℕ) (bytes : List ℕ) → IsOnce journal → StoodAt journal (Snapshot id) version bytes → ManifestsPut journal (snapshot_by id bytes)
stood-named journal id version bytes once h =
    let before : List Event = take (version + 1) journal in
    let split : take (version + 1) journal ++ drop (version + 1) journal ≡ journal = take-append-drop (version + 1) journal in
    let once' : IsOnce before = (Each-back IsFirst [] before (drop (version + 1) journal) (subst IsOnce (sym split) once)).0 in
    let last : last_put before (Snapshot id) ≡ Some bytes = (sound before (Snapshot id)).last _ h.stood in
    let named : ManifestsPut before (snapshot_by id bytes) = subst (λ (o : Option (List ℕ)). ManifestsPut before (snap_in id o)) last (manifests-put id before once') in
    subst (λ (j : List Event). ManifestsPut j (snapshot_by id bytes)) split (ManifestsPut-append before (drop (version + 1) journal) (snapshot_by id bytes) named)

-- a cut names what was named before it
pub cut-named : (journal : List Event) (id : Id12) (old : ℕ) (bytes : List ℕ) → ((version : ℕ) (b : List ℕ) → StoodAt journal (Snapshot id) version b → ManifestsPut journal (snapshot_by id b)) → IsCut journal id old bytes → ManifestsPut journal (snapshot_by id bytes)
cut-named journal id old bytes stood c =
    let named : ManifestsPut journal (Some c.snap) = subst (ManifestsPut journal) c.was (stood old c.before c.stood) in
    subst (ManifestsPut journal) (sym c.is) named

-- what is known to be named was put
pub known-put : (journal : List Event) (o : Option SnapshotFile) → ((id : Id12) (version : ℕ) (bytes : List ℕ) → StoodAt journal (Snapshot id) version bytes → ManifestsPut journal (snapshot_by id bytes)) → ManifestsKnown journal o → ManifestsPut journal o
known-put journal None stood k = tt
known-put journal (Some s) stood k = λ m n. elim (k m n) [
  | inl w ↦ w
  | inr p ↦
      let h = p.had in
      let named : ManifestsPut journal (Some h.snap) = subst (ManifestsPut journal) h.read (stood p.id h.version h.bytes h.stood) in
      named m (subst (λ (rows : List NodeRow). NamesManifest rows m) (sym h.rows_are) p.names)
]

-- the objects that any put of a manifest named were put
stood-chunks : (journal : List Event) (id : Id12) (version : ℕ) (bytes : List ℕ) → IsOnce journal → StoodAt journal (Manifest id) version bytes → ChunksPut journal (manifest_by id bytes)
stood-chunks journal id version bytes once h =
    let before : List Event = take (version + 1) journal in
    let split : take (version + 1) journal ++ drop (version + 1) journal ≡ journal = take-append-drop (version + 1) journal in
    let once' : IsOnce before = (Each-back IsFirst [] before (drop (version + 1) journal) (subst IsOnce (sym split) once)).0 in
    let last : last_put before (Manifest id) ≡ Some bytes = (sound before (Manifest id)).last _ h.stood in
    let named : ChunksPut before (manifest_by id bytes) = subst (λ (o : Option (List ℕ)). ChunksPut before (option_and_then (manifest_by id) o)) last (chunks-put id before once') in
    subst (λ (j : List Event). ChunksPut j (manifest_by id bytes)) split (ChunksPut-append before (drop (version + 1) journal) (manifest_by id bytes) named)

-- what is known to be an object of a manifest was put
pub known-chunks : (journal : List Event) (o : Option ManifestFile) → ((id : Id12) (version : ℕ) (bytes : List ℕ) → StoodAt journal (Manifest id) version bytes → ChunksPut journal (manifest_by id bytes)) → ChunksKnown journal o → ChunksPut journal o
known-chunks journal None stood k = tt
known-chunks journal (Some manifest) stood k = λ object n. elim (k object n) [
  | inl w ↦ w
  | inr old ↦ let named : ChunksPut journal (Some old.manifest) = subst (ChunksPut journal) old.read (stood old.id old.version old.bytes old.stood) in named object old.names
]

pub first-law : FirstLaw
first-law journal (Get key) once p f = tt
first-law journal (PutNew (Snapshot id) bytes why) once p f = record { initial = f.0; other = f.1; named = known-put journal (snapshot_by id bytes) (λ i v b. stood-named journal i v b once) p.2 }
first-law journal (PutNew (Manifest id) bytes why) once p f = (f, known-chunks journal (manifest_by id bytes) (λ i v b. stood-chunks journal i v b once) p)
first-law journal (PutNew (Txn id) bytes why) once p f = f
first-law journal (PutNew (Chunk id) bytes why) once p f = f
first-law journal (PutNew (Branch name) bytes why) once p f = tt
first-law journal (PutNew (Tag name) bytes why) once p f = tt
first-law journal (PutNew (Tombstone name) bytes why) once p f = tt
first-law journal (PutNew (Lease id) bytes why) once p f = tt
first-law journal (PutOver (Snapshot id) bytes old why) once p f = (λ e. absurd (p.not_initial e), cut-named journal id old.0 bytes (λ v b. stood-named journal id v b once) p)
first-law journal (PutOver (Manifest id) bytes old why) once p f = absurd p
first-law journal (PutOver (Txn id) bytes old why) once p f = tt
first-law journal (PutOver (Chunk id) bytes old why) once p f = tt
first-law journal (PutOver (Branch name) bytes old why) once p f = tt
first-law journal (PutOver (Tag name) bytes old why) once p f = tt
first-law journal (PutOver (Tombstone name) bytes old why) once p f = tt
first-law journal (PutOver (Lease id) bytes old why) once p f = tt
first-law journal (Remove key why) once p f = tt
first-law journal (RemoveAt key old why) once p f = tt
first-law journal (ListPart part) once p f = tt
