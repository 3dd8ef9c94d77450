-- What the read of a chunk of a box answers, whatever others do.
use Rattle.std.proofs.Common.{◌≡◌, ℕ, true, false, cond, List, [], ◌∷◌, length, take, drop, map, refl, ◌∙◌, ap, subst}
use Rattle.std.specs.Prelude.{◌+◌, ◌==◌, ◌&&◌, nat_le, Option, Some, None, option_and_then, Result, Ok, Err}
use Rattle.std.specs.Option.{option_or}
use Rattle.std.specs.Result.{result_ok}
use Rattle.std.specs.List.{filter}
use Rattle.ice_ids.specs.declared.Id8.{Id8}
use Rattle.ice_ids.specs.declared.Id12.{Id12}
use Rattle.zarr_tree.specs.Held.{entry_in}
use Rattle.zarr_changes.specs.declared.chunks.ChunkAt.{ChunkAt}
use Rattle.manifest_file.specs.declared.manifest.Place.{Place}
use Rattle.manifest_file.specs.declared.manifest.Place.TheVariants.{Inline, Object}
use Rattle.manifest_file.specs.declared.manifest.ManifestFile.{ManifestFile}
use Rattle.held_manifest.specs.LookUp.{within, entry_of, look_up}
use Rattle.manifest_index.specs.Merging.{ids_within}
use Rattle.snapshot_file.specs.declared.nodes.ManifestRef.{ManifestRef}
use Rattle.repo_objects.specs.declared.bad_objects.Bad.{Bad}
use Rattle.repo_objects.specs.declared.bad_objects.Bad.TheVariants.{Chunk as BadChunk}
use Rattle.repo_objects.specs.Readings.{manifest_by, read_manifest, read_inline, read_chunk}
use Rattle.repo_objects.specs.Trees.{Puts, part_of, bytes_at, manifest_put, or_empty, listed}
use Rattle.changed_snapshot.specs.Rows.{own_manifests}
use Rattle.changed_snapshot.specs.Laws.{KeepsFrozen}
use Rattle.object_store.specs.declared.keys.Key.TheVariants.{Manifest, Chunk as Chunk_key}
use Rattle.object_store.specs.declared.events.Version.{Version}
use Rattle.object_store.specs.declared.events.Op.TheVariants.{Get}
use Rattle.object_store.specs.declared.events.Got.TheVariants.{Found, Absent}
use Rattle.object_store.specs.declared.events.Reply.{Reply}
use Rattle.object_store.specs.declared.events.Reply.TheVariants.{Got as Is_got}
use Rattle.object_store.specs.declared.events.Event.{Event}
use Rattle.store_api.specs.declared.machines.Refusal.{Refusal}
use Rattle.store_api.specs.Callers.{Caller, Makes}
use Rattle.store_api.specs.Program.{Leads, bind}
use Rattle.store_api.specs.Running.{Program, on_answer}
use Rattle.store_api.proofs.Telling.{get-had}
use Rattle.repo_read.specs.Answers.{at_key, manifest_told, object_told}
use Rattle.repo_read.specs.Programs.{MayRefuseObject}
use Rattle.session.specs.Sessions.{SessionState, overlay}
use Rattle.session.specs.Chunks.{found_bytes}
use Rattle.region_calls.specs.ChunkTold.{value_of}
use Rattle.region_calls.proofs.Growing.{Surely, Surely-makes}
use Rattle.region_calls.proofs.ChunkGets.{held_of}
use Rattle.region_calls.proofs.Seen.{IsThere, listed_chunk, by-entry, by-base}
use Rattle.array_region.specs.Reading.{Kept, Chunk, keeping, in_file, entry_kept, in_manifest, file_kept, listed_kept, entered_kept, chunk_kept}
use Rattle.array_region.proofs.Looking.{taken}

-- ---- what is read of bytes
-- an object's part that reads as a chunk is the one that a place there has
part_read : (want offset size : ℕ) (bytes part : List ℕ) → read_chunk want offset size bytes ≡ Ok part → part_of offset size bytes ≡ Some part
part_read want offset size bytes part e = elim (nat_le (offset + size) (length bytes)) as (λ b. cond (b && (size == want)) (Ok (take size (drop offset bytes))) (Err (BadChunk want (length (take size (drop offset bytes))))) ≡ Ok part → cond b (Some (take size (drop offset bytes))) None ≡ Some part) [
  | true ↦ elim (size == want) as (λ b. cond b (Ok (take size (drop offset bytes))) (Err (BadChunk want (length (take size (drop offset bytes))))) ≡ Ok part → Some (take size (drop offset bytes)) ≡ Some part) [
    | true ↦ λ d. cc
    | false ↦ λ d. cc
  ]
  | false ↦ λ d. cc
] e

inline_read : (want : ℕ) (bytes got : List ℕ) → read_inline want bytes ≡ Ok got → bytes ≡ got
inline_read want bytes got e = elim (length bytes == want) as (λ b. cond b (Ok bytes) (Err (BadChunk want (length bytes))) ≡ Ok got → bytes ≡ got) [ true ↦ λ d. cc | false ↦ λ d. cc ] e

-- the manifest that is kept was put
abbrev pub KeptIs : Kept → Puts → Type 0
KeptIs None puts = Unit {0}
KeptIs (Some kept) puts = manifest_put puts kept.0 ≡ Some kept.1

module _ (by : Caller) (s : SessionState) (path index : List ℕ) (F : Puts → Type 0) where
  -- by these puts the chunk under the changes is this one
  abbrev pub ChunkIs : (Puts → Option (List ℕ)) → Puts → Type 0
  ChunkIs chunk puts = KeepsFrozen s.held s.rows → (overlay puts s).chunk path index ≡ chunk puts

  -- what is known on the way
  pub record Known (kept : Kept) (chunk : Puts → Option (List ℕ)) (journal : List Event) : Type 0 where
    pub kept_is : Surely (KeptIs kept) journal
    pub is : Surely (ChunkIs chunk) journal
    pub also : Surely F journal

  Known_makes : (kept : Kept) (chunk : Puts → Option (List ℕ)) (key : _) (reply : Reply) (old new : List Event) → Makes by (Get key) reply old new → Known kept chunk old → Known kept chunk new
  Known_makes kept chunk key reply old new m k = record {
    kept_is = Surely-makes (KeptIs kept) by (Get key) reply old new tt m k.kept_is;
    is = Surely-makes (ChunkIs chunk) by (Get key) reply old new tt m k.is;
    also = Surely-makes F by (Get key) reply old new tt m k.also;
  }

  abbrev pub Told : Result Chunk Refusal → List Event → Type 0
  Told (Ok chunk) h = Known chunk.1 (λ puts. value_of chunk.0) h
  Told (Err why) h = MayRefuseObject why

  -- ---- an object
  module _ (want : ℕ) (id : Id12) (offset size : ℕ) (kept : Kept) where
    abbrev place : Place
    place = Object id offset size

    part_told : (bytes : List ℕ) (version : Version) (now : ℕ) (old new : List Event) → Known kept (λ puts. bytes_at puts place) old → Makes by (Get (Chunk_key id)) (Is_got (Found bytes version now)) old new
        → (r : Result (List ℕ) Bad) → read_chunk want offset size bytes ≡ r → Leads Told by (bind (held_of (at_key (Chunk_key id) r)) (on_answer (keeping kept))) new
    unfolding Leads
    part_told bytes version now old new k m (Ok part) e =
        let k' = Known_makes kept (λ puts. bytes_at puts place) (Chunk_key id) (Is_got (Found bytes version now)) old new m k in
        let had = get-had by (Chunk_key id) bytes version now old new m in
        record {
          kept_is = k'.kept_is;
          is = λ once puts x keeps.
              k'.is once puts x keeps
              ∙ ap (option_and_then (part_of offset size)) (x.chunks id bytes had.last)
              ∙ part_read want offset size bytes part e;
          also = k'.also;
        }
    part_told bytes version now old new k m (Err bad) e = tt

    object_told_so : (reply : Reply) (old new : List Event) → Known kept (λ puts. bytes_at puts place) old → Makes by (Get (Chunk_key id)) reply old new
        → Leads Told by (bind (held_of (object_told want id offset size reply)) (on_answer (keeping kept))) new
    unfolding Leads
    object_told_so (Is_got (Found bytes version now)) old new k m = part_told bytes version now old new k m (read_chunk want offset size bytes) refl
    object_told_so (Is_got (Absent now)) old new k m = tt
    object_told_so _ old new k m = tt

  -- ---- manifests
  module _ (want : ℕ) (node : Id8) where
    abbrev rest : List ManifestRef → Kept → Program Chunk
    rest ms = listed_kept want node index (ids_within index ms)

    -- the chunk is the first manifest's, or that of those behind it
    abbrev first_chunk : List ManifestRef → Option Place → Puts → Option (List ℕ)
    first_chunk ms o puts = option_and_then (bytes_at puts) (option_or o (look_up node index (listed puts ms)))

    abbrev got_chunk : ManifestRef → List ManifestRef → Puts → Option (List ℕ)
    got_chunk m ms puts = first_chunk ms (entry_of node index (or_empty m.id (manifest_put puts m.id))) puts

    abbrev Continues : List ManifestRef → Type 0
    Continues ms = (kept : Kept) (journal : List Event) → Known kept (λ puts. listed_chunk puts node index ms) journal → Leads Told by (rest ms kept) journal

    inline_told : (m : ManifestRef) (kept : Kept) (bytes : List ℕ) (journal : List Event) → Known kept (λ puts. Some bytes) journal
        → (r : Result (List ℕ) Bad) → read_inline want bytes ≡ r → Leads Told by (bind (found_bytes (at_key (Manifest m.id) r)) (on_answer (keeping kept))) journal
    unfolding Leads
    inline_told m kept bytes journal k (Ok read) e =
        let same = inline_read want bytes read e in
        record { kept_is = k.kept_is; is = λ once puts x keeps. k.is once puts x keeps ∙ ap (λ (b : List ℕ). Some b) same; also = k.also }
    inline_told m kept bytes journal k (Err bad) e = tt

    entry_told : (m : ManifestRef) (ms : List ManifestRef) → Continues ms → (kept : Kept) (journal : List Event) (o : Option Place) → Known kept (first_chunk ms o) journal → Leads Told by (entry_kept want m.id kept (rest ms kept) o) journal
    unfolding Leads
    entry_told m ms go kept journal None k = go kept journal (record { kept_is = k.kept_is; is = k.is; also = k.also })
    entry_told m ms go kept journal (Some (Inline bytes)) k = inline_told m kept bytes journal (record { kept_is = k.kept_is; is = k.is; also = k.also }) (read_inline want bytes) refl
    entry_told m ms go kept journal (Some (Object id offset size)) k =
        λ reply new n. object_told_so want id offset size kept reply journal new (record { kept_is = k.kept_is; is = k.is; also = k.also }) n

    -- this manifest was put, so the chunk is where it has it
    in_put : (m : ManifestRef) (ms : List ManifestRef) → Continues ms → (file : ManifestFile) (journal : List Event) → Known (Some (m.id, file)) (got_chunk m ms) journal → Leads Told by (in_file want node index m.id (rest ms) file) journal
    in_put m ms go file journal k =
        entry_told m ms go (Some (m.id, file)) journal (entry_of node index file) (record {
          kept_is = k.kept_is;
          is = λ once puts x keeps. k.is once puts x keeps ∙ ap (λ (o : Option ManifestFile). first_chunk ms (entry_of node index (or_empty m.id o)) puts) (k.kept_is once puts x);
          also = k.also;
        })

    file_told : (m : ManifestRef) (ms : List ManifestRef) → Continues ms → (kept : Kept) (bytes : List ℕ) (version : Version) (now : ℕ) (old new : List Event) → Known kept (got_chunk m ms) old → Makes by (Get (Manifest m.id)) (Is_got (Found bytes version now)) old new
        → (r : Result ManifestFile Bad) → read_manifest m.id bytes ≡ r → Leads Told by (on_answer (in_file want node index m.id (rest ms)) (at_key (Manifest m.id) r)) new
    unfolding Leads
    file_told m ms go kept bytes version now old new k n (Ok file) e =
        let had = get-had by (Manifest m.id) bytes version now old new n in
        let k' = Known_makes kept (got_chunk m ms) (Manifest m.id) (Is_got (Found bytes version now)) old new n k in
        in_put m ms go file new (record {
          kept_is = λ once puts x. x.manifests m.id file (ap (option_and_then (manifest_by m.id)) had.last ∙ ap result_ok e);
          is = k'.is;
          also = k'.also;
        })
    file_told m ms go kept bytes version now old new k n (Err bad) e = tt

    manifest_told_so : (m : ManifestRef) (ms : List ManifestRef) → Continues ms → (kept : Kept) (reply : Reply) (old new : List Event) → Known kept (got_chunk m ms) old → Makes by (Get (Manifest m.id)) reply old new
        → Leads Told by (on_answer (in_file want node index m.id (rest ms)) (manifest_told m.id reply)) new
    unfolding Leads
    manifest_told_so m ms go kept (Is_got (Found bytes version now)) old new k n = file_told m ms go kept bytes version now old new k n (read_manifest m.id bytes) refl
    manifest_told_so m ms go kept (Is_got (Absent now)) old new k n = tt
    manifest_told_so m ms go kept _ old new k n = tt

    -- the manifest that is kept is looked into at once
    first_told : (m : ManifestRef) (ms : List ManifestRef) → Continues ms → (kept : Kept) (journal : List Event) → Known kept (got_chunk m ms) journal → (o : Option ManifestFile) → file_kept kept m.id ≡ o
        → Leads Told by (in_manifest want node index m.id (rest ms) o) journal
    unfolding Leads
    first_told m ms go kept journal k None e = λ reply new n. manifest_told_so m ms go kept reply journal new k n
    first_told m ms go kept journal k (Some file) e = in_put m ms go file journal (subst (λ (x : Kept). Known x (got_chunk m ms) journal) (taken kept m.id file e) k)

    -- the first of the manifests that has the chunk
    listed_told : (ms : List ManifestRef) → Continues ms
    unfolding Leads listed_kept
    listed_told [] kept journal k = record { kept_is = k.kept_is; is = k.is; also = k.also }
    listed_told (m ∷ ms) kept journal k =
        elim (within m.extents index) as (λ b. Known kept (λ puts. first_chunk ms (cond b (entry_of node index (or_empty m.id (manifest_put puts m.id))) None) puts) journal
        → Leads Told by (listed_kept want node index (map (λ (x : ManifestRef). x.id) (cond b (m ∷ filter (λ (x : ManifestRef). within x.extents index) ms) (filter (λ (x : ManifestRef). within x.extents index) ms))) kept) journal) [
          | true ↦ λ k'. first_told m ms (listed_told ms) kept journal (record { kept_is = k'.kept_is; is = k'.is; also = k'.also }) (file_kept kept m.id) refl
          | false ↦ λ k'. listed_told ms kept journal (record { kept_is = k'.kept_is; is = k'.is; also = k'.also })
        ] (record { kept_is = k.kept_is; is = k.is; also = k.also })

  -- ---- a chunk
  module _ (at : ChunkAt) (t : IsThere s path index at) where
    entered_told : (kept : Kept) (journal : List Event) → Surely (KeptIs kept) journal → Surely F journal → (entry : Option (Option Place)) → entry_in s.held.chunks at.node index ≡ entry → Leads Told by (entered_kept s path at.bytes at.node index kept entry) journal
    unfolding Leads
    entered_told kept journal k f (Some (Some (Inline bytes))) e = record { kept_is = k; is = λ once puts x keeps. by-entry s path index at t puts (Some (Some (Inline bytes))) e; also = f }
    entered_told kept journal k f (Some (Some (Object id offset size))) e =
        λ reply new n. object_told_so at.bytes id offset size kept reply journal new (record { kept_is = k; is = λ once puts x keeps. by-entry s path index at t puts (Some (Some (Object id offset size))) e; also = f }) n
    entered_told kept journal k f (Some None) e = record { kept_is = k; is = λ once puts x keeps. by-entry s path index at t puts (Some None) e; also = f }
    entered_told kept journal k f None e =
        listed_told at.bytes at.node (own_manifests s.rows path at.node) kept journal (record { kept_is = k; is = λ once puts x keeps. by-base s path index at t puts e keeps; also = f })

    pub chunk_told : (kept : Kept) (journal : List Event) → Surely (KeptIs kept) journal → Surely F journal → Leads Told by (chunk_kept s path at.bytes at.node index kept) journal
    chunk_told kept journal k f = entered_told kept journal k f (entry_in s.held.chunks at.node index) refl
