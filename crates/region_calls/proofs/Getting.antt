-- What the answer of a read says of the journal, whatever others do.
use Rattle.std.proofs.Common.{◌≡◌, inl, inr, ℕ, true, false, cond, List, [], ◌∷◌, length, take, drop, map, refl, ◌∙◌, ap}
use Rattle.std.specs.Prelude.{◌+◌, ◌==◌, ◌&&◌, nat_le, Option, Some, None, option_and_then, Result, Ok, Err}
use Rattle.std.specs.Option.{option_or}
use Rattle.std.specs.Result.{result_ok}
use Rattle.std.specs.List.{filter}
use Rattle.ice_ids.specs.declared.Id8.{Id8}
use Rattle.ice_ids.specs.declared.Id12.{Id12}
use Rattle.zarr_tree.specs.declared.edit.EditFault.{EditFault}
use Rattle.zarr_tree.specs.declared.edit.EditFault.TheVariants as E
use Rattle.zarr_tree.specs.Held.{entry_in}
use Rattle.zarr_changes.specs.declared.chunks.ChunkAt.{ChunkAt}
use Rattle.zarr_changes.specs.Sets.{chunk_found}
use Rattle.manifest_file.specs.declared.manifest.Place.{Place}
use Rattle.manifest_file.specs.declared.manifest.Place.TheVariants.{Inline, Object}
use Rattle.manifest_file.specs.declared.manifest.ManifestFile.{ManifestFile}
use Rattle.held_manifest.specs.LookUp.{within, entry_of, look_up}
use Rattle.manifest_index.specs.Merging.{ids_within}
use Rattle.snapshot_file.specs.declared.nodes.ManifestRef.{ManifestRef}
use Rattle.repo_objects.specs.declared.bad_objects.Bad.{Bad}
use Rattle.repo_objects.specs.declared.bad_objects.Bad.TheVariants.{Chunk as BadChunk}
use Rattle.repo_objects.specs.Readings.{manifest_by, read_manifest, read_inline, read_chunk}
use Rattle.repo_objects.specs.Trees.{Puts, NamesManifest, part_of, bytes_at, manifest_put, or_empty, listed}
use Rattle.changed_snapshot.specs.Rows.{own_manifests}
use Rattle.changed_snapshot.specs.Laws.{KeepsFrozen}
use Rattle.object_store.specs.declared.keys.Key.{Key}
use Rattle.object_store.specs.declared.keys.Key.TheVariants.{Manifest, Chunk}
use Rattle.object_store.specs.declared.events.Version.{Version}
use Rattle.object_store.specs.declared.events.Op.TheVariants.{Get}
use Rattle.object_store.specs.declared.events.Got.TheVariants.{Found, Absent}
use Rattle.object_store.specs.declared.events.Reply.{Reply}
use Rattle.object_store.specs.declared.events.Reply.TheVariants.{Got as Is_got, Failed}
use Rattle.object_store.specs.declared.events.Event.{Event}
use Rattle.store_api.specs.declared.machines.Refusal.{Refusal}
use Rattle.store_api.specs.Callers.{Caller, Makes}
use Rattle.store_api.specs.Program.{Leads}
use Rattle.store_api.specs.Running.{Program, on_answer}
use Rattle.repo_read.specs.Answers.{at_key, manifest_told, object_told}
use Rattle.session.specs.declared.chunks.Value.{Value}
use Rattle.session.specs.declared.chunks.Value.TheVariants.{Bytes, Fill}
use Rattle.session.specs.Sessions.{SessionState, nodes_seen, overlay}
use Rattle.session.specs.Editing.{refusal_of_edit}
use Rattle.session.specs.Chunks.{found_bytes, read_entry, read_listed, read_at, read_found, get_program}
use Rattle.commit_path.specs.Owed.{IsCareful}
use Rattle.store_api.specs.Telling.{ChangedNothing, WasGot}
use Rattle.commit_path.specs.Opened.{IsOpened}
use Rattle.commit_path.specs.Single.{PutsSnapshot}
use Rattle.commit_path.specs.Laws.{SessionLaw}
use Rattle.store_api.proofs.Telling.{get-had, makes-keeps}
use Rattle.store_api.proofs.Happening.{got-made, absent-made, failed-made}
use Rattle.region_calls.specs.ChunkTold.{value_of, IsPartOf, IsOfGet, GetTells}
use Rattle.region_calls.specs.ChunkLaws.{GetLaw}
use Rattle.commit_path.proofs.Listing.{more-makes}
use Rattle.region_calls.proofs.Lasting.{part-append}
use Rattle.region_calls.proofs.Growing.{Surely, Surely-makes}
use Rattle.region_calls.proofs.ChunkGets.{gets-keep, got-nothing, gets-stay, held_of, get-gets}
use Rattle.region_calls.proofs.Seen.{IsThere, there, listed_chunk, by-entry, by-base, AllNamed, own-named}

-- ---- what is read of bytes
-- an object's part that reads as a chunk is the one that a place there has
part-read : (want offset size : ℕ) (bytes part : List ℕ) → read_chunk want offset size bytes ≡ Ok part → part_of offset size bytes ≡ Some part
part-read want offset size bytes part e = elim (nat_le (offset + size) (length bytes)) as (λ b. cond (b && (size == want)) (Ok (take size (drop offset bytes))) (Err (BadChunk want (length (take size (drop offset bytes))))) ≡ Ok part → cond b (Some (take size (drop offset bytes))) None ≡ Some part) [
  | true ↦ elim (size == want) as (λ b. cond b (Ok (take size (drop offset bytes))) (Err (BadChunk want (length (take size (drop offset bytes))))) ≡ Ok part → Some (take size (drop offset bytes)) ≡ Some part) [
    | true ↦ λ d. cc
    | false ↦ λ d. cc
  ]
  | false ↦ λ d. cc
] e

inline-read : (want : ℕ) (bytes got : List ℕ) → read_inline want bytes ≡ Ok got → bytes ≡ got
inline-read want bytes got e = elim (length bytes == want) as (λ b. cond b (Ok bytes) (Err (BadChunk want (length bytes))) ≡ Ok got → bytes ≡ got) [ true ↦ λ d. cc | false ↦ λ d. cc ] e

module _ (L : SessionLaw) (by : Caller) (s : SessionState) (path index : List ℕ) (start : List Event) where
  abbrev Told : Result Value Refusal → List Event → Type 0
  Told answer h = GetTells by.number s path index start answer h × IsOpened s h

  -- by these puts the chunk under the changes is this one
  abbrev ChunkIs : (Puts → Option (List ℕ)) → Puts → Type 0
  ChunkIs chunk puts = KeepsFrozen s.held s.rows → (overlay puts s).chunk path index ≡ chunk puts

  -- what is known on the way
  record Known (chunk : Puts → Option (List ℕ)) (journal : List Event) : Type 0 where
    pub is : Surely (ChunkIs chunk) journal
    pub opened : IsOpened s journal
    pub nothing : ChangedNothing by.number start journal

  Known-makes : (chunk : Puts → Option (List ℕ)) (key : Key) (reply : Reply) (old new : List Event) → Makes by (Get key) reply old new → Known chunk old → Known chunk new
  Known-makes chunk key reply old new m k = record {
    is = Surely-makes (ChunkIs chunk) by (Get key) reply old new tt m k.is;
    opened = makes-keeps (IsOpened s) (L.kept s) by (Get key) reply old new tt m k.opened;
    nothing = got-nothing by start key reply old new m k.nothing;
  }

  value-told : (value : Value) (journal : List Event) → Known (λ puts. value_of value) journal → Told (Ok value) journal
  value-told value journal k = ((k.is, k.nothing), k.opened)

  -- ---- an object
  module _ (at : ChunkAt) (id : Id12) (offset size : ℕ) where
    -- the chunk is said to be in this part
    abbrev Part : List Event → Type 0
    Part journal = IsPartOf by.number s path index at id offset size start journal

    part-makes : (reply : Reply) (old new : List Event) → Makes by (Get (Chunk id)) reply old new → Part old → Part new
    part-makes reply old new m p = more-makes Part (λ journal more x. part-append by.number s path index start journal more at id offset size x) by (Get (Chunk id)) reply old new m p

    of-get : (journal : List Event) → Part journal → IsOfGet by.number s path index start journal (Get (Chunk id))
    of-get journal p = inr (id, record { at = at; offset = offset; size = size; part = p }, refl)

    abbrev place : Place
    place = Object id offset size

    part-told : (bytes : List ℕ) (version : Version) (now : ℕ) (old new : List Event) → Part old → Known (λ puts. bytes_at puts place) old → Makes by (Get (Chunk id)) (Is_got (Found bytes version now)) old new
        → (r : Result (List ℕ) Bad) → read_chunk at.bytes offset size bytes ≡ r → Leads Told by (held_of (at_key (Chunk id) r)) new
    unfolding Leads
    part-told bytes version now old new p k m (Ok part) e =
        let k' = Known-makes (λ puts. bytes_at puts place) (Chunk id) (Is_got (Found bytes version now)) old new m k in
        let had = get-had by (Chunk id) bytes version now old new m in
        value-told (Bytes part) new (record {
          is = λ once puts x keeps.
              k'.is once puts x keeps
              ∙ ap (option_and_then (part_of offset size)) (x.chunks id bytes had.last)
              ∙ part-read at.bytes offset size bytes part e;
          opened = k'.opened;
          nothing = k'.nothing;
        })
    part-told bytes version now old new p k m (Err bad) e =
        let k' = Known-makes (λ puts. bytes_at puts place) (Chunk id) (Is_got (Found bytes version now)) old new m k in
        ((record { bytes = bytes; version = version.0; got = got-made by start (Chunk id) bytes version now old new m k.nothing; unfit = record { at = at; offset = offset; size = size; part = part-makes (Is_got (Found bytes version now)) old new m p; unfit = e } }, k'.nothing), k'.opened)

    object-told : (reply : Reply) (old new : List Event) → Part old → Known (λ puts. bytes_at puts place) old → Makes by (Get (Chunk id)) reply old new → Leads Told by (held_of (object_told at.bytes id offset size reply)) new
    unfolding Leads
    object-told (Is_got (Found bytes version now)) old new p k m = part-told bytes version now old new p k m (read_chunk at.bytes offset size bytes) refl
    object-told (Is_got (Absent now)) old new p k m =
        let k' = Known-makes (λ puts. bytes_at puts place) (Chunk id) (Is_got (Absent now)) old new m k in
        ((record { of_get = of-get new (part-makes (Is_got (Absent now)) old new m p); absent = absent-made by start (Chunk id) now old new m k.nothing }, k'.nothing), k'.opened)
    object-told (Failed d) old new p k m =
        let k' = Known-makes (λ puts. bytes_at puts place) (Chunk id) (Failed d) old new m k in
        (failed-made by (IsOfGet by.number s path index start new) start (Get (Chunk id)) d old new (of-get new (part-makes (Failed d) old new m p)) m k.nothing, k'.opened)
    object-told _ old new p k m = let e = m.answered.answered in absurd (cc)

  -- ---- manifests
  module _ (at : ChunkAt) (found : chunk_found (nodes_seen s) path index ≡ Ok at) where
    abbrev want : ℕ
    want = at.bytes

    abbrev node : Id8
    node = at.node

    abbrev rest : List ManifestRef → Program Value
    rest ms = read_listed want node index (ids_within index ms)

    -- the chunk is the first manifest's, or that of those behind it
    abbrev first_chunk : List ManifestRef → Option Place → Puts → Option (List ℕ)
    first_chunk ms o puts = option_and_then (bytes_at puts) (option_or o (look_up node index (listed puts ms)))

    abbrev got_chunk : ManifestRef → List ManifestRef → Puts → Option (List ℕ)
    got_chunk m ms puts = first_chunk ms (entry_of node index (or_empty m.id (manifest_put puts m.id))) puts

    abbrev Continues : List ManifestRef → Type 0
    Continues ms = (journal : List Event) → Known (λ puts. listed_chunk puts node index ms) journal → Leads Told by (rest ms) journal

    -- a manifest has these bytes as the chunk
    record HasInline (manifest : Id12) (bytes file : List ℕ) : Type 0 where
      held : ManifestFile
      read : manifest_by manifest file ≡ Some held
      has : entry_of node index held ≡ Some (Inline bytes)

    inline-told : (m : ManifestRef) (bytes file : List ℕ) (version : ℕ) (journal : List Event) → NamesManifest s.rows m.id → WasGot by.number (Manifest m.id) file version start journal → HasInline m.id bytes file → Known (λ puts. Some bytes) journal
        → (r : Result (List ℕ) Bad) → read_inline want bytes ≡ r → Leads Told by (found_bytes (at_key (Manifest m.id) r)) journal
    unfolding Leads
    inline-told m bytes file version journal named got h k (Ok read) e =
        let same = inline-read want bytes read e in
        value-told (Bytes read) journal (record { is = λ once puts x keeps. k.is once puts x keeps ∙ ap (λ (b : List ℕ). Some b) same; opened = k.opened; nothing = k.nothing })
    inline-told m bytes file version journal named got h k (Err bad) e =
        ((record { bytes = file; version = version; got = got; unfit = (named, inr (record { at = at; found = found; file = h.held; read = h.read; held = bytes; has = h.has; unfit = e })) }, k.nothing), k.opened)

    entry-told : (m : ManifestRef) (ms : List ManifestRef) → Continues ms → (file : List ℕ) (version : ℕ) (journal : List Event) → NamesManifest s.rows m.id → WasGot by.number (Manifest m.id) file version start journal → (held : ManifestFile) → manifest_by m.id file ≡ Some held
        → (o : Option Place) → entry_of node index held ≡ o → Known (first_chunk ms o) journal → Leads Told by (read_entry want m.id (rest ms) o) journal
    unfolding Leads
    entry-told m ms go file version journal named got held read None e k = go journal (record { is = k.is; opened = k.opened; nothing = k.nothing })
    entry-told m ms go file version journal named got held read (Some (Inline bytes)) e k = inline-told m bytes file version journal named got (record { held = held; read = read; has = e }) (record { is = k.is; opened = k.opened; nothing = k.nothing }) (read_inline want bytes) refl
    entry-told m ms go file version journal named got held read (Some (Object id offset size)) e k =
        λ reply new n. object-told at id offset size reply journal new (record { found = found; told = inr (record { manifest = m.id; named = named; bytes = file; version = version; got = got; file = held; read = read; has = e }) }) (record { is = k.is; opened = k.opened; nothing = k.nothing }) n

    file-told : (m : ManifestRef) (ms : List ManifestRef) → Continues ms → (bytes : List ℕ) (version : Version) (now : ℕ) (old new : List Event) → NamesManifest s.rows m.id → Known (got_chunk m ms) old → Makes by (Get (Manifest m.id)) (Is_got (Found bytes version now)) old new
        → (r : Result ManifestFile Bad) → read_manifest m.id bytes ≡ r → Leads Told by (on_answer (λ file. read_entry want m.id (rest ms) (entry_of node index file)) (at_key (Manifest m.id) r)) new
    unfolding Leads
    file-told m ms go bytes version now old new named k n (Ok file) e =
        let k' = Known-makes (got_chunk m ms) (Manifest m.id) (Is_got (Found bytes version now)) old new n k in
        let had = get-had by (Manifest m.id) bytes version now old new n in
        entry-told m ms go bytes version.0 new named (got-made by start (Manifest m.id) bytes version now old new n k.nothing) file (ap result_ok e) (entry_of node index file) refl (record {
          is = λ once puts x keeps.
              k'.is once puts x keeps
              ∙ ap (λ (o : Option ManifestFile). first_chunk ms (entry_of node index (or_empty m.id o)) puts) (x.manifests m.id file (ap (option_and_then (manifest_by m.id)) had.last ∙ ap result_ok e));
          opened = k'.opened;
          nothing = k'.nothing;
        })
    file-told m ms go bytes version now old new named k n (Err bad) e =
        let k' = Known-makes (got_chunk m ms) (Manifest m.id) (Is_got (Found bytes version now)) old new n k in
        ((record { bytes = bytes; version = version.0; got = got-made by start (Manifest m.id) bytes version now old new n k.nothing; unfit = (named, inl e) }, k'.nothing), k'.opened)

    manifest-told : (m : ManifestRef) (ms : List ManifestRef) → Continues ms → (reply : Reply) (old new : List Event) → NamesManifest s.rows m.id → Known (got_chunk m ms) old → Makes by (Get (Manifest m.id)) reply old new
        → Leads Told by (on_answer (λ file. read_entry want m.id (rest ms) (entry_of node index file)) (manifest_told m.id reply)) new
    unfolding Leads
    manifest-told m ms go (Is_got (Found bytes version now)) old new named k n = file-told m ms go bytes version now old new named k n (read_manifest m.id bytes) refl
    manifest-told m ms go (Is_got (Absent now)) old new named k n =
        let k' = Known-makes (got_chunk m ms) (Manifest m.id) (Is_got (Absent now)) old new n k in
        ((record { of_get = inl (m.id, named, refl); absent = absent-made by start (Manifest m.id) now old new n k.nothing }, k'.nothing), k'.opened)
    manifest-told m ms go (Failed d) old new named k n =
        let k' = Known-makes (got_chunk m ms) (Manifest m.id) (Failed d) old new n k in
        (failed-made by (IsOfGet by.number s path index start new) start (Get (Manifest m.id)) d old new (inl (m.id, named, refl)) n k.nothing, k'.opened)
    manifest-told m ms go _ old new named k n = let e = n.answered.answered in absurd (cc)

    -- the first of the manifests that has the chunk
    listed-told : (ms : List ManifestRef) → AllNamed s.rows ms → Continues ms
    unfolding Leads read_listed
    listed-told [] named journal k = ((k.is, k.nothing), k.opened)
    listed-told (m ∷ ms) named journal k =
        elim (within m.extents index) as (λ b. Known (λ puts. first_chunk ms (cond b (entry_of node index (or_empty m.id (manifest_put puts m.id))) None) puts) journal
        → Leads Told by (read_listed want node index (map (λ (x : ManifestRef). x.id) (cond b (m ∷ filter (λ (x : ManifestRef). within x.extents index) ms) (filter (λ (x : ManifestRef). within x.extents index) ms)))) journal) [
          | true ↦ λ k'. λ reply new n. manifest-told m ms (listed-told ms named.1) reply journal new named.0 (record { is = k'.is; opened = k'.opened; nothing = k'.nothing }) n
          | false ↦ λ k'. listed-told ms named.1 journal (record { is = k'.is; opened = k'.opened; nothing = k'.nothing })
        ] (record { is = k.is; opened = k.opened; nothing = k.nothing })

  -- ---- a read
  module _ (journal : List Event) (o : IsOpened s journal) (c : ChangedNothing by.number start journal) where
    fault-told : (fault : EditFault) → chunk_found (nodes_seen s) path index ≡ Err fault → Told (Err (refusal_of_edit fault)) journal
    fault-told E.NodeExists e = (((E.NodeExists, e, refl), c), o)
    fault-told E.NoParent e = (((E.NoParent, e, refl), c), o)
    fault-told E.Full e = (((E.Full, e, refl), c), o)
    fault-told E.NoNode e = (((E.NoNode, e, refl), c), o)
    fault-told (E.FrozenField part) e = (((E.FrozenField part, e, refl), c), o)
    fault-told E.NotArray e = (((E.NotArray, e, refl), c), o)
    fault-told E.OutOfGrid e = (((E.OutOfGrid, e, refl), c), o)
    fault-told (E.ChunkLength want got) e = (((E.ChunkLength want got, e, refl), c), o)
    fault-told E.NoMemory e = ((tt, c), o)

    at-told : (at : ChunkAt) → chunk_found (nodes_seen s) path index ≡ Ok at → IsThere s path index at → (entry : Option (Option Place)) → entry_in s.held.chunks at.node index ≡ entry → Leads Told by (read_at s path index at entry) journal
    unfolding Leads
    at-told at f t (Some (Some (Inline bytes))) e = value-told (Bytes bytes) journal (record { is = λ once puts x keeps. by-entry s path index at t puts (Some (Some (Inline bytes))) e; opened = o; nothing = c })
    at-told at f t (Some (Some (Object id offset size))) e =
        λ reply new n. object-told at id offset size reply journal new (record { found = f; told = inl e }) (record { is = λ once puts x keeps. by-entry s path index at t puts (Some (Some (Object id offset size))) e; opened = o; nothing = c }) n
    at-told at f t (Some None) e = value-told Fill journal (record { is = λ once puts x keeps. by-entry s path index at t puts (Some None) e; opened = o; nothing = c })
    at-told at f t None e =
        listed-told at f (own_manifests s.rows path at.node) (own-named s.rows path at.node) journal (record { is = λ once puts x keeps. by-base s path index at t puts e keeps; opened = o; nothing = c })

    found-told : (r : Result ChunkAt EditFault) → chunk_found (nodes_seen s) path index ≡ r → Leads Told by (read_found s path index r) journal
    unfolding Leads
    found-told (Err fault) e = fault-told fault e
    found-told (Ok at) e = at-told at e (there s path index at e) (entry_in s.held.chunks at.node index) refl

    get-told : Leads Told by (get_program s path index) journal
    unfolding get_program
    get-told = found-told (chunk_found (nodes_seen s) path index) refl

pub get-law : SessionLaw → GetLaw
get-law L by ids s path index start journal w o c =
    let g = get-gets s path index in (
      gets-keep (IsCareful ids (λ h t id. ⊥)) by (λ h key. record { polite = tt; owes = tt }) (get_program s path index) g journal,
      gets-keep (λ h client op. ¬ PutsSnapshot op) by (λ h key p. p) (get_program s path index) g journal,
      gets-stay by start (get_program s path index) g journal c,
      get-told L by s path index start journal o c,
    )
