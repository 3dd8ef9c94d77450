-- What a read of a chunk answers in a run over an empty store.
use Rattle.std.proofs.Common.{◌≡◌, ℕ, ◌+◌, ◌≤◌, Bool, true, false, cond, ◌&&◌, List, [], ◌∷◌, ◌++◌, length, take, drop, refl, sym, ◌∙◌, ap, subst, eq-eqb, map, filter, arith}
use Rattle.std.specs.Prelude.{Option, Some, None, Result, Ok, Err, ◌==◌, nat_le, option_and_then}
use Rattle.std.specs.Option.{option_or}
use Rattle.std.proofs.lemmas.Bool.Decides.{nat_tests}
use Rattle.std.proofs.lemmas.List.{length-take-le, length-drop}
use Rattle.ice_ids.specs.declared.Id12.{Id12}
use Rattle.ice_ids.specs.declared.drawing.AnyIds.{AnyIds}
use Rattle.zarr_tree.specs.declared.edit.EditFault.{EditFault}
use Rattle.zarr_tree.specs.declared.edit.EditFault.TheVariants as F
use Rattle.zarr_tree.specs.Held.{entry_in}
use Rattle.zarr_changes.specs.declared.chunks.ChunkAt.{ChunkAt}
use Rattle.zarr_changes.specs.Sets.{chunk_found}
use Rattle.manifest_file.specs.declared.manifest.Place.{Place}
use Rattle.manifest_file.specs.declared.manifest.Place.TheVariants.{Inline, Object}
use Rattle.manifest_file.specs.declared.manifest.ManifestFile.{ManifestFile}
use Rattle.held_manifest.specs.LookUp.{within, entry_of, look_up}
use Rattle.manifest_index.specs.Merging.{ids_within}
use Rattle.snapshot_file.specs.declared.nodes.ManifestRef.{ManifestRef}
use Rattle.repo_objects.specs.declared.bad_objects.Bad.{Bad}
use Rattle.repo_objects.specs.declared.bad_objects.Bad.TheVariants.{Chunk as BadChunk}
use Rattle.repo_objects.specs.Readings.{read_manifest, read_inline, read_chunk}
use Rattle.repo_objects.specs.Trees.{Puts, Extends, part_of, bytes_at, manifest_put, or_empty, listed}
use Rattle.changed_snapshot.specs.Rows.{own_manifests}
use Rattle.object_store.specs.declared.keys.Key.{Key}
use Rattle.object_store.specs.declared.keys.Key.TheVariants.{Manifest, Chunk}
use Rattle.object_store.specs.declared.events.Op.TheVariants.{Get}
use Rattle.object_store.specs.declared.events.Event.{Event}
use Rattle.store_api.specs.declared.machines.Refusal.{Refusal}
use Rattle.store_api.specs.declared.machines.Refusal.TheVariants as R
use Rattle.object_store.specs.Machine.{last_put}
use Rattle.store_api.specs.Journal.{Each, IsGood, puts_of}
use Rattle.store_api.specs.Program.{Done}
use Rattle.store_api.specs.Running.{Program, on_answer}
use Rattle.object_store.proofs.Journals.{Each-one}
use Rattle.repo_read.specs.Answers.{at_key, manifest_told, object_told}
use Rattle.session.specs.declared.chunks.Value.{Value}
use Rattle.session.specs.declared.chunks.Value.TheVariants.{Bytes, Fill}
use Rattle.session.specs.Sessions.{SessionState, nodes_seen, overlay}
use Rattle.session.specs.Editing.{refusal_of_edit}
use Rattle.session.specs.Chunks.{found_bytes, read_object, read_place, read_entry, read_listed, read_at, read_found, get_program}
use Rattle.commit_path.proofs.Knowing.{IsOpened-append}
use Rattle.commit_path.proofs.Putting.{extends-same, extends-more, puts-kept}
use Rattle.commit_path.proofs.Readable.{some_of}
use Rattle.region_calls.proofs.Seen.{IsThere, there, by-entry, by-base}
use Rattle.play_course.specs.Refusing.{is_strange}
use Rattle.play_course.proofs.Tidy.{Client}
use Rattle.play_course.proofs.Meeting.{was-read, Meets, done-meets, ask-meets, got-meets}
use Rattle.play_course.proofs.Knowing.{OfOthers, OfOwn, beside, before-got, good-others, missing-plain, plain-beside}
use Rattle.play_course.proofs.Holding.{last-stands, KnowsSession, knows-others, has-chunks, keeps-frozen, IsOfBase, AreOfBase, own-of-base, manifest-stands, is-whole, base-place}

some-same : {A : Type 0} (a b : A) → Some a ≡ Some b → a ≡ b
some-same a b e = cc

pub edit-plain : (fault : EditFault) → is_strange false (refusal_of_edit fault) ≡ false
edit-plain F.NodeExists = refl
edit-plain F.NoParent = refl
edit-plain F.Full = refl
edit-plain F.NoNode = refl
edit-plain (F.FrozenField part) = refl
edit-plain F.NotArray = refl
edit-plain F.OutOfGrid = refl
edit-plain (F.ChunkLength want got) = refl
edit-plain F.NoMemory = refl

-- ---- what is read of bytes
part-size : (offset size : ℕ) (bytes : List ℕ) → nat_le (offset + size) (length bytes) ≡ true → length (take size (drop offset bytes)) ≡ size
part-size offset size bytes e =
    let fits : offset + size ≤ length bytes = grind (arith, nat_tests) in
    let left = length-drop offset bytes in
    length-take-le size (drop offset bytes) (omega (arith, fits, left))

-- a part of an object that has as many bytes as a chunk reads as one
chunk-read : (want offset size : ℕ) (bytes part : List ℕ) → part_of offset size bytes ≡ Some part → length part ≡ want → read_chunk want offset size bytes ≡ Ok part
chunk-read want offset size bytes part e long = by_test (nat_le (offset + size) (length bytes)) refl e
  where
    by_test : (b : Bool) → nat_le (offset + size) (length bytes) ≡ b → cond b (Some (take size (drop offset bytes))) None ≡ Some part → cond (b && (size == want)) (Ok (take size (drop offset bytes))) (Err (BadChunk want (length (take size (drop offset bytes))))) ≡ Ok part
    by_test false t k = absurd cc
    by_test true t k =
        let same : take size (drop offset bytes) ≡ part = some-same _ part k in
        let is : size ≡ want = sym (part-size offset size bytes t) ∙ ap length same ∙ long in
        ap (λ (b : Bool). cond b (Ok (take size (drop offset bytes))) (Err (BadChunk want (length (take size (drop offset bytes)))))) (eq-eqb size want is) ∙ ap (λ (x : List ℕ). Ok x) same

inline-read : (want : ℕ) (bytes : List ℕ) → length bytes ≡ want → read_inline want bytes ≡ Ok bytes
inline-read want bytes long = ap (λ (b : Bool). cond b (Ok bytes) (Err (BadChunk want (length bytes)))) (eq-eqb (length bytes) want long)

and-then : {A B : Type 0} (f : A → Option B) (o : Option A) (b : B) → option_and_then f o ≡ Some b → (a : A) × (o ≡ Some a) × (f a ≡ Some b)
and-then f None b e = absurd cc
and-then f (Some a) b e = (a, refl, e)

module _ (client : Client) (ids : AnyIds) (s : SessionState) where
  -- the session is as it was, or the read is refused as it may be
  abbrev pub ReadWell : Result Value Refusal → List Event → Type 0
  ReadWell (Ok value) h = KnowsSession client ids s h
  ReadWell (Err why) h = is_strange client.collects why ≡ false

  pub held-got : (journal : List Event) (event : Event) (key : Key) → OfOwn client ids journal event → event.op ≡ Get key → KnowsSession client ids s journal → KnowsSession client ids s (journal ++ event ∷ [])
  held-got journal event key own is h = record {
    before = before-got client ids s.ids h.known journal event key own is h.before;
    known = h.known;
    goes = h.goes;
    own = h.own;
    opened = IsOpened-append s journal (event ∷ []) (Each-one IsGood journal event own.tidy.good) h.opened;
  }

  pub grown : (journal more : List Event) → Each (OfOthers client ids) journal more → KnowsSession client ids s journal → Extends (puts_of journal) (puts_of (journal ++ more))
  grown journal more others h = puts-kept journal more (good-others client ids journal more others) (knows-others client ids s journal more others h).before.so_far.once

  pub grown-got : (journal : List Event) (event : Event) → OfOwn client ids journal event → Extends (puts_of journal) (puts_of (journal ++ event ∷ []))
  grown-got journal event own = puts-kept journal (event ∷ []) (Each-one IsGood journal event own.tidy.good) own.after.once

  -- ---- an object
  -- a chunk of so many bytes is at the place
  abbrev pub Has : ℕ → Place → List Event → Type 0
  Has want place journal = (b : List ℕ) × (bytes_at (puts_of journal) place ≡ Some b) × (length b ≡ want)

  -- and it will be
  abbrev pub Stays : ℕ → Place → List Event → Type 0
  Stays want place journal = (h : List Event) → KnowsSession client ids s h → Extends (puts_of journal) (puts_of h) → Has want place h

  object-meets : (want : ℕ) (id : Id12) (offset size : ℕ) (journal : List Event) → KnowsSession client ids s journal → Stays want (Object id offset size) journal → Meets ReadWell (beside client ids) (read_object want id offset size) journal
  object-meets want id offset size journal h has =
      ask-meets ReadWell (beside client ids) (Get (Chunk id)) (λ reply. on_answer (λ bytes. Done (Ok (Bytes bytes))) (object_told want id offset size reply)) journal (λ more event others own is.
      let mid = knows-others client ids s journal more others h in
      let after = held-got (journal ++ more) event (Chunk id) own is mid in
      let b = has (journal ++ more) mid (grown journal more others h) in
      let object = and-then (part_of offset size) (last_put (journal ++ more) (Chunk id)) b.0 b.1 in
      let stands = last-stands client.collects (journal ++ more) (Chunk id) object.0 tt mid.before.so_far object.1 in
      got-meets ReadWell (beside client ids) (λ reply. on_answer (λ bytes. Done (Ok (Bytes bytes))) (object_told want id offset size reply)) (journal ++ more) event own.tidy.good ((journal ++ more) ++ event ∷ []) (Chunk id) is
      (λ st e.
      let read : read_chunk want offset size st.bytes ≡ Ok b.0 = chunk-read want offset size st.bytes b.0 (ap (part_of offset size) (stands.bytes_are st e) ∙ object.2) b.2 in
      subst (λ (r : Result (List ℕ) Bad). Meets ReadWell (beside client ids) (on_answer (λ bytes. Done (Ok (Bytes bytes))) (at_key (Chunk id) r)) ((journal ++ more) ++ event ∷ [])) (sym read)
      (done-meets ReadWell (beside client ids) (Ok (Bytes b.0)) ((journal ++ more) ++ event ∷ []) after))
      (λ gone. done-meets ReadWell (beside client ids) (Err (R.Missing (Chunk id))) ((journal ++ more) ++ event ∷ []) (missing-plain client.collects (Chunk id) (λ none. stands.there none gone)))
      (λ done. done-meets ReadWell (beside client ids) (Err R.StoreFault) ((journal ++ more) ++ event ∷ []) refl))

  module _ (path index : List ℕ) (at : ChunkAt) (t : IsThere s path index at) where
    -- ---- the base's chunk
    abbrev pub all : List ManifestRef
    all = own_manifests s.rows path at.node

    module _ (none : entry_in s.held.chunks at.node index ≡ None) where
      -- where the base's manifests have the chunk, whatever more is put
      abbrev pub IsAt : Place → List Event → Type 0
      IsAt place journal = (puts : Puts) → Extends (puts_of journal) puts → look_up at.node index (listed puts all) ≡ Some place

      has-place : (place : Place) (journal : List Event) → IsAt place journal → Stays at.bytes place journal
      has-place place journal is h k more =
          let looked = is (puts_of h) more in
          let b = some_of (bytes_at (puts_of h) place) (base-place client ids s h k path index at t place looked) in
          let chunk : (overlay (puts_of h) s).chunk path index ≡ Some b.0 = by-base s path index at t (puts_of h) none (keeps-frozen client ids s h k) ∙ ap (option_and_then (bytes_at (puts_of h))) looked ∙ b.1 in
          (b.0, b.1, is-whole client ids s h k path index at t b.0 chunk)

      pub place-meets : (id : Id12) (place : Place) (journal : List Event) → KnowsSession client ids s journal → IsAt place journal → Meets ReadWell (beside client ids) (read_place at.bytes id place) journal
      place-meets id (Inline bytes) journal h is =
          let b = has-place (Inline bytes) journal is journal h (extends-same (puts_of journal)) in
          let same : bytes ≡ b.0 = some-same bytes b.0 b.1 in
          subst (λ (r : Result (List ℕ) Bad). Meets ReadWell (beside client ids) (found_bytes (at_key (Manifest id) r)) journal) (sym (inline-read at.bytes bytes (ap length same ∙ b.2)))
          (done-meets ReadWell (beside client ids) (Ok (Bytes bytes)) journal h)
      place-meets id (Object object offset size) journal h is = object-meets at.bytes object offset size journal h (has-place (Object object offset size) journal is)

      -- the first manifest says this, or those behind it have the chunk
      abbrev Left : (Puts → Option Place) → List ManifestRef → List Event → Type 0
      Left first ms journal = (puts : Puts) → Extends (puts_of journal) puts → look_up at.node index (listed puts all) ≡ option_or (first puts) (look_up at.node index (listed puts ms))

      abbrev rest : List ManifestRef → Program Value
      rest ms = read_listed at.bytes at.node index (ids_within index ms)

      abbrev Continues : List ManifestRef → Type 0
      Continues ms = (journal : List Event) → KnowsSession client ids s journal → Left (λ puts. None) ms journal → Meets ReadWell (beside client ids) (rest ms) journal

      entry-meets : (id : Id12) (ms : List ManifestRef) → Continues ms → (o : Option Place) (journal : List Event) → KnowsSession client ids s journal → Left (λ puts. o) ms journal → Meets ReadWell (beside client ids) (read_entry at.bytes id (rest ms) o) journal
      entry-meets id ms go None journal h left = go journal h left
      entry-meets id ms go (Some place) journal h left = place-meets id place journal h left

      manifest-meets : (m : ManifestRef) (ms : List ManifestRef) → Continues ms → IsOfBase s.rows m → (journal : List Event) → KnowsSession client ids s journal → Left (λ puts. entry_of at.node index (or_empty m.id (manifest_put puts m.id))) ms journal
          → Meets ReadWell (beside client ids) (read_listed at.bytes at.node index (m.id ∷ ids_within index ms)) journal
      unfolding read_listed
      manifest-meets m ms go of_base journal h left =
          ask-meets ReadWell (beside client ids) (Get (Manifest m.id)) (λ reply. on_answer (λ file. read_entry at.bytes m.id (rest ms) (entry_of at.node index file)) (manifest_told m.id reply)) journal (λ more event others own is.
          let mid = knows-others client ids s journal more others h in
          let after = held-got (journal ++ more) event (Manifest m.id) own is mid in
          let stands = manifest-stands client.collects s (journal ++ more) mid.before.so_far mid.opened m of_base in
          got-meets ReadWell (beside client ids) (λ reply. on_answer (λ file. read_entry at.bytes m.id (rest ms) (entry_of at.node index file)) (manifest_told m.id reply)) (journal ++ more) event own.tidy.good ((journal ++ more) ++ event ∷ []) (Manifest m.id) is
          (λ st e.
          let read : read_manifest m.id st.bytes ≡ Ok stands.file = was-read (read_manifest m.id st.bytes) stands.file (stands.read st e) in
          subst (λ (r : Result ManifestFile Bad). Meets ReadWell (beside client ids) (on_answer (λ file. read_entry at.bytes m.id (rest ms) (entry_of at.node index file)) (at_key (Manifest m.id) r)) ((journal ++ more) ++ event ∷ [])) (sym read)
          (entry-meets m.id ms go (entry_of at.node index stands.file) ((journal ++ more) ++ event ∷ []) after (λ puts x.
          let later = extends-more (puts_of (journal ++ more)) (puts_of ((journal ++ more) ++ event ∷ [])) puts (grown-got (journal ++ more) event own) x in
          left puts (extends-more (puts_of journal) (puts_of (journal ++ more)) puts (grown journal more others h) later)
          ∙ ap (λ (o : Option ManifestFile). option_or (entry_of at.node index (or_empty m.id o)) (look_up at.node index (listed puts ms))) (later.manifests m.id stands.file stands.put))))
          (λ gone. done-meets ReadWell (beside client ids) (Err (R.Missing (Manifest m.id))) ((journal ++ more) ++ event ∷ []) (missing-plain client.collects (Manifest m.id) (λ none. stands.there none gone)))
          (λ done. done-meets ReadWell (beside client ids) (Err R.StoreFault) ((journal ++ more) ++ event ∷ []) refl))

      listed-meets : (ms : List ManifestRef) → AreOfBase s.rows ms → Continues ms
      unfolding read_listed
      listed-meets [] of_base journal h left = done-meets ReadWell (beside client ids) (Ok Fill) journal h
      listed-meets (m ∷ ms) of_base journal h left =
          elim (within m.extents index) as (λ b. ((puts : Puts) → Extends (puts_of journal) puts → look_up at.node index (listed puts all) ≡ option_or (cond b (entry_of at.node index (or_empty m.id (manifest_put puts m.id))) None) (look_up at.node index (listed puts ms)))
          → Meets ReadWell (beside client ids) (read_listed at.bytes at.node index (map (λ (x : ManifestRef). x.id) (cond b (m ∷ filter (λ (x : ManifestRef). within x.extents index) ms) (filter (λ (x : ManifestRef). within x.extents index) ms)))) journal) [
            | true ↦ λ k. manifest-meets m ms (listed-meets ms of_base.1) of_base.0 journal h k
            | false ↦ λ k. listed-meets ms of_base.1 journal h k
          ] left

    -- ---- the chunk, by the session's entry or the base's manifests
    entry-has : (place : Place) → entry_in s.held.chunks at.node index ≡ Some (Some place) → (journal : List Event) → Stays at.bytes place journal
    entry-has place e journal h k more =
        let b = has-chunks client ids s h k at.node index place e in
        (b.0, b.1, is-whole client ids s h k path index at t b.0 (by-entry s path index at t (puts_of h) (Some (Some place)) e ∙ b.1))

    pub at-meets : (entry : Option (Option Place)) → entry_in s.held.chunks at.node index ≡ entry → (journal : List Event) → KnowsSession client ids s journal → Meets ReadWell (beside client ids) (read_at s path index at entry) journal
    at-meets (Some (Some (Inline bytes))) e journal h = done-meets ReadWell (beside client ids) (Ok (Bytes bytes)) journal h
    at-meets (Some (Some (Object id offset size))) e journal h = object-meets at.bytes id offset size journal h (entry-has (Object id offset size) e journal)
    at-meets (Some None) e journal h = done-meets ReadWell (beside client ids) (Ok Fill) journal h
    at-meets None e journal h = listed-meets e all (own-of-base s.rows path at.node) journal h (λ puts x. refl)

  found-meets : (path index : List ℕ) (r : Result ChunkAt EditFault) → chunk_found (nodes_seen s) path index ≡ r → (journal : List Event) → KnowsSession client ids s journal → Meets ReadWell (beside client ids) (read_found s path index r) journal
  found-meets path index (Err fault) e journal h = done-meets ReadWell (beside client ids) (Err (refusal_of_edit fault)) journal (plain-beside client.collects (refusal_of_edit fault) (edit-plain fault))
  found-meets path index (Ok at) e journal h = at-meets path index at (there s path index at e) (entry_in s.held.chunks at.node index) refl journal h

  -- a read is never refused so
  pub get-meets : (path index : List ℕ) (journal : List Event) → KnowsSession client ids s journal → Meets ReadWell (beside client ids) (get_program s path index) journal
  unfolding get_program
  get-meets path index journal h = found-meets path index (chunk_found (nodes_seen s) path index) refl journal h
