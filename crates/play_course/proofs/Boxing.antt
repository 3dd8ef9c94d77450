-- What reads and writes of boxes of cells answer in a run over an empty store.
use Rattle.std.proofs.Common.{◌≡◌, ℕ, ℤ, inl, inr, Bool, true, false, cond, List, [], ◌∷◌, ◌++◌, All, length, map, filter, replicate, refl, sym, ◌∙◌, ap, subst}
use Rattle.std.specs.Prelude.{Option, Some, None, option_map, Result, Ok, Err, ◌==◌}
use Rattle.std.specs.Option.{option_or}
use Rattle.std.specs.FinMap.{get}
use Rattle.std.proofs.lemmas.List.Elements.{All-head, All-tail}
use Rattle.ice_ids.specs.declared.Id8.{Id8}
use Rattle.ice_ids.specs.declared.Id12.{Id12}
use Rattle.ice_ids.specs.declared.drawing.AnyIds.{AnyIds}
use Rattle.zarr_meta.specs.declared.kinds.IntKind.{IntKind}
use Rattle.zarr_meta.specs.declared.views.ArrayView.{ArrayView}
use Rattle.zarr_meta.specs.Kinds.{size_of}
use Rattle.zarr_tree.specs.Held.{entry_in}
use Rattle.zarr_tree.specs.Nodes.{chunk_length}
use Rattle.zarr_tree.proofs.ViewLaws.{array_has_grid}
use Rattle.zarr_changes.specs.declared.chunks.ChunkAt.{ChunkAt}
use Rattle.zarr_tree.proofs.GridParts.{grid_parts}
use Rattle.manifest_file.specs.declared.manifest.Place.{Place}
use Rattle.manifest_file.specs.declared.manifest.ManifestFile.{ManifestFile}
use Rattle.held_manifest.specs.LookUp.{within, entry_of, look_up}
use Rattle.manifest_index.specs.Merging.{ids_within}
use Rattle.snapshot_file.specs.declared.nodes.ManifestRef.{ManifestRef}
use Rattle.repo_objects.specs.declared.bad_objects.Bad.{Bad}
use Rattle.repo_objects.specs.Readings.{read_manifest}
use Rattle.repo_objects.specs.Trees.{Puts, Extends, manifest_put, or_empty, listed}
use Rattle.changed_snapshot.specs.Rows.{own_manifests}
use Rattle.object_store.specs.declared.keys.Key.{Key}
use Rattle.object_store.specs.declared.keys.Key.TheVariants.{Manifest}
use Rattle.object_store.specs.declared.events.Op.TheVariants.{Get}
use Rattle.object_store.specs.declared.events.Event.{Event}
use Rattle.object_store.proofs.Journals.{Each-one}
use Rattle.store_api.specs.declared.machines.Refusal.{Refusal}
use Rattle.store_api.specs.declared.machines.Refusal.TheVariants as R
use Rattle.store_api.specs.declared.machines.RegionFault.TheVariants.{CellCount, CellRange}
use Rattle.store_api.specs.Journal.{Each, IsGood, IsOnce, puts_of}
use Rattle.store_api.specs.Program.{Prog, Done, Ask}
use Rattle.store_api.specs.Running.{Program, ◌>>=◌, on_answer}
use Rattle.repo_read.specs.Answers.{at_key, manifest_told}
use Rattle.session.specs.declared.chunks.Value.{Value}
use Rattle.session.specs.declared.chunks.Value.TheVariants.{Fill}
use Rattle.session.specs.Sessions.{SessionState, nodes_seen}
use Rattle.session.specs.Sources.{IsLater}
use Rattle.session.specs.Arrays.{array_at}
use Rattle.session.specs.Chunks.{read_own, read_place, set_program}
use Rattle.commit_path.specs.Opened.{IsOpened}
use Rattle.commit_path.proofs.Knowing.{IsOpened-append}
use Rattle.commit_path.proofs.Sources.{later-same}
use Rattle.commit_path.proofs.Putting.{extends-more, puts-kept}
use Rattle.region_calls.proofs.ChunkGets.{OnlyGets}
use Rattle.region_calls.proofs.Seen.{IsThere}
use Rattle.region_cells.specs.Walks.{chunks_met}
use Rattle.array_region.specs.Planning.{box_count, IsBoxOf}
use Rattle.array_region.specs.Reading.{Kept, Chunk, Reads, keeping, entry_kept, in_file, got_kept, in_manifest, file_kept, listed_kept, entered_kept, chunk_kept, with_value, read_chunks, read_box, read_array, region_program}
use Rattle.array_region.specs.Writing.{is_covered, old_chunk, bytes_put, write_chunks, outside_from, cells_refused, region_set_program}
use Rattle.array_region.proofs.Planned.{IsAt, at_array, no_array, refused_box, box_passes, box_of}
use Rattle.region_calls.proofs.Gets.{place_gets, own_gets}
use Rattle.region_calls.proofs.Chunks.{KeptIs}
use Rattle.array_region.proofs.Looking.{taken}
use Rattle.region_calls.proofs.Boxes.{met_ranked}
use Rattle.region_calls.proofs.Sets.{reads_of_box, box_cases, old_gets}
use Rattle.play_tasks.proofs.Tried.{other-opened}
use Rattle.run_histories.proofs.Sources.{node-later}
use Rattle.run_histories.proofs.Edits.{SetsChunk, WasDrawn, GoesOn, IsKept as IsKeptSession, edit-later}
use Rattle.play_course.specs.Refusing.{is_strange}
use Rattle.play_course.proofs.Tidy.{Client}
use Rattle.play_course.proofs.Meeting.{was-read, Meets, done-meets, ask-meets, then-meets, got-meets}
use Rattle.play_course.proofs.Knowing.{IsKept, OfOthers, OfOwn, beside, kept-next, kept-others, good-others, missing-plain}
use Rattle.play_course.proofs.Holding.{KnowsSession, knows-others, IsOfBase, AreOfBase, own-of-base, manifest-stands}
use Rattle.play_course.proofs.Reading.{ReadWell, held-got, grown, grown-got, place-meets, at-meets}
use Rattle.play_course.proofs.Placing.{SetWell, set-meets}

-- ---- what is carried along
module _ {A : Type 0} (P : List Event → Type 0) (Q : A → List Event → Type 0) (client : Client) (ids : AnyIds) (along : (journal more : List Event) → Each (OfOthers client ids) journal more → P journal → P (journal ++ more)) where
  -- what own gets keep, by a program that only gets
  gets-carry : ((journal : List Event) (event : Event) (key : Key) → OfOwn client ids journal event → event.op ≡ Get key → P journal → P (journal ++ event ∷ [])) → (p : Prog A) → OnlyGets p → (journal : List Event) → P journal → Meets Q (beside client ids) p journal → Meets (λ a h. P h × Q a h) (beside client ids) p journal
  unfolding Meets
  gets-carry next (Done a) g journal held m = (held, m)
  gets-carry next (Ask (Get key) k) g journal held m = λ more event others own is. gets-carry next (k event.reply) (g event.reply) ((journal ++ more) ++ event ∷ []) (next (journal ++ more) event key own is (along journal more others held)) (m more event others own is)
  gets-carry next (Ask _ k) g journal held m = absurd g

  -- what all own events keep, by any
  all-carry : ((journal : List Event) (event : Event) → OfOwn client ids journal event → P journal → P (journal ++ event ∷ [])) → (p : Prog A) (journal : List Event) → P journal → Meets Q (beside client ids) p journal → Meets (λ a h. P h × Q a h) (beside client ids) p journal
  unfolding Meets
  all-carry next (Done a) journal held m = (held, m)
  all-carry next (Ask op k) journal held m = λ more event others own is. all-carry next (k event.reply) ((journal ++ more) ++ event ∷ []) (next (journal ++ more) event own (along journal more others held)) (m more event others own is)

-- the manifest that is kept was put
abbrev KeptStands : Kept → List Event → Type 0
KeptStands kept journal = (puts : Puts) → Extends (puts_of journal) puts → KeptIs kept puts

stands-more : (kept : Kept) (journal more : List Event) → Each IsGood journal more → IsOnce (journal ++ more) → KeptStands kept journal → KeptStands kept (journal ++ more)
stands-more kept journal more g once k puts x = k puts (extends-more (puts_of journal) (puts_of (journal ++ more)) puts (puts-kept journal more g once) x)

-- ---- chunks that are read
module _ (client : Client) (ids : AnyIds) (s : SessionState) where
  record IsReading (kept : Kept) (journal : List Event) : Type 0 where
    held : KnowsSession client ids s journal
    stands : KeptStands kept journal

  -- the session is as it was, and what is kept stands, or the read is refused as it may be
  abbrev ChunkWell : Result Chunk Refusal → List Event → Type 0
  ChunkWell (Ok chunk) h = IsReading chunk.1 h
  ChunkWell (Err why) h = is_strange client.collects why ≡ false

  reading-others : (kept : Kept) (journal more : List Event) → Each (OfOthers client ids) journal more → IsReading kept journal → IsReading kept (journal ++ more)
  reading-others kept journal more others r =
      let held = knows-others client ids s journal more others r.held in
      record { held = held; stands = stands-more kept journal more (good-others client ids journal more others) held.before.so_far.once r.stands }

  reading-got : (kept : Kept) (journal : List Event) (event : Event) (key : Key) → OfOwn client ids journal event → event.op ≡ Get key → IsReading kept journal → IsReading kept (journal ++ event ∷ [])
  reading-got kept journal event key own is r = record {
    held = held-got client ids s journal event key own is r.held;
    stands = stands-more kept journal (event ∷ []) (Each-one IsGood journal event own.tidy.good) own.after.once r.stands;
  }

  value-meets : (kept : Kept) (p : Program Value) → OnlyGets p → (journal : List Event) → IsReading kept journal → Meets (ReadWell client ids s) (beside client ids) p journal → Meets ChunkWell (beside client ids) (p >>= keeping kept) journal
  value-meets kept p g journal r m =
      then-meets (λ a h. IsReading kept h × ReadWell client ids s a h) ChunkWell (beside client ids) p (keeping kept) journal (gets-carry (IsReading kept) (ReadWell client ids s) client ids (reading-others kept) (reading-got kept) p g journal r m)
      (λ value h q. done-meets ChunkWell (beside client ids) (Ok (value, kept)) h q.0) (λ why h q. q.1)

  module _ (path index : List ℕ) (at : ChunkAt) (t : IsThere s path index at) where
    abbrev every : List ManifestRef
    every = own_manifests s.rows path at.node

    module _ (none : entry_in s.held.chunks at.node index ≡ None) where
      -- the first manifest says this, or those behind it have the chunk
      abbrev Left : (Puts → Option Place) → List ManifestRef → List Event → Type 0
      Left first ms journal = (puts : Puts) → Extends (puts_of journal) puts → look_up at.node index (listed puts every) ≡ option_or (first puts) (look_up at.node index (listed puts ms))

      abbrev first_of : ManifestRef → Puts → Option Place
      first_of m puts = entry_of at.node index (or_empty m.id (manifest_put puts m.id))

      abbrev rest : List ManifestRef → Kept → Program Chunk
      rest ms = listed_kept at.bytes at.node index (ids_within index ms)

      abbrev Continues : List ManifestRef → Type 0
      Continues ms = (kept : Kept) (journal : List Event) → IsReading kept journal → Left (λ puts. None) ms journal → Meets ChunkWell (beside client ids) (rest ms kept) journal

      entry-meets : (id : Id12) (ms : List ManifestRef) → Continues ms → (kept : Kept) (o : Option Place) (journal : List Event) → IsReading kept journal → Left (λ puts. o) ms journal → Meets ChunkWell (beside client ids) (entry_kept at.bytes id kept (rest ms kept) o) journal
      entry-meets id ms go kept None journal r left = go kept journal r left
      entry-meets id ms go kept (Some place) journal r left = value-meets kept (read_place at.bytes id place) (place_gets at.bytes id place) journal r (place-meets client ids s path index at t none id place journal r.held left)

      -- in a manifest that stands
      file-meets : (m : ManifestRef) (ms : List ManifestRef) → Continues ms → (file : ManifestFile) (journal : List Event) → IsReading (Some (m.id, file)) journal → Left (first_of m) ms journal → Meets ChunkWell (beside client ids) (in_file at.bytes at.node index m.id (rest ms) file) journal
      file-meets m ms go file journal r left =
          entry-meets m.id ms go (Some (m.id, file)) (entry_of at.node index file) journal r
          (λ puts x. left puts x ∙ ap (λ (o : Option ManifestFile). option_or (entry_of at.node index (or_empty m.id o)) (look_up at.node index (listed puts ms))) (r.stands puts x))

      -- in one that is got
      fresh-meets : (m : ManifestRef) (ms : List ManifestRef) → Continues ms → IsOfBase s.rows m → (kept : Kept) (journal : List Event) → IsReading kept journal → Left (first_of m) ms journal → Meets ChunkWell (beside client ids) (got_kept at.bytes at.node index m.id (rest ms)) journal
      fresh-meets m ms go of_base kept journal r left =
          ask-meets ChunkWell (beside client ids) (Get (Manifest m.id)) (λ reply. on_answer (in_file at.bytes at.node index m.id (rest ms)) (manifest_told m.id reply)) journal (λ more event others own is.
          let mid = knows-others client ids s journal more others r.held in
          let after = held-got client ids s (journal ++ more) event (Manifest m.id) own is mid in
          let stands = manifest-stands client.collects s (journal ++ more) mid.before.so_far mid.opened m of_base in
          let new : List Event = (journal ++ more) ++ event ∷ [] in
          got-meets ChunkWell (beside client ids) (λ reply. on_answer (in_file at.bytes at.node index m.id (rest ms)) (manifest_told m.id reply)) (journal ++ more) event own.tidy.good new (Manifest m.id) is
          (λ st e.
          let read : read_manifest m.id st.bytes ≡ Ok stands.file = was-read (read_manifest m.id st.bytes) stands.file (stands.read st e) in
          let later : (puts : Puts) → Extends (puts_of new) puts → Extends (puts_of (journal ++ more)) puts = λ puts x. extends-more (puts_of (journal ++ more)) (puts_of new) puts (grown-got client ids s (journal ++ more) event own) x in
          subst (λ (o : Result ManifestFile Bad). Meets ChunkWell (beside client ids) (on_answer (in_file at.bytes at.node index m.id (rest ms)) (at_key (Manifest m.id) o)) new) (sym read)
          (file-meets m ms go stands.file new (record { held = after; stands = λ puts x. (later puts x).manifests m.id stands.file stands.put })
          (λ puts x. left puts (extends-more (puts_of journal) (puts_of (journal ++ more)) puts (grown client ids s journal more others r.held) (later puts x)))))
          (λ gone. done-meets ChunkWell (beside client ids) (Err (R.Missing (Manifest m.id))) new (missing-plain client.collects (Manifest m.id) (λ collects. stands.there collects gone)))
          (λ done. done-meets ChunkWell (beside client ids) (Err R.StoreFault) new refl))

      manifest-meets : (m : ManifestRef) (ms : List ManifestRef) → Continues ms → IsOfBase s.rows m → (kept : Kept) (journal : List Event) → IsReading kept journal → Left (first_of m) ms journal → (o : Option ManifestFile) → file_kept kept m.id ≡ o
          → Meets ChunkWell (beside client ids) (in_manifest at.bytes at.node index m.id (rest ms) o) journal
      manifest-meets m ms go of_base kept journal r left None e = fresh-meets m ms go of_base kept journal r left
      manifest-meets m ms go of_base kept journal r left (Some file) e = file-meets m ms go file journal (subst (λ (k : Kept). IsReading k journal) (taken kept m.id file e) r) left

      listed-meets : (ms : List ManifestRef) → AreOfBase s.rows ms → Continues ms
      unfolding listed_kept
      listed-meets [] of_base kept journal r left = done-meets ChunkWell (beside client ids) (Ok (Fill, kept)) journal r
      listed-meets (m ∷ ms) of_base kept journal r left =
          elim (within m.extents index) as (λ b. ((puts : Puts) → Extends (puts_of journal) puts → look_up at.node index (listed puts every) ≡ option_or (cond b (first_of m puts) None) (look_up at.node index (listed puts ms)))
          → Meets ChunkWell (beside client ids) (listed_kept at.bytes at.node index (map (λ (x : ManifestRef). x.id) (cond b (m ∷ filter (λ (x : ManifestRef). within x.extents index) ms) (filter (λ (x : ManifestRef). within x.extents index) ms))) kept) journal) [
            | true ↦ λ k. manifest-meets m ms (listed-meets ms of_base.1) of_base.0 kept journal r k (file_kept kept m.id) refl
            | false ↦ λ k. listed-meets ms of_base.1 kept journal r k
          ] left

    -- by the session's entry, or the base's manifests
    entered-meets : (entry : Option (Option Place)) → entry_in s.held.chunks at.node index ≡ entry → (kept : Kept) (journal : List Event) → IsReading kept journal → Meets ChunkWell (beside client ids) (entered_kept s path at.bytes at.node index kept entry) journal
    entered-meets (Some (Some place)) e kept journal r = value-meets kept (read_own at.bytes place) (own_gets at.bytes place) journal r (at-meets client ids s path index at t (Some (Some place)) e journal r.held)
    entered-meets (Some None) e kept journal r = done-meets ChunkWell (beside client ids) (Ok (Fill, kept)) journal r
    entered-meets None e kept journal r = listed-meets e every (own-of-base s.rows path at.node) kept journal r (λ puts x. refl)

  -- where a chunk of the array is
  abbrev chunk_at : Reads → ChunkAt
  chunk_at r = record { node = r.node; bytes = chunk_length r.array }

  abbrev AllThere : Reads → Type 0
  AllThere r = (index : List ℕ) → length index ≡ length r.array.chunks → IsThere s r.path index (chunk_at r)

  chunk-meets : (r : Reads) (index : List ℕ) → IsThere s r.path index (chunk_at r) → (kept : Kept) (journal : List Event) → IsReading kept journal → Meets ChunkWell (beside client ids) (chunk_kept s r.path (chunk_length r.array) r.node index kept) journal
  chunk-meets r index t kept journal k = entered-meets r.path index (chunk_at r) t (entry_in s.held.chunks r.node index) refl kept journal k

  -- ---- a box that is read
  -- the session is as it was, or the read is refused as it may be
  abbrev pub NumbersWell : Result (List ℤ) Refusal → List Event → Type 0
  NumbersWell (Ok numbers) h = KnowsSession client ids s h
  NumbersWell (Err why) h = is_strange client.collects why ≡ false

  chunks-meets : (r : Reads) → AllThere r → (met : List (List ℕ)) → All (λ index. length index ≡ length r.array.chunks) met → (kept : Kept) (numbers : List ℤ) (journal : List Event) → IsReading kept journal → Meets NumbersWell (beside client ids) (read_chunks s r kept numbers met) journal
  unfolding read_chunks
  chunks-meets r there [] ranked kept numbers journal k = done-meets NumbersWell (beside client ids) (Ok numbers) journal k.held
  chunks-meets r there (index ∷ met) ranked kept numbers journal k =
      then-meets ChunkWell NumbersWell (beside client ids) (chunk_kept s r.path (chunk_length r.array) r.node index kept) (λ chunk. read_chunks s r chunk.1 (with_value r index chunk.0 numbers) met) journal
      (chunk-meets r index (there index (All-head (λ index. length index ≡ length r.array.chunks) index met ranked)) kept journal k)
      (λ chunk h q. chunks-meets r there met (All-tail (λ index. length index ≡ length r.array.chunks) index met ranked) chunk.1 (with_value r index chunk.0 numbers) h q) (λ why h q. q)

-- the array of a box that was counted
module _ (s : SessionState) (path from to : List ℕ) (id : Id8) (array : ArrayView) (e : array_at s path ≡ Ok (id, array)) where
  at : IsAt s path id array
  at = at_array s path id array e

  box : (count : ℕ) → box_count array from to ≡ Ok count → IsBoxOf array from to count
  box count c = box_of array from to count (box_passes array from to count (array_has_grid at.node.text array at.is) c)

  all-there : (client : Client) (ids : AnyIds) → AllThere client ids s (reads_of_box path from to id array)
  all-there client ids index rank = record {
    node = at.node;
    found = at.found;
    array = array;
    is = at.is;
    rank = rank ∙ sym (grid_parts (size_of array.kind) array.shape array.chunks (array_has_grid at.node.text array at.is)).ranks;
    id = sym at.id_is;
    bytes = refl;
  }

-- nor is a box that there is none of refused so
arrayless-plain : (collects : Bool) (s : SessionState) (path : List ℕ) (why : Refusal) → array_at s path ≡ Err why → is_strange collects why ≡ false
arrayless-plain collects s path why e = let is = no_array (get (nodes_seen s) path) why e in subst (λ (w : Refusal). is_strange collects w ≡ false) (sym is.is) refl

boxless-plain : (collects : Bool) (array : ArrayView) (from to : List ℕ) (why : Refusal) → box_count array from to ≡ Err why → is_strange collects why ≡ false
boxless-plain collects array from to why c = let is = refused_box array from to why c in subst (λ (w : Refusal). is_strange collects w ≡ false) (sym is.is) refl

numbers-plain : (collects : Bool) (kind : IntKind) (count : ℕ) (numbers : List ℤ) (why : Refusal) → cells_refused kind count numbers ≡ Some why → is_strange collects why ≡ false
numbers-plain collects kind count numbers why e = by_count (length numbers == count) e
  where
    by_place : (o : Option ℕ) → option_map (λ at. R.Region (CellRange at)) o ≡ Some why → is_strange collects why ≡ false
    by_place None d = absurd cc
    by_place (Some at) d = let is : R.Region (CellRange at) ≡ why = cc in sym (ap (is_strange collects) is)

    by_count : (b : Bool) → cond b (option_map (λ at. R.Region (CellRange at)) (outside_from kind numbers 0)) (Some (R.Region (CellCount count (length numbers)))) ≡ Some why → is_strange collects why ≡ false
    by_count true d = by_place (outside_from kind numbers 0) d
    by_count false d = let is : R.Region (CellCount count (length numbers)) ≡ why = cc in sym (ap (is_strange collects) is)

nothing-kept : (journal : List Event) → KeptStands None journal
nothing-kept journal puts x = tt

module _ (client : Client) (ids : AnyIds) (s : SessionState) (path from to : List ℕ) (journal : List Event) (h : KnowsSession client ids s journal) where
  abbrev Numbers : Result (List ℤ) Refusal → List Event → Type 0
  Numbers = NumbersWell client ids s

  box-meets : (id : Id8) (array : ArrayView) → array_at s path ≡ Ok (id, array) → (count : Result ℕ Refusal) → box_count array from to ≡ count → Meets Numbers (beside client ids) (read_box s (reads_of_box path from to id array) count) journal
  box-meets id array e (Err why) c = done-meets Numbers (beside client ids) (Err why) journal (boxless-plain client.collects array from to why c)
  box-meets id array e (Ok count) c =
      chunks-meets client ids s (reads_of_box path from to id array) (all-there s path from to id array e client ids) (chunks_met array.chunks from to) (met_ranked array.chunks from to (box s path from to id array e count c).gridded) None (replicate count array.fill) journal
      (record { held = h; stands = nothing-kept journal })

  array-meets : (found : Result (Id8 × ArrayView) Refusal) → array_at s path ≡ found → Meets Numbers (beside client ids) (read_array s path from to found) journal
  array-meets (Err why) e = done-meets Numbers (beside client ids) (Err why) journal (arrayless-plain client.collects s path why e)
  array-meets (Ok found) e = box-meets found.0 found.1 e (box_count found.1 from to) refl

  -- a read of a box is never refused so
  gather : Meets Numbers (beside client ids) (region_program s path from to) journal
  unfolding region_program
  gather = array-meets (array_at s path) refl

pub gather-meets : (client : Client) (ids : AnyIds) (s : SessionState) (path from to : List ℕ) (journal : List Event) → KnowsSession client ids s journal → Meets (NumbersWell client ids s) (beside client ids) (region_program s path from to) journal
gather-meets client ids s path from to journal h = gather client ids s path from to journal h

-- ---- a box that is written
-- the session in which the chunks so far are set draws these ids now
abbrev drawing_as : SessionState → SessionState → SessionState
drawing_as s t = record s { ids = t.ids }

module _ (client : Client) (ids : AnyIds) where
  -- a session is held, or the write is refused as it may be
  abbrev pub WriteWell : Result SessionState Refusal → List Event → Type 0
  WriteWell (Ok t) h = KnowsSession client ids t h
  WriteWell (Err why) h = is_strange client.collects why ≡ false

  -- what is known of a session stays so where the source draws on
  goes-drawn : (s : SessionState) (now : AnyIds) → IsLater s.ids now → IsLater ids now → GoesOn ids s → GoesOn ids (record s { ids = now })
  goes-drawn s now l later g = record {
    later = later;
    texts = g.texts;
    kept = λ spends own. kept-drawn (g.kept spends own);
  }
    where
      still : (id : Id8) → WasDrawn ids s.ids id → WasDrawn ids now id
      still id w = record { before = w.before; spent = λ m. w.spent (node-later s.ids now id l m) }

      kept-drawn : IsKeptSession ids s → IsKeptSession ids (record s { ids = now })
      kept-drawn k = record { added = λ p n f. still n.id (k.added p n f); dropped = k.dropped; normal = k.normal }

  module _ (s : SessionState) (r : Reads) (numbers : List ℤ) (there : AllThere client ids s r) where
    record IsWriting (t : SessionState) (kept : Kept) (journal : List Event) : Type 0 where
      held : KnowsSession client ids t journal
      first : KnowsSession client ids (drawing_as s t) journal
      stands : KeptStands kept journal

    there-as : (t : SessionState) → AllThere client ids (drawing_as s t) r
    there-as t index rank = let x = there index rank in record { node = x.node; found = x.found; array = x.array; is = x.is; rank = x.rank; id = x.id; bytes = x.bytes }

    -- the chunk as it was
    abbrev OldWell : SessionState → Result Chunk Refusal → List Event → Type 0
    OldWell t a h = KnowsSession client ids t h × ChunkWell client ids (drawing_as s t) a h

    old-read : (t : SessionState) (index : List ℕ) → length index ≡ length r.array.chunks → (kept : Kept) (journal : List Event) → IsWriting t kept journal → (covered : Bool)
        → Meets (ChunkWell client ids (drawing_as s t)) (beside client ids) (cond covered (keeping kept Fill) (chunk_kept s r.path (chunk_length r.array) r.node index kept)) journal
    old-read t index rank kept journal w true = done-meets (ChunkWell client ids (drawing_as s t)) (beside client ids) (Ok (Fill, kept)) journal (record { held = w.first; stands = w.stands })
    old-read t index rank kept journal w false = chunk-meets client ids (drawing_as s t) r index (there-as t index rank) kept journal (record { held = w.first; stands = w.stands })

    old-meets : (t : SessionState) (index : List ℕ) → length index ≡ length r.array.chunks → (kept : Kept) (journal : List Event) → IsWriting t kept journal → Meets (OldWell t) (beside client ids) (old_chunk s r index kept) journal
    old-meets t index rank kept journal w =
        gets-carry (KnowsSession client ids t) (ChunkWell client ids (drawing_as s t)) client ids (knows-others client ids t) (λ j event key own is h. held-got client ids t j event key own is h) (old_chunk s r index kept) (old_gets s r index kept) journal w.held
        (old-read t index rank kept journal w (is_covered r.from r.to r.array.chunks index))

    -- what is known through a set
    abbrev Along : Kept → List Event → Type 0
    Along kept h = IsKept client h × (IsOpened s h × KeptStands kept h)

    along-others : (kept : Kept) (journal more : List Event) → Each (OfOthers client ids) journal more → Along kept journal → Along kept (journal ++ more)
    along-others kept journal more others a =
        let good = good-others client ids journal more others in
        let known = kept-others client ids journal more others a.0 in
        (known, (IsOpened-append s journal more good a.1.0, stands-more kept journal more good known.so_far.once a.1.1))

    along-own : (kept : Kept) (journal : List Event) (event : Event) → OfOwn client ids journal event → Along kept journal → Along kept (journal ++ event ∷ [])
    along-own kept journal event own a =
        let good = Each-one IsGood journal event own.tidy.good in
        (kept-next client journal event own.tidy own.after a.0, (IsOpened-append s journal (event ∷ []) good a.1.0, stands-more kept journal (event ∷ []) good own.after.once a.1.1))

    -- a chunk was set
    writing-on : (t u : SessionState) (kept : Kept) (before journal : List Event) → IsWriting t kept before → Along kept journal → KnowsSession client ids u journal → SetsChunk t u → IsWriting u kept journal
    writing-on t u kept before journal w a held sets = record {
      held = held;
      first = record {
        before = held.before;
        known = held.known;
        goes = goes-drawn (drawing_as s t) u.ids (edit-later t u (inr (inr (inr (inl sets))))) held.goes.later w.first.goes;
        own = w.first.own;
        opened = other-opened s u.ids journal a.1.0;
      };
      stands = a.1.1;
    }

    set-on : (met : List (List ℕ)) (index : List ℕ) → ((u : SessionState) (kept : Kept) (journal : List Event) → IsWriting u kept journal → Meets WriteWell (beside client ids) (write_chunks (old_chunk s r) u r numbers kept met) journal) → (t : SessionState) (chunk : Chunk) (journal : List Event) → IsWriting t chunk.1 journal
        → Meets WriteWell (beside client ids) (set_program t r.path index (bytes_put r index numbers chunk.0) >>= λ u. write_chunks (old_chunk s r) u r numbers chunk.1 met) journal
    set-on met index go t chunk journal w =
        let bytes = bytes_put r index numbers chunk.0 in
        let known : IsKept client journal = record { tidy = w.held.before.tidy; so_far = w.held.before.so_far } in
        let opened : IsOpened s journal = other-opened (drawing_as s t) s.ids journal w.first.opened in
        then-meets (λ a h. Along chunk.1 h × SetWell client ids t r.path index bytes a h) WriteWell (beside client ids) (set_program t r.path index bytes) (λ u. write_chunks (old_chunk s r) u r numbers chunk.1 met) journal
        (all-carry (Along chunk.1) (SetWell client ids t r.path index bytes) client ids (along-others chunk.1) (along-own chunk.1) (set_program t r.path index bytes) journal (known, (opened, w.stands)) (set-meets client ids t r.path index bytes journal w.held))
        (λ u h q. go u chunk.1 h (writing-on t u chunk.1 journal h w q.0 q.1.0 q.1.1)) (λ why h q. q.1)

    write-meets : (met : List (List ℕ)) → All (λ index. length index ≡ length r.array.chunks) met → (t : SessionState) (kept : Kept) (journal : List Event) → IsWriting t kept journal → Meets WriteWell (beside client ids) (write_chunks (old_chunk s r) t r numbers kept met) journal
    unfolding write_chunks
    write-meets [] ranked t kept journal w = done-meets WriteWell (beside client ids) (Ok t) journal w.held
    write-meets (index ∷ met) ranked t kept journal w =
        then-meets (OldWell t) WriteWell (beside client ids) (old_chunk s r index kept) (λ chunk. set_program t r.path index (bytes_put r index numbers chunk.0) >>= λ u. write_chunks (old_chunk s r) u r numbers chunk.1 met) journal
        (old-meets t index (All-head (λ index. length index ≡ length r.array.chunks) index met ranked) kept journal w)
        (λ chunk h q. set-on met index (λ u k j x. write-meets met (All-tail (λ index. length index ≡ length r.array.chunks) index met ranked) u k j x) t chunk h (record { held = q.0; first = q.1.held; stands = q.1.stands })) (λ why h q. q.1)

-- a write of a box is never refused so
pub put-box-meets : (client : Client) (ids : AnyIds) (s : SessionState) (path from to : List ℕ) (numbers : List ℤ) (journal : List Event) → KnowsSession client ids s journal → Meets (WriteWell client ids) (beside client ids) (region_set_program s path from to numbers) journal
put-box-meets client ids s path from to numbers journal h =
    box_cases s path from to numbers (λ p. Meets (WriteWell client ids) (beside client ids) p journal) (λ w. done-meets (WriteWell client ids) (beside client ids) (Err R.ReadOnly) journal refl)
    (λ why e. done-meets (WriteWell client ids) (beside client ids) (Err why) journal (arrayless-plain client.collects s path why e))
    (λ id array e why c. done-meets (WriteWell client ids) (beside client ids) (Err why) journal (boxless-plain client.collects array from to why c))
    (λ id array e count c why f. done-meets (WriteWell client ids) (beside client ids) (Err why) journal (numbers-plain client.collects array.kind count numbers why f))
    (λ w id array e count c f. write-meets client ids s (reads_of_box path from to id array) numbers (all-there s path from to id array e client ids) (chunks_met array.chunks from to) (met_ranked array.chunks from to (box s path from to id array e count c).gridded) s None journal
    (record { held = h; first = first; stands = nothing-kept journal }))
  where
    first : KnowsSession client ids (drawing_as s s) journal
    first = record { before = h.before; known = h.known; goes = goes-drawn client ids s s.ids (later-same s.ids) h.goes.later h.goes; own = h.own; opened = other-opened s s.ids journal h.opened }
