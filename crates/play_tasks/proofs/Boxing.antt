-- What the programs of boxes of cells may do and answer, and what of it stays so.
use Rattle.std.proofs.Common.{◌≡◌, ◌∙◌, refl, sym, subst, cond, ℕ, ℤ, Bool, true, false, List, [], ◌∷◌, ◌++◌, length, replicate, Option, None, Some, Result, Ok, Err}
use Rattle.std.specs.Prelude.{◌==◌, option_map, IfOk}
use Rattle.std.specs.FinMap.{get}
use Rattle.ice_ids.specs.declared.Id8.{Id8}
use Rattle.ice_ids.specs.declared.Id12.{Id12}
use Rattle.zarr_meta.specs.declared.kinds.IntKind.{IntKind}
use Rattle.zarr_meta.specs.declared.views.ArrayView.{ArrayView}
use Rattle.zarr_tree.specs.declared.edit.EditFault.{EditFault}
use Rattle.zarr_tree.specs.declared.edit.EditFault.TheVariants as F
use Rattle.zarr_tree.specs.Held.{entry_in}
use Rattle.zarr_tree.specs.Nodes.{chunk_length}
use Rattle.zarr_tree.specs.Trees.{IsWellFormed}
use Rattle.manifest_file.specs.declared.manifest.Place.{Place}
use Rattle.manifest_file.specs.declared.manifest.Place.TheVariants.{Inline, Object}
use Rattle.manifest_file.specs.declared.manifest.ManifestFile.{ManifestFile}
use Rattle.held_manifest.specs.LookUp.{entry_of}
use Rattle.manifest_index.specs.Merging.{ids_within}
use Rattle.changed_snapshot.specs.Rows.{own_manifests}
use Rattle.changed_snapshot.specs.Laws.{KeepsFrozen}
use Rattle.repo_objects.specs.declared.bad_objects.Bad.{Bad}
use Rattle.repo_objects.specs.Readings.{read_manifest, read_inline, read_chunk}
use Rattle.object_store.specs.declared.keys.Key.{Key}
use Rattle.object_store.specs.declared.keys.Key.TheVariants.{Manifest, Chunk as Chunk_key}
use Rattle.object_store.specs.declared.keys.Why.{Why}
use Rattle.object_store.specs.declared.keys.Why.TheVariants.{Set}
use Rattle.object_store.specs.declared.events.Op.{Op}
use Rattle.object_store.specs.declared.events.Op.TheVariants.{Get, PutNew}
use Rattle.object_store.specs.declared.events.Got.TheVariants.{Found, Absent}
use Rattle.object_store.specs.declared.events.New.TheVariants.{Done as New_done, Present}
use Rattle.object_store.specs.declared.events.Reply.{Reply}
use Rattle.object_store.specs.declared.events.Reply.TheVariants.{Got as Is_got, New as Is_new, Over as Is_over, Gone as Is_gone, GoneAt as Is_gone_at, Listed as Is_listed, Failed}
use Rattle.object_store.specs.declared.events.Event.{Event}
use Rattle.store_api.specs.declared.machines.Refusal.{Refusal}
use Rattle.store_api.specs.declared.machines.Refusal.TheVariants as R
use Rattle.store_api.specs.declared.machines.RegionFault.TheVariants.{CellCount, CellRange}
use Rattle.store_api.specs.Journal.{Each, IsGood}
use Rattle.store_api.specs.Callers.{Caller}
use Rattle.store_api.specs.Program.{Prog, Done, Ask as Ask_next, Leads, is_branch, moves_branch}
use Rattle.store_api.specs.Plays.{Stays}
use Rattle.store_api.specs.Running.{Program, ◌>>=◌, on_answer}
use Rattle.repo_read.specs.Answers.{at_key, manifest_told, object_told}
use Rattle.repo_read.specs.Programs.{manifest_program, object_program}
use Rattle.session.specs.declared.chunks.Value.{Value}
use Rattle.session.specs.declared.chunks.Value.TheVariants.{Bytes, Fill}
use Rattle.session.specs.Sessions.{SessionState, nodes_seen, overlay}
use Rattle.session.specs.Arrays.{array_at}
use Rattle.session.specs.Editing.{refusal_of_edit}
use Rattle.session.specs.Chunks.{with_chunk, set_program, put_object, after_object, found_bytes, read_object, read_own, read_place}
use Rattle.region_calls.proofs.Growing.{Surely-append}
use Rattle.region_calls.proofs.Lasting.{WasSet-append}
use Rattle.region_calls.proofs.Setting.{session_out, set-cases}
use Rattle.region_cells.specs.Walks.{chunks_met}
use Rattle.array_region.specs.Cells.{cells_of}
use Rattle.array_region.specs.Planning.{box_count}
use Rattle.array_region.specs.Reading.{Kept, Chunk, Reads, keeping, entry_kept, in_file, in_manifest, file_kept, listed_kept, entered_kept, chunk_kept, with_value, read_chunks, read_box, read_array, region_program}
use Rattle.array_region.specs.Writing.{is_covered, old_chunk, bytes_put, write_chunks, outside_from, cells_refused, region_set_program}
use Rattle.array_region.proofs.Planned.{no_array, refused_box}
use Rattle.region_calls.specs.Told.{AreCells}
use Rattle.region_calls.specs.Written.{IsTreeWith, AreSet, WasWritten}
use Rattle.region_calls.proofs.Sets.{reads_of_box, box_cases}
use Rattle.play_tasks.specs.Telling.{IsOfChunks, TellsOfChunks}
use Rattle.play_tasks.specs.Bases.{IsLeaseOf}
use Rattle.play_tasks.proofs.Within.{Within, WithinOk, IsSame, bind-within}
use Rattle.play_tasks.proofs.Singly.{weaker-within}

abbrev pub AnyNumbers : List ℤ → Type 0
AnyNumbers numbers = Unit {0}

-- ---- answers
-- this of an answer; a refusal tells of manifests and objects with chunks alone
abbrev pub By : {A : Type 0} → (A → Type 0) → Result A Refusal → Type 0
By Q (Ok a) = Q a
By Q (Err why) = TellsOfChunks why

abbrev Anything : {A : Type 0} → A → Type 0
Anything a = Unit {0}

by-ok : {A : Type 0} (Q : A → Type 0) (r : Result A Refusal) → By Q r → IfOk r Q
by-ok Q (Ok a) q = q
by-ok Q (Err why) q = tt

key-tells : {A : Type 0} (key : Key) → IsOfChunks key → (r : Result A Bad) → By {A = A} Anything (at_key key r)
key-tells key of_chunks (Ok a) = tt
key-tells key of_chunks (Err bad) = of_chunks

manifest-tells : (id : Id12) (reply : Reply) → By {A = ManifestFile} Anything (manifest_told id reply)
manifest-tells id (Is_got (Found bytes version now)) = key-tells (Manifest id) tt (read_manifest id bytes)
manifest-tells id (Is_got (Absent now)) = tt
manifest-tells id (Is_new x) = tt
manifest-tells id (Is_over x) = tt
manifest-tells id (Is_gone x) = tt
manifest-tells id (Is_gone_at x) = tt
manifest-tells id (Is_listed x) = tt
manifest-tells id (Failed done) = tt

object-tells : (want : ℕ) (id : Id12) (offset size : ℕ) (reply : Reply) → By {A = List ℕ} Anything (object_told want id offset size reply)
object-tells want id offset size (Is_got (Found bytes version now)) = key-tells (Chunk_key id) tt (read_chunk want offset size bytes)
object-tells want id offset size (Is_got (Absent now)) = tt
object-tells want id offset size (Is_new x) = tt
object-tells want id offset size (Is_over x) = tt
object-tells want id offset size (Is_gone x) = tt
object-tells want id offset size (Is_gone_at x) = tt
object-tells want id offset size (Is_listed x) = tt
object-tells want id offset size (Failed done) = tt

edit-tells : (fault : EditFault) → TellsOfChunks (refusal_of_edit fault)
edit-tells F.NodeExists = tt
edit-tells F.NoParent = tt
edit-tells F.Full = tt
edit-tells F.NoNode = tt
edit-tells (F.FrozenField part) = tt
edit-tells F.NotArray = tt
edit-tells F.OutOfGrid = tt
edit-tells (F.ChunkLength want got) = tt
edit-tells F.NoMemory = tt

-- ---- programs
-- any operation that gets what is no branch, or puts something new that is no lease
module _ (may : Op → Type 0) (gets : (key : Key) → is_branch key ≡ false → may (Get key)) (puts : (key : Key) (bytes : List ℕ) (why : Why) → ((base : Id12) → IsLeaseOf base key bytes) → may (PutNew key bytes why)) where
  abbrev Goes : {A : Type 0} → (A → Type 0) → Program A → Type 0
  Goes Q p = Within may (By Q) p

  done-goes : {A : Type 0} (Q : A → Type 0) (r : Result A Refusal) → By Q r → Goes Q (Done r)
  unfolding Within
  done-goes Q r q = q

  asks-goes : {A : Type 0} (op : Op) (told : Reply → Result A Refusal) → may op → ((reply : Reply) → By {A = A} Anything (told reply)) → Goes {A = A} Anything (Ask_next op (λ reply. Done (told reply)))
  unfolding Within
  asks-goes op told m g = (m, g)

  answer-goes : {A B : Type 0} (Q : A → Type 0) (R : B → Type 0) (f : A → Program B) → ((a : A) → Q a → Goes R (f a)) → (r : Result A Refusal) → By Q r → Goes R (on_answer f r)
  answer-goes Q R f g (Ok a) q = g a q
  answer-goes Q R f g (Err why) q = done-goes R (Err why) q

  then-goes : {A B : Type 0} (Q : A → Type 0) (R : B → Type 0) (p : Program A) (f : A → Program B) → Goes Q p → ((a : A) → Q a → Goes R (f a)) → Goes R (p >>= f)
  then-goes Q R p f w g = bind-within may (By Q) (By R) p (on_answer f) w (answer-goes Q R f g)

  -- ---- a chunk
  part-goes : (want : ℕ) (id : Id12) (offset size : ℕ) → Goes {A = Value} Anything (read_object want id offset size)
  part-goes want id offset size =
      then-goes {A = List ℕ} Anything Anything (object_program want id offset size) (λ bytes. Done (Ok (Bytes bytes))) (asks-goes (Get (Chunk_key id)) (object_told want id offset size) (gets (Chunk_key id) refl) (object-tells want id offset size))
      (λ bytes q. done-goes Anything (Ok (Bytes bytes)) tt)

  found-goes : (r : Result (List ℕ) Refusal) → By {A = List ℕ} Anything r → Goes {A = Value} Anything (found_bytes r)
  found-goes (Ok bytes) q = done-goes Anything (Ok (Bytes bytes)) tt
  found-goes (Err why) q = done-goes Anything (Err why) q

  place-goes : (want : ℕ) (manifest : Id12) (place : Place) → Goes {A = Value} Anything (read_place want manifest place)
  place-goes want manifest (Inline bytes) = found-goes (at_key (Manifest manifest) (read_inline want bytes)) (key-tells (Manifest manifest) tt (read_inline want bytes))
  place-goes want manifest (Object id offset size) = part-goes want id offset size

  own-goes : (want : ℕ) (place : Place) → Goes {A = Value} Anything (read_own want place)
  own-goes want (Inline bytes) = done-goes Anything (Ok (Bytes bytes)) tt
  own-goes want (Object id offset size) = part-goes want id offset size

  keeping-goes : (kept : Kept) (p : Program Value) → Goes {A = Value} Anything p → Goes {A = Chunk} Anything (p >>= keeping kept)
  keeping-goes kept p w = then-goes {A = Value} Anything Anything p (keeping kept) w (λ value q. done-goes Anything (Ok (value, kept)) tt)

  module _ (want : ℕ) (node : Id8) (index : List ℕ) where
    abbrev GoesOn : (Kept → Program Chunk) → Type 0
    GoesOn more = (kept : Kept) → Goes {A = Chunk} Anything (more kept)

    entry-goes : (manifest : Id12) (kept : Kept) (rest : Program Chunk) → Goes {A = Chunk} Anything rest → (o : Option Place) → Goes {A = Chunk} Anything (entry_kept want manifest kept rest o)
    entry-goes manifest kept rest w None = w
    entry-goes manifest kept rest w (Some place) = keeping-goes kept (read_place want manifest place) (place-goes want manifest place)

    file-goes : (manifest : Id12) (more : Kept → Program Chunk) → GoesOn more → (file : ManifestFile) → Goes {A = Chunk} Anything (in_file want node index manifest more file)
    file-goes manifest more g file = entry-goes manifest (Some (manifest, file)) (more (Some (manifest, file))) (g (Some (manifest, file))) (entry_of node index file)

    manifest-goes : (manifest : Id12) (more : Kept → Program Chunk) → GoesOn more → (o : Option ManifestFile) → Goes {A = Chunk} Anything (in_manifest want node index manifest more o)
    manifest-goes manifest more g None =
        then-goes {A = ManifestFile} Anything Anything (manifest_program manifest) (in_file want node index manifest more) (asks-goes (Get (Manifest manifest)) (manifest_told manifest) (gets (Manifest manifest) refl) (manifest-tells manifest)) (λ file q. file-goes manifest more g file)
    manifest-goes manifest more g (Some file) = file-goes manifest more g file

    listed-goes : (ids : List Id12) → GoesOn (listed_kept want node index ids)
    unfolding listed_kept
    listed-goes [] kept = done-goes Anything (Ok (Fill, kept)) tt
    listed-goes (manifest ∷ more) kept = manifest-goes manifest (listed_kept want node index more) (listed-goes more) (file_kept kept manifest)

    entered-goes : (s : SessionState) (path : List ℕ) (kept : Kept) (entry : Option (Option Place)) → Goes {A = Chunk} Anything (entered_kept s path want node index kept entry)
    entered-goes s path kept (Some (Some place)) = keeping-goes kept (read_own want place) (own-goes want place)
    entered-goes s path kept (Some None) = done-goes Anything (Ok (Fill, kept)) tt
    entered-goes s path kept None = listed-goes (ids_within index (own_manifests s.rows path node)) kept

  chunk-goes : (s : SessionState) (r : Reads) (index : List ℕ) (kept : Kept) → Goes {A = Chunk} Anything (chunk_kept s r.path (chunk_length r.array) r.node index kept)
  chunk-goes s r index kept = entered-goes (chunk_length r.array) r.node index s r.path kept (entry_in s.held.chunks r.node index)

  -- ---- a box that is read
  chunks-goes : (s : SessionState) (r : Reads) (kept : Kept) (numbers : List ℤ) (met : List (List ℕ)) → Goes AnyNumbers (read_chunks s r kept numbers met)
  unfolding read_chunks
  chunks-goes s r kept numbers [] = done-goes AnyNumbers (Ok numbers) tt
  chunks-goes s r kept numbers (index ∷ met) =
      then-goes {A = Chunk} Anything AnyNumbers (chunk_kept s r.path (chunk_length r.array) r.node index kept) (λ chunk. read_chunks s r chunk.1 (with_value r index chunk.0 numbers) met) (chunk-goes s r index kept)
      (λ chunk q. chunks-goes s r chunk.1 (with_value r index chunk.0 numbers) met)

  box-goes : (s : SessionState) (r : Reads) (count : Result ℕ Refusal) → box_count r.array r.from r.to ≡ count → Goes AnyNumbers (read_box s r count)
  box-goes s r (Err why) e = let is = refused_box r.array r.from r.to why e in done-goes AnyNumbers (Err why) (subst TellsOfChunks (sym is.is) tt)
  box-goes s r (Ok count) e = chunks-goes s r None (replicate count r.array.fill) (chunks_met r.array.chunks r.from r.to)

  array-goes : (s : SessionState) (path from to : List ℕ) (found : Result (Id8 × ArrayView) Refusal) → array_at s path ≡ found → Goes AnyNumbers (read_array s path from to found)
  array-goes s path from to (Err why) e = let is = no_array (get (nodes_seen s) path) why e in done-goes AnyNumbers (Err why) (subst TellsOfChunks (sym is.is) tt)
  array-goes s path from to (Ok found) e = box-goes s (reads_of_box path from to found.0 found.1) (box_count found.1 from to) refl

  pub gather-goes : (s : SessionState) (path from to : List ℕ) → Goes AnyNumbers (region_program s path from to)
  unfolding region_program
  gather-goes s path from to = array-goes s path from to (array_at s path) refl

  -- ---- a box that is written
  either-goes : {A : Type 0} (Q : A → Type 0) (b : Bool) (p q : Program A) → Goes Q p → Goes Q q → Goes Q (cond b p q)
  either-goes Q true p q w v = w
  either-goes Q false p q w v = v

  old-goes : (s : SessionState) (r : Reads) (index : List ℕ) (kept : Kept) → Goes {A = Chunk} Anything (old_chunk s r index kept)
  old-goes s r index kept =
      either-goes {A = Chunk} Anything (is_covered r.from r.to r.array.chunks index) (keeping kept Fill) (chunk_kept s r.path (chunk_length r.array) r.node index kept) (done-goes Anything (Ok (Fill, kept)) tt) (chunk-goes s r index kept)

  put-goes : (s t : SessionState) (id : Id12) → IsSame s t → (reply : Reply) → Goes (IsSame s) (after_object t id reply)
  unfolding Within
  put-goes s t id same (Is_new (New_done version now)) = same
  put-goes s t id same (Is_new (Present version now)) = tt
  put-goes s t id same (Is_got x) = tt
  put-goes s t id same (Is_over x) = tt
  put-goes s t id same (Is_gone x) = tt
  put-goes s t id same (Is_gone_at x) = tt
  put-goes s t id same (Is_listed x) = tt
  put-goes s t id same (Failed done) = tt

  out-goes : (s : SessionState) (path index bytes : List ℕ) (id : Id12) → Goes (IsSame s) (put_object s path index bytes (Some id))
  unfolding Within
  out-goes s path index bytes id = (puts (Chunk_key id) bytes Set (λ base. tt), put-goes s (session_out s path index bytes id) id (record { base = refl; origin = refl }))

  set-goes : (s : SessionState) (path index bytes : List ℕ) → Goes (IsSame s) (set_program s path index bytes)
  set-goes s path index bytes =
      set-cases s path index bytes (λ p. Goes (IsSame s) p) (λ w. done-goes (IsSame s) (Err R.ReadOnly) tt) (λ fault f. done-goes (IsSame s) (Err (refusal_of_edit fault)) (edit-tells fault))
      (λ w f l. done-goes (IsSame s) (Ok (with_chunk s path index (Inline bytes))) (record { base = refl; origin = refl })) (λ spent. done-goes (IsSame s) (Err R.IdsSpent) tt) (λ id out. out-goes s path index bytes id)

  then-same : (s t u : SessionState) → IsSame s t → IsSame t u → IsSame s u
  then-same s t u i j = record { base = j.base ∙ i.base; origin = j.origin ∙ i.origin }

  write-goes : (s first : SessionState) (r : Reads) (numbers : List ℤ) (t : SessionState) → IsSame s t → (kept : Kept) (met : List (List ℕ)) → Goes (IsSame s) (write_chunks (old_chunk first r) t r numbers kept met)
  unfolding write_chunks
  write-goes s first r numbers t i kept [] = done-goes (IsSame s) (Ok t) i
  write-goes s first r numbers t i kept (index ∷ met) =
      then-goes {A = Chunk} Anything (IsSame s) (old_chunk first r index kept) (λ chunk. set_program t r.path index (bytes_put r index numbers chunk.0) >>= λ u. write_chunks (old_chunk first r) u r numbers chunk.1 met) (old-goes first r index kept)
      (λ chunk q. then-goes (IsSame t) (IsSame s) (set_program t r.path index (bytes_put r index numbers chunk.0)) (λ u. write_chunks (old_chunk first r) u r numbers chunk.1 met) (set-goes t r.path index (bytes_put r index numbers chunk.0))
      (λ u j. write-goes s first r numbers u (then-same s t u i j) chunk.1 met))

  numbers-tell : (kind : IntKind) (count : ℕ) (numbers : List ℤ) (why : Refusal) → cells_refused kind count numbers ≡ Some why → TellsOfChunks why
  numbers-tell kind count numbers why e = by_count (length numbers == count) e
    where
      by_place : (o : Option ℕ) → option_map (λ at. R.Region (CellRange at)) o ≡ Some why → TellsOfChunks why
      by_place None d = absurd cc
      by_place (Some at) d = let is : R.Region (CellRange at) ≡ why = cc in subst TellsOfChunks is tt

      by_count : (b : Bool) → cond b (option_map (λ at. R.Region (CellRange at)) (outside_from kind numbers 0)) (Some (R.Region (CellCount count (length numbers)))) ≡ Some why → TellsOfChunks why
      by_count true d = by_place (outside_from kind numbers 0) d
      by_count false d = let is : R.Region (CellCount count (length numbers)) ≡ why = cc in subst TellsOfChunks is tt

  pub put-box-goes : (s : SessionState) (path from to : List ℕ) (numbers : List ℤ) → Goes (IsSame s) (region_set_program s path from to numbers)
  put-box-goes s path from to numbers =
      box_cases s path from to numbers (λ p. Goes (IsSame s) p) (λ w. done-goes (IsSame s) (Err R.ReadOnly) tt)
      (λ why e. let is = no_array (get (nodes_seen s) path) why e in done-goes (IsSame s) (Err why) (subst TellsOfChunks (sym is.is) tt))
      (λ id array e why c. let is = refused_box array from to why c in done-goes (IsSame s) (Err why) (subst TellsOfChunks (sym is.is) tt))
      (λ id array e count c why f. done-goes (IsSame s) (Err why) (numbers-tell array.kind count numbers why f))
      (λ w id array e count c f. write-goes s s (reads_of_box path from to id array) numbers s (record { base = refl; origin = refl }) None (chunks_met array.chunks from to))

  -- so it is of answers alone
  pub gather-within : (s : SessionState) (path from to : List ℕ) → WithinOk may AnyNumbers (region_program s path from to)
  gather-within s path from to = weaker-within may may (λ op m. m) (By AnyNumbers) (λ r. IfOk r AnyNumbers) (by-ok AnyNumbers) (region_program s path from to) (gather-goes s path from to)

  pub put-box-within : (s : SessionState) (path from to : List ℕ) (numbers : List ℤ) → WithinOk may (IsSame s) (region_set_program s path from to numbers)
  put-box-within s path from to numbers = weaker-within may may (λ op m. m) (By (IsSame s)) (λ r. IfOk r (IsSame s)) (by-ok (IsSame s)) (region_set_program s path from to numbers) (put-box-goes s path from to numbers)

-- what each answer is, whatever others do
pub within-leads : {A : Type 0} (may : Op → Type 0) (Q : A → Type 0) (by : Caller) (p : Prog A) (journal : List Event) → Within may Q p → Leads (λ a h. Q a) by p journal
unfolding Leads Within
within-leads may Q by (Done a) journal w = w
within-leads may Q by (Ask_next op k) journal w = λ reply new m. within-leads may Q by (k reply) new (w.1 reply)

-- ---- no operation of it moves a branch
abbrev pub MovesNone : Op → Type 0
MovesNone op = moves_branch op ≡ false

pub none-gets : (key : Key) → is_branch key ≡ false → MovesNone (Get key)
none-gets key e = refl

pub none-puts : (key : Key) (bytes : List ℕ) (why : Why) → ((base : Id12) → IsLeaseOf base key bytes) → MovesNone (PutNew key bytes why)
none-puts key bytes why leases = refl

-- so what stays so wherever memory may be wanting is so of each answer
pub stays-leads : {A : Type 0} (N : List Event → Type 0) (Q : A → Type 0) (by : Caller) (p : Prog A) (journal : List Event) → N journal → Within MovesNone Q p → Stays N by p journal → Leads (λ a h. N h) by p journal
unfolding Leads Stays Within
stays-leads N Q by (Done a) journal n w s = n
stays-leads N Q by (Ask_next op k) journal n w s = λ reply new m. let t = s.1 reply new m in stays-leads N Q by (k reply) new (t.0 w.0) (w.1 reply) t.1

-- ---- what was told stays so, whatever good events come
pub AreCells-append : (s : SessionState) (path from to : List ℕ) (numbers : List ℤ) (journal more : List Event) → Each IsGood journal more → AreCells s path from to numbers journal → AreCells s path from to numbers (journal ++ more)
AreCells-append s path from to numbers journal more g a = Surely-append (λ puts. KeepsFrozen s.held s.rows → IsWellFormed (overlay puts s) → cells_of (overlay puts s) path from to ≡ Some numbers) journal more g a

AreSet-append : (client : ℕ) (path : List ℕ) (start : List Event) (chunks : List (List ℕ × List ℕ)) (s t : SessionState) (journal more : List Event) → Each IsGood journal more → AreSet client s path chunks t start journal → AreSet client s path chunks t start (journal ++ more)
AreSet-append client path start [] s t journal more g a = a
AreSet-append client path start (first ∷ rest) s t journal more g a = (a.0, WasSet-append client s path first.0 first.1 start journal more a.0 a.1, AreSet-append client path start rest a.0 t journal more g a.2)

pub WasWritten-append : (client : ℕ) (s : SessionState) (path from to : List ℕ) (numbers : List ℤ) (t : SessionState) (start journal more : List Event) → Each IsGood journal more → WasWritten client s path from to numbers t start journal → WasWritten client s path from to numbers t start (journal ++ more)
WasWritten-append client s path from to numbers t start journal more g w = record {
  writes = w.writes;
  node = w.node;
  array = w.array;
  found = w.found;
  count = w.count;
  counted = w.counted;
  fit = w.fit;
  chunks = w.chunks;
  indices = w.indices;
  set = AreSet-append client path start w.chunks s t journal more g w.set;
  tree = Surely-append (λ puts. KeepsFrozen s.held s.rows → IsWellFormed (overlay puts s) → IsTreeWith path w.array from to numbers (overlay puts s) (overlay puts t)) journal more g w.tree;
}
