-- Reads of boxes only get.
use Rattle.std.proofs.Common.{ℕ, ℤ, List, [], ◌∷◌}
use Rattle.std.specs.Prelude.{Result, Ok, Err, Option, Some, None}
use Rattle.ice_ids.specs.declared.Id8.{Id8}
use Rattle.ice_ids.specs.declared.Id12.{Id12}
use Rattle.zarr_meta.specs.declared.views.ArrayView.{ArrayView}
use Rattle.zarr_tree.specs.Held.{entry_in}
use Rattle.zarr_tree.specs.Nodes.{chunk_length}
use Rattle.manifest_file.specs.declared.manifest.Place.{Place}
use Rattle.manifest_file.specs.declared.manifest.Place.TheVariants.{Inline, Object}
use Rattle.manifest_file.specs.declared.manifest.ManifestFile.{ManifestFile}
use Rattle.held_manifest.specs.LookUp.{entry_of}
use Rattle.manifest_index.specs.Merging.{ids_within}
use Rattle.changed_snapshot.specs.Rows.{own_manifests}
use Rattle.repo_objects.specs.Readings.{read_inline}
use Rattle.object_store.specs.declared.keys.Key.TheVariants.{Manifest}
use Rattle.object_store.specs.declared.events.Op.TheVariants.{Get}
use Rattle.store_api.specs.declared.machines.Refusal.{Refusal}
use Rattle.store_api.specs.Program.{Prog, Done, Ask, bind}
use Rattle.store_api.specs.Running.{Program, ◌>>=◌, on_answer}
use Rattle.repo_read.specs.Answers.{at_key, manifest_told, object_told}
use Rattle.session.specs.Sessions.{SessionState}
use Rattle.session.specs.Chunks.{found_bytes, read_place, read_own}
use Rattle.session.specs.Arrays.{array_at}
use Rattle.region_cells.specs.Walks.{chunks_met}
use Rattle.array_region.specs.Planning.{box_count}
use Rattle.array_region.specs.Reading.{Kept, Chunk, keeping, in_file, entry_kept, in_manifest, file_kept, listed_kept, entered_kept, Reads, with_value, read_chunks, read_box, read_array, region_program}
use Rattle.region_calls.proofs.ChunkGets.{OnlyGets, held_of}

bind_gets : {A B : Type 0} (p : Prog A) (f : A → Prog B) → OnlyGets p → ((a : A) → OnlyGets (f a)) → OnlyGets (bind p f)
bind_gets (Done a) f g h = h a
bind_gets (Ask (Get key) k) f g h = λ reply. bind_gets (k reply) f (g reply) h
bind_gets (Ask _ k) f g h = absurd g

answer_gets : {A B : Type 0} (f : A → Program B) (r : Result A Refusal) → ((a : A) → OnlyGets (f a)) → OnlyGets (on_answer f r)
answer_gets f (Ok a) h = h a
answer_gets f (Err why) h = tt

then_gets : {A B : Type 0} (p : Program A) (f : A → Program B) → OnlyGets p → ((a : A) → OnlyGets (f a)) → OnlyGets (p >>= f)
then_gets p f g h = bind_gets p (on_answer f) g (λ r. answer_gets f r h)

held_gets : (r : Result (List ℕ) Refusal) → OnlyGets (held_of r)
held_gets (Ok bytes) = tt
held_gets (Err why) = tt

found_gets : (r : Result (List ℕ) Refusal) → OnlyGets (found_bytes r)
found_gets (Ok bytes) = tt
found_gets (Err why) = tt

pub place_gets : (want : ℕ) (manifest : Id12) (place : Place) → OnlyGets (read_place want manifest place)
place_gets want manifest (Inline bytes) = found_gets (at_key (Manifest manifest) (read_inline want bytes))
place_gets want manifest (Object id offset size) = λ reply. held_gets (object_told want id offset size reply)

pub own_gets : (want : ℕ) (place : Place) → OnlyGets (read_own want place)
own_gets want (Inline bytes) = tt
own_gets want (Object id offset size) = λ reply. held_gets (object_told want id offset size reply)

module _ (want : ℕ) (node : Id8) (index : List ℕ) where
  entry_gets : (manifest : Id12) (kept : Kept) (rest : Program Chunk) → OnlyGets rest → (o : Option Place) → OnlyGets (entry_kept want manifest kept rest o)
  entry_gets manifest kept rest g None = g
  entry_gets manifest kept rest g (Some place) = then_gets (read_place want manifest place) (keeping kept) (place_gets want manifest place) (λ value. tt)

  file_gets : (manifest : Id12) (more : Kept → Program Chunk) → ((kept : Kept) → OnlyGets (more kept)) → (file : ManifestFile) → OnlyGets (in_file want node index manifest more file)
  file_gets manifest more g file = entry_gets manifest (Some (manifest, file)) (more (Some (manifest, file))) (g (Some (manifest, file))) (entry_of node index file)

  manifest_gets : (manifest : Id12) (more : Kept → Program Chunk) → ((kept : Kept) → OnlyGets (more kept)) → (o : Option ManifestFile) → OnlyGets (in_manifest want node index manifest more o)
  manifest_gets manifest more g None = λ reply. answer_gets (in_file want node index manifest more) (manifest_told manifest reply) (file_gets manifest more g)
  manifest_gets manifest more g (Some file) = file_gets manifest more g file

  listed_gets : (ids : List Id12) (kept : Kept) → OnlyGets (listed_kept want node index ids kept)
  unfolding listed_kept
  listed_gets [] kept = tt
  listed_gets (manifest ∷ more) kept = manifest_gets manifest (listed_kept want node index more) (listed_gets more) (file_kept kept manifest)

  pub entered_gets : (s : SessionState) (path : List ℕ) (kept : Kept) (entry : Option (Option Place)) → OnlyGets (entered_kept s path want node index kept entry)
  entered_gets s path kept (Some (Some place)) = then_gets (read_own want place) (keeping kept) (own_gets want place) (λ value. tt)
  entered_gets s path kept (Some None) = tt
  entered_gets s path kept None = listed_gets (ids_within index (own_manifests s.rows path node)) kept

chunks_gets : (s : SessionState) (r : Reads) (kept : Kept) (numbers : List ℤ) (met : List (List ℕ)) → OnlyGets (read_chunks s r kept numbers met)
unfolding read_chunks
chunks_gets s r kept numbers [] = tt
chunks_gets s r kept numbers (index ∷ met) =
    then_gets (entered_kept s r.path (chunk_length r.array) r.node index kept (entry_in s.held.chunks r.node index)) (λ chunk. read_chunks s r chunk.1 (with_value r index chunk.0 numbers) met)
    (entered_gets (chunk_length r.array) r.node index s r.path kept (entry_in s.held.chunks r.node index)) (λ chunk. chunks_gets s r chunk.1 (with_value r index chunk.0 numbers) met)

box_gets : (s : SessionState) (r : Reads) (count : Result ℕ Refusal) → OnlyGets (read_box s r count)
box_gets s r (Err why) = tt
box_gets s r (Ok count) = chunks_gets s r None _ (chunks_met r.array.chunks r.from r.to)

array_gets : (s : SessionState) (path from to : List ℕ) (found : Result (Id8 × ArrayView) Refusal) → OnlyGets (read_array s path from to found)
array_gets s path from to (Err why) = tt
array_gets s path from to (Ok found) = box_gets s (record { node = found.0; array = found.1; path = path; from = from; to = to }) (box_count found.1 from to)

pub region_gets : (s : SessionState) (path from to : List ℕ) → OnlyGets (region_program s path from to)
unfolding region_program
region_gets s path from to = array_gets s path from to (array_at s path)
