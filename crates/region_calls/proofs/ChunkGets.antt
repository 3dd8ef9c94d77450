-- Programs that only get.
use Rattle.std.proofs.Common.{ℕ, List, [], ◌∷◌}
use Rattle.std.specs.Prelude.{Result, Ok, Err, Option, Some, None}
use Rattle.ice_ids.specs.declared.Id8.{Id8}
use Rattle.ice_ids.specs.declared.Id12.{Id12}
use Rattle.zarr_tree.specs.declared.edit.EditFault.{EditFault}
use Rattle.zarr_tree.specs.Held.{entry_in}
use Rattle.zarr_changes.specs.declared.chunks.ChunkAt.{ChunkAt}
use Rattle.zarr_changes.specs.Sets.{chunk_found}
use Rattle.manifest_file.specs.declared.manifest.Place.{Place}
use Rattle.manifest_file.specs.declared.manifest.Place.TheVariants.{Inline, Object}
use Rattle.manifest_file.specs.declared.manifest.ManifestFile.{ManifestFile}
use Rattle.held_manifest.specs.LookUp.{entry_of}
use Rattle.manifest_index.specs.Merging.{ids_within}
use Rattle.repo_objects.specs.Readings.{read_inline}
use Rattle.changed_snapshot.specs.Rows.{own_manifests}
use Rattle.object_store.specs.declared.keys.Key.{Key}
use Rattle.object_store.specs.declared.keys.Key.TheVariants.{Manifest}
use Rattle.object_store.specs.declared.events.Op.{Op}
use Rattle.object_store.specs.declared.events.Op.TheVariants.{Get}
use Rattle.object_store.specs.declared.events.Reply.{Reply}
use Rattle.object_store.specs.declared.events.Event.{Event}
use Rattle.store_api.specs.declared.machines.Refusal.{Refusal}
use Rattle.store_api.specs.Callers.{Caller, Makes}
use Rattle.store_api.specs.Program.{Prog, Done, Ask, Keeps}
use Rattle.store_api.specs.Plays.{Stays}
use Rattle.store_api.specs.Running.{Program, on_answer}
use Rattle.repo_read.specs.Answers.{at_key, manifest_told, object_told}
use Rattle.session.specs.declared.chunks.Value.{Value}
use Rattle.session.specs.declared.chunks.Value.TheVariants.{Bytes}
use Rattle.session.specs.Sessions.{SessionState, nodes_seen}
use Rattle.session.specs.Chunks.{found_bytes, read_entry, read_place, read_listed, read_own, read_at, read_found, get_program}
use Rattle.store_api.specs.Telling.{ChangedNothing}
use Rattle.store_api.proofs.Happening.{ChangedNothing-makes, get-leaves}

-- each of its operations is a get
abbrev pub OnlyGets : {A : Type 0} → Prog A → Type 0
OnlyGets (Done a) = Unit {0}
OnlyGets (Ask (Get key) k) = (reply : Reply) → OnlyGets (k reply)
OnlyGets (Ask _ k) = ⊥

-- what is so of each get is so of each operation
pub gets-keep : {A : Type 0} (P : List Event → ℕ → Op → Type 0) (by : Caller) → ((journal : List Event) (key : Key) → P journal by.number (Get key)) → (p : Prog A) → OnlyGets p → (journal : List Event) → Keeps P by p journal
unfolding Keeps
gets-keep P by f (Done a) g journal = tt
gets-keep P by f (Ask (Get key) k) g journal = (f journal key, λ reply new m. gets-keep P by f (k reply) (g reply) new)
gets-keep P by f (Ask _ k) g journal = absurd g

-- a get changes no branch
pub got-nothing : (by : Caller) (start : List Event) (key : Key) (reply : Reply) (old new : List Event) → Makes by (Get key) reply old new → ChangedNothing by.number start old → ChangedNothing by.number start new
got-nothing by start key reply old new m c = ChangedNothing-makes by start (Get key) reply old new m (get-leaves by key reply m.time m.middle) c

pub gets-stay : {A : Type 0} (by : Caller) (start : List Event) (p : Prog A) → OnlyGets p → (journal : List Event) → ChangedNothing by.number start journal → Stays (ChangedNothing by.number start) by p journal
unfolding Stays
gets-stay by start (Done a) g journal c = tt
gets-stay by start (Ask (Get key) k) g journal c = (
  c,
  λ reply new m.
      let c' = got-nothing by start key reply journal new m c in
      (λ e. c', gets-stay by start (k reply) (g reply) new c'),
)
gets-stay by start (Ask _ k) g journal c = absurd g

-- ---- a read of a chunk
abbrev pub held_of : Result (List ℕ) Refusal → Program Value
held_of r = on_answer (λ (bytes : List ℕ). Done (Ok (Bytes bytes))) r

held-gets : (r : Result (List ℕ) Refusal) → OnlyGets (held_of r)
held-gets (Ok bytes) = tt
held-gets (Err why) = tt

found-gets : (r : Result (List ℕ) Refusal) → OnlyGets (found_bytes r)
found-gets (Ok bytes) = tt
found-gets (Err why) = tt

place-gets : (want : ℕ) (manifest : Id12) (place : Place) → OnlyGets (read_place want manifest place)
place-gets want manifest (Inline bytes) = found-gets (at_key (Manifest manifest) (read_inline want bytes))
place-gets want manifest (Object id offset size) = λ reply. held-gets (object_told want id offset size reply)

entry-gets : (want : ℕ) (manifest : Id12) (rest : Program Value) → OnlyGets rest → (o : Option Place) → OnlyGets (read_entry want manifest rest o)
entry-gets want manifest rest g None = g
entry-gets want manifest rest g (Some place) = place-gets want manifest place

file-gets : (want : ℕ) (manifest : Id12) (node : Id8) (index : List ℕ) (rest : Program Value) → OnlyGets rest → (r : Result ManifestFile Refusal) → OnlyGets (on_answer (λ file. read_entry want manifest rest (entry_of node index file)) r)
file-gets want manifest node index rest g (Ok file) = entry-gets want manifest rest g (entry_of node index file)
file-gets want manifest node index rest g (Err why) = tt

listed-gets : (want : ℕ) (node : Id8) (index : List ℕ) (ids : List Id12) → OnlyGets (read_listed want node index ids)
unfolding read_listed
listed-gets want node index [] = tt
listed-gets want node index (manifest ∷ more) = λ reply. file-gets want manifest node index (read_listed want node index more) (listed-gets want node index more) (manifest_told manifest reply)

own-gets : (want : ℕ) (place : Place) → OnlyGets (read_own want place)
own-gets want (Inline bytes) = tt
own-gets want (Object id offset size) = λ reply. held-gets (object_told want id offset size reply)

at-gets : (s : SessionState) (path index : List ℕ) (at : ChunkAt) (entry : Option (Option Place)) → OnlyGets (read_at s path index at entry)
at-gets s path index at (Some (Some place)) = own-gets at.bytes place
at-gets s path index at (Some None) = tt
at-gets s path index at None = listed-gets at.bytes at.node index (ids_within index (own_manifests s.rows path at.node))

read-gets : (s : SessionState) (path index : List ℕ) (r : Result ChunkAt EditFault) → OnlyGets (read_found s path index r)
read-gets s path index (Err fault) = tt
read-gets s path index (Ok at) = at-gets s path index at (entry_in s.held.chunks at.node index)

-- a read only gets
pub get-gets : (s : SessionState) (path index : List ℕ) → OnlyGets (get_program s path index)
unfolding get_program
get-gets s path index = read-gets s path index (chunk_found (nodes_seen s) path index)
