-- What the answers of a session's calls on chunks say of the journal, in words that name no
-- machine and no program. (Own; Zarr v3 core specification, "Chunks": a chunk that isn't
-- held reads as the fill value.)
use Rattle.std.specs.Prelude.{◌≡◌, ◌⊎◌, ℕ, ◌≤◌, ◌<◌, false, true, List}
use Rattle.std.specs.Prelude.{length, Option, Some, None, Result, Ok, Err}
use Rattle.ice_ids.specs.declared.Id12.{Id12}
use Rattle.ice_ids.specs.Drawing.{drawn12}
use Rattle.zarr_tree.specs.declared.edit.EditFault.{EditFault}
use Rattle.zarr_tree.specs.Held.{entry_in}
use Rattle.zarr_changes.specs.declared.chunks.ChunkAt.{ChunkAt}
use Rattle.zarr_changes.specs.Sets.{set_refusal, chunk_found}
use Rattle.manifest_file.specs.declared.manifest.Place.{Place}
use Rattle.manifest_file.specs.declared.manifest.Place.TheVariants.{Inline, Object}
use Rattle.manifest_file.specs.declared.manifest.ManifestFile.{ManifestFile}
use Rattle.held_manifest.specs.LookUp.{entry_of}
use Rattle.repo_objects.specs.declared.bad_objects.Bad.{Bad}
use Rattle.repo_objects.specs.Readings.{read_manifest, manifest_by, read_inline, read_chunk}
use Rattle.repo_objects.specs.Trees.{Puts, Extends, NamesManifest}
use Rattle.changed_snapshot.specs.Laws.{KeepsFrozen}
use Rattle.object_store.specs.declared.keys.Key.{Key}
use Rattle.object_store.specs.declared.keys.Key.TheVariants.{Manifest, Chunk}
use Rattle.object_store.specs.declared.keys.Why.TheVariants.{Set}
use Rattle.object_store.specs.declared.events.Version.{Version}
use Rattle.object_store.specs.declared.events.Op.{Op}
use Rattle.object_store.specs.declared.events.Op.TheVariants.{Get, PutNew}
use Rattle.object_store.specs.declared.events.New.TheVariants.{Done as New_done, Present}
use Rattle.object_store.specs.declared.events.Reply.TheVariants.{New as Is_new}
use Rattle.object_store.specs.declared.events.Event.{Event}
use Rattle.store_api.specs.declared.machines.Refusal.{Refusal}
use Rattle.store_api.specs.declared.machines.Refusal.TheVariants.{ReadOnly, IdsSpent}
use Rattle.store_api.specs.declared.machines.Refusal.TheVariants.{IdTaken, Missing, BadFile}
use Rattle.store_api.specs.declared.machines.Refusal.TheVariants.{StoreFault, NoMemory}
use Rattle.store_api.specs.Journal.{puts_of, IsOnce}
use Rattle.session.specs.declared.chunks.Value.{Value}
use Rattle.session.specs.declared.chunks.Value.TheVariants.{Bytes, Fill}
use Rattle.session.specs.Sessions.{SessionState, writes, nodes_seen, overlay}
use Rattle.session.specs.Editing.{refusal_of_edit}
use Rattle.session.specs.Chunks.{most_inline, with_chunk, after_draw}
use Rattle.store_api.specs.Telling.{ChangedNothing, HasOwn, StandsAt, WasAbsent, WasFailed, WasGot}

-- ---- a chunk that was set
-- the client's own put of a chunk's object under this id was done
pub record WasObjectPut (client : ℕ) (id : Id12) (bytes : List ℕ)
    (start journal : List Event) : Type 0 where
  pub version : Version
  pub now : ℕ
  pub own : HasOwn client (PutNew (Chunk id) bytes Set)
      (Is_new (New_done version now)) start journal

-- a long chunk stands in an object that the client put itself, under
-- the next id that its session drew
pub record WasPutOut (client : ℕ) (s : SessionState) (path index bytes : List ℕ) (t : SessionState)
    (start journal : List Event) : Type 0 where
  pub long : most_inline < length bytes
  pub id : Id12
  pub drawn : drawn12 s.ids ≡ Some id
  pub put : WasObjectPut client id bytes start journal
  pub is : t ≡ with_chunk (after_draw s) path index (Object id 0 (length bytes))

-- The session may be written, its tree takes the chunk, and this is the session in which the chunk
-- has these bytes: a short one stands in the session itself.
pub record WasSet (client : ℕ) (s : SessionState) (path index bytes : List ℕ) (t : SessionState)
    (start journal : List Event) : Type 0 where
  pub writes : writes s ≡ true
  pub taken : set_refusal (nodes_seen s) path index (length bytes) ≡ None
  pub is : ((length bytes ≤ most_inline) × (t ≡ with_chunk s path index (Inline bytes)))
      ⊎ WasPutOut client s path index bytes t start journal

-- the key of the object was taken: the client's own put found an object there
pub record WasObjectTaken (client : ℕ) (s : SessionState) (key : Key) (bytes : List ℕ)
    (start journal : List Event) : Type 0 where
  pub id : Id12
  pub drawn : drawn12 s.ids ≡ Some id
  pub key_is : key ≡ Chunk id
  pub version : Version
  pub now : ℕ
  pub own : HasOwn client (PutNew (Chunk id) bytes Set) (Is_new (Present version now)) start journal
  pub there : StandsAt own.before (Chunk id) version.0

-- the one operation of a set
abbrev pub IsOfSet : SessionState → (bytes : List ℕ) → Op → Type 0
IsOfSet s bytes op = (id : Id12) × (drawn12 s.ids ≡ Some id) × (op ≡ PutNew (Chunk id) bytes Set)

-- a long chunk that the session's tree takes needs an id, and none is left
pub record NeedsObject (s : SessionState) (path index bytes : List ℕ) : Type 0 where
  pub writes : writes s ≡ true
  pub taken : set_refusal (nodes_seen s) path index (length bytes) ≡ None
  pub long : most_inline < length bytes
  pub spent : drawn12 s.ids ≡ None

-- the tree refuses the edit for this reason
abbrev pub FaultIs : Option EditFault → Refusal → Type 0
FaultIs refusal why = (fault : EditFault) × (refusal ≡ Some fault) × (why ≡ refusal_of_edit fault)

abbrev pub SetCause : ℕ → SessionState → (path index bytes : List ℕ) → List Event
    → Refusal → List Event → Type 0
SetCause client s path index bytes start ReadOnly journal = writes s ≡ false
SetCause client s path index bytes start IdsSpent journal = NeedsObject s path index bytes
SetCause client s path index bytes start (IdTaken key) journal =
    WasObjectTaken client s key bytes start journal
SetCause client s path index bytes start NoMemory journal = Unit {0}
SetCause client s path index bytes start why journal =
    FaultIs (set_refusal (nodes_seen s) path index (length bytes)) why

-- What the answer of a set of a chunk says of the journal, where the client had changed no
-- branch between `start` and the call.
abbrev pub SetTells : ℕ → SessionState → (path index bytes : List ℕ) → List Event
    → Result SessionState Refusal → List Event → Type 0
SetTells client s path index bytes start (Ok t) journal =
    WasSet client s path index bytes t start journal × ChangedNothing client start journal
SetTells client s path index bytes start (Err StoreFault) journal =
    WasFailed client (IsOfSet s bytes) start journal
SetTells client s path index bytes start (Err why) journal =
    SetCause client s path index bytes start why journal × ChangedNothing client start journal

-- ---- a chunk that was read
-- the chunk has these bytes, or isn't held
abbrev pub value_of : Value → Option (List ℕ)
value_of (Bytes bytes) = Some bytes
value_of Fill = None

-- Whatever more is put, and whatever others do: the read answered the chunk of the session's base
-- under its own changes. (Where nodes that stay keep the parts of their metadata that stay, as
-- those do of a session in which no node id was drawn twice.)
abbrev pub IsChunk : SessionState → (path index : List ℕ) → Value → List Event → Type 0
IsChunk s path index value journal =
    IsOnce journal → (puts : Puts) → Extends (puts_of journal) puts → KeepsFrozen s.held s.rows
    → (overlay puts s).chunk path index ≡ value_of value

-- the client's own get of a manifest that the base names was answered with one
-- that has the chunk at this place
pub record WasToldPlace (client : ℕ) (s : SessionState) (index : List ℕ) (at : ChunkAt)
    (place : Place) (start journal : List Event) : Type 0 where
  pub manifest : Id12
  pub named : NamesManifest s.rows manifest
  pub bytes : List ℕ
  pub version : ℕ
  pub got : WasGot client (Manifest manifest) bytes version start journal
  pub file : ManifestFile
  pub read : manifest_by manifest bytes ≡ Some file
  pub has : entry_of at.node index file ≡ Some place

-- The session's own entry tells that the chunk is in this part of an
-- object, or such a manifest does.
pub record IsPartOf (client : ℕ) (s : SessionState) (path index : List ℕ) (at : ChunkAt) (id : Id12)
    (offset size : ℕ) (start journal : List Event) : Type 0 where
  pub found : chunk_found (nodes_seen s) path index ≡ Ok at
  pub told : (entry_in s.held.chunks at.node index ≡ Some (Some (Object id offset size)))
      ⊎ WasToldPlace client s index at (Object id offset size) start journal

-- the object that has the chunk, by the session's own entry or by a manifest
pub record HasItsChunk (client : ℕ) (s : SessionState) (path index : List ℕ) (id : Id12)
    (start journal : List Event) : Type 0 where
  pub at : ChunkAt
  pub offset : ℕ
  pub size : ℕ
  pub part : IsPartOf client s path index at id offset size start journal

-- the operations of a read: the get of a manifest that the base names, or of the object that the
-- session's own entry or a manifest tells
abbrev pub IsOfGet : ℕ → SessionState → (path index : List ℕ) → List Event
    → List Event → Op → Type 0
IsOfGet client s path index start journal op =
    ((manifest : Id12) × NamesManifest s.rows manifest × (op ≡ Get (Manifest manifest)))
    ⊎ ((id : Id12) × HasItsChunk client s path index id start journal × (op ≡ Get (Chunk id)))

-- the client's own get found nothing at a key that the read asked for
pub record WasNotThere (client : ℕ) (s : SessionState) (path index : List ℕ) (key : Key)
    (start journal : List Event) : Type 0 where
  pub of_get : IsOfGet client s path index start journal (Get key)
  pub absent : WasAbsent client key start journal

-- what a manifest itself has isn't as long as a chunk of the array
pub record HasUnfit (s : SessionState) (path index : List ℕ) (id : Id12) (bytes : List ℕ)
    (bad : Bad) : Type 0 where
  pub at : ChunkAt
  pub found : chunk_found (nodes_seen s) path index ≡ Ok at
  pub file : ManifestFile
  pub read : manifest_by id bytes ≡ Some file
  pub held : List ℕ
  pub has : entry_of at.node index file ≡ Some (Inline held)
  pub unfit : read_inline at.bytes held ≡ Err bad

-- the part of an object where the chunk is said to be isn't there, or isn't
-- as long as a chunk of the array
pub record IsUnfitPart (client : ℕ) (s : SessionState) (path index : List ℕ) (id : Id12)
    (bytes : List ℕ) (bad : Bad) (start journal : List Event) : Type 0 where
  pub at : ChunkAt
  pub offset : ℕ
  pub size : ℕ
  pub part : IsPartOf client s path index at id offset size start journal
  pub unfit : read_chunk at.bytes offset size bytes ≡ Err bad

-- what was got is no manifest of its id, or what a manifest or an object has isn't a
-- chunk of the array, for this cause
abbrev pub IsUnfit : ℕ → SessionState → (path index : List ℕ) → Key → List ℕ → Bad
    → List Event → List Event → Type 0
IsUnfit client s path index (Manifest id) bytes bad start journal = NamesManifest s.rows id
    × ((read_manifest id bytes ≡ Err bad) ⊎ HasUnfit s path index id bytes bad)
IsUnfit client s path index (Chunk id) bytes bad start journal =
    IsUnfitPart client s path index id bytes bad start journal
IsUnfit client s path index _ bytes bad start journal = ⊥

pub record WasUnfit (client : ℕ) (s : SessionState) (path index : List ℕ) (key : Key) (bad : Bad)
    (start journal : List Event) : Type 0 where
  pub bytes : List ℕ
  pub version : ℕ
  pub got : WasGot client key bytes version start journal
  pub unfit : IsUnfit client s path index key bytes bad start journal

abbrev pub FoundFault : Result ChunkAt EditFault → Refusal → Type 0
FoundFault found why = (fault : EditFault) × (found ≡ Err fault) × (why ≡ refusal_of_edit fault)

abbrev pub GetCause : ℕ → SessionState → (path index : List ℕ) → List Event
    → Refusal → List Event → Type 0
GetCause client s path index start (Missing key) journal =
    WasNotThere client s path index key start journal
GetCause client s path index start (BadFile key bad) journal =
    WasUnfit client s path index key bad start journal
GetCause client s path index start NoMemory journal = Unit {0}
GetCause client s path index start why journal =
    FoundFault (chunk_found (nodes_seen s) path index) why

-- What the answer of a read of a chunk says of the journal, where the client had changed no
-- branch between `start` and the call.
abbrev pub GetTells : ℕ → SessionState → (path index : List ℕ) → List Event
    → Result Value Refusal → List Event → Type 0
GetTells client s path index start (Ok value) journal =
    IsChunk s path index value journal × ChangedNothing client start journal
GetTells client s path index start (Err StoreFault) journal =
    WasFailed client (IsOfGet client s path index start journal) start journal
GetTells client s path index start (Err why) journal =
    GetCause client s path index start why journal × ChangedNothing client start journal
