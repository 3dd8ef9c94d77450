-- What a client puts itself: under which ids, and that its commits hold nothing else
-- but what their bases hold. (Own.)
use Rattle.std.specs.Prelude.{◌≡◌, ◌≢◌, ℕ, ◌<◌, List, ◌++◌}
use Rattle.std.specs.Prelude.{Option, Some, None, Result, Ok, Err, IfOk}
use Rattle.std.specs.Option.{option_and_then}
use Rattle.std.specs.Str.{IsUtf8}
use Rattle.ice_ids.specs.declared.Id8.{Id8}
use Rattle.ice_ids.specs.declared.Id12.{Id12}
use Rattle.ice_ids.specs.declared.drawing.AnyIds.{AnyIds}
use Rattle.ice_ids.specs.Drawing.{drawn12, left_of}
use Rattle.zarr_meta.specs.declared.faults.MetaFault.{MetaFault}
use Rattle.zarr_meta.specs.declared.views.MetaView.{MetaView}
use Rattle.zarr_tree.specs.Held.{HeldEntry, entry_in}
use Rattle.manifest_file.specs.declared.manifest.Place.{Place}
use Rattle.manifest_file.specs.declared.manifest.Place.TheVariants.{Object}
use Rattle.snapshot_file.specs.declared.snapshot.SnapshotFile.{SnapshotFile}
use Rattle.repo_objects.specs.Readings.{ref_of}
use Rattle.object_store.specs.declared.keys.Key.{Key}
use Rattle.object_store.specs.declared.keys.Key.TheVariants.{Snapshot, Manifest, Txn, Chunk}
use Rattle.object_store.specs.declared.keys.Key.TheVariants.{Branch, Tag, Tombstone, Lease}
use Rattle.object_store.specs.declared.keys.Why.{Why}
use Rattle.object_store.specs.declared.events.Op.{Op}
use Rattle.object_store.specs.declared.events.Op.TheVariants.{Get, PutNew, PutOver, Remove}
use Rattle.object_store.specs.declared.events.Op.TheVariants.{RemoveAt, List as ListPart}
use Rattle.object_store.specs.declared.events.Event.{Event}
use Rattle.store_api.specs.declared.machines.Refusal.{Refusal}
use Rattle.store_api.specs.Journal.{Each, WasPut, snap_made, IsOnce}
use Rattle.store_api.specs.Callers.{Caller, IsOther}
use Rattle.reach.specs.Own.{PutItself, IsOwn}
use Rattle.store_api.specs.Program.{Done, Keeps, Leads}
use Rattle.store_api.specs.Telling.{ChangedNothing}
use Rattle.session.specs.Sessions.{SessionState}
use Rattle.session.specs.Sources.{IsLater}
use Rattle.session.specs.Chunks.{set_program, chunk_unset}
use Rattle.session.specs.Editing.{added, meta_set, node_dropped, prop_added}
use Rattle.session.specs.Opening.{Asked, open_program}
use Rattle.commit_path.specs.declared.commit.Tried.{Tried}
use Rattle.commit_path.specs.declared.commit.Tried.TheVariants.{Done as Was_done, Lost}
use Rattle.commit_path.specs.Committing.{commit_program}
use Rattle.commit_path.specs.Opened.{IsOpened}
use Rattle.commit_path.specs.Spelled.{IsSpelled}

-- ---- own puts
-- the client itself put the objects of the chunks that were set
abbrev pub OwnsChunks : ℕ → List (HeldEntry Place) → List Event → List Event → Type 0
OwnsChunks client entries start journal =
    (node : Id8) (i : List ℕ) (id : Id12) (offset size : ℕ)
    → entry_in entries node i ≡ Some (Some (Object id offset size))
    → PutItself client (Chunk id) start journal

-- ---- commits of one's own
-- the parent that a snapshot first named
abbrev pub parent_made : List Event → Id12 → Option Id12
parent_made journal id = option_and_then (λ (s : SnapshotFile). s.parent) (snap_made journal id)

-- These bytes are a reference to a snapshot that the client put itself. Where nothing is
-- put again, the snapshot was made over this base, and whatever it holds, the base
-- holds, or the client put it itself.
pub record IsOwnCommit (client : ℕ) (bytes : List ℕ) (start journal : List Event) : Type 0 where
  pub id : Id12
  pub names : ref_of bytes ≡ Some id
  pub put : PutItself client (Snapshot id) start journal
  pub base : Id12
  pub base_put : WasPut journal (Snapshot base)
  pub parent : IsOnce journal → parent_made journal id ≡ Some base
  pub own : IsOnce journal → IsOwn client base id start journal

-- ---- ids of own puts
-- from where it stands, the source draws no object id twice
abbrev pub DrawsOnceOf : AnyIds → Type 0
DrawsOnceOf ids =
    (a b : AnyIds) (id : Id12) → IsLater ids a → IsLater ids b → drawn12 a ≡ Some id
    → drawn12 b ≡ Some id → left_of a ≡ left_of b

-- the id under which a key has an object
abbrev pub id_of : Key → Option Id12
id_of (Snapshot id) = Some id
id_of (Manifest id) = Some id
id_of (Txn id) = Some id
id_of (Chunk id) = Some id
id_of (Branch name) = None
id_of (Tag name) = None
id_of (Tombstone name) = None
id_of (Lease id) = Some id

-- on its way from the first of these to the second, the source drew the id
pub record WasDrawn (ids now : AnyIds) (id : Id12) : Type 0 where
  pub at : AnyIds
  pub later : IsLater ids at
  pub earlier : IsLater at now
  pub spent : left_of now < left_of at
  pub drawn : drawn12 at ≡ Some id

-- the event isn't the client's, or each object that it puts new, done or
-- not, is under an id that was drawn
abbrev pub PutsDrawn : (ids now : AnyIds) → ℕ → List Event → Event → Type 0
PutsDrawn ids now client before event =
    event.client ≡ client → (key : Key) (bytes : List ℕ) (why : Why) (id : Id12)
    → event.op ≡ PutNew key bytes why → id_of key ≡ Some id → WasDrawn ids now id

-- From `start` on, the client put objects under ids alone that were drawn.
pub record HasPutDrawn (ids now : AnyIds) (client : ℕ) (start journal : List Event) : Type 0 where
  pub more : List Event
  pub is : journal ≡ start ++ more
  pub each : Each (PutsDrawn ids now client) start more

-- the event isn't the client's, or puts nothing new at the key
abbrev pub PutsElsewhere : Key → ℕ → List Event → Event → Type 0
PutsElsewhere key client before event =
    event.client ≡ client → (bytes : List ℕ) (why : Why) → event.op ≢ PutNew key bytes why

-- From `start` on, the client put nothing new at the key.
pub record HasNotPut (key : Key) (client : ℕ) (start journal : List Event) : Type 0 where
  pub more : List Event
  pub is : journal ≡ start ++ more
  pub each : Each (PutsElsewhere key client) start more

-- ---- what is owed of own puts
-- A client that commits sessions puts an object where it put none since `start`, if its source
-- draws no id twice; and puts a branch over with a commit of its own.
abbrev pub OwesOwn : AnyIds → ℕ → List Event → Op → List Event → Type 0
OwesOwn ids client start (Get key) journal = Unit {0}
OwesOwn ids client start (ListPart part) journal = Unit {0}
OwesOwn ids client start (PutNew key bytes why) journal =
    DrawsOnceOf ids → HasNotPut key client start journal
OwesOwn ids client start (PutOver key bytes old why) journal =
    IsOwnCommit client bytes start journal
OwesOwn ids client start (Remove key why) journal = Unit {0}
OwesOwn ids client start (RemoveAt key old why) journal = Unit {0}

-- What a client's session knows of the client's own puts since `start`: the client put
-- the objects of its chunks itself, and it put objects under ids alone that its source
-- drew before the session's own.
pub record Owns (ids : AnyIds) (client : ℕ) (s : SessionState)
    (start journal : List Event) : Type 0 where
  pub chunks : OwnsChunks client s.held.chunks start journal
  pub drawn : HasPutDrawn ids s.ids client start journal

-- a commit that was lost leaves the session so, with the ids that are to be drawn next
abbrev pub OwnsNext : AnyIds → ℕ → SessionState → List Event
    → Result Tried Refusal → List Event → Type 0
OwnsNext ids client s start (Ok (Lost old found next)) journal =
    Owns ids client (record s { ids = next }) start journal
OwnsNext ids client s start (Ok (Was_done made)) journal = Unit {0}
OwnsNext ids client s start (Err why) journal = Unit {0}

-- Whatever others do, a client that put no object owns what it opens; what it owns it owns when
-- nodes are added, changed or dropped, when chunks are set in the session or unset, and when
-- properties are added; and each operation of a commit is owed so, which leaves what is owned.
pub record OwningLaw : Type 0 where
  pub opens : (by : Caller) (ids : AnyIds) (a : Asked) (start journal : List Event)
      → HasPutDrawn ids a.ids by.number start journal
      → Keeps (λ h client op. OwesOwn ids client start op h) by (open_program a) journal
      × Leads (λ answer h. IfOk answer (λ s. Owns ids by.number s start h))
      by (open_program a) journal
  pub adds : (ids : AnyIds) (client : ℕ) (fault : Result MetaView MetaFault → Option MetaFault)
      (s t : SessionState) (path text : List ℕ) (id : Id8) (start journal : List Event)
      → added fault s path text ≡ Ok (id, t) → Owns ids client s start journal
      → Owns ids client t start journal
  pub texts : (ids : AnyIds) (client : ℕ) (s t : SessionState)
      (path text : List ℕ) (start journal : List Event)
      → meta_set s path text ≡ Ok t → Owns ids client s start journal
      → Owns ids client t start journal
  pub drops : (ids : AnyIds) (client : ℕ) (s t : SessionState)
      (path : List ℕ) (start journal : List Event)
      → node_dropped s path ≡ Ok t → Owns ids client s start journal
      → Owns ids client t start journal
  pub sets : (ids : AnyIds) (client : ℕ) (s t : SessionState)
      (path index bytes : List ℕ) (start journal : List Event)
      → set_program s path index bytes ≡ Done (Ok t) → Owns ids client s start journal
      → Owns ids client t start journal
  pub unsets : (ids : AnyIds) (client : ℕ) (s t : SessionState)
      (path index : List ℕ) (start journal : List Event)
      → chunk_unset s path index ≡ Ok t → Owns ids client s start journal
      → Owns ids client t start journal
  pub props : (ids : AnyIds) (client : ℕ) (s t : SessionState)
      (name value : List ℕ) (start journal : List Event)
      → prop_added s name value ≡ Ok t → Owns ids client s start journal
      → Owns ids client t start journal
  pub kept : (by : Caller) (ids : AnyIds) (s : SessionState) (start journal more : List Event)
      → Each (IsOther by) journal more → Owns ids by.number s start journal
      → Owns ids by.number s start (journal ++ more)
  pub commits : (by : Caller) (ids : AnyIds) (s : SessionState)
      (message : List ℕ) (start journal : List Event)
      → IsLater ids s.ids → IsUtf8 message → IsSpelled s → IsOpened s journal
      → ChangedNothing by.number start journal → Owns ids by.number s start journal
      → Keeps (λ h client op. OwesOwn ids client start op h) by (commit_program s message) journal
      × Leads (OwnsNext ids by.number s start) by (commit_program s message) journal
