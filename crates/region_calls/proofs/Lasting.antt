-- What answers of sets and reads tell stays so, whatever others do.
use Rattle.std.proofs.Common.{◌≡◌, ◌⊎◌, ◌≤◌, inl, inr, ℕ, List, ◌++◌, length}
use Rattle.std.specs.Prelude.{Result, Ok, Err}
use Rattle.ice_ids.specs.declared.Id12.{Id12}
use Rattle.zarr_changes.specs.declared.chunks.ChunkAt.{ChunkAt}
use Rattle.manifest_file.specs.declared.manifest.Place.{Place}
use Rattle.manifest_file.specs.declared.manifest.Place.TheVariants.{Inline, Object}
use Rattle.repo_objects.specs.declared.bad_objects.Bad.{Bad}
use Rattle.repo_objects.specs.Trees.{Puts}
use Rattle.changed_snapshot.specs.Laws.{KeepsFrozen}
use Rattle.object_store.specs.declared.keys.Key.{Key}
use Rattle.object_store.specs.declared.keys.Key.TheVariants.{Manifest, Chunk}
use Rattle.object_store.specs.declared.keys.Why.TheVariants.{Set}
use Rattle.object_store.specs.declared.events.Op.{Op}
use Rattle.object_store.specs.declared.events.Op.TheVariants.{Get, PutNew}
use Rattle.object_store.specs.declared.events.New.TheVariants.{Done as New_done, Present}
use Rattle.object_store.specs.declared.events.Reply.TheVariants.{New as Is_new}
use Rattle.object_store.specs.declared.events.Event.{Event}
use Rattle.store_api.specs.declared.machines.Refusal.{Refusal}
use Rattle.store_api.specs.declared.machines.Refusal.TheVariants as R
use Rattle.store_api.specs.Journal.{Each, IsGood}
use Rattle.store_api.specs.Callers.{Caller, IsOther}
use Rattle.store_api.proofs.Programs.{good-waits}
use Rattle.session.specs.declared.chunks.Value.{Value}
use Rattle.session.specs.Sessions.{SessionState, overlay}
use Rattle.session.specs.Chunks.{most_inline, with_chunk}
use Rattle.store_api.proofs.Happening.{ChangedNothing-others, HasOwn-append, WasGot-append, WasAbsent-append}
use Rattle.commit_path.proofs.Lasting.{failed-others}
use Rattle.region_calls.specs.ChunkTold.{WasPutOut, WasSet, WasObjectTaken, IsOfSet, SetCause, SetTells, value_of, IsChunk, WasToldPlace, IsPartOf, IsOfGet, WasNotThere, IsUnfit, WasUnfit, GetCause, GetTells}
use Rattle.region_calls.specs.ChunkLaws.{TellsLaw}
use Rattle.region_calls.proofs.Growing.{Surely-append}

-- ---- a set
module _ (client : ℕ) (s : SessionState) (path index bytes : List ℕ) (start journal more : List Event) where
  abbrev IsShort : SessionState → Type 0
  IsShort t = (length bytes ≤ most_inline) × (t ≡ with_chunk s path index (Inline bytes))

  out-append : (t : SessionState) → IsShort t ⊎ WasPutOut client s path index bytes t start journal → IsShort t ⊎ WasPutOut client s path index bytes t start (journal ++ more)
  out-append t (inl short) = inl short
  out-append t (inr o) = inr (record {
    long = o.long;
    id = o.id;
    drawn = o.drawn;
    put = record { version = o.put.version; now = o.put.now; own = HasOwn-append client (PutNew (Chunk o.id) bytes Set) (Is_new (New_done o.put.version o.put.now)) start journal more o.put.own };
    is = o.is;
  })

  -- so it is of the client's own events
  pub WasSet-append : (t : SessionState) → WasSet client s path index bytes t start journal → WasSet client s path index bytes t start (journal ++ more)
  WasSet-append t x = record { writes = x.writes; taken = x.taken; is = out-append t x.is }

  taken-append : (key : Key) → WasObjectTaken client s key bytes start journal → WasObjectTaken client s key bytes start (journal ++ more)
  taken-append key x = record {
    id = x.id;
    drawn = x.drawn;
    key_is = x.key_is;
    version = x.version;
    now = x.now;
    own = HasOwn-append client (PutNew (Chunk x.id) bytes Set) (Is_new (Present x.version x.now)) start journal more x.own;
    there = x.there;
  }

  refused-append : (why : Refusal) → SetCause client s path index bytes start why journal → SetCause client s path index bytes start why (journal ++ more)
  refused-append R.ReadOnly x = x
  refused-append R.IdsSpent x = x
  refused-append (R.IdTaken key) x = taken-append key x
  refused-append R.NoMemory x = x
  refused-append _ x = x

-- ---- a read
module _ (client : ℕ) (s : SessionState) (path index : List ℕ) (start journal more : List Event) where
  told-append : (at : ChunkAt) (place : Place) → WasToldPlace client s index at place start journal → WasToldPlace client s index at place start (journal ++ more)
  told-append at place x = record { manifest = x.manifest; named = x.named; bytes = x.bytes; version = x.version; got = WasGot-append client (Manifest x.manifest) x.bytes x.version start journal more x.got; file = x.file; read = x.read; has = x.has }

  -- so it is of where the chunk is said to be
  pub part-append : (at : ChunkAt) (id : Id12) (offset size : ℕ) → IsPartOf client s path index at id offset size start journal → IsPartOf client s path index at id offset size start (journal ++ more)
  part-append at id offset size x = record {
    found = x.found;
    told = elim x.told [
      | inl own ↦ inl own
      | inr manifest ↦ inr (told-append at (Object id offset size) manifest)
    ];
  }

  get-append : (op : Op) → IsOfGet client s path index start journal op → IsOfGet client s path index start (journal ++ more) op
  get-append op (inl x) = inl x
  get-append op (inr x) = inr (x.0, record { at = x.1.at; offset = x.1.offset; size = x.1.size; part = part-append x.1.at x.0 x.1.offset x.1.size x.1.part }, x.2)

  missing-append : (key : Key) → WasNotThere client s path index key start journal → WasNotThere client s path index key start (journal ++ more)
  missing-append key x = record { of_get = get-append (Get key) x.of_get; absent = WasAbsent-append client key start journal more x.absent }

  fit-append : (key : Key) (bytes : List ℕ) (bad : Bad) → IsUnfit client s path index key bytes bad start journal → IsUnfit client s path index key bytes bad start (journal ++ more)
  fit-append (Manifest id) bytes bad x = x
  fit-append (Chunk id) bytes bad x = record { at = x.at; offset = x.offset; size = x.size; part = part-append x.at id x.offset x.size x.part; unfit = x.unfit }
  fit-append _ bytes bad x = absurd x

  unfit-append : (key : Key) (bad : Bad) → WasUnfit client s path index key bad start journal → WasUnfit client s path index key bad start (journal ++ more)
  unfit-append key bad x = record { bytes = x.bytes; version = x.version; got = WasGot-append client key x.bytes x.version start journal more x.got; unfit = fit-append key x.bytes bad x.unfit }

  unread-append : (why : Refusal) → GetCause client s path index start why journal → GetCause client s path index start why (journal ++ more)
  unread-append (R.Missing key) x = missing-append key x
  unread-append (R.BadFile key bad) x = unfit-append key bad x
  unread-append R.NoMemory x = x
  unread-append _ x = x

-- the chunk that was read stays what was read, whatever good events come, the client's own as well
pub IsChunk-append : (s : SessionState) (path index : List ℕ) (value : Value) (journal more : List Event) → Each IsGood journal more → IsChunk s path index value journal → IsChunk s path index value (journal ++ more)
IsChunk-append s path index value journal more g x = Surely-append (λ (puts : Puts). KeepsFrozen s.held s.rows → (overlay puts s).chunk path index ≡ value_of value) journal more g x

-- ---- answers
module _ (by : Caller) (s : SessionState) (path index : List ℕ) (start journal more : List Event) (others : Each (IsOther by) journal more) where
  sets-others : (bytes : List ℕ) (answer : Result SessionState Refusal) → SetTells by.number s path index bytes start answer journal → SetTells by.number s path index bytes start answer (journal ++ more)
  sets-others bytes (Ok t) x = (WasSet-append by.number s path index bytes start journal more t x.0, ChangedNothing-others by start journal more others x.1)
  sets-others bytes (Err R.StoreFault) x = failed-others by start journal more others (IsOfSet s bytes) x
  sets-others bytes (Err why) x = (refused-append by.number s path index bytes start journal more why x.0, ChangedNothing-others by start journal more others x.1)

  gets-others : (answer : Result Value Refusal) → GetTells by.number s path index start answer journal → GetTells by.number s path index start answer (journal ++ more)
  gets-others (Ok value) x = (IsChunk-append s path index value journal more (good-waits by journal more others) x.0, ChangedNothing-others by start journal more others x.1)
  gets-others (Err R.StoreFault) x =
      let f = failed-others by start journal more others (IsOfGet by.number s path index start journal) x in
      record { op = f.op; of_kind = get-append by.number s path index start journal more f.op f.of_kind; done = f.done; own = f.own; once = f.once }
  gets-others (Err why) x = (unread-append by.number s path index start journal more why x.0, ChangedNothing-others by start journal more others x.1)

pub tells-law : TellsLaw
tells-law = record {
  sets = λ by s path index bytes answer start journal more others. sets-others by s path index start journal more others bytes answer;
  gets = λ by s path index answer start journal more others. gets-others by s path index start journal more others answer;
}
