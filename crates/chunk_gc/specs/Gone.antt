-- What became of the keys that a collection answers for, in a journal (own).
use Rattle.std.specs.Prelude.{◌≡◌, ℕ, ◌<◌, List, [], ◌∷◌, ◌++◌, length, Contains, Some, None}
use Rattle.object_store.specs.declared.keys.Key.{Key}
use Rattle.object_store.specs.declared.keys.Part.{Part}
use Rattle.object_store.specs.declared.events.Entry.{Entry}
use Rattle.object_store.specs.declared.events.Op.TheVariants.{List as ListPart}
use Rattle.object_store.specs.declared.events.Listed.{Listed}
use Rattle.object_store.specs.declared.events.Reply.TheVariants.{Listed as Is_listed}
use Rattle.object_store.specs.declared.events.Event.{Event}
use Rattle.object_store.specs.Machine.{Stored, found}
use Rattle.store_api.specs.Journal.{Each, IsGood}
use Rattle.store_api.specs.Telling.{HasOwn}
use Rattle.collecting.specs.Walks.{Doomed}
use Rattle.collecting.specs.Runs.{OwesCollecting, walk_of}
use Rattle.chunk_gc.specs.Exact.{IsSwept}

-- the client's own listing of a part has the key, and it stood then
pub record WasListed (client : ℕ) (key : Key) (start journal : List Event) : Type 0 where
  pub part : Part
  pub reply : Listed
  pub own : HasOwn client (ListPart part) (Is_listed reply) start journal
  pub entry : Entry
  pub has : Contains reply.entries entry
  pub key_is : entry.key ≡ key
  pub there : Stored
  pub stood : found own.before key ≡ Some there

-- ... and behind that an event, of whomever, removed it
pub record WasRemoved (client : ℕ) (key : Key) (start journal : List Event) : Type 0 where
  pub listed : WasListed client key start journal
  pub before : List Event
  pub event : Event
  pub after : List Event
  pub is : journal ≡ before ++ event ∷ after
  pub later : length listed.own.before < length before
  pub there : Stored
  pub stood : found before key ≡ Some there
  pub gone : found (before ++ event ∷ []) key ≡ None

-- In a legal journal in which the client made what a collection may, and which ends as
-- one that ended well does, each key of what is doomed was removed, by whomever, behind
-- the client's listing that has it.
abbrev pub GoneLaw : Type 0
GoneLaw =
    (cutoff client : ℕ) (start more : List Event) → Each IsGood start more
    → Each (OwesCollecting cutoff client start) start more
    → IsSwept cutoff (walk_of cutoff client start (start ++ more)) → (key : Key)
    → Doomed cutoff (walk_of cutoff client start (start ++ more)) key
    → WasRemoved client key start (start ++ more)
