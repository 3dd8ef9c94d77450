-- What the outcome of a task that calls on refs says of the journal, in words that name no
-- machine and no program. (Own.)
use Rattle.std.specs.Prelude.{◌≡◌, ◌⊎◌, ℕ, List, [], ◌∷◌, ◌++◌, map, Result, Ok, Err}
use Rattle.object_store.specs.declared.keys.Key.{Key}
use Rattle.object_store.specs.declared.keys.Key.TheVariants.{Snapshot, Manifest, Txn, Chunk}
use Rattle.object_store.specs.declared.keys.Key.TheVariants.{Branch, Tag, Tombstone, Lease}
use Rattle.object_store.specs.declared.keys.Why.{Why}
use Rattle.object_store.specs.declared.keys.Why.TheVariants as why
use Rattle.object_store.specs.declared.events.Version.{Version}
use Rattle.object_store.specs.declared.events.Op.{Op}
use Rattle.object_store.specs.declared.events.Op.TheVariants.{Get, PutNew, PutOver, Remove}
use Rattle.object_store.specs.declared.events.Op.TheVariants.{RemoveAt, List as ListPart}
use Rattle.object_store.specs.declared.events.Event.{Event}
use Rattle.store_api.specs.declared.machines.Refusal.{Refusal}
use Rattle.store_api.specs.declared.machines.Refusal.TheVariants.{NoMemory}
use Rattle.store_api.specs.Program.{events_of}
use Rattle.store_api.specs.Telling.{MadeGets}
use Rattle.refs_admin.specs.declared.log.LogLine.{LogLine}
use Rattle.refs_admin.specs.BranchTelling.{BranchNewTells, BranchResetTells}
use Rattle.refs_admin.specs.BranchTelling.{BranchDropTells, WasCreated, WasReset, WasDropped}
use Rattle.refs_admin.specs.TagTelling.{TagNewTells, TagDropTells}
use Rattle.refs_admin.specs.TagTelling.{TagWasThere, WasTagPut, WasBuried}
use Rattle.refs_admin.specs.LogTelling.{LogTells}
use Rattle.script_calls.specs.declared.calls.RefCall.{RefCall}
use Rattle.script_calls.specs.declared.calls.RefCall.TheVariants as ref
use Rattle.script_calls.specs.declared.calls.Call.{Call}
use Rattle.script_calls.specs.declared.calls.Call.TheVariants as call
use Rattle.play_script.specs.declared.scripts.Line.{Line}
use Rattle.play_outcome.specs.declared.outcome.Shown.{Shown}
use Rattle.play_outcome.specs.declared.outcome.End.{End}
use Rattle.play_outcome.specs.declared.outcome.End.TheVariants.{Done, Refused}
use Rattle.play_outcome.specs.declared.outcome.Outcome.{Outcome}
use Rattle.play_refs.specs.Playing.{log_shown}

-- ---- what a client may do that calls on refs
-- it puts a new branch, a tag or a tombstone
abbrev pub OwesNewRef : Why → Key → Type 0
OwesNewRef w (Snapshot id) = ⊥
OwesNewRef w (Manifest id) = ⊥
OwesNewRef w (Txn id) = ⊥
OwesNewRef w (Chunk id) = ⊥
OwesNewRef w (Branch name) = w ≡ why.Create
OwesNewRef w (Tag name) = w ≡ why.Tag
OwesNewRef w (Tombstone name) = w ≡ why.Drop
OwesNewRef w (Lease id) = ⊥

-- it changes a branch that is there, for this reason
abbrev pub IsOfBranch : (for : Why) → Why → Key → Type 0
IsOfBranch for w (Snapshot id) = ⊥
IsOfBranch for w (Manifest id) = ⊥
IsOfBranch for w (Txn id) = ⊥
IsOfBranch for w (Chunk id) = ⊥
IsOfBranch for w (Branch name) = w ≡ for
IsOfBranch for w (Tag name) = ⊥
IsOfBranch for w (Tombstone name) = ⊥
IsOfBranch for w (Lease id) = ⊥

-- It gets anything; it makes, resets and drops branches, and makes and
-- drops tags. It puts no object.
abbrev pub OwesRefs : Op → Type 0
OwesRefs (Get key) = Unit {0}
OwesRefs (PutNew key bytes w) = OwesNewRef w key
OwesRefs (PutOver key bytes old w) = IsOfBranch why.Reset w key
OwesRefs (Remove key w) = ⊥
OwesRefs (RemoveAt key old w) = IsOfBranch why.Drop w key
OwesRefs (ListPart part) = ⊥

-- ---- calls
-- A call on refs in this line of the script was made, from `start` up
-- to `journal`, and showed this.
abbrev pub DidCall : ℕ → (line : ℕ) → RefCall → List Event → List Shown → List Event → Type 0
DidCall client line (ref.Branch name at) start shown journal =
    (shown ≡ []) × WasCreated client name at start journal
DidCall client line (ref.Reset name at) start shown journal =
    (shown ≡ []) × WasReset client name at start journal
DidCall client line (ref.Unbranch name) start shown journal =
    (shown ≡ []) × WasDropped client name start journal
DidCall client line (ref.Tag name at) start shown journal =
    (shown ≡ []) × WasTagPut client name at start journal
DidCall client line (ref.Untag name) start shown journal =
    (shown ≡ []) × WasBuried client name start journal
DidCall client line (ref.Log at) start shown journal =
    (lines : List LogLine) × (shown ≡ map (log_shown line) lines)
    × LogTells client at start (Ok lines) journal

-- it was refused, for this reason
abbrev pub RefusedCall : ℕ → RefCall → List Event → Refusal → List Event → Type 0
RefusedCall client (ref.Branch name at) start w journal =
    BranchNewTells client name at start (Err w) journal
RefusedCall client (ref.Reset name at) start w journal =
    BranchResetTells client name at start (Err w) journal
RefusedCall client (ref.Unbranch name) start w journal =
    BranchDropTells client name start (Err w) journal
RefusedCall client (ref.Tag name at) start w journal =
    TagNewTells client name at start (Err w) journal
RefusedCall client (ref.Untag name) start w journal = TagDropTells client name start (Err w) journal
RefusedCall client (ref.Log at) start w journal = LogTells client at start (Err w) journal

-- Memory was wanting in it when the client had made gets alone, or when the call had come
-- to an answer, which was lost; or, for a new tag, when its put had found the tag there.
-- Behind a put over nothing is lost.
abbrev pub StarvedCall : ℕ → RefCall → List Event → List Event → Type 0
StarvedCall client (ref.Branch name at) start journal =
    MadeGets client start journal
    ⊎ ((lost : Result (Unit {0}) Refusal) × BranchNewTells client name at start lost journal)
StarvedCall client (ref.Reset name at) start journal = MadeGets client start journal
StarvedCall client (ref.Unbranch name) start journal =
    MadeGets client start journal
    ⊎ ((lost : Result (Unit {0}) Refusal) × BranchDropTells client name start lost journal)
StarvedCall client (ref.Tag name at) start journal =
    MadeGets client start journal
    ⊎ (((lost : Result (Unit {0}) Refusal) × TagNewTells client name at start lost journal)
    ⊎ ((version : Version) × TagWasThere client name at version start journal))
StarvedCall client (ref.Untag name) start journal =
    MadeGets client start journal
    ⊎ ((lost : Result (Unit {0}) Refusal) × TagDropTells client name start lost journal)
StarvedCall client (ref.Log at) start journal = MadeGets client start journal

-- ---- the lines
-- a line was called, from `start` up to `journal`, and showed this; one that is
-- no call on refs is passed over
abbrev pub DidLine : ℕ → (line : ℕ) → Call → List Event → List Shown → List Event → Type 0
DidLine client line (call.Ref c) start shown journal = DidCall client line c start shown journal
DidLine client line (call.Edit edit) start shown journal = (shown ≡ []) × (journal ≡ start)
DidLine client line (call.Read read) start shown journal = (shown ≡ []) × (journal ≡ start)
DidLine client line (call.Commit message) start shown journal = (shown ≡ []) × (journal ≡ start)
DidLine client line (call.Prop name value) start shown journal = (shown ≡ []) × (journal ≡ start)
DidLine client line call.Lease start shown journal = (shown ≡ []) × (journal ≡ start)

-- it was refused, for this reason
abbrev pub RefusedLine : ℕ → Call → List Event → Refusal → List Event → Type 0
RefusedLine client (call.Ref c) start w journal = RefusedCall client c start w journal
RefusedLine client (call.Edit edit) start w journal = ⊥
RefusedLine client (call.Read read) start w journal = ⊥
RefusedLine client (call.Commit message) start w journal = ⊥
RefusedLine client (call.Prop name value) start w journal = ⊥
RefusedLine client call.Lease start w journal = ⊥

-- memory was wanting in it
abbrev pub StarvedLine : ℕ → Call → List Event → List Event → Type 0
StarvedLine client (call.Ref c) start journal = StarvedCall client c start journal
StarvedLine client (call.Edit edit) start journal = journal ≡ start
StarvedLine client (call.Read read) start journal = journal ≡ start
StarvedLine client (call.Commit message) start journal = journal ≡ start
StarvedLine client (call.Prop name value) start journal = journal ≡ start
StarvedLine client call.Lease start journal = journal ≡ start

-- These lines were called one after another, from `start` up to `journal`, each where the one
-- before it had ended; what they showed.
unfoldable pub CallsTold : ℕ → List Line → List Event → List Shown → List Event → Type 0
CallsTold client [] start shown journal = (shown ≡ []) × (journal ≡ start)
CallsTold client (l ∷ ls) start shown journal =
    (first more : List Shown) × (mid : List Event) × (shown ≡ first ++ more)
    × DidLine client l.number l.call start first mid × CallsTold client ls mid more journal

-- ---- the end
-- the client made no event from `there` on
pub record MadeNone (client : ℕ) (there journal : List Event) : Type 0 where
  pub more : List Event
  pub is : journal ≡ there ++ more
  pub none : events_of client more ≡ []

-- the line was called at `start`, and refused; the client made no event behind that
pub record WasRefusedAt (client : ℕ) (l : Line) (start : List Event) (end : End)
    (journal : List Event) : Type 0 where
  pub why : Refusal
  pub there : List Event
  pub tells : RefusedLine client l.call start why there
  pub end_is : end ≡ Refused l.number why
  pub behind : MadeNone client there journal

-- the line was called at `start`, and memory was wanting in it; the
-- client made no event behind that
pub record WasStarvedAt (client : ℕ) (l : Line) (start : List Event) (end : End)
    (journal : List Event) : Type 0 where
  pub there : List Event
  pub tells : StarvedLine client l.call start there
  pub end_is : end ≡ Refused l.number NoMemory
  pub behind : MadeNone client there journal

-- how a task ends at `start`, where these lines are left: at their end, or in the first of them
abbrev pub EndsAt : ℕ → List Line → List Event → End → List Event → Type 0
EndsAt client [] start end journal = (end ≡ Done) × MadeNone client start journal
EndsAt client (l ∷ ls) start end journal =
    WasRefusedAt client l start end journal ⊎ WasStarvedAt client l start end journal

-- ---- the outcome
-- What the outcome of a task with this body says of the journal, where the task began at `start`
-- and its client made no other events from there on: the first lines of the body were called one
-- after another, and showed what the task showed; with the lines that are left it ended.
pub record RefsTells (body : List Line) (client : ℕ) (start : List Event) (outcome : Outcome)
    (journal : List Event) : Type 0 where
  pub played : List Line
  pub left : List Line
  pub body_is : body ≡ played ++ left
  pub there : List Event
  pub calls : CallsTold client played start outcome.shown there
  pub ends : EndsAt client left there outcome.end journal
