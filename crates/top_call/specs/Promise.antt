-- What the top call promises of a script that it played.
use Rattle.std.specs.Prelude.{◌≡◌, ◌⊎◌, ℕ, List, [], length, Result, Ok, Err, IsTrue}
use Rattle.ice_base.specs.Ends.{InputAt, OutputAt}
use Rattle.ice_ids.specs.declared.drawing.Draw.{Draw}
use Rattle.zarr_tree.specs.Changes.{Changes}
use Rattle.object_store.specs.declared.events.Event.{Event}
use Rattle.store_api.specs.declared.machines.Refusal.{Refusal}
use Rattle.store_api.specs.Callers.{View}
use Rattle.store_api.specs.Journal.{tree_of}
use Rattle.histories.specs.Files.{Files}
use Rattle.histories.specs.Formats.{files_by}
use Rattle.play_script.specs.declared.scripts.Script.{Script}
use Rattle.play_script.specs.declared.scripts.Task.{Task}
use Rattle.play_outcome.specs.declared.outcome.Outcome.{Outcome}
use Rattle.play_outcome.specs.declared.outcome.RefLine.{RefLine}
use Rattle.play_course.specs.Course.{OnlyBegan}
use Rattle.run_histories.specs.Sources.{IsNewRun}
use Rattle.run_histories.specs.Runs.{IsSound}
use Rattle.run_histories.specs.Keeping.{KeepsNeeded}
use Rattle.play_course.specs.Promise.{Fulfils}
use Rattle.command_words.specs.declared.reading.Command.{Command}
use Rattle.command_words.specs.declared.reading.Command.TheVariants as C
use Rattle.top_call.specs.declared.statuses.Status.{Status}
use Rattle.top_call.specs.declared.statuses.Status.TheVariants as S
use Rattle.top_call.specs.Run.{HasScript}
use Rattle.top_call.specs.Telling.{IsText, refusals, Told}

-- what a call reads, acts on and writes to
pub record World : Type 0 where
  pub input : InputAt
  pub store : View
  pub out : OutputAt

-- there is an outcome of each task; where the repository couldn't be begun none was played
abbrev pub AreComplete : Result (Unit {0}) Refusal → List Task → List Outcome → Type 0
AreComplete (Ok done) tasks outcomes = length outcomes ≡ length tasks
AreComplete (Err why) tasks outcomes = outcomes ≡ []

-- The tasks began at some moment, and ended with these outcomes; each branch's updates form one
-- list, each commit that took effect is its session's solved changes on the entry before it,
-- each read sees its session's base under the session's own changes, each task ends as it tells,
-- and so do the refs. This was told: the report, or the line of a grown script, and the status
-- of the first cause that holds.
pub record Promise (files : Files) (command : Command) (script : Script) (a b : World)
    (status : Status) : Type 0 where
  pub opening : Result (Unit {0}) Refusal
  pub outcomes : List Outcome
  pub refs : Result (List RefLine) Refusal
  pub complete : AreComplete opening script.tasks outcomes
  pub changes : ℕ → Changes
  pub start : List Event
  pub keeps : Fulfils files script.tasks outcomes refs changes a.store.seen start b.store.seen
  pub told : Told (IsText command script a.store b.store opening outcomes refs)
      (refusals opening outcomes refs) a.out b.out status

-- The tasks began at some moment, and ended with these outcomes; what their collections doom and
-- remove, no ref and no anchored session reaches, as long as each cutoff precedes the sessions that
-- commit beside it, and it is quiet. This was told, as in the promise.
pub record Spares (draw : Draw) (command : Command) (script : Script) (a b : World)
    (status : Status) : Type 0 where
  pub opening : Result (Unit {0}) Refusal
  pub outcomes : List Outcome
  pub refs : Result (List RefLine) Refusal
  pub complete : AreComplete opening script.tasks outcomes
  pub start : List Event
  pub needed : KeepsNeeded draw script.tasks outcomes a.store.seen start b.store.seen
  pub told : Told (IsText command script a.store b.store opening outcomes refs)
      (refusals opening outcomes refs) a.out b.out status

-- ---- when it is promised
-- a script was played, and what came of it was told
abbrev pub HasPlayed : Command → Status → Type 0
HasPlayed C.Play S.Ok = Unit {0}
HasPlayed C.Play S.Refused = Unit {0}
HasPlayed C.Play S.StoreFault = Unit {0}
HasPlayed C.Play S.WriteFault = Unit {0}
HasPlayed (C.Cells box) S.Ok = Unit {0}
HasPlayed (C.Cells box) S.Refused = Unit {0}
HasPlayed (C.Cells box) S.StoreFault = Unit {0}
HasPlayed (C.Cells box) S.WriteFault = Unit {0}
HasPlayed (C.Grow tasks) S.Ok = Unit {0}
HasPlayed (C.Grow tasks) S.Refused = Unit {0}
HasPlayed (C.Grow tasks) S.StoreFault = Unit {0}
HasPlayed (C.Grow tasks) S.WriteFault = Unit {0}
HasPlayed command status = ⊥

-- no task was played: nothing was written, and the repository was begun at most
pub record WasUnplayed (a b : World) : Type 0 where
  pub out : b.out ≡ a.out
  pub store : (b.store ≡ a.store) ⊎ OnlyBegan a.store b.store

-- Where it was, this is promised; and so it is where memory was wanting, unless no task was played.
-- Of `check`, which plays no script, nothing is.
abbrev pub WherePlayed : Command → World → World → Status → Type 0 → Type 0
WherePlayed C.Check a b status P = Unit {0}
WherePlayed command a b S.NoMemory P = WasUnplayed a b ⊎ P
WherePlayed command a b status P = HasPlayed command status → P

-- a script that was read, and what is promised of it
pub record Played (P : Script → Type 0) (command : Command) (a b : World) : Type 0 where
  pub script : Script
  pub reads : HasScript command a.input b.input script
  pub promise : P script

-- by the formats of the repository
abbrev pub Promised : Command → World → World → Status → Script → Type 0
Promised command a b status script =
    Promise (files_by (tree_of b.store.seen)) command script a b status

-- over a store that tells its journal, where that is sound and the clients' ids are new to it
abbrev pub OverSound : Draw → Command → World → World → Status → Script → Type 0
OverSound draw command a b status script =
    (before : ℕ → Changes) → IsSound a.store.seen before → IsNewRun draw script.tasks a.store.seen
    → Promised command a b status script

abbrev pub KeepsSound : Draw → Command → World → World → Status → Type 0
KeepsSound draw command a b status =
    WherePlayed command a b status
    (IsTrue a.store.caller.tells → Played (OverSound draw command a b status) command a b)

-- over an empty store, where ids are drawn by counting: with no premise
abbrev pub KeepsOwn : Draw → Command → World → World → Status → Type 0
KeepsOwn draw command a b status =
    WherePlayed command a b status
    (draw ≡ Draw.Count → IsTrue a.store.caller.tells → a.store.seen ≡ []
    → Played (Promised command a b status) command a b)

-- ---- when collections spare what is needed
-- over a store that tells its journal, where that is sound and the clients' ids are new to it
abbrev pub SparesOver : Draw → Command → World → World → Status → Script → Type 0
SparesOver draw command a b status script =
    (before : ℕ → Changes) → IsSound a.store.seen before → IsNewRun draw script.tasks a.store.seen
    → Spares draw command script a b status

abbrev pub SparesSound : Draw → Command → World → World → Status → Type 0
SparesSound draw command a b status =
    WherePlayed command a b status
    (IsTrue a.store.caller.tells → Played (SparesOver draw command a b status) command a b)

-- over an empty store, where ids are drawn by counting: with no premise
abbrev pub SparesOwn : Draw → Command → World → World → Status → Type 0
SparesOwn draw command a b status =
    WherePlayed command a b status
    (draw ≡ Draw.Count → IsTrue a.store.caller.tells → a.store.seen ≡ []
    → Played (λ (script : Script). Spares draw command script a b status) command a b)
