-- What was played, all in one, as the contracts of the code's own functions say it;
-- no public contract cites this.
use Rattle.std.specs.Prelude.{◌≡◌, ◌⊎◌, ℕ, List, Result, IsTrue}
use Rattle.ice_base.specs.Ends.{InputAt, OutputAt}
use Rattle.ice_ids.specs.declared.drawing.Draw.{Draw}
use Rattle.zarr_tree.specs.Changes.{Changes}
use Rattle.object_store.specs.declared.events.Event.{Event}
use Rattle.store_api.specs.declared.machines.Refusal.{Refusal}
use Rattle.store_api.specs.Callers.{View}
use Rattle.play_script.specs.declared.scripts.Script.{Script}
use Rattle.play_outcome.specs.declared.outcome.Outcome.{Outcome}
use Rattle.play_outcome.specs.declared.outcome.RefLine.{RefLine}
use Rattle.run_histories.specs.Sources.{IsNewRun}
use Rattle.run_histories.specs.Runs.{IsSound}
use Rattle.run_histories.specs.Told.{HasHistories}
use Rattle.play_course.specs.Course.{Course, OnlyBegan}
use Rattle.play_course.specs.Leaving.{KeepsRefs}
use Rattle.command_words.specs.declared.reading.Command.{Command}
use Rattle.command_words.specs.declared.reading.Command.TheVariants as C
use Rattle.command_words.specs.Help.{help_of, version_line}
use Rattle.top_call.specs.declared.statuses.Status.{Status}
use Rattle.top_call.specs.declared.statuses.Status.TheVariants as S
use Rattle.top_call.specs.Telling.{IsText, Told, KeepsAll, IsRegular, refusals}
use Rattle.top_call.specs.Run.{HasScript, HasFailed, HasFault, IsUntouched, Says}
use Rattle.top_call.specs.Check.{Checks, StaysSound}

-- where the store tells its journal, and that is sound and the clients' ids are new to it, a run
-- keeps the histories, and the refs that it tells are their ends
abbrev pub KeepsHistories : Draw → Script → View → View → Result (List RefLine) Refusal → Type 0
KeepsHistories draw script old new refs =
    IsTrue old.caller.tells → (before : ℕ → Changes)
    → IsSound old.seen before → IsNewRun draw script.tasks old.seen
    → KeepsRefs draw script.tasks before old.seen new.seen refs

-- the same of the histories alone, where no refs are told
abbrev pub KeepsBranches : Draw → Script → View → View → Type 0
KeepsBranches draw script old new =
    IsTrue old.caller.tells → (before : ℕ → Changes)
    → IsSound old.seen before → IsNewRun draw script.tasks old.seen
    → (start : List Event) × HasHistories draw script.tasks before old.seen start new.seen

-- Memory ran out before the first task: nothing was written, and the repository was begun at most.
pub record WasUntold (draw : Draw) (script : Script) (store_old store_new : View)
    (out_old out_new : OutputAt) : Type 0 where
  pub out : out_new ≡ out_old
  pub began : OnlyBegan store_old store_new
  pub histories : KeepsBranches draw script store_old store_new

-- What was played by a command, and what was told of it: all tasks have ended, with these outcomes.
pub record WasPlayed (command : Command) (draw : Draw) (script : Script)
    (store_old store_new : View) (out_old out_new : OutputAt) (status : Status) : Type 0 where
  pub opening : Result (Unit {0}) Refusal
  pub outcomes : List Outcome
  pub refs : Result (List RefLine) Refusal
  pub course : Course draw script store_old store_new opening outcomes refs
  pub promise : KeepsAll draw script store_old course.begun store_new outcomes refs
  pub histories : KeepsHistories draw script store_old store_new refs
  pub regular : IsRegular draw script store_old opening outcomes refs
  pub told : Told (IsText command script store_old store_new opening outcomes refs)
      (refusals opening outcomes refs) out_old out_new status

-- ---- what each status says of a command that plays
-- it prints the report
abbrev pub IsReported : Command → Type 0
IsReported (C.Grow tasks) = ⊥
IsReported command = Unit {0}

-- the text is that of a script, which was played, and what is written and the status tell of it
pub record WasRun (command : Command) (draw : Draw) (in_old in_new : InputAt) (s t : View)
    (out_old out_new : OutputAt) (status : Status) : Type 0 where
  pub script : Script
  pub reads : HasScript command in_old in_new script
  pub played : WasPlayed command draw script s t out_old out_new status

-- A script was read when memory ran out. It was played and told (so that the status is that of a
-- task that found no memory), or no task was played.
pub record IsShort (command : Command) (draw : Draw) (in_old in_new : InputAt) (s t : View)
    (out_old out_new : OutputAt) : Type 0 where
  pub script : Script
  pub reads : HasScript command in_old in_new script
  pub went : WasPlayed command draw script s t out_old out_new S.NoMemory
      ⊎ WasUntold draw script s t out_old out_new

abbrev pub PlayEnds : Command → Draw → InputAt → InputAt → View → View → OutputAt
    → OutputAt → Status → Type 0
PlayEnds command draw in_old in_new s t out_old out_new S.ReadFault =
    HasFailed command in_old in_new × IsUntouched s t out_old out_new
PlayEnds command draw in_old in_new s t out_old out_new (S.Script line kind) =
    HasFault command in_old in_new line kind × IsUntouched s t out_old out_new
PlayEnds command draw in_old in_new s t out_old out_new (S.Usage fault) = ⊥
PlayEnds command draw in_old in_new s t out_old out_new S.NoMemory =
    IsUntouched s t out_old out_new ⊎ IsShort command draw in_old in_new s t out_old out_new
PlayEnds command draw in_old in_new s t out_old out_new status =
    WasRun command draw in_old in_new s t out_old out_new status

-- ---- what each status says where the words are a command
abbrev pub Ends : Command → Draw → InputAt → InputAt → View → View → OutputAt
    → OutputAt → Status → Type 0
Ends C.Play draw in_old in_new s t out_old out_new status =
    PlayEnds C.Play draw in_old in_new s t out_old out_new status
Ends (C.Cells box) draw in_old in_new s t out_old out_new status =
    (in_new ≡ in_old) × PlayEnds (C.Cells box) draw in_old in_new s t out_old out_new status
Ends (C.Grow tasks) draw in_old in_new s t out_old out_new status =
    (in_new ≡ in_old) × PlayEnds (C.Grow tasks) draw in_old in_new s t out_old out_new status
Ends C.Check draw in_old in_new s t out_old out_new status = (in_new ≡ in_old)
    × (Checks s t out_old out_new status × (IsTrue s.caller.tells → StaysSound draw s.seen t.seen))
Ends (C.Help topic) draw in_old in_new s t out_old out_new status =
    Says (help_of topic) in_old in_new s t out_old out_new status
Ends C.Version draw in_old in_new s t out_old out_new status =
    Says version_line in_old in_new s t out_old out_new status
