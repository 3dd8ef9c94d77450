-- Exactly what the top call did: which operations were made, in which order, by which programs,
-- with which answers, and what was read and written; for each status. (Own.)
use Rattle.std.specs.Prelude.{◌≡◌, ◌⊎◌, List, Result}
use Rattle.ice_ids.specs.declared.drawing.Draw.{Draw}
use Rattle.store_api.specs.declared.machines.Refusal.{Refusal}
use Rattle.play_script.specs.declared.scripts.Script.{Script}
use Rattle.play_outcome.specs.declared.outcome.Outcome.{Outcome}
use Rattle.play_outcome.specs.declared.outcome.RefLine.{RefLine}
use Rattle.play_course.specs.Course.{Course, OnlyBegan}
use Rattle.command_words.specs.declared.reading.Command.{Command}
use Rattle.command_words.specs.declared.reading.Command.TheVariants as C
use Rattle.command_words.specs.Help.{help_of, version_line}
use Rattle.top_call.specs.declared.statuses.Status.{Status}
use Rattle.top_call.specs.declared.statuses.Status.TheVariants as S
use Rattle.top_call.specs.Telling.{Told, IsText, IsRegular, refusals}
use Rattle.top_call.specs.Run.{HasScript, HasFailed, HasFault, IsUntouched, Says}
use Rattle.top_call.specs.Promise.{World}
use Rattle.top_call.specs.Check.{Checks}

-- A script was read and played: the opening, the tasks and the closing reading, each by its program
-- and with these answers. This was told of it, and the status is that of the first cause that
-- holds. Over an empty store nothing was refused strangely.
pub record WasDone (draw : Draw) (command : Command) (a b : World) (status : Status) : Type 0 where
  pub script : Script
  pub reads : HasScript command a.input b.input script
  pub opening : Result (Unit {0}) Refusal
  pub outcomes : List Outcome
  pub refs : Result (List RefLine) Refusal
  pub course : Course draw script a.store b.store opening outcomes refs
  pub told : Told (IsText command script a.store b.store opening outcomes refs)
      (refusals opening outcomes refs) a.out b.out status
  pub regular : IsRegular draw script a.store opening outcomes refs

-- A script was read, and memory ran out before the first task: the repository was begun at
-- most, and nothing was written.
pub record WasCutShort (command : Command) (a b : World) : Type 0 where
  pub script : Script
  pub reads : HasScript command a.input b.input script
  pub out : b.out ≡ a.out
  pub began : OnlyBegan a.store b.store

-- nothing was done, and nothing written
abbrev pub IsSame : World → World → Type 0
IsSame a b = IsUntouched a.store b.store a.out b.out

-- ---- a command that plays
abbrev pub Plays : Draw → Command → World → World → Status → Type 0
Plays draw command a b S.Ok = WasDone draw command a b S.Ok
Plays draw command a b S.Refused = WasDone draw command a b S.Refused
Plays draw command a b S.StoreFault = WasDone draw command a b S.StoreFault
Plays draw command a b S.WriteFault = WasDone draw command a b S.WriteFault
Plays draw command a b S.ReadFault = HasFailed command a.input b.input × IsSame a b
Plays draw command a b (S.Script line kind) =
    HasFault command a.input b.input line kind × IsSame a b
Plays draw command a b (S.Usage fault) = ⊥
Plays draw command a b S.NoMemory =
    IsSame a b ⊎ (WasDone draw command a b S.NoMemory ⊎ WasCutShort command a b)

-- ---- each command
-- `play` reads its input; `cells`, `grow` and `check` read none; help and the version are
-- written, and nothing is read or done
abbrev pub Exact : Draw → Command → World → World → Status → Type 0
Exact draw C.Play a b status = Plays draw C.Play a b status
Exact draw (C.Cells box) a b status = (b.input ≡ a.input) × Plays draw (C.Cells box) a b status
Exact draw (C.Grow tasks) a b status = (b.input ≡ a.input) × Plays draw (C.Grow tasks) a b status
Exact draw C.Check a b status = (b.input ≡ a.input) × Checks a.store b.store a.out b.out status
Exact draw (C.Help topic) a b status =
    Says (help_of topic) a.input b.input a.store b.store a.out b.out status
Exact draw C.Version a b status =
    Says version_line a.input b.input a.store b.store a.out b.out status
