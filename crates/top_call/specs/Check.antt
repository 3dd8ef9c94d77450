-- What a check does and writes (own).
use Rattle.std.specs.Prelude.{◌≡◌, ◌⊎◌, ℕ, List, [], ◌∷◌, codes}
use Rattle.ice_base.specs.Ends.{OutputAt}
use Rattle.ice_ids.specs.declared.drawing.Draw.{Draw}
use Rattle.zarr_tree.specs.Changes.{Changes}
use Rattle.object_store.specs.declared.events.Event.{Event}
use Rattle.store_api.specs.Callers.{View}
use Rattle.script_calls.specs.declared.calls.Head.TheVariants as head
use Rattle.play_script.specs.declared.scripts.Task.{Task}
use Rattle.play_outcome.specs.declared.outcome.Outcome.{Outcome}
use Rattle.play_outcome.specs.Ending.{why_ended}
use Rattle.play_report.specs.Report.{outcome_text}
use Rattle.run_histories.specs.Sources.{IsNewRun}
use Rattle.run_histories.specs.Runs.{IsSound}
use Rattle.run_histories.specs.Told.{HasHistories}
use Rattle.lone_check.specs.Checking.{WasChecked}
use Rattle.top_call.specs.declared.statuses.Status.{Status}
use Rattle.top_call.specs.declared.statuses.Status.TheVariants as S
use Rattle.top_call.specs.Telling.{Told}
use Rattle.top_call.specs.Run.{IsUntouched}

-- By client 1 the store was checked, and nothing else was done. What came of it was written under
-- the name `check`, and the status is that of the first cause that holds.
pub record DidCheck (s t : View) (x y : OutputAt) (status : Status) : Type 0 where
  pub outcome : Outcome
  pub checked : WasChecked s t outcome
  pub told : Told (λ text. text ≡ outcome_text (codes "check") outcome)
      (why_ended outcome) x y status

-- Each status of a check. Without memory it may not have begun.
abbrev pub Checks : View → View → OutputAt → OutputAt → Status → Type 0
Checks s t x y S.NoMemory = IsUntouched s t x y ⊎ DidCheck s t x y S.NoMemory
Checks s t x y S.ReadFault = ⊥
Checks s t x y (S.Script line kind) = ⊥
Checks s t x y (S.Usage fault) = ⊥
Checks s t x y status = DidCheck s t x y status

-- ---- what the next run may take for granted
-- a task as the check makes it, on a line that a script has
abbrev pub check_alone : Task
check_alone = record { name = codes "check"; line = 1; head = head.Check; body = [] }

-- Where the journal was sound, and the ids of a run of such a task were new to it, it is so again,
-- with all that is known of its histories.
abbrev pub StaysSound : Draw → (old new : List Event) → Type 0
StaysSound draw old new =
    (before : ℕ → Changes) → IsSound old before → IsNewRun draw (check_alone ∷ []) old
    → (start : List Event) × HasHistories draw (check_alone ∷ []) before old start new
