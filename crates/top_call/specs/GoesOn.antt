-- What the next run over the journal that is left may take for granted, whatever the status. (Own.)
use Rattle.std.specs.Prelude.{◌≡◌, ◌⊎◌, ℕ, List, IsTrue}
use Rattle.ice_ids.specs.declared.drawing.Draw.{Draw}
use Rattle.zarr_tree.specs.Changes.{Changes}
use Rattle.object_store.specs.declared.events.Event.{Event}
use Rattle.play_script.specs.declared.scripts.Script.{Script}
use Rattle.run_histories.specs.Sources.{IsNewRun}
use Rattle.run_histories.specs.Runs.{IsSound}
use Rattle.run_histories.specs.Told.{HasHistories}
use Rattle.command_words.specs.declared.reading.Command.{Command}
use Rattle.command_words.specs.declared.reading.Command.TheVariants as C
use Rattle.top_call.specs.Run.{HasScript}
use Rattle.top_call.specs.Promise.{World}
use Rattle.top_call.specs.Check.{StaysSound}

-- A script was read; and where the journal was sound, and the clients' ids were new to it, it is
-- sound again, with all that is known of its histories.
pub record KeepsSoundness (draw : Draw) (command : Command) (a b : World) : Type 0 where
  pub script : Script
  pub reads : HasScript command a.input b.input script
  pub keeps : (before : ℕ → Changes) → IsSound a.store.seen before
      → IsNewRun draw script.tasks a.store.seen
      → (start : List Event) × HasHistories draw script.tasks before a.store.seen start b.store.seen

-- nothing was done, or so
abbrev pub LeavesSound : Draw → Command → World → World → Type 0
LeavesSound draw command a b = (b.store ≡ a.store) ⊎ KeepsSoundness draw command a b

-- over a store that tells its journal; and behind `check`, which plays no
-- script, it is as sound as before
abbrev pub GoesOn : Draw → Command → World → World → Type 0
GoesOn draw C.Check a b = IsTrue a.store.caller.tells → StaysSound draw a.store.seen b.store.seen
GoesOn draw command a b = IsTrue a.store.caller.tells → LeavesSound draw command a b
