-- What a run leaves of the branches' histories and of the tags, and what it tells of them (own).
use Rattle.std.specs.Prelude.{◌≡◌, ◌↔◌, ℕ, List, Some, Result, Ok}
use Rattle.ice_ids.specs.declared.Id12.{Id12}
use Rattle.ice_ids.specs.declared.drawing.Draw.{Draw}
use Rattle.zarr_tree.specs.Changes.{Changes}
use Rattle.object_store.specs.declared.events.Event.{Event}
use Rattle.store_api.specs.declared.machines.Refusal.{Refusal}
use Rattle.store_api.specs.Journal.{tree_of}
use Rattle.histories.specs.Repository.{Entry, last}
use Rattle.histories.specs.Calls.{history_of}
use Rattle.histories.specs.Tags.{Stands}
use Rattle.histories.specs.TagCalls.{tag_of}
use Rattle.histories.specs.Files.{Files}
use Rattle.histories.specs.Formats.{files_by, applied}
use Rattle.repository.specs.Closing.{HasLine, branch_line, tag_line, TellsRefs}
use Rattle.play_script.specs.declared.scripts.Task.{Task}
use Rattle.play_outcome.specs.declared.outcome.RefLine.{RefLine}
use Rattle.run_histories.specs.Told.{HasHistories}

-- the branch's history ends at this snapshot
pub record BranchEndsAt (files : Files) (changes : ℕ → Changes) (journal : List Event)
    (branch : List ℕ) (id : Id12) : Type 0 where
  pub entry : Entry
  pub is_last : last (history_of files (applied changes) journal branch) ≡ Some entry
  pub names : entry.id ≡ id

-- the tag stands at the end, and was made with this snapshot
pub record TagEndsAt (files : Files) (journal : List Event) (tag : List ℕ)
    (id : Id12) : Type 0 where
  pub entry : Entry
  pub stands : tag_of files journal tag ≡ Stands entry
  pub names : entry.id ≡ id

-- The lines are those of the refs that stand. Each branch's is the last entry of its history, and
-- each tag's is the entry of its state; a tag that was dropped, or never made, has no line.
pub record TellsEnds (files : Files) (changes : ℕ → Changes) (journal : List Event)
    (lines : List RefLine) : Type 0 where
  pub stand : TellsRefs journal lines
  pub ends : (name : List ℕ) (id : Id12)
      → (HasLine lines (branch_line name id) ↔ BranchEndsAt files changes journal name id)
  pub tags : (name : List ℕ) (id : Id12)
      → (HasLine lines (tag_line name id) ↔ TagEndsAt files journal name id)

-- From old to new a run kept the histories and the tags, and the refs that it tells are their ends.
pub record KeepsRefs (draw : Draw) (tasks : List Task) (before : ℕ → Changes) (old new : List Event)
    (refs : Result (List RefLine) Refusal) : Type 0 where
  pub start : List Event
  pub histories : HasHistories draw tasks before old start new
  pub told : (lines : List RefLine) → refs ≡ Ok lines
      → TellsEnds (files_by (tree_of new)) histories.changes new lines
