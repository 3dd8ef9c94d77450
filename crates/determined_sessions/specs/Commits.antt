-- That the changes of a run's commits are determined. (Own.)
use Rattle.std.specs.Prelude.{◌≡◌, ℕ, List, ◌∷◌, ◌++◌, length, Option, Some}
use Rattle.ice_ids.specs.declared.Id12.{Id12}
use Rattle.ice_ids.specs.declared.drawing.Draw.{Draw}
use Rattle.zarr_tree.specs.Trees.{Tree}
use Rattle.zarr_tree.specs.Changes.{Changes}
use Rattle.determined_changes.specs.Same.{AreSame}
use Rattle.object_store.specs.declared.events.Event.{Event}
use Rattle.store_api.specs.Journal.{tree_of}
use Rattle.histories.specs.Formats.{files_by}
use Rattle.play_script.specs.declared.scripts.Task.{Task}
use Rattle.run_histories.specs.Told.{HasHistories}
use Rattle.play_course.specs.Promise.{TakesEffect}

-- An account of what led from one journal to another: tasks that were played, with these ids, from
-- a start on. Each run gives one.
pub record Account (old new : List Event) : Type 0 where
  pub draw : Draw
  pub tasks : List Task
  pub before : ℕ → Changes
  pub start : List Event
  pub told : HasHistories draw tasks before old start new

-- The changes are the same over the tree of the snapshot that this one, as it was
-- first put, names as its parent.
pub record AreSameOver (trees : Id12 → Option Tree) (journal : List Event) (id : Id12)
    (c d : Changes) : Type 0 where
  pub base : Id12
  pub parent : (files_by trees).parent journal id ≡ Some base
  pub tree : Tree
  pub has : trees base ≡ Some tree
  pub same : AreSame tree c d

-- Whichever tasks a run is said to have played: for each commit that took effect, also where its
-- answer was lost, two accounts give the same changes.
abbrev pub CommitsLaw : Type 0
CommitsLaw =
    (old new : List Event) (a b : Account old new) (since rest : List Event)
    (event : Event) (branch : List ℕ) (version : ℕ) (id : Id12)
    → new ≡ (old ++ since) ++ event ∷ rest
    → TakesEffect (files_by (tree_of new)) (old ++ since) event branch version id
    → AreSameOver (tree_of new) (old ++ since) id (a.told.changes (length (old ++ since)))
    (b.told.changes (length (old ++ since)))
