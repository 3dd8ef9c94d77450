-- What holds of the histories of branches and of the states of tags in each legal polite journal.
use Rattle.std.specs.Prelude.{ℕ, List, [], ◌++◌, Option}
use Rattle.ice_ids.specs.declared.Id12.{Id12}
use Rattle.zarr_tree.specs.Trees.{Tree}
use Rattle.object_store.specs.declared.events.Event.{Event}
use Rattle.store_api.specs.Journal.{Each, IsGood, IsGoodJournal, IsFirst, IsOnce, tree_of}
use Rattle.histories.specs.Repository.{Change}
use Rattle.histories.specs.Files.{Files}
use Rattle.histories.specs.Calls.{IsGiven, IsHistory, BranchesStand}
use Rattle.histories.specs.Tags.{GoesOnAs}
use Rattle.histories.specs.TagCalls.{tag_of, TagAgrees, StandsByState}
use Rattle.histories.specs.Formats.{files_by}

-- In a legal polite journal that puts nothing again the histories run over the calls,
-- by whatever leads from the tree of each commit's parent to its own; and at the end
-- the branches stand as they say.
abbrev pub HistoryLaw : Type 0
HistoryLaw =
    (journal : List Event) (given : ℕ → Change) → Each IsGood [] journal → IsOnce journal
    → Each (IsGiven (files_by (tree_of journal)) given) [] journal
    → IsHistory (files_by (tree_of journal)) given journal
    × BranchesStand (files_by (tree_of journal)) given journal

-- In a legal polite journal each event on a tag got the answer of its state, and at the end the
-- tags stand as their states say.
abbrev pub TagsLaw : Type 0
TagsLaw =
    (trees : Id12 → Option Tree) (journal : List Event) → IsGoodJournal journal
    → Each (TagAgrees (files_by trees)) [] journal
    × ((name : List ℕ) → StandsByState (files_by trees) journal name)

-- A tag never moves, whatever comes, and however files are read.
abbrev pub NeverMoves : Type 0
NeverMoves =
    (files : Files) (journal more : List Event) (name : List ℕ)
    → GoesOnAs (tag_of files journal name) (tag_of files (journal ++ more) name)

-- Nor does its tree change, where nothing is put again.
abbrev pub KeepsItsTree : Type 0
KeepsItsTree =
    (journal more : List Event) (name : List ℕ) → IsGoodJournal journal → IsOnce journal
    → Each IsGood journal more → Each IsFirst journal more
    → GoesOnAs (tag_of (files_by (tree_of journal)) journal name)
    (tag_of (files_by (tree_of (journal ++ more))) (journal ++ more) name)
