-- Chains of parents as they stand. (Own.)
use Rattle.std.specs.Prelude.{◌≡◌, ◌⊎◌, List, ◌++◌, Option, Some}
use Rattle.std.specs.Option.{option_and_then}
use Rattle.ice_ids.specs.Text.{initial_id}
use Rattle.ice_ids.specs.declared.Id12.{Id12}
use Rattle.snapshot_file.specs.declared.snapshot.SnapshotFile.{SnapshotFile}
use Rattle.object_store.specs.declared.keys.Key.TheVariants.{Snapshot}
use Rattle.object_store.specs.declared.events.Event.{Event}
use Rattle.object_store.specs.Machine.{last_put}
use Rattle.store_api.specs.Journal.{Each, IsFirst, IsGood, IsOnce, WasPut, snap_in}

-- the parent that a snapshot names as it was put last
abbrev pub parent_at : List Event → Id12 → Option Id12
parent_at journal id =
    option_and_then (λ (s : SnapshotFile). s.parent) (snap_in id (last_put journal (Snapshot id)))

-- from a snapshot down to itself, or to one below it along such parents
pub data Chain (journal : List Event) : Id12 → Id12 → Type 0 where
  here : {id : Id12} → Chain journal id id
  down : {id parent below : Id12} → parent_at journal id ≡ Some parent → Chain journal parent below
      → Chain journal id below

-- the parent is as it was, or it is cut
abbrev pub StaysOrCut : (was is : Option Id12) → Type 0
StaysOrCut was is = (is ≡ was) ⊎ (is ≡ Some initial_id)

-- where nothing is put again, the parent of a snapshot that was put stays, or is cut
abbrev pub ParentsLaw : Type 0
ParentsLaw =
    (id : Id12) (journal more : List Event) → IsOnce journal
    → WasPut journal (Snapshot id) → Each IsGood journal more → Each IsFirst journal more
    → StaysOrCut (parent_at journal id) (parent_at (journal ++ more) id)
