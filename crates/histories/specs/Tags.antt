-- Tags: each is made once, and dropped for good. There are no objects, files or retries here.
use Rattle.std.specs.Prelude.{◌≡◌, ◌⊎◌, ℕ, Option, Some, None}
use Rattle.ice_ids.specs.declared.Id12.{Id12}
use Rattle.zarr_tree.specs.Trees.{Tree}
use Rattle.histories.specs.Repository.{Entry}

-- A tag was never made; or it stands as it was made; or it was dropped, and keeps
-- its name from being used again.
pub data TagState : Type 0 where
  Absent : TagState
  Stands : Entry → TagState
  Gone : Entry → TagState

-- the entry with which the tag was made, dropped since or not
abbrev pub made_as : TagState → Option Entry
made_as Absent = None
made_as (Stands e) = Some e
made_as (Gone e) = Some e

pub data TagCall : Type 0 where
  Open : TagCall
  Make : (id : Id12) → TagCall
  Drop : TagCall

pub data TagAnswer : Type 0 where
  Opened : Entry → TagAnswer
  Done : TagAnswer
  NoRef : TagAnswer
  RefExists : (version : ℕ) → TagAnswer
  TagDropped : TagAnswer

-- what a call answers at a state
abbrev pub tag_answer : TagCall → TagState → TagAnswer
tag_answer Open Absent = NoRef
tag_answer Open (Stands e) = Opened e
tag_answer Open (Gone e) = NoRef
tag_answer (Make id) Absent = Done
tag_answer (Make id) (Stands e) = RefExists e.version
tag_answer (Make id) (Gone e) = TagDropped
tag_answer Drop Absent = NoRef
tag_answer Drop (Stands e) = Done
tag_answer Drop (Gone e) = NoRef

-- what a call that is done at version n makes of the tag, where `trees`
-- gives the tree of each snapshot
abbrev pub tag_made : (Id12 → Option Tree) → ℕ → TagCall → TagState → TagState
tag_made trees n (Make id) s = Stands (record { version = n; id = id; tree = trees id })
tag_made trees n Drop (Stands e) = Gone e
tag_made trees n _ s = s

abbrev pub where_done : TagAnswer → TagState → TagState → TagState
where_done Done new s = new
where_done _ new s = s

-- the tag after a call at version n
abbrev pub tag_called : (Id12 → Option Tree) → ℕ → TagCall → TagState → TagState
tag_called trees n call s = where_done (tag_answer call s) (tag_made trees n call s) s

-- A tag never moves: one that stands keeps standing as it was made, or is
-- dropped, and then it stays so.
abbrev pub GoesOnAs : TagState → TagState → Type 0
GoesOnAs Absent s = Unit {0}
GoesOnAs (Stands e) s = (s ≡ Stands e) ⊎ (s ≡ Gone e)
GoesOnAs (Gone e) s = s ≡ Gone e
