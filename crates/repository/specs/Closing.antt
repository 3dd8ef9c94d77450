-- What the lines of a reading tell of the refs that stand (Icechunk specification version 1,
-- "Reference Files"; tombstones of tags are own).
use Rattle.std.specs.Prelude.{◌≡◌, ◌↔◌, ℕ, ◌<◌, true, false, List, ◌++◌, Some, None, Ok, slice_get}
use Rattle.std.specs.declared.cmp.Ordering.{Ordering}
use Rattle.std.specs.declared.cmp.Ordering.TheVariants.{Less}
use Rattle.std.specs.Ordering.{nat_cmp, bool_cmp, ordering_then}
use Rattle.std.specs.Cmp.Lexicographic.{slice_cmp}
use Rattle.ice_ids.specs.declared.Id12.{Id12}
use Rattle.repo_objects.specs.Readings.{ref_of}
use Rattle.object_store.specs.declared.keys.Key.{Key}
use Rattle.object_store.specs.declared.keys.Key.TheVariants.{Branch, Tag, Tombstone}
use Rattle.object_store.specs.declared.events.Event.{Event}
use Rattle.object_store.specs.Machine.{Stored, found}
use Rattle.store_api.specs.Journal.{Each, IsGood}
use Rattle.store_api.specs.Program.{Done, Path}
use Rattle.play_outcome.specs.declared.outcome.RefLine.{RefLine}
use Rattle.repository.specs.Refs.{refs_program}

-- a place in the list where this line is
pub record HasLine (lines : List RefLine) (line : RefLine) : Type 0 where
  pub place : ℕ
  pub here : slice_get lines place ≡ Some line

abbrev pub branch_line : List ℕ → Id12 → RefLine
branch_line name id = record { tag = false; name = name; id = id }

abbrev pub tag_line : List ℕ → Id12 → RefLine
tag_line name id = record { tag = true; name = name; id = id }

-- at the key stands a reference to this snapshot
pub record NamesAt (journal : List Event) (key : Key) (id : Id12) : Type 0 where
  pub stored : Stored
  pub stands : found journal key ≡ Some stored
  pub names : ref_of stored.bytes ≡ Some id

-- what stands at the key, if anything does, is a reference
abbrev pub IsNamed : List Event → Key → Type 0
IsNamed journal key =
    (s : Stored) → found journal key ≡ Some s → (id : Id12) × (ref_of s.bytes ≡ Some id)

-- the branches before the tags, and each by their names
abbrev pub line_cmp : RefLine → RefLine → Ordering
line_cmp a b = ordering_then (bool_cmp a.tag b.tag) (slice_cmp nat_cmp a.name b.name)

-- The lines are those of the refs that stand: of each branch, and of each tag without a tombstone,
-- one line with the snapshot that it names; none of them is unreadable, and the lines are in order.
pub record TellsRefs (journal : List Event) (lines : List RefLine) : Type 0 where
  pub branches : (name : List ℕ) (id : Id12)
      → (HasLine lines (branch_line name id) ↔ NamesAt journal (Branch name) id)
  pub tags : (name : List ℕ) (id : Id12)
      → (HasLine lines (tag_line name id)
      ↔ (NamesAt journal (Tag name) id × (found journal (Tombstone name) ≡ None)))
  pub named_branches : (name : List ℕ) → IsNamed journal (Branch name)
  pub named_tags : (name : List ℕ) → found journal (Tombstone name) ≡ None
      → IsNamed journal (Tag name)
  pub ascending : (j k : ℕ) (a b : RefLine) → j < k → slice_get lines j ≡ Some a
      → slice_get lines k ≡ Some b → line_cmp a b ≡ Less

-- The closing reading: where the reader's events are all that came, the lines that it ends with are
-- those of the refs that stand after them.
abbrev pub RefsLaw : Type 0
RefsLaw =
    (old own : List Event) (lines : List RefLine) → Each IsGood old own
    → Path refs_program own (Done (Ok lines)) → TellsRefs (old ++ own) lines
