-- What a mirror did says of both stores, as laws.
use Rattle.std.specs.Prelude.{◌≡◌, ℕ, IsTrue, List, ◌++◌, Contains, Some}
use Rattle.ice_ids.specs.declared.Id12.{Id12}
use Rattle.ref_file.specs.Refs.{ref_bytes}
use Rattle.repo_objects.specs.Readings.{ref_of}
use Rattle.object_store.specs.declared.keys.Key.{Key}
use Rattle.object_store.specs.declared.events.Op.{Op}
use Rattle.object_store.specs.declared.events.Op.TheVariants.{Get, PutNew, PutOver, Remove}
use Rattle.object_store.specs.declared.events.Op.TheVariants.{RemoveAt, List as ListPart}
use Rattle.object_store.specs.declared.events.Event.{Event}
use Rattle.store_api.specs.Journal.{Each, IsPolite, IsFirst, IsOnce, StoodAt, rows_of, tree_of}
use Rattle.store_api.specs.Callers.{Caller}
use Rattle.two_stores.specs.declared.side.Side.{Side}
use Rattle.two_stores.specs.declared.side.Side.TheVariants.{From, To}
use Rattle.two_stores.specs.Sides.{Both, at_side, OthersCame}
use Rattle.two_stores.specs.Pairs.{KeepsPair, LeadsPair}
use Rattle.mirror_reports.specs.declared.outcome.MirrorRef.{MirrorRef}
use Rattle.mirror_reports.specs.declared.outcome.MirrorEnd.{MirrorEnd}
use Rattle.mirror_reports.specs.Told.{key_of}
use Rattle.mirror.specs.Programs.{mirror_program}
use Rattle.mirror_calls.specs.Deeds.{Deed}
use Rattle.mirror_calls.specs.Owed.{MayDo}
use Rattle.mirror_calls.specs.Reports.{IsRef, ref_id, Reports}
use Rattle.mirror_calls.specs.Journals.{AreDeeds}

-- ---- exact mirror
-- the operation is polite on its side, where that side's store tells its journal
abbrev pub PoliteOn : Both Caller → Side → Both (List Event) → Op → Type 0
PoliteOn by side seen op = IsTrue (at_side side by).tells → IsPolite (at_side side seen) op

-- it is one that a mirror may do next, by its own operations so far
abbrev pub IsOwed : Both Caller → (start : Both (List Event)) → Side
    → Both (List Event) → Op → Type 0
IsOwed by start side seen op =
    (deeds : List Deed) × AreDeeds by start seen deeds × MayDo deeds side op

-- what is told is so, by its own operations
abbrev pub MirrorTells : Both Caller → (start : Both (List Event)) → MirrorEnd
    → Both (List Event) → Type 0
MirrorTells by start end seen =
    (deeds : List Deed) × AreDeeds by start seen deeds × Reports deeds end

-- Whatever others do in either store from `start` on: each operation to come is polite, and one
-- that a mirror may do next; and what is told at the end, whatever the end, is so, and stays so.
pub record MirrorsExactly (by : Both Caller) (start : Both (List Event)) : Type 0 where
  pub polite : KeepsPair (PoliteOn by) by mirror_program start
  pub owed : KeepsPair (IsOwed by start) by mirror_program start
  pub leads : LeadsPair (MirrorTells by start) by mirror_program start
  pub kept : (end : MirrorEnd) (old new : Both (List Event)) → OthersCame by old new
      → MirrorTells by start end old → MirrorTells by start end new

abbrev pub MirrorLaw : Type 0
MirrorLaw = (by : Both Caller) (start : Both (List Event)) → MirrorsExactly by start

-- ---- mirrored trees
-- both stores tell their journals
pub record BothTell (by : Both Caller) : Type 0 where
  pub from : IsTrue by.from.tells
  pub to : IsTrue by.to.tells

-- the event puts no object where one was put before, or is this client's
abbrev pub IsFirstOrOf : ℕ → List Event → Event → Type 0
IsFirstOrOf client before event = (event.client ≡ client → ⊥) → IsFirst before event

-- No object was put again in the source, nor by others in the target since `start`.
pub record IsOnceBeside (by : Both Caller) (start seen : Both (List Event)) : Type 0 where
  pub source : IsOnce seen.from
  pub target : (more : List Event) → seen.to ≡ start.to ++ more
      → Each (IsFirstOrOf by.to.number) start.to more

-- the source's ref named this snapshot, at some version
pub record WasNamedIn (journal : List Event) (ref : Key) (id : Id12) : Type 0 where
  pub version : ℕ
  pub bytes : List ℕ
  pub stood : StoodAt journal ref version bytes
  pub names : ref_of bytes ≡ Some id

-- The source's ref named the snapshot at some version; and it has the same rows, and so
-- the same tree, in both stores.
pub record IsSameIn (seen : Both (List Event)) (ref : Key) (id : Id12) : Type 0 where
  pub entry : WasNamedIn seen.from ref id
  pub rows : rows_of seen.to id ≡ rows_of seen.from id
  pub tree : tree_of seen.to id ≡ tree_of seen.from id

-- bytes that a ref is made of
pub record NamesSame (seen : Both (List Event)) (ref : Key) (bytes : List ℕ) : Type 0 where
  pub id : Id12
  pub is : bytes ≡ ref_bytes id
  pub same : IsSameIn seen ref id

-- Where a ref of the target is put, the source's named that snapshot, and it has the same tree.
abbrev pub PointsWell : Both Caller → (start : Both (List Event)) → Side
    → Both (List Event) → Op → Type 0
PointsWell by start From seen op = Unit {0}
PointsWell by start To seen (PutNew key bytes why) =
    IsRef key → IsOnceBeside by start seen → NamesSame seen key bytes
PointsWell by start To seen (PutOver key bytes old why) =
    IsRef key → IsOnceBeside by start seen → NamesSame seen key bytes
PointsWell by start To seen (Get key) = Unit {0}
PointsWell by start To seen (Remove key why) = Unit {0}
PointsWell by start To seen (RemoveAt key old why) = Unit {0}
PointsWell by start To seen (ListPart part) = Unit {0}

-- so it is of each ref that is told, at the end
abbrev pub RefsSame : Both Caller → (start : Both (List Event)) → MirrorEnd
    → Both (List Event) → Type 0
RefsSame by start end seen =
    IsOnceBeside by start seen → (r : MirrorRef) → Contains end.refs r
    → IsSameIn seen (key_of (ref_id r)) r.id

-- Mirrored trees. Whatever others do from `start` on, where nothing is put again in the source, nor
-- by others in the target: each ref that is put in the target names a snapshot that the source's
-- named, and that has the same tree in both stores; so does each ref that is told at the end.
pub record MirrorsTrees (by : Both Caller) (start : Both (List Event)) : Type 0 where
  pub points : KeepsPair (PointsWell by start) by mirror_program start
  pub refs : LeadsPair (RefsSame by start) by mirror_program start

abbrev pub MirroredTreesLaw : Type 0
MirroredTreesLaw =
    (by : Both Caller) (start : Both (List Event)) → BothTell by → MirrorsTrees by start
