-- What a check's answer says, by what its own operations were told.
use Rattle.std.specs.Prelude.{◌≡◌, ◌⊎◌, ◌↔◌, ℕ, ◌+◌, ◌≤◌, true, List, [], ◌∷◌, ◌++◌}
use Rattle.std.specs.Prelude.{drop, length, Contains, Result, Ok, Err}
use Rattle.ice_ids.specs.declared.Id12.{Id12}
use Rattle.object_store.specs.declared.events.Op.{Op}
use Rattle.object_store.specs.declared.events.Op.TheVariants.{Get, PutNew, PutOver, Remove}
use Rattle.object_store.specs.declared.events.Op.TheVariants.{RemoveAt, List as ListPart}
use Rattle.object_store.specs.declared.events.Event.{Event}
use Rattle.store_api.specs.declared.machines.Refusal.{Refusal}
use Rattle.store_api.specs.declared.machines.Refusal.TheVariants as R
use Rattle.store_api.specs.Callers.{Fits, has_failed}
use Rattle.store_api.specs.Program.{events_of}
use Rattle.check_reports.specs.declared.faults.CheckFault.{CheckFault}
use Rattle.check_reports.specs.declared.faults.Checked.{Checked}
use Rattle.repo_read.specs.Chains.{most_snapshots}
use Rattle.intact.specs.declared.visits.PartVisit.{PartVisit}
use Rattle.intact.specs.Visits.{Visit, Refs, Ref, Snap, Log, File, Part}
use Rattle.intact.specs.Intact.{Made, WasVisited, Named, HasParent, IsAbove, IsIntact}
use Rattle.repo_check.specs.declared.standing.CheckReport.{CheckReport}
use Rattle.repo_check.specs.Findings.{Finding, Comes_back, Deed, made_of, deeds_of, faults_of}

-- ---- findings
-- a get of an object, and not of a ref
abbrev pub IsOfObject : Visit → Type 0
IsOfObject (Refs part) = ⊥
IsOfObject (Ref key) = ⊥
IsOfObject (Snap id) = Unit {0}
IsOfObject (Log id) = Unit {0}
IsOfObject (File f) = Unit {0}
IsOfObject (Part p) = Unit {0}

-- No get of an object is made twice for the same. (A ref is got as often as it is listed.)
abbrev pub AreOnce : List Made → Type 0
AreOnce [] = Unit {0}
AreOnce (one ∷ made) = (IsOfObject one.visit → WasVisited made one.visit → ⊥) × AreOnce made

-- Findings so far: nothing was made twice, all that was made is named, and the snapshots to which
-- walks came back are above themselves.
pub record AreFindings (findings : List Finding) : Type 0 where
  pub once : AreOnce (made_of findings)
  pub named : (v : Visit) → WasVisited (made_of findings) v → Named (made_of findings) v
  pub rings : (id : Id12) → Contains findings (Comes_back id) → IsAbove (made_of findings) id id

-- a walk came back to this snapshot, or to one below it
pub record IsRinged (findings : List Finding) (id : Id12) : Type 0 where
  pub ring : Id12
  pub told : Contains findings (Comes_back ring)
  pub below : (id ≡ ring) ⊎ IsAbove (made_of findings) id ring

-- All of them: what is named was made, and from each snapshot above itself a walk came back.
pub record AreAll (findings : List Finding) : Type 0 where
  pub whole : (v : Visit) → Named (made_of findings) v → WasVisited (made_of findings) v
  pub ringed : (id : Id12) → Named (made_of findings) (Snap id) → IsAbove (made_of findings) id id
      → IsRinged findings id

-- ---- counts
-- none of these ids stands twice
abbrev pub AreDistinct : List Id12 → Type 0
AreDistinct [] = Unit {0}
AreDistinct (id ∷ ids) = (Contains ids id → ⊥) × AreDistinct ids

-- so many ids are such, each counted once
pub record Counts (P : Id12 → Type 0) (n : ℕ) : Type 0 where
  pub ids : List Id12
  pub once : AreDistinct ids
  pub are : (id : Id12) → Contains ids id ↔ P id
  pub count : length ids ≡ n

abbrev pub IsSnapshotNamed : List Made → Id12 → Type 0
IsSnapshotNamed made id = Named made (Snap id)

pub record IsObjectNamed (made : List Made) (id : Id12) : Type 0 where
  pub part : PartVisit
  pub named : Named made (Part part)
  pub object_is : part.object ≡ id

-- how many gets of snapshots there are
abbrev pub one_for_snapshot : Visit → ℕ
one_for_snapshot (Refs part) = 0
one_for_snapshot (Ref key) = 0
one_for_snapshot (Snap id) = 1
one_for_snapshot (Log id) = 0
one_for_snapshot (File f) = 0
one_for_snapshot (Part p) = 0

abbrev pub snapshot_gets : List Made → ℕ
snapshot_gets [] = 0
snapshot_gets (one ∷ made) = one_for_snapshot one.visit + snapshot_gets made

-- ---- ends
-- the operation failed, or its reply was none to it
pub record HasFailed (rest : List Deed) : Type 0 where
  pub deed : Deed
  pub is : rest ≡ deed ∷ []
  pub failed : Fits deed.op deed.reply → has_failed deed.reply ≡ true

-- all is intact, and counted
pub record AllIsIntact (findings : List Finding) (checked : Checked) : Type 0 where
  pub all : AreAll findings
  pub intact : IsIntact (made_of findings)
  pub snapshots : Counts (IsSnapshotNamed (made_of findings)) checked.snapshots
  pub chunks : Counts (IsObjectNamed (made_of findings)) checked.chunks

-- not all is intact, and so many faults were told
pub record IsUnsound (findings : List Finding) (n : ℕ) : Type 0 where
  pub all : AreAll findings
  pub broken : IsIntact (made_of findings) → ⊥
  pub count : length (faults_of findings) ≡ n

-- these snapshots were read, the lowest first: it names `below` as its parent, and
-- each other one the one before it
abbrev pub IsLine : List Made → (below : Id12) → List Id12 → Type 0
IsLine made below [] = Unit {0}
IsLine made below (id ∷ ids) = HasParent made id below × IsLine made id ids

-- one walk has got as many snapshots as it may, and there is a further one
pub record IsDeep (findings : List Finding) : Type 0 where
  pub many : most_snapshots ≤ snapshot_gets (made_of findings)
  pub next : Id12
  pub line : List Id12
  pub long : length line ≡ most_snapshots
  pub read : IsLine (made_of findings) next line

-- how it ended, with these findings, and with a reply that was none of them
abbrev pub EndsSo : List Finding → List Deed → Result Checked Refusal → Type 0
EndsSo findings rest (Ok checked) = (rest ≡ []) × AllIsIntact findings checked
EndsSo findings rest (Err (R.Unsound n)) = (rest ≡ []) × IsUnsound findings n
EndsSo findings rest (Err R.TooDeep) = (rest ≡ []) × IsDeep findings
EndsSo findings rest (Err R.StoreFault) = HasFailed rest
EndsSo findings rest (Err R.NoMemory) = length rest ≤ 1
EndsSo findings rest (Err _) = ⊥

-- What a report says of a client's own operations with their replies: these are findings and at
-- most one reply more; the faults are those of the findings, in their order; and it ended so.
pub record Reports (deeds : List Deed) (report : CheckReport) : Type 0 where
  pub findings : List Finding
  pub rest : List Deed
  pub are : deeds ≡ deeds_of (made_of findings) ++ rest
  pub sound : AreFindings findings
  pub faults : report.faults ≡ faults_of findings
  pub ends : EndsSo findings rest report.result

-- ---- in a journal
abbrev pub deeds_in : List Event → List Deed
deeds_in [] = []
deeds_in (event ∷ events) = record { op = event.op; reply = event.reply } ∷ deeds_in events

-- what a client's events behind `start` are
abbrev pub deeds_behind : (client : ℕ) → (start journal : List Event) → List Deed
deeds_behind client start journal = deeds_in (events_of client (drop (length start) journal))

-- a check reads, and nothing else
abbrev pub IsRead : Op → Type 0
IsRead (Get key) = Unit {0}
IsRead (ListPart part) = Unit {0}
IsRead (PutNew key bytes why) = ⊥
IsRead (PutOver key bytes old why) = ⊥
IsRead (Remove key why) = ⊥
IsRead (RemoveAt key old why) = ⊥

-- What a report says of the journal.
pub record CheckTells (client : ℕ) (start : List Event) (report : CheckReport)
    (journal : List Event) : Type 0 where
  pub more : List Event
  pub since : journal ≡ start ++ more
  pub reports : Reports (deeds_behind client start journal) report
