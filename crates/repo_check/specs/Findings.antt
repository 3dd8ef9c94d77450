-- What a check finds, and the faults that these findings are.
use Rattle.std.specs.Prelude.{List, [], ◌∷◌, ◌++◌, Option, Some, None, Result, Ok, Err}
use Rattle.ice_ids.specs.declared.Id12.{Id12}
use Rattle.object_store.specs.declared.keys.Key.{Key}
use Rattle.object_store.specs.declared.keys.Key.TheVariants.{Snapshot, Manifest, Txn, Chunk}
use Rattle.object_store.specs.declared.events.Op.{Op}
use Rattle.object_store.specs.declared.events.Reply.{Reply}
use Rattle.check_reports.specs.declared.faults.FaultKind.{FaultKind}
use Rattle.check_reports.specs.declared.faults.FaultKind.TheVariants.{Ring}
use Rattle.check_reports.specs.declared.faults.CheckFault.{CheckFault}
use Rattle.intact.specs.Visits.{Visit, Refs, Ref, Snap, Log, File, Part, op_for, told}
use Rattle.intact.specs.Intact.{Made}
use Rattle.repo_check.specs.Works.{with_fault}

-- an operation was made; or the walk along parents came back to this snapshot
pub data Finding : Type 0 where
  Makes : Made → Finding
  Comes_back : Id12 → Finding

-- the operations, in their order
abbrev pub made_of : List Finding → List Made
made_of [] = []
made_of (Makes one ∷ findings) = one ∷ made_of findings
made_of (Comes_back id ∷ findings) = made_of findings

-- an operation and its reply
pub record Deed : Type 0 where
  pub op : Op
  pub reply : Reply

abbrev pub deed_of : Made → Deed
deed_of one = record { op = op_for one.visit; reply = one.reply }

abbrev pub deeds_of : List Made → List Deed
deeds_of [] = []
deeds_of (one ∷ made) = deed_of one ∷ deeds_of made

-- ---- faults
-- the object that is got
abbrev pub key_for : Visit → Option Key
key_for (Refs part) = None
key_for (Ref key) = Some key
key_for (Snap id) = Some (Snapshot id)
key_for (Log id) = Some (Txn id)
key_for (File f) = Some (Manifest f.manifest)
key_for (Part p) = Some (Chunk p.object)

abbrev pub fault_by : Option Key → Result (List Visit) FaultKind → List CheckFault → List CheckFault
fault_by (Some key) (Err kind) faults = with_fault key kind faults
fault_by (Some key) (Ok next) faults = faults
fault_by None result faults = faults

-- the faults with that of one more finding
abbrev pub with_finding : Finding → List CheckFault → List CheckFault
with_finding (Makes one) faults = fault_by (key_for one.visit) (told one.visit one.reply) faults
with_finding (Comes_back id) faults = with_fault (Snapshot id) Ring faults

abbrev pub faults_from : List CheckFault → List Finding → List CheckFault
faults_from faults [] = faults
faults_from faults (finding ∷ findings) = faults_from (with_finding finding faults) findings

-- the faults of findings, in their order
abbrev pub faults_of : List Finding → List CheckFault
faults_of findings = faults_from [] findings
