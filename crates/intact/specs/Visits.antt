-- What operations of the store are made for when all that refs reach is read, and where each leads.
use Rattle.std.specs.Prelude.{if◌then◌else◌, List, [], ◌∷◌, ◌++◌, map}
use Rattle.std.specs.Prelude.{Option, Some, None, Result, Ok, Err}
use Rattle.ice_ids.specs.declared.Id12.{Id12}
use Rattle.ice_ids.specs.Text.{same_id12, initial_id}
use Rattle.snapshot_file.specs.declared.snapshot.SnapshotFile.{SnapshotFile}
use Rattle.manifest_file.specs.declared.manifest.ManifestFile.{ManifestFile}
use Rattle.object_store.specs.declared.keys.Key.{Key}
use Rattle.object_store.specs.declared.keys.Key.TheVariants.{Snapshot, Manifest, Txn, Chunk}
use Rattle.object_store.specs.declared.keys.Part.{Part as Part_of_store}
use Rattle.object_store.specs.declared.events.Op.{Op}
use Rattle.object_store.specs.declared.events.Op.TheVariants.{Get, List as ListPart}
use Rattle.object_store.specs.declared.events.Reply.{Reply}
use Rattle.object_store.specs.declared.events.Reply.TheVariants.{Got as Is_got, Listed as Is_listed}
use Rattle.check_reports.specs.declared.faults.FaultKind.{FaultKind}
use Rattle.check_reports.specs.declared.faults.FaultKind.TheVariants.{Absent}
use Rattle.live_refs.specs.Live.{live}
use Rattle.intact.specs.declared.visits.FileVisit.{FileVisit}
use Rattle.intact.specs.declared.visits.PartVisit.{PartVisit}
use Rattle.intact.specs.Rows.{files_of}
use Rattle.intact.specs.Parts.{parts_of}
use Rattle.intact.specs.Told.{found_ref, found_snapshot, found_log, found_manifest, found_part}

-- What an operation is for: a listing of refs, a ref, a snapshot, its log, a manifest for
-- a node, or a part of an object.
pub data Visit : Type 0 where
  Refs : Part_of_store → Visit
  Ref : Key → Visit
  Snap : Id12 → Visit
  Log : Id12 → Visit
  File : FileVisit → Visit
  Part : PartVisit → Visit

abbrev pub op_for : Visit → Op
op_for (Refs part) = ListPart part
op_for (Ref key) = Get key
op_for (Snap id) = Get (Snapshot id)
op_for (Log id) = Get (Txn id)
op_for (File f) = Get (Manifest f.manifest)
op_for (Part p) = Get (Chunk p.object)

-- ---- where each leads
-- a ref to its snapshot
abbrev pub behind_ref : Option Id12 → List Visit
behind_ref None = []
behind_ref (Some id) = Snap id ∷ []

-- a snapshot to its log, but for the initial one; to the manifests that its rows name, each for
-- the row's node; and to its parent
abbrev pub its_log : Id12 → List Visit
its_log id = if same_id12 id initial_id then [] else Log id ∷ []

abbrev pub its_files : SnapshotFile → List Visit
its_files s = map (λ f. File f) (files_of s.nodes)

abbrev pub its_parent : Option Id12 → List Visit
its_parent None = []
its_parent (Some id) = Snap id ∷ []

abbrev pub behind_snapshot : Id12 → SnapshotFile → List Visit
behind_snapshot id s = its_log id ++ (its_files s ++ its_parent s.parent)

-- a manifest to the parts of objects that its entries under the node's id name
abbrev pub behind_manifest : FileVisit → ManifestFile → List Visit
behind_manifest f m = map (λ p. Part p) (parts_of f m)

-- with a fault it leads no further
abbrev pub leading : {A : Type 0} → (A → List Visit) → Result A FaultKind
    → Result (List Visit) FaultKind
leading next (Ok x) = Ok (next x)
leading next (Err kind) = Err kind

abbrev pub nowhere : {A : Type 0} → A → List Visit
nowhere x = []

-- What an operation's reply tells, by what it was for: where it leads, or what is wrong. A ref that
-- is gone by now is fine. Where the operation failed, nothing was found.
abbrev pub told : Visit → Reply → Result (List Visit) FaultKind
told (Refs part) (Is_listed l) = Ok (map (λ key. Ref key) (live l.entries))
told (Ref key) (Is_got got) = leading behind_ref (found_ref got)
told (Snap id) (Is_got got) = leading (behind_snapshot id) (found_snapshot id got)
told (Log id) (Is_got got) = leading nowhere (found_log id got)
told (File f) (Is_got got) = leading (behind_manifest f) (found_manifest f got)
told (Part p) (Is_got got) = leading nowhere (found_part p got)
told _ _ = Err Absent

abbrev pub or_nowhere : Result (List Visit) FaultKind → List Visit
or_nowhere (Ok next) = next
or_nowhere (Err kind) = []

abbrev pub leads : Visit → Reply → List Visit
leads v reply = or_nowhere (told v reply)
