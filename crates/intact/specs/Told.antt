-- What a get found, by what it was for. (Icechunk specification version 1, "Read from Repository".)
use Rattle.std.specs.Prelude.{ℕ, List, Option, Some, None, Result, Ok, Err}
use Rattle.ice_ids.specs.declared.Id12.{Id12}
use Rattle.snapshot_file.specs.declared.snapshot.SnapshotFile.{SnapshotFile}
use Rattle.manifest_file.specs.declared.manifest.ManifestFile.{ManifestFile}
use Rattle.repo_objects.specs.declared.bad_objects.Bad.{Bad}
use Rattle.repo_objects.specs.Readings.{read_snapshot, read_manifest}
use Rattle.repo_objects.specs.Readings.{read_log, read_chunk, read_ref}
use Rattle.object_store.specs.declared.events.Got.{Got}
use Rattle.object_store.specs.declared.events.Got.TheVariants.{Found, Absent as Got_absent}
use Rattle.check_reports.specs.declared.faults.FaultKind.{FaultKind}
use Rattle.check_reports.specs.declared.faults.FaultKind.TheVariants.{Absent, Bad as Is_bad}
use Rattle.check_reports.specs.declared.faults.FaultKind.TheVariants.{NotWell}
use Rattle.intact.specs.declared.visits.FileVisit.{FileVisit}
use Rattle.intact.specs.declared.visits.PartVisit.{PartVisit}
use Rattle.intact.specs.Rows.{first_unwell}
use Rattle.intact.specs.Parts.{entries_of, first_short}

abbrev pub or_bad : {A : Type 0} → Result A Bad → Result A FaultKind
or_bad (Ok x) = Ok x
or_bad (Err bad) = Err (Is_bad bad)

-- ---- refs
abbrev pub some_ref : Result Id12 Bad → Result (Option Id12) FaultKind
some_ref (Ok id) = Ok (Some id)
some_ref (Err bad) = Err (Is_bad bad)

-- the snapshot that a ref names; one that is gone by now names none
abbrev pub found_ref : Got → Result (Option Id12) FaultKind
found_ref (Found bytes version now) = some_ref (read_ref bytes)
found_ref (Got_absent now) = Ok None

-- ---- snapshots
abbrev pub unless_unwell : Option ℕ → SnapshotFile → Result SnapshotFile FaultKind
unless_unwell None s = Ok s
unless_unwell (Some at) s = Err (NotWell at)

abbrev pub well : Result SnapshotFile Bad → Result SnapshotFile FaultKind
well (Ok s) = unless_unwell (first_unwell s.nodes) s
well (Err bad) = Err (Is_bad bad)

-- the snapshot under this id, whose rows are a tree's
abbrev pub found_snapshot : Id12 → Got → Result SnapshotFile FaultKind
found_snapshot id (Found bytes version now) = well (read_snapshot id bytes)
found_snapshot id (Got_absent now) = Err Absent

-- ---- logs
abbrev pub any_log : {A : Type 0} → Result A Bad → Result (Unit {0}) FaultKind
any_log (Ok log) = Ok tt
any_log (Err bad) = Err (Is_bad bad)

-- there is a log under this id
abbrev pub found_log : Id12 → Got → Result (Unit {0}) FaultKind
found_log id (Found bytes version now) = any_log (read_log id bytes)
found_log id (Got_absent now) = Err Absent

-- ---- manifests
abbrev pub unless_short : Option Bad → ManifestFile → Result ManifestFile FaultKind
unless_short None m = Ok m
unless_short (Some bad) m = Err (Is_bad bad)

abbrev pub long : FileVisit → Result ManifestFile Bad → Result ManifestFile FaultKind
long f (Ok m) = unless_short (first_short f.want (entries_of f.node m)) m
long f (Err bad) = Err (Is_bad bad)

-- the manifest, in which the node's chunks that are in it are as long as a chunk
abbrev pub found_manifest : FileVisit → Got → Result ManifestFile FaultKind
found_manifest f (Found bytes version now) = long f (read_manifest f.manifest bytes)
found_manifest f (Got_absent now) = Err Absent

-- ---- parts of objects
abbrev pub any_part : Result (List ℕ) Bad → Result (Unit {0}) FaultKind
any_part (Ok bytes) = Ok tt
any_part (Err bad) = Err (Is_bad bad)

-- the part is as long as a chunk, and lies in the object
abbrev pub found_part : PartVisit → Got → Result (Unit {0}) FaultKind
found_part p (Found bytes version now) = any_part (read_chunk p.want p.offset p.size bytes)
found_part p (Got_absent now) = Err Absent
