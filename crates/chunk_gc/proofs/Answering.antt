-- Operations whose replies tell something, and what follows with it.
use Rattle.std.proofs.Common.{◌≡◌, ℕ, Bool, true, false, cond, Result, Ok, Err, refl}
use Rattle.std.specs.Prelude.{nat_lt}
use Rattle.ice_ids.specs.declared.Id12.{Id12}
use Rattle.snapshot_file.specs.declared.snapshot.SnapshotFile.{SnapshotFile}
use Rattle.manifest_file.specs.declared.manifest.ManifestFile.{ManifestFile}
use Rattle.repo_objects.specs.declared.bad_objects.Bad.{Bad}
use Rattle.repo_objects.specs.Readings.{read_snapshot, read_manifest, read_ref}
use Rattle.object_store.specs.declared.keys.Key.{Key}
use Rattle.object_store.specs.declared.keys.Part.{Part}
use Rattle.object_store.specs.declared.keys.Key.TheVariants.{Snapshot, Manifest}
use Rattle.object_store.specs.declared.events.Op.TheVariants.{Get, List as ListPart}
use Rattle.object_store.specs.declared.events.Got.TheVariants.{Found, Absent}
use Rattle.object_store.specs.declared.events.Listed.{Listed}
use Rattle.object_store.specs.declared.events.Reply.{Reply}
use Rattle.object_store.specs.declared.events.Reply.TheVariants.{Got, New, Over, Gone, GoneAt, Listed as Is_listed, Failed}
use Rattle.store_api.specs.declared.machines.Refusal.{Refusal}
use Rattle.store_api.specs.declared.machines.Refusal.TheVariants.{Missing, BadFile, CutoffAhead}
use Rattle.store_api.specs.Callers.{Fits}
use Rattle.store_api.specs.Program.{is_fault}
use Rattle.store_api.specs.Driving.{has_failed}
use Rattle.repo_read.specs.Answers.{at_key}
use Rattle.repo_read.proofs.Hearing.{no-fault, IsTelling}
use Rattle.chunk_gc.specs.Told.{listed_told, first_told, some_of, ref_got, unless_passed, snapshot_got, manifest_got}

-- ---- what tells so
pub listing-tells : (part : Part) → IsTelling (ListPart part) listed_told
listing-tells part = record { calm = refl; fails = λ done. refl; sound = sound }
  where
    sound : (reply : Reply) (why : Refusal) → Fits (ListPart part) reply → has_failed reply ≡ false → listed_told reply ≡ Err why → is_fault why ≡ false
    sound (Is_listed l) why w n e = cc
    sound (Failed done) why w n e = cc
    sound (Got x) why w n e = absurd w
    sound (New x) why w n e = absurd w
    sound (Over x) why w n e = absurd w
    sound (Gone x) why w n e = absurd w
    sound (GoneAt x) why w n e = absurd w

pub first-tells : (cutoff : ℕ) (part : Part) → IsTelling (ListPart part) (first_told cutoff)
first-tells cutoff part = record { calm = refl; fails = λ done. refl; sound = sound }
  where
    by_time : (l : Listed) (b : Bool) (why : Refusal) → cond {A = Result Listed Refusal} b (Err (CutoffAhead l.now)) (Ok l) ≡ Err why → is_fault why ≡ false
    by_time l true why e = no-fault (CutoffAhead l.now) why refl e
    by_time l false why e = cc

    sound : (reply : Reply) (why : Refusal) → Fits (ListPart part) reply → has_failed reply ≡ false → first_told cutoff reply ≡ Err why → is_fault why ≡ false
    sound (Is_listed l) why w n e = by_time l (nat_lt l.now cutoff) why e
    sound (Failed done) why w n e = cc
    sound (Got x) why w n e = absurd w
    sound (New x) why w n e = absurd w
    sound (Over x) why w n e = absurd w
    sound (Gone x) why w n e = absurd w
    sound (GoneAt x) why w n e = absurd w

pub ref-tells : (key : Key) → IsTelling (Get key) (ref_got key)
ref-tells key = record { calm = refl; fails = λ done. refl; sound = sound }
  where
    by_bytes : (r : Result Id12 Bad) (why : Refusal) → some_of (at_key key r) ≡ Err why → is_fault why ≡ false
    by_bytes (Ok id) why e = cc
    by_bytes (Err bad) why e = no-fault (BadFile key bad) why refl e

    sound : (reply : Reply) (why : Refusal) → Fits (Get key) reply → has_failed reply ≡ false → ref_got key reply ≡ Err why → is_fault why ≡ false
    sound (Got (Found bytes version now)) why w n e = by_bytes (read_ref bytes) why e
    sound (Got (Absent now)) why w n e = cc
    sound (Failed done) why w n e = cc
    sound (Is_listed l) why w n e = absurd w
    sound (New x) why w n e = absurd w
    sound (Over x) why w n e = absurd w
    sound (Gone x) why w n e = absurd w
    sound (GoneAt x) why w n e = absurd w

pub snapshot-tells : (passes : Bool) (id : Id12) → IsTelling (Get (Snapshot id)) (snapshot_got passes id)
snapshot-tells passes id = record { calm = refl; fails = λ done. refl; sound = sound }
  where
    by_bytes : (r : Result SnapshotFile Bad) (why : Refusal) → some_of (at_key (Snapshot id) r) ≡ Err why → is_fault why ≡ false
    by_bytes (Ok s) why e = cc
    by_bytes (Err bad) why e = no-fault (BadFile (Snapshot id) bad) why refl e

    by_phase : (b : Bool) (why : Refusal) → unless_passed {A = SnapshotFile} b (Err (Missing (Snapshot id))) ≡ Err why → is_fault why ≡ false
    by_phase true why e = cc
    by_phase false why e = no-fault (Missing (Snapshot id)) why refl e

    sound : (reply : Reply) (why : Refusal) → Fits (Get (Snapshot id)) reply → has_failed reply ≡ false → snapshot_got passes id reply ≡ Err why → is_fault why ≡ false
    sound (Got (Found bytes version now)) why w n e = by_bytes (read_snapshot id bytes) why e
    sound (Got (Absent now)) why w n e = by_phase passes why e
    sound (Failed done) why w n e = cc
    sound (Is_listed l) why w n e = absurd w
    sound (New x) why w n e = absurd w
    sound (Over x) why w n e = absurd w
    sound (Gone x) why w n e = absurd w
    sound (GoneAt x) why w n e = absurd w

pub manifest-tells : (passes : Bool) (id : Id12) → IsTelling (Get (Manifest id)) (manifest_got passes id)
manifest-tells passes id = record { calm = refl; fails = λ done. refl; sound = sound }
  where
    by_bytes : (r : Result ManifestFile Bad) (why : Refusal) → some_of (at_key (Manifest id) r) ≡ Err why → is_fault why ≡ false
    by_bytes (Ok m) why e = cc
    by_bytes (Err bad) why e = no-fault (BadFile (Manifest id) bad) why refl e

    by_phase : (b : Bool) (why : Refusal) → unless_passed {A = ManifestFile} b (Err (Missing (Manifest id))) ≡ Err why → is_fault why ≡ false
    by_phase true why e = cc
    by_phase false why e = no-fault (Missing (Manifest id)) why refl e

    sound : (reply : Reply) (why : Refusal) → Fits (Get (Manifest id)) reply → has_failed reply ≡ false → manifest_got passes id reply ≡ Err why → is_fault why ≡ false
    sound (Got (Found bytes version now)) why w n e = by_bytes (read_manifest id bytes) why e
    sound (Got (Absent now)) why w n e = by_phase passes why e
    sound (Failed done) why w n e = cc
    sound (Is_listed l) why w n e = absurd w
    sound (New x) why w n e = absurd w
    sound (Over x) why w n e = absurd w
    sound (Gone x) why w n e = absurd w
    sound (GoneAt x) why w n e = absurd w
