-- Operations whose replies tell something, and what follows with it.
use Rattle.std.proofs.Common.{◌≡◌, ℕ, List, true, false, Result, Ok, Err, refl}
use Rattle.ice_ids.specs.declared.Id12.{Id12}
use Rattle.snapshot_file.specs.declared.snapshot.SnapshotFile.{SnapshotFile}
use Rattle.repo_objects.specs.declared.bad_objects.Bad.{Bad}
use Rattle.repo_objects.specs.Readings.{read_snapshot, read_ref}
use Rattle.object_store.specs.declared.keys.Key.{Key}
use Rattle.object_store.specs.declared.keys.Key.TheVariants.{Snapshot, Manifest, Txn, Chunk, Branch, Tag, Tombstone, Lease}
use Rattle.object_store.specs.declared.keys.Part.{Part}
use Rattle.object_store.specs.declared.keys.Why.TheVariants.{Expire}
use Rattle.object_store.specs.declared.events.Version.{Version}
use Rattle.object_store.specs.declared.events.Op.TheVariants.{Get, PutOver, RemoveAt, List as ListPart}
use Rattle.object_store.specs.declared.events.Got.TheVariants.{Found, Absent}
use Rattle.object_store.specs.declared.events.New.TheVariants.{Done as New_done, Present as New_present}
use Rattle.object_store.specs.declared.events.Over.TheVariants.{Done as Over_done, Moved as Over_moved}
use Rattle.object_store.specs.declared.events.GoneAt.TheVariants.{Done as Gone_done, Moved as Gone_moved}
use Rattle.object_store.specs.declared.events.Reply.{Reply}
use Rattle.object_store.specs.declared.events.Reply.TheVariants.{Got, New, Over, Gone, GoneAt, Listed as Is_listed, Failed}
use Rattle.store_api.specs.declared.machines.Refusal.{Refusal}
use Rattle.store_api.specs.declared.machines.Refusal.TheVariants.{Missing, BadFile}
use Rattle.store_api.specs.Callers.{Fits}
use Rattle.store_api.specs.Program.{is_fault}
use Rattle.store_api.specs.Driving.{has_failed}
use Rattle.repo_read.specs.Answers.{at_key, resolved_at}
use Rattle.repo_read.proofs.Hearing.{no-fault, IsTelling}
use Rattle.expiry.specs.Looks.{if_there, ref_seen, seen_at, snapshot_seen}
use Rattle.expiry.specs.Plays.{drop_op, drop_told, cut_told}
use Rattle.expiry.specs.inside.Looking.{is_ref}
use Rattle.expiry.specs.inside.Expiring.{listed_told}

-- ---- what tells so
pub listing-tells : (part : Part) → IsTelling (ListPart part) listed_told
listing-tells part = record { calm = refl; fails = λ done. refl; sound = sound }
  where
    sound : (reply : Reply) (why : Refusal) → Fits (ListPart part) reply → has_failed reply ≡ false → listed_told reply ≡ Err why → is_fault why ≡ false
    sound (Is_listed l) why w n e = cc
    sound (Failed done) why w n e = cc
    sound (Got x) why w n e = absurd w
    sound (New x) why w n e = absurd w
    sound (Over x) why w n e = absurd w
    sound (Gone x) why w n e = absurd w
    sound (GoneAt x) why w n e = absurd w

pub ref-tells : (key : Key) → IsTelling (Get key) (ref_seen key)
ref-tells key = record { calm = refl; fails = λ done. refl; sound = sound }
  where
    by_bytes : (version : Version) (r : Result Id12 Bad) (why : Refusal) → if_there (resolved_at version (at_key key r)) ≡ Err why → is_fault why ≡ false
    by_bytes version (Ok id) why e = cc
    by_bytes version (Err bad) why e = no-fault (BadFile key bad) why refl e

    sound : (reply : Reply) (why : Refusal) → Fits (Get key) reply → has_failed reply ≡ false → ref_seen key reply ≡ Err why → is_fault why ≡ false
    sound (Got (Found bytes version now)) why w n e = by_bytes version (read_ref bytes) why e
    sound (Got (Absent now)) why w n e = cc
    sound (Failed done) why w n e = cc
    sound (Is_listed l) why w n e = absurd w
    sound (New x) why w n e = absurd w
    sound (Over x) why w n e = absurd w
    sound (Gone x) why w n e = absurd w
    sound (GoneAt x) why w n e = absurd w

pub snapshot-tells : (id : Id12) → IsTelling (Get (Snapshot id)) (snapshot_seen id)
snapshot-tells id = record { calm = refl; fails = λ done. refl; sound = sound }
  where
    by_bytes : (version : Version) (r : Result SnapshotFile Bad) (why : Refusal) → seen_at version (at_key (Snapshot id) r) ≡ Err why → is_fault why ≡ false
    by_bytes version (Ok s) why e = cc
    by_bytes version (Err bad) why e = no-fault (BadFile (Snapshot id) bad) why refl e

    sound : (reply : Reply) (why : Refusal) → Fits (Get (Snapshot id)) reply → has_failed reply ≡ false → snapshot_seen id reply ≡ Err why → is_fault why ≡ false
    sound (Got (Found bytes version now)) why w n e = by_bytes version (read_snapshot id bytes) why e
    sound (Got (Absent now)) why w n e = no-fault (Missing (Snapshot id)) why refl e
    sound (Failed done) why w n e = cc
    sound (Is_listed l) why w n e = absurd w
    sound (New x) why w n e = absurd w
    sound (Over x) why w n e = absurd w
    sound (Gone x) why w n e = absurd w
    sound (GoneAt x) why w n e = absurd w

-- a branch's removal, or a tag's tombstone
pub drop-tells : (key : Key) (version : Version) → is_ref key ≡ true → IsTelling (drop_op key version) drop_told
drop-tells (Branch name) version is = record { calm = refl; fails = λ done. refl; sound = sound }
  where
    sound : (reply : Reply) (why : Refusal) → Fits (RemoveAt (Branch name) version Expire) reply → has_failed reply ≡ false → drop_told reply ≡ Err why → is_fault why ≡ false
    sound (GoneAt (Gone_done now)) why w n e = cc
    sound (GoneAt (Gone_moved found now)) why w n e = cc
    sound (Failed done) why w n e = cc
    sound (Got x) why w n e = absurd w
    sound (Is_listed l) why w n e = absurd w
    sound (New x) why w n e = absurd w
    sound (Over x) why w n e = absurd w
    sound (Gone x) why w n e = absurd w
drop-tells (Tag name) version is = record { calm = refl; fails = λ done. refl; sound = sound }
  where
    sound : (reply : Reply) (why : Refusal) → Fits (drop_op (Tag name) version) reply → has_failed reply ≡ false → drop_told reply ≡ Err why → is_fault why ≡ false
    sound (New (New_done version now)) why w n e = cc
    sound (New (New_present version now)) why w n e = cc
    sound (Failed done) why w n e = cc
    sound (Got x) why w n e = absurd w
    sound (Is_listed l) why w n e = absurd w
    sound (Over x) why w n e = absurd w
    sound (Gone x) why w n e = absurd w
    sound (GoneAt x) why w n e = absurd w
drop-tells (Snapshot id) version is = absurd cc
drop-tells (Manifest id) version is = absurd cc
drop-tells (Txn id) version is = absurd cc
drop-tells (Chunk id) version is = absurd cc
drop-tells (Tombstone name) version is = absurd cc
drop-tells (Lease id) version is = absurd cc

pub cut-tells : (id : Id12) (bytes : List ℕ) (version : Version) → IsTelling (PutOver (Snapshot id) bytes version Expire) (cut_told id)
cut-tells id bytes version = record { calm = refl; fails = λ done. refl; sound = sound }
  where
    sound : (reply : Reply) (why : Refusal) → Fits (PutOver (Snapshot id) bytes version Expire) reply → has_failed reply ≡ false → cut_told id reply ≡ Err why → is_fault why ≡ false
    sound (Over (Over_done version now)) why w n e = cc
    sound (Over (Over_moved found now)) why w n e = cc
    sound (Failed done) why w n e = cc
    sound (Got x) why w n e = absurd w
    sound (Is_listed l) why w n e = absurd w
    sound (New x) why w n e = absurd w
    sound (Gone x) why w n e = absurd w
    sound (GoneAt x) why w n e = absurd w
