-- What replies to the operations of a collection tell (own).
use Rattle.std.specs.Prelude.{ℕ, nat_lt, ◌&&◌, Bool, true, false, if◌then◌else◌}
use Rattle.std.specs.Prelude.{Option, Some, None, Result, Ok, Err}
use Rattle.ice_ids.specs.declared.Id12.{Id12}
use Rattle.snapshot_file.specs.declared.snapshot.SnapshotFile.{SnapshotFile}
use Rattle.manifest_file.specs.declared.manifest.ManifestFile.{ManifestFile}
use Rattle.repo_objects.specs.Readings.{read_ref}
use Rattle.object_store.specs.declared.keys.Key.{Key}
use Rattle.object_store.specs.declared.events.Got.TheVariants.{Found, Absent}
use Rattle.object_store.specs.declared.events.Listed.{Listed}
use Rattle.object_store.specs.declared.events.Reply.{Reply}
use Rattle.object_store.specs.declared.events.Reply.TheVariants.{Got, New, Over, Gone, GoneAt}
use Rattle.object_store.specs.declared.events.Reply.TheVariants.{Listed as Is_listed, Failed}
use Rattle.store_api.specs.declared.machines.Refusal.{Refusal}
use Rattle.store_api.specs.declared.machines.Refusal.TheVariants.{CutoffAhead, StoreFault}
use Rattle.repo_read.specs.Answers.{at_key, snapshot_told, manifest_told}

-- a listing
abbrev pub listed_told : Reply → Result Listed Refusal
listed_told (Is_listed l) = Ok l
listed_told _ = Err StoreFault

-- the first listing, which tells the store's time
abbrev pub first_told : (cutoff : ℕ) → Reply → Result Listed Refusal
first_told cutoff (Is_listed l) = if nat_lt l.now cutoff then Err (CutoffAhead l.now) else Ok l
first_told cutoff _ = Err StoreFault

abbrev pub some_of : {A : Type 0} → Result A Refusal → Result (Option A) Refusal
some_of (Ok x) = Ok (Some x)
some_of (Err why) = Err why

-- the snapshot that a ref or a lease names, if it is still there
abbrev pub ref_got : Key → Reply → Result (Option Id12) Refusal
ref_got key (Got (Found bytes version now)) = some_of (at_key key (read_ref bytes))
ref_got key (Got (Absent now)) = Ok None
ref_got key _ = Err StoreFault

-- a get found nothing
abbrev pub is_absent : Reply → Bool
is_absent (Got (Found bytes version now)) = false
is_absent (Got (Absent now)) = true
is_absent (New x) = false
is_absent (Over x) = false
is_absent (Gone x) = false
is_absent (GoneAt x) = false
is_absent (Is_listed x) = false
is_absent (Failed done) = false

abbrev pub unless_passed : {A : Type 0} → Bool → Result A Refusal → Result (Option A) Refusal
unless_passed true told = Ok None
unless_passed false told = some_of told

-- A snapshot, or a manifest; where absent ones are passed over, none for such a one.
abbrev pub snapshot_got : (passes : Bool) → Id12 → Reply → Result (Option SnapshotFile) Refusal
snapshot_got passes id reply = unless_passed (is_absent reply && passes) (snapshot_told id reply)

abbrev pub manifest_got : (passes : Bool) → Id12 → Reply → Result (Option ManifestFile) Refusal
manifest_got passes id reply = unless_passed (is_absent reply && passes) (manifest_told id reply)
