-- What a check holds: what was met, and the faults (own).
use Rattle.std.specs.Prelude.{◌≡◌, ℕ, Bool, true, false, if◌then◌else◌}
use Rattle.std.specs.Prelude.{List, [], ◌∷◌, ◌++◌, length, Result, Ok, Err}
use Rattle.std.specs.List.{list_any}
use Rattle.std.specs.BTreeMap.{is_at}
use Rattle.std.specs.BTreeSet.{insert_key}
use Rattle.ice_ids.specs.declared.Id12.{Id12}
use Rattle.ice_ids.specs.Sets.{with_object}
use Rattle.object_store.specs.declared.keys.Key.{Key}
use Rattle.object_store.specs.declared.keys.Key.TheVariants.{Snapshot, Manifest, Txn, Chunk}
use Rattle.object_store.specs.declared.keys.Key.TheVariants.{Branch, Tag, Tombstone, Lease}
use Rattle.object_store.specs.Machine.{same_key}
use Rattle.store_api.specs.declared.machines.Refusal.{Refusal}
use Rattle.store_api.specs.declared.machines.Refusal.TheVariants.{Unsound}
use Rattle.check_reports.specs.declared.faults.FaultKind.{FaultKind}
use Rattle.check_reports.specs.declared.faults.CheckFault.{CheckFault}
use Rattle.check_reports.specs.declared.faults.Checked.{Checked}
use Rattle.intact.specs.declared.visits.FileVisit.{FileVisit}
use Rattle.intact.specs.declared.visits.PartVisit.{PartVisit}
use Rattle.intact.specs.Places.{file_cmp, part_cmp}

-- ---- faults
abbrev pub has_fault : List CheckFault → Key → Bool
has_fault faults key = list_any (λ fault. same_key fault.key key) faults

-- one more, at the end
abbrev pub and_fault : Key → FaultKind → List CheckFault → List CheckFault
and_fault key kind faults = faults ++ record { key = key; kind = kind } ∷ []

abbrev pub unless_told : Key → FaultKind → List CheckFault → List CheckFault
unless_told key kind faults = if has_fault faults key then faults else and_fault key kind faults

-- A manifest and an object with chunks, which several gets may be
-- for, tell their first fault alone.
abbrev pub with_fault : Key → FaultKind → List CheckFault → List CheckFault
with_fault (Manifest id) kind faults = unless_told (Manifest id) kind faults
with_fault (Chunk id) kind faults = unless_told (Chunk id) kind faults
with_fault (Snapshot id) kind faults = and_fault (Snapshot id) kind faults
with_fault (Txn id) kind faults = and_fault (Txn id) kind faults
with_fault (Branch name) kind faults = and_fault (Branch name) kind faults
with_fault (Tag name) kind faults = and_fault (Tag name) kind faults
with_fault (Tombstone name) kind faults = and_fault (Tombstone name) kind faults
with_fault (Lease id) kind faults = and_fault (Lease id) kind faults

-- ---- sets of visits, each once, in an order of their own
abbrev pub has_file : List FileVisit → FileVisit → Bool
has_file files f = list_any (is_at (file_cmp f)) files

abbrev pub with_file : List FileVisit → FileVisit → List FileVisit
with_file files f = insert_key file_cmp files f

abbrev pub has_part : List PartVisit → PartVisit → Bool
has_part parts p = list_any (is_at (part_cmp p)) parts

abbrev pub with_part : List PartVisit → PartVisit → List PartVisit
with_part parts p = insert_key part_cmp parts p

-- ---- all of it
-- the snapshots that were met, by any walk and by this one; the visits that were made of manifests
-- and of parts; the objects of these parts; and the faults in the order of finding
pub record Work : Type 0 where
  pub met : List Id12
  pub walk : List Id12
  pub files : List FileVisit
  pub parts : List PartVisit
  pub objects : List Id12
  pub faults : List CheckFault

abbrev pub no_work : Work
no_work = record { met = []; walk = []; files = []; parts = []; objects = []; faults = [] }

-- another walk begins
abbrev pub new_walk : Work → Work
new_walk w = record w { walk = [] }

abbrev pub meet_snapshot : Id12 → Work → Work
meet_snapshot id w = record w { met = with_object w.met id; walk = with_object w.walk id }

abbrev pub meet_file : FileVisit → Work → Work
meet_file f w = record w { files = with_file w.files f }

abbrev pub meet_part : PartVisit → Work → Work
meet_part p w = record w { parts = with_part w.parts p; objects = with_object w.objects p.object }

abbrev pub tell : Key → FaultKind → Work → Work
tell key kind w = record w { faults = with_fault key kind w.faults }

-- ---- what it answers
abbrev pub verdict_by : (snapshots chunks : ℕ) → List CheckFault → Result Checked Refusal
verdict_by snapshots chunks [] = Ok (record { snapshots = snapshots; chunks = chunks })
verdict_by snapshots chunks (fault ∷ faults) = Err (Unsound (length (fault ∷ faults)))

-- how many there are, or how many faults
abbrev pub verdict : Work → Result Checked Refusal
verdict w = verdict_by (length w.met) (length w.objects) w.faults
