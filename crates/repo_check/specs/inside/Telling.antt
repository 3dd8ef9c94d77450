-- Which manifests and objects have told a fault.
use Rattle.std.specs.Prelude.{◌≡◌, Bool, if◌then◌else◌, List}
use Rattle.ice_ids.specs.declared.Id12.{Id12}
use Rattle.ice_ids.specs.Sets.{has_object}
use Rattle.object_store.specs.declared.keys.Key.{Key}
use Rattle.object_store.specs.declared.keys.Key.TheVariants.{Manifest, Chunk}
use Rattle.check_reports.specs.declared.faults.FaultKind.{FaultKind}
use Rattle.check_reports.specs.declared.faults.CheckFault.{CheckFault}
use Rattle.repo_check.specs.Works.{has_fault, and_fault, with_fault}

-- these sets have the manifests and the objects with chunks that have told one
pub record AreTold (files objects : List Id12) (faults : List CheckFault) : Type 0 where
  pub files_are : (id : Id12) → has_object files id ≡ has_fault faults (Manifest id)
  pub objects_are : (id : Id12) → has_object objects id ≡ has_fault faults (Chunk id)

-- One more fault of this object: whether it is told, and the sets with it.
pub record NotesOne (key : Key) (kind : FaultKind) (faults : List CheckFault) (new : Bool)
    (files objects : List Id12) : Type 0 where
  pub is : with_fault key kind faults ≡ (if new then and_fault key kind faults else faults)
  pub told : AreTold files objects (with_fault key kind faults)

abbrev pub Notes : Key → (files objects : List Id12) → Bool
    → (more_files more_objects : List Id12) → Type 0
Notes key files objects new more_files more_objects =
    (kind : FaultKind) (faults : List CheckFault) → AreTold files objects faults
    → NotesOne key kind faults new more_files more_objects
