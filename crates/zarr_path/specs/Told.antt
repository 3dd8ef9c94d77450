-- The texts of faults (own).
use Rattle.std.specs.Prelude.{ℕ, List, ◌++◌, codes}
use Rattle.std.specs.Fmt.{decimal}
use Rattle.zarr_path.specs.declared.keys.KeyFault.{KeyFault}
use Rattle.zarr_path.specs.declared.keys.KeyFault.TheVariants as k
use Rattle.zarr_path.specs.declared.paths.PathFault.{PathFault}
use Rattle.zarr_path.specs.declared.paths.PathFault.TheVariants as f

abbrev pub path_fault_text : PathFault → List ℕ
path_fault_text (f.Long bytes) = codes "a path of " ++ (decimal bytes ++ codes " bytes is too long")
path_fault_text f.Relative = codes "a path begins with a slash"
path_fault_text (f.Name at) = codes "no name at byte " ++ (decimal at ++ codes " of a path")
path_fault_text f.NoMemory = codes "out of memory"

abbrev pub key_fault_text : KeyFault → List ℕ
key_fault_text k.NotAKey = codes "not a key of metadata or of a chunk"
key_fault_text k.NoMemory = codes "out of memory"
