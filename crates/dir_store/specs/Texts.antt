-- The texts of faults (own).
use Rattle.std.specs.Prelude.{List, ℕ, Option, Some, codes, string_bytes}
use Rattle.std.specs.Fmt.{debug_str, ◌++?◌}
use Rattle.folder.specs.Told.{call_text, cause_text, trouble_text}
use Rattle.dir_store.specs.declared.directory.FirstFault.{FirstFault}
use Rattle.dir_store.specs.declared.faults.OpenFault.{OpenFault}
use Rattle.dir_store.specs.declared.faults.OpenFault.TheVariants as O

-- the call that failed, its path in quotes, and the cause
abbrev pub fault_text : FirstFault → Option (List ℕ)
fault_text fault =
    Some (call_text fault.trouble.call) ++? Some (codes " ") ++? debug_str (string_bytes fault.path)
    ++? Some (codes ": ") ++? cause_text fault.trouble.cause

-- why a directory can't be used
abbrev pub open_text : OpenFault → Option (List ℕ)
open_text O.Missing = Some (codes "nothing is there")
open_text O.NotDirectory = Some (codes "it isn't a directory")
open_text O.Taken = Some (codes "another program uses it")
open_text (O.Failed trouble) =
    Some (codes "it can't be listed or written: ") ++? trouble_text trouble
open_text O.NoRandom = Some (codes "there are no random bytes")
open_text O.NoMemory = Some (codes "there is no memory")
