-- Calls that failed: their causes, and the texts of both (own).
use Rattle.std.specs.Prelude.{List, ℕ, ℤ, Option, Some, None, codes}
use Rattle.std.specs.Fmt.{◌++?◌}
use Rattle.std.specs.declared.io.ErrorKind.{ErrorKind}
use Rattle.std.specs.declared.io.ErrorKind.TheVariants as K
use Rattle.folder.specs.declared.faults.Call.{Call}
use Rattle.folder.specs.declared.faults.Call.TheVariants as C
use Rattle.folder.specs.declared.faults.Cause.{Cause}
use Rattle.folder.specs.declared.faults.Cause.TheVariants as W
use Rattle.folder.specs.declared.faults.FileFault.{FileFault}
use Rattle.folder.specs.declared.faults.FileFault.TheVariants as F
use Rattle.folder.specs.declared.faults.Trouble.{Trouble}

-- why the system refused a call, by the number that it gave, if it gave one
abbrev pub cause_by : Option ℤ → Cause
cause_by None = W.Unnamed
cause_by (Some code) = W.System code

-- why a call wasn't done that takes memory, for a cause of this kind, with the system's number
abbrev pub fault_by : Call → ErrorKind → Option ℤ → FileFault
fault_by call K.OutOfMemory number = F.NoMemory
fault_by call _ number = F.Failed (record { call = call; cause = cause_by number })

abbrev pub call_text : Call → List ℕ
call_text C.Look = codes "look at"
call_text C.Open = codes "open"
call_text C.Read = codes "read"
call_text C.Write = codes "write"
call_text C.Flush = codes "flush"
call_text C.MakeFolder = codes "make folder"
call_text C.Link = codes "link"
call_text C.Move = codes "move"
call_text C.Remove = codes "remove"
call_text C.List = codes "list"
call_text C.Lock = codes "lock"

-- of a number the system has the text
abbrev pub cause_text : Cause → Option (List ℕ)
cause_text (W.System code) = None
cause_text W.Unnamed = Some (codes "it failed")
cause_text W.NotFile = Some (codes "it is no plain file")
cause_text W.NotFolder = Some (codes "it is no folder")
cause_text W.Unreached = Some (codes "what should be its folder is no folder")
cause_text W.NoAside = Some (codes "icerepo.new is no folder")
cause_text W.TooLong = Some (codes "it is longer than a file may be")
cause_text W.Changed = Some (codes "it was changed meanwhile")
cause_text W.NoRoom = Some (codes "there is no room")
cause_text W.CutOff = Some (codes "it was cut off")

abbrev pub trouble_text : Trouble → Option (List ℕ)
trouble_text trouble =
    Some (call_text trouble.call) ++? Some (codes ": ") ++? cause_text trouble.cause
