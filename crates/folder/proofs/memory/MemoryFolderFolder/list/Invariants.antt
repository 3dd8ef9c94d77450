use Rattle.std.proofs.Common.{take, map}
use Rattle.std.specs.Prelude.{string_bytes}
use Rattle.folder.specs.Memory.{TellsChanges}
use Rattle.folder.proofs.memory.MemoryFolderFolder.list.Given as goal

abbrev pub invariant-loop-change : goal.invariant-loop-change
invariant-loop-change l = TellsChanges (take l.change-index l.change-items) l.path (map string_bytes l.names.items)
