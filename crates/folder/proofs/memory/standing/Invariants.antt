use Rattle.std.proofs.Common.{◌≡◌, take}
use Rattle.std.specs.Prelude.{option_copied}
use Rattle.folder.specs.Memory.{content_of, content_at}
use Rattle.folder.proofs.memory.standing.Given as goal

abbrev pub invariant-loop-change : goal.invariant-loop-change
invariant-loop-change l = content_of (option_copied l.found) ≡ content_at (take l.change-index l.changes) l.path
