-- A folder of the system.
use Rattle.std.specs.Prelude.{ℕ, List, string_bytes}
use Rattle.folder.specs.declared.system.SystemFolder.{SystemFolder}

-- where it lies
abbrev pub root_of : {R F D : Type 0} → SystemFolder R F D → List ℕ
root_of folder = string_bytes folder.root
