-- What a call that writes a file answers.
use Rattle.std.specs.Prelude.{◌≡◌, ◌≤◌, List, ℕ, length, Result, Ok, Err}
use Rattle.flat_tables.specs.declared.fault.WriteFault.{WriteFault}
use Rattle.flat_tables.specs.File.{file_limit, Refuses}

-- it wrote this file, which keeps to the limit; or it was refused, as its length tells
abbrev pub Writes : Result (List ℕ) WriteFault → (file : List ℕ) → Type 0
Writes (Ok written) file = (written ≡ file) × (length file ≤ file_limit)
Writes (Err fault) file = Refuses fault (length file)
