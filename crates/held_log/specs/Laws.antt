-- Holding a file and reading it agree.
use Rattle.std.specs.Prelude.{◌≡◌, ◌⊎◌, ℕ, List, Result, Ok, Err}
use Rattle.flat_tables.specs.declared.fault.FileFault.{FileFault}
use Rattle.flat_tables.specs.declared.fault.FileFault.TheVariants.{NoMemory}
use Rattle.flat_tables.specs.Rows.{Reads}
use Rattle.txn_file.specs.declared.log.TxnFile.{TxnFile}
use Rattle.txn_file.specs.Logs.{txn_of}
use Rattle.held_log.specs.Files.{IsHeldAs}

-- the same log, or the same fault, unless memory ran out in the reading
abbrev pub Agree : Result TxnFile FileFault → Result TxnFile (List ℕ × FileFault) → List ℕ → Type 0
Agree (Ok log) held file = held ≡ Ok log
Agree (Err fault) held file = (fault ≡ NoMemory) ⊎ (held ≡ Err (file, fault))

-- whatever reading a file and holding it answer, they agree
abbrev pub HeldLaw : Type 0
HeldLaw =
    (file : List ℕ) (read : Result TxnFile FileFault) (held : Result TxnFile (List ℕ × FileFault))
    → Reads (λ log. log) read (txn_of file) → IsHeldAs file held → Agree read held file
