-- The log of a file that stands for one.
use Rattle.std.specs.Prelude.{◌≡◌, ◌≢◌, ℕ, List, [], Result, Ok, Err}
use Rattle.flat_tables.specs.declared.header.Kind.TheVariants as kinds
use Rattle.flat_tables.specs.declared.fault.FileFault.{FileFault}
use Rattle.flat_tables.specs.declared.fault.FileFault.TheVariants.{NoMemory}
use Rattle.flat_tables.specs.Places.{TableIn, root_of}
use Rattle.file_fields.specs.Fields.{payload_in}
use Rattle.txn_file.specs.declared.log.TxnFile.{TxnFile}
use Rattle.txn_file.specs.Logs.{txn_of}

-- the log that was read, and an empty one where there is a fault
abbrev pub log_or_empty : Result TxnFile FileFault → TxnFile
log_or_empty (Ok log) = log
log_or_empty (Err fault) = record {
  id = record { 0 = [] };
  lists = record {
    new_groups = [];
    new_arrays = [];
    deleted_groups = [];
    deleted_arrays = [];
    updated_arrays = [];
    updated_groups = [];
    updated_chunks = [];
  };
}

-- the root table of a file that stands for a log
abbrev pub RootOf : List ℕ → TableIn → Type 0
RootOf file table =
    (payload : List ℕ) × (payload_in kinds.Log file ≡ Ok payload) × (root_of payload ≡ Ok table)

-- a file was held as the log that it stands for, or came back with the fault that it
-- has, which is no want of memory
abbrev pub IsHeldAs : List ℕ → Result TxnFile (List ℕ × FileFault) → Type 0
IsHeldAs file (Ok log) = txn_of file ≡ Ok log
IsHeldAs file (Err back) = (back.0 ≡ file) × (txn_of file ≡ Err back.1) × (back.1 ≢ NoMemory)
