-- Laws of transaction logs and their files.
use Rattle.std.specs.Prelude.{◌≡◌, ◌≤◌, ℕ, nat_lt, true, List, length, Ok}
use Rattle.std.specs.List.{list_all}
use Rattle.ice_ids.specs.declared.Id12.{Id12}
use Rattle.flat_tables.specs.File.{file_limit}
use Rattle.zarr_tree.specs.declared.lists.Touched.{Touched}
use Rattle.zarr_tree.specs.Touched as touched
use Rattle.txn_file.specs.declared.log.TxnFile.{TxnFile}
use Rattle.txn_file.specs.Logs.{txn_of}
use Rattle.txn_file.specs.Layout.{log_file, IsOrdered, IsLog}

-- what a file stands for can be written
abbrev pub OrderedLaw : Type 0
OrderedLaw = (file : List ℕ) (log : TxnFile) → txn_of file ≡ Ok log → IsOrdered log

-- the one file of a log, if it isn't too long, stands for the log
abbrev pub RoundTripLaw : Type 0
RoundTripLaw =
    (log : TxnFile) → IsLog log → IsOrdered log → length (log_file log) ≤ file_limit
    → txn_of (log_file log) ≡ Ok log

-- a log can be written exactly where its lists stand in the order of what changes touch
pub record TouchedLaw : Type 0 where
  pub writable : (id : Id12) (s : Touched) → touched.IsOrdered s
      → IsOrdered (record { id = id; lists = s })
  pub listed : (id : Id12) (s : Touched) → IsOrdered (record { id = id; lists = s })
      → touched.IsOrdered s

-- the file of a log is bytes
abbrev pub BytesLaw : Type 0
BytesLaw = (log : TxnFile) → IsLog log → list_all (λ n. nat_lt n 256) (log_file log) ≡ true
