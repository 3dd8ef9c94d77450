-- The law of a settling.
use Rattle.repo_objects.specs.Laws.{SnapshotLaw}
use Rattle.store_api.specs.Callers.{Caller}
use Rattle.settle.specs.Laws.{SettleLaw}
use Rattle.settle.proofs.Reading.{settle-polite, settle-stays}
use Rattle.settle.proofs.Ways.{settle-leads}
use Rattle.settle.proofs.Kept.{settle-kept}

pub settle-law : SnapshotLaw → (by : Caller) → SettleLaw by
settle-law law by = record {
  told = λ branch d. record { polite = settle-polite by branch d; leads = settle-leads law by branch d; kept = λ result start journal more others t. settle-kept by branch d start journal more others result t };
  gets = settle-stays by;
}
