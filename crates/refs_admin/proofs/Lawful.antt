-- The laws of calls on refs.
use Rattle.store_api.specs.Callers.{Caller}
use Rattle.refs_admin.specs.Laws.{RefsLaw}
use Rattle.repo_read.proofs.NamingTold.{naming-told}
use Rattle.refs_admin.proofs.Targets.{Spelled}
use Rattle.refs_admin.proofs.NewRepository.{init-polite, init-leads}
use Rattle.refs_admin.proofs.NewBranch.{branch_new-polite, branch_new-leads}
use Rattle.refs_admin.proofs.ResetBranch.{branch_reset-polite, branch_reset-leads}
use Rattle.refs_admin.proofs.DropBranch.{branch_drop-polite, branch_drop-leads}
use Rattle.refs_admin.proofs.NewTag.{tag_new-polite, tag_new-leads}
use Rattle.refs_admin.proofs.Lines.{log-polite, log-leads}
use Rattle.refs_admin.proofs.Kept.{init-kept, branch_new-kept, branch_reset-kept, branch_drop-kept, tag_new-kept, tag_drop-kept, log-kept}
use Rattle.refs_admin.proofs.DropTag.{tag_drop-polite, tag_drop-leads}

pub refs-law : Spelled → (by : Caller) → RefsLaw by
refs-law laws by = record {
  resolve = naming-told by;
  init = record { polite = init-polite laws by; leads = init-leads by; kept = λ result start journal more others t. init-kept by start journal more others result t };
  branch_new = λ name at. record { polite = branch_new-polite laws by name at; leads = branch_new-leads by name at; kept = λ result start journal more others t. branch_new-kept by start journal more others name at result t };
  branch_reset = λ name at. record { polite = branch_reset-polite laws by name at; leads = branch_reset-leads by name at; kept = λ result start journal more others t. branch_reset-kept by start journal more others name at result t };
  branch_drop = λ name. record { polite = branch_drop-polite by name; leads = branch_drop-leads by name; kept = λ result start journal more others t. branch_drop-kept by start journal more others name result t };
  tag_new = λ name at. record { polite = tag_new-polite laws by name at; leads = tag_new-leads by name at; kept = λ result start journal more others t. tag_new-kept by start journal more others name at result t };
  tag_drop = λ name. record { polite = tag_drop-polite by name; leads = tag_drop-leads by name; kept = λ result start journal more others t. tag_drop-kept by start journal more others name result t };
  log = λ at. record { polite = log-polite by at; leads = log-leads by at; kept = λ result start journal more others t. log-kept by start journal more others at result t };
}
