-- The law of leases.
use Rattle.repo_objects.specs.Laws.{RefLaw}
use Rattle.store_api.specs.Callers.{Caller}
use Rattle.leases.specs.Laws.{LeaseLaw}
use Rattle.leases.proofs.Polite.{lease-polite, release-polite}
use Rattle.leases.proofs.Leading.{lease-leads, release-leads}
use Rattle.leases.proofs.Kept.{lease-kept, release-kept}
use Rattle.leases.proofs.Confirming.{confirms}

pub lease-law : RefLaw → (by : Caller) → LeaseLaw by
lease-law law by = record {
  polite = λ id base w journal i put. lease-polite by id law base w journal i put;
  leads = λ id base w start. lease-leads by id base start w;
  kept = λ id base w outcome start journal more others t. lease-kept by start journal more others id base w outcome t;
  release_polite = λ id journal. release-polite by id journal;
  release_leads = λ id start. release-leads by id start;
  release_kept = λ id result start journal more others t. release-kept by start journal more others id result t;
  confirms = λ client w base start journal goods named c. confirms client w base start journal goods named c;
}
