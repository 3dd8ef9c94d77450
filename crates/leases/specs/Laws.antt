-- The law of leases.
use Rattle.std.specs.Prelude.{ℕ, List, [], ◌++◌, Result}
use Rattle.ice_ids.specs.declared.Id12.{Id12}
use Rattle.ice_ids.specs.Text.{IsId12}
use Rattle.object_store.specs.declared.keys.Key.TheVariants.{Snapshot}
use Rattle.object_store.specs.declared.events.Event.{Event}
use Rattle.store_api.specs.declared.machines.Refusal.{Refusal}
use Rattle.store_api.specs.Journal.{Each, IsGood, IsPolite, WasPut}
use Rattle.store_api.specs.Callers.{Caller, IsOther}
use Rattle.store_api.specs.Plays.{PlayKeeps, PlayLeads}
use Rattle.leases.specs.declared.lease.Leased.{Leased}
use Rattle.leases.specs.declared.witness.Witness.{Witness}
use Rattle.leases.specs.Plays.{lease_play, release_play}
use Rattle.leases.specs.Telling.{LeaseTells, NamedBy, ReleaseTells}
use Rattle.leases.specs.Telling.{StillNames, WasConfirmed, confirmed_at}

-- Whatever others do: each operation of a lease is polite, where its base was put, and so is a
-- release; the outcomes tell the journal; and what they tell stays so. Where a ref had named the
-- base, and the lease was confirmed, the ref names the base at that get.
pub record LeaseLaw (by : Caller) : Type 0 where
  pub polite : (id base : Id12) (w : Witness) (journal : List Event)
      → IsId12 base → WasPut journal (Snapshot base)
      → PlayKeeps (λ h client op. IsPolite h op) by (lease_play id base w) journal
  pub leads : (id base : Id12) (w : Witness) (start : List Event)
      → PlayLeads (LeaseTells by.number id base w start) by (lease_play id base w) start
  pub kept : (id base : Id12) (w : Witness) (outcome : Leased) (start journal more : List Event)
      → Each (IsOther by) journal more → LeaseTells by.number id base w start outcome journal
      → LeaseTells by.number id base w start outcome (journal ++ more)
  pub release_polite : (id : Id12) (journal : List Event)
      → PlayKeeps (λ h client op. IsPolite h op) by (release_play id) journal
  pub release_leads : (id : Id12) (start : List Event)
      → PlayLeads (ReleaseTells by.number id start) by (release_play id) start
  pub release_kept : (id : Id12) (result : Result (Unit {0}) Refusal)
      (start journal more : List Event)
      → Each (IsOther by) journal more → ReleaseTells by.number id start result journal
      → ReleaseTells by.number id start result (journal ++ more)
  pub confirms : (client : ℕ) (w : Witness) (base : Id12) (start journal : List Event)
      → Each IsGood [] journal → NamedBy w base start → (c : WasConfirmed client w start journal)
      → StillNames w base (confirmed_at client start journal w c)
