-- What a lease has still to do.
use Rattle.std.specs.Prelude.{ℕ}
use Rattle.ice_ids.specs.declared.Id12.{Id12}
use Rattle.store_api.specs.Plays.{Play, Ended}
use Rattle.leases.specs.declared.lease.Leased.{Leased}
use Rattle.leases.specs.declared.lease.Lease.{Lease}
use Rattle.leases.specs.declared.placing.Leasing.{Leasing}
use Rattle.leases.specs.declared.placing.Leasing.TheVariants as state
use Rattle.leases.specs.Plays.{lease_play, confirm_play}

abbrev pub leasing_rest : Id12 → Leasing → Play Leased
leasing_rest id (state.Put base w) = lease_play id base w
leasing_rest id (state.Confirm w) = confirm_play id w
leasing_rest id (state.Ended outcome) = Ended outcome

abbrev pub lease_rest : Lease → Play Leased
lease_rest m = leasing_rest m.id m.state

-- how many steps are left at most
abbrev pub leasing_left : Leasing → ℕ
leasing_left (state.Put base w) = 2
leasing_left (state.Confirm w) = 1
leasing_left (state.Ended outcome) = 0

abbrev pub lease_left : Lease → ℕ
lease_left m = leasing_left m.state
