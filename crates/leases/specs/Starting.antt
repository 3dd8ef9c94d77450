-- How a lease of a session begins.
use Rattle.std.specs.Prelude.{◌≡◌, Result, Ok, Err}
use Rattle.ice_ids.specs.Drawing.{drawn12}
use Rattle.store_api.specs.declared.machines.Refusal.{Refusal}
use Rattle.store_api.specs.declared.machines.Refusal.TheVariants.{NoMemory}
use Rattle.store_api.specs.Plays.{Play}
use Rattle.session.specs.Sessions.{SessionState}
use Rattle.session.specs.Chunks.{after_draw}
use Rattle.leases.specs.declared.lease.Leased.{Leased}
use Rattle.leases.specs.declared.lease.Lease.{Lease}
use Rattle.leases.specs.Plays.{witness_of, lease_with}
use Rattle.leases.specs.Resting.{lease_rest}

-- the play of a lease of this session, under the next id that it draws, or why there is none
abbrev pub lease_of : SessionState → Result (Play Leased) Refusal
lease_of s = lease_with (witness_of s.origin) (drawn12 s.ids) s.base

-- It begins, and the session has drawn its id; or this refuses it, and the session is as it was.
-- Want of memory may come instead.
abbrev pub Starts : SessionState → Result Lease Refusal → SessionState → Type 0
Starts s (Ok m) t = (lease_of s ≡ Ok (lease_rest m)) × (t ≡ after_draw s)
Starts s (Err NoMemory) t = t ≡ s
Starts s (Err why) t = (lease_of s ≡ Err why) × (t ≡ s)
