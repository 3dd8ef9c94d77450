-- What the play of a lease comes to.
use Rattle.std.proofs.Common.{◌≡◌, ◌∙◌, refl, ap}
use Rattle.std.specs.Prelude.{Option, Some, None, Result, Ok, Err}
use Rattle.ice_ids.specs.declared.Id12.{Id12}
use Rattle.ice_ids.specs.Drawing.{drawn12}
use Rattle.object_store.specs.declared.keys.Key.TheVariants.{Lease as Lease_key}
use Rattle.object_store.specs.declared.events.New.TheVariants.{Done as New_done, Present}
use Rattle.object_store.specs.declared.events.Reply.{Reply}
use Rattle.object_store.specs.declared.events.Reply.TheVariants.{Got, New, Over, Gone, GoneAt, Listed, Failed}
use Rattle.store_api.specs.declared.machines.Refusal.{Refusal}
use Rattle.store_api.specs.declared.machines.Refusal.TheVariants.{StoreFault, IdTaken, IdsSpent, Unnamed}
use Rattle.store_api.specs.Plays.{Play}
use Rattle.session.specs.Sessions.{SessionState}
use Rattle.leases.specs.declared.lease.Leased.{Leased}
use Rattle.leases.specs.declared.witness.Witness.{Witness}
use Rattle.leases.specs.Plays.{after_put, confirm_play, ends_with, lease_play, lease_with, witness_of}
use Rattle.leases.specs.Starting.{lease_of}

-- the answer to the put of a lease
pub put-cases : (P : Play Leased → Type 0) (id : Id12) (w : Witness) → P (confirm_play id w) → P (ends_with None (Err (IdTaken (Lease_key id)))) → P (ends_with (Some id) (Err StoreFault)) → (reply : Reply) → P (after_put id w reply)
put-cases P id w done taken failed (New (New_done version now)) = done
put-cases P id w done taken failed (New (Present version now)) = taken
put-cases P id w done taken failed (Got x) = failed
put-cases P id w done taken failed (Over x) = failed
put-cases P id w done taken failed (Gone x) = failed
put-cases P id w done taken failed (GoneAt x) = failed
put-cases P id w done taken failed (Listed x) = failed
put-cases P id w done taken failed (Failed x) = failed

-- it begins under the id that the session draws next, to be confirmed by what named its base; or this refuses it
pub lease-cases : (P : Result (Play Leased) Refusal → Type 0) (s : SessionState) → ((id : Id12) (w : Witness) → drawn12 s.ids ≡ Some id → witness_of s.origin ≡ Some w → P (Ok (lease_play id s.base w))) → ((why : Refusal) → lease_of s ≡ Err why → P (Err why)) → P (lease_of s)
lease-cases P s begun refused = by_witness (witness_of s.origin) refl (drawn12 s.ids) refl
  where
    by_witness : (w : Option Witness) → witness_of s.origin ≡ w → (i : Option Id12) → drawn12 s.ids ≡ i → P (lease_with w i s.base)
    by_witness None e i f = refused Unnamed (ap (λ (w : Option Witness). lease_with w (drawn12 s.ids) s.base) e)
    by_witness (Some w) e None f = refused IdsSpent (ap (λ (x : Option Witness). lease_with x (drawn12 s.ids) s.base) e ∙ ap (λ (i : Option Id12). lease_with (Some w) i s.base) f)
    by_witness (Some w) e (Some id) f = begun id w f e
