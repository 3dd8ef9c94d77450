-- Each operation of a lease and of its release is polite.
use Rattle.std.proofs.Common.{ℕ, List, refl}
use Rattle.ice_ids.specs.declared.Id12.{Id12}
use Rattle.ice_ids.specs.Text.{IsId12}
use Rattle.ref_file.specs.Refs.{ref_bytes}
use Rattle.repo_objects.specs.Laws.{RefLaw}
use Rattle.object_store.specs.declared.keys.Key.TheVariants.{Snapshot}
use Rattle.object_store.specs.declared.events.New.TheVariants.{Done as New_done, Present}
use Rattle.object_store.specs.declared.events.Op.{Op}
use Rattle.object_store.specs.declared.events.Reply.{Reply}
use Rattle.object_store.specs.declared.events.Reply.TheVariants.{Got, New, Over, Gone, GoneAt, Listed, Failed}
use Rattle.object_store.specs.declared.events.Event.{Event}
use Rattle.store_api.specs.Journal.{IsPolite, NamesPut, WasPut}
use Rattle.store_api.specs.Callers.{Caller}
use Rattle.store_api.specs.Plays.{PlayKeeps}
use Rattle.leases.specs.declared.witness.Witness.{Witness}
use Rattle.leases.specs.Plays.{after_put, after_release, confirm_play, lease_play, release_play}

abbrev Polite : List Event → ℕ → Op → Type 0
Polite journal client op = IsPolite journal op

module _ (by : Caller) (id : Id12) where
  confirm-polite : (w : Witness) (h : List Event) → PlayKeeps Polite by (confirm_play id w) h
  unfolding PlayKeeps
  confirm-polite w h = (tt, tt, λ reply new m. tt)

  after-polite : (w : Witness) (reply : Reply) (h : List Event) → PlayKeeps Polite by (after_put id w reply) h
  unfolding PlayKeeps
  after-polite w (New (New_done version now)) h = confirm-polite w h
  after-polite w (New (Present version now)) h = tt
  after-polite w (Got x) h = tt
  after-polite w (Over x) h = tt
  after-polite w (Gone x) h = tt
  after-polite w (GoneAt x) h = tt
  after-polite w (Listed x) h = tt
  after-polite w (Failed done) h = tt

  -- a reference to a base that was put
  names-put : RefLaw → (base : Id12) (h : List Event) → IsId12 base → WasPut h (Snapshot base) → NamesPut h (ref_bytes base)
  names-put law base h i put = record { id = base; reference = law.written base i; put = put }

  pub lease-polite : RefLaw → (base : Id12) (w : Witness) (h : List Event) → IsId12 base → WasPut h (Snapshot base) → PlayKeeps Polite by (lease_play id base w) h
  unfolding PlayKeeps
  lease-polite law base w h i put = ((names-put law base h i put, refl), tt, λ reply new m. after-polite w reply new)

  released-polite : (reply : Reply) (h : List Event) → PlayKeeps Polite by (after_release reply) h
  unfolding PlayKeeps
  released-polite (Gone x) h = tt
  released-polite (New x) h = tt
  released-polite (Got x) h = tt
  released-polite (Over x) h = tt
  released-polite (GoneAt x) h = tt
  released-polite (Listed x) h = tt
  released-polite (Failed done) h = tt

  pub release-polite : (h : List Event) → PlayKeeps Polite by (release_play id) h
  unfolding PlayKeeps
  release-polite h = (refl, tt, λ reply new m. released-polite reply new)
