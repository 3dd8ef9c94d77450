-- What the outcomes of a lease and of its release tell stays so, whatever others do.
use Rattle.std.proofs.Common.{◌≡◌, ◌⊎◌, inl, inr, ℕ, List, ◌++◌}
use Rattle.std.specs.Prelude.{Option, Some, None, Result, Ok, Err}
use Rattle.ice_ids.specs.declared.Id12.{Id12}
use Rattle.object_store.specs.declared.keys.Key.TheVariants.{Branch, Tombstone}
use Rattle.object_store.specs.declared.events.Version.{Version}
use Rattle.object_store.specs.declared.events.Op.{Op}
use Rattle.object_store.specs.declared.events.Op.TheVariants.{Get}
use Rattle.object_store.specs.declared.events.Got.TheVariants.{Found, Absent}
use Rattle.object_store.specs.declared.events.New.TheVariants.{Done as New_done, Present}
use Rattle.object_store.specs.declared.events.Reply.{Reply}
use Rattle.object_store.specs.declared.events.Reply.TheVariants.{Got, New, Gone as Is_gone, Failed}
use Rattle.object_store.specs.declared.events.Event.{Event}
use Rattle.object_store.specs.Machine.{version_at}
use Rattle.store_api.specs.declared.machines.Refusal.{Refusal}
use Rattle.store_api.specs.declared.machines.Refusal.TheVariants as R
use Rattle.store_api.specs.Journal.{Each}
use Rattle.store_api.specs.Callers.{Caller, IsOther}
use Rattle.store_api.specs.Telling.{HasOwn, MadeGets, MadeOne, WasFailure}
use Rattle.store_api.proofs.Happening.{HasOwn-append}
use Rattle.repo_read.proofs.Own.{MadeGets-append, MadeOne-append, others-get}
use Rattle.repo_read.proofs.NamingTold.{WasFailure-append}
use Rattle.leases.specs.declared.lease.Leased.{Leased}
use Rattle.leases.specs.declared.witness.Witness.{Witness}
use Rattle.leases.specs.declared.witness.Witness.TheVariants as W
use Rattle.leases.specs.Plays.{leases, releases, witness_key}
use Rattle.leases.specs.Telling.{BranchWasAt, LeaseTells, PlacedOr, PlacedTells, ReleaseTells, UnplacedTells, WasConfirmed, WasNotAsked, WasPlaced, WasRefuted, placing}

module _ (by : Caller) (start journal more : List Event) (others : Each (IsOther by) journal more) where
  gets : MadeGets by.number start journal → MadeGets by.number start (journal ++ more)
  gets c = MadeGets-append by.number start journal more (others-get by journal more others) c

  abbrev one : (op : Op) (reply : Reply) → MadeOne by.number op reply start journal → MadeOne by.number op reply start (journal ++ more)
  one op reply m = MadeOne-append by.number op reply start journal more (others-get by journal more others) m

  failure : (kind : Op → Type 0) → WasFailure by.number kind start journal → WasFailure by.number kind start (journal ++ more)
  failure kind w = WasFailure-append by.number kind start journal more (others-get by journal more others) w

  -- ---- behind a put
  abbrev own : (from : List Event) (op : Op) (reply : Reply) → HasOwn by.number op reply from journal → HasOwn by.number op reply from (journal ++ more)
  own from op reply h = HasOwn-append by.number op reply from journal more h

  abbrev placed : (id base : Id12) → WasPlaced by.number id base start journal → WasPlaced by.number id base start (journal ++ more)
  placed id base p = record { version = p.version; now = p.now; made = one (leases id base) (New (New_done p.version p.now)) p.made; position = p.position; free = p.free }

  at : (from : List Event) (branch : List ℕ) (version : ℕ) → BranchWasAt by.number branch version from journal → BranchWasAt by.number branch version from (journal ++ more)
  at from branch version b = record { bytes = b.bytes; got = record { now = b.got.now; own = own from (Get (Branch branch)) (Got (Found b.bytes (version_at version) b.got.now)) b.got.own }; stood = b.stood }

  confirmed : (from : List Event) (w : Witness) → WasConfirmed by.number w from journal → WasConfirmed by.number w from (journal ++ more)
  confirmed from (W.Branch tip) c = at from tip.branch tip.version.0 c
  confirmed from (W.Tag tag) c = record { now = c.now; own = own from (Get (Tombstone tag)) (Got (Absent c.now)) c.own; nothing = c.nothing }

  refuted : (from : List Event) (w : Witness) (there : Option Version) → WasRefuted by.number w there from journal → WasRefuted by.number w there from (journal ++ more)
  refuted from (W.Branch tip) None c = record { now = c.now; own = own from (Get (Branch tip.branch)) (Got (Absent c.now)) c.own; nothing = c.nothing }
  refuted from (W.Branch tip) (Some version) c = (c.0, at from tip.branch version.0 c.1)
  refuted from (W.Tag tag) None c = absurd c
  refuted from (W.Tag tag) (Some version) c = record { bytes = c.bytes; got = record { now = c.got.now; own = own from (Get (Tombstone tag)) (Got (Found c.bytes (version_at version.0) c.got.now)) c.got.own } }

  -- ---- a lease
  module _ (id base : Id12) (w : Witness) where
    fault : WasFailure by.number (λ op. op ≡ leases id base) start journal ⊎ WasNotAsked by.number id base w start journal → WasFailure by.number (λ op. op ≡ leases id base) start (journal ++ more) ⊎ WasNotAsked by.number id base w start (journal ++ more)
    fault (inl f) = inl (failure (λ op. op ≡ leases id base) f)
    fault (inr n) = inr (record { placed = placed id base n.placed; done = n.done; own = own (placing n.placed) (Get (witness_key w)) (Failed n.done) n.own })

    placed-kept : (result : Result (Unit {0}) Refusal) → PlacedTells by.number id base w start result journal → PlacedTells by.number id base w start result (journal ++ more)
    placed-kept (Ok done) t = record { placed = placed id base t.placed; confirmed = confirmed (placing t.placed) w t.confirmed }
    placed-kept (Err (R.Moved there)) t = record { placed = placed id base t.placed; refuted = refuted (placing t.placed) w there t.refuted }
    placed-kept (Err R.StoreFault) t = fault t
    placed-kept (Err R.NoMemory) t = placed id base t
    placed-kept (Err _) t = absurd t

    unplaced-kept : (result : Result (Unit {0}) Refusal) → UnplacedTells by.number id base start result journal → UnplacedTells by.number id base start result (journal ++ more)
    unplaced-kept (Ok done) t = absurd t
    unplaced-kept (Err (R.IdTaken key)) t = (t.0, record { version = t.1.version; now = t.1.now; made = one (leases id base) (New (Present t.1.version t.1.now)) t.1.made; there = t.1.there })
    unplaced-kept (Err R.NoMemory) t = gets t
    unplaced-kept (Err _) t = absurd t

    either-kept : (at : Option Id12) (result : Result (Unit {0}) Refusal) → PlacedOr by.number id base w start at result journal → PlacedOr by.number id base w start at result (journal ++ more)
    either-kept (Some x) result t = (t.0, placed-kept result t.1)
    either-kept None result t = unplaced-kept result t

    pub lease-kept : (outcome : Leased) → LeaseTells by.number id base w start outcome journal → LeaseTells by.number id base w start outcome (journal ++ more)
    lease-kept outcome t = either-kept outcome.placed outcome.result t

  -- ---- a release
  pub release-kept : (id : Id12) (result : Result (Unit {0}) Refusal) → ReleaseTells by.number id start result journal → ReleaseTells by.number id start result (journal ++ more)
  release-kept id (Ok done) t = record { gone = t.gone; made = one (releases id) (Is_gone t.gone) t.made; absent = t.absent }
  release-kept id (Err R.StoreFault) t = failure (λ op. op ≡ releases id) t
  release-kept id (Err R.NoMemory) t = gets t
  release-kept id (Err _) t = absurd t
