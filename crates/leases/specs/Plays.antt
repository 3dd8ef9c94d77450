-- The plays of a lease and of its release: what is put, what has to confirm it, and what is told at
-- the end. (Own. A lease keeps what a session's base reaches, while the session is open.)
use Rattle.std.specs.Prelude.{◌==◌, if◌then◌else◌, Bool, false, Option, Some, None, Result, Ok, Err}
use Rattle.ice_ids.specs.declared.Id12.{Id12}
use Rattle.ref_file.specs.Refs.{ref_bytes}
use Rattle.object_store.specs.declared.keys.Key.{Key}
use Rattle.object_store.specs.declared.keys.Key.TheVariants.{Branch, Tombstone, Lease}
use Rattle.object_store.specs.declared.keys.Why.TheVariants.{Lease as For_lease}
use Rattle.object_store.specs.declared.events.Version.{Version}
use Rattle.object_store.specs.declared.events.Op.{Op}
use Rattle.object_store.specs.declared.events.Op.TheVariants.{Get, PutNew, Remove}
use Rattle.object_store.specs.declared.events.Got.TheVariants.{Found, Absent}
use Rattle.object_store.specs.declared.events.New.TheVariants.{Done as New_done, Present}
use Rattle.object_store.specs.declared.events.Reply.{Reply}
use Rattle.object_store.specs.declared.events.Reply.TheVariants.{Got, New, Gone}
use Rattle.store_api.specs.declared.machines.Refusal.{Refusal}
use Rattle.store_api.specs.declared.machines.Refusal.TheVariants.{StoreFault, IdTaken, NoMemory}
use Rattle.store_api.specs.declared.machines.Refusal.TheVariants.{IdsSpent, Moved, Unnamed}
use Rattle.store_api.specs.Program.{is_fault}
use Rattle.store_api.specs.Plays.{Play, Ended, Ask}
use Rattle.session.specs.declared.origin.Origin.{Origin}
use Rattle.session.specs.declared.origin.Origin.TheVariants.{Writes, ReadsBranch, ReadsTag, ReadsId}
use Rattle.leases.specs.declared.lease.Leased.{Leased}
use Rattle.leases.specs.declared.witness.Witness.{Witness}
use Rattle.leases.specs.declared.witness.Witness.TheVariants as W

-- ---- what confirms a lease
-- the ref that named a session's base: a branch at the version at which it did, or a tag;
-- the snapshot's own id is no ref
abbrev pub witness_of : Origin → Option Witness
witness_of (Writes tip) = Some (W.Branch tip)
witness_of (ReadsBranch tip) = Some (W.Branch tip)
witness_of (ReadsTag tag) = Some (W.Tag tag)
witness_of ReadsId = None

-- what is got to confirm it: the branch, or the tag's tombstone
abbrev pub witness_key : Witness → Key
witness_key (W.Branch tip) = Branch tip.branch
witness_key (W.Tag tag) = Tombstone tag

-- a branch has to stand at this version
abbrev pub stands_at : (wanted : Version) → Reply → Result (Unit {0}) Refusal
stands_at wanted (Got (Found bytes version now)) =
    if version.0 == wanted.0 then Ok tt else Err (Moved (Some version))
stands_at wanted (Got (Absent now)) = Err (Moved None)
stands_at wanted _ = Err StoreFault

-- a tombstone has to be absent
abbrev pub has_none : Reply → Result (Unit {0}) Refusal
has_none (Got (Found bytes version now)) = Err (Moved (Some version))
has_none (Got (Absent now)) = Ok tt
has_none _ = Err StoreFault

abbrev pub confirmed : Witness → Reply → Result (Unit {0}) Refusal
confirmed (W.Branch tip) = stands_at tip.version
confirmed (W.Tag tag) = has_none

-- ---- a lease
-- it has ended: the id of the lease that may stand, and whether it was confirmed
abbrev pub ends_with : Option Id12 → Result (Unit {0}) Refusal → Play Leased
ends_with placed result = Ended (record { placed = placed; result = result })

abbrev pub after_confirm : Id12 → (Reply → Result (Unit {0}) Refusal) → Reply → Play Leased
after_confirm id told reply = ends_with (Some id) (told reply)

-- gets what has to confirm a lease that was put
abbrev pub confirm_play : Id12 → Witness → Play Leased
confirm_play id w =
    Ask (Get (witness_key w)) (ends_with (Some id) (Err NoMemory)) (after_confirm id (confirmed w))

-- behind the put of a lease; one that failed may have been done
abbrev pub after_put : Id12 → Witness → Reply → Play Leased
after_put id w (New (New_done version now)) = confirm_play id w
after_put id w (New (Present version now)) = ends_with None (Err (IdTaken (Lease id)))
after_put id w _ = ends_with (Some id) (Err StoreFault)

-- a put of a lease with a reference to the base
abbrev pub leases : Id12 → (base : Id12) → Op
leases id base = PutNew (Lease id) (ref_bytes base) For_lease

-- Puts a lease with a reference to the base where its key is free, and then gets what has to
-- confirm it. Without memory for the put nothing stands; without memory for the get the lease does.
abbrev pub lease_play : Id12 → (base : Id12) → Witness → Play Leased
lease_play id base w = Ask (leases id base) (ends_with None (Err NoMemory)) (after_put id w)

-- how it may begin: a ref has to have named the base, and an id has to be left
abbrev pub lease_with : Option Witness → Option Id12 → (base : Id12) → Result (Play Leased) Refusal
lease_with None id base = Err Unnamed
lease_with (Some w) None base = Err IdsSpent
lease_with (Some w) (Some id) base = Ok (lease_play id base w)

-- ---- a release
-- the release of this lease
abbrev pub releases : Id12 → Op
releases id = Remove (Lease id) For_lease

abbrev pub after_release : Reply → Play (Result (Unit {0}) Refusal)
after_release (Gone gone) = Ended (Ok tt)
after_release _ = Ended (Err StoreFault)

-- removes a lease; an absent one is fine
abbrev pub release_play : Id12 → Play (Result (Unit {0}) Refusal)
release_play id = Ask (releases id) (Ended (Err NoMemory)) after_release

-- ---- outcomes
-- a fault of the store
abbrev pub fails : Result (Unit {0}) Refusal → Bool
fails (Ok done) = false
fails (Err why) = is_fault why

abbrev pub tells_fault : Leased → Bool
tells_fault l = fails l.result

-- ---- the refusals
abbrev pub MayRefuseStart : Refusal → Type 0
MayRefuseStart Unnamed = Unit {0}
MayRefuseStart IdsSpent = Unit {0}
MayRefuseStart NoMemory = Unit {0}
MayRefuseStart _ = ⊥

abbrev pub MayRefuseRelease : Refusal → Type 0
MayRefuseRelease StoreFault = Unit {0}
MayRefuseRelease NoMemory = Unit {0}
MayRefuseRelease _ = ⊥
