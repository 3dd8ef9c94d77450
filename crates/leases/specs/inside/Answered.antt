-- What follows the answer to an operation.
use Rattle.std.specs.Prelude.{◌≡◌, Bool, false, Result, Ok, Err}
use Rattle.object_store.specs.declared.events.Reply.{Reply}
use Rattle.object_store.specs.declared.events.Reply.TheVariants.{Failed as Reply_failed}
use Rattle.object_store.specs.declared.events.StoreFault.{StoreFault}
use Rattle.object_store.specs.declared.events.StoreFault.TheVariants.{Failed, NoMemory}
use Rattle.store_api.specs.Plays.{Play, Comes, dooms}

-- a player has come to q behind an operation that was answered so: to what follows its reply,
-- whether a failed one was done or not, or to what follows want of memory
abbrev pub Follows : {A B : Type 0} → (A → Reply) → (starved : Play B) → (next : Reply → Play B)
    → Result A StoreFault → Play B → Type 0
Follows reply starved next (Ok a) q = Comes (next (reply a)) q
Follows reply starved next (Err Failed) q = (done : Bool) → Comes (next (Reply_failed done)) q
Follows reply starved next (Err NoMemory) q = Comes starved q

-- unless the operation failed, it is bound to tell no fault of the store
abbrev pub CalmAfter : {A B : Type 0} → (B → Bool) → Result A StoreFault → Play B → Type 0
CalmAfter failed (Ok a) q = dooms failed q ≡ false
CalmAfter failed (Err Failed) q = Unit {0}
CalmAfter failed (Err NoMemory) q = dooms failed q ≡ false
