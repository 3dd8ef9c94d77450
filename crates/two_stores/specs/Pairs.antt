-- Programs of operations on two stores: what a machine has still to do.
use Rattle.std.specs.Prelude.{◌≡◌, ◌⊎◌, ◌≤◌, List, Bool, true, false, ◌||◌, IsTrue, Result}
use Rattle.ice_base.specs.Ends.{Rose}
use Rattle.object_store.specs.declared.keys.Key.{Key}
use Rattle.object_store.specs.declared.keys.Key.TheVariants.{Snapshot, Manifest, Txn, Chunk}
use Rattle.object_store.specs.declared.keys.Key.TheVariants.{Branch, Tag, Tombstone, Lease}
use Rattle.object_store.specs.declared.events.Op.{Op}
use Rattle.object_store.specs.declared.events.Op.TheVariants.{Get, PutNew, PutOver, Remove}
use Rattle.object_store.specs.declared.events.Op.TheVariants.{RemoveAt, List as ListPart}
use Rattle.object_store.specs.declared.events.Reply.{Reply}
use Rattle.object_store.specs.declared.events.StoreFault.{StoreFault}
use Rattle.object_store.specs.declared.events.Event.{Event}
use Rattle.store_api.specs.Callers.{Caller, View, Waits, Makes, Called, MayCall, Fits, has_failed}
use Rattle.store_api.specs.Program.{Prog}
use Rattle.store_api.specs.Program.{Done as Has_done, Ask as Asks_next}
use Rattle.store_api.specs.Driving.{Heard}
use Rattle.two_stores.specs.declared.side.Side.{Side}
use Rattle.two_stores.specs.Sides.{Both, at_side, other}

-- What is still to be done: an outcome; or an operation on a side, the outcome where there is no
-- memory for it, and what follows each reply.
pub data PairProg (A : Type 0) : Type 0 where
  Done : A → PairProg A
  Ask : Side → Op → A → (Reply → PairProg A) → PairProg A

-- a program of the one store, and then what follows its answer
abbrev pub on_side : {X A : Type 0} → Side → A → (X → PairProg A) → Prog X → PairProg A
on_side side starved next (Has_done x) = next x
on_side side starved next (Asks_next op k) =
    Ask side op starved (λ reply. on_side side starved next (k reply))

abbrev pub IsAsk : {A : Type 0} → PairProg A → Type 0
IsAsk (Done a) = ⊥
IsAsk (Ask side op starved k) = Unit {0}

abbrev pub IsDone : {A : Type 0} → PairProg A → Type 0
IsDone (Done a) = Unit {0}
IsDone (Ask side op starved k) = ⊥

-- ---- one operation
-- this operation comes next, on this side
abbrev pub Asks : {A : Type 0} → PairProg A → Side → Op → Type 0
Asks (Done a) side op = ⊥
Asks (Ask next_side next starved k) side op = (side ≡ next_side) × (op ≡ next)

-- the operation that comes next may have this reply
abbrev pub Awaits : {A : Type 0} → PairProg A → Reply → Type 0
Awaits (Done a) reply = ⊥
Awaits (Ask side op starved k) reply = Fits op reply

-- the caller may make the operation that comes next
abbrev pub MayAsk : {A : Type 0} → PairProg A → Both View → Type 0
MayAsk (Done a) views = Unit {0}
MayAsk (Ask side op starved k) views = MayCall (at_side side views) op

-- the operation that comes next was called on its side, and the other side stayed
abbrev pub AskedBy : {A : Type 0} → PairProg A → Result Reply StoreFault
    → (old new : Both View) → Type 0
AskedBy (Done a) result old new = ⊥
AskedBy (Ask side op starved k) result old new =
    Called (λ reply. reply) op result (at_side side old) (at_side side new)
    × (at_side (other side) new ≡ at_side (other side) old)

-- ---- want of memory
-- a branch or a tag; each kind is named, so that a new one is asked for
abbrev pub is_ref : Key → Bool
is_ref (Snapshot id) = false
is_ref (Manifest id) = false
is_ref (Txn id) = false
is_ref (Chunk id) = false
is_ref (Branch name) = true
is_ref (Tag name) = true
is_ref (Tombstone name) = false
is_ref (Lease id) = false

-- an operation that changes what a ref names
abbrev pub moves_ref : Op → Bool
moves_ref (Get key) = false
moves_ref (PutNew key bytes why) = is_ref key
moves_ref (PutOver key bytes old why) = is_ref key
moves_ref (Remove key why) = is_ref key
moves_ref (RemoveAt key old why) = is_ref key
moves_ref (ListPart part) = false

-- what follows a change of a ref, and an operation that failed, isn't lost for want of memory
abbrev pub is_told_surely : Op → Reply → Bool
is_told_surely op reply = moves_ref op || has_failed reply

-- behind a reply that has this program next, what is left; memory may be wanting
abbrev pub Comes : {A : Type 0} → Op → Reply → A → (next rest : PairProg A) → Type 0
Comes op reply starved next rest =
    (rest ≡ next) ⊎ ((is_told_surely op reply ≡ false) × (rest ≡ Done starved))

-- What a machine that had p to do has left behind a reply. Whether a failed
-- operation was done isn't known to it.
abbrev pub Took : {A : Type 0} → PairProg A → Reply → PairProg A → Type 0
Took (Done a) reply q = ⊥
Took (Ask side op starved k) reply q = Heard (λ r. Comes op r starved (k r) q) reply

-- it has ended as it does where there is no memory for the operation that comes next
abbrev pub Starves : {A : Type 0} → PairProg A → PairProg A → Type 0
Starves (Done a) q = ⊥
Starves (Ask side op starved k) q = q ≡ Done starved

-- ---- steps of machines
-- A step with an operation: this caller's own event was made on this side, whose faults rose where
-- it failed; the other side stayed.
pub record Acted {A : Type 0} (old new : Both View) (p q : PairProg A) : Type 0 where
  pub side : Side
  pub op : Op
  pub starved : A
  pub next : Reply → PairProg A
  pub reply : Reply
  pub asks : p ≡ Ask side op starved next
  pub fits : Fits op reply
  pub made : IsTrue (at_side side old).caller.tells
      → Makes (at_side side old).caller op reply (at_side side old).seen (at_side side new).seen
  pub rose : has_failed reply ≡ true → Rose (at_side side old).faults (at_side side new).faults
  pub stays : at_side (other side) new ≡ at_side (other side) old
  pub comes : Comes op reply starved (next reply) q

-- a step for whose operation there was no memory
pub record Starved {A : Type 0} (old new : Both View) (p q : PairProg A) : Type 0 where
  pub side : Side
  pub op : Op
  pub starved : A
  pub next : Reply → PairProg A
  pub asks : p ≡ Ask side op starved next
  pub waits : IsTrue (at_side side old).caller.tells
      → Waits (at_side side old).caller (at_side side old).seen (at_side side new).seen
  pub stays : at_side (other side) new ≡ at_side (other side) old
  pub ended : q ≡ Done starved

-- One step of a machine that had p to do and has q now. The callers stay, and the
-- faults of the stores never fall.
pub record PairSteps {A : Type 0} (old new : Both View) (p q : PairProg A) : Type 0 where
  pub same : (side : Side) → (at_side side new).caller ≡ (at_side side old).caller
  pub faults : (side : Side) → (at_side side old).faults ≤ (at_side side new).faults
  pub went : Acted old new p q ⊎ Starved old new p q

-- ---- weakest preconditions, over both journals
-- One's own step on a side, with this reply, which leaves the other side as it is. Of a store that
-- doesn't tell its journal it is known alone that replies fit.
pub record StepsOn (by : Both Caller) (side : Side) (op : Op) (reply : Reply)
    (old new : Both (List Event)) : Type 0 where
  pub fits : Fits op reply
  pub made : IsTrue (at_side side by).tells
      → Makes (at_side side by) op reply (at_side side old) (at_side side new)
  pub stays : at_side (other side) new ≡ at_side (other side) old

-- P, a fact on a side, both journals and an operation there, holds of each operation that the
-- program comes to, whatever others do.
unfoldable pub KeepsPair : {A : Type 0} → (Side → Both (List Event) → Op → Type 0) → Both Caller
    → PairProg A → Both (List Event) → Type 0
KeepsPair P by (Done a) seen = Unit {0}
KeepsPair P by (Ask side op starved next) seen = P side seen op
    × ((reply : Reply) (new : Both (List Event)) → StepsOn by side op reply seen new
    → KeepsPair P by (next reply) new)

-- Q, a fact on an outcome and both journals, holds of whatever the program ends with, also where
-- memory is wanting, whatever others do.
unfoldable pub LeadsPair : {A : Type 0} → (A → Both (List Event) → Type 0) → Both Caller
    → PairProg A → Both (List Event) → Type 0
LeadsPair Q by (Done a) seen = Q a seen
LeadsPair Q by (Ask side op starved next) seen = Q starved seen
    × ((reply : Reply) (new : Both (List Event)) → StepsOn by side op reply seen new
    → (moves_ref op ≡ false → Q starved new) × LeadsPair Q by (next reply) new)

-- ---- whose failure is told
-- the outcome where memory is wanting from here on tells a failure of this side
abbrev pub dooms : {A : Type 0} → (Side → A → Bool) → Side → PairProg A → Bool
dooms blames side (Done a) = blames side a
dooms blames side (Ask on op starved next) = blames side starved

-- `blames` says of which outcomes tell a failure of a side: it is told there alone where an
-- operation on that side failed.
unfoldable pub IsFair : {A : Type 0} → (Side → A → Bool) → PairProg A → Type 0
IsFair blames (Done a) = Unit {0}
IsFair blames (Ask on op starved next) =
    (reply : Reply) → Fits op reply
    → ((side : Side) → dooms blames side (next reply) ≡ true
    → (blames side starved ≡ true) ⊎ ((side ≡ on) × (has_failed reply ≡ true)))
    × IsFair blames (next reply)

-- from p, what was left before, to q: a failure of a side is bound to be told only where it was
-- before, or where that side's faults rose
abbrev pub BlamesSide : {A : Type 0} → (Side → A → Bool) → (p q : PairProg A)
    → (old new : Both View) → Type 0
BlamesSide blames p q old new =
    (side : Side) → dooms blames side q ≡ true
    → (dooms blames side p ≡ true) ⊎ Rose (at_side side old).faults (at_side side new).faults
