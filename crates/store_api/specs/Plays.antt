-- Plays: what a player has still to do, who makes one call of a machine after another. Each call
-- may find no memory, and a play says what follows then, so that nothing in it is free.
use Rattle.std.specs.Prelude.{◌≡◌, ◌⊎◌, ℕ, ◌≤◌, if◌then◌else◌, List}
use Rattle.std.specs.Prelude.{Bool, true, false, IsTrue, Result, Err}
use Rattle.ice_base.specs.Ends.{Rose}
use Rattle.object_store.specs.declared.events.Op.{Op}
use Rattle.object_store.specs.declared.events.Reply.{Reply}
use Rattle.object_store.specs.declared.events.Event.{Event}
use Rattle.store_api.specs.declared.machines.Refusal.{Refusal}
use Rattle.store_api.specs.declared.machines.Refusal.TheVariants.{NoMemory}
use Rattle.store_api.specs.Journal.{IsPolite}
use Rattle.store_api.specs.Callers.{Caller, View, Makes, Waits, Fits}
use Rattle.store_api.specs.Program.{Prog, Done, Ask as Ask_next, moves_branch, is_told_surely}

-- It has ended; or an operation comes next, and behind it what follows where there is no
-- memory for it, and what follows each reply; or it goes on as the first, or, where
-- memory is wanting, as the second.
pub data Play (A : Type 0) : Type 0 where
  Ended : A → Play A
  Ask : Op → Play A → (Reply → Play A) → Play A
  Or : Play A → Play A → Play A

-- what follows a reply, where memory may be wanting; what is told surely isn't lost so
abbrev pub behind : {A : Type 0} → Op → Reply → Play A → Play A → Play A
behind op reply next starved = if is_told_surely op reply then next else Or next starved

-- a call of a machine that has this program, and then what follows its answer; it may answer
-- NoMemory at each of its operations
abbrev pub call : {A B : Type 0} → Prog (Result A Refusal) → (Result A Refusal → Play B) → Play B
call (Done answer) f = f answer
call (Ask_next op k) f =
    Ask op (f (Err NoMemory)) (λ reply. behind op reply (call (k reply) f) (f (Err NoMemory)))

-- a play, with its outcome told as another one
abbrev pub ended_as : {A B : Type 0} → (A → B) → Play A → Play B
ended_as f (Ended a) = Ended (f a)
ended_as f (Ask op starved next) = Ask op (ended_as f starved) (λ reply. ended_as f (next reply))
ended_as f (Or p q) = Or (ended_as f p) (ended_as f q)

abbrev pub IsLive : {A : Type 0} → Play A → Type 0
IsLive (Ended a) = ⊥
IsLive (Ask op starved next) = Unit {0}
IsLive (Or p q) = ⊥

abbrev pub HasEnded : {A : Type 0} → Play A → Type 0
HasEnded (Ended a) = Unit {0}
HasEnded (Ask op starved next) = ⊥
HasEnded (Or p q) = ⊥

-- with memory or without, p has come to q
abbrev pub Comes : {A : Type 0} → Play A → Play A → Type 0
Comes (Ended a) q = q ≡ Ended a
Comes (Ask op starved next) q = q ≡ Ask op starved next
Comes (Or p r) q = Comes p q ⊎ Comes r q

-- ---- two weakest preconditions
-- P, a fact on a journal, a client and its operation, holds of each operation that the
-- play comes to, whatever others do.
unfoldable pub PlayKeeps : {A : Type 0} → (List Event → ℕ → Op → Type 0) → Caller
    → Play A → List Event → Type 0
PlayKeeps P by (Ended a) journal = Unit {0}
PlayKeeps P by (Ask op starved next) journal =
    P journal by.number op × PlayKeeps P by starved journal
    × ((reply : Reply) (new : List Event) → Makes by op reply journal new
    → PlayKeeps P by (next reply) new)
PlayKeeps P by (Or p q) journal = PlayKeeps P by p journal × PlayKeeps P by q journal

-- Q, a fact on an outcome and a journal, holds of whatever the play ends with, whatever others do.
unfoldable pub PlayLeads : {A : Type 0} → (A → List Event → Type 0) → Caller
    → Play A → List Event → Type 0
PlayLeads Q by (Ended a) journal = Q a journal
PlayLeads Q by (Ask op starved next) journal =
    PlayLeads Q by starved journal
    × ((reply : Reply) (new : List Event) → Makes by op reply journal new
    → PlayLeads Q by (next reply) new)
PlayLeads Q by (Or p q) journal = PlayLeads Q by p journal × PlayLeads Q by q journal

-- N, a fact on a journal, holds before each operation that a machine comes to, and
-- behind each reply but that to a put over of a branch, whatever others do: wherever a
-- call of it may find no memory.
unfoldable pub Stays : {A : Type 0} → (List Event → Type 0) → Caller → Prog A → List Event → Type 0
Stays N by (Done a) journal = Unit {0}
Stays N by (Ask_next op k) journal =
    N journal
    × ((reply : Reply) (new : List Event) → Makes by op reply journal new
    → (moves_branch op ≡ false → N new) × Stays N by (k reply) new)

-- ---- steps of players
-- this operation comes next
abbrev pub PlayAsks : {A : Type 0} → Play A → Op → Type 0
PlayAsks (Ended a) op = ⊥
PlayAsks (Ask next starved k) op = op ≡ next
PlayAsks (Or p q) op = ⊥

abbrev pub PlayIsPolite : {A : Type 0} → Play A → List Event → Type 0
PlayIsPolite (Ended a) journal = Unit {0}
PlayIsPolite (Ask op starved next) journal = IsPolite journal op
PlayIsPolite (Or p q) journal = Unit {0}

-- A step with an operation: the player's own event was made, and the play went on by the reply.
pub record Acted {A : Type 0} (old new : View) (p q : Play A) : Type 0 where
  pub op : Op
  pub starved : Play A
  pub next : Reply → Play A
  pub reply : Reply
  pub asks : p ≡ Ask op starved next
  pub fits : Fits op reply
  pub made : IsTrue old.caller.tells → Makes old.caller op reply old.seen new.seen
  pub comes : Comes (next reply) q

-- a step for whose operation there was no memory
pub record Starved {A : Type 0} (old new : View) (p q : Play A) : Type 0 where
  pub op : Op
  pub starved : Play A
  pub next : Reply → Play A
  pub asks : p ≡ Ask op starved next
  pub waits : IsTrue old.caller.tells → Waits old.caller old.seen new.seen
  pub comes : Comes starved q

-- what it tells where memory is wanting from here on is a fault of the store
abbrev pub dooms : {A : Type 0} → (A → Bool) → Play A → Bool
dooms failed (Ended a) = failed a
dooms failed (Ask op starved next) = dooms failed starved
dooms failed (Or p q) = dooms failed q

-- from p, what was left before, to q: the faults never fall, and a fault is bound to be told only
-- where it was before, or where they rose
abbrev pub BlamesEnd : {A : Type 0} → (A → Bool) → (p q : Play A) → ℕ → ℕ → Type 0
BlamesEnd failed p q m n = (m ≤ n) × (dooms failed q ≡ true → (dooms failed p ≡ true) ⊎ Rose m n)

-- One step of a player that had p to do and has q now. `failed` are the outcomes
-- that tell a fault of the store.
pub record Acts {A : Type 0} (failed : A → Bool) (old new : View) (p q : Play A) : Type 0 where
  pub same : new.caller ≡ old.caller
  pub blames : BlamesEnd failed p q old.faults new.faults
  pub went : Acted old new p q ⊎ Starved old new p q
