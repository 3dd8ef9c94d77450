-- What a collection has still to do.
use Rattle.std.specs.Prelude.{◌≡◌, ℕ, ◌+◌, ◌^◌, nat_lt, Bool, true, false}
use Rattle.std.specs.Prelude.{List, length, Result, Ok, Err}
use Rattle.object_store.specs.declared.keys.Key.{Key}
use Rattle.object_store.specs.declared.keys.Why.TheVariants.{Collect as For_collect}
use Rattle.object_store.specs.declared.events.Gone.{Gone}
use Rattle.object_store.specs.declared.events.Op.TheVariants.{Remove}
use Rattle.object_store.specs.declared.events.StoreFault.{StoreFault}
use Rattle.object_store.specs.declared.events.StoreFault.TheVariants.{Failed, NoMemory as No_room}
use Rattle.store_api.specs.declared.machines.Next.{Next}
use Rattle.store_api.specs.declared.machines.Next.TheVariants.{Again, Ready}
use Rattle.store_api.specs.declared.machines.Refusal.{Refusal}
use Rattle.store_api.specs.declared.machines.Refusal.TheVariants.{NoMemory}
use Rattle.store_api.specs.declared.machines.Refusal.TheVariants.{StoreFault as Refused_fault}
use Rattle.store_api.specs.Program.{Prog, is_ask, is_fault}
use Rattle.store_api.specs.Plays.{Play, Ended, Ask, call, dooms}
use Rattle.cleanup_reports.specs.declared.removed.Removed.{Removed}
use Rattle.chunk_gc.specs.declared.standing.Collected.{Collected}
use Rattle.chunk_gc.specs.declared.standing.Collecting.{Collecting}
use Rattle.chunk_gc.specs.declared.standing.Collecting.TheVariants as state
use Rattle.chunk_gc.specs.Plays.{nothing, sweep, ends_with, after_gone}
use Rattle.chunk_gc.specs.Plays.{after_removal, after_marking, tells_failure}
use Rattle.chunk_gc.specs.inside.Working.{many, mark_rest, mark_left}

-- a removal, and then these
abbrev pub removing_rest : Key → List Key → Removed → Play Collected
removing_rest key keys removed =
    Ask (Remove key For_collect) (ends_with removed (Err NoMemory))
    (after_removal key (sweep keys) removed)

abbrev pub collecting_rest : Collecting → Play Collected
collecting_rest (state.Marking mark) = call (mark_rest mark) (after_marking nothing)
collecting_rest (state.Removing key keys removed) = removing_rest key keys removed
collecting_rest (state.Ended outcome) = Ended outcome

-- how many steps are left at most
abbrev pub collecting_left : Collecting → ℕ
collecting_left (state.Marking mark) = many + mark_left mark
collecting_left (state.Removing key keys removed) = length keys + 1
collecting_left (state.Ended outcome) = 0

-- how many objects are counted in all
abbrev pub total : Removed → ℕ
total removed = removed.snapshots + removed.logs + removed.manifests + removed.chunks

-- a marking has an operation to make, and all removals can be counted
abbrev pub is_standing : Collecting → Bool
is_standing (state.Marking mark) = is_ask (mark_rest mark)
is_standing (state.Removing key keys removed) = nat_lt (total removed + length keys + 1) (2 ^ 64)
is_standing (state.Ended outcome) = true

-- ---- behind a step of the marking
abbrev pub settled : (Result (List Key) Refusal → Play Collected) → Prog (Result (List Key) Refusal)
    → Result (Next (List Key)) Refusal → Play Collected
settled f q (Ok Again) = call q f
settled f q (Ok (Ready keys)) = f (Ok keys)
settled f q (Err why) = f (Err why)

-- where it answered `Again` it has something to do
abbrev pub answers_well : Bool → Result (Next (List Key)) Refusal → Bool
answers_well live (Ok Again) = live
answers_well live (Ok (Ready keys)) = true
answers_well live (Err why) = true

abbrev pub faults : Result (Next (List Key)) Refusal → Bool
faults (Ok next) = false
faults (Err why) = is_fault why

-- a fault of the store is bound to be told only where one was told
abbrev pub Blamed : Bool → Play Collected → Type 0
Blamed told q = dooms tells_failure q ≡ true → told ≡ true

-- ---- behind the answer to a removal
abbrev pub removal_rest : Key → List Key → Removed → Result Gone StoreFault → Play Collected
removal_rest key keys removed (Ok gone) = after_gone key (sweep keys) removed gone
removal_rest key keys removed (Err Failed) = ends_with removed (Err Refused_fault)
removal_rest key keys removed (Err No_room) = ends_with removed (Err NoMemory)
