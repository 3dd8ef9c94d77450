-- Where a player stands behind a step of the machine that it calls. (Own.)
use Rattle.std.specs.Prelude.{◌≡◌, ◌⊎◌, Bool, true, false, Result, Ok, Err}
use Rattle.store_api.specs.declared.machines.Next.{Next}
use Rattle.store_api.specs.declared.machines.Next.TheVariants.{Again, Ready}
use Rattle.store_api.specs.declared.machines.Refusal.{Refusal}
use Rattle.store_api.specs.declared.machines.Refusal.TheVariants.{NoMemory}
use Rattle.store_api.specs.Program.{Prog, is_fault}
use Rattle.store_api.specs.Plays.{Play, call, Comes, dooms}
use Rattle.play_outcome.specs.declared.outcome.Outcome.{Outcome}
use Rattle.play_outcome.specs.Ending.{ends_failed}

-- what is left to do after a step of a machine that has q left
abbrev pub settled : {A B : Type 0} → (Result A Refusal → Play B) → Prog (Result A Refusal)
    → Result (Next A) Refusal → Play B
settled f q (Ok Again) = call q f
settled f q (Ok (Ready a)) = f (Ok a)
settled f q (Err refusal) = f (Err refusal)

-- where a worker stands behind a machine that only reads: want of memory may come behind what
-- it has read, and behind no refusal
abbrev pub ComesOrStarves : {A : Type 0} → (Result A Refusal → Play Outcome)
    → Prog (Result A Refusal) → Result (Next A) Refusal → Play Outcome → Type 0
ComesOrStarves f q (Ok Again) p = Comes (call q f) p
ComesOrStarves f q (Ok (Ready a)) p = Comes (f (Ok a)) p ⊎ Comes (f (Err NoMemory)) p
ComesOrStarves f q (Err refusal) p = Comes (f (Err refusal)) p

-- a machine that answered `Again` has something to do
abbrev pub answers_well : {T : Type 0} → Bool → Result (Next T) Refusal → Bool
answers_well live (Ok Again) = live
answers_well live (Ok (Ready t)) = true
answers_well live (Err refusal) = true

abbrev pub tells_fault : {T : Type 0} → Result (Next T) Refusal → Bool
tells_fault (Ok t) = false
tells_fault (Err why) = is_fault why

-- a fault of the store is bound to be told at the end only where the answer told one
abbrev pub Faults : {T : Type 0} → Result (Next T) Refusal → Play Outcome → Type 0
Faults answer p = dooms ends_failed p ≡ true → tells_fault answer ≡ true
