-- The machine that writes a box of numbers: its ends.
use Rattle.std.specs.Prelude.{◌≡◌, ◌≤◌, ◌^◌, ℕ, Option, Some, None, Result, Ok, Err, false}
use Rattle.store_api.specs.declared.machines.Next.{Next}
use Rattle.store_api.specs.declared.machines.Next.TheVariants as next
use Rattle.store_api.specs.declared.machines.Refusal.{Refusal}
use Rattle.store_api.specs.declared.machines.Refusal.TheVariants.{NoMemory}
use Rattle.store_api.specs.Program.{Done, IsAsk, is_no_memory}
use Rattle.store_api.specs.Running.{Program}
use Rattle.session.specs.Sessions.{SessionState}
use Rattle.array_region.specs.declared.runs.Run.{Run}
use Rattle.array_region.specs.declared.setting.Writing.{Writing}
use Rattle.array_region.specs.declared.setting.Writing.TheVariants.{Runs, Refused, Ended}
use Rattle.array_region.specs.declared.setting.RegionSet.{RegionSet}
use Rattle.array_region.specs.declared.setting.Setting.{Setting}
use Rattle.array_region.specs.declared.setting.Setting.TheVariants.{Ready, Again}
use Rattle.array_region.specs.Setting.{run_rest, run_left, SameTree}

-- what is still to be done
abbrev pub writing_rest : Writing → Program SessionState
writing_rest (Runs run) = run_rest run
writing_rest (Refused s) = Done (Err NoMemory)
writing_rest Ended = Done (Err NoMemory)

abbrev pub region_set_rest : RegionSet → Program SessionState
region_set_rest m = writing_rest m.state

-- the session in the machine, until it is given out
abbrev pub writing_session : Writing → Option SessionState
writing_session (Runs run) = Some run.session
writing_session (Refused s) = Some s
writing_session Ended = None

abbrev pub region_set_session : RegionSet → Option SessionState
region_set_session m = writing_session m.state

-- how many steps are left at most
abbrev pub writing_left : Writing → ℕ
writing_left (Runs run) = run_left run
writing_left (Refused s) = 0
writing_left Ended = 0

abbrev pub region_set_left : RegionSet → ℕ
region_set_left m = writing_left m.state

-- the state that a run which was answered leads to, and the machine's answer
abbrev pub state_after : Run → Result (Next (Unit {0})) Refusal → Writing
state_after run (Ok next.Again) = Runs run
state_after run (Ok (next.Ready done)) = Ended
state_after run (Err why) = Refused run.session

abbrev pub answer_after : Run → Result (Next (Unit {0})) Refusal
    → Result (Next SessionState) Refusal
answer_after run (Ok next.Again) = Ok next.Again
answer_after run (Ok (next.Ready done)) = Ok (next.Ready run.session)
answer_after run (Err why) = Err why

-- a session with the same tree, if there is one
abbrev pub KeepsTree : Option SessionState → Option SessionState → Type 0
KeepsTree (Some s) (Some t) = SameTree s t
KeepsTree _ _ = ⊥

-- The box was written without any operation; or a machine has the program to run, and
-- a session with the same tree; or this was refused, memory apart, and the session
-- came back with its tree as it was.
abbrev pub BeginsSet : Program SessionState → SessionState
    → Result Setting (SessionState × Refusal) → Type 0
BeginsSet p s (Ok (Ready t)) = p ≡ Done (Ok t)
BeginsSet p s (Ok (Again m)) =
    (region_set_rest m ≡ p) × IsAsk p × KeepsTree (Some s) (region_set_session m)
BeginsSet p s (Err refused) =
    (is_no_memory refused.1 ≡ false → p ≡ Done (Err refused.1)) × SameTree s refused.0

-- a machine has so few steps left
abbrev pub IsFewSet : Setting → Type 0
IsFewSet (Ready t) = Unit {0}
IsFewSet (Again m) = region_set_left m ≤ 2 ^ 129
