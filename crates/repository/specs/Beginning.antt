-- The program that begins a repository (Icechunk specification version 1, "Initialize New
-- Repository"): one is made, and one that is there stays.
use Rattle.std.specs.Prelude.{Result, Ok, Err}
use Rattle.store_api.specs.declared.machines.Refusal.{Refusal}
use Rattle.store_api.specs.declared.machines.Refusal.TheVariants.{RefExists, StoreFault, NoMemory}
use Rattle.store_api.specs.Program.{Done, bind}
use Rattle.store_api.specs.Running.{Program}
use Rattle.refs_admin.specs.NewRepository.{init_program}

-- that `main` was there is fine
abbrev pub begun : Result (Unit {0}) Refusal → Result (Unit {0}) Refusal
begun (Err (RefExists version)) = Ok tt
begun made = made

abbrev pub begin_program : Program (Unit {0})
begin_program = bind init_program (λ made. Done (begun made))

-- the refusals of a beginning
abbrev pub MayRefuseBegin : Refusal → Type 0
MayRefuseBegin StoreFault = Unit {0}
MayRefuseBegin NoMemory = Unit {0}
MayRefuseBegin _ = ⊥
