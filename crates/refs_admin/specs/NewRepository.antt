-- The program that makes a repository. (Icechunk specification version
-- 1, "Initialize New Repository".)
use Rattle.std.specs.Prelude.{Result, Ok, Err}
use Rattle.ice_base.specs.Names.{main_name}
use Rattle.ice_ids.specs.Text.{initial_id}
use Rattle.ref_file.specs.Refs.{ref_bytes}
use Rattle.repo_objects.specs.Laws.{initial_bytes}
use Rattle.object_store.specs.declared.keys.Key.TheVariants.{Snapshot, Branch}
use Rattle.object_store.specs.declared.keys.Why.TheVariants.{Init}
use Rattle.object_store.specs.declared.events.Op.TheVariants.{PutNew}
use Rattle.object_store.specs.declared.events.Reply.{Reply}
use Rattle.object_store.specs.declared.events.Reply.TheVariants.{New}
use Rattle.store_api.specs.declared.machines.Refusal.{Refusal}
use Rattle.store_api.specs.declared.machines.Refusal.TheVariants.{RefExists, StoreFault, NoMemory}
use Rattle.store_api.specs.Program.{Done, Ask}
use Rattle.store_api.specs.Running.{Program, ◌>>=◌}
use Rattle.refs_admin.specs.Branches.{created}

-- an object that may be there already
abbrev pub placed : Reply → Result (Unit {0}) Refusal
placed (New answer) = Ok tt
placed _ = Err StoreFault

-- puts the initial snapshot where it is absent
abbrev pub put_initial : Program (Unit {0})
put_initial = Ask (PutNew (Snapshot initial_id) initial_bytes Init) (λ reply. Done (placed reply))

-- puts `main` with a reference to it; where it was there, that is told
abbrev pub put_main : Program (Unit {0})
put_main =
    Ask (PutNew (Branch main_name) (ref_bytes initial_id) Init) (λ reply. Done (created reply))

abbrev pub init_program : Program (Unit {0})
init_program = do
  done ← put_initial
  put_main

-- the refusals of it
abbrev pub MayRefuseInit : Refusal → Type 0
MayRefuseInit (RefExists version) = Unit {0}
MayRefuseInit StoreFault = Unit {0}
MayRefuseInit NoMemory = Unit {0}
MayRefuseInit _ = ⊥
