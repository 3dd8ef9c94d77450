-- Whether a commit in doubt was done, by the chain of snapshots that its branch names. (Own;
-- Icechunk specification version 1, "Reference Files", "Snapshots": each names its parent.)
use Rattle.std.specs.Prelude.{ℕ, zero, suc, if◌then◌else◌, List, Option, Some, None, Ok, Err}
use Rattle.ice_ids.specs.declared.Id12.{Id12}
use Rattle.ice_ids.specs.Text.{same_id12}
use Rattle.store_api.specs.declared.machines.Refusal.{Refusal}
use Rattle.store_api.specs.declared.machines.Refusal.TheVariants.{NoRef, Missing, BadFile}
use Rattle.store_api.specs.declared.machines.Refusal.TheVariants.{TooDeep, StoreFault, NoMemory}
use Rattle.store_api.specs.Program.{Done}
use Rattle.store_api.specs.Running.{Program, ◌>>=◌}
use Rattle.repo_read.specs.Chains.{most_snapshots}
use Rattle.repo_read.specs.Programs.{resolve_program, snapshot_program}
use Rattle.settle.specs.declared.settle.Settled.{Settled}
use Rattle.settle.specs.declared.settle.Settled.TheVariants.{Committed, NotCommitted, NotAncestor}
use Rattle.settle.specs.declared.settle.Doubt.{Doubt}

-- what is told where this id is named: it is the commit's snapshot, or its base, or neither
abbrev pub met : Doubt → Id12 → Option Settled
met d id =
    if same_id12 id d.snapshot then Some Committed
    else (if same_id12 id d.base then Some NotCommitted else None)

-- an answer at once, or else this program
abbrev pub unless_met : Option Settled → Program Settled → Program Settled
unless_met (Some settled) p = Done (Ok settled)
unless_met None p = p

-- From this snapshot, which is neither of the two, along the parents up to one of them; `head` is
-- where the walk began. No more than so many more are read.
unfoldable pub settle_walk : Doubt → (head : Id12) → (left : ℕ) → Id12 → Program Settled
settle_walk d head zero id = Done (Err TooDeep)
settle_walk d head (suc left) id = snapshot_program id >>= λ s. elim s.parent [
  | Some parent ↦ unless_met (met d parent) (settle_walk d head left parent)
  | None ↦ Done (Ok (NotAncestor head))
]

-- The branch is got, and then the snapshots from the one that it names along the parents, up to the
-- commit's snapshot or its base; neither of the two is got.
abbrev pub settle_program : (branch : List ℕ) → Doubt → Program Settled
settle_program branch d =
    resolve_program branch
    >>= λ read. unless_met (met d read.id) (settle_walk d read.id most_snapshots read.id)

-- the refusals of a settling
abbrev pub MayRefuseSettle : Refusal → Type 0
MayRefuseSettle NoRef = Unit {0}
MayRefuseSettle (Missing key) = Unit {0}
MayRefuseSettle (BadFile key bad) = Unit {0}
MayRefuseSettle TooDeep = Unit {0}
MayRefuseSettle StoreFault = Unit {0}
MayRefuseSettle NoMemory = Unit {0}
MayRefuseSettle _ = ⊥
