-- What the machine has still to do.
use Rattle.std.specs.Prelude.{ℕ, ◌+◌, Option, Some, None, Ok, Err}
use Rattle.ice_ids.specs.declared.Id12.{Id12}
use Rattle.store_api.specs.declared.machines.Refusal.TheVariants.{NoMemory}
use Rattle.store_api.specs.Program.{Done}
use Rattle.store_api.specs.Running.{Program}
use Rattle.repo_read.specs.Chains.{most_snapshots}
use Rattle.settle.specs.declared.settle.Doubt.{Doubt}
use Rattle.settle.specs.declared.settle.Settled.{Settled}
use Rattle.settle.specs.declared.settle.Settled.TheVariants.{NotAncestor}
use Rattle.settle.specs.declared.settle.Settling.{Settling}
use Rattle.settle.specs.declared.settle.Settling.TheVariants.{Branch, Chain, Ended}
use Rattle.settle.specs.declared.settle.Settle.{Settle}
use Rattle.settle.specs.declared.settle.Way.{Way}
use Rattle.settle.specs.Settling.{met, unless_met, settle_walk, settle_program}

-- what is left of a way
abbrev pub way_rest : Doubt → Way → Program Settled
way_rest d way = settle_walk d way.head way.left way.next

-- ... behind a snapshot with this parent
abbrev pub way_behind : Doubt → (head : Id12) → (left : ℕ) → (parent : Option Id12)
    → Program Settled
way_behind d head left (Some parent) = unless_met (met d parent) (settle_walk d head left parent)
way_behind d head left None = Done (Ok (NotAncestor head))

abbrev pub settling_rest : Doubt → Settling → Program Settled
settling_rest d (Branch name) = settle_program name d
settling_rest d (Chain way) = way_rest d way
settling_rest d Ended = Done (Err NoMemory)

abbrev pub settle_rest : Settle → Program Settled
settle_rest m = settling_rest m.doubt m.state

abbrev pub settling_left : Settling → ℕ
settling_left (Branch name) = most_snapshots + 1
settling_left (Chain way) = way.left
settling_left Ended = 0

abbrev pub settle_left : Settle → ℕ
settle_left m = settling_left m.state
