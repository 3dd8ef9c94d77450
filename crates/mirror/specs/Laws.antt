-- Whose failure a mirror tells. (Own.)
use Rattle.std.specs.Prelude.{Bool, true, false, Result, Ok, Err}
use Rattle.store_api.specs.declared.machines.Refusal.{Refusal}
use Rattle.store_api.specs.declared.machines.Refusal.TheVariants.{TargetFault}
use Rattle.store_api.specs.Program.{is_fault}
use Rattle.two_stores.specs.declared.side.Side.{Side}
use Rattle.two_stores.specs.declared.side.Side.TheVariants.{From, To}
use Rattle.two_stores.specs.Pairs.{IsFair}
use Rattle.mirror_reports.specs.declared.outcome.Mirrored.{Mirrored}
use Rattle.mirror_reports.specs.declared.outcome.MirrorEnd.{MirrorEnd}
use Rattle.mirror.specs.Programs.{mirror_program}

abbrev pub is_target_fault : Refusal → Bool
is_target_fault TargetFault = true
is_target_fault _ = false

abbrev pub blames_side : Side → Refusal → Bool
blames_side From why = is_fault why
blames_side To why = is_target_fault why

-- whether it is refused by a failure of this side's store
abbrev pub fault_in : Side → Result Mirrored Refusal → Bool
fault_in side (Ok counts) = false
fault_in side (Err why) = blames_side side why

abbrev pub tells_fault : Side → MirrorEnd → Bool
tells_fault side end = fault_in side end.result

-- A failure of a store is told there alone where that store's
-- operation failed, whatever is answered.
abbrev pub FairLaw : Type 0
FairLaw = IsFair tells_fault mirror_program
