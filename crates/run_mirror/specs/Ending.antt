-- How a call of a mirror ends (own).
use Rattle.std.specs.Prelude.{◌≡◌, ◌⊎◌, ℕ, Bool, if◌then◌else◌, Result, Ok, Err}
use Rattle.ice_base.specs.Ends.{OutputAt}
use Rattle.drafts.specs.Drafts.{Wrote}
use Rattle.store_api.specs.declared.machines.Refusal.{Refusal}
use Rattle.store_api.specs.declared.machines.Refusal.TheVariants.{NoMemory, StoreFault, TargetFault}
use Rattle.store_api.specs.Callers.{View}
use Rattle.two_stores.specs.Sides.{Both}
use Rattle.mirror_reports.specs.declared.outcome.Mirrored.{Mirrored}
use Rattle.mirror_reports.specs.declared.outcome.MirrorEnd.{MirrorEnd}
use Rattle.run_mirror.specs.declared.ending.MirrorStatus.{MirrorStatus}
use Rattle.run_mirror.specs.declared.ending.MirrorStatus.TheVariants as status
use Rattle.run_mirror.specs.Texts.{mirror_text}
use Rattle.run_mirror.specs.Running.{WasMirrored}

-- the number that the process ends with
abbrev pub mirror_number : MirrorStatus → ℕ
mirror_number status.Done = 0
mirror_number status.Refused = 1
mirror_number status.WriteFault = 5
mirror_number status.StoreFault = 6
mirror_number status.NoMemory = 7

-- want of memory comes first, then a failure of either store, then that not all
-- was written, then another refusal
abbrev pub refused_as : Refusal → (unwritten : Bool) → MirrorStatus
refused_as NoMemory unwritten = status.NoMemory
refused_as StoreFault unwritten = status.StoreFault
refused_as TargetFault unwritten = status.StoreFault
refused_as _ unwritten = if unwritten then status.WriteFault else status.Refused

abbrev pub status_of : Result Mirrored Refusal → (unwritten : Bool) → MirrorStatus
status_of (Ok counts) unwritten = if unwritten then status.WriteFault else status.Done
status_of (Err why) unwritten = refused_as why unwritten

-- What a mirror tells was written, whole, or less where the sink failed; and the status is that
-- of the first cause that holds.
pub record WasTold (end : MirrorEnd) (before after : OutputAt) (ended : MirrorStatus) : Type 0 where
  pub unwritten : Bool
  pub wrote : Wrote before after (mirror_text end) unwritten
  pub status_is : ended ≡ status_of end.result unwritten

-- the mirror came to this end, and that was told
pub record WasRun (old new : Both View) (before after : OutputAt)
    (ended : MirrorStatus) : Type 0 where
  pub end : MirrorEnd
  pub mirrored : WasMirrored old new end
  pub told : WasTold end before after ended

-- or there was no memory to begin, and nothing was done
pub record WasNotRun (old new : Both View) (before after : OutputAt)
    (ended : MirrorStatus) : Type 0 where
  pub status_is : ended ≡ status.NoMemory
  pub still : new ≡ old
  pub unwritten : after ≡ before

abbrev pub MirrorEnds : (old new : Both View) (before after : OutputAt) (ended : MirrorStatus)
    → Type 0
MirrorEnds old new before after ended =
    WasRun old new before after ended ⊎ WasNotRun old new before after ended
