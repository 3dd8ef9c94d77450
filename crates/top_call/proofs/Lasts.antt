-- The statuses that a run or a check may have.
use Rattle.std.proofs.Common.{◌≡◌, Bool, true, false, sym, subst}
use Rattle.std.specs.Prelude.{if◌then◌else◌}
use Rattle.top_call.specs.declared.statuses.Causes.{Causes}
use Rattle.top_call.specs.declared.statuses.Status.{Status}
use Rattle.top_call.specs.declared.statuses.Status.TheVariants as S
use Rattle.top_call.specs.Statuses.{status_of}

-- a run has one of five statuses
unfoldable pub IsLast : Status → Type 0
IsLast S.Ok = Unit {0}
IsLast S.Refused = Unit {0}
IsLast S.WriteFault = Unit {0}
IsLast S.StoreFault = Unit {0}
IsLast S.NoMemory = Unit {0}
IsLast _ = ⊥

by_causes : (a b c d : Bool) → IsLast (if a then S.NoMemory else (if b then S.StoreFault else (if c then S.WriteFault else (if d then S.Refused else S.Ok))))
unfolding IsLast
by_causes true b c d = tt
by_causes false true c d = tt
by_causes false false true d = tt
by_causes false false false true = tt
by_causes false false false false = tt

pub status-last : (c : Causes) (status : Status) → status ≡ status_of c → IsLast status
status-last c status e = subst IsLast (sym e) (by_causes c.no_memory c.store_fault c.unwritten c.refused)
