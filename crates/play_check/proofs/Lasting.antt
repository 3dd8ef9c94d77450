-- What the outcome of a task that checks tells stays so, whatever others do.
use Rattle.std.proofs.Common.{refl, List, ◌++◌}
use Rattle.object_store.specs.declared.events.Event.{Event}
use Rattle.store_api.specs.Journal.{Each}
use Rattle.store_api.specs.Callers.{Caller, IsOther, Waits}
use Rattle.repo_check.specs.Laws.{CheckLaw}
use Rattle.repo_check.proofs.Journals.{checks-exactly}
use Rattle.check_calls.specs.Laws.{FailureLaw}
use Rattle.check_calls.proofs.Failing.{failure-law}
use Rattle.play_check.specs.Laws.{CheckOutcomeLaw}

waited : (by : Caller) (journal more : List Event) → Each (IsOther by) journal more → Waits by journal (journal ++ more)
waited by journal more others = record { between = more; is = refl; others = others }

pub outcome-kept : CheckLaw → FailureLaw → CheckOutcomeLaw
outcome-kept exact failing by line outcome start journal more others t =
    let w = waited by journal more others in
    record {
      report = t.report;
      is = t.is;
      tells = (exact by start).kept t.report journal (journal ++ more) w t.tells;
      no_failure = failing.kept by start t.report journal (journal ++ more) w t.tells t.no_failure;
    }

pub outcome-lasts : CheckOutcomeLaw
outcome-lasts = outcome-kept checks-exactly failure-law
