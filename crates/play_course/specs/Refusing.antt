-- Refusals that no run over an empty store gives, beside collections or without (own).
use Rattle.std.specs.Prelude.{◌≡◌, ℕ, Bool, true, false, List}
use Rattle.std.specs.Prelude.{Some, Result, Ok, Err, slice_get, not}
use Rattle.std.specs.List.{list_any}
use Rattle.store_api.specs.declared.machines.Refusal.{Refusal}
use Rattle.store_api.specs.declared.machines.Refusal.TheVariants as R
use Rattle.play_outcome.specs.declared.outcome.End.{End}
use Rattle.play_outcome.specs.declared.outcome.End.TheVariants as E
use Rattle.play_outcome.specs.declared.outcome.Outcome.{Outcome}
use Rattle.play_outcome.specs.declared.outcome.RefLine.{RefLine}
use Rattle.play_outcome.specs.Ending.{why_unsettled}

-- a drawn id that was taken, or a file that can't be read; and where nothing
-- collects, an object that is missing
abbrev pub is_strange : (collects : Bool) → Refusal → Bool
is_strange collects R.NoRef = false
is_strange collects (R.Edit fault) = false
is_strange collects (R.BadMeta fault) = false
is_strange collects R.ReadOnly = false
is_strange collects (R.Missing key) = not collects
is_strange collects (R.BadFile key bad) = true
is_strange collects R.TooDeep = false
is_strange collects R.StoreFault = false
is_strange collects (R.IdTaken key) = true
is_strange collects R.NoMemory = false
is_strange collects R.IdsSpent = false
is_strange collects R.BadKey = false
is_strange collects (R.LostRace old found) = false
is_strange collects R.NothingToCommit = false
is_strange collects (R.TooLarge kind) = false
is_strange collects (R.InDoubt snapshot) = false
is_strange collects (R.Left at conflicts) = false
is_strange collects (R.NotAncestor head) = false
is_strange collects (R.RefExists version) = false
is_strange collects R.NoSnapshot = false
is_strange collects R.TagDropped = false
is_strange collects R.MainKept = false
is_strange collects (R.Moved found) = false
is_strange collects (R.CutoffAhead now) = false
is_strange collects R.Unnamed = false
is_strange collects (R.BadProp fault) = false
is_strange collects (R.Unsound faults) = false
is_strange collects (R.Differs key) = false
is_strange collects R.TargetFault = false
is_strange collects (R.Region fault) = false

abbrev pub strange_answer : {A : Type 0} → Result A Refusal → Bool
strange_answer (Ok a) = false
strange_answer (Err why) = is_strange false why

abbrev pub strange_end : (collects : Bool) → End → Bool
strange_end collects (E.Committed id) = false
strange_end collects (E.Collected removed) = false
strange_end collects E.Done = false
strange_end collects (E.Refused line why) = is_strange collects why
strange_end collects (E.Stopped line why removed) = is_strange collects why
strange_end collects (E.InDoubt id how) = list_any (is_strange collects) (why_unsettled how)
strange_end collects (E.Expired line cases (Ok done)) = false
strange_end collects (E.Expired line cases (Err why)) = is_strange collects why
strange_end collects (E.Checked line faults (Ok counts)) = false
strange_end collects (E.Checked line faults (Err why)) = is_strange collects why

-- Nothing that was played was refused so: not the opening, no task, not the closing
-- reading. Where a task collects, an object may be missing to the tasks, but not to the
-- opening and the closing reading.
pub record NothingStrange (collects : Bool) (opening : Result (Unit {0}) Refusal)
    (outcomes : List Outcome) (refs : Result (List RefLine) Refusal) : Type 0 where
  pub opened : strange_answer opening ≡ false
  pub tasks : (place : ℕ) (outcome : Outcome) → slice_get outcomes place ≡ Some outcome
      → strange_end collects outcome.end ≡ false
  pub closed : strange_answer refs ≡ false
