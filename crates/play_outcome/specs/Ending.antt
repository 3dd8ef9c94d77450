-- What ended a task: a refusal, and whether it tells a want of memory or a fault of the store; and
-- so of the leases that it left.
use Rattle.std.specs.Prelude.{Bool, true, false, ◌||◌, List, [], ◌∷◌, ◌++◌, Some, None, Ok, Err}
use Rattle.std.specs.List.{list_any, flat_map}
use Rattle.store_api.specs.declared.machines.Refusal.{Refusal}
use Rattle.store_api.specs.declared.machines.Refusal.TheVariants as R
use Rattle.store_api.specs.Program.{is_no_memory, is_fault}
use Rattle.play_outcome.specs.declared.outcome.Shown.{Shown}
use Rattle.play_outcome.specs.declared.outcome.Shown.TheVariants.{Lease}
use Rattle.play_outcome.specs.declared.outcome.How.{How}
use Rattle.play_outcome.specs.declared.outcome.How.TheVariants as H
use Rattle.play_outcome.specs.declared.outcome.End.{End}
use Rattle.play_outcome.specs.declared.outcome.End.TheVariants.{Committed, Collected, Done, Refused}
use Rattle.play_outcome.specs.declared.outcome.End.TheVariants.{Stopped, InDoubt, Expired, Checked}
use Rattle.play_outcome.specs.declared.outcome.Outcome.{Outcome}

-- why a doubt couldn't be settled, if it couldn't
abbrev pub why_unsettled : How → List Refusal
why_unsettled H.Committed = []
why_unsettled H.NotCommitted = []
why_unsettled H.NotAncestor = []
why_unsettled H.NoRef = []
why_unsettled (H.Unsettled why) = why ∷ []

-- the refusals that ended it: one at most, or a doubt, and why that couldn't be settled
abbrev pub end_why : End → List Refusal
end_why (Committed id) = []
end_why (Collected removed) = []
end_why Done = []
end_why (Refused line why) = why ∷ []
end_why (Stopped line why removed) = why ∷ []
end_why (InDoubt id how) = R.InDoubt id ∷ why_unsettled how
end_why (Expired line cases (Ok done)) = []
end_why (Expired line cases (Err why)) = why ∷ []
end_why (Checked line faults (Ok counts)) = []
end_why (Checked line faults (Err why)) = why ∷ []

-- why a lease was left, if it was
abbrev pub why_left : Shown → List Refusal
why_left (Lease line id (Some why)) = why ∷ []
why_left _ = []

-- the refusals of the task: those of releases, and those that ended it
abbrev pub why_ended : Outcome → List Refusal
why_ended outcome = flat_map why_left outcome.shown ++ end_why outcome.end

abbrev pub end_starved : End → Bool
end_starved (Committed id) = false
end_starved (Collected removed) = false
end_starved Done = false
end_starved (Refused line why) = is_no_memory why
end_starved (Stopped line why removed) = is_no_memory why
end_starved (InDoubt id how) = list_any is_no_memory (why_unsettled how)
end_starved (Expired line cases (Ok done)) = false
end_starved (Expired line cases (Err why)) = is_no_memory why
end_starved (Checked line faults (Ok counts)) = false
end_starved (Checked line faults (Err why)) = is_no_memory why

abbrev pub end_failed : End → Bool
end_failed (Committed id) = false
end_failed (Collected removed) = false
end_failed Done = false
end_failed (Refused line why) = is_fault why
end_failed (Stopped line why removed) = is_fault why
end_failed (InDoubt id how) = true
end_failed (Expired line cases (Ok done)) = false
end_failed (Expired line cases (Err why)) = is_fault why
end_failed (Checked line faults (Ok counts)) = false
end_failed (Checked line faults (Err why)) = is_fault why

-- memory was wanting for the release of a lease, or the store failed it
abbrev pub left_starved : Shown → Bool
left_starved (Lease line id (Some why)) = is_no_memory why
left_starved _ = false

abbrev pub left_failed : Shown → Bool
left_failed (Lease line id (Some why)) = is_fault why
left_failed _ = false

abbrev pub shows_failed : List Shown → Bool
shows_failed shown = list_any left_failed shown

-- its end tells a fault of the store
abbrev pub ends_failed : Outcome → Bool
ends_failed outcome = end_failed outcome.end

abbrev pub is_starved : Outcome → Bool
is_starved outcome = list_any left_starved outcome.shown || end_starved outcome.end

-- its end does, or a lease that it left
abbrev pub is_failed : Outcome → Bool
is_failed outcome = shows_failed outcome.shown || end_failed outcome.end
