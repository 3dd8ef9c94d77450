-- The play of a task that expires: one expiry, and how the task ends by it. (Own.)
use Rattle.std.specs.Prelude.{ℕ, Bool, []}
use Rattle.store_api.specs.Plays.{Play, ended_as}
use Rattle.expiry.specs.declared.terms.Terms.{Terms}
use Rattle.expiry.specs.declared.standing.Expired.{Expired}
use Rattle.expiry.specs.Plays.{expire_play}
use Rattle.play_outcome.specs.declared.outcome.End.{End}
use Rattle.play_outcome.specs.declared.outcome.End.TheVariants as end
use Rattle.play_outcome.specs.declared.outcome.Outcome.{Outcome}

-- the terms of an expiry: which snapshots are old, and which refs are dropped with them
abbrev pub terms_of : (cutoff : ℕ) → (drop_branches drop_tags : Bool) → Terms
terms_of cutoff drop_branches drop_tags = record {
  cutoff = cutoff;
  drop_branches = drop_branches;
  drop_tags = drop_tags;
}

-- how a task ends on this line of the script whose expiry ended so
abbrev pub end_by : (line : ℕ) → Expired → End
end_by line e = end.Expired line e.cases e.result

abbrev pub outcome_of : (line : ℕ) → Expired → Outcome
outcome_of line e = record { shown = []; end = end_by line e }

abbrev pub expire_task : (line : ℕ) → Terms → Play Outcome
expire_task line terms = ended_as (outcome_of line) (expire_play terms)
