-- How plays of outcomes end. (Own.)
use Rattle.std.specs.Prelude.{ℕ, List}
use Rattle.store_api.specs.declared.machines.Refusal.{Refusal}
use Rattle.store_api.specs.Plays.{Play, Ended}
use Rattle.play_outcome.specs.declared.outcome.Shown.{Shown}
use Rattle.play_outcome.specs.declared.outcome.End.{End}
use Rattle.play_outcome.specs.declared.outcome.End.TheVariants.{Refused}
use Rattle.play_outcome.specs.declared.outcome.Outcome.{Outcome}

-- the task has ended
abbrev pub ended : List Shown → End → Play Outcome
ended shown end = Ended (record { shown = shown; end = end })

-- it was refused at this line
abbrev pub refused : ℕ → List Shown → Refusal → Play Outcome
refused line shown why = ended shown (Refused line why)
