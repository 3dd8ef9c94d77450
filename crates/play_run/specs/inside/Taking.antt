-- What one turn does, as the contracts of the code's own functions say it;
-- no public contract cites this.
use Rattle.std.specs.Prelude.{◌≡◌, ℕ, ◌+◌, Bool, true, false, List}
use Rattle.std.specs.Prelude.{Option, Some, None, slice_get, slice_set}
use Rattle.store_api.specs.Callers.{View, HasAll, as_client}
use Rattle.store_api.specs.Plays.{Play, IsLive, HasEnded, Acts}
use Rattle.play_outcome.specs.declared.outcome.Outcome.{Outcome}
use Rattle.play_outcome.specs.Ending.{is_failed}
use Rattle.play_tasks.specs.declared.worker.Worker.{Worker}
use Rattle.play_tasks.specs.Workers.{worker_left}

-- the worker at this place had ended
pub record Rested (t : ℕ) (old new : View) (ps qs : List (Play Outcome)) : Type 0 where
  pub p : Play Outcome
  pub at : slice_get ps t ≡ Some p
  pub ended : HasEnded p
  pub store : new ≡ old
  pub same : qs ≡ ps

-- the worker at this place made a step
pub record Stepped (t : ℕ) (old new : View) (ps qs : List (Play Outcome)) : Type 0 where
  pub p : Play Outcome
  pub at : slice_get ps t ≡ Some p
  pub live : IsLive p
  pub alone : HasAll old.caller
  pub q : Play Outcome
  pub acts : Acts is_failed (as_client (t + 1) old) new p q
  pub rest : qs ≡ slice_set ps t q

abbrev pub TookTurn : ℕ → View → View → List (Play Outcome) → List (Play Outcome) → Bool → Type 0
TookTurn t old new ps qs true = Stepped t old new ps qs
TookTurn t old new ps qs false = Rested t old new ps qs

abbrev pub left_of : Option Worker → ℕ
left_of None = 0
left_of (Some w) = worker_left w

-- the steps that the worker at this place has left
abbrev pub left_at : List Worker → ℕ → ℕ
left_at ws t = left_of (slice_get ws t)
