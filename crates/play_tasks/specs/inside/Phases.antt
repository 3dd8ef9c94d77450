-- What the worker of a session does, and what is left of that.
use Rattle.std.specs.Prelude.{ℕ, ◌+◌, ◌^◌, ◌&&◌, Bool}
use Rattle.store_api.specs.Plays.{Play}
use Rattle.leases.specs.Following.{followed}
use Rattle.play_outcome.specs.declared.outcome.Outcome.{Outcome}
use Rattle.play_tasks.specs.declared.working.SessionTask.{SessionTask}
use Rattle.play_tasks.specs.declared.working.Phase.{Phase}
use Rattle.play_tasks.specs.declared.working.Phase.TheVariants.{Playing, Releasing}
use Rattle.play_tasks.specs.Playing.{release_all}
use Rattle.play_tasks.specs.inside.Working.{is_open, is_working, working_rest, working_left}
use Rattle.play_tasks.specs.inside.Releasing.{are_left, releases_rest, releases_left}

abbrev pub phase_rest : SessionTask → Phase → Play Outcome
phase_rest task (Playing state) = followed (working_rest task state) release_all
phase_rest task (Releasing r) = releases_rest r

-- a session that is played hasn't ended
abbrev pub is_phase : Phase → Bool
is_phase (Playing state) = is_open state && is_working state
is_phase (Releasing r) = are_left r

-- no session has more leases
abbrev pub most_releases : ℕ
most_releases = 2 ^ 64

-- how many steps are left at most, of a body of so many lines
abbrev pub phase_left : ℕ → Phase → ℕ
phase_left lines (Playing state) = most_releases + working_left lines state
phase_left lines (Releasing r) = releases_left r
