-- What the releases of a session's leases have still to do.
use Rattle.std.specs.Prelude.{ℕ, ◌+◌, ◌-◌, ◌++◌, ◌∷◌, [], nat_lt, List, drop}
use Rattle.std.specs.Prelude.{length, take, Bool, true, Option, Some, None}
use Rattle.ice_ids.specs.declared.Id12.{Id12}
use Rattle.store_api.specs.Plays.{Play, Ended}
use Rattle.leases.specs.Plays.{release_play}
use Rattle.leases.specs.Following.{followed}
use Rattle.play_outcome.specs.declared.outcome.Shown.{Shown}
use Rattle.play_outcome.specs.declared.outcome.Shown.TheVariants.{Lease}
use Rattle.play_outcome.specs.declared.outcome.End.{End}
use Rattle.play_outcome.specs.declared.outcome.Outcome.{Outcome}
use Rattle.play_tasks.specs.declared.working.Releases.{Releases}
use Rattle.play_tasks.specs.declared.working.Releases.TheVariants as r
use Rattle.play_tasks.specs.Playing.{left_by, release_from}

-- the line that put a lease, and its id
abbrev pub lease_in : Shown → Option (ℕ × Id12)
lease_in (Lease line id left) = Some (line, id)
lease_in _ = None

-- the lease at this number is released, and then those behind it
abbrev pub next_play : List Shown → End → (at line : ℕ) → Id12 → Play Outcome
next_play shown end at line id =
    followed (release_play id) (λ result.
    release_from (take at shown ++ Lease line id (left_by result) ∷ []) (drop (at + 1) shown) end)

abbrev pub releases_rest : Releases → Play Outcome
releases_rest (r.Next shown end at line id) = next_play shown.items end at line id
releases_rest (r.Ended outcome) = Ended outcome

-- the next one is among what is shown
abbrev pub are_left : Releases → Bool
are_left (r.Next shown end at line id) = nat_lt at (length shown.items)
are_left (r.Ended outcome) = true

-- how many steps are left at most
abbrev pub releases_left : Releases → ℕ
releases_left (r.Next shown end at line id) = length shown.items - at
releases_left (r.Ended outcome) = 0
