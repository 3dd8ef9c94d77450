-- The order in which workers take turns over one store.
use Rattle.std.specs.Prelude.{◌≡◌, ◌⊎◌, ℕ, ◌+◌, ◌-◌, Bool, IsTrue, List, [], ◌∷◌, ◌++◌}
use Rattle.std.specs.Prelude.{Some, slice_get, slice_set, replicate, map}
use Rattle.std.specs.List.{AllZip}
use Rattle.ice_ids.specs.declared.drawing.Draw.{Draw}
use Rattle.object_store.specs.declared.events.Op.{Op}
use Rattle.object_store.specs.declared.events.Reply.{Reply}
use Rattle.object_store.specs.declared.events.Event.{Event}
use Rattle.store_api.specs.Journal.{Each}
use Rattle.store_api.specs.Callers.{Fits}
use Rattle.store_api.specs.Plays.{Play, Ended, Ask, HasEnded, Comes}
use Rattle.play_script.specs.declared.scripts.Task.{Task}
use Rattle.play_script.specs.declared.scripts.Turn.{Turn}
use Rattle.play_outcome.specs.declared.outcome.Outcome.{Outcome}
use Rattle.play_tasks.specs.Tasks.{IsOfClient, plays_from}
use Rattle.play_tasks.specs.Played.{AllPlayed}

-- the worker at this place had ended
pub record Passed (t : ℕ) (ps : List (Play Outcome)) (events : List Event)
    (qs : List (Play Outcome)) : Type 0 where
  pub p : Play Outcome
  pub at : slice_get ps t ≡ Some p
  pub ended : HasEnded p
  pub nothing : events ≡ []
  pub same : qs ≡ ps

-- The worker at this place made the operation that came next for it, was answered by a reply that
-- fits it, and went on by that reply.
pub record WentOn (t : ℕ) (ps : List (Play Outcome)) (events : List Event)
    (qs : List (Play Outcome)) : Type 0 where
  pub event : Event
  pub starved : Play Outcome
  pub next : Reply → Play Outcome
  pub q : Play Outcome
  pub at : slice_get ps t ≡ Some (Ask event.op starved next)
  pub client : event.client ≡ t + 1
  pub fits : Fits event.op event.reply
  pub one : events ≡ event ∷ []
  pub comes : Comes (next event.reply) q
  pub rest : qs ≡ slice_set ps t q

-- there was no memory for the operation that came next for the worker at this place
pub record FellShort (t : ℕ) (ps : List (Play Outcome)) (events : List Event)
    (qs : List (Play Outcome)) : Type 0 where
  pub op : Op
  pub starved : Play Outcome
  pub next : Reply → Play Outcome
  pub q : Play Outcome
  pub at : slice_get ps t ≡ Some (Ask op starved next)
  pub nothing : events ≡ []
  pub comes : Comes starved q
  pub rest : qs ≡ slice_set ps t q

-- a turn of the worker at this place
abbrev pub Turned : ℕ → List (Play Outcome) → List Event → List (Play Outcome) → Type 0
Turned t ps events qs = Passed t ps events qs ⊎ (WentOn t ps events qs ⊎ FellShort t ps events qs)

-- the operations, each with its answer, come in the order of the turns
unfoldable pub InTurns : List ℕ → List (Play Outcome) → List Event → List (Play Outcome) → Type 0
InTurns [] ps events qs = (events ≡ []) × (qs ≡ ps)
InTurns (t ∷ ts) ps events qs =
    (first more : List Event) × (mid : List (Play Outcome)) × (events ≡ first ++ more)
    × Turned t ps first mid × InTurns ts mid more qs

-- By these turns, the workers of these tasks went from the plays ps to the plays qs. Where
-- the store tells its journal, it goes on by exactly their operations, each of them good
-- and owed by its client's task.
pub record Ran (draw : Draw) (tasks : List Task) (tells : Bool) (turns : List ℕ)
    (ps qs : List (Play Outcome)) (old new : List Event) : Type 0 where
  pub own : List Event
  pub order : InTurns turns ps own qs
  pub is : IsTrue tells → new ≡ old ++ own
  pub careful : IsTrue tells → Each (IsOfClient draw tasks old) old own

-- the places of the workers that take these turns of a script
abbrev pub places_of : List Turn → List ℕ
places_of [] = []
places_of (t ∷ ts) = replicate t.count (t.client - 1) ++ places_of ts

-- so many turns of the worker at place k, so many of the next one, and so on
abbrev pub turns_of : ℕ → List ℕ → List ℕ
turns_of k [] = []
turns_of k (n ∷ ns) = replicate n k ++ turns_of (k + 1) ns

-- The workers of these tasks begin so: each play has come there, with memory or without.
abbrev pub Begin : Draw → List Task → List (Play Outcome) → Type 0
Begin draw tasks ps = AllZip (λ (p q : Play Outcome). Comes p q) (plays_from draw 0 tasks) ps

-- The tasks were run by the list of turns, and then each to its end, in order. They ended with
-- these outcomes, and whatever the order, each played to its outcome.
pub record RanTasks (draw : Draw) (tasks : List Task) (tells : Bool) (turns : List ℕ)
    (outcomes : List Outcome) (old new : List Event) : Type 0 where
  pub begun : List (Play Outcome)
  pub begins : Begin draw tasks begun
  pub counts : List ℕ
  pub ran : Ran draw tasks tells (turns ++ turns_of 0 counts)
      begun (map (λ (o : Outcome). Ended o) outcomes) old new
  pub played : AllPlayed draw tasks outcomes ran.own
