-- A collection by its client's events in a journal (own).
use Rattle.std.specs.Prelude.{◌≡◌, ℕ, List, [], ◌∷◌, drop, length}
use Rattle.object_store.specs.declared.events.Event.{Event}
use Rattle.store_api.specs.Program.{events_of}
use Rattle.collecting.specs.Walks.{Walk, fresh, May, told}

-- behind these events of its own
abbrev pub told_all : ℕ → Walk → List Event → Walk
told_all cutoff w [] = w
told_all cutoff w (event ∷ events) = told_all cutoff (told cutoff w event.op event.reply) events

-- what the client's events behind `start` told
abbrev pub walk_of : (cutoff client : ℕ) → (start journal : List Event) → Walk
walk_of cutoff client start journal =
    told_all cutoff fresh (events_of client (drop (length start) journal))

-- each of these events of its own is one that a collection may make
abbrev pub MayAll : ℕ → Walk → List Event → Type 0
MayAll cutoff w [] = Unit {0}
MayAll cutoff w (event ∷ events) =
    May cutoff w event.op × MayAll cutoff (told cutoff w event.op event.reply) events

-- An event of the client is one that its collection may make next, by what it was told behind
-- `start`: a fact of each event and the journal before it.
abbrev pub OwesCollecting : (cutoff client : ℕ) → (start before : List Event) → Event → Type 0
OwesCollecting cutoff client start before event =
    event.client ≡ client → May cutoff (walk_of cutoff client start before) event.op
