-- What the outcome of a task that expires says of the journal. (Own.)
use Rattle.std.specs.Prelude.{◌≡◌, ℕ, List}
use Rattle.object_store.specs.declared.events.Event.{Event}
use Rattle.expiry.specs.declared.terms.Terms.{Terms}
use Rattle.expiry.specs.declared.standing.Expired.{Expired}
use Rattle.expiry.specs.Telling.{ExpireTells}
use Rattle.play_outcome.specs.declared.outcome.Outcome.{Outcome}
use Rattle.play_expire.specs.Playing.{outcome_of}

-- It shows nothing, and its end is that of an expiry: of each ref that it came to, what became
-- of it; where it ended well, it came to all that its own listings had; and where it was
-- refused, the journal has the cause.
pub record ExpiredTells (line : ℕ) (terms : Terms) (client : ℕ) (start : List Event)
    (outcome : Outcome) (journal : List Event) : Type 0 where
  pub expired : Expired
  pub is : outcome ≡ outcome_of line expired
  pub tells : ExpireTells terms client start expired journal
