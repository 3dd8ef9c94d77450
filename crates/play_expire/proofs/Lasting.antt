-- What the outcome of a task that expires tells stays so, whatever comes.
use Rattle.std.proofs.Common.{ℕ, List, ◌++◌}
use Rattle.object_store.specs.declared.events.Event.{Event}
use Rattle.expiry.specs.declared.terms.Terms.{Terms}
use Rattle.expiry.proofs.Lasting.{tells-more}
use Rattle.play_outcome.specs.declared.outcome.Outcome.{Outcome}
use Rattle.play_expire.specs.Telling.{ExpiredTells}

pub ExpiredTells-more : (line : ℕ) (terms : Terms) (client : ℕ) (start journal more : List Event) (outcome : Outcome) → ExpiredTells line terms client start outcome journal → ExpiredTells line terms client start outcome (journal ++ more)
ExpiredTells-more line terms client start journal more outcome e = record { expired = e.expired; is = e.is; tells = tells-more terms client start journal more e.expired e.tells }
