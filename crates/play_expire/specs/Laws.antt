-- Laws of tasks that expire.
use Rattle.std.specs.Prelude.{◌++◌, ℕ, List}
use Rattle.object_store.specs.declared.events.Event.{Event}
use Rattle.store_api.specs.Journal.{Each, IsPolite}
use Rattle.store_api.specs.Callers.{Caller, IsOther}
use Rattle.store_api.specs.Plays.{PlayKeeps, PlayLeads}
use Rattle.expiry.specs.declared.terms.Terms.{Terms}
use Rattle.expiry.specs.Owing.{IsOwed}
use Rattle.play_outcome.specs.declared.outcome.Outcome.{Outcome}
use Rattle.play_expire.specs.Playing.{expire_task}
use Rattle.play_expire.specs.Telling.{ExpiredTells}

-- Whatever others do, each operation of the task is polite, and one that its expiry owes; and the
-- outcome tells the journal, where the task began at `start`.
abbrev pub ExpireTaskLaw : Type 0
ExpireTaskLaw = (by : Caller) (line : ℕ) (terms : Terms) (start : List Event)
    → PlayKeeps (λ journal client op. IsPolite journal op × IsOwed terms start journal client op)
    by (expire_task line terms) start
    × PlayLeads (ExpiredTells line terms by.number start) by (expire_task line terms) start

-- what an outcome tells stays so, whatever good events others make
abbrev pub ExpireOutcomeLaw : Type 0
ExpireOutcomeLaw =
    (by : Caller) (line : ℕ) (terms : Terms) (outcome : Outcome) (start journal more : List Event)
    → Each (IsOther by) journal more → ExpiredTells line terms by.number start outcome journal
    → ExpiredTells line terms by.number start outcome (journal ++ more)
