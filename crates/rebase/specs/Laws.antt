-- Laws of rebases.
use Rattle.std.specs.Prelude.{ℕ, List, Result, Ok, Err}
use Rattle.ice_ids.specs.declared.drawing.AnyIds.{AnyIds}
use Rattle.conflicts.specs.declared.solving.Policy.{Policy}
use Rattle.object_store.specs.declared.events.Event.{Event}
use Rattle.store_api.specs.declared.machines.Refusal.{Refusal}
use Rattle.store_api.specs.Callers.{Caller}
use Rattle.store_api.specs.Plays.{Stays as HoldsThroughout}
use Rattle.store_api.specs.Program.{Keeps, Leads}
use Rattle.store_api.specs.Telling.{ChangedNothing, IsGet, IsTold, MadeGets}
use Rattle.session.specs.Sessions.{SessionState}
use Rattle.commit_path.specs.Own.{Owns}
use Rattle.commit_path.specs.Opened.{IsOpened}
use Rattle.commit_path.specs.Single.{HasPutNone, HasPutAlike}
use Rattle.commit_path.specs.Spelled.{IsSpelled}
use Rattle.rebase.specs.declared.machine.Rebased.{Rebased}
use Rattle.rebase.specs.declared.machine.Rebased.TheVariants.{OnHead, UpToDate}
use Rattle.rebase.specs.Rebasing.{rebase_program}
use Rattle.rebase.specs.Telling.{RebaseTells}

-- ---- answers
-- the session that a rebase answers knows its base and can be written
abbrev pub CanGoOn : Result Rebased Refusal → List Event → Type 0
CanGoOn (Ok (OnHead t count)) journal = IsSpelled t × IsOpened t journal
CanGoOn (Ok (UpToDate t)) journal = IsSpelled t × IsOpened t journal
CanGoOn (Err why) journal = Unit {0}

-- what a client owned with the session it owns with the one that a rebase answers
abbrev pub OwnsOn : AnyIds → ℕ → List Event → Result Rebased Refusal → List Event → Type 0
OwnsOn ids client start (Ok (OnHead t count)) journal = Owns ids client t start journal
OwnsOn ids client start (Ok (UpToDate t)) journal = Owns ids client t start journal
OwnsOn ids client start (Err why) journal = Unit {0}

-- Whatever others do: each operation of a rebase is polite, and its answer tells the journal. Each
-- is a get, and a client that makes gets alone changes no branch and puts no snapshot, so that
-- those that it put are still like those of a session; nor has it changed a branch where a rebase
-- may find no memory. And where the session knew its base and could be written, so does the session
-- that is answered, and can be; what the client owned with the one it owns with the other.
pub record RebaseLaw (by : Caller) (policy : Policy) (s : SessionState) : Type 0 where
  pub told : IsTold by (rebase_program policy s) (RebaseTells by.number policy s)
  pub gets : (journal : List Event)
      → Keeps (λ known client op. IsGet op) by (rebase_program policy s) journal
  pub quiet : (start middle journal : List Event) → MadeGets by.number middle journal
      → (ChangedNothing by.number start middle → ChangedNothing by.number start journal)
      × (HasPutNone by.number start middle → HasPutNone by.number start journal)
  pub alike : (t : SessionState) (start middle journal : List Event)
      → MadeGets by.number middle journal → HasPutAlike by.number t start middle
      → HasPutAlike by.number t start journal
  pub stays : (start journal : List Event) → ChangedNothing by.number start journal
      → HoldsThroughout (ChangedNothing by.number start) by (rebase_program policy s) journal
  pub goes_on : (journal : List Event) → IsSpelled s → IsOpened s journal
      → Leads CanGoOn by (rebase_program policy s) journal
  pub owns : (ids : AnyIds) (start journal : List Event) → Owns ids by.number s start journal
      → Leads (OwnsOn ids by.number start) by (rebase_program policy s) journal
