-- The law of names: each get is polite, the answer tells the journal, and what it tells stays so.
use Rattle.std.proofs.Common.{inl, inr, ℕ, List, ◌++◌}
use Rattle.std.specs.Prelude.{Result, Ok, Err}
use Rattle.repo_objects.specs.declared.bad_objects.Bad.{Bad}
use Rattle.object_store.specs.declared.keys.Key.{Key}
use Rattle.object_store.specs.declared.keys.Key.TheVariants.{Snapshot, Branch, Tag, Tombstone}
use Rattle.object_store.specs.declared.events.Reply.TheVariants.{Failed}
use Rattle.object_store.specs.declared.events.Event.{Event}
use Rattle.object_store.specs.declared.events.Op.{Op}
use Rattle.store_api.specs.declared.machines.Refusal.{Refusal}
use Rattle.store_api.specs.declared.machines.Refusal.TheVariants as R
use Rattle.store_api.specs.Journal.{Each}
use Rattle.store_api.specs.Callers.{Caller, IsOther}
use Rattle.store_api.specs.Telling.{GetsAlone, GetsOf, IsTold, WasFailure, WasPresent}
use Rattle.store_api.proofs.Happening.{WasGot-append, WasAbsent-append, RefWasBad-append, SnapshotWasBad-append}
use Rattle.repo_read.specs.declared.resolving.At.{At}
use Rattle.repo_read.specs.declared.resolving.Named.{Named}
use Rattle.repo_read.specs.Resolving.{resolve_at_program}
use Rattle.repo_read.specs.Naming.{WasNothing, key_of, IsNaming, NamingTells, TargetWasAbsent, TargetWasBad}
use Rattle.repo_read.proofs.Own.{MadeGets-none, MadeGets-append, MadeOne-append, others-get}
use Rattle.repo_read.proofs.Namings.{WasResolved-append, naming-polite, naming-leads}

-- ---- what was told stays so
pub WasPresent-append : (client : ℕ) (key : Key) (start journal more : List Event) → WasPresent client key start journal → WasPresent client key start (journal ++ more)
WasPresent-append client key start journal more w = record { bytes = w.bytes; version = w.version; got = WasGot-append client key w.bytes w.version start journal more w.got }

pub WasNothing-append : (client : ℕ) (at : At) (start journal more : List Event) → WasNothing client at start journal → WasNothing client at start (journal ++ more)
WasNothing-append client (At.Branch name) start journal more w = WasAbsent-append client (Branch name) start journal more w
WasNothing-append client (At.Tag name) start journal more (inl w) = inl (WasAbsent-append client (Tag name) start journal more w)
WasNothing-append client (At.Tag name) start journal more (inr w) = inr (WasPresent-append client (Tombstone name) start journal more w)
WasNothing-append client (At.Snapshot id) start journal more w = absurd w

pub TargetWasAbsent-append : (client : ℕ) (at : At) (start journal more : List Event) → TargetWasAbsent client at start journal → TargetWasAbsent client at start (journal ++ more)
TargetWasAbsent-append client at start journal more w = record { named = w.named; resolved = WasResolved-append client at w.named start journal more w.resolved; absent = WasAbsent-append client (Snapshot w.named.id) start journal more w.absent }

pub TargetWasBad-append : (client : ℕ) (at : At) (key : Key) (bad : Bad) (start journal more : List Event) → TargetWasBad client at key bad start journal → TargetWasBad client at key bad start (journal ++ more)
TargetWasBad-append client at key bad start journal more w = record { named = w.named; resolved = WasResolved-append client at w.named start journal more w.resolved; unread = SnapshotWasBad-append client w.named.id key bad start journal more w.unread }

pub WasFailure-append : (client : ℕ) (kind : Op → Type 0) (start journal more : List Event) → Each (GetsAlone client) journal more → WasFailure client kind start journal → WasFailure client kind start (journal ++ more)
WasFailure-append client kind start journal more gets w = record { op = w.op; of_kind = w.of_kind; done = w.done; made = MadeOne-append client w.op (Failed w.done) start journal more gets w.made }

pub naming-kept : (by : Caller) (start journal more : List Event) → Each (IsOther by) journal more → (at : At) (result : Result Named Refusal) → NamingTells by.number at start result journal → NamingTells by.number at start result (journal ++ more)
naming-kept by start journal more others at (Ok named) t = (WasResolved-append by.number at named start journal more t.0, MadeGets-append by.number start journal more (others-get by journal more others) t.1)
naming-kept by start journal more others at (Err R.NoRef) t = (WasNothing-append by.number at start journal more t.0, MadeGets-append by.number start journal more (others-get by journal more others) t.1)
naming-kept by start journal more others at (Err (R.BadFile key bad)) t = (RefWasBad-append by.number (key_of at) key bad start journal more t.0, MadeGets-append by.number start journal more (others-get by journal more others) t.1)
naming-kept by start journal more others at (Err R.StoreFault) t = WasFailure-append by.number (GetsOf (IsNaming at)) start journal more (others-get by journal more others) t
naming-kept by start journal more others at (Err _) t = absurd t

-- ---- the law
pub naming-told : (by : Caller) (at : At) → IsTold by (resolve_at_program at) (NamingTells by.number at)
naming-told by at = record {
  polite = naming-polite by at;
  leads = λ journal. naming-leads by journal at journal (MadeGets-none by.number journal);
  kept = λ result start journal more others t. naming-kept by start journal more others at result t;
}
