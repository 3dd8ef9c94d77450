-- What a settling told stays so, whatever others do.
use Rattle.std.proofs.Common.{◌⊎◌, inl, inr, ℕ, List, ◌++◌}
use Rattle.std.specs.Prelude.{Option, Some, None, Result, Ok, Err}
use Rattle.ice_ids.specs.declared.Id12.{Id12}
use Rattle.repo_objects.specs.declared.bad_objects.Bad.{Bad}
use Rattle.object_store.specs.declared.keys.Key.{Key}
use Rattle.object_store.specs.declared.keys.Key.TheVariants.{Snapshot, Branch}
use Rattle.object_store.specs.declared.events.Event.{Event}
use Rattle.store_api.specs.declared.machines.Refusal.{Refusal}
use Rattle.store_api.specs.declared.machines.Refusal.TheVariants as R
use Rattle.store_api.specs.Journal.{Each}
use Rattle.store_api.specs.Callers.{Caller, IsOther}
use Rattle.store_api.specs.Telling.{GetsOf, RefWasBad}
use Rattle.store_api.proofs.Happening.{WasAbsent-append, RefWasBad-append, SnapshotWasBad-append}
use Rattle.repo_read.proofs.Own.{MadeGets-append, others-get}
use Rattle.repo_read.proofs.NamingTold.{WasFailure-append}
use Rattle.repo_read.proofs.Namings.{WasRef-append}
use Rattle.repo_read.proofs.Leading.{leading-append}
use Rattle.settle.specs.declared.settle.Doubt.{Doubt}
use Rattle.settle.specs.declared.settle.Settled.{Settled}
use Rattle.settle.specs.declared.settle.Settled.TheVariants.{Committed, NotCommitted, NotAncestor}
use Rattle.settle.specs.Telling.{WasFollowed, WayIsBad, IsOfSettle, SettleSays, SettleTells}

module _ (by : Caller) (branch : List ℕ) (d : Doubt) (start journal more : List Event) (others : Each (IsOther by) journal more) where
  abbrev followed : (head : Id12) (to : Option Id12) → WasFollowed by.number branch d head to start journal → WasFollowed by.number branch d head to start (journal ++ more)
  followed head to w = record {
    version = w.version;
    read = WasRef-append by.number (Branch branch) w.version head start journal more w.read;
    seen = w.seen;
    chain = leading-append by.number (Some head) w.seen to start journal more w.chain;
    neither = w.neither;
  }

  bad-kept : (key : Key) (bad : Bad) → RefWasBad by.number (Branch branch) key bad start journal ⊎ WayIsBad by.number branch d key bad start journal
      → RefWasBad by.number (Branch branch) key bad start (journal ++ more) ⊎ WayIsBad by.number branch d key bad start (journal ++ more)
  bad-kept key bad (inl w) = inl (RefWasBad-append by.number (Branch branch) key bad start journal more w)
  bad-kept key bad (inr w) = inr (record { head = w.head; next = w.next; followed = followed w.head (Some w.next) w.followed; neither = w.neither; unread = SnapshotWasBad-append by.number w.next key bad start journal more w.unread })

  says-kept : (result : Result Settled Refusal) → SettleSays by.number branch d start result journal → SettleSays by.number branch d start result (journal ++ more)
  says-kept (Ok Committed) t = (t.0, followed t.0 (Some d.snapshot) t.1)
  says-kept (Ok NotCommitted) t = (t.0, t.1, followed t.1 (Some d.base) t.2)
  says-kept (Ok (NotAncestor head)) t = followed head None t
  says-kept (Err R.NoRef) t = WasAbsent-append by.number (Branch branch) start journal more t
  says-kept (Err (R.Missing key)) t = record {
    head = t.head;
    next = t.next;
    followed = followed t.head (Some t.next) t.followed;
    neither = t.neither;
    key_is = t.key_is;
    absent = WasAbsent-append by.number (Snapshot t.next) start journal more t.absent;
  }
  says-kept (Err (R.BadFile key bad)) t = bad-kept key bad t
  says-kept (Err R.TooDeep) t = record { head = t.head; next = t.next; followed = followed t.head (Some t.next) t.followed; neither = t.neither; many = t.many }
  says-kept (Err R.StoreFault) t = WasFailure-append by.number (GetsOf (IsOfSettle branch)) start journal more (others-get by journal more others) t
  says-kept (Err R.NoMemory) t = tt
  says-kept (Err _) t = absurd t

  pub settle-kept : (result : Result Settled Refusal) → SettleTells by.number branch d start result journal → SettleTells by.number branch d start result (journal ++ more)
  settle-kept result t = (says-kept result t.0, MadeGets-append by.number start journal more (others-get by journal more others) t.1)
