-- What answers tell stays so, whatever others do.
use Rattle.std.proofs.Common.{◌⊎◌, inl, inr, ℕ, List, ◌++◌}
use Rattle.std.specs.Prelude.{Option, Some, None, Result, Ok, Err}
use Rattle.ice_ids.specs.declared.Id12.{Id12}
use Rattle.repo_objects.specs.declared.bad_objects.Bad.{Bad}
use Rattle.object_store.specs.declared.keys.Key.{Key}
use Rattle.object_store.specs.declared.keys.Key.TheVariants.{Snapshot, Branch, Tag, Tombstone}
use Rattle.object_store.specs.declared.events.Version.{Version}
use Rattle.object_store.specs.declared.events.Op.{Op}
use Rattle.object_store.specs.declared.events.Op.TheVariants.{Get}
use Rattle.object_store.specs.declared.events.Got.TheVariants.{Absent}
use Rattle.object_store.specs.declared.events.New.TheVariants.{Done as New_done, Present}
use Rattle.object_store.specs.declared.events.Over.TheVariants.{Done as Over_done, Moved as Over_moved}
use Rattle.object_store.specs.declared.events.GoneAt.TheVariants.{Done as Gone_done, Moved as Gone_moved}
use Rattle.object_store.specs.declared.events.Reply.{Reply}
use Rattle.object_store.specs.declared.events.Reply.TheVariants.{Got, New, Over, GoneAt, Failed}
use Rattle.object_store.specs.declared.events.Event.{Event}
use Rattle.store_api.specs.declared.machines.Refusal.{Refusal}
use Rattle.store_api.specs.declared.machines.Refusal.TheVariants as R
use Rattle.store_api.specs.Journal.{Each}
use Rattle.store_api.specs.Callers.{Caller, IsOther}
use Rattle.store_api.specs.Telling.{HasOwn, MadeGets, MadeOne, RefWasBad, SnapshotWasBad, WasAbsent, WasFailure, WasPresent, WasSnapshot}
use Rattle.store_api.proofs.Happening.{HasOwn-append, WasAbsent-append, RefWasBad-append, SnapshotWasBad-append}
use Rattle.repo_read.specs.declared.resolving.At.{At}
use Rattle.repo_read.specs.declared.resolving.Named.{Named}
use Rattle.refs_admin.specs.declared.log.LogLine.{LogLine}
use Rattle.repo_read.specs.Naming.{WasResolved, WasNothing, WasUnnamed, key_of, TargetWasAbsent, TargetWasBad}
use Rattle.refs_admin.specs.Telling.{GetsTarget, IsOfMaking, WasAimed, MakingRefused}
use Rattle.refs_admin.specs.BranchTelling.{creates, BranchNewTells, BranchWasAt, ResetRefused, IsOfReset, resets, BranchResetTells, DropRefused, IsOfDrop, removes, BranchDropTells}
use Rattle.refs_admin.specs.TagTelling.{TagWasThere, TombstoneWasNotGot, tags, TagNewTells, TagWasRead, HadTombstone, IsOfBurying, buries, TagDropTells}
use Rattle.refs_admin.specs.InitTelling.{HasInitial, puts_initial, puts_main, InitTells}
use Rattle.refs_admin.specs.LogTelling.{WasWalked, HeadWasAbsent, ChainIsBad, IsOfLog, LogSays, LogTells}
use Rattle.repo_read.proofs.Own.{MadeGets-append, MadeOne-append, others-get}
use Rattle.repo_read.proofs.NamingTold.{WasPresent-append, TargetWasAbsent-append, TargetWasBad-append, WasNothing-append, WasFailure-append}
use Rattle.repo_read.proofs.Namings.{WasRef-append, WasResolved-append}
use Rattle.refs_admin.proofs.Targets.{WasSnapshot-append}
use Rattle.repo_read.proofs.Leading.{leading-append}

module _ (by : Caller) (start journal more : List Event) (others : Each (IsOther by) journal more) where
  gets : MadeGets by.number start journal → MadeGets by.number start (journal ++ more)
  gets c = MadeGets-append by.number start journal more (others-get by journal more others) c

  abbrev one : (op : Op) (reply : Reply) → MadeOne by.number op reply start journal → MadeOne by.number op reply start (journal ++ more)
  one op reply m = MadeOne-append by.number op reply start journal more (others-get by journal more others) m

  abbrev own : (op : Op) (reply : Reply) → HasOwn by.number op reply start journal → HasOwn by.number op reply start (journal ++ more)
  own op reply h = HasOwn-append by.number op reply start journal more h

  failure : (kind : Op → Type 0) → WasFailure by.number kind start journal → WasFailure by.number kind start (journal ++ more)
  failure kind w = WasFailure-append by.number kind start journal more (others-get by journal more others) w

  -- ... where the kind may say more of the longer journal
  failure-more : (kind other : Op → Type 0) → ((op : Op) → kind op → other op) → WasFailure by.number kind start journal → WasFailure by.number other start (journal ++ more)
  failure-more kind other f w = record { op = w.op; of_kind = f w.op w.of_kind; done = w.done; made = one w.op (Failed w.done) w.made }

  present : (key : Key) → WasPresent by.number key start journal → WasPresent by.number key start (journal ++ more)
  present key w = WasPresent-append by.number key start journal more w

  ref-bad : (ref key : Key) (bad : Bad) → RefWasBad by.number ref key bad start journal → RefWasBad by.number ref key bad start (journal ++ more)
  ref-bad ref key bad w = RefWasBad-append by.number ref key bad start journal more w

  snapshot-bad : (id : Id12) (key : Key) (bad : Bad) → SnapshotWasBad by.number id key bad start journal → SnapshotWasBad by.number id key bad start (journal ++ more)
  snapshot-bad id key bad w = SnapshotWasBad-append by.number id key bad start journal more w

  -- ---- names
  resolved : (at : At) (named : Named) → WasResolved by.number at named start journal → WasResolved by.number at named start (journal ++ more)
  resolved at named w = WasResolved-append by.number at named start journal more w

  nothing : (at : At) → WasNothing by.number at start journal → WasNothing by.number at start (journal ++ more)
  nothing at w = WasNothing-append by.number at start journal more w

  -- ---- refs that are made
  target : (id : Id12) → WasSnapshot by.number id start journal → WasSnapshot by.number id start (journal ++ more)
  target id w = WasSnapshot-append by.number id start journal more w

  abbrev aimed : (at : At) → WasAimed by.number at start journal → WasAimed by.number at start (journal ++ more)
  aimed at w = record { named = w.named; resolved = resolved at w.named w.resolved; target = target w.named.id w.target }

  target-absent : (at : At) → TargetWasAbsent by.number at start journal → TargetWasAbsent by.number at start (journal ++ more)
  target-absent at w = TargetWasAbsent-append by.number at start journal more w

  target-bad : (at : At) (key : Key) (bad : Bad) → TargetWasBad by.number at key bad start journal → TargetWasBad by.number at key bad start (journal ++ more)
  target-bad at key bad w = TargetWasBad-append by.number at key bad start journal more w

  making-bad : (at : At) (key : Key) (bad : Bad) → WasUnnamed by.number at key bad start journal ⊎ TargetWasBad by.number at key bad start journal → WasUnnamed by.number at key bad start (journal ++ more) ⊎ TargetWasBad by.number at key bad start (journal ++ more)
  making-bad at key bad (inl w) = inl (ref-bad (key_of at) key bad w)
  making-bad at key bad (inr w) = inr (target-bad at key bad w)

  making : (at : At) (why : Refusal) → MakingRefused by.number at start why journal → MakingRefused by.number at start why (journal ++ more)
  making at R.NoRef w = nothing at w
  making at R.NoSnapshot w = target-absent at w
  making at (R.BadFile key bad) w = making-bad at key bad w
  making at _ w = absurd w

  gets-target : (at : At) (op : Op) → GetsTarget by.number at start journal op → GetsTarget by.number at start (journal ++ more) op
  gets-target at op w = (w.0, resolved at w.0 w.1, w.2)

  of-making : (at : At) (put : Id12 → Op) (op : Op) → IsOfMaking by.number at put start journal op → IsOfMaking by.number at put start (journal ++ more) op
  of-making at put op (inl w) = inl w
  of-making at put op (inr (inl w)) = inr (inl (gets-target at op w))
  of-making at put op (inr (inr w)) = inr (inr (aimed at w.0, w.1))

  making-failed : (at : At) (put : Id12 → Op) → WasFailure by.number (IsOfMaking by.number at put start journal) start journal → WasFailure by.number (IsOfMaking by.number at put start (journal ++ more)) start (journal ++ more)
  making-failed at put w = failure-more (IsOfMaking by.number at put start journal) (IsOfMaking by.number at put start (journal ++ more)) (of-making at put) w

  pub branch_new-kept : (name : List ℕ) (at : At) (result : Result (Unit {0}) Refusal) → BranchNewTells by.number name at start result journal → BranchNewTells by.number name at start result (journal ++ more)
  branch_new-kept name at (Ok done) t = record {
    aim = aimed at t.aim;
    version = t.version;
    now = t.now;
    made = one (creates name t.aim.named.id) (New (New_done t.version t.now)) t.made;
    position = t.position;
    free = t.free;
  }
  branch_new-kept name at (Err (R.RefExists version)) t = record {
    aim = aimed at t.aim;
    now = t.now;
    made = one (creates name t.aim.named.id) (New (Present version t.now)) t.made;
    there = t.there;
  }
  branch_new-kept name at (Err R.StoreFault) t = making-failed at (creates name) t
  branch_new-kept name at (Err why) t = (making at why t.0, gets t.1)

  -- ---- branches that are set and dropped
  was-at : (name : List ℕ) (version : Version) → BranchWasAt by.number name version start journal → BranchWasAt by.number name version start (journal ++ more)
  was-at name version w = record { id = w.id; read = WasRef-append by.number (Branch name) version w.id start journal more w.read }

  reset-absent : (name : List ℕ) (at : At) → WasNothing by.number at start journal ⊎ WasAbsent by.number (Branch name) start journal → WasNothing by.number at start (journal ++ more) ⊎ WasAbsent by.number (Branch name) start (journal ++ more)
  reset-absent name at (inl w) = inl (nothing at w)
  reset-absent name at (inr w) = inr (WasAbsent-append by.number (Branch name) start journal more w)

  reset-bad : (name : List ℕ) (at : At) (key : Key) (bad : Bad)
      → WasUnnamed by.number at key bad start journal ⊎ (RefWasBad by.number (Branch name) key bad start journal ⊎ TargetWasBad by.number at key bad start journal)
      → WasUnnamed by.number at key bad start (journal ++ more) ⊎ (RefWasBad by.number (Branch name) key bad start (journal ++ more) ⊎ TargetWasBad by.number at key bad start (journal ++ more))
  reset-bad name at key bad (inl w) = inl (ref-bad (key_of at) key bad w)
  reset-bad name at key bad (inr (inl w)) = inr (inl (ref-bad (Branch name) key bad w))
  reset-bad name at key bad (inr (inr w)) = inr (inr (target-bad at key bad w))

  reset-refused : (name : List ℕ) (at : At) (why : Refusal) → ResetRefused by.number name at start why journal → ResetRefused by.number name at start why (journal ++ more)
  reset-refused name at R.NoRef w = reset-absent name at w
  reset-refused name at R.NoSnapshot w = target-absent at w
  reset-refused name at (R.BadFile key bad) w = reset-bad name at key bad w
  reset-refused name at _ w = absurd w

  of-reset : (name : List ℕ) (at : At) (op : Op) → IsOfReset by.number name at start journal op → IsOfReset by.number name at start (journal ++ more) op
  of-reset name at op (inl w) = inl w
  of-reset name at op (inr (inl w)) = inr (inl w)
  of-reset name at op (inr (inr (inl w))) = inr (inr (inl (gets-target at op w)))
  of-reset name at op (inr (inr (inr w))) = inr (inr (inr (aimed at w.0, w.1, was-at name w.1 w.2, w.3)))

  pub branch_reset-kept : (name : List ℕ) (at : At) (result : Result (Unit {0}) Refusal) → BranchResetTells by.number name at start result journal → BranchResetTells by.number name at start result (journal ++ more)
  branch_reset-kept name at (Ok done) t = record {
    aim = aimed at t.aim;
    old = t.old;
    read = was-at name t.old t.read;
    version = t.version;
    now = t.now;
    made = one (resets name t.old t.aim.named.id) (Over (Over_done t.version t.now)) t.made;
    position = t.position;
    stood = t.stood;
  }
  branch_reset-kept name at (Err (R.Moved there)) t = record {
    aim = aimed at t.aim;
    old = t.old;
    read = was-at name t.old t.read;
    now = t.now;
    made = one (resets name t.old t.aim.named.id) (Over (Over_moved there t.now)) t.made;
    later = t.later;
  }
  branch_reset-kept name at (Err R.StoreFault) t = failure-more (IsOfReset by.number name at start journal) (IsOfReset by.number name at start (journal ++ more)) (of-reset name at) t
  branch_reset-kept name at (Err why) t = (reset-refused name at why t.0, gets t.1)

  drop-refused : (name : List ℕ) (why : Refusal) → DropRefused by.number name start why journal → DropRefused by.number name start why (journal ++ more)
  drop-refused name R.NoRef w = WasAbsent-append by.number (Branch name) start journal more w
  drop-refused name R.MainKept w = record { main = w.main; version = w.version; read = was-at name w.version w.read }
  drop-refused name (R.BadFile key bad) w = ref-bad (Branch name) key bad w
  drop-refused name _ w = absurd w

  of-drop : (name : List ℕ) (op : Op) → IsOfDrop by.number name start journal op → IsOfDrop by.number name start (journal ++ more) op
  of-drop name op (inl w) = inl w
  of-drop name op (inr w) = inr (w.0, was-at name w.0 w.1, w.2, w.3)

  pub branch_drop-kept : (name : List ℕ) (result : Result (Unit {0}) Refusal) → BranchDropTells by.number name start result journal → BranchDropTells by.number name start result (journal ++ more)
  branch_drop-kept name (Ok done) t = record { not_main = t.not_main; old = t.old; read = was-at name t.old t.read; now = t.now; made = one (removes name t.old) (GoneAt (Gone_done t.now)) t.made; stood = t.stood }
  branch_drop-kept name (Err (R.Moved there)) t = record { not_main = t.not_main; old = t.old; read = was-at name t.old t.read; now = t.now; made = one (removes name t.old) (GoneAt (Gone_moved there t.now)) t.made; later = t.later }
  branch_drop-kept name (Err R.StoreFault) t = failure-more (IsOfDrop by.number name start journal) (IsOfDrop by.number name start (journal ++ more)) (of-drop name) t
  branch_drop-kept name (Err why) t = (drop-refused name why t.0, gets t.1)

  -- ---- tags
  tag-there : (name : List ℕ) (at : At) (version : Version) → TagWasThere by.number name at version start journal → TagWasThere by.number name at version start (journal ++ more)
  tag-there name at version t = record {
    aim = aimed at t.aim;
    now = t.now;
    made = one (tags name t.aim.named.id) (New (Present version t.now)) t.made;
    there = t.there;
  }

  tag-fault : (name : List ℕ) (at : At) → WasFailure by.number (IsOfMaking by.number at (tags name) start journal) start journal ⊎ TombstoneWasNotGot by.number name at start journal → WasFailure by.number (IsOfMaking by.number at (tags name) start (journal ++ more)) start (journal ++ more) ⊎ TombstoneWasNotGot by.number name at start (journal ++ more)
  tag-fault name at (inl w) = inl (making-failed at (tags name) w)
  tag-fault name at (inr w) = inr (record { version = w.version; there = tag-there name at w.version w.there; done = w.done; own = own (Get (Tombstone name)) (Failed w.done) w.own })

  pub tag_new-kept : (name : List ℕ) (at : At) (result : Result (Unit {0}) Refusal) → TagNewTells by.number name at start result journal → TagNewTells by.number name at start result (journal ++ more)
  tag_new-kept name at (Ok done) t = record {
    aim = aimed at t.aim;
    version = t.version;
    now = t.now;
    made = one (tags name t.aim.named.id) (New (New_done t.version t.now)) t.made;
    position = t.position;
    free = t.free;
  }
  tag_new-kept name at (Err (R.RefExists version)) t = record {
    there = tag-there name at version t.there;
    stands = record { now = t.stands.now; own = own (Get (Tombstone name)) (Got (Absent t.stands.now)) t.stands.own; nothing = t.stands.nothing };
    still = t.still;
  }
  tag_new-kept name at (Err R.TagDropped) t = record { version = t.version; there = tag-there name at t.version t.there; gone = present (Tombstone name) t.gone }
  tag_new-kept name at (Err R.StoreFault) t = tag-fault name at t
  tag_new-kept name at (Err why) t = (making at why t.0, gets t.1)

  abbrev tag-read : (name : List ℕ) → TagWasRead by.number name start journal → TagWasRead by.number name start (journal ++ more)
  tag-read name w = record { version = w.version; id = w.id; read = WasRef-append by.number (Tag name) w.version w.id start journal more w.read }

  drop-none : (name : List ℕ) → (WasAbsent by.number (Tag name) start journal × MadeGets by.number start journal) ⊎ HadTombstone by.number name start journal → (WasAbsent by.number (Tag name) start (journal ++ more) × MadeGets by.number start (journal ++ more)) ⊎ HadTombstone by.number name start (journal ++ more)
  drop-none name (inl w) = inl (WasAbsent-append by.number (Tag name) start journal more w.0, gets w.1)
  drop-none name (inr w) = inr (record { tag = tag-read name w.tag; version = w.version; now = w.now; made = one (buries name) (New (Present w.version w.now)) w.made; still = w.still; there = w.there })

  of-burying : (name : List ℕ) (op : Op) → IsOfBurying by.number name start journal op → IsOfBurying by.number name start (journal ++ more) op
  of-burying name op (inl w) = inl w
  of-burying name op (inr w) = inr (tag-read name w.0, w.1)

  pub tag_drop-kept : (name : List ℕ) (result : Result (Unit {0}) Refusal) → TagDropTells by.number name start result journal → TagDropTells by.number name start result (journal ++ more)
  tag_drop-kept name (Ok done) t = record { tag = tag-read name t.tag; version = t.version; now = t.now; made = one (buries name) (New (New_done t.version t.now)) t.made; still = t.still; free = t.free }
  tag_drop-kept name (Err R.NoRef) t = drop-none name t
  tag_drop-kept name (Err (R.BadFile key bad)) t = (ref-bad (Tag name) key bad t.0, gets t.1)
  tag_drop-kept name (Err R.StoreFault) t = failure-more (IsOfBurying by.number name start journal) (IsOfBurying by.number name start (journal ++ more)) (of-burying name) t
  tag_drop-kept name (Err _) t = absurd t

  -- ---- a repository
  has-initial : HasInitial by.number start journal → HasInitial by.number start (journal ++ more)
  has-initial i = record { answer = i.answer; own = own puts_initial (New i.answer) i.own }

  pub init-kept : (result : Result (Unit {0}) Refusal) → InitTells by.number start result journal → InitTells by.number start result (journal ++ more)
  init-kept (Ok done) t = record { initial = has-initial t.initial; version = t.version; now = t.now; own = own puts_main (New (New_done t.version t.now)) t.own; position = t.position; free = t.free }
  init-kept (Err (R.RefExists version)) t = record { initial = has-initial t.initial; now = t.now; own = own puts_main (New (Present version t.now)) t.own; there = t.there }
  init-kept (Err R.StoreFault) t = record { op = t.op; which = t.which; done = t.done; own = own t.op (Failed t.done) t.own }
  init-kept (Err _) t = absurd t

  -- ---- a log
  abbrev walked : (at : At) (to : Option Id12) → WasWalked by.number at to start journal → WasWalked by.number at to start (journal ++ more)
  walked at to w = record { named = w.named; resolved = resolved at w.named w.resolved; seen = w.seen; chain = leading-append by.number (Some w.named.id) w.seen to start journal more w.chain }

  log-absent : (at : At) → WasNothing by.number at start journal ⊎ HeadWasAbsent by.number at start journal → WasNothing by.number at start (journal ++ more) ⊎ HeadWasAbsent by.number at start (journal ++ more)
  log-absent at (inl w) = inl (nothing at w)
  log-absent at (inr w) = inr (record { id = w.id; by_id = w.by_id; absent = WasAbsent-append by.number (Snapshot w.id) start journal more w.absent })

  log-bad : (at : At) (key : Key) (bad : Bad) → WasUnnamed by.number at key bad start journal ⊎ ChainIsBad by.number at key bad start journal → WasUnnamed by.number at key bad start (journal ++ more) ⊎ ChainIsBad by.number at key bad start (journal ++ more)
  log-bad at key bad (inl w) = inl (ref-bad (key_of at) key bad w)
  log-bad at key bad (inr w) = inr (record { next = w.next; walked = walked at (Some w.next) w.walked; unread = snapshot-bad w.next key bad w.unread })

  log-says : (at : At) (result : Result (List LogLine) Refusal) → LogSays by.number at start result journal → LogSays by.number at start result (journal ++ more)
  log-says at (Ok lines) t = record { walked = walked at None t.walked; lines_are = t.lines_are }
  log-says at (Err R.NoRef) t = log-absent at t
  log-says at (Err (R.Missing key)) t = record { next = t.next; walked = walked at (Some t.next) t.walked; key_is = t.key_is; absent = WasAbsent-append by.number (Snapshot t.next) start journal more t.absent; behind = t.behind }
  log-says at (Err (R.BadFile key bad)) t = log-bad at key bad t
  log-says at (Err R.TooDeep) t = record { next = t.next; walked = walked at (Some t.next) t.walked; many = t.many }
  log-says at (Err R.StoreFault) t = failure (IsOfLog at) t
  log-says at (Err _) t = absurd t

  pub log-kept : (at : At) (result : Result (List LogLine) Refusal) → LogTells by.number at start result journal → LogTells by.number at start result (journal ++ more)
  log-kept at result t = (log-says at result t.0, gets t.1)
