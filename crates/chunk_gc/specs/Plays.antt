-- What a collection does, from its beginning to its end (own).
use Rattle.std.specs.Prelude.{ℕ, ◌+◌, Bool, false, List, [], ◌∷◌, Result, Ok, Err}
use Rattle.object_store.specs.declared.keys.Key.{Key}
use Rattle.object_store.specs.declared.keys.Key.TheVariants.{Snapshot, Manifest, Txn, Chunk}
use Rattle.object_store.specs.declared.keys.Key.TheVariants.{Branch, Tag, Tombstone, Lease}
use Rattle.object_store.specs.declared.keys.Why.TheVariants.{Collect}
use Rattle.object_store.specs.declared.events.Gone.{Gone}
use Rattle.object_store.specs.declared.events.Gone.TheVariants.{Done as Gone_done}
use Rattle.object_store.specs.declared.events.Gone.TheVariants.{Absent as Gone_absent}
use Rattle.object_store.specs.declared.events.Op.TheVariants.{Remove}
use Rattle.object_store.specs.declared.events.Reply.{Reply}
use Rattle.object_store.specs.declared.events.Reply.TheVariants.{Gone as Is_gone}
use Rattle.store_api.specs.declared.machines.Refusal.{Refusal}
use Rattle.store_api.specs.declared.machines.Refusal.TheVariants.{NoMemory, StoreFault}
use Rattle.store_api.specs.Program.{is_fault}
use Rattle.store_api.specs.Plays.{Play, Ended, Ask, call}
use Rattle.repo_read.specs.Chains.{most_snapshots}
use Rattle.cleanup_reports.specs.declared.removed.Removed.{Removed}
use Rattle.chunk_gc.specs.declared.standing.Collected.{Collected}
use Rattle.chunk_gc.specs.Programs.{mark_program}

-- ---- reports
abbrev pub nothing : Removed
nothing = record { snapshots = 0; logs = 0; manifests = 0; chunks = 0 }

-- one more of such keys; what is no object isn't counted
abbrev pub counted : Key → Removed → Removed
counted (Snapshot id) r = record r { snapshots = r.snapshots + 1 }
counted (Txn id) r = record r { logs = r.logs + 1 }
counted (Manifest id) r = record r { manifests = r.manifests + 1 }
counted (Chunk id) r = record r { chunks = r.chunks + 1 }
counted (Branch name) r = r
counted (Tag name) r = r
counted (Tombstone name) r = r
counted (Lease id) r = r

abbrev pub tally_from : Removed → List Key → Removed
tally_from r [] = r
tally_from r (key ∷ keys) = tally_from (counted key r) keys

-- how many there are of each kind
abbrev pub tally : List Key → Removed
tally keys = tally_from nothing keys

-- ---- outcomes
abbrev pub refused_by_fault : Result (Unit {0}) Refusal → Bool
refused_by_fault (Ok done) = false
refused_by_fault (Err why) = is_fault why

abbrev pub tells_failure : Collected → Bool
tells_failure c = refused_by_fault c.result

abbrev pub ends_with : Removed → Result (Unit {0}) Refusal → Play Collected
ends_with r result = Ended (record { removed = r; result = result })

-- ---- removals
-- behind the answer to a removal
abbrev pub after_gone : Key → (Removed → Play Collected) → Removed → Gone → Play Collected
after_gone key next r (Gone_done now) = next (counted key r)
after_gone key next r (Gone_absent now) = next r

abbrev pub after_removal : Key → (Removed → Play Collected) → Removed → Reply → Play Collected
after_removal key next r (Is_gone gone) = after_gone key next r gone
after_removal key next r _ = ends_with r (Err StoreFault)

-- Removes these keys, one after the other. Without memory for a removal it
-- ends with what was removed so far.
unfoldable pub sweep : List Key → Removed → Play Collected
sweep [] r = ends_with r (Ok tt)
sweep (key ∷ keys) r =
    Ask (Remove key Collect) (ends_with r (Err NoMemory)) (after_removal key (sweep keys) r)

-- behind the marking
abbrev pub after_marking : Removed → Result (List Key) Refusal → Play Collected
after_marking r (Ok keys) = sweep keys r
after_marking r (Err why) = ends_with r (Err why)

-- marks, and then removes what is doomed
abbrev pub collect_play : (cutoff : ℕ) → Play Collected
collect_play cutoff = call (mark_program most_snapshots cutoff) (after_marking nothing)
