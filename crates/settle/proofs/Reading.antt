-- A settling makes gets alone.
use Rattle.std.proofs.Common.{ℕ, zero, suc, List}
use Rattle.std.specs.Prelude.{Option, Some, None, Result, Ok, Err}
use Rattle.ice_ids.specs.declared.Id12.{Id12}
use Rattle.snapshot_file.specs.declared.snapshot.SnapshotFile.{SnapshotFile}
use Rattle.object_store.specs.declared.events.Event.{Event}
use Rattle.store_api.specs.declared.machines.Refusal.{Refusal}
use Rattle.store_api.specs.Callers.{Caller}
use Rattle.store_api.specs.Plays.{Stays}
use Rattle.store_api.specs.Running.{Program, on_answer, StaysPolite}
use Rattle.store_api.specs.Telling.{MadeGets}
use Rattle.repo_read.specs.declared.answers.Resolved.{Resolved}
use Rattle.repo_read.specs.Answers.{ref_told, snapshot_told}
use Rattle.repo_read.specs.Chains.{most_snapshots}
use Rattle.repo_read.proofs.GetsAlone.{Reads, reads-polite, reads-stay, done-reads}
use Rattle.settle.specs.declared.settle.Doubt.{Doubt}
use Rattle.settle.specs.declared.settle.Settled.{Settled}
use Rattle.settle.specs.declared.settle.Settled.TheVariants.{NotAncestor}
use Rattle.settle.specs.Settling.{met, unless_met, settle_walk, settle_program}
use Rattle.settle.specs.inside.Working.{way_behind}

-- ---- a settling is one
unless-reads : (o : Option Settled) (p : Program Settled) → Reads p → Reads (unless_met o p)
unless-reads (Some settled) p r = done-reads (Ok settled)
unless-reads None p r = r

behind-reads : (d : Doubt) (head : Id12) (left : ℕ) → ((id : Id12) → Reads (settle_walk d head left id)) → (parent : Option Id12) → Reads (way_behind d head left parent)
behind-reads d head left here (Some parent) = unless-reads (met d parent) (settle_walk d head left parent) (here parent)
behind-reads d head left here None = done-reads (Ok (NotAncestor head))

told-reads : (d : Doubt) (head : Id12) (left : ℕ) → ((id : Id12) → Reads (settle_walk d head left id)) → (r : Result SnapshotFile Refusal) → Reads (on_answer (λ (s : SnapshotFile). way_behind d head left s.parent) r)
told-reads d head left here (Ok s) = behind-reads d head left here s.parent
told-reads d head left here (Err why) = done-reads (Err why)

walk-reads : (d : Doubt) (head : Id12) (left : ℕ) (id : Id12) → Reads (settle_walk d head left id)
unfolding Reads settle_walk
walk-reads d head zero id = tt
walk-reads d head (suc left) id = (tt, λ reply. told-reads d head left (λ next. walk-reads d head left next) (snapshot_told id reply))

-- what follows the reference that was read
abbrev pub from_head : Doubt → Resolved → Program Settled
from_head d read = unless_met (met d read.id) (settle_walk d read.id most_snapshots read.id)

head-reads : (d : Doubt) (r : Result Resolved Refusal) → Reads (on_answer (from_head d) r)
head-reads d (Ok read) = unless-reads (met d read.id) (settle_walk d read.id most_snapshots read.id) (walk-reads d read.id most_snapshots read.id)
head-reads d (Err why) = done-reads (Err why)

pub settle-reads : (branch : List ℕ) (d : Doubt) → Reads (settle_program branch d)
unfolding Reads
settle-reads branch d = (tt, λ reply. head-reads d (ref_told branch reply))

pub settle-polite : (by : Caller) (branch : List ℕ) (d : Doubt) (journal : List Event) → StaysPolite by (settle_program branch d) journal
settle-polite by branch d journal = reads-polite by (settle_program branch d) journal (settle-reads branch d)

pub settle-stays : (by : Caller) (branch : List ℕ) (d : Doubt) (start journal : List Event) → MadeGets by.number start journal → Stays (MadeGets by.number start) by (settle_program branch d) journal
settle-stays by branch d start journal c = reads-stay by start (settle_program branch d) journal (settle-reads branch d) c
