-- Whatever others do, each operation of a task that collects is owed, and its outcome tells the journal.
use Rattle.std.proofs.Common.{ℕ, List, refl}
use Rattle.object_store.specs.declared.events.Event.{Event}
use Rattle.store_api.specs.Journal.{IsPolite}
use Rattle.chunk_gc.specs.declared.standing.Collected.{Collected}
use Rattle.chunk_gc.specs.Plays.{collect_play}
use Rattle.chunk_gc.specs.Exact.{IsOwed, CollectTells}
use Rattle.chunk_gc.specs.Laws.{CollectLaw}
use Rattle.play_collect.specs.Playing.{outcome_of}
use Rattle.play_collect.specs.Telling.{CollectedTells}
use Rattle.play_collect.specs.Laws.{CollectTaskLaw}
use Rattle.store_api.proofs.Ended.{keeps-both, leads-as}

task-tells : (line cutoff client : ℕ) (start : List Event) (c : Collected) (journal : List Event) → CollectTells cutoff client start c journal → CollectedTells line cutoff client start (outcome_of line c) journal
task-tells line cutoff client start c journal t = record { collected = c; is = refl; tells = t }

pub task-well : CollectLaw → CollectTaskLaw
task-well law by line cutoff start =
    let exact = law by cutoff start in
    let p = collect_play cutoff in (
      keeps-both (outcome_of line) (λ h client op. IsPolite h op) (IsOwed cutoff start) by p start exact.polite exact.owed,
      leads-as (outcome_of line) (CollectTells cutoff by.number start) (CollectedTells line cutoff by.number start) (task-tells line cutoff by.number start) by p start exact.leads,
    )
