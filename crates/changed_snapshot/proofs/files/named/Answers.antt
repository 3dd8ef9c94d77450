use Rattle.std.proofs.Common.{◌∙◌, ◌+◌, ◌||◌, List, drop, ap}
use Rattle.snapshot_file.specs.declared.nodes.ManifestRef.{ManifestRef}
use Rattle.changed_snapshot.specs.inside.Named.{has_id, have_id}
use Rattle.changed_snapshot.proofs.IdSets.{next_row}
use Rattle.changed_snapshot.proofs.Walks.{rows_from}
use Rattle.changed_snapshot.proofs.files.named.Goals as goal

pub loop-at-preserved : goal.loop-at-preserved
loop-at-preserved c id =
    let rows = c.args.rows.now in
    let i = c.loop-at.at in
    let row = c.in_ok-row.row in
    let entered = c.in_ok-enter.ensures id ∙ ap (λ (ms : List ManifestRef). has_id c.loop-at.ids.keys id || have_id ms id) c.manifests.ensures in
    next_row c.loop-at.ids.keys c.enter.new.ids.keys row (drop i rows) (drop (i + 1) rows) id (rows_from rows i row c.in_ok-row.ensures) entered ∙ c.loop-at.invariant id
