use Rattle.std.proofs.Common.{◌∙◌, ap, sym, ◌||◌}
use Rattle.zarr_tree.specs.Rows.{node_found}
use Rattle.zarr_tree.specs.Touched.{lists}
use Rattle.zarr_changes.specs.inside.Own.{within_rows}
use Rattle.zarr_changes.proofs.DropLaws.{within-taken}
use Rattle.zarr_changes.proofs.dropping.ids_within.Goals as goal

pub loop-path-preserved-in-Continue-1 : goal.loop-path-preserved-in-Continue-1
loop-path-preserved-in-Continue-1 g c = λ id.
    within-taken c.loop-path.ids c.insert.new.self c.args.of.now c.in-Some.path.now (node_found c.in-Some.found) c.next.new.self id (sym c.is_within.ensures ∙ c.if-is_within.true) c.in_ok-insert.ensures.ok
    ∙ ap (λ rows. lists c.loop-path.ids id || within_rows rows c.args.of.now id) (sym c.in-Some.ensures.row) ∙ c.loop-path.invariant id
