use Rattle.std.proofs.Common.{◌∙◌, arith, length}
use Rattle.flat_tables.specs.Trees.{layout}
use Rattle.flat_tables.proofs.Sources.{one_appended, one_fits}
use Rattle.flat_tables.proofs.source.put_each.Goals as goal

pub put_table-requires-clause-fits : goal.put_table-requires-clause-fits
put_table-requires-clause-fits g c =
    let out = c.loop-at.out.items in
    omega (arith, one_fits (g.S.TableSource.layouts c.args.tables.now) c.loop-at.at (length out) (layout c.in_ok-table.table) c.in_ok-table.ensures.layout, c.loop-at.invariant.fits)

pub loop-at-preserved : goal.loop-at-preserved
loop-at-preserved g c =
    let b = one_appended (g.S.TableSource.layouts c.args.tables.now) c.loop-at.at (layout c.in_ok-table.table) c.loop-at.out.items c.put_table.new.out.items c.in_ok-table.ensures.layout c.in_ok-put_table.ensures in
    record {
      bytes = b.bytes ∙ c.loop-at.invariant.bytes;
      fits = omega (arith, b.len, c.loop-at.invariant.fits);
    }
