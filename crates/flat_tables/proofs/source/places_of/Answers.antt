use Rattle.std.proofs.Common.{arith, lit<}
use Rattle.flat_tables.specs.Trees.{layout}
use Rattle.flat_tables.proofs.Sources.{one_end, one_place, one_within, flat_placed, one_told}
use Rattle.flat_tables.proofs.source.places_of.Goals as goal

pub loop-at-preserved : goal.loop-at-preserved
loop-at-preserved g c =
    let bs = g.S.TableSource.layouts c.args.tables.now in
    let i = c.loop-at.at in
    let e = c.loop-at.end in
    let f = c.in_ok-table.table in
    let is = c.in_ok-table.ensures.layout in
    let placed = flat_placed f in
    let inv = c.loop-at.invariant in
    record {
      so_far = λ fits. rw c.in_ok-push.ensures.items (one_place bs i e c.table_end-end.result c.place_of.result 268435417 (layout f) c.loop-at.each.items _ (lit< tt) is placed c.place_of.ensures.place c.table_end-end.ensures inv.so_far fits);
      ends = one_end bs i e c.table_end-end.result _ (layout f) is c.table_end-end.ensures inv.ends;
      small = omega (arith, c.table_end-end.ensures);
      behind = omega (arith, c.table_end-end.ensures, inv.behind, inv.small);
      within = rw c.in_ok-push.ensures.items (one_within c.args.from e c.table_end-end.result c.place_of.result (layout f) c.loop-at.each.items inv.behind inv.small placed c.place_of.ensures.place c.table_end-end.ensures inv.within);
      told = one_told (g.S.TableSource.tells c.args.tables.now) i inv.told c.in_ok-table.ensures.told;
    }
