use Rattle.std.proofs.Common.{rules}
use Rattle.crc_sum.proofs.Tables.{rows_more}
use Rattle.crc_sum.proofs.rows.rows_for.Goals as goal

pub loop-place-preserved : goal.loop-place-preserved
loop-place-preserved c = record {
  size = search rules;
  rows_are = rows_more c.args.polynomial c.loop-place.place c.next_row-row.result c.loop-place.rows.items c.push.new.self.items c.loop-place.invariant.size c.loop-place.invariant.rows_are
      (c.next_row-row.ensures (λ k lt. rw c.deref.ensures.value (c.loop-place.invariant.rows_are k lt))) c.in_ok-push.ensures.items;
}
