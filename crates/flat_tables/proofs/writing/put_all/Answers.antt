use Rattle.std.proofs.Common.{◌∙◌, length, arith}
use Rattle.flat_tables.proofs.Lengths.{one_beneath, beneath_begun}
use Rattle.flat_tables.proofs.writing.put_all.Goals as goal

pub put_beneath-requires-clause-fits : goal.put_beneath-requires-clause-fits
put_beneath-requires-clause-fits c =
    omega (arith, one_beneath c.args.slots.now c.loop-slot.slot-index c.slot-item.result (length c.loop-slot.out.items) c.loop-slot-test.true c.slot-item.is, c.loop-slot.invariant.fits)

pub loop-slot-preserved : goal.loop-slot-preserved
loop-slot-preserved c =
    let b = beneath_begun c.args.slots.now c.loop-slot.slot-index c.slot-item.result c.loop-slot.out.items c.put_beneath.new.out.items c.loop-slot-test.true c.slot-item.is c.in_ok-put_beneath.ensures in
    record {
      bytes = b.bytes ∙ c.loop-slot.invariant.bytes;
      fits = omega (arith, b.len, c.loop-slot.invariant.fits);
    }
