use Rattle.std.proofs.Common.{arith}
use Rattle.ice_base.proofs.Pieces.{Appended-piece, within-piece}
use Rattle.ice_base.proofs.ends.write_whole.Goals as goal

pub loop-at-preserved : goal.loop-at-preserved
loop-at-preserved g c =
    let piece = c.in_ok-at.ensures in
    record {
      within = within-piece c.args.bytes.now c.loop-at.at c.in_ok-at.field-0 c.loop-at-test.true piece.1;
      faults = omega (arith, c.loop-at.invariant.faults, piece.2);
      written = Appended-piece _ _ _ c.args.bytes.now c.loop-at.at c.in_ok-at.field-0 c.loop-at.invariant.written piece.3;
    }
