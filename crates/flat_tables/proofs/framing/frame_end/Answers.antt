use Rattle.std.proofs.Common.{◌∙◌, sym, map, []}
use Rattle.flat_tables.specs.Trees.{part_of}
use Rattle.flat_tables.proofs.Frames.{frame_ends}
use Rattle.flat_tables.proofs.framing.frame_end.Goals as goal

pub returns-clause-end : goal.returns-clause-end
returns-clause-end c = rw (c.gap_to.ensures.gap, c.slots_end-end.ensures.end) at c.slots_end.ensures.end ∙ sym (frame_ends (map part_of c.args.before.now) [] (map part_of c.args.after.now) 4)
