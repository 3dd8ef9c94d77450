use Rattle.std.proofs.Common.{◌∙◌}
use Rattle.commit_path.proofs.Ascending.{new-in_order}
use Rattle.commit_path.proofs.arrays.Arrays.new.Goals as goal

pub invariant_of-result : goal.invariant_of-result
invariant_of-result c = new-in_order c.new.result c.from_vec.result.items c.args.arrays c.new.ensures (c.from_vec.ensures.items ∙ c.into_vec.ensures) c.requires
