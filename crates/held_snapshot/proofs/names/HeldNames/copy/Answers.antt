use Rattle.std.proofs.Common.{ℕ, List, Option, Some, ap, ◌∙◌, sym, arith}
use Rattle.held_snapshot.proofs.Made.{take_more, take_whole}
use Rattle.held_snapshot.proofs.names.HeldNames.copy.Goals as goal

pub loop-k-preserved : goal.loop-k-preserved
loop-k-preserved c = rw (c.in_ok-push.ensures.items, c.loop-k.invariant) (take_more c.args.self.now c.loop-k.k c.in_ok-copy_name.field-0 (c.at.ensures ∙ ap (λ (n : Option (List ℕ)). Some n) (sym c.in_ok-copy_name.ensures)))

pub returns : goal.returns
returns c = rw c.from_vec.ensures (c.loop-k.invariant ∙ take_whole c.args.self.now c.loop-k.k (omega arith))
