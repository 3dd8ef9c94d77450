use Rattle.std.proofs.Common.{sym}
use Rattle.play_tasks.proofs.Doubting.{unsettled}
use Rattle.play_tasks.proofs.doubts.how_unsettled.Goals as goal

pub returns-in_default : goal.returns-in_default
returns-in_default c = sym (unsettled c.args.why c.in_default.not-NoRef)
