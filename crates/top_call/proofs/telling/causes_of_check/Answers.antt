use Rattle.std.proofs.Common.{◌∙◌}
use Rattle.play_outcome.specs.Ending.{why_ended}
use Rattle.top_call.proofs.Tellings.{end-causes}
use Rattle.top_call.proofs.telling.causes_of_check.Goals as goal

pub returns : goal.returns
returns c = c.add_task.ensures ∙ end-causes c.args.unwritten (why_ended c.args.outcome.now)
