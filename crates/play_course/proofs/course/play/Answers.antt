use Rattle.play_course.proofs.Leaving.{played-leaves, unplayed-kept}
use Rattle.play_course.proofs.Whole.{played-plain}
use Rattle.play_course.proofs.course.play.Goals as goal

pub returns-clause-leaves : goal.returns-clause-leaves
returns-clause-leaves g c = played-leaves c.run_law.ensures c.refs_law.ensures c.args.draw c.args.script.now _ _ c.play_through.result.1 c.requires.well c.play_through.ensures.course

pub returns-clause-regular : goal.returns-clause-regular
returns-clause-regular g c = played-plain c.initial_law.ensures c.snapshot_law.ensures c.run_law.ensures c.args.draw c.args.script.now _ _ c.play_through.result.1 c.requires.well c.play_through.ensures.course

pub returns-clause-kept : goal.returns-clause-kept
returns-clause-kept g c = unplayed-kept c.run_law.ensures c.args.draw c.args.script.now _ _ c.play_through.result.1 c.requires.well c.play_through.ensures.began
