use Rattle.ice_ids.proofs.Drawn.{count-once, drawn12-lowers, drawn8-lowers}
use Rattle.ice_ids.proofs.laws.drawn_ids.Goals as goal

pub returns-clause-once : goal.returns-clause-once
returns-clause-once c = count-once

pub returns-clause-lowered : goal.returns-clause-lowered
returns-clause-lowered c = drawn12-lowers

pub returns-clause-lowered_too : goal.returns-clause-lowered_too
returns-clause-lowered_too c = drawn8-lowers
