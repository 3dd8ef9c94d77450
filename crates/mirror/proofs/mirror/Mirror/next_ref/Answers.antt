use Rattle.std.proofs.Common.{sym, ◌∙◌}
use Rattle.mirror.proofs.Landing.{ref-some, ref-tags, ref-done}
use Rattle.mirror.proofs.mirror.Mirror.next_ref.Goals as goal

pub returns-in-Some-default-clause-lands : goal.returns-in-Some-default-clause-lands
returns-in-Some-default-clause-lands c = ref-some c.args.self.now _ c.in-Some-default.ensures.0 c.in-Some-default.ensures.1

pub returns-in-None-Branches-clause-lands : goal.returns-in-None-Branches-clause-lands
returns-in-None-Branches-clause-lands c = rw c.turn_to_tags.ensures (ref-tags c.args.self.now c.in-None-Branches.ensures (sym c.phase.ensures ∙ c.in-None-Branches.is-1))

pub returns-in-None-Tags-clause-lands : goal.returns-in-None-Tags-clause-lands
returns-in-None-Tags-clause-lands c = rw c.finish.ensures (ref-done c.args.self.now c.in-None-Tags.ensures (sym c.phase.ensures ∙ c.in-None-Tags.is-1))
