use Rattle.std.proofs.Common.{sym, ◌∙◌}
use Rattle.mirror.proofs.Landing.{files-initial, files-none, files-some}
use Rattle.mirror.proofs.mirror.Mirror.next_manifest.Goals as goal

pub returns-in-Some-clause-lands : goal.returns-in-Some-clause-lands
returns-in-Some-clause-lands c = files-some c.args.self.now c.in-Some.id _ c.in-Some.ensures

pub returns-then-eq-clause-lands : goal.returns-then-eq-clause-lands
returns-then-eq-clause-lands c = files-initial c.args.self.now _ c.in-None.ensures (sym c.eq.ensures ∙ c.if-eq.true)

pub returns-else-eq-clause-lands : goal.returns-else-eq-clause-lands
returns-else-eq-clause-lands c = files-none c.args.self.now _ c.in-None.ensures (sym c.eq.ensures ∙ c.if-eq.false)
