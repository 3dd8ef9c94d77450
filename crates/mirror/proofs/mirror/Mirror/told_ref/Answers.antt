use Rattle.std.proofs.Common.{◌∙◌, ◌≤◌, ℕ, subst}
use Rattle.mirror.specs.inside.Working.{mirror_left}
use Rattle.mirror.proofs.Landing.{ref-told, left-told}
use Rattle.mirror.proofs.mirror.Mirror.told_ref.Goals as goal

pub returns-clause-lands : goal.returns-clause-lands
returns-clause-lands c =
    let one = c.requires.first in
    c.next_ref.ensures.lands ∙ ref-told c.args.self.now c.args.put _ one.0 one.1 one.2 (c.tell.ensures one.0 one.1 one.2)

pub returns-clause-falls : goal.returns-clause-falls
returns-clause-falls c =
    let one = c.requires.first in
    subst (λ (n : ℕ). mirror_left c.next_ref.new.self ≤ n) (left-told c.args.self.now c.args.put _ one.0 one.1 one.2 (c.tell.ensures one.0 one.1 one.2)) c.next_ref.ensures.falls
