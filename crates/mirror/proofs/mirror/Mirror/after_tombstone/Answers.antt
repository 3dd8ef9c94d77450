use Rattle.std.proofs.Common.{inl, sym, ◌∙◌, subst}
use Rattle.mirror.specs.Programs.{Answer}
use Rattle.mirror.specs.inside.Working.{Lands, mirror_rest}
use Rattle.mirror.proofs.Landing.{tag-kept, tag-buried, tag-other}
use Rattle.mirror.proofs.mirror.Mirror.after_tombstone.Goals as goal

pub returns-then-buried-clause-lands : goal.returns-then-buried-clause-lands
returns-then-buried-clause-lands c =
    let m = c.args.self.now in
    let one = c.requires.first in
    subst (λ (p : Answer). Lands m.register.refs p (mirror_rest c.refuse_ref.new.self)) (tag-buried m one.0 one.1 one.2 c.args.there c.args.buried c.if-buried.true) c.refuse_ref.ensures.lands

pub returns-then-eq-clause-lands : goal.returns-then-eq-clause-lands
returns-then-eq-clause-lands c =
    let m = c.args.self.now in
    let one = c.requires.first in
    inl (c.told_ref.ensures.lands ∙ tag-kept m one.0 one.1 one.2 c.args.there c.args.buried c.if-buried.false (sym c.eq.ensures ∙ c.if-eq.true))

pub returns-else-eq-clause-lands : goal.returns-else-eq-clause-lands
returns-else-eq-clause-lands c =
    let m = c.args.self.now in
    let one = c.requires.first in
    subst (λ (p : Answer). Lands m.register.refs p (mirror_rest c.refuse_ref-else-eq.new.self)) (tag-other m one.0 one.1 one.2 c.args.there c.args.buried c.if-buried.false (sym c.eq.ensures ∙ c.if-eq.false)) c.refuse_ref-else-eq.ensures.lands
