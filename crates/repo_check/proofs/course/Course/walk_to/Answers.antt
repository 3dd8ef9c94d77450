use Rattle.std.proofs.Common.{◌≡◌, ◌<◌, false, refl, sym, ◌∙◌, subst, arith}
use Rattle.ice_ids.specs.Sets.{has_object}
use Rattle.store_api.specs.Plays.{Comes}
use Rattle.repo_check.specs.Plays.{Answer, walks}
use Rattle.repo_check.specs.inside.Working.{checking_rest}
use Rattle.repo_check.proofs.Stepping.{walk-ring, walk-known, walk-deep, walk-more}
use Rattle.repo_check.proofs.course.Course.walk_to.Goals as goal

pub returns-then-in_walk-clause-comes : goal.returns-then-in_walk-clause-comes
returns-then-in_walk-clause-comes c =
    let s = c.args.self.now in
    subst (λ (p : Answer). Comes p (checking_rest c.end_walk.result c.end_walk.new.self)) (sym (walk-ring s.left (walks s.roots) c.args.id s.work (sym c.in_walk.ensures ∙ c.if-in_walk.true))) c.end_walk.ensures.comes

pub returns-then-has_met-clause-comes : goal.returns-then-has_met-clause-comes
returns-then-has_met-clause-comes c =
    let s = c.args.self.now in
    subst (λ (p : Answer). Comes p (checking_rest c.next_root.result c.next_root.new.self)) (sym (walk-known s.left (walks s.roots) c.args.id s.work (sym c.in_walk.ensures ∙ c.if-in_walk.false) (sym c.has_met.ensures ∙ c.if-has_met.true))) c.next_root.ensures.comes

pub returns-then-self-eq0-clause-comes : goal.returns-then-self-eq0-clause-comes
returns-then-self-eq0-clause-comes c =
    let s = c.args.self.now in
    rw (walk-deep s.left (walks s.roots) c.args.id s.work (sym c.in_walk.ensures ∙ c.if-in_walk.false) (sym c.has_met.ensures ∙ c.if-has_met.false) c.if-self-eq0.true) refl

pub returns-clause-comes : goal.returns-clause-comes
returns-clause-comes c =
    let s = c.args.self.now in
    let left : 0 < s.left = omega (arith, c.if-self-eq0.false) in
    rw (walk-more s.left (walks s.roots) c.args.id s.work (sym c.in_walk.ensures ∙ c.if-in_walk.false) (sym c.has_met.ensures ∙ c.if-has_met.false) left) refl
