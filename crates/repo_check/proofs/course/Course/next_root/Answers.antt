use Rattle.std.proofs.Common.{◌≡◌, List, [], ◌∷◌, refl, ap, sym, ◌∙◌}
use Rattle.ice_ids.specs.declared.Id12.{Id12}
use Rattle.repo_check.specs.Works.{Work}
use Rattle.repo_check.specs.inside.Working.{new_roots}
use Rattle.repo_check.proofs.Stepping.{walks-end, walks-more}
use Rattle.repo_check.proofs.Acting.{calm-verdict}
use Rattle.repo_check.proofs.course.Course.next_root.Goals as goal

pub returns-in-None-clause-comes : goal.returns-in-None-clause-comes
returns-in-None-clause-comes c =
    let w = c.args.self.now.work in
    let roots = c.args.self.now.roots in
    let left : new_roots w.met roots ≡ [] = ap (λ (x : Work). new_roots x.met roots) (sym c.begin_walk.ensures) ∙ c.in-None.ensures.0 in
    rw (walks-end roots w left, c.verdict.ensures, c.begin_walk.ensures) refl

pub returns-in-Some-clause-comes : goal.returns-in-Some-clause-comes
returns-in-Some-clause-comes c =
    let w = c.args.self.now.work in
    let roots = c.args.self.now.roots in
    let left : new_roots w.met roots ≡ c.in-Some.id ∷ c.take_root.new.roots = ap (λ (x : Work). new_roots x.met roots) (sym c.begin_walk.ensures) ∙ c.in-Some.ensures.0 in
    rw (walks-more c.in-Some.id roots c.take_root.new.roots w left, c.begin_walk.ensures) refl

pub returns-in-None-clause-calm : goal.returns-in-None-clause-calm
returns-in-None-clause-calm c = calm-verdict c.verdict.result c.begin_walk.new.self c.verdict.ensures
