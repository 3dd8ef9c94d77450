use Rattle.play_course.proofs.Playing.{courses, good-behind, of-ok}
use Rattle.play_course.proofs.course.play_through.Goals as goal

pub play_tasks-store-requires-clause-good : goal.play_tasks-store-requires-clause-good
play_tasks-store-requires-clause-good g c κs lives =
    good-behind g.S.WholeStore.tells (g.S.Viewed.view c.args.store) (g.S.Viewed.view c.set_client.new.self) (g.S.Viewed.view c.begin-opening.new.store) _ c.begin-opening.result ((g.met.S.WholeStore g.world.𝓛 g.world.𝓜 g.world.𝓡 ((λ s x. x), (λ x. x), (λ x. x), λ x. x)).told c.args.store) ((g.met.S.WholeStore g.world.𝓛 g.world.𝓜 g.world.𝓡 ((λ s x. x), (λ x. x), (λ x. x), λ x. x)).alone c.args.store) c.set_client.ensures
    c.begin-opening.ensures.runs c.requires.good

pub returns-clause-course : goal.returns-clause-course
returns-clause-course g c =
    courses c.outcome_law.ensures c.args.draw c.args.script.now (g.S.Viewed.view c.args.store) (g.S.Viewed.view c.set_client.new.self) (g.S.Viewed.view c.begin-opening.new.store) (g.S.Viewed.view c.play_tasks-store.result.0) (g.S.Viewed.view c.set_client-2.new.self) (g.S.Viewed.view c.read_refs-refs.new.store)
    c.begin-opening.result c.in-Ok.outcomes.items c.read_refs-refs.result c.set_client.ensures c.set_client-2.ensures ((g.met.S.WholeStore g.world.𝓛 g.world.𝓜 g.world.𝓡 ((λ s x. x), (λ x. x), (λ x. x), λ x. x)).alone c.args.store) ((g.met.S.WholeStore g.world.𝓛 g.world.𝓜 g.world.𝓡 ((λ s x. x), (λ x. x), (λ x. x), λ x. x)).alone c.play_tasks-store.result.0)
    c.begin-opening.ensures.runs (of-ok _ c.play_tasks-store.result.1 c.in-Ok.outcomes c.in-Ok.is c.play_tasks-store.ensures.plays) (λ tells. of-ok _ c.play_tasks-store.result.1 c.in-Ok.outcomes c.in-Ok.is (c.play_tasks-store.ensures.told tells)) c.read_refs-refs.ensures.runs
