use Rattle.repo_check.specs.inside.Working.{checking_rest}
use Rattle.repo_check.proofs.Acting.{checked-acts, calm-answer}
use Rattle.repo_check.proofs.course.Course.step_on.Goals as goal

pub returns-clause-acts : goal.returns-clause-acts
returns-clause-acts g c =
    checked-acts c.args.state c.args.self.now (checking_rest c.hear.result c.hear.new.self) (g.S.Viewed.view c.args.store.now) (g.S.Viewed.view c.ask-answer.new.store) c.requires c.ask-answer.result c.ask-answer.ensures.called c.ask-answer.ensures.fits c.ask-answer.ensures.answered c.hear.ensures.comes
    (calm-answer c.ask-answer.result c.hear.result c.hear.new.self c.hear.ensures.calm)
