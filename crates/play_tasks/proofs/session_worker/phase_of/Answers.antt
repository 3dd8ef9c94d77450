use Rattle.std.proofs.Common.{◌∙◌, sym, ap, arith}
use Rattle.leases.specs.Following.{followed}
use Rattle.play_tasks.specs.declared.working.Working.{Working}
use Rattle.play_tasks.specs.Playing.{release_all}
use Rattle.play_tasks.specs.inside.Working.{is_open, is_working, working_rest}
use Rattle.play_tasks.proofs.LeaseSteps.{and-is}
use Rattle.play_tasks.proofs.Phases.{not-ended}
use Rattle.play_tasks.proofs.session_worker.phase_of.Goals as goal

pub returns-in-Ended-clause-rest : goal.returns-in-Ended-clause-rest
returns-in-Ended-clause-rest c = λ task. c.begin_releases.ensures.rest ∙ sym (ap (λ (x : Working). followed (working_rest task x) release_all) c.in-Ended.is)

pub returns-in-Ended-clause-few : goal.returns-in-Ended-clause-few
returns-in-Ended-clause-few c = λ lines. let small = c.begin_releases.ensures.small in omega (arith, small)

pub returns-in_default-clause-works : goal.returns-in_default-clause-works
returns-in_default-clause-works c = and-is (is_open c.args.state) (is_working c.args.state) (not-ended c.args.state c.in_default.not-Ended) c.requires
