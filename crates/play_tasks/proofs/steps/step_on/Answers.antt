use Rattle.std.proofs.Common.{subst}
use Rattle.store_api.specs.Plays.{PlayIsPolite}
use Rattle.leases.specs.Resting.{lease_rest}
use Rattle.leases.proofs.Following.{followed-polite}
use Rattle.play_tasks.specs.declared.working.Working.{Working}
use Rattle.play_tasks.specs.Lines.{lease_shown}
use Rattle.play_tasks.specs.Playing.{after_lease}
use Rattle.play_tasks.specs.inside.Working.{lines_from, working_rest}
use Rattle.play_tasks.proofs.LeaseSteps.{leasing-live, leasing-room, live-of}
use Rattle.play_tasks.proofs.steps.step_on.Goals as goal

pub step_leasing-requires-clause-live : goal.step_leasing-requires-clause-live
step_leasing-requires-clause-live g c =
    let w = c.in-Leasing in
    leasing-live c.args.state w.line w.at w.shown w.session w.lease w.is c.requires.works

pub step_leasing-requires-clause-room : goal.step_leasing-requires-clause-room
step_leasing-requires-clause-room g c =
    let w = c.in-Leasing in
    leasing-room c.args.state w.line w.at w.shown w.session w.lease w.is c.requires.works

pub step_leasing-requires-clause-polite : goal.step_leasing-requires-clause-polite
step_leasing-requires-clause-polite g c = λ tells.
    let w = c.in-Leasing in
    let task = c.args.task.now in
    let seen = (g.S.Viewed.view c.args.store.now).seen in
    followed-polite (after_lease (lease_shown w.line) w.line w.shown.items w.session (lines_from task w.at)) (lease_rest w.lease) seen (live-of (lease_rest w.lease) (leasing-live c.args.state w.line w.at w.shown w.session w.lease w.is c.requires.works))
    (subst (λ (x : Working). PlayIsPolite (working_rest task x) seen) w.is (c.requires.polite tells))
