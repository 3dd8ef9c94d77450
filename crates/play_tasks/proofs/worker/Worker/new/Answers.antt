use Rattle.std.proofs.Common.{◌∙◌, ap, sym, subst}
use Rattle.store_api.specs.Plays.{Comes}
use Rattle.script_calls.specs.declared.calls.Head.{Head}
use Rattle.play_collect.specs.Workers.{collecting_rest}
use Rattle.play_collect.proofs.Stepping.{task-begun}
use Rattle.play_expire.specs.Playing.{terms_of}
use Rattle.play_expire.specs.Workers.{expiring_rest}
use Rattle.play_expire.proofs.Stepping.{expiry-begun}
use Rattle.play_check.specs.Workers.{checking_rest}
use Rattle.play_check.proofs.Stepping.{check-begun}
use Rattle.play_tasks.specs.Playing.{released_play, headed_play}
use Rattle.play_tasks.specs.inside.Sessions.{session_rest}
use Rattle.play_tasks.proofs.Begun.{session-begun}
use Rattle.play_tasks.proofs.worker.Worker.new.Goals as goal

pub returns-in_ok-worker-in-Session : goal.returns-in_ok-worker-in-Session
returns-in_ok-worker-in-Session c =
    let task = c.args.task.now in
    let ids = c.args.ids in
    let access = c.in-Session.access in
    let worker = c.in_ok-worker-in-Session.worker in
    let is = c.in_ok-worker-in-Session.ensures ∙ ap (released_play ids access task.line) c.as_slice-body.ensures in
    subst (λ (head : Head). Comes (headed_play head ids task) (session_rest worker)) (sym c.in-Session.is) (session-begun ids access task.line task.body (session_rest worker) is)

pub returns-in-Collect : goal.returns-in-Collect
returns-in-Collect c =
    let task = c.args.task.now in
    subst (λ (head : Head). Comes (headed_play head c.args.ids task) (collecting_rest c.new-in-Collect.result)) (sym c.in-Collect.is) (task-begun task.line c.in-Collect.cutoff (collecting_rest c.new-in-Collect.result) c.new-in-Collect.ensures)

pub returns-in-Expire : goal.returns-in-Expire
returns-in-Expire c =
    let task = c.args.task.now in
    let terms = terms_of c.in-Expire.cutoff c.in-Expire.drop_branches c.in-Expire.drop_tags in
    subst (λ (head : Head). Comes (headed_play head c.args.ids task) (expiring_rest c.new-in-Expire.result)) (sym c.in-Expire.is) (expiry-begun task.line terms (expiring_rest c.new-in-Expire.result) c.new-in-Expire.ensures)

pub returns-in-Check : goal.returns-in-Check
returns-in-Check c =
    let task = c.args.task.now in
    subst (λ (head : Head). Comes (headed_play head c.args.ids task) (checking_rest c.new-in-Check.result)) (sym c.in-Check.is) (check-begun task.line (checking_rest c.new-in-Check.result) c.new-in-Check.ensures)
