use Rattle.std.proofs.Common.{◌∙◌, sym, ap}
use Rattle.std.specs.Prelude.{vec_len, vec_capacity}
use Rattle.store_api.specs.Plays.{Play, dooms}
use Rattle.leases.specs.Resting.{lease_rest}
use Rattle.leases.proofs.Following.{followed-self}
use Rattle.play_outcome.specs.declared.outcome.Outcome.{Outcome}
use Rattle.play_outcome.specs.Ending.{ends_failed}
use Rattle.play_tasks.specs.Lines.{lease_shown}
use Rattle.play_tasks.specs.Playing.{after_lease}
use Rattle.play_tasks.specs.inside.Working.{lines_from, working_rest}
use Rattle.play_tasks.proofs.LeaseSteps.{leases-on, lease-dooms, told-on, told-stop, told-fault}
use Rattle.play_tasks.proofs.Machines.{well-calm, well-works}
use Rattle.play_tasks.proofs.leasing.after_leasing.Goals as goal

pub returns-then-not-has_ended-clause-comes : goal.returns-then-not-has_ended-clause-comes
returns-then-not-has_ended-clause-comes c =
    followed-self (after_lease (lease_shown c.args.line) c.args.line c.args.shown.items c.args.session (lines_from c.args.task.now c.args.at)) (lease_rest c.args.lease) (c.has_ended.ensures.live c.if-not-has_ended.true)

pub returns-then-not-has_ended-clause-works : goal.returns-then-not-has_ended-clause-works
returns-then-not-has_ended-clause-works c = leases-on (lease_rest c.args.lease) (vec_len c.args.shown) (vec_capacity c.args.shown) (c.has_ended.ensures.live c.if-not-has_ended.true) c.requires

pub returns-then-not-has_ended-clause-blames : goal.returns-then-not-has_ended-clause-blames
returns-then-not-has_ended-clause-blames c = λ doomed. sym (lease-dooms c.args.line c.args.shown.items c.args.session c.args.task.now c.args.at (lease_rest c.args.lease)) ∙ doomed

pub returns-in-Ok-clause-comes : goal.returns-in-Ok-clause-comes
returns-in-Ok-clause-comes c =
    let task = c.args.task.now in
    told-on c.args.line c.args.shown.items c.show_lease-shown.result.items c.args.session (lines_from task c.args.at) (lease_rest c.args.lease) c.into_leased-placed.result (working_rest task c.play_lines.result) c.into_leased-placed.ensures c.in-Ok.is c.show_lease-shown.ensures c.play_lines.ensures.leaves

pub returns-in-Ok-clause-works : goal.returns-in-Ok-clause-works
returns-in-Ok-clause-works c = well-works c.play_lines.result c.play_lines.ensures.clean

pub returns-in-Ok-clause-blames : goal.returns-in-Ok-clause-blames
returns-in-Ok-clause-blames c = λ doomed. absurd (well-calm c.args.task.now c.play_lines.result c.play_lines.ensures.clean doomed)

pub returns-in-Err-clause-comes : goal.returns-in-Err-clause-comes
returns-in-Err-clause-comes c =
    let task = c.args.task.now in
    told-stop c.args.line c.args.shown.items c.show_lease-shown.result.items c.args.session (lines_from task c.args.at) (lease_rest c.args.lease) c.into_leased-placed.result (working_rest task c.refuse.result) c.in-Err.why c.into_leased-placed.ensures c.in-Err.is c.show_lease-shown.ensures (ap (working_rest task) c.refuse.ensures)

pub returns-in-Err-clause-blames : goal.returns-in-Err-clause-blames
returns-in-Err-clause-blames c = λ doomed.
    let task = c.args.task.now in
    told-fault (lease_rest c.args.lease) c.into_leased-placed.result c.in-Err.why c.into_leased-placed.ensures c.in-Err.is (sym (ap (λ (p : Play Outcome). dooms ends_failed p) (ap (working_rest task) c.refuse.ensures)) ∙ doomed)
