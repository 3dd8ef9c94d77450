use Rattle.std.proofs.Common.{◌∙◌, inl}
use Rattle.leases.specs.Plays.{tells_fault}
use Rattle.leases.specs.Resting.{lease_rest}
use Rattle.leases.proofs.Following.{followed-acts}
use Rattle.play_outcome.specs.Ending.{ends_failed}
use Rattle.play_tasks.specs.Lines.{lease_shown}
use Rattle.play_tasks.specs.Playing.{after_lease}
use Rattle.play_tasks.specs.inside.Working.{lines_from, working_rest}
use Rattle.play_tasks.proofs.LeaseSteps.{after-dooms, live-of}
use Rattle.play_tasks.proofs.leasing.step_leasing.Goals as goal

pub step-requires-clause-live : goal.step-requires-clause-live
step-requires-clause-live g c = live-of (lease_rest c.args.lease) c.requires.live

pub returns-clause-acts : goal.returns-clause-acts
returns-clause-acts g c =
    let task = c.args.task.now in
    let line = c.args.line in
    let shown = c.args.shown.items in
    followed-acts (after_lease (lease_shown line) line shown c.args.session (lines_from task c.args.at)) tells_fault ends_failed (λ leased failed. after-dooms line shown c.args.session task c.args.at leased ∙ failed)
    (g.S.Viewed.view c.args.store.now) (g.S.Viewed.view c.step.new.store) (lease_rest c.args.lease) (lease_rest c.step.new.self) (working_rest task c.after_leasing.result) c.step.ensures.acts c.after_leasing.ensures.comes (λ doomed. inl (c.after_leasing.ensures.blames doomed))
