use Rattle.std.proofs.Common.{inl, sym, subst, arith}
use Rattle.std.specs.Prelude.{vec_len, vec_capacity}
use Rattle.store_api.specs.declared.machines.Refusal.TheVariants.{NoMemory}
use Rattle.store_api.specs.Plays.{Or, Comes}
use Rattle.leases.specs.Starting.{lease_of}
use Rattle.leases.specs.Resting.{lease_rest}
use Rattle.play_outcome.specs.Playing.{refused}
use Rattle.play_tasks.specs.declared.working.Working.{Working}
use Rattle.play_tasks.specs.Lines.{lease_shown}
use Rattle.play_tasks.specs.Playing.{lease_by}
use Rattle.play_tasks.specs.inside.Working.{lines_from, working_rest}
use Rattle.play_tasks.proofs.Locals.{well_refused}
use Rattle.play_tasks.proofs.LeaseSteps.{begun-live, leases-on, lease-began, lease-refused, leasing-few, start-calm}
use Rattle.play_tasks.proofs.leasing.play_lease.Goals as goal

pub returns-in-Ok-clause-comes : goal.returns-in-Ok-clause-comes
returns-in-Ok-clause-comes c = λ access task.
    inl (lease-began c.args.line c.args.shown.items c.begin_lease.new.shown.items c.args.session c.begin_lease.new.session (lease_rest c.in-Ok.lease) (lines_from task c.args.at) c.in-Ok.ensures.starts.0 c.in-Ok.ensures.starts.1 c.in-Ok.ensures.same)

pub returns-in-Ok-clause-clean : goal.returns-in-Ok-clause-clean
returns-in-Ok-clause-clean c =
    leases-on (lease_rest c.in-Ok.lease) (vec_len c.begin_lease.new.shown) (vec_capacity c.begin_lease.new.shown) (begun-live c.args.session (lease_rest c.in-Ok.lease) c.in-Ok.ensures.starts.0) c.in-Ok.ensures.room

pub returns-in-Ok-clause-bounded : goal.returns-in-Ok-clause-bounded
returns-in-Ok-clause-bounded c = λ lines. let few = leasing-few c.in-Ok.lease.state in omega (arith, few)

pub returns-in-Err-clause-comes : goal.returns-in-Err-clause-comes
returns-in-Err-clause-comes c = λ access task.
    let s = c.args.session in
    let shown = c.args.shown.items in
    let rest = lines_from task c.args.at in
    subst (λ (x : Working). Comes (Or (lease_by (lease_shown c.args.line) c.args.line shown s rest (lease_of s)) (refused c.args.line shown NoMemory)) (working_rest task x)) (sym c.refuse.ensures)
    (lease-refused c.args.line shown c.begin_lease.new.shown.items s c.begin_lease.new.session c.in-Err.why rest c.in-Err.ensures.starts c.in-Err.ensures.same)

pub returns-in-Err-clause-clean : goal.returns-in-Err-clause-clean
returns-in-Err-clause-clean c =
    well_refused c.refuse.result c.args.line c.begin_lease.new.shown.items c.in-Err.why c.refuse.ensures (start-calm c.args.session c.begin_lease.new.session c.in-Err.why c.in-Err.ensures.starts)
