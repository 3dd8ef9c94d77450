use Rattle.std.proofs.Common.{subst, sym}
use Rattle.store_api.specs.Running.{Program, StaysPolite}
use Rattle.refs_admin.proofs.calls.make_branch.Goals as goal

pub run_machine-requires-clause-polite : goal.run_machine-requires-clause-polite
run_machine-requires-clause-polite g c = λ t.
    let view = g.S.Viewed.view c.args.store.now in
    subst (λ (p : Program (Unit {0})). StaysPolite view.caller p view.seen) (sym c.new.ensures.program) (((c.refs_law.ensures view.caller).branch_new c.args.name c.args.at).polite view.seen)
