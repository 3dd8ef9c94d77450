use Rattle.std.proofs.Common.{List, subst, sym}
use Rattle.refs_admin.specs.declared.log.LogLine.{LogLine}
use Rattle.store_api.specs.Program.{IsAsk}
use Rattle.store_api.specs.Running.{Program, StaysPolite}
use Rattle.refs_admin.proofs.Walks.{log-asks}
use Rattle.refs_admin.proofs.calls.read_log.Goals as goal

pub run_machine-requires-clause-polite : goal.run_machine-requires-clause-polite
run_machine-requires-clause-polite g c = λ t.
    let view = g.S.Viewed.view c.args.store.now in
    subst (λ (p : Program (List LogLine)). StaysPolite view.caller p view.seen) (sym c.new.ensures.program) (((c.refs_law.ensures view.caller).log c.args.at).polite view.seen)

pub run_machine-requires-clause-live : goal.run_machine-requires-clause-live
run_machine-requires-clause-live g c = subst (λ (p : Program (List LogLine)). IsAsk p) (sym c.new.ensures.program) (log-asks c.args.at)
