use Rattle.std.proofs.Common.{List, subst, sym}
use Rattle.play_outcome.specs.declared.outcome.RefLine.{RefLine}
use Rattle.store_api.specs.Running.{Program, StaysPolite}
use Rattle.repository.proofs.Listed.{refs-polite}
use Rattle.repository.proofs.calls.read_refs.Goals as goal

pub run_machine-requires-clause-polite : goal.run_machine-requires-clause-polite
run_machine-requires-clause-polite g c = λ t.
    let view = g.S.Viewed.view c.args.store.now in
    subst (λ (p : Program (List RefLine)). StaysPolite view.caller p view.seen) (sym c.new.ensures) (refs-polite view.caller view.seen)
