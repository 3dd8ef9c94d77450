use Rattle.std.proofs.Common.{refl, inl}
use Rattle.top_call.proofs.Checking.{did-check, stays-sound, stays-same}
use Rattle.top_call.proofs.running.run_check.Goals as goal

pub returns-in-Err-clause-checks : goal.returns-in-Err-clause-checks
returns-in-Err-clause-checks g c = inl (record { store = refl; out = refl })

pub returns-in-Err-clause-sound : goal.returns-in-Err-clause-sound
returns-in-Err-clause-sound g c = λ draw tells. stays-same c.run_law.ensures draw (g.S.Viewed.view c.args.store).seen

pub returns-clause-checks : goal.returns-clause-checks
returns-clause-checks g c =
    did-check (g.S.Viewed.view c.args.store) (g.S.Viewed.view c.check_store-outcome.new.store) (g.K.Sink.at c.args.out.now) (g.K.Sink.at c.finish_check-status.new.out) c.finish_check-status.result
    (record { outcome = c.check_store-outcome.result; checked = c.check_store-outcome.ensures; told = c.finish_check-status.ensures })

pub returns-clause-sound : goal.returns-clause-sound
returns-clause-sound g c = λ draw tells.
    let checked = c.check_store-outcome.ensures in
    stays-sound c.run_law.ensures draw (g.S.Viewed.view c.args.store).seen (g.S.Viewed.view c.check_store-outcome.new.store).seen checked.own (checked.is tells) (checked.each tells)
