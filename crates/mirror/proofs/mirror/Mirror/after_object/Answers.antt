use Rattle.std.proofs.Common.{inl, sym, ◌∙◌, ap}
use Rattle.mirror.specs.declared.mirror.Object.{Object}
use Rattle.mirror.specs.inside.Working.{work_of, behind_object}
use Rattle.mirror.proofs.Landing.{log-done}
use Rattle.mirror.proofs.mirror.Mirror.after_object.Goals as goal

pub returns-in-Log-clause-lands : goal.returns-in-Log-clause-lands
returns-in-Log-clause-lands c =
    let m = c.args.self.now in
    inl (log-done m ∙ ap (λ (o : Object). behind_object o m (work_of m)) (sym c.in-Log.is))

pub returns-in-Log-clause-sure : goal.returns-in-Log-clause-sure
returns-in-Log-clause-sure c = λ n.
    let m = c.args.self.now in
    log-done m ∙ ap (λ (o : Object). behind_object o m (work_of m)) (sym c.in-Log.is)

pub returns-in-Snapshot-clause-sure : goal.returns-in-Snapshot-clause-sure
returns-in-Snapshot-clause-sure c = λ n. absurd (n c.in-Snapshot.is)
