use Rattle.std.proofs.Common.{Err}
use Rattle.std.specs.Prelude.{None}
use Rattle.object_store.specs.declared.events.New.{New}
use Rattle.object_store.specs.declared.events.Reply.TheVariants.{New as Is_new}
use Rattle.store_api.specs.declared.machines.Refusal.TheVariants.{NoMemory}
use Rattle.leases.specs.Plays.{after_put, ends_with, leases, tells_fault}
use Rattle.leases.specs.Resting.{leasing_rest}
use Rattle.leases.proofs.Acting.{asked-acts}
use Rattle.leases.proofs.placing.step_put.Goals as goal

pub returns-clause-acts : goal.returns-clause-acts
returns-clause-acts g c =
    asked-acts tells_fault (λ (new : New). Is_new new) (leases c.args.id c.args.base) (ends_with None (Err NoMemory)) (after_put c.args.id c.args.witness) (g.S.Viewed.view c.args.store.now) (g.S.Viewed.view c.put_new-answer.new.self) (leasing_rest c.args.id c.after_put.result) c.put_new-answer.result (λ new. tt) (λ done. tt) (rw c.ref_write-file.ensures at c.put_new-answer.ensures) c.after_put.ensures.follows c.after_put.ensures.calm
