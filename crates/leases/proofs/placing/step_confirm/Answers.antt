use Rattle.std.proofs.Common.{Err}
use Rattle.std.specs.Prelude.{Some}
use Rattle.object_store.specs.declared.keys.Key.TheVariants.{Branch, Tombstone}
use Rattle.object_store.specs.declared.events.Got.{Got}
use Rattle.object_store.specs.declared.events.Op.TheVariants.{Get}
use Rattle.object_store.specs.declared.events.Reply.TheVariants.{Got as Is_got}
use Rattle.store_api.specs.declared.machines.Refusal.TheVariants.{NoMemory}
use Rattle.leases.specs.Plays.{after_confirm, ends_with, has_none, stands_at, tells_fault}
use Rattle.leases.specs.Resting.{leasing_rest}
use Rattle.leases.proofs.Acting.{asked-acts}
use Rattle.leases.proofs.placing.step_confirm.Goals as goal

pub returns-in-Branch-clause-acts : goal.returns-in-Branch-clause-acts
returns-in-Branch-clause-acts g c =
    rw c.in-Branch.is (asked-acts tells_fault (λ (got : Got). Is_got got) (Get (Branch c.in-Branch.tip.branch)) (ends_with (Some c.args.id) (Err NoMemory)) (after_confirm c.args.id (stands_at c.in-Branch.tip.version)) (g.S.Viewed.view c.args.store.now) (g.S.Viewed.view c.get-answer.new.self) (leasing_rest c.args.id c.after_branch.result) c.get-answer.result (λ got. tt) (λ done. tt) c.get-answer.ensures c.after_branch.ensures.follows c.after_branch.ensures.calm)

pub returns-in-Tag-clause-acts : goal.returns-in-Tag-clause-acts
returns-in-Tag-clause-acts g c =
    rw c.in-Tag.is (asked-acts tells_fault (λ (got : Got). Is_got got) (Get (Tombstone c.in-Tag.tag)) (ends_with (Some c.args.id) (Err NoMemory)) (after_confirm c.args.id has_none) (g.S.Viewed.view c.args.store.now) (g.S.Viewed.view c.get-answer-in-Tag.new.self) (leasing_rest c.args.id c.after_tombstone.result) c.get-answer-in-Tag.result (λ got. tt) (λ done. tt) c.get-answer-in-Tag.ensures c.after_tombstone.ensures.follows c.after_tombstone.ensures.calm)
