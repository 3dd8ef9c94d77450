use Rattle.std.proofs.Common.{Err}
use Rattle.object_store.specs.declared.events.Gone.{Gone}
use Rattle.object_store.specs.declared.events.Reply.TheVariants.{Gone as Is_gone}
use Rattle.store_api.specs.declared.machines.Refusal.TheVariants.{NoMemory}
use Rattle.store_api.specs.Plays.{Ended}
use Rattle.leases.specs.Plays.{after_release, fails, releases}
use Rattle.leases.proofs.Acting.{asked-acts}
use Rattle.leases.proofs.releasing.release.Goals as goal

pub returns-clause-acts : goal.returns-clause-acts
returns-clause-acts g c =
    asked-acts fails (λ (gone : Gone). Is_gone gone) (releases c.args.id) (Ended (Err NoMemory)) after_release (g.S.Viewed.view c.args.store.now) (g.S.Viewed.view c.remove-answer.new.self) (Ended c.released.result) c.remove-answer.result (λ gone. tt) (λ done. tt) c.remove-answer.ensures c.released.ensures.follows c.released.ensures.calm
