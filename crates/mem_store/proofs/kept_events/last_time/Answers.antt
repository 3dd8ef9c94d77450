use Rattle.std.proofs.Common.{sym}
use Rattle.mem_store.proofs.Told.{told-first, told-last}
use Rattle.mem_store.proofs.kept_events.last_time.Goals as goal

pub returns-in-None : goal.returns-in-None
returns-in-None c = sym (told-first c.args.logs.now (sym c.in-None.ensures.value))

pub returns-in-Some : goal.returns-in-Some
returns-in-Some c = sym (told-last c.args.logs.now c.in-Some.log.now (sym c.in-Some.ensures.value))
