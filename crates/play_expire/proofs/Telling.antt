-- Whatever others do, each operation of a task that expires is owed, and its outcome tells the journal.
use Rattle.std.proofs.Common.{ℕ, List, refl}
use Rattle.object_store.specs.declared.events.Event.{Event}
use Rattle.store_api.specs.Journal.{IsPolite}
use Rattle.expiry.specs.declared.terms.Terms.{Terms}
use Rattle.expiry.specs.declared.standing.Expired.{Expired}
use Rattle.expiry.specs.Plays.{expire_play}
use Rattle.expiry.specs.Telling.{ExpireTells}
use Rattle.expiry.specs.Owing.{IsOwed}
use Rattle.expiry.specs.Laws.{ExpireLaw}
use Rattle.play_expire.specs.Playing.{outcome_of}
use Rattle.play_expire.specs.Telling.{ExpiredTells}
use Rattle.play_expire.specs.Laws.{ExpireTaskLaw}
use Rattle.store_api.proofs.Ended.{keeps-both, leads-as}

task-tells : (line : ℕ) (terms : Terms) (client : ℕ) (start : List Event) (e : Expired) (journal : List Event) → ExpireTells terms client start e journal → ExpiredTells line terms client start (outcome_of line e) journal
task-tells line terms client start e journal t = record { expired = e; is = refl; tells = t }

pub task-well : ExpireLaw → ExpireTaskLaw
task-well law by line terms start =
    let exact = law by terms start in
    let p = expire_play terms in (
      keeps-both (outcome_of line) (λ h client op. IsPolite h op) (IsOwed terms start) by p start exact.polite exact.owed,
      leads-as (outcome_of line) (ExpireTells terms by.number start) (ExpiredTells line terms by.number start) (task-tells line terms by.number start) by p start exact.leads,
    )
