-- Whatever others do, a task that checks reads alone, and its outcome tells the journal.
use Rattle.std.proofs.Common.{ℕ, List, refl}
use Rattle.object_store.specs.declared.events.Op.{Op}
use Rattle.object_store.specs.declared.events.Op.TheVariants.{Get, PutNew, PutOver, Remove, RemoveAt, List as ListPart}
use Rattle.object_store.specs.declared.events.Event.{Event}
use Rattle.store_api.specs.Journal.{IsPolite}
use Rattle.store_api.specs.Callers.{Caller}
use Rattle.store_api.specs.Plays.{Play, Ended, Ask, Or, PlayLeads}
use Rattle.repo_check.specs.declared.standing.CheckReport.{CheckReport}
use Rattle.repo_check.specs.Plays.{check_play}
use Rattle.repo_check.specs.Exact.{IsRead, CheckTells}
use Rattle.repo_check.specs.Laws.{CheckLaw}
use Rattle.check_calls.specs.Told.{TellsNoFailure}
use Rattle.check_calls.specs.Laws.{FailureLaw}
use Rattle.play_check.specs.Playing.{outcome_of}
use Rattle.play_check.specs.Telling.{CheckedTells}
use Rattle.play_check.specs.Laws.{CheckTaskLaw}
use Rattle.store_api.proofs.PlayLaws.{PlayKeeps-weaker}
use Rattle.store_api.proofs.Ended.{keeps-both, leads-as}

-- what reads is polite
read-polite : (journal : List Event) (client : ℕ) (op : Op) → IsRead op → IsPolite journal op
read-polite journal client (Get key) read = tt
read-polite journal client (ListPart part) read = tt
read-polite journal client (PutNew key bytes why) read = absurd read
read-polite journal client (PutOver key bytes old why) read = absurd read
read-polite journal client (Remove key why) read = absurd read
read-polite journal client (RemoveAt key old why) read = absurd read

-- two facts of what a play ends with
leads-both : {A : Type 0} (P Q : A → List Event → Type 0) (by : Caller) (p : Play A) (journal : List Event) → PlayLeads P by p journal → PlayLeads Q by p journal → PlayLeads (λ a h. P a h × Q a h) by p journal
unfolding PlayLeads
leads-both P Q by (Ended a) journal k l = (k, l)
leads-both P Q by (Ask op starved next) journal k l = (leads-both P Q by starved journal k.0 l.0, λ reply new m. leads-both P Q by (next reply) new (k.1 reply new m) (l.1 reply new m))
leads-both P Q by (Or p q) journal k l = (leads-both P Q by p journal k.0 l.0, leads-both P Q by q journal k.1 l.1)

abbrev Tells : (client : ℕ) (start : List Event) → CheckReport → List Event → Type 0
Tells client start report journal = CheckTells client start report journal × TellsNoFailure client start report journal

task-tells : (line client : ℕ) (start : List Event) (report : CheckReport) (journal : List Event) → Tells client start report journal → CheckedTells line client start (outcome_of line report) journal
task-tells line client start report journal t = record { report = report; is = refl; tells = t.0; no_failure = t.1 }

pub task-well : CheckLaw → FailureLaw → CheckTaskLaw
task-well exact failing by line start =
    let law = exact by start in
    let reads = law.reads in
    let polite = PlayKeeps-weaker (λ h client op. IsRead op) (λ h client op. IsPolite h op) read-polite by check_play start reads in (
      keeps-both (outcome_of line) (λ h client op. IsPolite h op) (λ h client op. IsRead op) by check_play start polite reads,
      leads-as (outcome_of line) (Tells by.number start) (CheckedTells line by.number start) (task-tells line by.number start) by check_play start
          (leads-both (CheckTells by.number start) (TellsNoFailure by.number start) by check_play start law.leads (failing.leads by start)),
    )
