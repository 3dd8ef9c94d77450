-- A check commits nothing.
use Rattle.std.proofs.Common.{refl, sym, ◌∙◌, ℕ, List, [], ◌∷◌, ◌++◌}
use Rattle.std.proofs.lemmas.Bool.{false≢true}
use Rattle.object_store.specs.declared.events.Op.{Op}
use Rattle.object_store.specs.declared.events.Op.TheVariants.{Get, PutNew, PutOver, Remove, RemoveAt, List as ListPart}
use Rattle.store_api.specs.Plays.{Ended, Ask, Or}
use Rattle.repo_check.specs.Plays.{Answer, check_play}
use Rattle.repo_check.specs.Findings.{Deed}
use Rattle.repo_check.specs.Exact.{IsRead}
use Rattle.repo_check.proofs.Going.{Goes}
use Rattle.repo_check.proofs.Playing.{goes-play}
use Rattle.play_check.specs.Playing.{outcome_of, check_task}
use Rattle.play_tasks.proofs.Singly.{Once, NoCommit, as-once}

read-none : (op : Op) → IsRead op → NoCommit op
read-none (Get key) read = refl
read-none (ListPart part) read = refl
read-none (PutNew key bytes why) read = absurd read
read-none (PutOver key bytes old why) read = absurd read
read-none (Remove key why) read = absurd read
read-none (RemoveAt key old why) read = absurd read

reads-once : (deeds : List Deed) (p : Answer) → Goes deeds p → Once p
unfolding Goes Once
reads-once deeds (Ended report) g = tt
reads-once deeds (Ask op without next) g = (
  λ commits. absurd (false≢true (sym (read-none op g.0) ∙ commits)),
  reads-once deeds without g.1,
  λ reply. reads-once (deeds ++ record { op = op; reply = reply } ∷ []) (next reply) (g.2 reply),
)
reads-once deeds (Or p q) g = (reads-once deeds p g.0, reads-once deeds q g.1)

pub check-once : (line : ℕ) → Once (check_task line)
check-once line = as-once (outcome_of line) check_play (reads-once [] check_play goes-play)
