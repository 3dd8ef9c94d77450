-- A log is read by gets alone, and where one fails that is told.
use Rattle.std.proofs.Common.{ℕ, zero, suc, List, refl}
use Rattle.ice_ids.specs.declared.Id12.{Id12}
use Rattle.repo_read.specs.declared.resolving.Resolving.TheVariants as Get_of
use Rattle.repo_read.specs.Resolving.{no_ref}
use Rattle.refs_admin.specs.declared.log.LogLine.{LogLine}
use Rattle.refs_admin.specs.declared.log.Logging.{Logging}
use Rattle.refs_admin.specs.declared.log.Log.{Log}
use Rattle.refs_admin.specs.LogReading.{refused_first}
use Rattle.refs_admin.specs.inside.Working.{log_walk, logging_rest, log_rest}
use Rattle.play_outcome.proofs.Stepping.{IsReading}

walk-reads : (left : ℕ) (lines : List LogLine) (id : Id12) → IsReading (log_walk left lines id)
unfolding log_walk
walk-reads zero lines id = tt
walk-reads (suc left) lines id = (refl, λ done. refl)

head-reads : (left : ℕ) (lines : List LogLine) (id : Id12) → IsReading (refused_first no_ref (log_walk left lines id))
unfolding log_walk
head-reads zero lines id = tt
head-reads (suc left) lines id = (refl, λ done. refl)

logging-reads : (state : Logging) → IsReading (logging_rest state)
logging-reads (Logging.Resolving (Get_of.Branch name)) = (refl, λ done. refl)
logging-reads (Logging.Resolving (Get_of.Tag name)) = (refl, λ done. refl)
logging-reads (Logging.Resolving (Get_of.Tombstone name id)) = (refl, λ done. refl)
logging-reads (Logging.Head walk) = head-reads walk.left walk.lines walk.next
logging-reads (Logging.Chain walk) = walk-reads walk.left walk.lines walk.next
logging-reads Logging.Ended = tt

pub log-reads : (m : Log) → IsReading (log_rest m)
log-reads m = logging-reads m.state
