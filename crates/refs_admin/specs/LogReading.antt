-- The program that reads the log of a snapshot's chain. (Icechunk specification version 1,
-- "Snapshots": each names its parent, and has a message, properties and the time of its flush.)
use Rattle.std.specs.Prelude.{List, map, Ok, Err}
use Rattle.ice_ids.specs.declared.Id12.{Id12}
use Rattle.snapshot_file.specs.declared.snapshot.SnapshotFile.{SnapshotFile}
use Rattle.store_api.specs.declared.machines.Refusal.{Refusal}
use Rattle.store_api.specs.declared.machines.Refusal.TheVariants.{NoRef, Missing, BadFile}
use Rattle.store_api.specs.declared.machines.Refusal.TheVariants.{TooDeep, StoreFault, NoMemory}
use Rattle.store_api.specs.Program.{Done, Ask}
use Rattle.store_api.specs.Running.{Program, ◌>>=◌}
use Rattle.repo_read.specs.Chains.{chain_program}
use Rattle.repo_read.specs.declared.resolving.At.{At}
use Rattle.refs_admin.specs.declared.log.LogLine.{LogLine}
use Rattle.repo_read.specs.Resolving.{no_ref, resolve_at_program}

-- what the log says of a snapshot
abbrev pub line_of : SnapshotFile → LogLine
line_of s = record { id = s.id; flushed_at = s.flushed_at; message = s.message; props = s.props }

-- its lines, in the order of the snapshots
abbrev pub told_lines : List SnapshotFile → Program (List LogLine)
told_lines seen = Done (Ok (map line_of seen))

-- ---- the head of the chain
abbrev pub refused_now : {A : Type 0} → (Refusal → Refusal) → Program A → Program A
refused_now f (Done (Ok x)) = Done (Ok x)
refused_now f (Done (Err why)) = Done (Err (f why))
refused_now f (Ask op next) = Ask op next

-- where the program is refused behind its first operation, it is refused so instead
abbrev pub refused_first : {A : Type 0} → (Refusal → Refusal) → Program A → Program A
refused_first f (Done result) = Done result
refused_first f (Ask op next) = Ask op (λ reply. refused_now f (next reply))

-- The chain from a snapshot. Of one that its own id names, absence is that of a ref; of one that a
-- branch or a tag names, or a child, it isn't.
abbrev pub chain_at : At → Id12 → Program (List SnapshotFile)
chain_at (At.Branch name) id = chain_program id
chain_at (At.Tag name) id = chain_program id
chain_at (At.Snapshot own) id = refused_first no_ref (chain_program id)

-- a line for each snapshot of the chain, head first
abbrev pub chain_log_program : At → Program (List LogLine)
chain_log_program at = do
  named ← resolve_at_program at
  seen ← chain_at at named.id
  told_lines seen

-- the refusals of a log
abbrev pub MayRefuseLog : Refusal → Type 0
MayRefuseLog NoRef = Unit {0}
MayRefuseLog (Missing key) = Unit {0}
MayRefuseLog TooDeep = Unit {0}
MayRefuseLog (BadFile key bad) = Unit {0}
MayRefuseLog StoreFault = Unit {0}
MayRefuseLog NoMemory = Unit {0}
MayRefuseLog _ = ⊥
