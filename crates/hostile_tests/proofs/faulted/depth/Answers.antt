use Rattle.std.proofs.Common.{List, [], refl, sym, subst, arith}
use Rattle.snapshot_file.specs.declared.snapshot.SnapshotFile.{SnapshotFile}
use Rattle.store_api.specs.Program.{IsAsk}
use Rattle.store_api.specs.Running.{Program}
use Rattle.repo_read.proofs.Walking.{walk-next}
use Rattle.hostile_tests.proofs.faulted.depth.Goals as goal

-- a walk that may read a snapshot gets one
pub run_machine-walked-requires-clause-live : goal.run_machine-walked-requires-clause-live
run_machine-walked-requires-clause-live c = subst (λ (p : Program (List SnapshotFile)). IsAsk p) (sym c.new-chain.ensures.rest) (walk-next 65536 [] [] _ _ (λ none. omega arith) refl refl).1
