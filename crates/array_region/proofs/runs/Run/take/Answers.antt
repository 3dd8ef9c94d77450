use Rattle.std.proofs.Common.{ap, subst}
use Rattle.array_region.specs.declared.stages.Found.{Found}
use Rattle.array_region.specs.declared.runs.WriteStage.{WriteStage}
use Rattle.array_region.specs.Getting.{kept_of, Finds}
use Rattle.array_region.specs.Setting.{run_reads}
use Rattle.array_region.proofs.Writes.{gets_takes}
use Rattle.array_region.proofs.runs.Run.take.Goals as goal

pub returns-in-Gets-clause-takes : goal.returns-in-Gets-clause-takes
returns-in-Gets-clause-takes c = λ index most p f.
    let m = c.args.self.now in
    gets_takes m index most p c.in-Gets.stage (record m { stage = c.follow.new.self }) (ap (λ (s : WriteStage). record m { stage = s }) c.follow.ensures) (subst (λ (x : Found). Finds (run_reads m) (kept_of m.kept) index most p x) c.in-Gets.is f)
