use Rattle.std.proofs.Common.{sym, subst}
use Rattle.array_region.specs.declared.runs.WriteStage.{WriteStage}
use Rattle.array_region.specs.declared.runs.WriteStage.TheVariants.{Reads as Is_reads}
use Rattle.array_region.specs.declared.stages.Stage.{Stage}
use Rattle.array_region.specs.Getting.{kept_of}
use Rattle.array_region.specs.Setting.{run_old, run_entered, run_reads, run_met, write_rest, RunTook}
use Rattle.array_region.proofs.runs.Run.answer.Goals as goal

pub returns-in-Reads-Manifest-clause-took : goal.returns-in-Reads-Manifest-clause-took
returns-in-Reads-Manifest-clause-took c =
    let m = c.args.self.now in
    subst (λ (stage : WriteStage). RunTook (write_rest (run_old m) (run_entered m) (run_reads m) m.given.numbers.items (kept_of m.kept) (run_met m) stage) c.args.reply c.on_manifest.new.self c.on_manifest.result) c.in-Reads-Manifest.ensures.value
    (subst (λ (stage : Stage). RunTook (write_rest (run_old m) (run_entered m) (run_reads m) m.given.numbers.items (kept_of m.kept) (run_met m) (Is_reads stage)) c.args.reply c.on_manifest.new.self c.on_manifest.result) (sym c.in-Reads-Manifest.field-0-is)
    c.on_manifest.ensures.took)

pub returns-in-Reads-Object-clause-took : goal.returns-in-Reads-Object-clause-took
returns-in-Reads-Object-clause-took c =
    let m = c.args.self.now in
    subst (λ (stage : WriteStage). RunTook (write_rest (run_old m) (run_entered m) (run_reads m) m.given.numbers.items (kept_of m.kept) (run_met m) stage) c.args.reply c.on_object.new.self c.on_object.result) c.in-Reads-Object.ensures.value
    (subst (λ (stage : Stage). RunTook (write_rest (run_old m) (run_entered m) (run_reads m) m.given.numbers.items (kept_of m.kept) (run_met m) (Is_reads stage)) c.args.reply c.on_object.new.self c.on_object.result) (sym c.in-Reads-Object.field-0-is)
    c.on_object.ensures.took)
