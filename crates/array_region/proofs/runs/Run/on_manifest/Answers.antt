use Rattle.std.proofs.Common.{◌∙◌, ◌+◌, ◌-◌, Ok, length, drop, sym, arith}
use Rattle.std.specs.Prelude.{Result}
use Rattle.zarr_tree.specs.Nodes.{chunk_length}
use Rattle.manifest_file.specs.declared.manifest.ManifestFile.{ManifestFile}
use Rattle.store_api.specs.declared.machines.Refusal.{Refusal}
use Rattle.store_api.specs.Running.{Program, on_answer}
use Rattle.session.specs.Sessions.{SessionState}
use Rattle.array_region.specs.Reading.{in_file, listed_kept}
use Rattle.array_region.specs.Setting.{run_old, run_entered, run_reads, run_met, box_written}
use Rattle.array_region.proofs.RunTaking.{run_manifest}
use Rattle.array_region.proofs.runs.Run.on_manifest.Goals as goal

pub returns-in-Ok-in_file-clause-took : goal.returns-in-Ok-in_file-clause-took
returns-in-Ok-in_file-clause-took c =
    let m = c.args.self.now in
    let file = in_file (chunk_length (run_reads m).array) (run_reads m).node c.args.index c.args.id (listed_kept (chunk_length (run_reads m).array) (run_reads m).node c.args.index (drop c.args.at c.args.ids)) in
    let f : Result ManifestFile Refusal → Program SessionState = λ told. box_written (on_answer file told) (run_old m) (run_entered m) (run_reads m) m.given.numbers.items c.args.index (run_met m) in
    run_manifest c.on_found.new.self c.on_found.result c.args.reply c.args.id f c.in-Ok.held (sym c.in-Ok.is ∙ c.manifest_told.ensures.told)
    (c.on_found.ensures.lands c.args.index (length c.args.ids - c.args.at + 1) (file c.in-Ok.held) c.in-Ok-in_file.ensures)

pub returns-in-Ok-in_file-clause-falls : goal.returns-in-Ok-in_file-clause-falls
returns-in-Ok-in_file-clause-falls c =
    let m = c.args.self.now in
    let file = in_file (chunk_length (run_reads m).array) (run_reads m).node c.args.index c.args.id (listed_kept (chunk_length (run_reads m).array) (run_reads m).node c.args.index (drop c.args.at c.args.ids)) in
    let f = c.on_found.ensures.falls c.args.index (length c.args.ids - c.args.at + 1) (file c.in-Ok.held) c.in-Ok-in_file.ensures in
    omega (arith, f)
