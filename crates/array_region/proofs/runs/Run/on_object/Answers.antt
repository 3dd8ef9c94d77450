use Rattle.std.proofs.Common.{◌∙◌, List, ℕ, Ok, refl, sym, ap, arith}
use Rattle.std.specs.Prelude.{Result}
use Rattle.zarr_tree.specs.Nodes.{chunk_length}
use Rattle.store_api.specs.declared.machines.Refusal.{Refusal}
use Rattle.store_api.specs.Program.{Done}
use Rattle.store_api.specs.Running.{Program, ◌>>=◌}
use Rattle.repo_read.specs.Answers.{object_told}
use Rattle.session.specs.declared.chunks.Value.TheVariants.{Bytes}
use Rattle.session.specs.Sessions.{SessionState}
use Rattle.array_region.specs.Reading.{keeping}
use Rattle.array_region.specs.Getting.{kept_of}
use Rattle.array_region.specs.Setting.{run_old, run_entered, run_reads, run_met, box_written}
use Rattle.array_region.proofs.RunTaking.{run_object}
use Rattle.array_region.proofs.runs.Run.on_object.Goals as goal

pub returns-in-Ok-clause-took : goal.returns-in-Ok-clause-took
returns-in-Ok-clause-took c =
    let m = c.args.self.now in
    let f : Result (List ℕ) Refusal → Program SessionState = λ told. box_written ((Done told >>= λ bytes. Done (Ok (Bytes bytes))) >>= keeping (kept_of m.kept)) (run_old m) (run_entered m) (run_reads m) m.given.numbers.items c.args.index (run_met m) in
    run_object c.on_found.new.self c.on_found.result c.args.reply (chunk_length (run_reads m).array) c.args.id c.args.offset c.args.length f c.in-Ok.bytes
    (sym c.in-Ok.is ∙ c.object_told.ensures.told ∙ ap (λ want. object_told want c.args.id c.args.offset c.args.length c.args.reply) c.want.ensures)
    (c.on_found.ensures.lands c.args.index 0 (keeping (kept_of m.kept) (Bytes c.in-Ok.bytes)) (refl, refl))

pub returns-in-Ok-clause-falls : goal.returns-in-Ok-clause-falls
returns-in-Ok-clause-falls c =
    let m = c.args.self.now in
    let f = c.on_found.ensures.falls c.args.index 0 (keeping (kept_of m.kept) (Bytes c.in-Ok.bytes)) (refl, refl) in
    omega (arith, f)
