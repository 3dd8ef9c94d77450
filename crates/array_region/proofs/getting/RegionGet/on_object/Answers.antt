use Rattle.std.proofs.Common.{◌∙◌, ℕ, List, Ok, drop, refl, sym, ap, arith}
use Rattle.std.specs.Prelude.{Result}
use Rattle.zarr_tree.specs.Nodes.{chunk_length}
use Rattle.store_api.specs.declared.machines.Refusal.{Refusal}
use Rattle.store_api.specs.Program.{Done}
use Rattle.store_api.specs.Running.{Program, ◌>>=◌}
use Rattle.repo_read.specs.Answers.{object_told}
use Rattle.session.specs.declared.chunks.Value.TheVariants.{Bytes}
use Rattle.array_region.specs.Reading.{keeping}
use Rattle.array_region.specs.Getting.{reads_of, kept_of, chunks_of, box_after, region_rest}
use Rattle.array_region.proofs.Taking.{took_object}
use Rattle.array_region.proofs.getting.RegionGet.on_object.Goals as goal

pub returns-in-Ok-clause-took : goal.returns-in-Ok-clause-took
returns-in-Ok-clause-took c =
    let m = c.args.self.now in
    let f : Result (List ℕ) Refusal → Program _ = λ told. box_after ((Done told >>= λ bytes. Done (Ok (Bytes bytes))) >>= keeping (kept_of m.kept)) m.session (reads_of m.plan) m.numbers.items c.args.index (drop m.at (chunks_of (reads_of m.plan))) in
    took_object (region_rest c.on_found.new.self) c.on_found.result c.args.reply (chunk_length m.plan.array) c.args.id c.args.offset c.args.length f c.in-Ok.bytes
    (sym c.in-Ok.is ∙ c.object_told.ensures.told ∙ ap (λ want. object_told want c.args.id c.args.offset c.args.length c.args.reply) c.want.ensures)
    (c.on_found.ensures.took c.args.index 0 (keeping (kept_of m.kept) (Bytes c.in-Ok.bytes)) (refl, refl))

pub returns-in-Ok-clause-falls : goal.returns-in-Ok-clause-falls
returns-in-Ok-clause-falls c =
    let m = c.args.self.now in
    let f = c.on_found.ensures.falls c.args.index 0 (keeping (kept_of m.kept) (Bytes c.in-Ok.bytes)) (refl, refl) in
    omega (arith, f)
