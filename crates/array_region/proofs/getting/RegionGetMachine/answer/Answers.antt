use Rattle.std.proofs.Common.{drop, subst}
use Rattle.store_api.specs.Driving.{Took}
use Rattle.array_region.specs.declared.stages.Stage.{Stage}
use Rattle.array_region.specs.Getting.{reads_of, kept_of, chunks_of, stage_chunk, stage_index, box_after, region_rest}
use Rattle.array_region.proofs.getting.RegionGetMachine.answer.Goals as goal

pub returns-in-Manifest-clause-took : goal.returns-in-Manifest-clause-took
returns-in-Manifest-clause-took c =
    let m = c.args.self.now in
    subst (λ (stage : Stage). Took (box_after (stage_chunk (reads_of m.plan) (kept_of m.kept) stage) m.session (reads_of m.plan) m.numbers.items (stage_index stage) (drop m.at (chunks_of (reads_of m.plan)))) c.args.reply (region_rest c.on_manifest.new.self) c.on_manifest.result)
    c.in-Manifest.ensures.value c.on_manifest.ensures.took
