use Rattle.std.proofs.Common.{◌≡◌, ◌∙◌, ◌+◌, ◌-◌, Ok, length, drop, sym, subst, arith}
use Rattle.std.specs.Prelude.{Result}
use Rattle.zarr_tree.specs.Nodes.{chunk_length}
use Rattle.manifest_file.specs.declared.manifest.ManifestFile.{ManifestFile}
use Rattle.store_api.specs.declared.machines.Refusal.{Refusal}
use Rattle.store_api.specs.Running.{Program, on_answer}
use Rattle.session.specs.inside.Working.{LandsCalmly}
use Rattle.array_region.specs.Reading.{in_file, listed_kept}
use Rattle.array_region.specs.Getting.{reads_of, kept_of, chunks_of, box_after, region_rest, left_behind, Finds}
use Rattle.array_region.proofs.Taking.{took_manifest, as_before}
use Rattle.array_region.proofs.getting.RegionGet.on_manifest.Goals as goal
use Rattle.array_region.proofs.getting.RegionGet.on_manifest.Goals.{After-on_found}

-- what was found, as the machine that goes on sees it
found : (c : After-on_found) → Finds (reads_of c.on_file.new.self.plan) (kept_of c.on_file.new.self.kept) c.args.index (length c.args.ids - c.args.at + 1)
    (in_file (chunk_length c.args.self.now.plan.array) c.args.self.now.plan.node c.args.index c.args.id (listed_kept (chunk_length c.args.self.now.plan.array) c.args.self.now.plan.node c.args.index (drop c.args.at c.args.ids)) c.in-Ok.held) c.in-Ok-on_file.found
found c =
    subst (λ p. Finds (reads_of p) (kept_of c.on_file.new.self.kept) c.args.index (length c.args.ids - c.args.at + 1)
    (in_file (chunk_length c.args.self.now.plan.array) c.args.self.now.plan.node c.args.index c.args.id (listed_kept (chunk_length c.args.self.now.plan.array) c.args.self.now.plan.node c.args.index (drop c.args.at c.args.ids)) c.in-Ok.held) c.in-Ok-on_file.found)
    (sym c.on_file.ensures.plan) c.in-Ok-on_file.ensures.found

pub returns-in-Ok-on_file-clause-took : goal.returns-in-Ok-on_file-clause-took
returns-in-Ok-on_file-clause-took c =
    let m = c.args.self.now in
    let n = c.on_file.new.self in
    let file = in_file (chunk_length m.plan.array) m.plan.node c.args.index c.args.id (listed_kept (chunk_length m.plan.array) m.plan.node c.args.index (drop c.args.at c.args.ids)) in
    let f : Result ManifestFile Refusal → Program _ = λ told. box_after (on_answer file told) m.session (reads_of m.plan) m.numbers.items c.args.index (drop m.at (chunks_of (reads_of m.plan))) in
    took_manifest (region_rest c.on_found.new.self) c.on_found.result c.args.reply c.args.id f c.in-Ok.held (sym c.in-Ok.is ∙ c.manifest_told.ensures.told)
    (subst (λ p. LandsCalmly p (region_rest c.on_found.new.self) c.on_found.result) (as_before m n c.on_file.ensures.session c.on_file.ensures.plan c.on_file.ensures.numbers c.on_file.ensures.at (file c.in-Ok.held) c.args.index)
    (c.on_found.ensures.took c.args.index (length c.args.ids - c.args.at + 1) (file c.in-Ok.held) (found (goal.at.returns-in-Ok-on_file-clause-took c).After-on_found)))

pub returns-in-Ok-on_file-clause-falls : goal.returns-in-Ok-on_file-clause-falls
returns-in-Ok-on_file-clause-falls c =
    let m = c.args.self.now in
    let n = c.on_file.new.self in
    let file = in_file (chunk_length m.plan.array) m.plan.node c.args.index c.args.id (listed_kept (chunk_length m.plan.array) m.plan.node c.args.index (drop c.args.at c.args.ids)) in
    let f = c.on_found.ensures.falls c.args.index (length c.args.ids - c.args.at + 1) (file c.in-Ok.held) (found (goal.at.returns-in-Ok-on_file-clause-falls c).After-on_found) in
    let same : left_behind (reads_of n.plan) n.at ≡ left_behind (reads_of m.plan) m.at = λ i. left_behind (reads_of (c.on_file.ensures.plan i)) (c.on_file.ensures.at i) in
    omega (arith, f, same)
