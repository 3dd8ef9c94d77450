use Rattle.std.proofs.Common.{◌∙◌, Some, sym, ap, arith, drop}
use Rattle.std.specs.Prelude.{option_map}
use Rattle.held_manifest.specs.Places.{place_seen}
use Rattle.zarr_tree.specs.Nodes.{chunk_length}
use Rattle.array_region.specs.Reading.{entry_kept, listed_kept}
use Rattle.array_region.specs.Getting.{reads_of}
use Rattle.array_region.proofs.Looking.{looks_more}
use Rattle.array_region.proofs.plans.Plan.in_file.Goals as goal

pub returns-in-Some : goal.returns-in-Some
returns-in-Some c =
    let p = c.args.self.now in
    let got = c.args.got in
    looks_more (reads_of p) (Some (got.id, got.held)) c.args.index 1 _ _ _ c.at_place-found.result (omega arith)
    (ap (entry_kept (chunk_length p.array) got.id (Some (got.id, got.held)) (listed_kept (chunk_length p.array) p.node c.args.index (drop c.args.at c.args.ids) (Some (got.id, got.held)))) (sym c.seek.ensures ∙ ap (option_map place_seen) c.in-Some.is))
    (c.at_place-found.ensures (Some (got.id, got.held)))
