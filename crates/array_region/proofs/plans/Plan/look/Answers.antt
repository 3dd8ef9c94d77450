use Rattle.std.proofs.Common.{◌∙◌, Some, sym, ap, arith}
use Rattle.std.specs.Prelude.{option_map}
use Rattle.std.specs.Option.{option_copied}
use Rattle.zarr_tree.specs.Nodes.{chunk_length}
use Rattle.array_region.specs.Reading.{entered_kept}
use Rattle.array_region.specs.Getting.{reads_of, kept_of}
use Rattle.array_region.proofs.Looking.{looks_more}
use Rattle.array_region.proofs.plans.Plan.look.Goals as goal

pub returns-in-Some-Some : goal.returns-in-Some-Some
returns-in-Some-Some c =
    let p = c.args.self.now in
    looks_more (reads_of p) (kept_of c.args.kept.now) c.args.index 1 _ _ _ c.at_own.result (omega arith)
    (ap (entered_kept c.args.session.now p.region.path (chunk_length p.array) p.node c.args.index (kept_of c.args.kept.now)) (sym c.chunk_entry.ensures ∙ ap (option_map option_copied) (c.in-Some-Some.is ∙ ap (λ x. Some x) c.in-Some-Some.field-0-is)))
    (c.at_own.ensures (kept_of c.args.kept.now))
