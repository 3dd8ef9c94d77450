use Rattle.std.proofs.Common.{ap, ◌∙◌}
use Rattle.zarr_changes.specs.Edits.{with_row}
use Rattle.zarr_changes.specs.inside.Kept.{text_rows}
use Rattle.zarr_changes.proofs.IdLaws.{insert_row}
use Rattle.zarr_changes.proofs.texts.Texts.insert.Goals as goal

pub returns-clause-ok : goal.returns-clause-ok
returns-clause-ok c =
    ap text_rows c.in_ok-insert.ensures.entries ∙ insert_row c.self.inside.metas.entries c.args.id c.args.meta c.self.invariant
    ∙ ap (λ rows. with_row rows c.args.id c.args.meta.text) c.self.view_is
