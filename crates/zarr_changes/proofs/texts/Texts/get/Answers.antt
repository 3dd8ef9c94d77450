use Rattle.std.proofs.Common.{Some, option_map, sym, ap, ◌∙◌}
use Rattle.std.specs.Borrow.{Bor}
use Rattle.zarr_meta.specs.declared.metas.Meta.{Meta}
use Rattle.zarr_tree.specs.Held.{meta_in}
use Rattle.zarr_changes.proofs.IdLaws.{looked_up, text_copied}
use Rattle.zarr_changes.proofs.texts.Texts.get.Goals as goal

pub returns-in-Some : goal.returns-in-Some
returns-in-Some c =
    ap (λ (m : Meta). Some m.text) c.deref.ensures ∙ ap (option_map (λ (m : Bor Meta). m.now.text)) (sym c.in-Some.is)
    ∙ text_copied c.get.result ∙ ap (λ found. option_map (λ meta. meta.text) found) c.get.ensures.value
    ∙ looked_up c.self.inside.metas.entries c.args.id.now ∙ ap (λ rows. meta_in rows c.args.id.now) c.self.view_is

pub returns-in-None : goal.returns-in-None
returns-in-None c =
    ap (option_map (λ (m : Bor Meta). m.now.text)) (sym c.in-None.is)
    ∙ text_copied c.get.result ∙ ap (λ found. option_map (λ meta. meta.text) found) c.get.ensures.value
    ∙ looked_up c.self.inside.metas.entries c.args.id.now ∙ ap (λ rows. meta_in rows c.args.id.now) c.self.view_is
