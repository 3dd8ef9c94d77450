use Rattle.std.proofs.Common.{◌≡◌, ◌∙◌, ℕ, List, not, refl, ap, rules}
use Rattle.std.specs.List.{filter}
use Rattle.ice_ids.specs.declared.Id8.{Id8}
use Rattle.zarr_meta.specs.declared.metas.Meta.{Meta}
use Rattle.zarr_tree.specs.Touched.{lists}
use Rattle.std.proofs.lemmas.Map.Entries.{filter_from_retain_pairs}
use Rattle.zarr_changes.specs.inside.Kept.{text_rows}
use Rattle.zarr_changes.proofs.IdLaws.{texts-filter}
use Rattle.zarr_changes.proofs.texts.Texts.remove_all.Goals as goal

pub returns : goal.returns
returns c =
    let kept : c.retain.new.self.entries ≡ filter (λ (e : Id8 × Meta). not (lists c.args.ids.now e.0)) c.self.inside.metas.entries =
    filter_from_retain_pairs _ (λ f. f.0.now ≡ c.args.ids.now) (λ (e : Id8 × Meta). not (lists c.args.ids.now e.0)) (λ g k v b w g' i t. (search rules, search rules, search rules)) _ c.self.inside.metas.entries c.retain.new.self.entries refl c.retain.ensures.filtered in
    ap text_rows kept ∙ texts-filter (λ id. not (lists c.args.ids.now id)) c.self.inside.metas.entries ∙ ap (filter (λ (row : Id8 × List ℕ). not (lists c.args.ids.now row.0))) c.self.view_is
