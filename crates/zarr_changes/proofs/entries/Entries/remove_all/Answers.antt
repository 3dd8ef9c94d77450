use Rattle.std.proofs.Common.{◌≡◌, ◌∙◌, not, refl, ap, rules}
use Rattle.std.specs.List.{filter}
use Rattle.std.proofs.lemmas.Map.Entries.{filter_from_retain_pairs}
use Rattle.ice_ids.specs.declared.Id8.{Id8}
use Rattle.manifest_file.specs.declared.manifest.Place.{Place}
use Rattle.zarr_tree.specs.Touched.{lists}
use Rattle.zarr_tree.specs.Held.{HeldEntry}
use Rattle.zarr_changes.proofs.EntryKept.{Chunks, all_of, left-entries}
use Rattle.zarr_changes.proofs.entries.Entries.remove_all.Goals as goal

pub returns : goal.returns
returns c =
    let kept : c.retain.new.self.entries ≡ filter (λ (e : Id8 × Chunks). not (lists c.args.ids.now e.0)) c.self.inside.arrays.entries =
    filter_from_retain_pairs _ (λ f. f.0.now ≡ c.args.ids.now) (λ (e : Id8 × Chunks). not (lists c.args.ids.now e.0)) (λ g k v b w g' i t. (search rules, search rules, search rules)) _ c.self.inside.arrays.entries c.retain.new.self.entries refl c.retain.ensures.filtered in
    ap all_of kept ∙ left-entries (λ id. not (lists c.args.ids.now id)) c.self.inside.arrays.entries ∙ ap (filter (λ (row : HeldEntry Place). not (lists c.args.ids.now row.0))) c.self.view_is
