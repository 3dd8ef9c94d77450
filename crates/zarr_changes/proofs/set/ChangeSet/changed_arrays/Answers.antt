use Rattle.std.proofs.Common.{◌≡◌, ◌∙◌, [], sym, ap}
use Rattle.std.specs.List.{filter_map}
use Rattle.std.specs.FinMap.{FinMap}
use Rattle.manifest_file.specs.declared.manifest.Place.{Place}
use Rattle.zarr_path.specs.Paths.{path_cmp}
use Rattle.zarr_tree.specs.Nodes.{Node}
use Rattle.zarr_tree.specs.Held.{Held, written_rows}
use Rattle.zarr_changes.specs.Sets.{array_of_row}
use Rattle.zarr_changes.specs.inside.Touching.{with_entries}
use Rattle.zarr_changes.proofs.TouchLaws.{nothing_written}
use Rattle.zarr_changes.proofs.EntryKept.{ok_map}
use Rattle.zarr_changes.proofs.set.ChangeSet.changed_arrays.Goals as goal

pub returns-then-is_empty : goal.returns-then-is_empty
returns-then-is_empty g c =
    let held : Held Place = c.args.self.now in
    let nodes : FinMap path_cmp Node = g.B.TreeLike.nodes c.args.base.now in
    let none : written_rows held nodes ≡ [] = nothing_written held nodes (ap (λ (h : Held Place). h.chunks) (sym c.self.view_is) ∙ c.is_empty.ensures c.if-is_empty.true) in
    c.new.ensures ∙ ap (filter_map array_of_row) (sym none)

pub returns : goal.returns
returns g c =
    let held : Held Place = c.args.self.now in
    let nodes : FinMap path_cmp Node = g.B.TreeLike.nodes c.args.base.now in
    let rows : with_entries c.self.inside.entries c.over.result ≡ written_rows held nodes = λ i. with_entries (c.self.view_is i).chunks (c.over.ensures i) in
    ok_map c.arrays_with.result c.arrays_with.ensures (λ arrays is. is ∙ ap (filter_map array_of_row) rows)
