use Rattle.std.proofs.Common.{◌≡◌, ◌∙◌, ap, sym}
use Rattle.std.specs.FinMap.{entries}
use Rattle.manifest_file.specs.declared.manifest.Place.{Place}
use Rattle.zarr_tree.specs.Held.{Held}
use Rattle.zarr_changes.specs.Rows.{own_rows, overlay, rows_from}
use Rattle.zarr_changes.proofs.OwnLaws.{over-rows}
use Rattle.zarr_changes.proofs.Merging.{refilled}
use Rattle.zarr_changes.proofs.set.ChangeSet.over.Goals as goal

pub returns : goal.returns
returns g c =
    let held : Held Place = c.args.self.now in
    let added : rows_from c.next-next_added.result c.next-next_added.new.self ≡ entries held.added =
    refilled c.next-next_added.result c.rows-added.result c.next-next_added.new.self c.next-next_added.ensures.row
    ∙ c.rows-added.ensures ∙ ap (λ (h : Held Place). entries h.added) c.self.view_is in
    let own : rows_from c.next-next_own.result c.next-next_own.new.self ≡ own_rows held (g.B.TreeLike.nodes c.args.base.now) 0 =
    refilled c.next-next_own.result (own_rows held (g.B.TreeLike.nodes c.args.base.now) 0) c.next-next_own.new.self c.next-next_own.ensures.row in
    (λ i. entries (overlay (added i) (own i))) ∙ ap entries (sym (over-rows held (g.B.TreeLike.nodes c.args.base.now)))
