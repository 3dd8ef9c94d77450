use Rattle.std.proofs.Common.{◌≡◌, ◌<◌, ◌∙◌, ap, sym, length, arith}
use Rattle.std.specs.Prelude.{nat_le}
use Rattle.std.specs.FinMap.{len, len-entries}
use Rattle.std.proofs.lemmas.Bool.Decides.{nat_tests}
use Rattle.manifest_file.specs.declared.manifest.Place.{Place}
use Rattle.zarr_tree.specs.Held.{Held, nodes_over}
use Rattle.zarr_changes.proofs.OwnLaws.{len-over}
use Rattle.zarr_changes.proofs.set.ChangeSet.is_full.Goals as goal

pub returns-then-saturating_add-lt-MOST_NODES : goal.returns-then-saturating_add-lt-MOST_NODES
returns-then-saturating_add-lt-MOST_NODES g c =
    let held : Held Place = c.args.self.now in
    let most = len-over held (g.B.TreeLike.nodes c.args.base.now) in
    let same : len c.self.inside.added ≡ len held.added = ap (λ (h : Held Place). len h.added) c.self.view_is in
    let below : len (nodes_over held (g.B.TreeLike.nodes c.args.base.now)) < 65536 = grind (arith, most, same) in
    grind (arith, nat_tests, below)

pub returns : goal.returns
returns g c = c.reaches.ensures ∙ ap (nat_le 65536) (ap length c.over.ensures ∙ sym (len-entries (nodes_over c.args.self.now (g.B.TreeLike.nodes c.args.base.now))))
