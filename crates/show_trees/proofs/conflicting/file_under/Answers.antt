use Rattle.std.proofs.Common.{◌≡◌, ◌∙◌, sym, ap, length, false, arith}
use Rattle.std.specs.Prelude.{nat_le}
use Rattle.std.specs.FinMap.{len, len-entries}
use Rattle.std.proofs.lemmas.Bool.Decides.{nat_tests}
use Rattle.zarr_tree.specs.Held.{Rows, nodes_over}
use Rattle.repo_objects.specs.Trees.{nodes_in}
use Rattle.show_trees.proofs.conflicting.file_under.Goals as goal

pub write_over-requires-clause-few : goal.write_over-requires-clause-few
write_over-requires-clause-few c =
    let below : nat_le 65537 (len (nodes_over c.args.set.now (nodes_in c.args.base.now.nodes))) ≡ false =
    ap (nat_le 65537) (len-entries (nodes_over c.args.set.now (nodes_in c.args.base.now.nodes)))
    ∙ sym (ap (λ (rows : Rows). nat_le 65537 (length rows)) c.over.ensures) ∙ sym c.reaches.ensures ∙ c.if-reaches.false in
    grind (arith, nat_tests, below)
