use Rattle.std.proofs.Common.{◌∙◌, sym, ap, length}
use Rattle.std.specs.Prelude.{nat_le}
use Rattle.std.specs.FinMap.{len-entries}
use Rattle.zarr_tree.specs.Held.{Rows, nodes_over}
use Rattle.repo_objects.specs.Trees.{nodes_in}
use Rattle.rebase.proofs.Solved.{one-more}
use Rattle.rebase.proofs.solving.is_too_full.Goals as goal

pub returns : goal.returns
returns c =
    c.reaches.ensures ∙ ap (λ (rows : Rows). nat_le 65537 (length rows)) c.over.ensures
    ∙ ap (nat_le 65537) (sym (len-entries (nodes_over c.args.changes.now (nodes_in c.args.head.now.nodes)))) ∙ one-more _
