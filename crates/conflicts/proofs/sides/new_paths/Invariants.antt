use Rattle.std.proofs.Common.{◌≡◌, ◌++◌, drop, map}
use Rattle.std.specs.List.{filter}
use Rattle.std.specs.FinMap.{entries}
use Rattle.zarr_tree.specs.Touched.{lists_new}
use Rattle.conflicts.specs.Found.{new_rows}
use Rattle.conflicts.proofs.sides.new_paths.Given as goal

abbrev pub invariant-loop-at : goal.invariant-loop-at
invariant-loop-at g l =
    map (λ text. text.now) l.news.items ++ map (λ row. row.0) (filter (λ row. lists_new l.theirs row.1.id) (drop l.at (entries (g.U.TreeLike.nodes l.after))))
    ≡ map (λ row. row.0) (new_rows l.theirs (g.U.TreeLike.nodes l.after))
