use Rattle.std.proofs.Common.{List, map, sym, subst}
use Rattle.std.specs.Prelude.{None}
use Rattle.flat_tables.specs.Rows.{Ascends}
use Rattle.changed_snapshot.specs.declared.new_snapshot.NewList.{NewList as TheList}
use Rattle.zarr_changes.specs.declared.chunks.ChangedArray.{ChangedArray as TheArray}
use Rattle.commit_path.proofs.Ascending.{ascends-first}
use Rattle.commit_path.proofs.arrays.Arrays.news.Goals as goal

pub returns-clause-order : goal.returns-clause-order
returns-clause-order c =
    subst (λ (x : List TheList). Ascends (λ (l : TheList). l.path) None x) (sym c.as_slice.ensures) (ascends-first (λ (l : TheList). l.path) None c.self.inside.news (map (λ (a : TheArray). a.path) c.self.inside.left.items) c.self.invariant)
