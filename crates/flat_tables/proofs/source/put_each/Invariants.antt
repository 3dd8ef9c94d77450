use Rattle.std.proofs.Common.{◌≡◌, ◌+◌, ◌++◌, ◌≤◌, length, drop}
use Rattle.flat_tables.specs.Layout.{blocks}
use Rattle.flat_tables.proofs.source.put_each.Given as goal

abbrev pub invariant-loop-at : goal.invariant-loop-at
invariant-loop-at g l = record {
  bytes : l.out.items ++ blocks (drop l.at (g.S.TableSource.layouts l.tables)) (length l.out.items) ≡ l.fn.out.items ++ blocks (g.S.TableSource.layouts l.tables) (length l.fn.out.items);
  fits : length l.out.items + length (blocks (drop l.at (g.S.TableSource.layouts l.tables)) (length l.out.items)) ≤ 268435417;
}
