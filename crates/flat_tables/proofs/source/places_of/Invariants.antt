use Rattle.std.proofs.Common.{◌≡◌, ℕ, ◌+◌, ◌^◌, ◌++◌, ◌≤◌, ◌<◌, length, drop, All}
use Rattle.flat_tables.specs.Layout.{blocks}
use Rattle.flat_tables.specs.Frames.{places}
use Rattle.flat_tables.specs.Trees.{capped}
use Rattle.flat_tables.proofs.source.places_of.Given as goal

abbrev pub invariant-loop-at : goal.invariant-loop-at
invariant-loop-at g l = record {
  so_far : l.end ≤ 268435417 → l.each.items ++ places (drop l.at (g.S.TableSource.layouts l.tables)) l.end ≡ places (g.S.TableSource.layouts l.tables) l.from;
  ends : capped (l.end + length (blocks (drop l.at (g.S.TableSource.layouts l.tables)) l.end)) ≡ capped (l.from + length (blocks (g.S.TableSource.layouts l.tables) l.from));
  small : l.end < 2 ^ 64;
  behind : l.from ≤ l.end;
  within : All (λ place. (l.from ≤ place) × (place ≤ l.end)) l.each.items;
  told : (at : ℕ) → at < l.at → g.S.TableSource.tells l.tables at;
}
