use Rattle.std.proofs.Common.{IsTrue, All, ℕ, List, Option}
use Rattle.manifest_file.specs.declared.manifest.Place.{Place}
use Rattle.manifest_index.specs.Extents.{are_low}
use Rattle.base_tests.proofs.manifests.change.Given as goal

abbrev pub invariant-loop-number : goal.invariant-loop-number
invariant-loop-number l = All (λ (c : List ℕ × Option Place). IsTrue (are_low c.0)) l.change.items
