use Rattle.std.proofs.Common.{rules, of_calls}
use Rattle.std.proofs.lemmas.Fn.{always_returns_same}
use Rattle.snapshot_file.specs.Props.{name_cmp}
use Rattle.snapshot_file.proofs.PropPlaces.{placed}
use Rattle.snapshot_file.proofs.properties.place.Goals as goal

pub returns-clause-there : goal.returns-clause-there
returns-clause-there c =
    let facts = c.binary_search_by.ensures in
    rw c.err.ensures.value (placed _ _ _ c.requires facts.bound (facts.position (λ row. name_cmp row.0 c.args.name.now) (always_returns_same _ _ _ (λ a r f called. search (rules, of_calls))))).there

pub returns-clause-order : goal.returns-clause-order
returns-clause-order c =
    let facts = c.binary_search_by.ensures in
    rw c.err.ensures.value (placed _ _ _ c.requires facts.bound (facts.position (λ row. name_cmp row.0 c.args.name.now) (always_returns_same _ _ _ (λ a r f called. search (rules, of_calls))))).order
