use Rattle.std.proofs.Common.{◌≡◌, ◌∙◌, ℕ, Some, ap, get_or, rules}
use Rattle.std.specs.BTreeMap.{BTreeMap}
use Rattle.object_store.specs.declared.keys.Key.{Key}
use Rattle.object_store.specs.Machine.{part_of}
use Rattle.object_store.specs.Orders.{place_of}
use Rattle.mem_store.specs.Shelves.{shelf_at}
use Rattle.mem_store.proofs.Placing.{shelf-read, set-place, sorted-set, others-kept}
use Rattle.mem_store.proofs.index.Index.enter.Goals as goal

pub returns-clause-ok : goal.returns-clause-ok
returns-clause-ok c =
    let at : c.place.result ≡ place_of (part_of c.args.key) = c.place.ensures.place ∙ ap place_of c.part.ensures in
    let shelf : BTreeMap Key ℕ = get_or c.args.self.now.shelves c.place.result c.index-self-place.result in
    let was : shelf_at c.args.self.now.shelves (part_of c.args.key) ≡ Some shelf = shelf-read c.args.self.now.shelves (part_of c.args.key) c.place.result c.index-self-place.result at (search rules) (search rules) in
    λ q. set-place c.args.self.now.shelves c.place.result c.args.key shelf _ (Some c.args.place) at was c.in_ok-insert.ensures.updates.0 q

pub invariant_of-self : goal.invariant_of-self
invariant_of-self c =
    let at : c.place.result ≡ place_of (part_of c.args.key) = c.place.ensures.place ∙ ap place_of c.part.ensures in
    let shelf : BTreeMap Key ℕ = get_or c.args.self.now.shelves c.place.result c.index-self-place.result in
    let was : shelf_at c.args.self.now.shelves (part_of c.args.key) ≡ Some shelf = shelf-read c.args.self.now.shelves (part_of c.args.key) c.place.result c.index-self-place.result at (search rules) (search rules) in
    record { sorted = λ part q other. sorted-set c.args.self.now.shelves c.place.result c.args.key shelf _ c.args.self.now.sorted at was (others-kept c.insert.result c.args.key shelf c.insert.new.self c.args.place c.insert.ensures.updates c.insert.ensures.err) part q other }
