use Rattle.std.proofs.Common.{◌≡◌, ◌∙◌, ℕ, Some, None, ap, get_or, rules}
use Rattle.std.specs.BTreeMap.{BTreeMap}
use Rattle.object_store.specs.declared.keys.Key.{Key}
use Rattle.object_store.specs.Machine.{part_of}
use Rattle.object_store.specs.Orders.{place_of}
use Rattle.mem_store.specs.Shelves.{shelf_at}
use Rattle.mem_store.proofs.Placing.{shelf-read, set-place, sorted-set}
use Rattle.mem_store.proofs.index.Index.leave.Goals as goal

pub returns : goal.returns
returns c =
    let at : c.place.result ≡ place_of (part_of c.args.key.now) = c.place.ensures.place ∙ ap place_of c.part.ensures in
    let shelf : BTreeMap Key ℕ = get_or c.args.self.now.shelves c.place.result c.index-self-place.result in
    let was : shelf_at c.args.self.now.shelves (part_of c.args.key.now) ≡ Some shelf = shelf-read c.args.self.now.shelves (part_of c.args.key.now) c.place.result c.index-self-place.result at (search rules) (search rules) in
    λ q. set-place c.args.self.now.shelves c.place.result c.args.key.now shelf _ None at was c.remove.ensures.updates.0 q

pub invariant_of-self : goal.invariant_of-self
invariant_of-self c =
    let at : c.place.result ≡ place_of (part_of c.args.key.now) = c.place.ensures.place ∙ ap place_of c.part.ensures in
    let shelf : BTreeMap Key ℕ = get_or c.args.self.now.shelves c.place.result c.index-self-place.result in
    let was : shelf_at c.args.self.now.shelves (part_of c.args.key.now) ≡ Some shelf = shelf-read c.args.self.now.shelves (part_of c.args.key.now) c.place.result c.index-self-place.result at (search rules) (search rules) in
    record { sorted = λ part q other. sorted-set c.args.self.now.shelves c.place.result c.args.key.now shelf _ c.args.self.now.sorted at was c.remove.ensures.updates.2 part q other }
