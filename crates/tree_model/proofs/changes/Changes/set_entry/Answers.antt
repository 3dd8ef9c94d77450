use Rattle.std.proofs.Common.{◌≡◌, ◌∙◌, ◌∷◌, ℕ, List, Some, sym, ap}
use Rattle.std.specs.Option.{option_copied}
use Rattle.std.specs.FinMap.{get}
use Rattle.zarr_tree.specs.Nodes.{Node}
use Rattle.zarr_tree.specs.Changes.{with_entry}
use Rattle.zarr_tree.specs.Held.{HeldEntry}
use Rattle.tree_model.specs.Models.{held_of, changes_of}
use Rattle.tree_model.proofs.OneMore.{told, entry_entered}
use Rattle.tree_model.proofs.changes.Changes.set_entry.Goals as goal

pub returns-clause-ok : goal.returns-clause-ok
returns-clause-ok c =
    let n : Node = c.in-Some.node.now in
    let found : get c.args.under.now c.args.path.now ≡ Some n = ap (get c.args.under.now) (sym c.as_str.ensures.value) ∙ sym c.find.ensures ∙ ap option_copied c.in-Some.is in
    let id : c.found.result.id ≡ n.id = ap (λ (m : Node). m.id) c.found.ensures in
    ap (λ (rows : List (HeldEntry (List ℕ))). told (record (held_of c.args.self.now) { chunks = rows }))
    (c.in_ok-put_first.ensures.ok ∙ (λ i. (id i, c.in_ok-index.ensures i, c.args.entry) ∷ c.args.self.now.chunks.items))
    ∙ entry_entered (held_of c.args.self.now) n c.args.index.now c.args.entry
    ∙ ap (with_entry (changes_of c.args.self.now) c.args.index.now (Some c.args.entry)) (sym found)
