use Rattle.std.proofs.Common.{◌≡◌, ◌∙◌, cond, Bool, true, not, List, ℕ, Some, None, is_some, sym, ap}
use Rattle.std.specs.Option.{option_copied}
use Rattle.std.specs.FinMap.{get}
use Rattle.ice_ids.specs.declared.Id8.{Id8}
use Rattle.zarr_tree.specs.Nodes.{Node}
use Rattle.zarr_tree.specs.Changes.{with_entry}
use Rattle.zarr_tree.specs.Held.{HeldEntry}
use Rattle.tree_model.specs.Models.{held_of, changes_of}
use Rattle.tree_model.proofs.OneMore.{told, is_copied, left_entries, entry_removed}
use Rattle.tree_model.proofs.changes.Changes.unset_entry.Goals as goal

pub returns-in-Some-clause-ok : goal.returns-in-Some-clause-ok
returns-in-Some-clause-ok c =
    let n : Node = c.in-Some.node.now in
    let found : get c.args.under.now c.args.path.now ≡ Some n = ap (get c.args.under.now) (sym c.as_str-2.ensures.value) ∙ sym c.find-2.ensures ∙ ap option_copied c.in-Some.is in
    let id : c.found.result.id ≡ n.id = ap (λ (m : Node). m.id) c.found.ensures in
    let added : is_some (get c.args.self.now.added c.args.path.now) ≡ true =
    ap (λ (p : List ℕ). is_some (get c.args.self.now.added p)) (sym c.as_str.ensures.value) ∙ ap is_some (sym c.find.ensures) ∙ is_copied c.find.result ∙ c.is_none.ensures ∙ ap not c.if-is_none.false in
    ap (λ (rows : List (HeldEntry (List ℕ))). told (record (held_of c.args.self.now) { chunks = rows }))
    (c.remove_chunk.ensures ∙ ap (λ (i : Id8). left_entries c.args.self.now.chunks.items i c.args.index.now) id)
    ∙ entry_removed (held_of c.args.self.now) n c.args.index.now
    ∙ ap (with_entry (changes_of c.args.self.now) c.args.index.now None) (sym found)
    ∙ ap (λ (b : Bool). with_entry (changes_of c.args.self.now) c.args.index.now (cond b None (Some None)) (get c.args.under.now c.args.path.now)) (sym added)
