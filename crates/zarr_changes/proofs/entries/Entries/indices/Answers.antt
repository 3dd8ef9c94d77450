use Rattle.std.proofs.Common.{sym, ap, ◌∙◌}
use Rattle.std.specs.Option.{option_copied}
use Rattle.zarr_tree.specs.Held.{indices_of, indices_in_order}
use Rattle.zarr_changes.proofs.EntryKept.{indices_some, indices_none, ok_map}
use Rattle.zarr_changes.proofs.entries.Entries.indices.Goals as goal

pub returns-in-Some : goal.returns-in-Some
returns-in-Some c =
    ok_map c.indices_in.result c.indices_in.ensures.value (λ rows is.
    is ∙ indices_some c.self.inside.arrays.entries c.args.node.now c.in-Some.chunks.now c.self.invariant (sym c.get.ensures.value ∙ ap option_copied c.in-Some.is) c.indices_in.ensures.order
    ∙ ap (λ rows. indices_in_order (indices_of rows c.args.node.now)) c.self.view_is)

pub returns-in-None : goal.returns-in-None
returns-in-None c =
    c.new.ensures
    ∙ indices_none c.self.inside.arrays.entries c.args.node.now c.self.invariant (sym c.get.ensures.value ∙ ap option_copied c.in-None.is)
    ∙ ap (λ rows. indices_in_order (indices_of rows c.args.node.now)) c.self.view_is
