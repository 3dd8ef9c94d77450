use Rattle.std.proofs.Common.{ap, sym, ◌∙◌}
use Rattle.zarr_changes.specs.Sets.{has_chunks}
use Rattle.zarr_changes.proofs.EntryKept.{all_of, pruned}
use Rattle.zarr_changes.proofs.entries.Entries.prune.Goals as goal

pub returns-then-not-has : goal.returns-then-not-has
returns-then-not-has c =
    ap all_of c.leave_array.ensures.left
    ∙ pruned c.self.inside.arrays.entries c.args.node.now c.self.invariant (ap (λ rows. has_chunks rows c.args.node.now) c.self.view_is ∙ sym c.has.ensures ∙ c.if-not-has.true)
    ∙ c.self.view_is
