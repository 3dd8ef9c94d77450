use Rattle.std.proofs.Common.{sym, ap, ◌∙◌}
use Rattle.std.specs.Option.{option_copied}
use Rattle.zarr_changes.specs.Sets.{has_chunks}
use Rattle.zarr_changes.proofs.EntryKept.{has_some, has_none}
use Rattle.zarr_changes.proofs.entries.Entries.has.Goals as goal

pub returns-in-Some : goal.returns-in-Some
returns-in-Some c =
    has_some c.self.inside.arrays.entries c.args.node.now c.in-Some.chunks.now c.is_empty.result c.self.invariant (sym c.get.ensures.value ∙ ap option_copied c.in-Some.is) c.is_empty.ensures
    ∙ ap (λ rows. has_chunks rows c.args.node.now) c.self.view_is

pub returns-in-None : goal.returns-in-None
returns-in-None c =
    has_none c.self.inside.arrays.entries c.args.node.now c.self.invariant (sym c.get.ensures.value ∙ ap option_copied c.in-None.is)
    ∙ ap (λ rows. has_chunks rows c.args.node.now) c.self.view_is
