use Rattle.std.proofs.Common.{sym, ap, ◌∙◌}
use Rattle.std.specs.Option.{option_copied}
use Rattle.zarr_changes.specs.Sets.{chunks_of}
use Rattle.zarr_changes.proofs.EntryKept.{rows_some, rows_none, ok_map}
use Rattle.zarr_changes.proofs.entries.Entries.rows.Goals as goal

pub returns-in-Some : goal.returns-in-Some
returns-in-Some c =
    ok_map c.rows_of.result c.rows_of.ensures (λ rows is.
    is ∙ sym (rows_some c.self.inside.arrays.entries c.args.node.now c.self.invariant c.in-Some.chunks.now (sym c.get.ensures.value ∙ ap option_copied c.in-Some.is))
    ∙ ap (λ rows. chunks_of rows c.args.node.now) c.self.view_is)

pub returns-in-None : goal.returns-in-None
returns-in-None c =
    c.new.ensures.items
    ∙ sym (rows_none c.self.inside.arrays.entries c.args.node.now c.self.invariant (sym c.get.ensures.value ∙ ap option_copied c.in-None.is))
    ∙ ap (λ rows. chunks_of rows c.args.node.now) c.self.view_is
