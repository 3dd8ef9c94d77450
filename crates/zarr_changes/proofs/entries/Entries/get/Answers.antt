use Rattle.std.proofs.Common.{Some, sym, ap, ◌∙◌}
use Rattle.std.specs.Option.{option_copied}
use Rattle.std.specs.Option.{option_map}
use Rattle.zarr_tree.specs.Held.{entry_in}
use Rattle.zarr_changes.proofs.EntryKept.{entry_none, entry_some}
use Rattle.zarr_changes.proofs.entries.Entries.get.Goals as goal

pub returns-in_err-get : goal.returns-in_err-get
returns-in_err-get c =
    ap (option_map option_copied) c.from_residual.ensures
    ∙ sym (entry_none c.self.inside.arrays.entries c.args.node.now c.self.invariant c.args.index.now (sym c.get.ensures.value ∙ ap option_copied c.in_err-get.was))
    ∙ ap (λ rows. entry_in rows c.args.node.now c.args.index.now) c.self.view_is

pub returns-in_err-entry : goal.returns-in_err-entry
returns-in_err-entry c =
    ap (option_map option_copied) c.from_residual-in_err-entry.ensures
    ∙ sym (sym c.get-2.ensures.value ∙ ap option_copied c.in_err-entry.was)
    ∙ sym (entry_some c.self.inside.arrays.entries c.args.node.now c.self.invariant c.args.index.now c.in_ok-get.field-0.now (sym c.get.ensures.value ∙ ap option_copied c.in_ok-get.was))
    ∙ ap (λ rows. entry_in rows c.args.node.now c.args.index.now) c.self.view_is

pub returns : goal.returns
returns c =
    ap Some c.as_ref.ensures.value
    ∙ sym (sym c.get-2.ensures.value ∙ ap option_copied c.in_ok-entry.was)
    ∙ sym (entry_some c.self.inside.arrays.entries c.args.node.now c.self.invariant c.args.index.now c.in_ok-get.field-0.now (sym c.get.ensures.value ∙ ap option_copied c.in_ok-get.was))
    ∙ ap (λ rows. entry_in rows c.args.node.now c.args.index.now) c.self.view_is
