use Rattle.std.proofs.Common.{◌≡◌, Bool, not, refl, sym, ap, ◌∙◌}
use Rattle.std.specs.String.{string_cmp}
use Rattle.std.specs.BTreeMap.{get}
use Rattle.std.proofs.lemmas.Result.{IfOk-weaker}
use Rattle.zarr_tree.proofs.RowLaws.{T-true}
use Rattle.zarr_tree.proofs.KeptLaws.{there_by, kept_or_new, entered_if_new}
use Rattle.zarr_changes.proofs.added.Added.enter_new.Goals as goal

pub invariant_of-self : goal.invariant_of-self
invariant_of-self c =
    kept_or_new c.self.inside.nodes.entries c.enter_new.new.nodes.entries c.args.text c.args.node c.enter_new.result
    c.enter_new.ensures.entries c.enter_new.ensures.err (T-true _ c.requires) c.self.invariant.0 c.self.invariant.1

pub returns-clause-free : goal.returns-clause-free
returns-clause-free c =
    IfOk-weaker c.enter_new.result _ _ (λ (free : Bool) is. is ∙ ap not (sym (there_by c.self.inside.nodes.entries c.args.text c.args.self.now (get string_cmp c.self.inside.nodes c.args.text) c.self.view_is refl))) c.enter_new.ensures.free

pub returns-clause-entered : goal.returns-clause-entered
returns-clause-entered c =
    entered_if_new c.self.inside.nodes.entries c.enter_new.new.nodes.entries c.args.text c.args.node c.args.self.now c.enter_new.result c.self.invariant.0 c.self.view_is c.enter_new.ensures.entries
