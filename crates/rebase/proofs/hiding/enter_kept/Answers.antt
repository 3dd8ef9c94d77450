use Rattle.std.proofs.Common.{ap, sym, ◌∙◌, ◌||◌}
use Rattle.std.specs.Prelude.{◌&&◌}
use Rattle.ice_ids.specs.Text.{same_id8}
use Rattle.zarr_tree.specs.Touched.{lists}
use Rattle.zarr_changes.proofs.DropLaws.{lists-with}
use Rattle.rebase.proofs.Keeping.{and-true}
use Rattle.rebase.proofs.hiding.enter_kept.Goals as goal

pub returns-in_ok-insert : goal.returns-in_ok-insert
returns-in_ok-insert c = λ id.
    ap (λ ids. lists ids id) c.in_ok-insert.ensures.ok ∙ lists-with c.args.kept.now c.args.node.id id
    ∙ ap (λ b. lists c.args.kept.now id || b) (sym (and-true (same_id8 c.args.node.id id)) ∙ ap (λ b. same_id8 c.args.node.id id && b) (sym c.if-keeps_other.true ∙ c.keeps_other.ensures))
