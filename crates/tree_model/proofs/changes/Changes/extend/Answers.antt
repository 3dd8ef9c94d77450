use Rattle.std.proofs.Common.{◌∙◌, sym}
use Rattle.tree_model.specs.Models.{tree_of, edit_of, changes_of}
use Rattle.tree_model.proofs.Taking.{extends_edit}
use Rattle.tree_model.proofs.changes.Changes.extend.Goals as goal

pub returns : goal.returns
returns c =
    extends_edit (changes_of c.args.self.now) (changes_of c.enter.new.self) (tree_of c.args.tree.now) c.in_ok-under.under (edit_of c.args.edit.now) c.in_ok-under.ensures
    (sym c.refusal.ensures ∙ c.in-None.is) c.in_ok-enter-in-None.ensures.ok
