use Rattle.std.proofs.Common.{◌∙◌, refl, sym}
use Rattle.tree_model.specs.Models.{tree_of, edit_of}
use Rattle.tree_model.proofs.Taking.{takes_refusal}
use Rattle.tree_model.proofs.trees.Tree.change.Goals as goal

pub returns-in-Some : goal.returns-in-Some
returns-in-Some c = takes_refusal (tree_of c.args.self.now) (tree_of c.args.self.now) (edit_of c.args.edit.now) c.in-Some.fault (sym c.refusal.ensures ∙ c.in-Some.is) refl
