use Rattle.std.proofs.Common.{◌∙◌, ap}
use Rattle.repo_objects.specs.Trees.{nodes_in}
use Rattle.rebase.specs.inside.Working.{first_unlisted}
use Rattle.rebase.proofs.Keeping.{finds-hidden}
use Rattle.rebase.proofs.hiding.first_hidden.Goals as goal

pub returns : goal.returns
returns c = c.first_unlisted.ensures ∙ ap (λ ids. first_unlisted ids c.in_ok-kept.kept) c.as_slice.ensures ∙ finds-hidden (nodes_in c.args.tree.now.nodes) c.args.held.now.metas c.in_ok-kept.kept c.in_ok-ids.ids c.in_ok-ids.ensures.ids c.in_ok-ids.ensures.order c.in_ok-kept.ensures
