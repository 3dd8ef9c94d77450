use Rattle.histories.proofs.Tagging.{never-moves, tags-law}
use Rattle.histories.proofs.TagTrees.{keeps-its-tree}
use Rattle.histories.proofs.tags_law.Goals as goal

pub returns-clause-states : goal.returns-clause-states
returns-clause-states c = tags-law

pub returns-clause-moves : goal.returns-clause-moves
returns-clause-moves c = never-moves

pub returns-clause-trees : goal.returns-clause-trees
returns-clause-trees c = keeps-its-tree
