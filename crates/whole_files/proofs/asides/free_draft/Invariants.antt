use Rattle.std.specs.Prelude.{IsTrue}
use Rattle.whole_files.specs.Places.{asides_of}
use Rattle.folder.specs.Files.{Leaves}
use Rattle.whole_files.specs.Whole.{OnlyAside, LooserAside, IsKeptAside}
use Rattle.whole_files.proofs.asides.free_draft.Given as goal

abbrev pub invariant-loop-number : goal.invariant-loop-number
invariant-loop-number g l = record {
  files : IsTrue g.F.Folder.tells → OnlyAside (asides_of l.places) (g.F.Folder.files l.fn.tree) (g.F.Folder.files l.tree);
  firm : IsTrue g.F.Folder.tells → LooserAside (asides_of l.places) (g.F.Folder.loose l.fn.tree) (g.F.Folder.loose l.tree);
  left : IsTrue g.F.Folder.tells → Leaves (IsKeptAside (asides_of l.places) (g.F.Folder.files l.fn.tree)) (g.F.Folder.left l.fn.tree) (g.F.Folder.left l.tree);
}
