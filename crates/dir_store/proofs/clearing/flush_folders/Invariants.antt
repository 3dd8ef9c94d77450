use Rattle.std.proofs.Common.{take, map}
use Rattle.std.specs.Prelude.{IsTrue, string_bytes}
use Rattle.folder.specs.Files.{NoLooser, Leaves, IsKept}
use Rattle.whole_files.specs.Whole.{SameFiles}
use Rattle.dir_store.specs.inside.Flushing.{FirmsNamed}
use Rattle.dir_store.proofs.clearing.flush_folders.Given as goal

abbrev pub invariant-loop-name : goal.invariant-loop-name
invariant-loop-name g l = record {
  files : IsTrue g.F.Folder.tells → SameFiles (g.F.Folder.files l.fn.tree) (g.F.Folder.files l.tree);
  loose : IsTrue g.F.Folder.tells → NoLooser (g.F.Folder.loose l.fn.tree) (g.F.Folder.loose l.tree);
  left : IsTrue g.F.Folder.tells → Leaves (IsKept (g.F.Folder.files l.fn.tree)) (g.F.Folder.left l.fn.tree) (g.F.Folder.left l.tree);
  firm : IsTrue g.F.Folder.tells → FirmsNamed l.folder (map string_bytes (take l.name-index l.name-items)) (g.F.Folder.loose l.fn.tree) (g.F.Folder.loose l.tree);
}
