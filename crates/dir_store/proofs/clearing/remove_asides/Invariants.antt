use Rattle.std.specs.Prelude.{IsTrue}
use Rattle.whole_files.specs.Whole.{OnlyAside}
use Rattle.dir_store.proofs.clearing.remove_asides.Given as goal

abbrev pub invariant-loop-name : goal.invariant-loop-name
invariant-loop-name g l = IsTrue g.F.Folder.tells → OnlyAside l.folder (g.F.Folder.files l.fn.tree) (g.F.Folder.files l.tree)
