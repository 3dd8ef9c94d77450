use Rattle.std.proofs.Common.{take, map}
use Rattle.std.specs.Prelude.{IsTrue, string_bytes}
use Rattle.object_files.specs.inside.Finding.{IsOfPart, AllRight, AllFound}
use Rattle.object_files.proofs.listing.found_in.Given as goal

abbrev pub invariant-loop-name : goal.invariant-loop-name
invariant-loop-name g l = record {
  of_part : IsOfPart l.part l.found;
  right : IsTrue g.F.Folder.tells → AllRight (g.F.Folder.files l.tree) l.root l.found;
  all : IsTrue g.F.Folder.tells → AllFound (g.F.Folder.files l.tree) l.root l.part (map string_bytes (take l.name-index l.names)) l.found;
}
