use Rattle.std.proofs.Common.{subst}
use Rattle.std.specs.Prelude.{string_bytes}
use Rattle.whole_files.specs.Places.{root_of}
use Rattle.object_files.specs.Listings.{IsFaultIn}
use Rattle.dir_store.proofs.FaultPaths.{listed, path-told}
use Rattle.dir_store.proofs.directory.Directory.list.Goals as goal

pub returns-in-Err-clause-first : goal.returns-in-Err-clause-first
returns-in-Err-clause-first g c =
    let object = subst (λ root. IsFaultIn root c.args.part c.in-Err.field-0) c.root.ensures c.in-Err.ensures.told in
    listed (root_of c.args.self.now.places) c.args.part (string_bytes c.unwrap_or.result) c.noted.result c.args.self.now.first_fault c.noted.new.self.first_fault
    (path-told (root_of c.args.self.now.places) c.args.part c.in-Err.field-0.path c.in_ok-folder.folder c.unwrap_or.result c.unwrap_or.ensures c.in_ok-folder.ensures object) c.noted.ensures.first
