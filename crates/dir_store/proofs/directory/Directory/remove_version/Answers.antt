use Rattle.whole_files.specs.Places.{root_of}
use Rattle.dir_store.proofs.Noting.{noted-firm}
use Rattle.dir_store.proofs.directory.Directory.remove_version.Goals as goal

pub returns-clause-kept : goal.returns-clause-kept
returns-clause-kept g c = λ tells firm.
    noted-firm g.F.Folder.loose c.try_remove_version-removed.new.self.tree c.noted.new.self.tree c.noted.ensures.tree c.try_remove_version-removed.result
    (root_of c.args.self.now.places) c.try_remove_version-removed.new.self.settled c.noted.new.self.settled c.noted.ensures.settled (c.try_remove_version-removed.ensures.kept tells firm)
