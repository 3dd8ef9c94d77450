use Rattle.whole_files.specs.Places.{root_of, asides_of}
use Rattle.dir_store.proofs.Noting.{noted-firm, noted-looser}
use Rattle.dir_store.proofs.directory.Directory.replace.Goals as goal

pub returns-clause-kept : goal.returns-clause-kept
returns-clause-kept g c = λ tells firm.
    noted-firm g.F.Folder.loose c.try_replace-replaced.new.self.tree c.noted.new.self.tree c.noted.ensures.tree c.try_replace-replaced.result
    (root_of c.args.self.now.places) c.try_replace-replaced.new.self.settled c.noted.new.self.settled c.noted.ensures.settled (c.try_replace-replaced.ensures.kept tells firm)

pub returns-clause-firm : goal.returns-clause-firm
returns-clause-firm g c = λ tells.
    noted-looser g.F.Folder.loose c.try_replace-replaced.new.self.tree c.noted.new.self.tree c.noted.ensures.tree c.try_replace-replaced.result
    (asides_of c.args.self.now.places) (g.F.Folder.loose c.args.self.now.tree) c.noted.result c.noted.ensures.told (c.try_replace-replaced.ensures.firm tells)
