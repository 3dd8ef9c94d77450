use Rattle.std.proofs.Common.{◌∙◌, ap}
use Rattle.whole_files.specs.Places.{root_of, asides_of}
use Rattle.dir_store.specs.Firm.{AreFirmIf}
use Rattle.dir_store.proofs.Noting.{put-kept, unless-failed}
use Rattle.dir_store.proofs.directory.Directory.try_replace.Goals as goal

pub returns-in_err-settle-clause-kept : goal.returns-in_err-settle-clause-kept
returns-in_err-settle-clause-kept g c = λ tells firm.
    unless-failed c.from_residual.result (AreFirmIf c.settle.new.self.settled (g.F.Folder.loose c.settle.new.self.tree) (root_of c.args.self.now.places)) (c.settle.ensures.kept tells firm)

pub returns-clause-kept : goal.returns-clause-kept
returns-clause-kept g c = λ tells firm.
    put-kept c.replace_file.result (root_of c.args.self.now.places) (asides_of c.settle.new.self.places) c.settle.new.self.settled (g.F.Folder.loose c.settle.new.self.tree) (g.F.Folder.loose c.replace_file.new.tree)
    (ap asides_of c.settle.ensures.places ∙ c.args.self.now.asides) (c.settle.ensures.kept tells firm) (c.replace_file.ensures.firm tells)
