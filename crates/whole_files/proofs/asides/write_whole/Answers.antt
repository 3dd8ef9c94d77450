use Rattle.std.proofs.Common.{◌∙◌}
use Rattle.folder.specs.Files.{IsKeptBut}
use Rattle.whole_files.proofs.Left.{then}
use Rattle.whole_files.proofs.asides.write_whole.Goals as goal

pub returns-clause-left : goal.returns-clause-left
returns-clause-left g c = λ tells.
    then (IsKeptBut (g.F.Folder.aside c.args.draft.now) (g.F.Folder.files c.args.tree.now)) (IsKeptBut (g.F.Folder.aside c.write.new.draft) (g.F.Folder.files c.write.new.self)) (IsKeptBut (g.F.Folder.aside c.args.draft.now) (g.F.Folder.files c.args.tree.now))
    (g.F.Folder.left c.args.tree.now) (g.F.Folder.left c.write.new.self) (g.F.Folder.left c.flush.new.self)
    (λ p f is. is) (λ p f is apart. is (λ same. apart (same ∙ c.write.ensures.aside tells)) ∙ c.write.ensures.files tells p apart)
    (c.write.ensures.left tells) (c.flush.ensures.left tells)
