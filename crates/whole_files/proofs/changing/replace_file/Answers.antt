use Rattle.std.proofs.Common.{rules, ◌≡◌, subst, ℕ, List, Some}
use Rattle.std.specs.Prelude.{Option}
use Rattle.folder.specs.Files.{StoredFile, HasBytes}
use Rattle.whole_files.specs.Places.{asides_of}
use Rattle.whole_files.specs.Whole.{its_version}
use Rattle.whole_files.specs.Changes.{IsOver}
use Rattle.whole_files.proofs.Left.{place-left}
use Rattle.whole_files.proofs.changing.replace_file.Goals as goal

pub returns-in_err-move_over-clause-left : goal.returns-in_err-move_over-clause-left
returns-in_err-move_over-clause-left g c = λ tells.
    let old : List ℕ → Option StoredFile = g.F.Folder.files c.args.tree.now in
    let written : List ℕ → Option StoredFile = g.F.Folder.files c.write_aside.new.tree in
    let bytes : List ℕ = g.F.Folder.written c.in_ok-draft.draft in
    let stood : its_version c.args.putting (old c.args.path.now) ≡ Some c.args.old = search rules in
    place-left (asides_of c.args.places.now) c.args.path.now (g.F.Folder.aside c.in_ok-draft.draft) (IsOver c.args.putting c.args.bytes.now c.args.old (old c.args.path.now)) (HasBytes bytes) old written
    (c.in_ok-draft.ensures.aside tells) c.requires (λ p out. (c.write_aside.ensures.files tells).others p out)
    (λ f came. (stood, subst (λ (b : List ℕ). HasBytes b f) (c.in_ok-draft.ensures.written tells) came))
    (g.F.Folder.left c.args.tree.now) (g.F.Folder.left c.write_aside.new.tree) (g.F.Folder.left c.move_over.new.tree)
    (c.write_aside.ensures.left tells)
    (c.move_over.ensures.left tells)
