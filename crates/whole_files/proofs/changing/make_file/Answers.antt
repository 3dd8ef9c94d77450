use Rattle.std.proofs.Common.{◌∙◌, subst, ℕ, List}
use Rattle.std.specs.Prelude.{Option}
use Rattle.folder.specs.Files.{StoredFile, IsNew}
use Rattle.whole_files.specs.Places.{asides_of}
use Rattle.whole_files.proofs.Left.{aside-left, place-left}
use Rattle.whole_files.proofs.changing.make_file.Goals as goal

pub returns-in_err-found-clause-left : goal.returns-in_err-found-clause-left
returns-in_err-found-clause-left g c = λ tells.
    let old : List ℕ → Option StoredFile = g.F.Folder.files c.args.tree.now in
    let made : List ℕ → Option StoredFile = g.F.Folder.files c.make_folders.new.tree in
    let written : List ℕ → Option StoredFile = g.F.Folder.files c.write_aside.new.tree in
    let bytes : List ℕ = g.F.Folder.written c.in_ok-draft.draft in
    place-left (asides_of c.args.places.now) c.args.path.now (g.F.Folder.aside c.in_ok-draft.draft) (IsNew c.args.bytes.now (old c.args.path.now)) (IsNew bytes (written c.args.path.now)) old written
    (c.in_ok-draft.ensures.aside tells) c.requires (λ p out. (c.write_aside.ensures.files tells).others p out ∙ c.make_folders.ensures.files tells p)
    (λ f came. subst (λ (b : List ℕ). IsNew b (old c.args.path.now) f) (c.in_ok-draft.ensures.written tells)
    (subst (λ (o : Option StoredFile). IsNew bytes o f) ((c.write_aside.ensures.files tells).others c.args.path.now c.requires ∙ c.make_folders.ensures.files tells c.args.path.now) came))
    (g.F.Folder.left c.args.tree.now) (g.F.Folder.left c.write_aside.new.tree) (g.F.Folder.left c.place_file.new.tree)
    (aside-left (asides_of c.args.places.now) old made (g.F.Folder.left c.args.tree.now) (g.F.Folder.left c.make_folders.new.tree) (g.F.Folder.left c.write_aside.new.tree) (c.make_folders.ensures.files tells) (c.make_folders.ensures.left tells) (c.write_aside.ensures.left tells))
    (c.place_file.ensures.left tells)
