use Rattle.std.proofs.Common.{◌++◌, refl, sym, subst, map, List, ℕ}
use Rattle.std.specs.Prelude.{codes, string_bytes}
use Rattle.std.proofs.lemmas.Option.{MatchOption-at_some, MatchOption-at_none}
use Rattle.folder.specs.Files.{TellsNames, HoldsNone}
use Rattle.object_store.specs.declared.events.Entry.{Entry}
use Rattle.object_files.specs.Contents.{ListsAll, object_at}
use Rattle.object_files.specs.Paths.{folder_name}
use Rattle.object_files.proofs.Listed.{listed-as, nothing_listed}
use Rattle.object_files.proofs.Found.{lists-all, nothing-lies, told-name, none-lies}
use Rattle.object_files.proofs.listing.list_files.Goals as goal

pub returns-in-Ok-clause-listed : goal.returns-in-Ok-clause-listed
returns-in-Ok-clause-listed g c = listed-as c.args.part c.in_ok-found.found c.in_ok-found.ensures.of c.in-Ok.entries c.in-Ok.ensures

pub returns-in-Ok-clause-all : goal.returns-in-Ok-clause-all
returns-in-Ok-clause-all g c = λ tells.
    let folder : List ℕ = c.args.root.now ++ codes "/" ++ folder_name c.args.part in
    let named : TellsNames (g.F.Folder.files c.args.tree.now) folder (map string_bytes c.in-Some.names.items) =
    MatchOption-at_some (HoldsNone (g.F.Folder.files c.args.tree.now) folder) (λ names. TellsNames (g.F.Folder.files c.args.tree.now) folder (map string_bytes names.items)) c.in-Some.names c.in-Some.is (c.in_ok-names.ensures tells) in
    let told : TellsNames (g.F.Folder.files c.args.tree.now) folder (map string_bytes c.as_slice.result.now) =
    subst (λ names. TellsNames (g.F.Folder.files c.args.tree.now) folder (map string_bytes names)) (sym c.as_slice.ensures.value) named in
    lists-all (g.F.Folder.files c.args.tree.now) c.args.root.now c.args.part c.in_ok-found.found c.in_ok-found.ensures.of (c.in_ok-found.ensures.right tells) c.in-Ok.entries c.in-Ok.ensures
    (listed-as c.args.part c.in_ok-found.found c.in_ok-found.ensures.of c.in-Ok.entries c.in-Ok.ensures)
    (λ key lies. c.in_ok-found.ensures.all tells key lies (told-name (g.F.Folder.files c.args.tree.now) c.args.root.now c.args.part folder (map string_bytes c.as_slice.result.now) refl told key lies))

pub returns-in_default-clause-all : goal.returns-in_default-clause-all
returns-in_default-clause-all g c = λ tells.
    let folder : List ℕ = c.args.root.now ++ codes "/" ++ folder_name c.args.part in
    let none : HoldsNone (g.F.Folder.files c.args.tree.now) folder =
    MatchOption-at_none (HoldsNone (g.F.Folder.files c.args.tree.now) folder) (λ names. TellsNames (g.F.Folder.files c.args.tree.now) folder (map string_bytes names.items)) c.in_default.is (c.in_ok-names.ensures tells) in
    subst (λ (entries : List Entry). ListsAll (object_at (g.F.Folder.files c.args.tree.now) c.args.root.now) c.args.part entries) (sym c.new.ensures)
    (nothing-lies (g.F.Folder.files c.args.tree.now) c.args.root.now c.args.part (nothing_listed c.args.part) (none-lies (g.F.Folder.files c.args.tree.now) c.args.root.now c.args.part folder refl none))
