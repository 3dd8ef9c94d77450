use Rattle.std.proofs.Common.{rules, ◌≡◌, Ok, Err, sym, subst}
use Rattle.std.specs.Prelude.{string_bytes}
use Rattle.whole_files.specs.Places.{asides_of}
use Rattle.object_store.specs.declared.events.New.{New}
use Rattle.object_store.specs.declared.events.StoreFault.{StoreFault}
use Rattle.object_store.specs.declared.events.Op.TheVariants.{PutNew}
use Rattle.object_store.specs.declared.events.Reply.TheVariants.{New as Is}
use Rattle.dir_store.specs.declared.directory.Directory.{Directory}
use Rattle.dir_store.specs.Store.{root_of, disk_of, time_of_new}
use Rattle.folder.specs.Files.{Leaves}
use Rattle.dir_store.specs.Contents.{Answers, IsLeftBy}
use Rattle.dir_store.proofs.Answering.{answers-new, answers-new-not}
use Rattle.dir_store.proofs.Leaving.{new-left}
use Rattle.dir_store.proofs.store.FolderStoreObjectStore.put_new.Goals as goal

pub returns-in_err-found-clause-machine : goal.returns-in_err-found-clause-machine
returns-in_err-found-clause-machine g c = λ tells.
    let fault : StoreFault = c.in_err-found.field-0.0 in
    let told : c.make-made.result ≡ Err fault = search rules in
    let result : c.from_residual-in_err-found.result ≡ Err fault = search rules in
    subst (λ (d : Directory g.row.F.Denot). Answers (λ (a : New). Is a) time_of_new (root_of c.args.self.now) c.args.key.now (PutNew c.args.key.now c.args.bytes.now c.args.why) c.from_residual-in_err-found.result (g.F.Folder.files (disk_of c.args.self.now)) (g.F.Folder.files d.tree)) (sym c.counted.ensures.directory)
    (answers-new-not (root_of c.args.self.now) (asides_of c.args.self.now.directory.places) (string_bytes c.in_ok-path.path) c.args.key.now c.args.bytes.now c.args.why (g.F.Folder.files c.args.self.now.directory.tree) (g.F.Folder.files c.make-made.new.self.tree)
    c.args.self.now.directory.asides c.in_ok-path.ensures.path (c.make-made.ensures.files tells) c.make-made.result fault c.from_residual-in_err-found.result (c.make-made.ensures.made tells) told result)

pub returns-clause-machine : goal.returns-clause-machine
returns-clause-machine g c = λ tells.
    let told : c.make-made.result ≡ Ok c.in_ok-found.found = search rules in
    subst (λ (d : Directory g.row.F.Denot). Answers (λ (a : New). Is a) time_of_new (root_of c.args.self.now) c.args.key.now (PutNew c.args.key.now c.args.bytes.now c.args.why) (Ok c.new.result) (g.F.Folder.files (disk_of c.args.self.now)) (g.F.Folder.files d.tree)) (sym c.counted.ensures.directory)
    (answers-new (root_of c.args.self.now) (asides_of c.args.self.now.directory.places) (string_bytes c.in_ok-path.path) c.args.key.now c.args.bytes.now c.args.why (g.F.Folder.files c.args.self.now.directory.tree) (g.F.Folder.files c.make-made.new.self.tree)
    c.args.self.now.directory.asides c.in_ok-path.ensures.path (c.make-made.ensures.files tells) c.make-made.result c.in_ok-found.found c.now-now.result c.new.result (c.make-made.ensures.made tells) told c.new.ensures)

pub returns-in_err-found-clause-left : goal.returns-in_err-found-clause-left
returns-in_err-found-clause-left g c = λ tells.
    subst (λ (d : Directory g.row.F.Denot). Leaves (IsLeftBy (root_of c.args.self.now) c.args.key.now (PutNew c.args.key.now c.args.bytes.now c.args.why) (g.F.Folder.files (disk_of c.args.self.now))) (g.F.Folder.left (disk_of c.args.self.now)) (g.F.Folder.left d.tree)) (sym c.counted.ensures.directory)
    (new-left (root_of c.args.self.now) (asides_of c.args.self.now.directory.places) (string_bytes c.in_ok-path.path) c.args.key.now (g.F.Folder.files c.args.self.now.directory.tree)
    c.args.self.now.directory.asides c.in_ok-path.ensures.path c.args.bytes.now c.args.why (g.F.Folder.left c.args.self.now.directory.tree) (g.F.Folder.left c.make-made.new.self.tree) (c.make-made.ensures.left tells))

pub returns-clause-left : goal.returns-clause-left
returns-clause-left g c = λ tells.
    subst (λ (d : Directory g.row.F.Denot). Leaves (IsLeftBy (root_of c.args.self.now) c.args.key.now (PutNew c.args.key.now c.args.bytes.now c.args.why) (g.F.Folder.files (disk_of c.args.self.now))) (g.F.Folder.left (disk_of c.args.self.now)) (g.F.Folder.left d.tree)) (sym c.counted.ensures.directory)
    (new-left (root_of c.args.self.now) (asides_of c.args.self.now.directory.places) (string_bytes c.in_ok-path.path) c.args.key.now (g.F.Folder.files c.args.self.now.directory.tree)
    c.args.self.now.directory.asides c.in_ok-path.ensures.path c.args.bytes.now c.args.why (g.F.Folder.left c.args.self.now.directory.tree) (g.F.Folder.left c.make-made.new.self.tree) (c.make-made.ensures.left tells))
