use Rattle.std.proofs.Common.{rules, ◌≡◌, Ok, Err, sym, subst}
use Rattle.std.specs.Prelude.{string_bytes}
use Rattle.whole_files.specs.Places.{asides_of}
use Rattle.object_store.specs.declared.events.Over.{Over}
use Rattle.object_store.specs.declared.events.StoreFault.{StoreFault}
use Rattle.object_store.specs.declared.events.Op.TheVariants.{PutOver}
use Rattle.object_store.specs.declared.events.Reply.TheVariants.{Over as Is}
use Rattle.dir_store.specs.declared.directory.Directory.{Directory}
use Rattle.dir_store.specs.Store.{root_of, disk_of, time_of_over}
use Rattle.folder.specs.Files.{Leaves}
use Rattle.dir_store.specs.Contents.{Answers, IsLeftBy}
use Rattle.dir_store.proofs.Answering.{answers-over, answers-over-not}
use Rattle.dir_store.proofs.Leaving.{over-left}
use Rattle.dir_store.proofs.store.FolderStoreObjectStore.put_over.Goals as goal

pub returns-in_err-change-clause-machine : goal.returns-in_err-change-clause-machine
returns-in_err-change-clause-machine g c = λ tells.
    let fault : StoreFault = c.in_err-change.field-0.0 in
    let told : c.replace-replaced.result ≡ Err fault = search rules in
    let result : c.from_residual-in_err-change.result ≡ Err fault = search rules in
    subst (λ (d : Directory g.row.F.Denot). Answers (λ (a : Over). Is a) time_of_over (root_of c.args.self.now) c.args.key.now (PutOver c.args.key.now c.args.bytes.now c.args.old c.args.why) c.from_residual-in_err-change.result (g.F.Folder.files (disk_of c.args.self.now)) (g.F.Folder.files d.tree)) (sym c.counted.ensures.directory)
    (answers-over-not (root_of c.args.self.now) (asides_of c.args.self.now.directory.places) (string_bytes c.in_ok-path.path) c.args.key.now c.args.bytes.now c.args.why (g.F.Folder.files c.args.self.now.directory.tree) (g.F.Folder.files c.replace-replaced.new.self.tree)
    c.args.self.now.directory.asides c.in_ok-path.ensures.path (c.replace-replaced.ensures.files tells) c.args.old c.replace-replaced.result fault c.from_residual-in_err-change.result (c.replace-replaced.ensures.replaced tells) told result)

pub returns-clause-machine : goal.returns-clause-machine
returns-clause-machine g c = λ tells.
    let told : c.replace-replaced.result ≡ Ok c.in_ok-change.change = search rules in
    subst (λ (d : Directory g.row.F.Denot). Answers (λ (a : Over). Is a) time_of_over (root_of c.args.self.now) c.args.key.now (PutOver c.args.key.now c.args.bytes.now c.args.old c.args.why) (Ok c.over.result) (g.F.Folder.files (disk_of c.args.self.now)) (g.F.Folder.files d.tree)) (sym c.counted.ensures.directory)
    (answers-over (root_of c.args.self.now) (asides_of c.args.self.now.directory.places) (string_bytes c.in_ok-path.path) c.args.key.now c.args.bytes.now c.args.why (g.F.Folder.files c.args.self.now.directory.tree) (g.F.Folder.files c.replace-replaced.new.self.tree)
    c.args.self.now.directory.asides c.in_ok-path.ensures.path (c.replace-replaced.ensures.files tells) c.args.old c.replace-replaced.result c.in_ok-change.change c.now-now.result c.over.result (c.replace-replaced.ensures.replaced tells) told c.over.ensures)

pub returns-in_err-change-clause-left : goal.returns-in_err-change-clause-left
returns-in_err-change-clause-left g c = λ tells.
    subst (λ (d : Directory g.row.F.Denot). Leaves (IsLeftBy (root_of c.args.self.now) c.args.key.now (PutOver c.args.key.now c.args.bytes.now c.args.old c.args.why) (g.F.Folder.files (disk_of c.args.self.now))) (g.F.Folder.left (disk_of c.args.self.now)) (g.F.Folder.left d.tree)) (sym c.counted.ensures.directory)
    (over-left (root_of c.args.self.now) (asides_of c.args.self.now.directory.places) (string_bytes c.in_ok-path.path) c.args.key.now (g.F.Folder.files c.args.self.now.directory.tree)
    c.args.self.now.directory.asides c.in_ok-path.ensures.path c.args.bytes.now c.args.old c.args.why (g.F.Folder.left c.args.self.now.directory.tree) (g.F.Folder.left c.replace-replaced.new.self.tree) (c.replace-replaced.ensures.left tells))

pub returns-clause-left : goal.returns-clause-left
returns-clause-left g c = λ tells.
    subst (λ (d : Directory g.row.F.Denot). Leaves (IsLeftBy (root_of c.args.self.now) c.args.key.now (PutOver c.args.key.now c.args.bytes.now c.args.old c.args.why) (g.F.Folder.files (disk_of c.args.self.now))) (g.F.Folder.left (disk_of c.args.self.now)) (g.F.Folder.left d.tree)) (sym c.counted.ensures.directory)
    (over-left (root_of c.args.self.now) (asides_of c.args.self.now.directory.places) (string_bytes c.in_ok-path.path) c.args.key.now (g.F.Folder.files c.args.self.now.directory.tree)
    c.args.self.now.directory.asides c.in_ok-path.ensures.path c.args.bytes.now c.args.old c.args.why (g.F.Folder.left c.args.self.now.directory.tree) (g.F.Folder.left c.replace-replaced.new.self.tree) (c.replace-replaced.ensures.left tells))
