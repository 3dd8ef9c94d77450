use Rattle.std.proofs.Common.{◌≡◌}
use Rattle.object_store.specs.Names.{key_name}
use Rattle.object_files.specs.Paths.{IsKey}
use Rattle.object_files.specs.inside.Finding.{AddsKey, AddsName}
use Rattle.object_files.proofs.Found.{name-some, named-some, on-ok}
use Rattle.object_files.proofs.listing.add_file.Goals as goal

pub returns-in-Some-clause-adds : goal.returns-in-Some-clause-adds
returns-in-Some-clause-adds g c = λ tells.
    let named : IsKey c.in-Some.key × (c.args.name.now ≡ key_name c.in-Some.key) = named-some c.args.name.now c.key_of.result c.in_ok-key.field-0 c.in-Some.key c.key_of.ensures c.in_ok-key.ensures c.in-Some.is in
    on-ok c.add_key.result (AddsKey (g.F.Folder.files c.args.tree.now) c.args.root.now c.args.part c.in-Some.key c.args.found.now c.add_key.new.found) (AddsName (g.F.Folder.files c.args.tree.now) c.args.root.now c.args.part c.args.name.now c.args.found.now c.add_key.new.found)
    (c.add_key.ensures.adds tells) (name-some (g.F.Folder.files c.args.tree.now) c.args.root.now c.args.part c.args.name.now c.in-Some.key c.args.found.now c.add_key.new.found named)
