use Rattle.std.proofs.Common.{◌++◌}
use Rattle.std.specs.Prelude.{codes}
use Rattle.object_files.specs.inside.Finding.{AddsName, AddsTwo}
use Rattle.object_files.proofs.Found.{adds-two, on-ok}
use Rattle.object_files.proofs.listing.add_refs.Goals as goal

pub returns-clause-adds : goal.returns-clause-adds
returns-clause-adds g c = λ tells.
    on-ok c.add_in-2.result (AddsName (g.F.Folder.files c.args.tree.now) c.args.root.now c.args.part (c.args.folder.now ++ codes "/" ++ codes "ref.json.deleted") c.add_in.new.found c.add_in-2.new.found) (AddsTwo (g.F.Folder.files c.args.tree.now) c.args.root.now c.args.part (c.args.folder.now ++ codes "/ref.json") (c.args.folder.now ++ codes "/ref.json.deleted") c.args.found.now c.add_in-2.new.found)
    (c.add_in-2.ensures.adds tells) (adds-two (g.F.Folder.files c.args.tree.now) c.args.root.now c.args.part c.args.folder.now c.args.found.now c.add_in.new.found c.add_in-2.new.found (c.in_ok-add_in.ensures.adds tells))
