use Rattle.std.proofs.Common.{◌≡◌, Option, None}
use Rattle.object_store.specs.Machine.{part_of}
use Rattle.folder.specs.Files.{StoredFile}
use Rattle.object_files.specs.Paths.{path_in}
use Rattle.object_files.specs.inside.Finding.{IsMeasuredBy}
use Rattle.object_files.proofs.Found.{when}
use Rattle.object_files.proofs.listing.measures_at.Goals as goal

pub returns-clause-right : goal.returns-clause-right
returns-clause-right g c = λ tells.
    let file : Option StoredFile = g.F.Folder.files c.args.tree.now (path_in c.args.root.now c.args.key.now) in
    when c.measures_of.result (file ≡ None) (part_of c.args.key.now ≡ c.args.part → file ≡ None) (λ measures. IsMeasuredBy measures file) (c.measures_of.ensures file (c.in_ok-seen_at.ensures.seen tells)) (λ none of. none)
