use Rattle.std.proofs.Common.{subst}
use Rattle.flat_tables.specs.Rows.{Reads}
use Rattle.manifest_file.specs.Manifests.{manifest_of}
use Rattle.show_files.proofs.manifests.tell_manifest_again.Goals as goal

pub write-written-requires : goal.write-written-requires
write-written-requires c = c.ordered_law.ensures c.args.file.now c.in-Ok.manifest (subst (λ r. Reads (λ x. x) r (manifest_of c.args.file.now)) c.in-Ok.is c.read.ensures)
