use Rattle.std.proofs.Common.{sym, subst}
use Rattle.std.specs.Prelude.{IfOk}
use Rattle.object_store.specs.declared.keys.Key.{Key}
use Rattle.repo_check.specs.inside.Telling.{Notes}
use Rattle.repo_check.proofs.Telling.{file-noted, object-noted}
use Rattle.repo_check.proofs.work.note.Goals as goal

pub returns-in-Manifest-clause-ok : goal.returns-in-Manifest-clause-ok
returns-in-Manifest-clause-ok c =
    subst (λ (key : Key). IfOk c.insert.result (λ new. Notes key c.args.files.now c.args.objects.now new c.insert.new.self c.args.objects.now)) (sym c.in-Manifest.is)
    (file-noted c.args.files.now c.args.objects.now c.insert.new.self c.in-Manifest.id c.insert.result c.insert.ensures.added c.insert.ensures.members)

pub returns-in-Chunk-clause-ok : goal.returns-in-Chunk-clause-ok
returns-in-Chunk-clause-ok c =
    subst (λ (key : Key). IfOk c.insert-in-Chunk.result (λ new. Notes key c.args.files.now c.args.objects.now new c.args.files.now c.insert-in-Chunk.new.self)) (sym c.in-Chunk.is)
    (object-noted c.args.files.now c.args.objects.now c.insert-in-Chunk.new.self c.in-Chunk.id c.insert-in-Chunk.result c.insert-in-Chunk.ensures.added c.insert-in-Chunk.ensures.members)
