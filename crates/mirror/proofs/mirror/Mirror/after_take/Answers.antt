use Rattle.std.proofs.Common.{inl, sym, ◌∙◌, ap}
use Rattle.mirror.specs.declared.mirror.Object.{Object}
use Rattle.mirror.specs.inside.Working.{work_of, taken}
use Rattle.mirror.proofs.mirror.Mirror.after_take.Goals as goal

pub returns-in-Chunk-clause-lands : goal.returns-in-Chunk-clause-lands
returns-in-Chunk-clause-lands c =
    let m = c.args.self.now in
    inl (c.take_chunk.ensures.lands ∙ ap (λ (o : Object). taken o m (work_of m) c.args.bytes) (sym c.in-Chunk.is))
