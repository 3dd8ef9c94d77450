use Rattle.std.proofs.Common.{List, sym, ap, ◌∙◌}
use Rattle.manifest_index.specs.Merging.{ChunkChange}
use Rattle.manifest_index.specs.inside.Chunks.{chunk_at}
use Rattle.manifest_index.proofs.Entering.{after, last_entered, none_left}
use Rattle.manifest_index.proofs.merging.enter_changes.Goals as goal

pub loop-last-preserved : goal.loop-last-preserved
loop-last-preserved c = λ q.
    last_entered c.args.rank q c.pop.new.self.items c.in-Some.last (chunk_at q c.loop-last.chunks) (chunk_at q c.enter_change.new.chunks) (c.in_ok-enter_change.ensures q)
    ∙ ap (λ (xs : List ChunkChange). after c.args.rank q xs (chunk_at q c.loop-last.chunks)) (sym c.in-Some.ensures.items)
    ∙ c.loop-last.invariant q

pub returns : goal.returns
returns c = λ q. sym (none_left c.args.rank q c.loop-last.change.items (chunk_at q c.loop-last.chunks) (sym c.loop-last.change.ok.0 ∙ c.in_default.ensures.cases.0)) ∙ c.loop-last.invariant q
