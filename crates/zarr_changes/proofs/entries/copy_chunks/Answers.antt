use Rattle.std.proofs.Common.{◌≡◌, ◌++◌, ◌∷◌, ap, sym, ◌∙◌}
use Rattle.std.specs.BTreeMap.{insert_entry}
use Rattle.std.specs.Map.Iter.{deref_pair}
use Rattle.std.proofs.lemmas.Map.Iter.{rest_more}
use Rattle.zarr_path.specs.Indices.{index_cmp}
use Rattle.zarr_changes.proofs.EntryKept.{row_next}
use Rattle.zarr_changes.proofs.entries.copy_chunks.Goals as goal

pub loop-index-preserved : goal.loop-index-preserved
loop-index-preserved c =
    let left : c.loop-index.index-iterator ≡ (c.in-Some.index.now, c.in-Some.entry.now) ∷ c.next.new.self =
    rest_more deref_pair c.loop-index.index-iterator c.next.new.self c.next.result (c.in-Some.index, c.in-Some.entry) c.in-Some.is c.next.ensures.steps in
    row_next c.loop-index.copy c.enter.new.chunks c.next.new.self c.args.chunks.now.entries c.in-Some.index.now c.in-Some.entry.now c.iter-index-items.ensures.ordered
    (c.in_ok-enter.ensures.ok ∙ (λ i. insert_entry index_cmp c.loop-index.copy.entries (c.in_ok-copy.ensures i) (c.in_ok-copy_entry.ensures i)))
    (ap (λ es. c.loop-index.copy.entries ++ es) (sym left) ∙ c.loop-index.invariant)
