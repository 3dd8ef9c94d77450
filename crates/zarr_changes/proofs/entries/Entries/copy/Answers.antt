use Rattle.std.proofs.Common.{◌≡◌, ◌++◌, ◌∷◌, ap, sym, subst, ◌∙◌}
use Rattle.std.specs.Map.{keys_of}
use Rattle.zarr_tree.specs.Touched.{IdsAscend}
use Rattle.std.specs.Map.Iter.{deref_pair}
use Rattle.std.proofs.lemmas.Map.Iter.{rest_more}
use Rattle.zarr_changes.specs.inside.Kept.{array_rows}
use Rattle.zarr_changes.proofs.EntryKept.{Arrays, array_next}
use Rattle.zarr_changes.proofs.entries.Entries.copy.Goals as goal

pub loop-id-preserved : goal.loop-id-preserved
loop-id-preserved c =
    let left : c.loop-id.id-iterator ≡ (c.in-Some.id.now, c.in-Some.chunks.now) ∷ c.next.new.self =
    rest_more deref_pair c.loop-id.id-iterator c.next.new.self c.next.result (c.in-Some.id, c.in-Some.chunks) c.in-Some.is c.next.ensures.steps in (
      array_next c.loop-id.arrays.entries c.enter_array.new.arrays.entries c.next.new.self c.into_iter-id-iterator.result c.in-Some.id.now c.in-Some.chunks.now c.in_ok-copy_chunks.field-0
          (subst (λ (es : Arrays). IdsAscend (keys_of es)) (sym (c.into_iter-id-iterator.ensures.into_iter_gives ∙ c.iter-id-items.ensures.rest)) c.self.invariant) c.in_ok-enter_array.ensures.ok c.in_ok-copy_chunks.ensures
          (ap (λ es. array_rows c.loop-id.arrays.entries ++ array_rows es) (sym left) ∙ c.loop-id.invariant.0),
      c.enter_array.ensures.order,
    )
