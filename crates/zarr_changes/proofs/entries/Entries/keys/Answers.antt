use Rattle.std.proofs.Common.{◌≡◌, ◌++◌, ◌∷◌, ap, sym, ◌∙◌}
use Rattle.std.specs.Map.Iter.{deref_pair}
use Rattle.std.proofs.lemmas.Map.Iter.{rest_more}
use Rattle.zarr_changes.proofs.EntryKept.{all_of, keys_in, keys_next}
use Rattle.zarr_changes.proofs.entries.Entries.keys.Goals as goal

pub loop-id-preserved : goal.loop-id-preserved
loop-id-preserved c =
    let left : c.loop-id.id-iterator ≡ (c.in-Some.id.now, c.in-Some.chunks.now) ∷ c.next.new.self =
    rest_more deref_pair c.loop-id.id-iterator c.next.new.self c.next.result (c.in-Some.id, c.in-Some.chunks) c.in-Some.is c.next.ensures.steps in
    keys_next c.loop-id.keys c.push_keys.new.keys c.in-Some.id.now c.in-Some.chunks.now c.next.new.self (keys_in c.args.self.now) c.in_ok-push_keys.ensures
    (ap (λ es. c.loop-id.keys ++ keys_in (all_of es)) (sym left) ∙ c.loop-id.invariant)
