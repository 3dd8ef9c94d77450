use Rattle.std.proofs.Common.{◌∙◌, ℕ, ◌+◌, List, ap, not, drop, arith}
use Rattle.std.specs.List.{filter}
use Rattle.ice_ids.specs.declared.Id8.{Id8}
use Rattle.manifest_file.specs.declared.manifest.Place.{Place}
use Rattle.zarr_tree.specs.Held.{HeldEntry}
use Rattle.zarr_changes.specs.Edits.{lists_key}
use Rattle.zarr_changes.proofs.EntryKept.{out_next, out_end, left_item, none_left}
use Rattle.zarr_changes.proofs.entries.Entries.remove_each.Goals as goal

pub loop-key-preserved : goal.loop-key-preserved
loop-key-preserved c =
    let k : ℕ = c.loop-key.key-index in
    let left : List (Id8 × List ℕ) = drop (k + 1) c.args.out.now in
    let rows : List (HeldEntry Place) = c.loop-key.self in
    ap (filter (λ (row : HeldEntry Place). not (lists_key left row.0 row.1))) c.remove.ensures
    ∙ out_next c.key-item.result.0 c.key-item.result.1 left rows
    ∙ ap (λ (out : List (Id8 × List ℕ)). filter (λ (row : HeldEntry Place). not (lists_key out row.0 row.1)) rows) (left_item c.args.out.now k c.key-item.result (omega (arith, c.loop-key-test.true)) c.key-item.is)
    ∙ c.loop-key.invariant

pub returns : goal.returns
returns c =
    out_end (drop c.loop-key.key-index c.args.out.now) c.loop-key.self (filter (λ (row : HeldEntry Place). not (lists_key c.args.out.now row.0 row.1)) c.args.self.now)
    (none_left c.args.out.now c.loop-key.key-index (omega (arith, c.loop-key-test.false))) c.loop-key.invariant
