-- Properties that are added in their order stand in it.
use Rattle.std.proofs.Common.{◌≡◌, ℕ, zero, suc, ◌+◌, List, [], ◌∷◌, take, Option, Some, sym, ap, arith}
use Rattle.std.specs.Prelude.{slice_get}
use Rattle.std.specs.BTreeMap.{insert_entry}
use Rattle.std.specs.declared.cmp.Ordering.TheVariants.{Greater}
use Rattle.flat_tables.specs.Rows.{Ascends}
use Rattle.snapshot_file.specs.Props.{prop_key, name_cmp}
use Rattle.held_manifest.proofs.Checked.{some_same}
use Rattle.held_snapshot.proofs.Rising.{above, turned}

abbrev Pair : Type 0
Pair = List ℕ × List ℕ

pub added : (before : Option (List ℕ)) (props : List Pair) (i : ℕ) (name value : List ℕ) → Ascends prop_key before props → slice_get props i ≡ Some (name, value) → insert_entry name_cmp (take i props) name value ≡ take (i + 1) props
added before [] i name value ascend at = absurd cc
added before (x ∷ xs) zero name value ascend at = ap (λ (p : Pair). p ∷ []) (sym (some_same x (name, value) at))
added before (x ∷ xs) (suc i) name value ascend at =
    let greater : name_cmp name x.0 ≡ Greater = turned x.0 name (above prop_key x.0 xs i (name, value) ascend.1 at) in
    let z : suc i + 1 ≡ suc (i + 1) = omega arith in
    rw (greater, z) (ap (λ (ps : List Pair). x ∷ ps) (added (Some x.0) xs i name value ascend.1 at))
