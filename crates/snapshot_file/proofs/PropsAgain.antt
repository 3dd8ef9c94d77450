-- Properties that were written are read again.
use Rattle.std.proofs.Common.{◌≡◌, ℕ, ◌<◌, ◌^◌, lit≤, List, [], ◌∷◌, ◌++◌, length, None, Ok, refl}
use Rattle.std.specs.List.{AllByRecursion}
use Rattle.flat_tables.specs.Places.{TableIn}
use Rattle.flat_tables.specs.Rows.{each, in_order}
use Rattle.flat_tables.specs.Layout.{part_if}
use Rattle.flat_tables.proofs.Loop.{ordered_reads, rows_again, at_most_ok}
use Rattle.flat_tables.proofs.Again.{IsTable, HasParts, SlotRead, offset_field, text_again, vector_absent, tables_again, tables_behind, EachBehind}
use Rattle.snapshot_file.specs.Props.{prop_limit, prop_key, IsProperty, AreProps}
use Rattle.snapshot_file.specs.Snapshots.{property_of, property_at, properties_in, properties_of}
use Rattle.snapshot_file.specs.Layout.{prop_parts, props_part, some_props}

abbrev Pair : Type 0
Pair = List ℕ × List ℕ

prop_fields : (prop : Pair) → IsProperty prop → IsTable (prop_parts prop)
prop_fields prop is = record { fields = (offset_field _, (offset_field _, tt)); few = lit≤ tt }

prop_again : (at : ℕ) (prop : Pair) (t : TableIn) → IsProperty prop → HasParts t (prop_parts prop) → property_of at t ≡ Ok prop
unfolding property_of
prop_again at prop t is parts =
    let name = text_again t 0 prop.0 is.name parts.small parts.slots.0 in
    let value = text_again t 1 prop.1 is.value parts.small parts.slots.1.0 in
    rw (name, value, is.proper) refl

each_prop : (front props : List Pair) → AllByRecursion IsProperty props → EachBehind (λ before prop. IsProperty prop) front props
each_prop front [] are = tt
each_prop front (prop ∷ props) are = (are.0, each_prop (front ++ prop ∷ []) props are.1)

some_again : (t : TableIn) (props : List Pair) → length t.bytes < 2 ^ 32 → AreProps props → SlotRead t 5 (props_part props) → properties_of t ≡ Ok props
unfolding properties_of property_at
some_again t props small are slot =
    let v = tables_again t 5 prop_parts props small slot in
    let reads = tables_behind prop_parts (λ before. property_of (length before)) (λ before prop. IsProperty prop) (λ before prop is. prop_fields prop is) (λ before prop table is parts. prop_again (length before) prop table is parts) v.vector [] props 0 v.end refl v.small (each_prop [] props are.each) v.tables in
    let ordered = ordered_reads prop_key 5 (each (property_at v.vector)) [] props None refl reads are.ascend in
    let again : properties_in v.vector ≡ Ok props = rows_again (in_order prop_key 5 (each (property_at v.vector))) props v.vector.count v.count ordered in
    rw (v.is, at_most_ok prop_limit v.vector.count (length props) v.count are.few, again) refl

pub props_again : (t : TableIn) (props : List Pair) → length t.bytes < 2 ^ 32 → AreProps props → SlotRead t 5 (part_if props_part (some_props props)) → properties_of t ≡ Ok props
unfolding properties_of
props_again t [] small are slot = rw (vector_absent t 5 4 slot) refl
props_again t (prop ∷ props) small are slot = some_again t (prop ∷ props) small are slot
