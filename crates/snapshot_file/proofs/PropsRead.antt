-- Properties that were read keep their rule.
use Rattle.std.proofs.Common.{◌≡◌, ℕ, ◌≤◌, lit≤, List, [], Ok, subst}
use Rattle.flat_tables.specs.declared.fault.FileFault.{FileFault}
use Rattle.flat_tables.specs.declared.fault.FileFault.TheVariants.{Property}
use Rattle.flat_tables.specs.Places.{TableIn, VectorIn, text_of, vector_of, table_of}
use Rattle.flat_tables.specs.Rows.{flat, required, at_most, each, in_order}
use Rattle.flat_tables.proofs.Loop.{bind_ok}
use Rattle.file_fields.proofs.Places.{required_was, then_was, text_is}
use Rattle.file_fields.proofs.WasRead.{rows_ascend, rows_count, rows_have, optional_has, within_limit}
use Rattle.snapshot_file.specs.Props.{prop_limit, is_prop, prop_key, IsProperty, AreProps}
use Rattle.snapshot_file.specs.Snapshots.{property_of, property_at, properties_in, few_properties_in, properties_of}

abbrev Pair : Type 0
Pair = List ℕ × List ℕ

property_is : (at : ℕ) (t : TableIn) (prop : Pair) → property_of at t ≡ Ok prop → IsProperty prop
unfolding property_of
property_is at t prop e =
    let name = bind_ok (required 0 (text_of t 0)) _ prop e in
    let value = bind_ok (required 1 (text_of t 1)) _ prop name.2 in
    let made : Pair = (name.0, value.0) in
    let test = then_was {A = Pair} {E = FileFault} (is_prop made) (Property at) made prop value.2 in
    let is : IsProperty made = record {
      proper = test.0;
      name = text_is t 0 name.0 (required_was 0 (text_of t 0) name.0 name.1);
      value = text_is t 1 value.0 (required_was 1 (text_of t 1) value.0 value.1);
    } in
    subst IsProperty test.1 is

property_at_is : (v : VectorIn) (i : ℕ) (prop : Pair) → property_at v i ≡ Ok prop → IsProperty prop
unfolding property_at
property_at_is v i prop e = let t = bind_ok (flat (table_of v i)) (property_of i) prop e in property_is i t.0 prop t.2

-- those of a vector that has no more than the limit
pub in_vector : (v : VectorIn) (props : List Pair) → v.count ≤ prop_limit → properties_in v ≡ Ok props → AreProps props
in_vector v props le e =
    let read = in_order prop_key 5 (each (property_at v)) in
    record {
      few = rw (rows_count read v.count props e) le;
      ascend = rows_ascend prop_key 5 (each (property_at v)) v.count props e;
      each = rows_have IsProperty prop_key 5 (property_at v) v.count props (property_at_is v) e;
    }

few_in_vector : (v : VectorIn) (props : List Pair) → few_properties_in v ≡ Ok props → AreProps props
few_in_vector v props e = let few = bind_ok (at_most prop_limit v.count) _ props e in in_vector v props (within_limit prop_limit v.count few.0 few.1) few.2

pub none_are : AreProps []
none_are = record { few = lit≤ tt; ascend = tt; each = tt }

pub props_read : (t : TableIn) (props : List Pair) → properties_of t ≡ Ok props → AreProps props
unfolding properties_of
props_read t props e = optional_has AreProps (vector_of t 5 4) few_properties_in props none_are (λ v read. few_in_vector v props read) e
