use Rattle.std.proofs.Common.{sym, subst}
use Rattle.snapshot_file.specs.Props.{IsProperty, AreProps}
use Rattle.snapshot_file.proofs.PropPlaces.{proper, kept}
use Rattle.snapshot_file.proofs.properties.Props.add.Goals as goal

pub invariant_of-self-2 : goal.invariant_of-self-2
invariant_of-self-2 c =
    let name = c.args.name.now in
    let value = c.args.value.now in
    let is : IsProperty (name, value) = record {
      proper = proper name value c.is_prop_name.result c.is_prop_value.result c.is_prop_name.ensures c.is_prop_value.ensures c.if-not-is_prop_name.false c.if-not-is_prop_value.false;
      name = c.utf8.name;
      value = c.utf8.value;
    } in
    let are : AreProps c.as_slice-rows.result.now = subst AreProps (sym c.as_slice-rows.ensures.value) c.self.invariant in
    rw (c.in_ok-insert.ensures.items, c.in_ok-name.ensures, c.in_ok-value.ensures, ← c.as_slice-rows.ensures.value, c.in-Some.ensures.order value) (kept c.as_slice-rows.result.now name value are c.if-rows-eq-PROP_LIMIT.false is)
