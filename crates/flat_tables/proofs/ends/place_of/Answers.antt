use Rattle.std.proofs.Common.{rules, arith, ◌≡◌, ◌∙◌, length, sym, ap}
use Rattle.flat_tables.specs.Layout.{table_place}
use Rattle.flat_tables.specs.Trees.{capped}
use Rattle.flat_tables.proofs.Lengths.{place_is, slots_few}
use Rattle.flat_tables.proofs.ends.place_of.Goals as goal

pub returns-clause-place : goal.returns-clause-place
returns-clause-place c =
    let n : c.len.result ≡ length c.args.flat.now.slots.items = search rules in
    let b = table_place (length c.args.flat.now.slots.items) c.args.from in
    c.block_end.ensures ∙ rw n (ap capped (omega arith)) ∙ sym (ap capped (place_is c.args.flat.now c.args.from))

pub returns-clause-small : goal.returns-clause-small
returns-clause-small c =
    let n : c.len.result ≡ length c.args.flat.now.slots.items = search rules in
    omega (arith, n, c.block_end.ensures, slots_few c.args.flat.now c.requires)
