use Rattle.std.proofs.Common.{ap, sym, ◌∙◌}
use Rattle.snapshot_file.specs.Nodes.{names_of}
use Rattle.held_snapshot.specs.LookUp.{names_named}
use Rattle.held_manifest.proofs.Checked.{ok_by, ok_same}
use Rattle.held_snapshot.specs.Views.{kind_seen}
use Rattle.held_snapshot.proofs.Parts.{array_there}
use Rattle.held_snapshot.proofs.kinds.HeldKind.names.Goals as goal

pub held_names-requires : goal.held_names-requires
held_names-requires c =
    let some = array_there c.self.inside.array c.in-Some.table c.self.invariant c.in-Some.is in
    ok_by (names_of c.in-Some.table) some.names some.names_are

pub returns-in-Some : goal.returns-in-Some
returns-in-Some c =
    let some = array_there c.self.inside.array c.in-Some.table c.self.invariant c.in-Some.is in
    let same = ok_same c.held_names.result some.names (sym c.held_names.ensures ∙ some.names_are) in
    same ∙ ap names_named (sym some.is ∙ ap kind_seen (sym c.in-Some.is) ∙ c.self.view_is)
