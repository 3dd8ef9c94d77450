use Rattle.std.proofs.Common.{ap, sym, ◌∙◌}
use Rattle.snapshot_file.specs.Nodes.{manifests_of}
use Rattle.snapshot_file.specs.Snapshots.{manifests_named}
use Rattle.held_manifest.proofs.Checked.{ok_by, ok_same}
use Rattle.held_snapshot.specs.Views.{kind_seen}
use Rattle.held_snapshot.proofs.Parts.{array_there}
use Rattle.held_snapshot.proofs.kinds.HeldKind.manifests.Goals as goal

pub held_manifests-requires : goal.held_manifests-requires
held_manifests-requires c =
    let some = array_there c.self.inside.array c.in-Some.table c.self.invariant c.in-Some.is in
    ok_by (manifests_of c.in-Some.table) some.manifests some.manifests_are

pub returns-in-Some : goal.returns-in-Some
returns-in-Some c =
    let some = array_there c.self.inside.array c.in-Some.table c.self.invariant c.in-Some.is in
    let same = ok_same c.held_manifests.result some.manifests (sym c.held_manifests.ensures ∙ some.manifests_are) in
    same ∙ ap manifests_named (sym some.is ∙ ap kind_seen (sym c.in-Some.is) ∙ c.self.view_is)
