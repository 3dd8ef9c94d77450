use Rattle.std.proofs.Common.{ap, sym, subst, ◌∙◌}
use Rattle.flat_tables.specs.Places.{TableIn, root_of}
use Rattle.snapshot_file.specs.declared.snapshot.SnapshotFile.{SnapshotFile}
use Rattle.snapshot_file.specs.Snapshots.{snapshot_of}
use Rattle.held_manifest.proofs.Checked.{ok_by, ok_same, gives_ok, gives_same}
use Rattle.held_snapshot.specs.Files.{IsTableOf, snapshot_or_empty}
use Rattle.held_snapshot.proofs.Parts.{snapshot_parts}
use Rattle.held_snapshot.proofs.held.HeldSnapshot.table.Goals as goal

pub unwrap-payload-requires : goal.unwrap-payload-requires
unwrap-payload-requires c =
    let parts = snapshot_parts c.self.inside.file c.self.invariant in
    gives_ok (λ payload. payload.now) c.payload_in.result _ parts.payload (rw (← c.as_slice.ensures.value) c.payload_in.ensures) parts.payload_is

pub unwrap-requires : goal.unwrap-requires
unwrap-requires c =
    let parts = snapshot_parts c.self.inside.file c.self.invariant in
    let same = gives_same (λ payload. payload.now) c.payload_in.result _ c.unwrap-payload.result parts.payload (rw (← c.as_slice.ensures.value) c.payload_in.ensures) c.unwrap-payload.ensures parts.payload_is in
    ok_by c.root.result parts.table (c.root.ensures ∙ ap root_of same ∙ parts.table_is)

pub returns : goal.returns
returns c =
    let parts = snapshot_parts c.self.inside.file c.self.invariant in
    let same = gives_same (λ payload. payload.now) c.payload_in.result _ c.unwrap-payload.result parts.payload (rw (← c.as_slice.ensures.value) c.payload_in.ensures) c.unwrap-payload.ensures parts.payload_is in
    let table = ok_same parts.table c.unwrap.result (sym parts.table_is ∙ ap root_of (sym same) ∙ sym c.root.ensures ∙ c.unwrap.ensures) in
    subst (λ (s : SnapshotFile). IsTableOf c.unwrap.result s) c.self.view_is (subst (λ (t : TableIn). IsTableOf t (snapshot_or_empty (snapshot_of c.self.inside.file))) table parts.slots)
