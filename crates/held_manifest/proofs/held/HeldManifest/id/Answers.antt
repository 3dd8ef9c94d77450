use Rattle.std.proofs.Common.{ap, sym, ◌∙◌}
use Rattle.file_fields.specs.Fields.{id12_of}
use Rattle.flat_tables.specs.Places.{TableIn}
use Rattle.manifest_file.specs.declared.manifest.ManifestFile.{ManifestFile}
use Rattle.held_manifest.proofs.Checked.{ok_by, ok_same}
use Rattle.held_manifest.proofs.Parts.{manifest_parts, root_same}
use Rattle.held_manifest.proofs.held.HeldManifest.id.Goals as goal

pub unwrap-requires : goal.unwrap-requires
unwrap-requires c =
    let file = c.self.inside.file in
    let parts = manifest_parts file c.self.invariant in
    let same = root_same file c.root.result _ parts (rw (← c.as_slice.ensures.value) c.root.ensures) in
    ok_by c.id12_of.result _ (c.id12_of.ensures ∙ ap (λ (t : TableIn). id12_of t 0) same ∙ parts.id_is)

pub returns : goal.returns
returns c =
    let file = c.self.inside.file in
    let parts = manifest_parts file c.self.invariant in
    let same = root_same file c.root.result _ parts (rw (← c.as_slice.ensures.value) c.root.ensures) in
    ok_same c.unwrap.result _ (sym c.unwrap.ensures ∙ c.id12_of.ensures ∙ ap (λ (t : TableIn). id12_of t 0) same ∙ parts.id_is) ∙ ap (λ (m : ManifestFile). m.id) c.self.view_is
