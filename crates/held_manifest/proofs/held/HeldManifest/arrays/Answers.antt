use Rattle.std.proofs.Common.{ap, sym, ◌∙◌}
use Rattle.flat_tables.specs.Places.{TableIn, vector_of}
use Rattle.manifest_file.specs.declared.manifest.ManifestFile.{ManifestFile}
use Rattle.manifest_file.specs.Manifests.{arrays_in}
use Rattle.held_manifest.specs.Views.{rows_or_none}
use Rattle.held_manifest.proofs.Checked.{ok_by, some_by, ok_same, some_same}
use Rattle.held_manifest.proofs.Parts.{manifest_parts, root_same, sized}
use Rattle.held_manifest.proofs.held.HeldManifest.arrays.Goals as goal

pub unwrap-slot-requires : goal.unwrap-slot-requires
unwrap-slot-requires c =
    let file = c.self.inside.file in
    let parts = manifest_parts file c.self.invariant in
    let same = root_same file c.root-table.result _ parts (rw (← c.as_slice.ensures.value) c.root-table.ensures) in
    ok_by c.vector.result _ (c.vector.ensures.read ∙ ap (λ (t : TableIn). vector_of t 1 4) same ∙ parts.vector_is)

pub unwrap-requires : goal.unwrap-requires
unwrap-requires c =
    let file = c.self.inside.file in
    let parts = manifest_parts file c.self.invariant in
    let same = root_same file c.root-table.result _ parts (rw (← c.as_slice.ensures.value) c.root-table.ensures) in
    some_by c.unwrap-slot.result parts.vector (ok_same c.unwrap-slot.result _ (sym c.unwrap-slot.ensures ∙ c.vector.ensures.read ∙ ap (λ (t : TableIn). vector_of t 1 4) same ∙ parts.vector_is))

pub held_arrays-requires-clause-read : goal.held_arrays-requires-clause-read
held_arrays-requires-clause-read c =
    let file = c.self.inside.file in
    let parts = manifest_parts file c.self.invariant in
    let same = root_same file c.root-table.result _ parts (rw (← c.as_slice.ensures.value) c.root-table.ensures) in
    let slot = ok_same c.unwrap-slot.result _ (sym c.unwrap-slot.ensures ∙ c.vector.ensures.read ∙ ap (λ (t : TableIn). vector_of t 1 4) same ∙ parts.vector_is) in
    let is = some_same c.unwrap.result parts.vector (sym c.unwrap.ensures ∙ slot) in
    ok_by (arrays_in c.unwrap.result) _ (ap arrays_in is ∙ parts.arrays_are)

pub returns : goal.returns
returns c =
    let file = c.self.inside.file in
    let parts = manifest_parts file c.self.invariant in
    let same = root_same file c.root-table.result _ parts (rw (← c.as_slice.ensures.value) c.root-table.ensures) in
    let slot = ok_same c.unwrap-slot.result _ (sym c.unwrap-slot.ensures ∙ c.vector.ensures.read ∙ ap (λ (t : TableIn). vector_of t 1 4) same ∙ parts.vector_is) in
    let is = some_same c.unwrap.result parts.vector (sym c.unwrap.ensures ∙ slot) in
    c.held_arrays.ensures ∙ ap rows_or_none (ap arrays_in is ∙ parts.arrays_are) ∙ ap (λ (m : ManifestFile). m.arrays) c.self.view_is

pub held_arrays-requires-clause-offsets : goal.held_arrays-requires-clause-offsets
held_arrays-requires-clause-offsets c = sized c.vector.result c.unwrap-slot.result c.unwrap.result 4 c.vector.ensures.size c.unwrap-slot.ensures c.unwrap.ensures
