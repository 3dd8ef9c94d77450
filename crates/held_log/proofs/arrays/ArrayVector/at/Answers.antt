use Rattle.std.proofs.Common.{◌≡◌, ℕ, ◌<◌, List, Some, length, ap, sym, subst, ◌∙◌}
use Rattle.std.specs.Prelude.{slice_get}
use Rattle.ice_ids.specs.declared.Id8.{Id8}
use Rattle.flat_tables.specs.Places.{TableIn, vector_of}
use Rattle.file_fields.specs.Fields.{id8_of}
use Rattle.zarr_tree.specs.declared.lists.ArrayChunks.{ArrayChunks}
use Rattle.txn_file.specs.Logs.{indices_in}
use Rattle.held_manifest.specs.Views.{rows_or_none}
use Rattle.held_manifest.proofs.Checked.{ok_by, some_by, ok_same, some_same}
use Rattle.held_manifest.proofs.Parts.{sized}
use Rattle.held_log.proofs.Parts.{array_here}
use Rattle.held_log.proofs.arrays.ArrayVector.at.Goals as goal

pub table_at-requires-clause-below : goal.table_at-requires-clause-below
table_at-requires-clause-below c =
    let here = array_here c.self.inside.vector c.args.i c.self.invariant.0 (subst (λ (xs : List ArrayChunks). c.args.i < length xs) (sym c.self.view_is) c.requires) in
    here.below

pub unwrap-table-requires : goal.unwrap-table-requires
unwrap-table-requires c =
    let here = array_here c.self.inside.vector c.args.i c.self.invariant.0 (subst (λ (xs : List ArrayChunks). c.args.i < length xs) (sym c.self.view_is) c.requires) in
    ok_by c.table_at.result here.table (c.table_at.ensures ∙ here.table_is)

pub unwrap-node-requires : goal.unwrap-node-requires
unwrap-node-requires c =
    let here = array_here c.self.inside.vector c.args.i c.self.invariant.0 (subst (λ (xs : List ArrayChunks). c.args.i < length xs) (sym c.self.view_is) c.requires) in
    let same = ok_same c.unwrap-table.result here.table (sym c.unwrap-table.ensures ∙ c.table_at.ensures ∙ here.table_is) in
    ok_by c.id8_of.result here.row.node (c.id8_of.ensures ∙ ap (λ (t : TableIn). id8_of t 0) same ∙ here.parts.node_is)

pub unwrap-slot-requires : goal.unwrap-slot-requires
unwrap-slot-requires c =
    let here = array_here c.self.inside.vector c.args.i c.self.invariant.0 (subst (λ (xs : List ArrayChunks). c.args.i < length xs) (sym c.self.view_is) c.requires) in
    let same = ok_same c.unwrap-table.result here.table (sym c.unwrap-table.ensures ∙ c.table_at.ensures ∙ here.table_is) in
    ok_by c.vector.result _ (c.vector.ensures.read ∙ ap (λ (t : TableIn). vector_of t 1 4) same ∙ here.parts.vector_is)

pub unwrap-requires : goal.unwrap-requires
unwrap-requires c =
    let here = array_here c.self.inside.vector c.args.i c.self.invariant.0 (subst (λ (xs : List ArrayChunks). c.args.i < length xs) (sym c.self.view_is) c.requires) in
    let same = ok_same c.unwrap-table.result here.table (sym c.unwrap-table.ensures ∙ c.table_at.ensures ∙ here.table_is) in
    some_by c.unwrap-slot.result here.parts.vector (ok_same c.unwrap-slot.result _ (sym c.unwrap-slot.ensures ∙ c.vector.ensures.read ∙ ap (λ (t : TableIn). vector_of t 1 4) same ∙ here.parts.vector_is))

pub held_indices-chunks-requires-clause-read : goal.held_indices-chunks-requires-clause-read
held_indices-chunks-requires-clause-read c =
    let here = array_here c.self.inside.vector c.args.i c.self.invariant.0 (subst (λ (xs : List ArrayChunks). c.args.i < length xs) (sym c.self.view_is) c.requires) in
    let same = ok_same c.unwrap-table.result here.table (sym c.unwrap-table.ensures ∙ c.table_at.ensures ∙ here.table_is) in
    let slot = ok_same c.unwrap-slot.result _ (sym c.unwrap-slot.ensures ∙ c.vector.ensures.read ∙ ap (λ (t : TableIn). vector_of t 1 4) same ∙ here.parts.vector_is) in
    let is = some_same c.unwrap.result here.parts.vector (sym c.unwrap.ensures ∙ slot) in
    ok_by (indices_in c.unwrap.result) here.row.chunks (ap indices_in is ∙ here.parts.chunks_are)

pub returns : goal.returns
returns c =
    let here = array_here c.self.inside.vector c.args.i c.self.invariant.0 (subst (λ (xs : List ArrayChunks). c.args.i < length xs) (sym c.self.view_is) c.requires) in
    let same = ok_same c.unwrap-table.result here.table (sym c.unwrap-table.ensures ∙ c.table_at.ensures ∙ here.table_is) in
    let slot = ok_same c.unwrap-slot.result _ (sym c.unwrap-slot.ensures ∙ c.vector.ensures.read ∙ ap (λ (t : TableIn). vector_of t 1 4) same ∙ here.parts.vector_is) in
    let is = some_same c.unwrap.result here.parts.vector (sym c.unwrap.ensures ∙ slot) in
    let node : here.row.node ≡ c.unwrap-node.result = ok_same here.row.node c.unwrap-node.result (sym here.parts.node_is ∙ ap (λ (t : TableIn). id8_of t 0) (sym same) ∙ sym c.id8_of.ensures ∙ c.unwrap-node.ensures) in
    let chunks : here.row.chunks ≡ c.held_indices-chunks.result = sym (c.held_indices-chunks.ensures ∙ ap rows_or_none (ap indices_in is ∙ here.parts.chunks_are)) in
    ap (λ (xs : List ArrayChunks). slice_get xs c.args.i) (sym c.self.view_is) ∙ here.at ∙ ap (λ (n : Id8). Some (record { node = n; chunks = here.row.chunks })) node ∙ ap (λ (xs : List (List ℕ)). Some (record { node = c.unwrap-node.result; chunks = xs })) chunks

pub held_indices-chunks-requires-clause-offsets : goal.held_indices-chunks-requires-clause-offsets
held_indices-chunks-requires-clause-offsets c = sized c.vector.result c.unwrap-slot.result c.unwrap.result 4 c.vector.ensures.size c.unwrap-slot.ensures c.unwrap.ensures
