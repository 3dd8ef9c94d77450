use Rattle.std.proofs.Common.{◌<◌, List, Some, length, ap, sym, subst, ◌∙◌}
use Rattle.std.specs.Prelude.{slice_get}
use Rattle.manifest_file.specs.declared.manifest.ChunkRef.{ChunkRef}
use Rattle.held_manifest.proofs.Checked.{ok_by, ok_same}
use Rattle.held_manifest.proofs.Parts.{chunk_at}
use Rattle.held_manifest.proofs.chunks.Refs.at.Goals as goal

pub ref_at-requires-clause-below : goal.ref_at-requires-clause-below
ref_at-requires-clause-below c =
    let here = chunk_at c.self.inside.vector c.args.i c.self.invariant.0 (subst (λ (xs : List ChunkRef). c.args.i < length xs) (sym c.self.view_is) c.requires) in
    here.below

pub unwrap-requires : goal.unwrap-requires
unwrap-requires c =
    let here = chunk_at c.self.inside.vector c.args.i c.self.invariant.0 (subst (λ (xs : List ChunkRef). c.args.i < length xs) (sym c.self.view_is) c.requires) in
    ok_by c.ref_at.result here.row (c.ref_at.ensures ∙ here.is)

pub returns : goal.returns
returns c =
    let here = chunk_at c.self.inside.vector c.args.i c.self.invariant.0 (subst (λ (xs : List ChunkRef). c.args.i < length xs) (sym c.self.view_is) c.requires) in
    let same = ok_same here.row c.unwrap.result (sym here.is ∙ sym c.ref_at.ensures ∙ c.unwrap.ensures) in
    ap (λ (xs : List ChunkRef). slice_get xs c.args.i) (sym c.self.view_is) ∙ here.at ∙ ap (λ (r : ChunkRef). Some r) same
