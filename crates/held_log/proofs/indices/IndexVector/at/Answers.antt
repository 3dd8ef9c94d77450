use Rattle.std.proofs.Common.{ℕ, ◌<◌, List, Some, length, ap, sym, subst, ◌∙◌}
use Rattle.std.specs.Prelude.{slice_get}
use Rattle.held_manifest.proofs.Checked.{ok_by, ok_same}
use Rattle.held_log.proofs.Parts.{index_here}
use Rattle.held_log.proofs.indices.IndexVector.at.Goals as goal

pub index_at-requires-clause-below : goal.index_at-requires-clause-below
index_at-requires-clause-below c =
    let here = index_here c.self.inside.vector c.args.i c.self.invariant.0 (subst (λ (xs : List (List ℕ)). c.args.i < length xs) (sym c.self.view_is) c.requires) in
    here.below

pub unwrap-requires : goal.unwrap-requires
unwrap-requires c =
    let here = index_here c.self.inside.vector c.args.i c.self.invariant.0 (subst (λ (xs : List (List ℕ)). c.args.i < length xs) (sym c.self.view_is) c.requires) in
    ok_by c.index_at.result here.row (c.index_at.ensures ∙ here.is)

pub returns : goal.returns
returns c =
    let here = index_here c.self.inside.vector c.args.i c.self.invariant.0 (subst (λ (xs : List (List ℕ)). c.args.i < length xs) (sym c.self.view_is) c.requires) in
    let same = ok_same here.row c.unwrap.result (sym here.is ∙ sym c.index_at.ensures ∙ c.unwrap.ensures) in
    ap (λ (xs : List (List ℕ)). slice_get xs c.args.i) (sym c.self.view_is) ∙ here.at ∙ ap (λ (r : List ℕ). Some r) same
