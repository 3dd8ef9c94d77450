use Rattle.std.proofs.Common.{ℕ, ◌<◌, List, Some, length, ap, sym, subst, ◌∙◌}
use Rattle.std.specs.Prelude.{slice_get}
use Rattle.held_manifest.proofs.Checked.{gives_ok, gives_same}
use Rattle.held_snapshot.proofs.Parts.{property_here}
use Rattle.held_snapshot.proofs.props.PropVector.at.Goals as goal

pub property_at-requires-clause-below : goal.property_at-requires-clause-below
property_at-requires-clause-below c =
    let here = property_here c.self.inside.vector c.args.i c.self.invariant.0 (subst (λ (xs : List (List ℕ × List ℕ)). c.args.i < length xs) (sym c.self.view_is) c.requires) in
    here.below

pub unwrap-requires : goal.unwrap-requires
unwrap-requires c =
    let here = property_here c.self.inside.vector c.args.i c.self.invariant.0 (subst (λ (xs : List (List ℕ × List ℕ)). c.args.i < length xs) (sym c.self.view_is) c.requires) in
    gives_ok (λ p. (p.0.now, p.1.now)) c.property_at.result _ here.row c.property_at.ensures here.is

pub returns : goal.returns
returns c =
    let here = property_here c.self.inside.vector c.args.i c.self.invariant.0 (subst (λ (xs : List (List ℕ × List ℕ)). c.args.i < length xs) (sym c.self.view_is) c.requires) in
    let same = gives_same (λ p. (p.0.now, p.1.now)) c.property_at.result _ c.unwrap.result here.row c.property_at.ensures c.unwrap.ensures here.is in
    ap (λ (xs : List (List ℕ × List ℕ)). slice_get xs c.args.i) (sym c.self.view_is) ∙ here.at ∙ ap (λ (p : List ℕ × List ℕ). Some p) (sym same)
