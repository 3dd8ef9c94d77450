use Rattle.std.proofs.Common.{ℕ, ◌<◌, List, Option, Some, length, ap, sym, subst, ◌∙◌}
use Rattle.std.specs.Prelude.{slice_get, option_map}
use Rattle.snapshot_file.specs.Nodes.{name_at}
use Rattle.held_manifest.proofs.Checked.{gives_ok, gives_same}
use Rattle.held_snapshot.proofs.Walked.{walked_here}
use Rattle.held_snapshot.proofs.names.HeldNames.at.Goals as goal

pub name_at-requires-clause-below : goal.name_at-requires-clause-below
name_at-requires-clause-below c =
    let v = c.self.inside.vector in
    let here = walked_here (name_at v) v.count c.args.k c.self.invariant.0 (subst (λ (xs : List (Option (List ℕ))). c.args.k < length xs) (sym c.self.view_is) c.requires) in
    here.below

pub unwrap-requires : goal.unwrap-requires
unwrap-requires c =
    let v = c.self.inside.vector in
    let here = walked_here (name_at v) v.count c.args.k c.self.invariant.0 (subst (λ (xs : List (Option (List ℕ))). c.args.k < length xs) (sym c.self.view_is) c.requires) in
    gives_ok (option_map (λ x. x.now)) c.name_at.result _ here.row c.name_at.ensures here.is

pub returns : goal.returns
returns c =
    let v = c.self.inside.vector in
    let here = walked_here (name_at v) v.count c.args.k c.self.invariant.0 (subst (λ (xs : List (Option (List ℕ))). c.args.k < length xs) (sym c.self.view_is) c.requires) in
    let same = gives_same (option_map (λ x. x.now)) c.name_at.result _ c.unwrap.result here.row c.name_at.ensures c.unwrap.ensures here.is in
    ap (λ (xs : List (Option (List ℕ))). slice_get xs c.args.k) (sym c.self.view_is) ∙ here.at ∙ ap (λ (n : Option (List ℕ)). Some n) (sym same)
