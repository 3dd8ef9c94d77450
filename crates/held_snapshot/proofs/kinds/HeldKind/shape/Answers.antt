use Rattle.std.proofs.Common.{ℕ, List, Some, ap, sym, ◌∙◌}
use Rattle.held_manifest.proofs.Checked.{ok_by, ok_same}
use Rattle.held_snapshot.specs.Views.{kind_seen}
use Rattle.held_snapshot.specs.LookUp.{shape_named}
use Rattle.held_snapshot.proofs.Parts.{array_there}
use Rattle.held_snapshot.proofs.kinds.HeldKind.shape.Goals as goal

pub unwrap-requires : goal.unwrap-requires
unwrap-requires c =
    let some = array_there c.self.inside.array c.in-Some.table c.self.invariant c.in-Some.is in
    ok_by c.shape_of.result some.shape (c.shape_of.ensures ∙ some.shape_is)

pub returns-in-Some : goal.returns-in-Some
returns-in-Some c =
    let some = array_there c.self.inside.array c.in-Some.table c.self.invariant c.in-Some.is in
    let same = ok_same c.unwrap.result some.shape (sym c.unwrap.ensures ∙ c.shape_of.ensures ∙ some.shape_is) in
    ap (λ (xs : List (ℕ × ℕ)). Some xs) same ∙ ap shape_named (sym some.is ∙ ap kind_seen (sym c.in-Some.is) ∙ c.self.view_is)
