use Rattle.std.proofs.Common.{◌≡◌, Bool, false, List, ℕ, not, ap, sym, ◌∙◌}
use Rattle.std.specs.Prelude.{◌||◌}
use Rattle.zarr_path.specs.Paths.{same_path, root, parent_of}
use Rattle.zarr_path.proofs.OrderLaws.{pointwise-same}
use Rattle.held_snapshot.specs.LookUp.{is_array, row_at}
use Rattle.intact.specs.Rows.{is_group_row}
use Rattle.intact.proofs.rows.stands.Goals as goal

pub returns-in-Some : goal.returns-in-Some
returns-in-Some c =
    let other : false ≡ same_path c.args.path.now root = c.if-eq.ensures ∙ pointwise-same c.args.path.now root in
    ap (λ (b : Bool). not b) (c.is_array.ensures ∙ ap is_array c.kind.ensures)
    ∙ (ap is_group_row (sym c.in-Some.is ∙ (c.find.ensures ∙ ap (λ (p : List ℕ). row_at c.args.rows.now p) c.parent_text.ensures))
    ∙ ap (λ (b : Bool). b || is_group_row (row_at c.args.rows.now (parent_of c.args.path.now))) other)

pub returns-in-None : goal.returns-in-None
returns-in-None c =
    let other : false ≡ same_path c.args.path.now root = c.if-eq.ensures ∙ pointwise-same c.args.path.now root in
    ap is_group_row (sym c.in-None.is ∙ (c.find.ensures ∙ ap (λ (p : List ℕ). row_at c.args.rows.now p) c.parent_text.ensures))
    ∙ ap (λ (b : Bool). b || is_group_row (row_at c.args.rows.now (parent_of c.args.path.now))) other
