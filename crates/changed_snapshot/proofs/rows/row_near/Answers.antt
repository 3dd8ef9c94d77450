use Rattle.std.proofs.Common.{◌≡◌, ◌∙◌, List, ℕ, true, sym, ap, refl, is_eq}
use Rattle.std.specs.declared.cmp.Ordering.{Ordering}
use Rattle.std.specs.declared.cmp.Ordering.TheVariants.{Less, Equal, Greater}
use Rattle.zarr_path.specs.Paths.{path_cmp, same_path}
use Rattle.held_snapshot.proofs.Found.{found_by}
use Rattle.held_snapshot.proofs.Places.{place_found}
use Rattle.changed_snapshot.proofs.rows.row_near.Goals as goal

equal : (o : Ordering) → true ≡ is_eq o → o ≡ Equal
equal Less e = absurd cc
equal Equal e = refl
equal Greater e = absurd cc

pub returns-then-is_eq : goal.returns-then-is_eq
returns-then-is_eq c =
    let rows = c.args.old.now in
    let path = c.args.path.now in
    let row = c.at-row.result in
    let same : path_cmp row.path path ≡ Equal = ap (λ (p : List ℕ). path_cmp p path) (sym c.path.ensures.value) ∙ sym c.cmp.ensures ∙ equal c.cmp.result c.if-is_eq.ensures in
    sym (found_by (λ r. same_path r.path path) rows c.args.place row (place_found rows path c.args.place row c.len.ensures.order c.at-row.ensures same) c.at-row.ensures)
