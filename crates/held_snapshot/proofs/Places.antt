-- Where a search by halves finds the row at a path.
use Rattle.std.proofs.Common.{◌≡◌, ℕ, zero, suc, ◌≤◌, true, false, List, [], ◌∷◌, length, Option, None, Some, refl, subst, arith, inl, inr}
use Rattle.std.specs.Prelude.{slice_get}
use Rattle.std.specs.declared.cmp.Ordering.TheVariants.{Less, Equal, Greater}
use Rattle.std.specs.FinMap.{slice_cmp-IsAntisymmetric, nat_cmp-IsAntisymmetric}
use Rattle.std.proofs.lemmas.Bool.{cases_lt}
use Rattle.zarr_path.specs.Paths.{path_cmp, same_path}
use Rattle.flat_tables.specs.Rows.{Ascends}
use Rattle.snapshot_file.specs.declared.nodes.NodeRow.{NodeRow}
use Rattle.snapshot_file.specs.Snapshots.{node_key}
use Rattle.held_manifest.proofs.Checked.{some_same}
use Rattle.held_manifest.proofs.Halves.{Narrowed}
use Rattle.held_snapshot.specs.LookUp.{row_place}
use Rattle.held_snapshot.proofs.Rising.{above}
use Rattle.held_snapshot.proofs.Found.{Before, position_at, position_none}

not_less : (a b : List ℕ) → path_cmp a b ≡ Less → same_path a b ≡ false
not_less a b is = rw is refl

not_greater : (a b : List ℕ) → path_cmp a b ≡ Greater → same_path a b ≡ false
not_greater a b is = rw is refl

same : (a b : List ℕ) → path_cmp a b ≡ Equal → same_path a b ≡ true
same a b is = rw is refl

-- those before the row at a path stand elsewhere
others : (before : Option (List ℕ)) (rows : List NodeRow) (path : List ℕ) (k : ℕ) (row : NodeRow) → Ascends node_key before rows → slice_get rows k ≡ Some row → row.path ≡ path → Before (λ r. same_path r.path path) false rows k
others before [] path k row ascend at is j other lt there = absurd cc
others before (x ∷ xs) path zero row ascend at is j other lt there = absurd (omega arith)
others before (x ∷ xs) path (suc k) row ascend at is zero other lt there =
    let less = subst (λ (p : List ℕ). path_cmp x.path p ≡ Less) is (above node_key x.path xs k row ascend.1 at) in
    subst (λ (z : NodeRow). same_path z.path path ≡ false) (some_same x other there) (not_less x.path path less)
others before (x ∷ xs) path (suc k) row ascend at is (suc j) other lt there = others (Some x.path) xs path k row ascend.1 at is j other (omega arith) there

pub place_found : (rows : List NodeRow) (path : List ℕ) (k : ℕ) (row : NodeRow) → Ascends node_key None rows → slice_get rows k ≡ Some row → path_cmp row.path path ≡ Equal → row_place rows path ≡ Some k
place_found rows path k row ascend at equal =
    let is : row.path ≡ path = slice_cmp-IsAntisymmetric nat_cmp-IsAntisymmetric row.path path equal in
    position_at (λ r. same_path r.path path) rows k row (others None rows path k row ascend at is) at (same row.path path equal)

pub place_missing : (rows : List NodeRow) (path : List ℕ) (low high : ℕ) → Narrowed node_key rows path low high → high ≤ low → row_place rows path ≡ None
place_missing rows path low high n le = position_none (λ r. same_path r.path path) rows (length rows) (omega arith) (λ j row lt at. elim (cases_lt j low) [
  | inl under ↦ not_less row.path path (n.below j row under at)
  | inr ge ↦ not_greater row.path path (n.above j row (omega arith) at)
])
