-- Rows that are made one at a time.
use Rattle.std.proofs.Common.{◌≡◌, ◌∙◌, ℕ, zero, suc, ◌+◌, ◌<◌, Bool, true, false, T, List, [], ◌∷◌, length, map, drop, get_or, Some, option_map, refl, sym, ap, subst, arith}
use Rattle.std.specs.Prelude.{slice_get, IsTrue}
use Rattle.std.specs.Borrow.{Bor}
use Rattle.std.proofs.lemmas.Option.{slice_get-map, slice_get_read, slice_get_within, get_or_from_slice_get}
use Rattle.std.proofs.lemmas.List.{length-map, drop_more}
use Rattle.zarr_path.specs.Paths.{is_path}
use Rattle.zarr_tree.specs.declared.nodes.Found.{Found}
use Rattle.zarr_tree.specs.Rows.{node_found, row_found, ArePaths}
use Rattle.snapshot_file.specs.declared.nodes.NodeRow.{NodeRow}
use Rattle.repo_objects.specs.Trees.{row_at}
use Rattle.changed_snapshot.specs.declared.new_snapshot.NewList.{NewList}
use Rattle.changed_snapshot.specs.Rows.{new_list, row_over, rows_of}
use Rattle.changed_snapshot.proofs.Found.{made, first_of, second_of}

-- a node that was found at a path
abbrev pub Row : Type 0
Row = Bor (List ℕ) × Found

pub rows_long : (news : List NewList) (rows : List NodeRow) (nodes : List Row) → length (rows_of news rows (map row_found nodes)) ≡ length nodes
rows_long news rows nodes = length-map (map row_found nodes) (made news rows) ∙ length-map nodes row_found

-- the row that is made of a node is that of its number
pub row_made_at : (news : List NewList) (rows : List NodeRow) (nodes : List Row) (at : ℕ) (x : Row) → at < length nodes → x ≡ get_or nodes at x
    → slice_get (rows_of news rows (map row_found nodes)) at ≡ Some (row_over x.0.now (node_found x.1) (row_at rows x.0.now) (new_list news x.0.now))
row_made_at news rows nodes at x lt is =
    slice_get-map (made news rows) (map row_found nodes) at
    ∙ ap (option_map (made news rows)) (slice_get-map row_found nodes at ∙ ap (option_map row_found) (slice_get_read nodes (length nodes) at x refl lt is))

is_true : (b : Bool) → T b → IsTrue b
is_true true t = refl
is_true false t = absurd t

-- it stands at a path
pub path_at : (nodes : List Row) (at : ℕ) (x : Row) → ArePaths (map row_found nodes) → at < length nodes → x ≡ get_or nodes at x → IsTrue (is_path x.0.now)
path_at [] at x paths lt is = absurd (omega arith)
path_at (n ∷ ns) zero x paths lt is = subst (λ (y : Row). IsTrue (is_path y.0.now)) (sym is) (is_true (is_path n.0.now) (first_of (is_path n.0.now) _ paths))
path_at (n ∷ ns) (suc at) x paths lt is = path_at ns at x (second_of (is_path n.0.now) _ paths) (omega arith) is

-- the rows from number i on
pub rows_from : (rows : List NodeRow) (i : ℕ) (row : NodeRow) → slice_get rows i ≡ Some row → drop i rows ≡ row ∷ drop (i + 1) rows
rows_from rows i row is = drop_more rows i row (slice_get_within rows i row is) ∙ ap (λ (x : NodeRow). x ∷ drop (i + 1) rows) (get_or_from_slice_get rows i row row is)
