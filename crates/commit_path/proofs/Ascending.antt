-- The arrays of a commit stand in the order of their paths, and so do their new lists.
use Rattle.std.proofs.Common.{◌≡◌, ℕ, Bool, true, false, cond, ◌&&◌, T, List, [], ◌∷◌, ◌++◌, map, length, refl, sym, ap, subst}
use Rattle.std.specs.Prelude.{Option, Some, None, is_some, option_map, filter_map}
use Rattle.std.specs.List.{list_all, list_any, filter, cons_option}
use Rattle.std.specs.FinMap.{FinMap, is_sorted, entries, entries_sorted}
use Rattle.ice_ids.specs.Text.{same_id8}
use Rattle.flat_tables.specs.Rows.{follows, Ascends}
use Rattle.zarr_path.specs.Paths.{path_cmp}
use Rattle.zarr_meta.specs.declared.views.ArrayView.{ArrayView}
use Rattle.zarr_tree.specs.Nodes.{Node, array_in}
use Rattle.zarr_tree.specs.Held.{Held, nodes_over, written_rows}
use Rattle.zarr_tree.proofs.Maps.{Path}
use Rattle.manifest_file.specs.declared.manifest.Place.{Place}
use Rattle.zarr_changes.specs.declared.chunks.ChangedArray.{ChangedArray}
use Rattle.zarr_changes.specs.Sets.{changed_arrays}
use Rattle.changed_snapshot.specs.declared.new_snapshot.NewList.{NewList}
use Rattle.changed_snapshot.proofs.Found.{Entries, head_below, tail_sorted}
use Rattle.changed_snapshot.proofs.Orders.{filter_ascends}
use Rattle.commit_path.specs.inside.Lists.{AreInOrder}

-- ---- by keys
ascends-map : {A : Type 0} (key : A → List ℕ) (before : Option (List ℕ)) (xs : List A) → Ascends key before xs → Ascends (λ (path : List ℕ). path) before (map key xs)
ascends-map key before [] h = tt
ascends-map key before (x ∷ xs) h = (h.0, ascends-map key (Some (key x)) xs h.1)

map-ascends : {A : Type 0} (key : A → List ℕ) (before : Option (List ℕ)) (xs : List A) → Ascends (λ (path : List ℕ). path) before (map key xs) → Ascends key before xs
map-ascends key before [] h = tt
map-ascends key before (x ∷ xs) h = (h.0, map-ascends key (Some (key x)) xs h.1)

-- what stands before the rest ascends
pub ascends-first : {A : Type 0} (key : A → List ℕ) (before : Option (List ℕ)) (xs : List A) (rest : List (List ℕ)) → Ascends (λ (path : List ℕ). path) before (map key xs ++ rest) → Ascends key before xs
ascends-first key before [] rest h = tt
ascends-first key before (x ∷ xs) rest h = (h.0, ascends-first key (Some (key x)) xs rest h.1)

pub new-in_order : (news : List NewList) (left arrays : List ChangedArray) → news ≡ [] → left ≡ arrays → Ascends (λ (a : ChangedArray). a.path) None arrays → AreInOrder (record { news = news; left = left })
new-in_order news left arrays n l h =
    subst (λ (x : List NewList). AreInOrder (record { news = x; left = left })) (sym n) (subst (λ (y : List ChangedArray). AreInOrder (record { news = []; left = y })) (sym l) (ascends-map (λ (a : ChangedArray). a.path) None arrays h))

-- ---- the arrays of a tree
first-follows : (b rest : Bool) → T (b && rest) → b ≡ true
first-follows true rest h = refl
first-follows false rest h = absurd h

entries-ascend : (before : Option Path) (es : Entries) → T (list_all (λ (e : Path × Node). follows before e.0) es) → T (is_sorted path_cmp es) → Ascends (λ (e : Path × Node). e.0) before es
entries-ascend before [] follow sorted = tt
entries-ascend before (e ∷ es) follow sorted =
    (first-follows (follows before e.0) (list_all (λ (e : Path × Node). follows before e.0) es) follow, entries-ascend (Some e.0) es (head_below e es sorted) (tail_sorted e es sorted))

all-first : (es : Entries) → T (list_all (λ (e : Path × Node). follows None e.0) es)
all-first [] = tt
all-first (e ∷ es) = all-first es

-- the array of a row, if it is one's
abbrev made_array : Path × Node → Option ArrayView → Option ChangedArray
made_array row o = option_map (λ array. record { path = row.0; node = row.1.id; rank = length array.shape }) o

abbrev row_array : Path × Node → Option ChangedArray
row_array row = made_array row (array_in row.1.text)

abbrev array_rows : Entries → Entries
array_rows rows = filter (λ row. is_some (row_array row)) rows

same-paths : (rows : Entries) → map (λ (row : Path × Node). row.0) (array_rows rows) ≡ map (λ (a : ChangedArray). a.path) (filter_map row_array rows)
same-paths [] = refl
same-paths (row ∷ rows) = by_row (array_in row.1.text) (same-paths rows)
  where
    by_row : (o : Option ArrayView) → map (λ (row : Path × Node). row.0) (array_rows rows) ≡ map (λ (a : ChangedArray). a.path) (filter_map row_array rows)
        → map (λ (row : Path × Node). row.0) (cond (is_some (made_array row o)) (row ∷ array_rows rows) (array_rows rows)) ≡ map (λ (a : ChangedArray). a.path) (cons_option (made_array row o) (filter_map row_array rows))
    by_row (Some array) same = ap (λ (ps : List Path). row.0 ∷ ps) same
    by_row None same = same

pub arrays-ascend : (h : Held Place) (nodes : FinMap path_cmp Node) → Ascends (λ (a : ChangedArray). a.path) None (changed_arrays h nodes)
arrays-ascend h nodes =
    let es = entries (nodes_over h nodes) in
    let key = λ (e : Path × Node). e.0 in
    let written = filter_ascends key (λ row. list_any (λ entry. same_id8 entry.0 row.1.id) h.chunks) None es (entries-ascend None es (all-first es) (entries_sorted (nodes_over h nodes))) in
    let own = filter_ascends key (λ row. is_some (row_array row)) None (written_rows h nodes) written in
    map-ascends (λ (a : ChangedArray). a.path) None (filter_map row_array (written_rows h nodes))
    (subst (λ (ps : List Path). Ascends (λ (path : List ℕ). path) None ps) (same-paths (written_rows h nodes)) (ascends-map key None (array_rows (written_rows h nodes)) own))

-- a commit's arrays
pub these-ascend : (arrays : List ChangedArray) (h : Held Place) (nodes : FinMap path_cmp Node) → arrays ≡ changed_arrays h nodes → Ascends (λ (a : ChangedArray). a.path) None arrays
these-ascend arrays h nodes e = subst (λ (xs : List ChangedArray). Ascends (λ (a : ChangedArray). a.path) None xs) (sym e) (arrays-ascend h nodes)
