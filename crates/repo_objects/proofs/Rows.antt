-- Rows in the order of their paths, and the map of their nodes.
use Rattle.std.proofs.Common.{◌≡◌, ℕ, ◌<◌, true, false, Bool, cond, ◌&&◌, T, List, [], ◌∷◌, map, length, Option, None, Some, option_map, refl, sym, ap, subst, ◌∙◌, arith}
use Rattle.std.specs.Prelude.{slice_get}
use Rattle.std.specs.Cmp.{both_ways}
use Rattle.std.specs.declared.cmp.Ordering.{Ordering}
use Rattle.std.specs.declared.cmp.Ordering.TheVariants.{Less, Equal, Greater}
use Rattle.std.specs.Ordering.{is_lt}
use Rattle.std.specs.List.{list_all}
use Rattle.std.specs.FinMap.{find, get, len, entries, is_sorted, from_sorted, entries-from_sorted, get-from_sorted, len-entries}
use Rattle.std.proofs.lemmas.List.{length-map}
use Rattle.std.proofs.lemmas.Option.{slice_get-map}
use Rattle.flat_tables.specs.Rows.{Ascends}
use Rattle.zarr_path.specs.Paths.{path_cmp, same_path}
use Rattle.zarr_path.proofs.OrderLaws.{total, same_path-true, same_path-refl}
use Rattle.zarr_tree.specs.Nodes.{Node}
use Rattle.zarr_tree.proofs.Maps.{same, get-made}
use Rattle.snapshot_file.specs.declared.nodes.NodeRow.{NodeRow}
use Rattle.snapshot_file.specs.Snapshots.{node_key}
use Rattle.held_snapshot.specs.LookUp.{row_place}
use Rattle.held_snapshot.proofs.Found.{found_by, found_none}
use Rattle.repo_objects.specs.Trees.{node_of, nodes_in, row_at}

-- a row as an entry of the map
abbrev entry : NodeRow → List ℕ × Node
entry row = (row.path, node_of row)

abbrev entries_of : List NodeRow → List (List ℕ × Node)
entries_of rows = map (λ row. (row.path, node_of row)) rows

-- ---- the order of paths

less_is : (o : Ordering) → is_lt o ≡ true → o ≡ Less
less_is Less h = refl
less_is Equal h = absurd cc
less_is Greater h = absurd cc

-- ---- rows that ascend are the map's own

both : (a b : Bool) → T a → T b → T (a && b)
both true b p q = q
both false b p q = p

T-true : (b : Bool) → b ≡ true → T b
T-true true e = tt
T-true false e = cc

below : (p : List ℕ) (rows : List NodeRow) → Ascends node_key (Some p) rows → T (list_all (λ (e : List ℕ × Node). is_lt (path_cmp p e.0)) (entries_of rows))
below p [] ascend = tt
below p (row ∷ rows) ascend = both _ _ (T-true _ ascend.0) (below p rows (further p row rows ascend))
  where
    further : (p : List ℕ) (row : NodeRow) (rows : List NodeRow) → Ascends node_key (Some p) (row ∷ rows) → Ascends node_key (Some p) rows
    further p row [] ascend = tt
    further p row (next ∷ rows) ascend = (ap is_lt (total.trans p row.path next.path (less_is _ ascend.0) (less_is _ ascend.1.0)), ascend.1.1)

sorted : (before : Option (List ℕ)) (rows : List NodeRow) → Ascends node_key before rows → T (is_sorted path_cmp (entries_of rows))
sorted before [] ascend = tt
sorted before (row ∷ rows) ascend = both _ _ (below row.path rows ascend.1) (sorted (Some row.path) rows ascend.1)

made : (rows : List NodeRow) → Ascends node_key None rows → nodes_in rows ≡ from_sorted (entries_of rows)
made rows ascend =
    let order = sorted None rows ascend in
    same (nodes_in rows) (from_sorted (entries_of rows)) (λ q. get-made (entries_of rows) q ∙ sym (get-from_sorted path_cmp (entries_of rows) q order))

pub entries-nodes : (rows : List NodeRow) → Ascends node_key None rows → entries (nodes_in rows) ≡ entries_of rows
entries-nodes rows ascend = ap entries (made rows ascend) ∙ entries-from_sorted path_cmp (entries_of rows) (sorted None rows ascend)

pub len-nodes : (rows : List NodeRow) → Ascends node_key None rows → len (nodes_in rows) ≡ length rows
len-nodes rows ascend = len-entries (nodes_in rows) ∙ ap length (entries-nodes rows ascend) ∙ simp length-map

-- rows that are seen from outside as these
module _ (rows nodes : List NodeRow) (same : rows ≡ nodes) (ascend : Ascends node_key None rows) (at : ℕ) where
  pub below_len : at < len (nodes_in nodes) → at < length nodes
  below_len lt = omega (arith, lt, len-nodes nodes (subst (Ascends node_key None) same ascend))

  pub row-nodes : (path : List ℕ) (node : Node) → option_map node_key (slice_get rows at) ≡ Some path → option_map node_of (slice_get nodes at) ≡ Some node → slice_get (entries (nodes_in nodes)) at ≡ Some (path, node)
  row-nodes path node named stands =
      let stood : option_map node_of (slice_get rows at) ≡ Some node = ap (λ (xs : List NodeRow). option_map node_of (slice_get xs at)) same ∙ stands in
      ap (λ (xs : List NodeRow). slice_get (entries (nodes_in xs)) at) (sym same)
      ∙ ap (λ (es : List (List ℕ × Node)). slice_get es at) (entries-nodes rows ascend) ∙ slice_get-map entry rows at ∙ joined (slice_get rows at) named stood
    where
      joined : (o : Option NodeRow) → option_map node_key o ≡ Some path → option_map node_of o ≡ Some node → option_map entry o ≡ Some (path, node)
      joined None named stands = cc
      joined (Some row) named stands =
          let left : row.path ≡ path = cc in
          let right : node_of row ≡ node = cc in
          ap (λ (p : List ℕ). Some (p, node_of row)) left ∙ ap (λ (n : Node). Some (path, n)) right

-- ---- the node at a path

turned : (p q : List ℕ) → same_path p q ≡ same_path q p
turned p q = both_ways _ _ (λ e. ap (same_path q) (same_path-true p q e) ∙ same_path-refl q) (λ e. ap (same_path p) (same_path-true q p e) ∙ same_path-refl p)

found_node : (rows : List NodeRow) (p : List ℕ) → find path_cmp p (entries_of rows) ≡ option_map node_of (row_at rows p)
found_node [] p = refl
found_node (x ∷ xs) p =
    ap (λ b. cond b (Some (node_of x)) (find path_cmp p (entries_of xs))) (turned p x.path)
    ∙ elim (same_path x.path p) as (λ b. cond b (Some (node_of x)) (find path_cmp p (entries_of xs)) ≡ option_map node_of (cond b (Some x) (row_at xs p))) [ true ↦ refl | false ↦ found_node xs p ]

-- the node at a path is that of the row there
pub node_at_row : (rows : List NodeRow) (p : List ℕ) → get (nodes_in rows) p ≡ option_map node_of (row_at rows p)
node_at_row rows p = get-made (entries_of rows) p ∙ found_node rows p

-- and it is found by the row's number
pub node_missing : (rows : List NodeRow) (p : List ℕ) → row_place rows p ≡ None → get (nodes_in rows) p ≡ None
node_missing rows p is = node_at_row rows p ∙ ap (option_map node_of) (found_none (λ row. same_path row.path p) rows is)

pub node_placed : (rows : List NodeRow) (p : List ℕ) (at : ℕ) (row : NodeRow) → row_place rows p ≡ Some at → slice_get rows at ≡ Some row → get (nodes_in rows) p ≡ Some (node_of row)
node_placed rows p at row is there = node_at_row rows p ∙ ap (option_map node_of) (found_by (λ r. same_path r.path p) rows at row is there)
