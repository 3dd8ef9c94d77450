-- Rows of a tree by their paths, and the rows under changes.
use Rattle.std.proofs.Common.{◌≡◌, ◌∙◌, Bool, true, false, cond, ◌&&◌, T, List, [], ◌∷◌, map, Option, Some, None, option_map, refl, sym, ap, subst}
use Rattle.std.specs.Prelude.{find as first_that}
use Rattle.std.specs.declared.cmp.Ordering.{Ordering}
use Rattle.std.specs.declared.cmp.Ordering.TheVariants.{Less, Equal, Greater}
use Rattle.std.specs.Ordering.{is_eq, is_lt}
use Rattle.std.specs.Cmp.{both_ways}
use Rattle.std.specs.List.{list_all, AllByRecursion}
use Rattle.std.specs.Str.{bytes_eq}
use Rattle.std.specs.FinMap.{find, get, is_sorted, entries, entries_sorted, get-entries}
use Rattle.std.proofs.lemmas.Slice.Eq.{bytes_eq-Decides}
use Rattle.ice_ids.specs.Text.{same_id8}
use Rattle.ice_ids.proofs.TextLaws.{same_id8-true}
use Rattle.zarr_path.specs.Paths.{path_cmp, same_path}
use Rattle.zarr_path.proofs.OrderLaws.{same_path-true, same_path-refl}
use Rattle.zarr_tree.specs.Nodes.{Node}
use Rattle.zarr_tree.specs.Held.{Held, nodes_over}
use Rattle.zarr_tree.proofs.Maps.{Path}
use Rattle.snapshot_file.specs.declared.nodes.NodeRow.{NodeRow}
use Rattle.snapshot_file.specs.Snapshots.{manifests_named}
use Rattle.repo_objects.specs.Trees.{node_of, nodes_in, row_at}
use Rattle.snapshot_file.specs.declared.nodes.ManifestRef.{ManifestRef}
use Rattle.changed_snapshot.specs.declared.new_snapshot.NewList.{NewList}
use Rattle.changed_snapshot.specs.Rows.{refs_of, new_list, row_of, row_from, row_over, rows_over}

-- nodes by their paths, in order
abbrev pub Entries : Type 0
Entries = List (Path × Node)

turned : (p q : Path) → same_path p q ≡ same_path q p
turned p q = both_ways _ _ (λ e. ap (same_path q) (same_path-true p q e) ∙ same_path-refl q) (λ e. ap (same_path p) (same_path-true q p e) ∙ same_path-refl p)

-- ---- the row at a path

-- a row that is found at a path stands there
pub row_there : (rows : List NodeRow) (p : Path) (row : NodeRow) → row_at rows p ≡ Some row → row.path ≡ p
row_there [] p row h = cc
row_there (x ∷ xs) p row h = elim (same_path x.path p) as (λ b. same_path x.path p ≡ b → cond b (Some x) (row_at xs p) ≡ Some row → row.path ≡ p) [
  | true ↦ λ e k. let is : x ≡ row = cc k in ap (λ (r : NodeRow). r.path) (sym is) ∙ same_path-true x.path p e
  | false ↦ λ e k. row_there xs p row k
] refl h

-- what holds of each row holds of the one at a path
pub row_has : (P : NodeRow → Type 0) (rows : List NodeRow) (p : Path) (row : NodeRow) → AllByRecursion P rows → row_at rows p ≡ Some row → P row
row_has P [] p row all h = cc
row_has P (x ∷ xs) p row all h = elim (same_path x.path p) as (λ b. cond b (Some x) (row_at xs p) ≡ Some row → P row) [
  | true ↦ λ k. let is : x ≡ row = cc k in subst P is all.0
  | false ↦ λ k. row_has P xs p row all.1 k
] h

-- ---- the row of an entry

-- an old row stands at this path
abbrev pub StandsAt : Path → Option NodeRow → Type 0
StandsAt p old = (row : NodeRow) → old ≡ Some row → row.path ≡ p

-- the row has the path, and is of the node
pub from-path : (p : Path) (n : Node) (old : Option NodeRow) → StandsAt p old → (row_from p n old).path ≡ p
from-path p n None there = refl
from-path p n (Some row) there = elim (same_id8 row.id n.id) as (λ b. (cond b (cond (bytes_eq row.user_data n.text) row (row_of p n (manifests_named row.kind))) (row_of p n [])).path ≡ p) [
  | true ↦ elim (bytes_eq row.user_data n.text) as (λ b. (cond b row (row_of p n (manifests_named row.kind))).path ≡ p) [ true ↦ there row refl | false ↦ refl ]
  | false ↦ refl
]

pub from-node : (p : Path) (n : Node) (old : Option NodeRow) → node_of (row_from p n old) ≡ n
from-node p n None = refl
from-node p n (Some row) = elim (same_id8 row.id n.id) as (λ b. same_id8 row.id n.id ≡ b → node_of (cond b (cond (bytes_eq row.user_data n.text) row (row_of p n (manifests_named row.kind))) (row_of p n [])) ≡ n) [
  | true ↦ λ e. elim (bytes_eq row.user_data n.text) as (λ b. bytes_eq row.user_data n.text ≡ b → node_of (cond b row (row_of p n (manifests_named row.kind))) ≡ n) [
    | true ↦ λ t. let same_text : row.user_data ≡ n.text = (bytes_eq-Decides row.user_data n.text).0 t in λ i. record { id = same_id8-true row.id n.id e i; text = same_text i }
    | false ↦ λ t. refl
  ] refl
  | false ↦ λ e. refl
] refl

pub over-path : (p : Path) (n : Node) (old : Option NodeRow) (new : Option (List ManifestRef)) → StandsAt p old → (row_over p n old new).path ≡ p
over-path p n old None there = from-path p n old there
over-path p n old (Some manifests) there = refl

pub over-node : (p : Path) (n : Node) (old : Option NodeRow) (new : Option (List ManifestRef)) → node_of (row_over p n old new) ≡ n
over-node p n old None = from-node p n old
over-node p n old (Some manifests) = refl

module _ (news : List NewList) (rows : List NodeRow) where
  -- the row of a node at a path, over these rows
  abbrev pub row_made : Path → Node → NodeRow
  row_made p n = row_over p n (row_at rows p) (new_list news p)

  abbrev pub made : Path × Node → NodeRow
  made e = row_made e.0 e.1

  -- what holds of the row of a node, and of its row with the list that is found, holds of the one that is made
  pub by_list : (Q : NodeRow → Type 0) (p : Path) (n : Node) → Q (row_from p n (row_at rows p))
      → ((list : NewList) → first_that (λ (new : NewList). same_path new.path p) news ≡ Some list → Q (row_of p n (refs_of list.manifest))) → Q (row_made p n)
  by_list Q p n kept written = cases (first_that (λ (new : NewList). same_path new.path p) news) written
    where
      cases : (o : Option NewList) → ((list : NewList) → o ≡ Some list → Q (row_of p n (refs_of list.manifest))) → Q (row_over p n (row_at rows p) (option_map (λ (new : NewList). refs_of new.manifest) o))
      cases None each = kept
      cases (Some list) each = each list refl

  pub made-path : (e : Path × Node) → (made e).path ≡ e.0
  made-path e = over-path e.0 e.1 (row_at rows e.0) (new_list news e.0) (row_there rows e.0)

  pub made-node : (e : Path × Node) → node_of (made e) ≡ e.1
  made-node e = over-node e.0 e.1 (row_at rows e.0) (new_list news e.0)

  -- ---- the rows under what is held

  found_made : (p : Path) (es : Entries) → row_at (map made es) p ≡ option_map (row_made p) (find path_cmp p es)
  found_made p [] = refl
  found_made p (e ∷ es) =
      ap (λ q. cond (same_path q p) (Some (made e)) (row_at (map made es) p)) (made-path e)
      ∙ ap (λ b. cond b (Some (made e)) (row_at (map made es) p)) (turned e.0 p)
      ∙ elim (same_path p e.0) as (λ b. same_path p e.0 ≡ b → cond b (Some (made e)) (row_at (map made es) p) ≡ option_map (row_made p) (cond b (Some e.1) (find path_cmp p es))) [
        | true ↦ λ t. ap (λ q. Some (row_made q e.1)) (sym (same_path-true p e.0 t))
        | false ↦ λ t. found_made p es
      ] refl

module _ {P : Type 0} where
  -- the new row at a path
  pub new_row : (h : Held P) (news : List NewList) (rows : List NodeRow) (p : Path) → row_at (rows_over h news rows) p ≡ option_map (row_made news rows p) (get (nodes_over h (nodes_in rows)) p)
  unfolding rows_over
  new_row h news rows p =
      found_made news rows p (entries (nodes_over h (nodes_in rows)))
      ∙ ap (option_map (row_made news rows p)) (sym (get-entries (nodes_over h (nodes_in rows)) p))

-- ---- what holds of all entries

pub first_of : (a b : Bool) → T (a && b) → T a
first_of true b p = tt
first_of false b p = p

pub second_of : (a b : Bool) → T (a && b) → T b
second_of true b p = p
second_of false b p = absurd p

abbrev is_below : Path → Entries → Bool
is_below x es = list_all (λ (e : Path × Node). is_lt (path_cmp x e.0)) es

-- the first entry is in order before the rest, and the rest is in order
pub head_below : (e : Path × Node) (es : Entries) → T (is_sorted path_cmp (e ∷ es)) → T (is_below e.0 es)
head_below e es h = first_of (is_below e.0 es) (is_sorted path_cmp es) h

pub tail_sorted : (e : Path × Node) (es : Entries) → T (is_sorted path_cmp (e ∷ es)) → T (is_sorted path_cmp es)
tail_sorted e es h = second_of (is_below e.0 es) (is_sorted path_cmp es) h

find-below : (x : Path) (es : Entries) → T (is_below x es) → find path_cmp x es ≡ None
find-below x [] h = refl
find-below x (e ∷ es) h =
    ap (λ b. cond b (Some e.1) (find path_cmp x es)) (not_eq (path_cmp x e.0) (first_of (is_lt (path_cmp x e.0)) (is_below x es) h)) ∙ find-below x es (second_of (is_lt (path_cmp x e.0)) (is_below x es) h)
  where
    not_eq : (o : Ordering) → T (is_lt o) → is_eq o ≡ false
    not_eq Less h = refl
    not_eq Equal h = absurd h
    not_eq Greater h = refl

-- an entry that is found in the rest is found in the whole
found_later : (e : Path × Node) (es : Entries) (p : Path) (n : Node) → T (is_below e.0 es) → find path_cmp p es ≡ Some n → find path_cmp p (e ∷ es) ≡ Some n
found_later e es p n below f = elim (same_path p e.0) as (λ b. same_path p e.0 ≡ b → cond b (Some e.1) (find path_cmp p es) ≡ Some n) [
  | true ↦ λ t. let bad : None ≡ Some n = sym (find-below e.0 es below) ∙ ap (λ q. find path_cmp q es) (sym (same_path-true p e.0 t)) ∙ f in cc
  | false ↦ λ t. f
] refl

-- what holds of the row of each node that is found holds of all rows
all_made : (Q : NodeRow → Type 0) (news : List NewList) (rows : List NodeRow) (es : Entries) → T (is_sorted path_cmp es) → ((p : Path) (n : Node) → find path_cmp p es ≡ Some n → Q (row_made news rows p n)) → AllByRecursion Q (map (made news rows) es)
all_made Q news rows [] sorted each = tt
all_made Q news rows (e ∷ es) sorted each =
    (each e.0 e.1 (ap (λ b. cond b (Some e.1) (find path_cmp e.0 es)) (same_path-refl e.0)), all_made Q news rows es (tail_sorted e es sorted) (λ p n f. each p n (found_later e es p n (head_below e es sorted) f)))

module _ {P : Type 0} where
  pub all_over : (Q : NodeRow → Type 0) (h : Held P) (news : List NewList) (rows : List NodeRow) → ((p : Path) (n : Node) → get (nodes_over h (nodes_in rows)) p ≡ Some n → Q (row_made news rows p n)) → AllByRecursion Q (rows_over h news rows)
  unfolding rows_over
  all_over Q h news rows each =
      let nodes = nodes_over h (nodes_in rows) in
      all_made Q news rows (entries nodes) (entries_sorted nodes) (λ p n f. each p n (get-entries nodes p ∙ f))
