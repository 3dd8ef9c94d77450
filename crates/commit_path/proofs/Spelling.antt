-- What is so of a session that can be written: its log and its snapshot are read again, and its tree is the base's under its
-- changes.
use Rattle.std.proofs.Common.{◌≡◌, inl, inr, ℕ, ◌<◌, ◌≤◌, ◌^◌, Bool, true, false, cond, ◌&&◌, ◌||◌, List, [], ◌∷◌, map, length, refl, sym, ◌∙◌, ap, subst, arith}
use Rattle.zarr_path.proofs.OrderLaws.{same_path-refl}
use Rattle.std.specs.Prelude.{nat_lt, find, Option, Some, None, option_map}
use Rattle.std.specs.List.{AllByRecursion, list_all, list_any, filter}
use Rattle.std.specs.Str.{IsUtf8}
use Rattle.std.specs.FinMap.{get, len, entries}
use Rattle.std.proofs.lemmas.Bool.Decides.{nat_tests}
use Rattle.ice_ids.specs.declared.Id8.{Id8}
use Rattle.ice_ids.specs.declared.Id12.{Id12}
use Rattle.ice_ids.specs.Text.{IsId8, IsId12, same_id8}
use Rattle.flat_tables.specs.File.{file_limit}
use Rattle.zarr_tree.specs.declared.lists.Touched.{Touched as Lists}
use Rattle.zarr_tree.specs.Nodes.{Node, is_array, are_low, same_numbers}
use Rattle.zarr_meta.specs.Grids.{most_chunks}
use Rattle.zarr_tree.specs.Edits.{most_nodes}
use Rattle.zarr_tree.specs.Changes.{IsOver, IsNormal}
use Rattle.zarr_tree.specs.Touched.{lists, lists_index, Touches}
use Rattle.zarr_tree.specs.Held.{HeldEntry, entry_in, indices_in_order, ids_of, indices_of, written_rows, touched, nodes_over}
use Rattle.zarr_tree.proofs.Apply.{id-refl, id-true, node_cases}
use Rattle.zarr_tree.proofs.Ordered.{lists-in_order, lists_index-in_order}
use Rattle.zarr_tree.proofs.Listing.{ordered-law, touched-law}
use Rattle.manifest_file.specs.declared.manifest.Place.{Place}
use Rattle.snapshot_file.specs.declared.nodes.NodeRow.{NodeRow}
use Rattle.snapshot_file.specs.declared.snapshot.ManifestInfo.{ManifestInfo}
use Rattle.snapshot_file.specs.Layout.{snapshot_bytes, IsNode}
use Rattle.txn_file.specs.Layout.{log_file, IsLog, IsArray, IsOrdered}
use Rattle.txn_file.proofs.Orders.{both_orders}
use Rattle.repo_objects.specs.Readings.{snapshot_by, log_by}
use Rattle.repo_objects.specs.Trees.{Puts, bytes_at, tree_under, nodes_in, node_of, row_at}
use Rattle.file_fields.specs.Fields.{IsIndex}
use Rattle.repo_objects.specs.Laws.{SnapshotLaw, LogLaw, RefLaw, InitialLaw, IsProper, ManifestLaw}
use Rattle.changed_snapshot.proofs.Found.{row_has}
use Rattle.repo_objects.proofs.Rows.{node_at_row}
use Rattle.session.specs.Sessions.{SessionState, base_nodes, nodes_seen, base_tree, changes_in, overlay}
use Rattle.commit_path.specs.Committing.{log_for, snap_for, is_long}
use Rattle.commit_path.specs.Spelled.{IsSpelled}
use Rattle.changed_snapshot.specs.declared.new_snapshot.NewList.{NewList}
use Rattle.changed_snapshot.specs.Laws.{AreMerged, NodesLaw, TreeLaw, FrozenLaw, RankedLaw, ProperLaw, OwnLaw}
use Rattle.changed_snapshot.specs.Rows.{rows_over, snapshot_over}
use Rattle.manifest_index.specs.Laws.{MergedLaw, NewListLaw, ExtentsLaw}
use Rattle.changed_snapshot.specs.Laws as written
use Rattle.commit_path.proofs.Rewriting.{each-entry}

-- what is written is read again
pub record Spellings : Type 0 where
  pub snap : SnapshotLaw
  pub log : LogLaw
  pub reference : RefLaw
  pub initial : InitialLaw
  pub proper : ProperLaw
  pub nodes : NodesLaw
  pub tree : TreeLaw
  pub frozen : FrozenLaw
  pub ranked : RankedLaw
  pub own : OwnLaw
  pub manifest : ManifestLaw
  pub merged : MergedLaw
  pub lists : NewListLaw
  pub extents : ExtentsLaw

-- ---- the tree
pub lies-over : (puts : Puts) (s : SessionState) → IsSpelled s → IsOver (changes_in puts s) (base_tree puts s)
lies-over puts s w = record { readable = λ p n e. (w.added p n e).metadata; free = w.free }

pub tree-over : (L : Spellings) (puts : Puts) (s : SessionState) (news : List NewList) → AreMerged puts s.held s.rows news → IsNormal (changes_in puts s) (base_tree puts s) → tree_under puts (rows_over s.held news s.rows) ≡ overlay puts s
tree-over L puts s news m n = L.tree puts s.held news s.rows (L.frozen.normal puts s.held s.rows n) (L.ranked puts s.held s.rows n) m

-- ---- the log
or-right : (a b : Bool) → b ≡ true → (a || b) ≡ true
or-right true b e = refl
or-right false b e = e

-- what holds of each id that is listed
all-listed : (P : Id8 → Type 0) (ids : List Id8) → ((id : Id8) → lists ids id ≡ true → P id) → AllByRecursion P ids
all-listed P [] f = tt
all-listed P (x ∷ xs) f = (f x (ap (λ (b : Bool). b || lists xs x) (id-refl x)), all-listed P xs (λ id e. f id (or-right (same_id8 x id) (lists xs id) e)))

-- the node of each row of a base has an id
row-ids : (rows : List NodeRow) → AllByRecursion IsNode rows → (p : List ℕ) (n : Node) → get (nodes_in rows) p ≡ Some n → IsId8 n.id
row-ids rows all p n e = by_row (row_at rows p) refl (sym (node_at_row rows p) ∙ e)
  where
    by_row : (o : Option NodeRow) → row_at rows p ≡ o → option_map node_of o ≡ Some n → IsId8 n.id
    by_row None r k = cc
    by_row (Some row) r k = let same : node_of row ≡ n = cc in subst (λ (m : Node). IsId8 m.id) same (row_has IsNode rows p row all r).id

base-ids : (s : SessionState) → IsSpelled s → (p : List ℕ) (n : Node) → get (base_nodes s) p ≡ Some n → IsId8 n.id
base-ids s w = row-ids s.rows (subst (AllByRecursion IsNode) w.of_snapshot.rows w.of_snapshot.proper.sized.nodes)

-- ---- the arrays that are listed
kept : {A : Type 0} (P : A → Type 0) (test : A → Bool) (xs : List A) → AllByRecursion P xs → AllByRecursion P (filter test xs)
kept P test [] a = tt
kept P test (x ∷ xs) a = elim (test x) as (λ b. AllByRecursion P (cond b (x ∷ filter test xs) (filter test xs))) [ true ↦ (a.0, kept P test xs a.1) | false ↦ kept P test xs a.1 ]

abbrev Row : Type 0
Row = List ℕ × Node

-- an id that rows list is that of one of them
listed-row : (P : Row → Type 0) (rows : List Row) → AllByRecursion P rows → (id : Id8) → lists (map (λ (row : Row). row.1.id) rows) id ≡ true → (row : Row) × P row × (row.1.id ≡ id)
listed-row P [] a id e = cc
listed-row P (row ∷ rows) a id e = elim (same_id8 row.1.id id) as (λ b. same_id8 row.1.id id ≡ b → (b || lists (map (λ (row : Row). row.1.id) rows) id) ≡ true → (row : Row) × P row × (row.1.id ≡ id)) [
  | true ↦ λ s k. (row, a.0, id-true row.1.id id s)
  | false ↦ λ s k. listed-row P rows a.1 id k
] refl e

-- each node of a session's tree has an id
pub node-id : (s : SessionState) → IsSpelled s → (p : List ℕ) (n : Node) → get (nodes_seen s) p ≡ Some n → IsId8 n.id
node-id s w p n e = elim (node_cases (changes_in no_puts s) (base_tree no_puts s) p n e) [
  | inl added ↦ (w.added p n added).id
  | inr own ↦ subst (λ (m : Node). IsId8 m.id) (sym own.same) (base-ids s w p own.before own.found)
]
  where
    no_puts : Puts
    no_puts = record { manifest = λ m. None; chunk = λ m. None }

number-fits : (n : ℕ) → nat_lt n most_chunks ≡ true → n < 2 ^ 32
number-fits n e = grind (arith, nat_tests)

both-true : (a b : Bool) → (a && b) ≡ true → (a ≡ true) × (b ≡ true)
both-true true b e = (refl, e)
both-true false b e = cc

-- low numbers have their width
pub low-index : (i : List ℕ) → are_low i ≡ true → IsIndex i
low-index [] e = tt
low-index (n ∷ ns) e = let p = both-true (nat_lt n most_chunks) (list_all (λ k. nat_lt k most_chunks) ns) e in (number-fits n p.0, low-index ns p.1)

numbers-refl : (i : List ℕ) → same_numbers i i ≡ true
numbers-refl i = same_path-refl i

-- what holds of each index that is listed
all-indices : (P : List ℕ → Type 0) (xs : List (List ℕ)) → ((i : List ℕ) → lists_index xs i ≡ true → P i) → AllByRecursion P xs
all-indices P [] f = tt
all-indices P (x ∷ xs) f = (f x (ap (λ (b : Bool). b || lists_index xs x) (numbers-refl x)), all-indices P xs (λ i e. f i (or-right (same_numbers x i) (lists_index xs i) e)))

-- an index that is listed has an entry
listed-entry : (es : List (HeldEntry Place)) (id : Id8) (i : List ℕ) → lists_index (indices_of es id) i ≡ true → (e : Option Place) × (entry_in es id i ≡ Some e)
listed-entry [] id i e = cc
listed-entry (x ∷ xs) id i e = elim (same_id8 x.0 id) as (λ b. lists_index (map (λ (row : HeldEntry Place). row.1) (cond b (x ∷ filter (λ (row : HeldEntry Place). same_id8 row.0 id) xs) (filter (λ (row : HeldEntry Place). same_id8 row.0 id) xs))) i ≡ true → (e : Option Place) × (option_map (λ (row : HeldEntry Place). row.2) (cond (b && same_numbers x.1 i) (Some x) (find (λ (row : HeldEntry Place). same_id8 row.0 id && same_numbers row.1 i) xs)) ≡ Some e)) [
  | true ↦ elim (same_numbers x.1 i) as (λ b. (b || lists_index (indices_of xs id) i) ≡ true → (e : Option Place) × (option_map (λ (row : HeldEntry Place). row.2) (cond b (Some x) (find (λ (row : HeldEntry Place). same_id8 row.0 id && same_numbers row.1 i) xs)) ≡ Some e)) [
    | true ↦ λ k. (x.2, refl)
    | false ↦ λ k. listed-entry xs id i k
  ]
  | false ↦ λ k. listed-entry xs id i k
] e

-- what holds of each value of a list of ids
all-mapped : {B : Type 0} (Q : B → Type 0) (f : Id8 → B) (ids : List Id8) → ((id : Id8) → lists ids id ≡ true → Q (f id)) → AllByRecursion Q (map f ids)
all-mapped Q f [] h = tt
all-mapped Q f (x ∷ xs) h = (h x (ap (λ (b : Bool). b || lists xs x) (id-refl x)), all-mapped Q f xs (λ id e. h id (or-right (same_id8 x id) (lists xs id) e)))

array-is : (s : SessionState) → IsSpelled s → (id : Id8) → lists (ids_of is_array (written_rows s.held (base_nodes s))) id ≡ true → IsArray (record { node = id; chunks = indices_in_order (indices_of s.held.chunks id) })
array-is s w id e = record {
  node =
      let found : AllByRecursion (λ (row : Row). get (nodes_seen s) row.0 ≡ Some row.1) (filter (λ (row : Row). is_array row.1.text) (written_rows s.held (base_nodes s))) =
      kept _ (λ (row : Row). is_array row.1.text) (written_rows s.held (base_nodes s)) (kept _ (λ (row : Row). list_any (λ (entry : HeldEntry Place). same_id8 entry.0 row.1.id) s.held.chunks) (entries (nodes_seen s)) (each-entry (nodes_seen s))) in
      let row = listed-row (λ (row : Row). get (nodes_seen s) row.0 ≡ Some row.1) (filter (λ (row : Row). is_array row.1.text) (written_rows s.held (base_nodes s))) found id (sym (lists-in_order (map (λ (row : Row). row.1.id) (filter (λ (row : Row). is_array row.1.text) (written_rows s.held (base_nodes s)))) id) ∙ e) in
      subst IsId8 row.2 (node-id s w row.0.0 row.0.1 row.1);
  chunks = all-indices IsIndex (indices_in_order (indices_of s.held.chunks id)) (λ i k.
      let entry = listed-entry s.held.chunks id i (sym (lists_index-in_order (indices_of s.held.chunks id) i) ∙ k) in
      low-index i (w.chunks id i entry.0 entry.1).0);
}

all-arrays : (s : SessionState) → IsSpelled s → AllByRecursion IsArray (touched s.held (base_nodes s)).updated_chunks
all-arrays s w = all-mapped IsArray (λ (id : Id8). record { node = id; chunks = indices_in_order (indices_of s.held.chunks id) }) (ids_of is_array (written_rows s.held (base_nodes s))) (array-is s w)

log-is : (s : SessionState) (id : Id12) → IsSpelled s → IsId12 id → IsLog (log_for s id)
log-is s id w i =
    let puts : Puts = record { manifest = λ m. None; chunk = λ m. None } in
    let t : Touches (changes_in puts s) (base_tree puts s) (touched s.held (base_nodes s)) = touched-law {P = Place} (bytes_at puts) s.held (base_tree puts s) in
    record {
      id = i;
      new_groups = all-listed IsId8 _ (λ x e. let n = (t.new_groups x).0 e in subst IsId8 n.same (w.added n.path n.node n.added).id);
      new_arrays = all-listed IsId8 _ (λ x e. let n = (t.new_arrays x).0 e in subst IsId8 n.same (w.added n.path n.node n.added).id);
      deleted_groups = all-listed IsId8 _ (λ x e. let n = (t.deleted_groups x).0 e in subst IsId8 n.same (base-ids s w n.path n.node n.found));
      deleted_arrays = all-listed IsId8 _ (λ x e. let n = (t.deleted_arrays x).0 e in subst IsId8 n.same (base-ids s w n.path n.node n.found));
      updated_arrays = all-listed IsId8 _ (λ x e. let n = (t.updated_arrays x).0 e in subst IsId8 n.same (base-ids s w n.path n.node n.found));
      updated_groups = all-listed IsId8 _ (λ x e. let n = (t.updated_groups x).0 e in subst IsId8 n.same (base-ids s w n.path n.node n.found));
      updated_chunks = all-arrays s w;
    }

within : (a b : ℕ) → nat_lt a b ≡ false → b ≤ a
within a b e = grind (arith, nat_tests)

pub not-long : (file : List ℕ) → is_long file ≡ false → length file ≤ file_limit
not-long file e = within file_limit (length file) e

-- its lists stand in order
pub log-ordered : (s : SessionState) (id : Id12) (l : Lists) → l ≡ touched s.held (base_nodes s) → IsOrdered (record { id = id; lists = l })
log-ordered s id l e = subst (λ (x : Lists). IsOrdered (record { id = id; lists = x })) (sym e) (both_orders.writable id (touched s.held (base_nodes s)) (ordered-law {P = Place} s.held (base_nodes s)))

module _ (L : Spellings) where
  pub log-read : (s : SessionState) (id : Id12) → IsSpelled s → IsId12 id → is_long (log_file (log_for s id)) ≡ false → log_by id (log_file (log_for s id)) ≡ Some (log_for s id)
  log-read s id w i short = L.log (log_for s id) (log-is s id w i) (log-ordered s id (touched s.held (base_nodes s)) refl) (not-long (log_file (log_for s id)) short)

  -- ---- the snapshot
  abbrev Over : SessionState → List NewList → List ℕ → Id12 → ℕ → List NodeRow → List ManifestInfo → Type 0
  Over s news message id flushed rows files = IsProper (snapshot_over s.held news rows files (record { id = id; parent = s.base; flushed_at = flushed }) message s.props)

  module _ (s : SessionState) (message : List ℕ) (news : List NewList) (id : Id12) (flushed : ℕ) (w : IsSpelled s) (sized : written.AreSized news) (i : IsId12 id) (f : flushed < 2 ^ 64) (m : IsUtf8 message) where
    snap-proper : IsProper (snap_for s message news id flushed)
    snap-proper =
        let o = w.of_snapshot in
        let few : len (nodes_over s.held (nodes_in o.file.nodes)) ≤ most_nodes = subst (λ (rows : List NodeRow). len (nodes_over s.held (nodes_in rows)) ≤ most_nodes) (sym o.rows) w.few in
        let proper : Over s news message id flushed o.file.nodes o.file.manifest_files = L.proper o.file s.held news (record { id = id; parent = s.base; flushed_at = flushed }) message s.props o.proper w.added w.texts sized (record { id = i; parent = w.base; flushed_at = f }) m w.props few in
        subst (Over s news message id flushed s.rows) o.files (subst (λ (rows : List NodeRow). Over s news message id flushed rows o.file.manifest_files) o.rows proper)

    pub snap-read : is_long (snapshot_bytes (snap_for s message news id flushed)) ≡ false → snapshot_by id (snapshot_bytes (snap_for s message news id flushed)) ≡ Some (snap_for s message news id flushed)
    snap-read short = L.snap.written (snap_for s message news id flushed) snap-proper (not-long (snapshot_bytes (snap_for s message news id flushed)) short)
