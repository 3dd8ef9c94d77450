-- Rows that are a tree's.
use Rattle.std.proofs.Common.{◌≡◌, ◌≢◌, ◌⊎◌, inl, inr, ℕ, ◌+◌, Bool, true, false, cond, not, ◌&&◌, ◌||◌, List, [], ◌∷◌, ◌++◌, length, Option, Some, None, option_map, is_some, refl, sym, ◌∙◌, ap, subst, append_assoc}
use Rattle.std.specs.Prelude.{Contains, find, Result, Ok, Err}
use Rattle.std.specs.declared.cmp.Ordering.{Ordering}
use Rattle.std.specs.declared.cmp.Ordering.TheVariants.{Less, Equal, Greater}
use Rattle.std.specs.Ordering.{is_lt, is_eq}
use Rattle.std.specs.List.{list_any}
use Rattle.std.specs.Result.{result_ok}
use Rattle.std.proofs.lemmas.List.Elements.{All-contains, All-from_recursion, Contains-append_left, Contains-append_right, Contains-push}
use Rattle.flat_tables.specs.Rows.{Ascends}
use Rattle.ice_ids.specs.declared.Id8.{Id8}
use Rattle.ice_ids.specs.Text.{same_id8}
use Rattle.ice_ids.proofs.TextLaws.{same_id8-true, same_id8-self}
use Rattle.zarr_path.specs.Paths.{path_cmp, same_path, root, parent_of, is_path}
use Rattle.zarr_path.proofs.OrderLaws.{total, same_path-true, same_path-refl}
use Rattle.zarr_meta.specs.declared.faults.MetaFault.{MetaFault}
use Rattle.zarr_meta.specs.declared.views.MetaView.{MetaView}
use Rattle.zarr_meta.specs.declared.views.MetaView.TheVariants as view
use Rattle.zarr_meta.specs.Meta.{meta_of}
use Rattle.zarr_tree.specs.Nodes.{Node, is_metadata, is_group, is_group_view}
use Rattle.zarr_tree.specs.Trees.{Tree, HasGroup, IsWellFormed, node_at}
use Rattle.snapshot_file.specs.declared.nodes.NodeKind.{NodeKind}
use Rattle.snapshot_file.specs.declared.nodes.NodeKind.TheVariants.{Group, Array}
use Rattle.snapshot_file.specs.declared.nodes.NodeRow.{NodeRow}
use Rattle.snapshot_file.specs.declared.snapshot.SnapshotFile.{SnapshotFile}
use Rattle.snapshot_file.specs.Snapshots.{node_key}
use Rattle.snapshot_file.specs.Layout.{IsNode}
use Rattle.held_snapshot.specs.LookUp.{is_array, row_at}
use Rattle.repo_objects.specs.declared.bad_objects.Bad.{Bad}
use Rattle.repo_objects.specs.declared.bad_objects.Bad.TheVariants as bad
use Rattle.repo_objects.specs.Readings.{kind_fault, row_fault, first_bad}
use Rattle.repo_objects.specs.Trees.{Puts, node_of, tree_under}
use Rattle.repo_objects.specs.Laws.{IsProper}
use Rattle.repo_objects.proofs.Rows.{node_at_row}
use Rattle.store_api.proofs.SameTree.{find-contains}
use Rattle.intact.specs.Rows.{has_node, is_group_row, stands, is_well, unwell_behind, first_unwell}
use Rattle.ice_ids.proofs.Elements.{first-is, later-is, first-or-later, none-in}

-- ---- tests
pub both-true : (a b : Bool) → (a && b) ≡ true → (a ≡ true) × (b ≡ true)
both-true true b e = (refl, e)
both-true false b e = absurd cc

or-else : (a b : Bool) → (a || b) ≡ true → (a ≡ true) ⊎ (b ≡ true)
or-else true b e = inl refl
or-else false b e = inr e

not-true : (b : Bool) → not b ≡ true → b ≡ false
not-true true e = absurd cc
not-true false e = refl

pub differ : (b : Bool) → b ≡ false → b ≡ true → ⊥
differ b e f = cc

pub find-true : {X : Type 0} (test : X → Bool) (xs : List X) (x : X) → find test xs ≡ Some x → test x ≡ true
find-true test [] x e = absurd cc
find-true test (y ∷ ys) x e = split (find-true test ys x) (test y) refl e
  where
    split : (find test ys ≡ Some x → test x ≡ true) → (b : Bool) → test y ≡ b → cond b (Some y) (find test ys) ≡ Some x → test x ≡ true
    split again true t f = let same : y ≡ x = cc in ap test (sym same) ∙ t
    split again false t f = again f

any-has : {X : Type 0} (test : X → Bool) (xs : List X) (x : X) → Contains xs x → test x ≡ true → list_any test xs ≡ true
any-has test [] x c t = absurd (none-in x c)
any-has test (y ∷ ys) x c t = elim (first-or-later y x ys c) [
  | inl e ↦ (let here : test y ≡ true = ap test e ∙ t in rw here refl)
  | inr l ↦ or-right (test y) (list_any test ys) (any-has test ys x l t)
]
  where
    or-right : (a b : Bool) → b ≡ true → (a || b) ≡ true
    or-right true b e = refl
    or-right false b e = e

record AnyOf {X : Type 0} (test : X → Bool) (xs : List X) : Type 0 where
  one : X
  among : Contains xs one
  passes : test one ≡ true

any-of : {X : Type 0} (test : X → Bool) (xs : List X) → list_any test xs ≡ true → AnyOf test xs
any-of test [] e = absurd cc
any-of test (y ∷ ys) e = elim (or-else (test y) (list_any test ys) e) [
  | inl t ↦ record { one = y; among = first-is y ys; passes = t }
  | inr r ↦ let a = any-of test ys r in record { one = a.one; among = later-is y a.one ys a.among; passes = a.passes }
]

-- ---- the order of rows
less-is : (o : Ordering) → is_lt o ≡ true → o ≡ Less
less-is Less e = refl
less-is Equal e = absurd cc
less-is Greater e = absurd cc

above : (p : List ℕ) (rows : List NodeRow) → Ascends node_key (Some p) rows → (row : NodeRow) → Contains rows row → path_cmp p row.path ≡ Less
above p [] a row c = absurd (none-in row c)
above p (x ∷ xs) a row c = elim (first-or-later x row xs c) [
  | inl e ↦ ap (λ (r : NodeRow). path_cmp p r.path) (sym e) ∙ less-is (path_cmp p x.path) a.0
  | inr l ↦ total.trans p x.path row.path (less-is (path_cmp p x.path) a.0) (above x.path xs a.1 row l)
]

apart : (p q : List ℕ) → path_cmp p q ≡ Less → same_path p q ≡ false
apart p q e = ap is_eq e

pub row-found : (before : Option (List ℕ)) (rows : List NodeRow) → Ascends node_key before rows → (row : NodeRow) → Contains rows row → row_at rows row.path ≡ Some row
row-found before [] a row c = absurd (none-in row c)
row-found before (x ∷ xs) a row c = elim (first-or-later x row xs c) [
  | inl e ↦ ap (λ (b : Bool). cond b (Some x) (row_at xs row.path)) (ap (same_path x.path) (ap (λ (r : NodeRow). r.path) (sym e)) ∙ same_path-refl x.path) ∙ ap (λ (r : NodeRow). Some r) e
  | inr l ↦ ap (λ (b : Bool). cond b (Some x) (row_at xs row.path)) (apart x.path row.path (above x.path xs a.1 row l)) ∙ row-found (Some x.path) xs a.1 row l
]

-- a row before another has another path
before-is : (before : Option (List ℕ)) (earlier : List NodeRow) (x : NodeRow) (left : List NodeRow) → Ascends node_key before (earlier ++ x ∷ left) → (y : NodeRow) → Contains earlier y → path_cmp y.path x.path ≡ Less
before-is before [] x left a y c = absurd (none-in y c)
before-is before (z ∷ zs) x left a y c = elim (first-or-later z y zs c) [
  | inl e ↦ ap (λ (r : NodeRow). path_cmp r.path x.path) (sym e) ∙ above z.path (zs ++ x ∷ left) a.1 x (Contains-append_right zs (x ∷ left) x (first-is x left))
  | inr l ↦ before-is (Some z.path) zs x left a.1 y l
]

-- ---- rows without fault
abbrev bad_from : (at : ℕ) → List NodeRow → Option MetaFault → Option Bad
bad_from at rows (Some fault) = Some (bad.Node at fault)
bad_from at rows None = first_bad (at + 1) rows

pub faultless : (at : ℕ) (rows : List NodeRow) → first_bad at rows ≡ None → (row : NodeRow) → Contains rows row → row_fault row ≡ None
unfolding first_bad
faultless at [] h row c = absurd (none-in row c)
faultless at (x ∷ xs) h row c = by (faultless (at + 1) xs) (row_fault x) refl h
  where
    by : (first_bad (at + 1) xs ≡ None → (r : NodeRow) → Contains xs r → row_fault r ≡ None) → (o : Option MetaFault) → row_fault x ≡ o → bad_from at xs o ≡ None → row_fault row ≡ None
    by again (Some fault) e k = absurd cc
    by again None e k = elim (first-or-later x row xs c) [ inl f ↦ ap row_fault (sym f) ∙ e | inr l ↦ again k row l ]

meta-there : (kind : NodeKind) (r : Result MetaView MetaFault) → kind_fault kind r ≡ None → is_some (result_ok r) ≡ true
meta-there kind (Ok v) h = refl
meta-there kind (Err fault) h = absurd cc

group-is : (kind : NodeKind) (r : Result MetaView MetaFault) → kind_fault kind r ≡ None → not (is_array kind) ≡ true → is_group_view (result_ok r) ≡ true
group-is Group (Ok view.Group) h g = refl
group-is Group (Ok (view.Array a)) h g = absurd cc
group-is Group (Err fault) h g = absurd cc
group-is (Array shape names manifests) r h g = absurd cc

is-group : (kind : NodeKind) (r : Result MetaView MetaFault) → kind_fault kind r ≡ None → is_group_view (result_ok r) ≡ true → not (is_array kind) ≡ true
is-group Group r h g = refl
is-group (Array shape names manifests) (Ok view.Group) h g = absurd cc
is-group (Array shape names manifests) (Ok (view.Array a)) h g = absurd cc
is-group (Array shape names manifests) (Err fault) h g = absurd cc

-- ---- rows that are well
abbrev well-from : (rows earlier : List NodeRow) (z : NodeRow) (left : List NodeRow) → Bool → Option ℕ
well-from rows earlier z left b = cond b (unwell_behind rows (earlier ++ z ∷ []) left) (Some (length earlier))

record IsWellNext (rows earlier : List NodeRow) (z : NodeRow) (left : List NodeRow) : Type 0 where
  new : has_node earlier z.id ≡ false
  stood : stands rows z.path ≡ true
  rest : unwell_behind rows (earlier ++ z ∷ []) left ≡ None

well-next : (rows earlier : List NodeRow) (z : NodeRow) (left : List NodeRow) → unwell_behind rows earlier (z ∷ left) ≡ None → IsWellNext rows earlier z left
unfolding unwell_behind
well-next rows earlier z left h = by (is_well rows earlier z) refl h
  where
    by : (b : Bool) → is_well rows earlier z ≡ b → well-from rows earlier z left b ≡ None → IsWellNext rows earlier z left
    by true e k = let t = both-true (not (has_node earlier z.id)) (stands rows z.path) e in record { new = not-true (has_node earlier z.id) t.0; stood = t.1; rest = k }
    by false e k = absurd cc

-- where the left ones are well behind the earlier, none of them has an earlier one's id
later-new : (rows earlier left : List NodeRow) → unwell_behind rows earlier left ≡ None → (x y : NodeRow) → Contains earlier x → Contains left y → x.id ≡ y.id → ⊥
later-new rows earlier [] h x y c d same = absurd (none-in y d)
later-new rows earlier (z ∷ left) h x y c d same =
    let w = well-next rows earlier z left h in
    elim (first-or-later z y left d) [
      | inl e ↦ (
          let ids : x.id ≡ z.id = same ∙ ap (λ (r : NodeRow). r.id) (sym e) in
          differ (has_node earlier z.id) w.new (any-has (λ (r : NodeRow). same_id8 r.id z.id) earlier x c (ap (λ (i : Id8). same_id8 i z.id) ids ∙ same_id8-self z.id))
          )
      | inr l ↦ later-new rows (earlier ++ z ∷ []) left w.rest x y (Contains-append_left earlier (z ∷ []) x c) l same
    ]

ids-apart : (rows earlier left : List NodeRow) → unwell_behind rows earlier left ≡ None → (x y : NodeRow) → Contains left x → Contains left y → x.id ≡ y.id → x ≡ y
ids-apart rows earlier [] h x y c d same = absurd (none-in x c)
ids-apart rows earlier (z ∷ left) h x y c d same =
    let w = well-next rows earlier z left h in
    both w (ids-apart rows (earlier ++ z ∷ []) left w.rest x y) (first-or-later z x left c) (first-or-later z y left d)
  where
    both : IsWellNext rows earlier z left → (Contains left x → Contains left y → x.id ≡ y.id → x ≡ y) → (z ≡ x) ⊎ Contains left x → (z ≡ y) ⊎ Contains left y → x ≡ y
    both w again (inl e) (inl f) = sym e ∙ f
    both w again (inl e) (inr f) = absurd (later-new rows (earlier ++ z ∷ []) left w.rest z y (Contains-push earlier z) f (ap (λ (r : NodeRow). r.id) e ∙ same))
    both w again (inr e) (inl f) = absurd (later-new rows (earlier ++ z ∷ []) left w.rest z x (Contains-push earlier z) e (ap (λ (r : NodeRow). r.id) f ∙ sym same))
    both w again (inr e) (inr f) = again e f same

each-stands : (rows earlier left : List NodeRow) → unwell_behind rows earlier left ≡ None → (x : NodeRow) → Contains left x → stands rows x.path ≡ true
each-stands rows earlier [] h x c = absurd (none-in x c)
each-stands rows earlier (z ∷ left) h x c =
    let w = well-next rows earlier z left h in
    elim (first-or-later z x left c) [
      | inl e ↦ ap (λ (r : NodeRow). stands rows r.path) (sym e) ∙ w.stood
      | inr l ↦ each-stands rows (earlier ++ z ∷ []) left w.rest x l
    ]

-- ---- nodes and rows
pub record RowAt (rows : List NodeRow) (p : List ℕ) (n : Node) : Type 0 where
  pub row : NodeRow
  pub at : row_at rows p ≡ Some row
  pub node_is : node_of row ≡ n
  pub among : Contains rows row
  pub path_is : row.path ≡ p

pub row-there : (rows : List NodeRow) (p : List ℕ) (row : NodeRow) → row_at rows p ≡ Some row → Contains rows row × (row.path ≡ p)
row-there rows p row e = (find-contains (λ (r : NodeRow). same_path r.path p) rows row e, same_path-true row.path p (find-true (λ (r : NodeRow). same_path r.path p) rows row e))

pub row-of_node : (puts : Puts) (rows : List NodeRow) (p : List ℕ) (n : Node) → node_at (tree_under puts rows) p ≡ Some n → RowAt rows p n
row-of_node puts rows p n f = by (row_at rows p) refl (sym (node_at_row rows p) ∙ f)
  where
    by : (o : Option NodeRow) → row_at rows p ≡ o → option_map node_of o ≡ Some n → RowAt rows p n
    by None e k = absurd cc
    by (Some row) e k = let t = row-there rows p row e in record { row = row; at = e; node_is = cc; among = t.0; path_is = t.1 }

pub node-of_row : (puts : Puts) (rows : List NodeRow) (p : List ℕ) (row : NodeRow) → row_at rows p ≡ Some row → node_at (tree_under puts rows) p ≡ Some (node_of row)
node-of_row puts rows p row e = node_at_row rows p ∙ ap (option_map node_of) e

-- ---- a snapshot's rows
module _ (puts : Puts) (snap : SnapshotFile) (proper : IsProper snap) where
  abbrev rows : List NodeRow
  rows = snap.nodes

  abbrev tree : Tree
  tree = tree_under puts rows

  row-node : (row : NodeRow) → Contains rows row → IsNode row
  row-node row c = All-contains IsNode rows row (All-from_recursion IsNode rows proper.sized.nodes) c

  fault-none : (row : NodeRow) → Contains rows row → row_fault row ≡ None
  fault-none row c = faultless 0 rows proper.texts row c

  pub nodes-named : (p : List ℕ) (n : Node) → node_at tree p ≡ Some n → is_path p ≡ true
  nodes-named p n f = let r = row-of_node puts rows p n f in ap is_path (sym r.path_is) ∙ (row-node r.row r.among).path

  pub nodes-readable : (p : List ℕ) (n : Node) → node_at tree p ≡ Some n → is_metadata n.text ≡ true
  nodes-readable p n f =
      let r = row-of_node puts rows p n f in
      ap (λ (m : Node). is_metadata m.text) (sym r.node_is) ∙ meta-there r.row.kind (meta_of r.row.user_data) (fault-none r.row r.among)

  module _ (well : first_unwell rows ≡ None) where
    pub nodes-distinct : (p q : List ℕ) (m n : Node) → node_at tree p ≡ Some m → node_at tree q ≡ Some n → m.id ≡ n.id → p ≡ q
    nodes-distinct p q m n f g same =
        let r = row-of_node puts rows p m f in
        let s = row-of_node puts rows q n g in
        let ids : r.row.id ≡ s.row.id = ap (λ (x : Node). x.id) r.node_is ∙ (same ∙ ap (λ (x : Node). x.id) (sym s.node_is)) in
        sym r.path_is ∙ (ap (λ (x : NodeRow). x.path) (ids-apart rows [] rows well r.row s.row r.among s.among ids) ∙ s.path_is)

    pub nodes-parents : (p : List ℕ) (n : Node) → node_at tree p ≡ Some n → p ≢ root → HasGroup tree (parent_of p)
    nodes-parents p n f other =
        let r = row-of_node puts rows p n f in
        let stood : stands rows p ≡ true = ap (stands rows) (sym r.path_is) ∙ each-stands rows [] rows well r.row r.among in
        elim (or-else (same_path p root) (is_group_row (row_at rows (parent_of p))) stood) [
          | inl e ↦ absurd (other (same_path-true p root e))
          | inr g ↦ by (row_at rows (parent_of p)) refl g
        ]
      where
        by : (o : Option NodeRow) → row_at rows (parent_of p) ≡ o → is_group_row o ≡ true → HasGroup tree (parent_of p)
        by None e k = absurd cc
        by (Some row) e k = record { node = node_of row; found = node-of_row puts rows (parent_of p) row e; group = group-is row.kind (meta_of row.user_data) (fault-none row (row-there rows (parent_of p) row e).0) k }

  -- ---- and back: where they have a well-formed tree, they are well
  module _ (formed : IsWellFormed tree) where
    ascend : Ascends node_key None rows
    ascend = proper.writable.nodes

    node-there : (row : NodeRow) → Contains rows row → node_at tree row.path ≡ Some (node_of row)
    node-there row c = node-of_row puts rows row.path row (row-found None rows ascend row c)

    stands-there : (row : NodeRow) → Contains rows row → stands rows row.path ≡ true
    stands-there row c = by (same_path row.path root) refl
      where
        by_group : HasGroup tree (parent_of row.path) → is_group_row (row_at rows (parent_of row.path)) ≡ true
        by_group g =
            let r = row-of_node puts rows (parent_of row.path) g.node g.found in
            ap is_group_row r.at ∙ is-group r.row.kind (meta_of r.row.user_data) (fault-none r.row r.among) (ap (λ (m : Node). is_group m.text) r.node_is ∙ g.group)

        by : (b : Bool) → same_path row.path root ≡ b → (b || is_group_row (row_at rows (parent_of row.path))) ≡ true
        by true e = refl
        by false e = by_group (formed.parents row.path (node_of row) (node-there row c) (λ same. let yes : same_path row.path root ≡ true = ap (same_path row.path) (sym same) ∙ same_path-refl row.path in differ (same_path row.path root) e yes))

    new-there : (earlier : List NodeRow) (x : NodeRow) (left : List NodeRow) → rows ≡ earlier ++ x ∷ left → has_node earlier x.id ≡ false
    new-there earlier x left is = by (has_node earlier x.id) refl
      where
        by : (b : Bool) → has_node earlier x.id ≡ b → b ≡ false
        by false e = refl
        by true e =
            let a = any-of (λ (r : NodeRow). same_id8 r.id x.id) earlier e in
            let here : Contains rows x = subst (λ (l : List NodeRow). Contains l x) (sym is) (Contains-append_right earlier (x ∷ left) x (first-is x left)) in
            let there : Contains rows a.one = subst (λ (l : List NodeRow). Contains l a.one) (sym is) (Contains-append_left earlier (x ∷ left) a.one a.among) in
            let same : a.one.path ≡ x.path = formed.distinct a.one.path x.path (node_of a.one) (node_of x) (node-there a.one there) (node-there x here) (same_id8-true a.one.id x.id a.passes) in
            let less = before-is None earlier x left (subst (Ascends node_key None) is ascend) a.one a.among in
            let yes : same_path a.one.path x.path ≡ true = ap (same_path a.one.path) (sym same) ∙ same_path-refl a.one.path in
            absurd (differ (same_path a.one.path x.path) (apart a.one.path x.path less) yes)

    well-there : (earlier left : List NodeRow) → rows ≡ earlier ++ left → unwell_behind rows earlier left ≡ None
    unfolding unwell_behind
    well-there earlier [] is = refl
    well-there earlier (x ∷ left) is =
        let here : Contains rows x = subst (λ (l : List NodeRow). Contains l x) (sym is) (Contains-append_right earlier (x ∷ left) x (first-is x left)) in
        let tests : is_well rows earlier x ≡ true = rw (new-there earlier x left is, stands-there x here) refl in
        ap (well-from rows earlier x left) tests ∙ well-there (earlier ++ x ∷ []) left (is ∙ sym (append_assoc earlier (x ∷ []) left))

    pub rows-well : first_unwell rows ≡ None
    rows-well = well-there [] rows refl
