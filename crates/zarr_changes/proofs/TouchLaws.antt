-- What is touched, gathered row by row.
use Rattle.std.proofs.Common.{◌≡◌, ℕ, zero, suc, ◌+◌, ◌≤◌, Bool, true, false, cond, not, ◌&&◌, ◌||◌, List, [], ◌∷◌, ◌++◌, map, drop, length, append_assoc, append-nil, Option, Some, None, is_some, refl, sym, ap, ◌∙◌, ◌⊎◌, inl, inr, add-one, arith}
use Rattle.std.specs.Prelude.{slice_get, nat_eq}
use Rattle.std.specs.Option.{option_or}
use Rattle.std.specs.Ordering.{eq_by_cmp, is_eq}
use Rattle.std.specs.Cmp.{tied_itself}
use Rattle.std.specs.List.{filter, list_any, list_all}
use Rattle.std.specs.FinMap as map
use Rattle.std.specs.FinMap.{FinMap, get, insert, keys, contains_key-keys, entries, from_entries, len, len-entries, get-insert, get-from_entries, same_map}
use Rattle.ice_ids.specs.declared.Id8.{Id8}
use Rattle.ice_ids.specs.Text.{same_id8, id8_cmp}
use Rattle.std.proofs.lemmas.Bool.{false_from_ne_true}
use Rattle.zarr_path.specs.Paths.{path_cmp}
use Rattle.zarr_path.proofs.PathLaws.{by_numbers}
use Rattle.zarr_meta.specs.declared.views.MetaView.{MetaView}
use Rattle.zarr_meta.specs.declared.views.MetaView.TheVariants as view
use Rattle.zarr_meta.specs.Meta.{view_in}
use Rattle.zarr_tree.specs.declared.nodes.Found.{Found}
use Rattle.zarr_tree.specs.Nodes.{Node, is_metadata, is_group, is_array, is_group_view, array_of_view}
use Rattle.zarr_tree.specs.Changes.{is_gone}
use Rattle.zarr_tree.specs.Touched.{lists, is_untouched}
use Rattle.zarr_tree.specs.Held.{Held, Rows, meta_in, nodes_over, ids_in_order, ids_of, HeldEntry, gone_rows, updated_rows, written_rows, touched}
use Rattle.zarr_changes.specs.declared.net.Kinds.{Kinds}
use Rattle.zarr_changes.specs.Edits.{with_id}
use Rattle.zarr_changes.specs.inside.Touching.{no_kinds, with_kind, with_kinds, IsOf, has_metadata, is_updated, touches_own, chunk_lists}
use Rattle.zarr_tree.proofs.RowLaws.{entries-made, made_entries}
use Rattle.zarr_changes.proofs.IdLaws.{id_total, id_exact, marks}
use Rattle.zarr_changes.proofs.Walking.{nothing_gone}

-- ---- ids in order, one after another
abbrev Marks : Type 0
Marks = FinMap id8_cmp (Unit {0})

marks-keys : (es : List (Id8 × Unit {0})) → marks (map (λ (e : Id8 × Unit {0}). e.0) es) ≡ es
marks-keys [] = refl
marks-keys (e ∷ es) = ap (λ (x : List (Id8 × Unit {0})). e ∷ x) (marks-keys es)

find-append : (q : Id8) (xs ys : List (Id8 × Unit {0})) → map.find id8_cmp q (xs ++ ys) ≡ option_or (map.find id8_cmp q xs) (map.find id8_cmp q ys)
find-append q [] ys = refl
find-append q (x ∷ xs) ys = elim (eq_by_cmp id8_cmp q x.0) as (λ b. cond b (Some x.1) (map.find id8_cmp q (xs ++ ys)) ≡ option_or (cond b (Some x.1) (map.find id8_cmp q xs)) (map.find id8_cmp q ys)) [ true ↦ refl | false ↦ find-append q xs ys ]

marks-append : (xs ys : List Id8) → marks (xs ++ ys) ≡ marks xs ++ marks ys
marks-append [] ys = refl
marks-append (x ∷ xs) ys = ap (λ (y : List (Id8 × Unit {0})). (x, tt {0}) ∷ y) (marks-append xs ys)

one_or : (b : Bool) (o : Option (Unit {0})) → option_or o (cond b (Some (tt {0})) None) ≡ cond b (Some (tt {0})) o
one_or true None = refl
one_or true (Some u) = refl
one_or false None = refl
one_or false (Some u) = refl

-- one more id
ids-push : (xs : List Id8) (x : Id8) → ids_in_order (xs ++ x ∷ []) ≡ with_id (ids_in_order xs) x
ids-push xs x = ap keys (same_map id_total id_exact (from_entries (marks (xs ++ x ∷ []))) (insert (from_entries (marks (ids_in_order xs))) x (tt {0})) alike)
  where
    made : from_entries {R = id8_cmp} (marks (ids_in_order xs)) ≡ from_entries (marks xs)
    made = ap (from_entries {R = id8_cmp}) (marks-keys (entries (from_entries {R = id8_cmp} (marks xs)))) ∙ made_entries id8_cmp id_total id_exact (from_entries (marks xs))

    alike : (q : Id8) → get (from_entries {R = id8_cmp} (marks (xs ++ x ∷ []))) q ≡ get (insert (from_entries {R = id8_cmp} (marks (ids_in_order xs))) x (tt {0})) q
    alike q =
        get-from_entries id_total (marks (xs ++ x ∷ [])) q ∙ ap (map.find id8_cmp q) (marks-append xs (x ∷ [])) ∙ find-append q (marks xs) (marks (x ∷ []))
        ∙ one_or (eq_by_cmp id8_cmp q x) (map.find id8_cmp q (marks xs))
        ∙ ap (cond (eq_by_cmp id8_cmp q x) (Some (tt {0}))) (sym (ap (λ (m : Marks). get m q) made ∙ get-from_entries id_total (marks xs) q))
        ∙ sym (get-insert id_total (from_entries (marks (ids_in_order xs))) x (tt {0}) q)

no_ids : ids_in_order [] ≡ []
no_ids = ap (map (λ (e : Id8 × Unit {0}). e.0)) (entries-made {X = Unit {0}} id8_cmp id_total id_exact [] tt)

-- ---- kinds
abbrev of_kind : (List ℕ → Bool) → Rows → List Id8
of_kind kind rows = map (λ (row : List ℕ × Node). row.1.id) (filter (λ (row : List ℕ × Node). kind row.1.text) rows)

grown : (b : Bool) (gs ids : List Id8) (x : Id8) → ids ≡ ids_in_order gs → cond b (with_id ids x) ids ≡ ids_in_order (cond b (gs ++ x ∷ []) gs)
grown true gs ids x e = ap (λ (y : List Id8). with_id y x) e ∙ sym (ids-push gs x)
grown false gs ids x e = e

shifted : (b : Bool) (gs : List Id8) (row : List ℕ × Node) (rest : Rows)
    → cond b (gs ++ row.1.id ∷ []) gs ++ map (λ (r : List ℕ × Node). r.1.id) rest ≡ gs ++ map (λ (r : List ℕ × Node). r.1.id) (cond b (row ∷ rest) rest)
shifted true gs row rest = append_assoc gs (row.1.id ∷ []) (map (λ (r : List ℕ × Node). r.1.id) rest)
shifted false gs row rest = refl

groups-of : (rows : Rows) (kinds : Kinds) (gs : List Id8) → kinds.groups ≡ ids_in_order gs → (with_kinds kinds rows).groups ≡ ids_in_order (gs ++ of_kind is_group rows)
groups-of [] kinds gs e = e ∙ ap ids_in_order (sym (append-nil gs))
groups-of (row ∷ rows) kinds gs e =
    groups-of rows (with_kind kinds row.1) (cond (is_group row.1.text) (gs ++ row.1.id ∷ []) gs) (grown (is_group row.1.text) gs kinds.groups row.1.id e)
    ∙ ap ids_in_order (shifted (is_group row.1.text) gs row (filter (λ (r : List ℕ × Node). is_group r.1.text) rows))

arrays-of : (rows : Rows) (kinds : Kinds) (gs : List Id8) → kinds.arrays ≡ ids_in_order gs → (with_kinds kinds rows).arrays ≡ ids_in_order (gs ++ of_kind is_array rows)
arrays-of [] kinds gs e = e ∙ ap ids_in_order (sym (append-nil gs))
arrays-of (row ∷ rows) kinds gs e =
    arrays-of rows (with_kind kinds row.1) (cond (is_array row.1.text) (gs ++ row.1.id ∷ []) gs) (grown (is_array row.1.text) gs kinds.arrays row.1.id e)
    ∙ ap ids_in_order (shifted (is_array row.1.text) gs row (filter (λ (r : List ℕ × Node). is_array r.1.text) rows))

-- what was gathered from no ids on
pub gathered : (rows : Rows) (kinds : Kinds) → kinds ≡ with_kinds no_kinds rows → IsOf kinds rows
gathered rows kinds e = (ap (λ (k : Kinds). k.groups) e ∙ groups-of rows no_kinds [] (sym no_ids), ap (λ (k : Kinds). k.arrays) e ∙ arrays-of rows no_kinds [] (sym no_ids))

pub none_gathered : (rows : Rows) (kinds : Kinds) → kinds ≡ no_kinds → rows ≡ [] → IsOf kinds rows
none_gathered rows kinds e h = gathered rows kinds (e ∙ sym (ap (with_kinds no_kinds) h))

-- at the end of the rows
pub ended : (rows all : Rows) (kinds : Kinds) → with_kinds kinds rows ≡ with_kinds no_kinds all → rows ≡ [] → IsOf kinds all
ended rows all kinds e h = gathered all kinds (sym (ap (with_kinds kinds) h) ∙ e)

-- ---- the rows of a tree that pass a test
drop-row : (es : Rows) (at : ℕ) (row : List ℕ × Node) → slice_get es at ≡ Some row → drop at es ≡ row ∷ drop (suc at) es
drop-row [] at row e = cc
drop-row (x ∷ xs) zero row e = let same : x ≡ row = cc in ap (λ (y : List ℕ × Node). y ∷ xs) same
drop-row (x ∷ xs) (suc at) row e = drop-row xs at row e

drop-end : (es : Rows) (at : ℕ) → length es ≤ at → drop at es ≡ []
drop-end [] zero h = refl
drop-end [] (suc at) h = refl
drop-end (x ∷ xs) zero h = absurd (omega arith)
drop-end (x ∷ xs) (suc at) h = drop-end xs at (omega arith)

module _ (nodes : FinMap path_cmp Node) (test : List ℕ × Node → Bool) where
  abbrev pub left : ℕ → Rows
  left at = filter test (drop at (entries nodes))

  next-row : (at : ℕ) (row : List ℕ × Node) → slice_get (entries nodes) at ≡ Some row → drop at (entries nodes) ≡ row ∷ drop (at + 1) (entries nodes)
  next-row at row e = drop-row (entries nodes) at row e ∙ ap (λ n. row ∷ drop n (entries nodes)) (sym (add-one at))

  pub left-passes : (at : ℕ) (row : List ℕ × Node) → slice_get (entries nodes) at ≡ Some row → test row ≡ true → left at ≡ row ∷ left (at + 1)
  left-passes at row e t = ap (filter test) (next-row at row e) ∙ ap (λ b. cond b (row ∷ left (at + 1)) (left (at + 1))) t

  pub left-fails : (at : ℕ) (row : List ℕ × Node) → slice_get (entries nodes) at ≡ Some row → test row ≡ false → left at ≡ left (at + 1)
  left-fails at row e t = ap (filter test) (next-row at row e) ∙ ap (λ b. cond b (row ∷ left (at + 1)) (left (at + 1))) t

  pub left-end : (at : ℕ) → len nodes ≤ at → left at ≡ []
  left-end at l = ap (filter test) (drop-end (entries nodes) at (omega (arith, l, len-entries nodes)))

  -- one step of the gathering
  pub took : (at : ℕ) (row : List ℕ × Node) (kinds after all : Kinds) → slice_get (entries nodes) at ≡ Some row → test row ≡ true → after ≡ with_kind kinds row.1
      → with_kinds kinds (left at) ≡ all → with_kinds after (left (at + 1)) ≡ all
  took at row kinds after all e t k is = ap (λ (x : Kinds). with_kinds x (left (at + 1))) k ∙ ap (with_kinds kinds) (sym (left-passes at row e t)) ∙ is

  pub passed_over : (at : ℕ) (row : List ℕ × Node) (kinds after all : Kinds) → slice_get (entries nodes) at ≡ Some row → test row ≡ false → after ≡ kinds
      → with_kinds kinds (left at) ≡ all → with_kinds after (left (at + 1)) ≡ all
  passed_over at row kinds after all e t k is = ap (λ (x : Kinds). with_kinds x (left (at + 1))) k ∙ ap (with_kinds kinds) (sym (left-fails at row e t)) ∙ is

  -- the same of whether one passes
  abbrev pub some_left : ℕ → Bool
  some_left at = list_any test (drop at (entries nodes))

  pub some-here : (at : ℕ) (row : List ℕ × Node) → slice_get (entries nodes) at ≡ Some row → test row ≡ true → some_left at ≡ true
  some-here at row e t = ap (list_any test) (next-row at row e) ∙ ap (λ b. b || some_left (at + 1)) t

  pub some-later : (at : ℕ) (row : List ℕ × Node) → slice_get (entries nodes) at ≡ Some row → test row ≡ false → some_left at ≡ some_left (at + 1)
  some-later at row e t = ap (list_any test) (next-row at row e) ∙ ap (λ b. b || some_left (at + 1)) t

  pub some-end : (at : ℕ) → len nodes ≤ at → some_left at ≡ false
  some-end at l = ap (list_any test) (drop-end (entries nodes) at (omega (arith, l, len-entries nodes)))

none_pass : (test : List ℕ × Node → Bool) → ((row : List ℕ × Node) → test row ≡ false) → (rows : Rows) → filter test rows ≡ []
none_pass test no_row [] = refl
none_pass test no_row (row ∷ rows) = ap (λ b. cond b (row ∷ filter test rows) (filter test rows)) (no_row row) ∙ none_pass test no_row rows

none_some : (test : List ℕ × Node → Bool) → ((row : List ℕ × Node) → test row ≡ false) → (rows : Rows) → list_any test rows ≡ false
none_some test no_row [] = refl
none_some test no_row (row ∷ rows) = ap (λ b. b || list_any test rows) (no_row row) ∙ none_some test no_row rows

-- ---- where nothing was dropped, and where there are no other texts
module _ {P : Type 0} (h : Held P) (nodes : FinMap path_cmp Node) where
  not_gone : length h.dropped ≡ 0 → (row : List ℕ × Node) → is_gone (lists h.dropped) nodes row.0 ≡ false
  not_gone e row = sym (nothing_gone h.dropped nodes row.0 e)

  no_meta : (rows : List (Id8 × List ℕ)) (id : Id8) → length rows ≡ 0 → is_some (meta_in rows id) ≡ false
  no_meta [] id e = refl
  no_meta (row ∷ rows) id e = absurd (omega arith)

  and_false : (a b : Bool) → b ≡ false → (a && b) ≡ false
  and_false true b e = e
  and_false false b e = refl

  not_updated : length h.metas ≡ 0 → (row : List ℕ × Node) → is_updated h nodes row ≡ false
  not_updated e row = and_false _ _ (no_meta h.metas row.1.id e)

  pub none-gone : length h.dropped ≡ 0 → gone_rows h nodes ≡ []
  none-gone e = none_pass (λ row. is_gone (lists h.dropped) nodes row.0) (not_gone e) (entries nodes)

  pub none-updated : length h.metas ≡ 0 → updated_rows h nodes ≡ []
  none-updated e = none_pass (is_updated h nodes) (not_updated e) (entries nodes)

  pub none-touched : length h.dropped ≡ 0 → length h.metas ≡ 0 → touches_own h nodes ≡ false
  none-touched e f = none_some
      (λ row. is_metadata row.1.text && (is_gone (lists h.dropped) nodes row.0 || is_updated h nodes row))
      (λ row. and_false (is_metadata row.1.text) _ (ap (λ b. b || is_updated h nodes row) (not_gone e row) ∙ not_updated f row))
      (entries nodes)

  abbrev pub touching : List ℕ × Node → Bool
  touching row = is_metadata row.1.text && (is_gone (lists h.dropped) nodes row.0 || is_updated h nodes row)

-- what was found has metadata
pub found_metadata : (f : Found) → is_metadata f.meta.now.text ≡ true
found_metadata f = ap is_some f.meta.now.reads

pub touches : (meta gone updated : Bool) → meta ≡ true → (gone ≡ true) ⊎ (updated ≡ true) → (meta && (gone || updated)) ≡ true
touches true true updated e f = refl
touches true false true e f = refl
touches true false false e (inl f) = f
touches true false false e (inr f) = f
touches false gone updated e f = e

pub touches_not : (meta gone updated : Bool) → gone ≡ false → updated ≡ false → (meta && (gone || updated)) ≡ false
touches_not true gone updated e f = ap (λ b. b || updated) e ∙ f
touches_not false gone updated e f = refl

-- ---- whether lists of ids are empty
pub not_zero : (n : ℕ) → nat_eq (suc n) 0 ≡ false
not_zero n = false_from_ne_true (nat_eq (suc n) 0) (λ e. let is : suc n ≡ 0 = (by_numbers (suc n) 0).0 e in omega arith)

some_key : (m : Marks) (x : Id8) → get m x ≡ Some (tt {0}) → nat_eq (length (keys m)) 0 ≡ false
some_key m x e = by_case (keys m) (sym (contains_key-keys m x) ∙ ap is_some e)
  where
    by_case : (ks : List Id8) → list_any (eq_by_cmp id8_cmp x) ks ≡ true → nat_eq (length ks) 0 ≡ false
    by_case [] h = cc
    by_case (k ∷ ks) h = not_zero (length ks)

no_length : (xs : List Id8) → nat_eq (length (ids_in_order xs)) 0 ≡ nat_eq (length xs) 0
no_length [] = ap (λ (x : List Id8). nat_eq (length x) 0) no_ids
no_length (x ∷ xs) = some_key (from_entries {R = id8_cmp} (marks (x ∷ xs))) x
    (get-from_entries id_total (marks (x ∷ xs)) x ∙ ap (λ b. cond b (Some (tt {0})) (map.find id8_cmp x (marks xs))) (ap is_eq (tied_itself id_total x))) ∙ sym (not_zero (length xs))

no_kind : (kind : List ℕ → Bool) (rows : Rows) → nat_eq (length (of_kind kind rows)) 0 ≡ not (list_any (λ (row : List ℕ × Node). kind row.1.text) rows)
no_kind kind [] = refl
no_kind kind (row ∷ rows) =
    elim (kind row.1.text) as (λ b. nat_eq (length (map (λ (r : List ℕ × Node). r.1.id) (cond b (row ∷ filter (λ (r : List ℕ × Node). kind r.1.text) rows) (filter (λ (r : List ℕ × Node). kind r.1.text) rows)))) 0 ≡ not (b || list_any (λ (row : List ℕ × Node). kind row.1.text) rows)) [
      | true ↦ not_zero (length (of_kind kind rows))
      | false ↦ no_kind kind rows
    ]

abbrev has_kind : (List ℕ → Bool) → Rows → Bool
has_kind kind rows = list_any (λ (row : List ℕ × Node). kind row.1.text) rows

empty-kind : (kind : List ℕ → Bool) (rows : Rows) → nat_eq (length (ids_of kind rows)) 0 ≡ not (has_kind kind rows)
empty-kind kind rows = no_length (of_kind kind rows) ∙ no_kind kind rows

either_kind : (text : List ℕ) → is_metadata text ≡ (is_group text || is_array text)
either_kind text = by_view (view_in text)
  where
    by_view : (v : Option MetaView) → is_some v ≡ (is_group_view v || is_some (array_of_view v))
    by_view None = refl
    by_view (Some view.Group) = refl
    by_view (Some (view.Array array)) = refl

regrouped : (a b c d : Bool) → ((a || b) || (c || d)) ≡ ((a || c) || (b || d))
regrouped true b c d = refl
regrouped false true true d = refl
regrouped false true false d = refl
regrouped false false c d = refl

metadata-kinds : (rows : Rows) → has_metadata rows ≡ (has_kind is_group rows || has_kind is_array rows)
metadata-kinds [] = refl
metadata-kinds (row ∷ rows) =
    (λ i. either_kind row.1.text i || metadata-kinds rows i) ∙ regrouped (is_group row.1.text) (is_array row.1.text) (has_kind is_group rows) (has_kind is_array rows)

any-filter : (f g : List ℕ × Node → Bool) (rows : Rows) → list_any f (filter g rows) ≡ list_any (λ row. f row && g row) rows
any-filter f g [] = refl
any-filter f g (row ∷ rows) = by_case (g row) (any-filter f g rows)
  where
    and-true : (a : Bool) → (a && true) ≡ a
    and-true true = refl
    and-true false = refl

    and-false : (a : Bool) → (a && false) ≡ false
    and-false true = refl
    and-false false = refl

    by_case : (b : Bool) → list_any f (filter g rows) ≡ list_any (λ r. f r && g r) rows → list_any f (cond b (row ∷ filter g rows) (filter g rows)) ≡ ((f row && b) || list_any (λ r. f r && g r) rows)
    by_case true h = λ i. sym (and-true (f row)) i || h i
    by_case false h = h ∙ ap (λ b. b || list_any (λ r. f r && g r) rows) (sym (and-false (f row)))

spread : (m a b x y : Bool) → ((m && (a || b)) || (x || y)) ≡ (((m && a) || x) || ((m && b) || y))
spread true a b x y = regrouped a b x y
spread false a b x y = refl

any-either : (f g h : List ℕ × Node → Bool) (rows : Rows) → list_any (λ row. f row && (g row || h row)) rows ≡ (list_any (λ row. f row && g row) rows || list_any (λ row. f row && h row) rows)
any-either f g h [] = refl
any-either f g h (row ∷ rows) =
    ap (λ b. (f row && (g row || h row)) || b) (any-either f g h rows)
    ∙ spread (f row) (g row) (h row) (list_any (λ r. f r && g r) rows) (list_any (λ r. f r && h r) rows)

joined : (g a dg da ua ug : Bool) → (not g && (not a && (not dg && (not da && (not ua && (not ug && true)))))) ≡ (not (g || a) && not ((dg || da) || (ug || ua)))
joined true a dg da ua ug = refl
joined false true dg da ua ug = refl
joined false false true da ua ug = refl
joined false false false true ua ug = refl
joined false false false false true true = refl
joined false false false false true false = refl
joined false false false false false true = refl
joined false false false false false false = refl

module _ {P : Type 0} (h : Held P) (nodes : FinMap path_cmp Node) where
  touches-rows : touches_own h nodes ≡ (has_metadata (gone_rows h nodes) || has_metadata (updated_rows h nodes))
  touches-rows =
      any-either (λ row. is_metadata row.1.text) (λ row. is_gone (lists h.dropped) nodes row.0) (is_updated h nodes) (entries nodes)
      ∙ (λ i. sym (any-filter (λ row. is_metadata row.1.text) (λ row. is_gone (lists h.dropped) nodes row.0) (entries nodes)) i
      || sym (any-filter (λ row. is_metadata row.1.text) (is_updated h nodes) (entries nodes)) i)

  no_lists : nat_eq (length (touched h nodes).updated_chunks) 0 ≡ not (has_kind is_array (written_rows h nodes))
  no_lists = as_many (ids_of is_array (written_rows h nodes)) ∙ empty-kind is_array (written_rows h nodes)
    where
      as_many : (ids : List Id8) → nat_eq (length (chunk_lists h.chunks ids)) 0 ≡ nat_eq (length ids) 0
      as_many [] = refl
      as_many (id ∷ ids) = not_zero (length (chunk_lists h.chunks ids)) ∙ sym (not_zero (length ids))

  no_nodes : list_all (λ (ids : List Id8). nat_eq (length ids) 0) ((touched h nodes).new_groups ∷ (touched h nodes).new_arrays ∷ (touched h nodes).deleted_groups ∷ (touched h nodes).deleted_arrays ∷ (touched h nodes).updated_arrays ∷ (touched h nodes).updated_groups ∷ [])
      ≡ (not (has_metadata (entries h.added)) && not (touches_own h nodes))
  no_nodes =
      (λ i. empty-kind is_group (entries h.added) i && (empty-kind is_array (entries h.added) i && (empty-kind is_group (gone_rows h nodes) i && (empty-kind is_array (gone_rows h nodes) i
      && (empty-kind is_array (updated_rows h nodes) i && (empty-kind is_group (updated_rows h nodes) i && true))))))
      ∙ joined (has_kind is_group (entries h.added)) (has_kind is_array (entries h.added)) (has_kind is_group (gone_rows h nodes)) (has_kind is_array (gone_rows h nodes))
      (has_kind is_array (updated_rows h nodes)) (has_kind is_group (updated_rows h nodes))
      ∙ (λ i. not (sym (metadata-kinds (entries h.added)) i) && not ((sym (metadata-kinds (gone_rows h nodes)) i) || (sym (metadata-kinds (updated_rows h nodes)) i)))
      ∙ ap (λ b. not (has_metadata (entries h.added)) && not b) (sym touches-rows)

  -- the changes are none where no node is added, none is gone, none has another text, and no array has entries
  untouched : is_untouched (touched h nodes) ≡ ((not (has_metadata (entries h.added)) && not (touches_own h nodes)) && not (has_kind is_array (written_rows h nodes)))
  untouched = λ i. no_nodes i && no_lists i

  -- what each of the three tests tells
  with_node : (a t w : Bool) → a ≡ false → false ≡ ((a && t) && w)
  with_node true t w e = cc
  with_node false t w e = refl

  with_touch : (a t w : Bool) → t ≡ true → false ≡ ((a && not t) && w)
  with_touch true true w e = refl
  with_touch false true w e = refl
  with_touch a false w e = cc

  with_neither : (a t w : Bool) → a ≡ true → t ≡ false → w ≡ ((a && not t) && w)
  with_neither true false w e f = refl
  with_neither true true w e f = cc
  with_neither false t w e f = cc

  pub where_added : not (has_metadata (entries h.added)) ≡ false → false ≡ is_untouched (touched h nodes)
  where_added e = with_node _ _ _ e ∙ sym untouched

  pub where_touched : touches_own h nodes ≡ true → false ≡ is_untouched (touched h nodes)
  where_touched e = with_touch _ _ _ e ∙ sym untouched

  pub where_neither : not (has_metadata (entries h.added)) ≡ true → touches_own h nodes ≡ false → not (list_any (λ (row : List ℕ × Node). is_array row.1.text) (written_rows h nodes)) ≡ is_untouched (touched h nodes)
  where_neither e f = with_neither _ _ _ e f ∙ sym untouched

  pub nothing_written : h.chunks ≡ [] → written_rows h nodes ≡ []
  nothing_written e =
      ap (λ (chunks : List (HeldEntry P)). filter (λ (row : List ℕ × Node). list_any (λ (entry : HeldEntry P). same_id8 entry.0 row.1.id) chunks) (entries (nodes_over h nodes))) e
      ∙ none_pass (λ row. list_any (λ (entry : HeldEntry P). same_id8 entry.0 row.1.id) []) (λ row. refl) (entries (nodes_over h nodes))
