-- Added nodes, as the code keeps them.
use Rattle.std.proofs.Common.{◌≡◌, ℕ, suc, Bool, true, false, cond, T, List, [], ◌∷◌, ◌++◌, append_assoc, append-nil, length, Option, Some, None, is_some, String, Global, refl, sym, ap, subst, ◌∙◌}
use Rattle.std.specs.declared.cmp.Ordering.{Ordering}
use Rattle.std.specs.declared.cmp.Ordering.TheVariants.{Less, Equal, Greater}
use Rattle.std.specs.List.{list_all, filter}
use Rattle.std.specs.String.{string_bytes, string_cmp}
use Rattle.std.specs.Prelude.{Result, Ok, Err, IfOk, OnErr}
use Rattle.std.specs.Map.{lookup}
use Rattle.std.specs.BTreeMap.{is_at, insert_entry}
use Rattle.std.specs.Ordering.{nat_cmp, is_eq, is_lt}
use Rattle.std.specs.Cmp.Lexicographic.{slice_cmp}
use Rattle.std.specs.FinMap.{FinMap, find, put, get, insert, empty, entries, entries_sorted, entries-insert, same_entries_map, is_sorted, retain_keys, from_entries, len}
use Rattle.zarr_path.specs.Paths.{path_cmp, same_path, is_path}
use Rattle.zarr_path.proofs.OrderLaws.{total, exact, same_path-true}
use Rattle.zarr_tree.specs.Nodes.{Node}
use Rattle.zarr_tree.specs.Held.{Rows}
use Rattle.zarr_tree.proofs.Maps.{same, get-made, get-where}
use Rattle.zarr_tree.specs.Rows.{IsInOrder, ArePaths, node_rows}
use Rattle.zarr_tree.proofs.RowLaws.{is_below, both, first, second, true-T, entries-made, put-last, len-made, made-put, sorted-put, seen-insert}

abbrev pub Kept : Type 0
Kept = List (String Global × Node)

-- a look-up by a text
found_row : (es : Kept) (q : List ℕ) → lookup (is_at (λ (k : String Global). slice_cmp nat_cmp q (string_bytes k))) es ≡ find path_cmp q (node_rows es)
found_row [] q = refl
found_row (e ∷ es) q = ap (λ o. cond (is_eq (path_cmp q (string_bytes e.0))) (Some e.1) o) (found_row es q)

pub found_in : (es : Kept) (q : List ℕ) → lookup (is_at (λ (k : String Global). slice_cmp nat_cmp q (string_bytes k))) es ≡ get (from_entries {R = path_cmp} (node_rows es)) q
found_in es q = found_row es q ∙ sym (get-made (node_rows es) q)

-- whether a node stands there
pub there_by : (es : Kept) (k : String Global) (m : FinMap path_cmp Node) (o : Option Node) → from_entries (node_rows es) ≡ m → lookup (is_at (string_cmp k)) es ≡ o → is_some (get m (string_bytes k)) ≡ is_some o
there_by es k m o e f = ap (λ (x : Option Node). is_some x) (ap (λ (x : FinMap path_cmp Node). get x (string_bytes k)) (sym e) ∙ sym (found_in es (string_bytes k)) ∙ f)

length-rows : (es : Kept) → length es ≡ length (node_rows es)
length-rows [] = refl
length-rows (e ∷ es) = ap suc (length-rows es)

pub counted : (es : Kept) → IsInOrder (node_rows es) → length es ≡ len (from_entries {R = path_cmp} (node_rows es))
counted es h = length-rows es ∙ sym (len-made path_cmp total exact (node_rows es) h)

-- one more node
rows-insert : (es : Kept) (k : String Global) (n : Node) → node_rows (insert_entry string_cmp es k n) ≡ put path_cmp (string_bytes k) n (node_rows es)
rows-insert es k n = seen-insert string_cmp path_cmp (λ (x : String Global). string_bytes x) (λ (x : Node). x) (λ x y. refl) es k n

pub inserted : (es : Kept) (k : String Global) (n : Node) → IsInOrder (node_rows es) → from_entries {R = path_cmp} (node_rows (insert_entry string_cmp es k n)) ≡ insert (from_entries (node_rows es)) (string_bytes k) n
inserted es k n h = ap (from_entries {R = path_cmp}) (rows-insert es k n) ∙ made-put path_cmp total exact (node_rows es) (string_bytes k) n h

pub inserted_in_order : (es : Kept) (k : String Global) (n : Node) → IsInOrder (node_rows es) → IsInOrder (node_rows (insert_entry string_cmp es k n))
inserted_in_order es k n h = subst IsInOrder (sym (rows-insert es k n)) (sorted-put path_cmp total exact (node_rows es) (string_bytes k) n h)

put_path : (r : Ordering) (p : List ℕ) (n : Node) (e : List ℕ × Node) (es : Rows) → path_cmp p e.0 ≡ r → T (is_path p) → T (is_path e.0) → ArePaths es → ArePaths (put path_cmp p n es) → ArePaths (put path_cmp p n (e ∷ es))
put_path Less p n e es h is it all rest = rw h (both (is_path p) _ is (both (is_path e.0) _ it all))
put_path Equal p n e es h is it all rest = rw h (both (is_path e.0) _ it all)
put_path Greater p n e es h is it all rest = rw h (both (is_path e.0) _ it rest)

put_paths : (p : List ℕ) (n : Node) (es : Rows) → T (is_path p) → ArePaths es → ArePaths (put path_cmp p n es)
put_paths p n [] is all = both (is_path p) true is tt
put_paths p n (e ∷ es) is all =
    let rest = second (is_path e.0) (list_all (λ (row : List ℕ × Node). is_path row.0) es) all in
    put_path (path_cmp p e.0) p n e es refl is (first (is_path e.0) (list_all (λ (row : List ℕ × Node). is_path row.0) es) all) rest (put_paths p n es is rest)

pub inserted_paths : (es : Kept) (k : String Global) (n : Node) → T (is_path (string_bytes k)) → ArePaths (node_rows es) → ArePaths (node_rows (insert_entry string_cmp es k n))
inserted_paths es k n is all = subst ArePaths (sym (rows-insert es k n)) (put_paths (string_bytes k) n (node_rows es) is all)

-- one more node, if none stands there
module _ {E : Type 0} (es new : Kept) (k : String Global) (n : Node) where
  abbrev pub IsKeptOrNew : Result Bool E → Type 0
  IsKeptOrNew r = IfOk r (λ free. new ≡ cond free (insert_entry string_cmp es k n) es)

  pub kept_or_new : (r : Result Bool E) → IsKeptOrNew r → OnErr r (new ≡ es) → T (is_path (string_bytes k)) → IsInOrder (node_rows es) → ArePaths (node_rows es) → IsInOrder (node_rows new) × ArePaths (node_rows new)
  kept_or_new (Ok true) e f is h all = (subst (λ (x : Kept). IsInOrder (node_rows x)) (sym e) (inserted_in_order es k n h), subst (λ (x : Kept). ArePaths (node_rows x)) (sym e) (inserted_paths es k n is all))
  kept_or_new (Ok false) e f is h all = (subst (λ (x : Kept). IsInOrder (node_rows x)) (sym e) h, subst (λ (x : Kept). ArePaths (node_rows x)) (sym e) all)
  kept_or_new (Err x) e f is h all = (subst (λ (x : Kept). IsInOrder (node_rows x)) (sym f) h, subst (λ (x : Kept). ArePaths (node_rows x)) (sym f) all)

  pub entered_if_new : (m : FinMap path_cmp Node) (r : Result Bool E) → IsInOrder (node_rows es) → from_entries (node_rows es) ≡ m → IsKeptOrNew r → IfOk r (λ free. from_entries {R = path_cmp} (node_rows new) ≡ cond free (insert m (string_bytes k) n) m)
  entered_if_new m (Ok true) h e t = ap (λ (x : Kept). from_entries {R = path_cmp} (node_rows x)) t ∙ inserted es k n h ∙ ap (λ (x : FinMap path_cmp Node). insert x (string_bytes k) n) e
  entered_if_new m (Ok false) h e t = ap (λ (x : Kept). from_entries {R = path_cmp} (node_rows x)) t ∙ e
  entered_if_new m (Err x) h e t = tt

-- ---- a copy, row by row
pub kept_entries : (es : Kept) (m : FinMap path_cmp Node) → IsInOrder (node_rows es) → from_entries (node_rows es) ≡ m → entries m ≡ node_rows es
kept_entries es m h e = ap entries (sym e) ∙ entries-made path_cmp total exact (node_rows es) h

pub copy_start : (m : FinMap path_cmp Node) (rows : Rows) → m ≡ empty → entries m ++ rows ≡ rows
copy_start m rows e = ap (λ (x : FinMap path_cmp Node). entries x ++ rows) e ∙ ap (λ (x : Rows). x ++ rows) (entries-made {X = Node} path_cmp total exact [] tt)

-- the next row, behind those before it
pub node_next : (m n all : FinMap path_cmp Node) (rest : Rows) (p : List ℕ) (x : Node) → n ≡ insert m p x → entries m ++ (p, x) ∷ rest ≡ entries all → entries n ++ rest ≡ entries all
node_next m n all rest p x e is =
    ap (λ (y : FinMap path_cmp Node). entries y ++ rest) e
    ∙ ap (λ (y : Rows). y ++ rest) (entries-insert total m p x ∙ put-last path_cmp total exact (entries m) p x rest (subst IsInOrder (sym is) (entries_sorted all)))
    ∙ append_assoc (entries m) ((p, x) ∷ []) rest ∙ is

pub row_path : (before rest all : Rows) (p : List ℕ) (x : Node) → ArePaths all → before ++ (p, x) ∷ rest ≡ all → is_path p ≡ true
row_path before rest all p x h e = true-T _ (in_middle before (subst ArePaths (sym e) h))
  where
    in_middle : (before : Rows) → ArePaths (before ++ (p, x) ∷ rest) → T (is_path p)
    in_middle [] h = first (is_path p) (list_all (λ (row : List ℕ × Node). is_path row.0) rest) h
    in_middle (b ∷ bs) h = in_middle bs (second (is_path b.0) (list_all (λ (row : List ℕ × Node). is_path row.0) (bs ++ (p, x) ∷ rest)) h)

pub copy_end : (m all : FinMap path_cmp Node) (rows : Rows) → entries m ++ rows ≡ entries all → rows ≡ [] → m ≡ all
copy_end m all rows e h = same_entries_map m all (sym (append-nil (entries m)) ∙ ap (λ (x : Rows). entries m ++ x) (sym h) ∙ e)

-- ---- those rows whose paths pass a test
module _ (test : List ℕ → Bool) where
  abbrev passing : Rows → Rows
  passing rows = filter (λ (row : List ℕ × Node). test row.0) rows

  pub rows-filter : (es : Kept) → node_rows (filter (λ (e : String Global × Node). test (string_bytes e.0)) es) ≡ passing (node_rows es)
  rows-filter [] = refl
  rows-filter (e ∷ es) = by_test (test (string_bytes e.0)) (rows-filter es)
    where
      by_test : (b : Bool) → node_rows (filter (λ (x : String Global × Node). test (string_bytes x.0)) es) ≡ passing (node_rows es)
          → node_rows (cond b (e ∷ filter (λ (x : String Global × Node). test (string_bytes x.0)) es) (filter (λ (x : String Global × Node). test (string_bytes x.0)) es))
          ≡ cond b ((string_bytes e.0, e.1) ∷ passing (node_rows es)) (passing (node_rows es))
      by_test true rest = ap (λ (rows : Rows). (string_bytes e.0, e.1) ∷ rows) rest
      by_test false rest = rest

  below-passing : (x : List ℕ) (rows : Rows) → T (is_below path_cmp x rows) → T (is_below path_cmp x (passing rows))
  below-passing x [] h = tt
  below-passing x (e ∷ es) h =
      let rest = below-passing x es (second (is_lt (path_cmp x e.0)) (is_below path_cmp x es) h) in
      elim (test e.0) as (λ b. T (is_below path_cmp x (cond b (e ∷ passing es) (passing es)))) [
        | true ↦ both (is_lt (path_cmp x e.0)) (is_below path_cmp x (passing es)) (first (is_lt (path_cmp x e.0)) (is_below path_cmp x es) h) rest
        | false ↦ rest
      ]

  sorted-passing : (rows : Rows) → IsInOrder rows → IsInOrder (passing rows)
  sorted-passing [] h = tt
  sorted-passing (e ∷ es) h =
      let rest = sorted-passing es (second (is_below path_cmp e.0 es) (is_sorted path_cmp es) h) in
      elim (test e.0) as (λ b. IsInOrder (cond b (e ∷ passing es) (passing es))) [
        | true ↦ both (is_below path_cmp e.0 (passing es)) (is_sorted path_cmp (passing es)) (below-passing e.0 es (first (is_below path_cmp e.0 es) (is_sorted path_cmp es) h)) rest
        | false ↦ rest
      ]

  paths-passing : (rows : Rows) → ArePaths rows → ArePaths (passing rows)
  paths-passing [] h = tt
  paths-passing (e ∷ es) h =
      let rest = paths-passing es (second (is_path e.0) (list_all (λ (row : List ℕ × Node). is_path row.0) es) h) in
      elim (test e.0) as (λ b. ArePaths (cond b (e ∷ passing es) (passing es))) [
        | true ↦ both (is_path e.0) (list_all (λ (row : List ℕ × Node). is_path row.0) (passing es)) (first (is_path e.0) (list_all (λ (row : List ℕ × Node). is_path row.0) es) h) rest
        | false ↦ rest
      ]

  find-passing : (q : List ℕ) (rows : Rows) → find path_cmp q (passing rows) ≡ cond (test q) (find path_cmp q rows) None
  find-passing q [] = elim (test q) as (λ b. ◌≡◌ {A = Option Node} None (cond b None None)) [ true ↦ refl | false ↦ refl ]
  find-passing q (e ∷ es) = by_case (same_path q e.0) refl (test e.0) refl (test q) refl (find-passing q es)
    where
      by_case : (s : Bool) → same_path q e.0 ≡ s → (b : Bool) → test e.0 ≡ b → (c : Bool) → test q ≡ c → find path_cmp q (passing es) ≡ cond (test q) (find path_cmp q es) None
          → find path_cmp q (cond b (e ∷ passing es) (passing es)) ≡ cond (test q) (cond s (Some e.1) (find path_cmp q es)) None
      by_case true k true g true f rest = ap (λ x. cond x (Some e.1) (find path_cmp q (passing es))) k ∙ sym (ap (λ x. cond x (Some e.1) None) f)
      by_case true k true g false f rest = let bad : false ≡ true = sym f ∙ ap test (same_path-true q e.0 k) ∙ g in cc
      by_case true k false g true f rest = let bad : true ≡ false = sym f ∙ ap test (same_path-true q e.0 k) ∙ g in cc
      by_case true k false g false f rest = rest ∙ ap (λ x. cond x (find path_cmp q es) None) f ∙ sym (ap (λ x. cond x (Some e.1) None) f)
      by_case false k true g c f rest = ap (λ x. cond x (Some e.1) (find path_cmp q (passing es))) k ∙ rest
      by_case false k false g c f rest = rest

  module _ (es kept : Kept) (is : kept ≡ filter (λ (e : String Global × Node). test (string_bytes e.0)) es) where
    pub kept_in_order : IsInOrder (node_rows es) → IsInOrder (node_rows kept)
    kept_in_order h = subst IsInOrder (sym (ap node_rows is ∙ rows-filter es)) (sorted-passing (node_rows es) h)

    pub kept_paths : ArePaths (node_rows es) → ArePaths (node_rows kept)
    kept_paths h = subst ArePaths (sym (ap node_rows is ∙ rows-filter es)) (paths-passing (node_rows es) h)

    pub kept_map : from_entries {R = path_cmp} (node_rows kept) ≡ retain_keys (from_entries (node_rows es)) test
    kept_map =
        ap (from_entries {R = path_cmp}) (ap node_rows is ∙ rows-filter es)
        ∙ same _ _ (λ q. get-made (passing (node_rows es)) q ∙ find-passing q (node_rows es) ∙ ap (λ o. cond (test q) o None) (sym (get-made (node_rows es) q)) ∙ sym (get-where (from_entries (node_rows es)) test q))
