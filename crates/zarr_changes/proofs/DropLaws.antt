-- Dropped nodes.
use Rattle.std.proofs.Common.{◌≡◌, ℕ, Bool, true, false, cond, not, ◌&&◌, ◌||◌, List, [], ◌∷◌, Option, Some, None, is_some, option_map, length, refl, sym, ap, ◌∙◌, arith}
use Rattle.std.specs.Prelude.{find, option_and_then}
use Rattle.std.specs.Ordering.{eq_by_cmp}
use Rattle.std.specs.Cmp.{both_ways}
use Rattle.std.specs.List.{filter}
use Rattle.std.specs.FinMap.{FinMap, get, insert, retain_keys, keys, entries, entries_sorted, from_entries, contains_key-keys, get-entries, get-insert}
use Rattle.ice_ids.specs.declared.Id8.{Id8}
use Rattle.ice_ids.specs.Text.{same_id8, id8_cmp}
use Rattle.zarr_path.specs.Paths.{path_cmp, is_within}
use Rattle.zarr_tree.specs.Nodes.{Node, same_numbers}
use Rattle.zarr_tree.specs.Trees.{Tree}
use Rattle.zarr_tree.specs.Edits.{at_node}
use Rattle.zarr_tree.specs.Changes.{has_id, has_id_within}
use Rattle.zarr_tree.specs.Touched.{lists}
use Rattle.zarr_tree.specs.Held.{Held, Rows, HeldEntry, meta_in, entry_in, nodes_over}
use Rattle.zarr_tree.proofs.Apply.{IdWithin, id_within-elim, id_within-intro, id-true, id-refl, both, first, second}
use Rattle.zarr_tree.proofs.Ordered.{lists-in_order}
use Rattle.zarr_tree.proofs.FoundRows.{FoundRow, any-row, row-any}
use Rattle.zarr_changes.specs.Edits.{with_id, with_dropped, without_node}
use Rattle.zarr_changes.specs.Sets.{drop_refusal}
use Rattle.zarr_changes.specs.Laws.{DropLaw}
use Rattle.zarr_changes.specs.inside.Own.{within_rows, texts_left, chunks_left}
use Rattle.zarr_changes.proofs.IdLaws.{id_total, same_ids, marks, contains_lists}

-- ---- one more id
or-turned : (a b : Bool) → (a || b) ≡ (b || a)
or-turned true true = refl
or-turned true false = refl
or-turned false true = refl
or-turned false false = refl

either : (b : Bool) (o : Option (Unit {0})) → is_some (cond b (Some (tt {0})) o) ≡ (b || is_some o)
either true o = refl
either false o = refl

pub lists-with : (ids : List Id8) (k id : Id8) → lists (with_id ids k) id ≡ (lists ids id || same_id8 k id)
lists-with ids k id =
    sym (contains_lists (with_id ids k) id) ∙ sym (contains_key-keys (insert (from_entries {R = id8_cmp} (marks ids)) k (tt {0})) id)
    ∙ ap is_some (get-insert id_total (from_entries {R = id8_cmp} (marks ids)) k (tt {0}) id)
    ∙ either (eq_by_cmp id8_cmp id k) (get (from_entries {R = id8_cmp} (marks ids)) id)
    ∙ (λ i. sym (same_ids k id) i || (contains_key-keys (from_entries {R = id8_cmp} (marks ids)) id ∙ contains_lists (keys (from_entries {R = id8_cmp} (marks ids))) id ∙ lists-in_order ids id) i)
    ∙ or-turned (same_id8 k id) (lists ids id)

-- ---- the ids of the rows at and beneath a path, gathered
taken : (l s r : Bool) → ((l || s) || r) ≡ (l || (s || r))
taken true s r = refl
taken false s r = refl

pub within-taken : (before after : List Id8) (p q : List ℕ) (n : Node) (rest : Rows) (id : Id8) → is_within p q ≡ true → after ≡ with_id before n.id
    → (lists after id || within_rows rest p id) ≡ (lists before id || within_rows ((q, n) ∷ rest) p id)
within-taken before after p q n rest id e f =
    ap (λ b. b || within_rows rest p id) (ap (λ (ids : List Id8). lists ids id) f ∙ lists-with before n.id id)
    ∙ taken (lists before id) (same_id8 n.id id) (within_rows rest p id)
    ∙ ap (λ b. lists before id || ((b && same_id8 n.id id) || within_rows rest p id)) (sym e)

pub within-left : (ids : List Id8) (p q : List ℕ) (n : Node) (rest : Rows) (id : Id8) → is_within p q ≡ false → (lists ids id || within_rows rest p id) ≡ (lists ids id || within_rows ((q, n) ∷ rest) p id)
within-left ids p q n rest id e = ap (λ b. lists ids id || ((b && same_id8 n.id id) || within_rows rest p id)) (sym e)

or-false : (a : Bool) → (a || false) ≡ a
or-false true = refl
or-false false = refl

pub within-end : (ids : List Id8) (p : List ℕ) (left all : Rows) (id : Id8) → (lists ids id || within_rows left p id) ≡ within_rows all p id → left ≡ [] → lists ids id ≡ within_rows all p id
within-end ids p left all id e f = sym (or-false (lists ids id)) ∙ ap (λ (rows : Rows). lists ids id || within_rows rows p id) (sym f) ∙ e

-- ---- rows of a map
-- a tree of these nodes
abbrev bare : FinMap path_cmp Node → Tree
bare nodes = record { nodes = nodes; chunk = λ path index. None }

-- the rows within a path have an id exactly where a node within it has
pub within-entries : (nodes : FinMap path_cmp Node) (p : List ℕ) (id : Id8) → within_rows (entries nodes) p id ≡ has_id_within nodes p id
within-entries nodes p id = both_ways _ _ to from
  where
    to : within_rows (entries nodes) p id ≡ true → has_id_within nodes p id ≡ true
    to h =
        let r : FoundRow (entries nodes) (λ q n. is_within p q && same_id8 n.id id) = any-row (entries nodes) (λ q n. is_within p q && same_id8 n.id id) (entries_sorted nodes) h in
        id_within-intro (bare nodes) p id (record {
          path = r.path;
          node = r.node;
          found = get-entries nodes r.path ∙ r.found;
          same = id-true r.node.id id (second (is_within p r.path) (same_id8 r.node.id id) r.holds);
          within = first (is_within p r.path) (same_id8 r.node.id id) r.holds;
        })

    from : has_id_within nodes p id ≡ true → within_rows (entries nodes) p id ≡ true
    from h =
        let w : IdWithin (bare nodes) p id = id_within-elim (bare nodes) p id h in
        row-any (entries nodes) (λ q n. is_within p q && same_id8 n.id id) w.path w.node (sym (get-entries nodes w.path) ∙ w.found)
        (both (is_within p w.path) (same_id8 w.node.id id) w.within (ap (λ (k : Id8). same_id8 k id) w.same ∙ id-refl id))

-- ---- what is left of rows by the ids of nodes
module _ {A : Type 0} (key : A → Id8) (test : A → Bool) (out : Id8 → Bool) (id : Id8) (its : (a : A) → test a ≡ true → key a ≡ id) where
  find-left : (es : List A) → find test (filter (λ (a : A). not (out (key a))) es) ≡ cond (out id) None (find test es)
  find-left [] = elim (out id) as (λ b. ◌≡◌ {A = Option A} None (cond b None None)) [ true ↦ refl | false ↦ refl ]
  find-left (e ∷ es) = by_case (test e) refl (out (key e)) refl (out id) refl (find-left es)
    where
      by_case : (s : Bool) → test e ≡ s → (b : Bool) → out (key e) ≡ b → (c : Bool) → out id ≡ c → find test (filter (λ (a : A). not (out (key a))) es) ≡ cond (out id) None (find test es)
          → find test (cond (not b) (e ∷ filter (λ (a : A). not (out (key a))) es) (filter (λ (a : A). not (out (key a))) es)) ≡ cond (out id) None (cond s (Some e) (find test es))
      by_case true k true g true f rest = rest ∙ ap (λ x. cond x None (find test es)) f ∙ sym (ap (λ x. cond x None (Some e)) f)
      by_case true k true g false f rest = let bad : false ≡ true = sym f ∙ ap out (sym (its e k)) ∙ g in cc
      by_case true k false g true f rest = let bad : true ≡ false = sym f ∙ ap out (sym (its e k)) ∙ g in cc
      by_case true k false g false f rest = ap (λ x. cond x (Some e) (find test (filter (λ (a : A). not (out (key a))) es))) k ∙ sym (ap (λ x. cond x None (Some e)) f)
      by_case false k true g c f rest = rest
      by_case false k false g c f rest = ap (λ x. cond x (Some e) (find test (filter (λ (a : A). not (out (key a))) es))) k ∙ rest

mapped : {A B : Type 0} (f : A → B) (b : Bool) (o : Option A) → option_map f (cond b None o) ≡ cond b None (option_map f o)
mapped f true o = refl
mapped f false o = refl

-- ---- the ids of dropped nodes
within_one : (n : Node) (own : Option Node) (id : Id8) → (same_id8 n.id id && has_id id own) ≡ (same_id8 n.id id && has_id n.id own)
within_one n own id = elim (same_id8 n.id id) as (λ b. same_id8 n.id id ≡ b → (b && has_id id own) ≡ (b && has_id n.id own)) [
  | true ↦ λ e. ap (λ (k : Id8). has_id k own) (sym (id-true n.id id e))
  | false ↦ λ e. refl
] refl

and-true : (a : Bool) → (a && true) ≡ a
and-true true = refl
and-true false = refl

and-false : (a : Bool) → (a && false) ≡ false
and-false true = refl
and-false false = refl

dropped-ids : (ids : List Id8) (there own : Option Node) (id : Id8) → lists (with_dropped ids there own) id ≡ (lists ids id || (has_id id there && has_id id own))
dropped-ids ids None own id = sym (or-false (lists ids id))
dropped-ids ids (Some n) own id = by_test (has_id n.id own) ∙ ap (λ b. lists ids id || b) (sym (within_one n own id))
  where
    by_test : (b : Bool) → lists (cond b (with_id ids n.id) ids) id ≡ (lists ids id || (same_id8 n.id id && b))
    by_test true = lists-with ids n.id id ∙ ap (λ b. lists ids id || b) (sym (and-true (same_id8 n.id id)))
    by_test false = sym (or-false (lists ids id)) ∙ ap (λ b. lists ids id || b) (sym (and-false (same_id8 n.id id)))

-- a node, and all beneath it, taken away: one more edit in the changes
pub drop-law : {P : Type 0} → DropLaw P
drop-law {P} bytes_at h t p = λ i. record {
  dropped = λ id. dropped-ids h.dropped (get (nodes_over h t.nodes) p) (get t.nodes p) id i;
  added = retain_keys h.added (λ q. not (is_within p q));
  metas = λ id. metas_left id i;
  chunks = λ id j. chunks_left id j i;
}
  where
    metas_left : (id : Id8) → meta_in (filter (λ (row : Id8 × List ℕ). not (has_id_within (nodes_over h t.nodes) p row.0)) h.metas) id ≡ cond (has_id_within (nodes_over h t.nodes) p id) None (meta_in h.metas id)
    metas_left id =
        ap (option_map (λ (row : Id8 × List ℕ). row.1))
        (find-left (λ (row : Id8 × List ℕ). row.0) (λ (row : Id8 × List ℕ). same_id8 row.0 id) (has_id_within (nodes_over h t.nodes) p) id (λ row e. id-true row.0 id e) h.metas)
        ∙ mapped (λ (row : Id8 × List ℕ). row.1) (has_id_within (nodes_over h t.nodes) p id) (find (λ (row : Id8 × List ℕ). same_id8 row.0 id) h.metas)

    chunks_left : (id : Id8) (j : List ℕ)
        → option_map (λ (place : Option P). option_and_then bytes_at place) (entry_in (filter (λ (e : HeldEntry P). not (has_id_within (nodes_over h t.nodes) p e.0)) h.chunks) id j)
        ≡ cond (has_id_within (nodes_over h t.nodes) p id) None (option_map (λ (place : Option P). option_and_then bytes_at place) (entry_in h.chunks id j))
    chunks_left id j =
        ap (λ (o : Option (HeldEntry P)). option_map (λ (place : Option P). option_and_then bytes_at place) (option_map (λ (e : HeldEntry P). e.2) o))
        (find-left (λ (e : HeldEntry P). e.0) (λ (e : HeldEntry P). same_id8 e.0 id && same_numbers e.1 j) (has_id_within (nodes_over h t.nodes) p) id (λ e k. id-true e.0 id (first (same_id8 e.0 id) (same_numbers e.1 j) k)) h.chunks)
        ∙ ap (option_map (λ (place : Option P). option_and_then bytes_at place))
        (mapped (λ (e : HeldEntry P). e.2) (has_id_within (nodes_over h t.nodes) p id) (find (λ (e : HeldEntry P). same_id8 e.0 id && same_numbers e.1 j) h.chunks))
        ∙ mapped (λ (place : Option P). option_and_then bytes_at place) (has_id_within (nodes_over h t.nodes) p id) (entry_in h.chunks id j)

-- ---- a node taken away, as the code does it
pub no_chunks_left : {P : Type 0} (h : Held P) (a b : Id8 → Bool) → h.chunks ≡ [] → chunks_left h a ≡ chunks_left h b
no_chunks_left {P} h a b e = ap (filter (λ (row : HeldEntry P). not (a row.0))) e ∙ sym (ap (filter (λ (row : HeldEntry P). not (b row.0))) e)

pub same_chunks : {P : Type 0} (h : Held P) (a b : Id8 → Bool) → ((id : Id8) → a id ≡ b id) → chunks_left h a ≡ chunks_left h b
same_chunks {P} h a b e = λ i. filter (λ (row : HeldEntry P). not (e row.0 i)) h.chunks

pub no_texts : {P : Type 0} (h : Held P) (a b : Id8 → Bool) → length h.metas ≡ 0 → texts_left h a ≡ texts_left h b
no_texts h a b e = none_of h.metas e
  where
    none_of : (rows : List (Id8 × List ℕ)) → length rows ≡ 0 → filter (λ (row : Id8 × List ℕ). not (a row.0)) rows ≡ filter (λ (row : Id8 × List ℕ). not (b row.0)) rows
    none_of [] e = refl
    none_of (row ∷ rows) e = absurd (omega arith)

pub same_texts : {P : Type 0} (h : Held P) (a b : Id8 → Bool) → ((id : Id8) → a id ≡ b id) → texts_left h a ≡ texts_left h b
same_texts h a b e = λ i. filter (λ (row : Id8 × List ℕ). not (e row.0 i)) h.metas

module _ {P : Type 0} (h : Held P) (nodes : FinMap path_cmp Node) (p : List ℕ) (n : Node) (found : get (nodes_over h nodes) p ≡ Some n) where
  pub drop_allowed : drop_refusal (nodes_over h nodes) p ≡ None
  drop_allowed = ap (λ (o : Option Node). at_node o (λ m. None)) found

  pub dropped_node : (own : Bool) (ids dropped : List Id8) (added : FinMap path_cmp Node) (metas : List (Id8 × List ℕ)) (chunks : List (HeldEntry P)) → own ≡ has_id n.id (get nodes p)
      → dropped ≡ cond own (with_id h.dropped n.id) h.dropped → added ≡ retain_keys h.added (λ q. not (is_within p q)) → metas ≡ texts_left h (lists ids)
      → texts_left h (lists ids) ≡ texts_left h (has_id_within (nodes_over h nodes) p) → chunks ≡ chunks_left h (lists ids) → chunks_left h (lists ids) ≡ chunks_left h (has_id_within (nodes_over h nodes) p)
      → ◌≡◌ {A = Held P} (record { dropped = dropped; added = added; metas = metas; chunks = chunks }) (without_node h nodes p)
  dropped_node own ids dropped added metas chunks is out left kept within held inside = λ i. record {
    dropped = (out ∙ ap (λ b. cond b (with_id h.dropped n.id) h.dropped) is ∙ ap (λ (o : Option Node). with_dropped h.dropped o (get nodes p)) (sym found)) i;
    added = left i;
    metas = (kept ∙ within) i;
    chunks = (held ∙ inside) i;
  }
