-- The rows of a tree that stay under what is held.
use Rattle.std.proofs.Common.{◌≡◌, ℕ, zero, suc, ◌+◌, ◌≤◌, Bool, true, false, cond, not, T, List, [], ◌∷◌, ◌++◌, map, drop, length, Option, Some, None, option_map, refl, sym, ap, ◌∙◌, add-one, arith, length-append}
use Rattle.std.specs.Prelude.{slice_get}
use Rattle.std.specs.Option.{option_or}
use Rattle.std.specs.Ordering.{is_lt}
use Rattle.std.specs.List.{filter}
use Rattle.std.specs.FinMap.{FinMap, find, get, len, len-empty, len-insert, contains_key, from_entries, entries, entries_sorted, is_sorted, get-entries, len-entries}
use Rattle.zarr_path.specs.Paths.{path_cmp, same_path}
use Rattle.zarr_path.proofs.OrderLaws.{total, same_path-true}
use Rattle.zarr_tree.specs.Nodes.{Node}
use Rattle.zarr_tree.specs.Changes.{is_gone, patched}
use Rattle.zarr_tree.specs.Touched.{lists}
use Rattle.zarr_tree.specs.Held.{Held, Rows, meta_in, nodes_over}
use Rattle.zarr_tree.proofs.Maps.{same, get-made, find-append, find-map}
use Rattle.zarr_changes.specs.Rows.{own_rows, overlay}
use Rattle.zarr_tree.specs.Rows.{IsInOrder}
use Rattle.zarr_changes.specs.inside.Own.{own_node}
use Rattle.zarr_changes.proofs.Over.{node-over}
use Rattle.zarr_tree.proofs.RowLaws.{both, first, second, is_below}

drop-row : (es : Rows) (at : ℕ) (row : List ℕ × Node) → slice_get es at ≡ Some row → drop at es ≡ row ∷ drop (suc at) es
drop-row [] at row e = cc
drop-row (x ∷ xs) zero row e = let same : x ≡ row = cc in ap (λ (y : List ℕ × Node). y ∷ xs) same
drop-row (x ∷ xs) (suc at) row e = drop-row xs at row e

drop-end : (es : Rows) (at : ℕ) → length es ≤ at → drop at es ≡ []
drop-end [] zero h = refl
drop-end [] (suc at) h = refl
drop-end (x ∷ xs) zero h = absurd (omega arith)
drop-end (x ∷ xs) (suc at) h = drop-end xs at (omega arith)

at_most_more : (b : Bool) (n : ℕ) → cond b n (n + 1) ≤ n + 1
at_most_more true n = omega arith
at_most_more false n = omega arith

-- a map has no more entries than the rows that it was made of
len-made-most : (es : Rows) → len (from_entries {R = path_cmp} es) ≤ length es
len-made-most [] = omega (arith, len-empty path_cmp Node)
len-made-most (e ∷ es) =
    omega (arith, len-made-most es, len-insert total (from_entries {R = path_cmp} es) e.0 e.1, at_most_more (contains_key (from_entries {R = path_cmp} es) e.0) (len (from_entries {R = path_cmp} es)))

module _ {P : Type 0} (h : Held P) (nodes : FinMap path_cmp Node) where
  abbrev stays : List ℕ × Node → Bool
  stays row = not (is_gone (lists h.dropped) nodes row.0)

  abbrev with_text : List ℕ × Node → List ℕ × Node
  with_text row = (row.0, patched (meta_in h.metas) row.1)

  next-row : (at : ℕ) (row : List ℕ × Node) → slice_get (entries nodes) at ≡ Some row → drop at (entries nodes) ≡ row ∷ drop (at + 1) (entries nodes)
  next-row at row e = drop-row (entries nodes) at row e ∙ ap (λ n. row ∷ drop n (entries nodes)) (sym (add-one at))

  pub own-gone : (at : ℕ) (row : List ℕ × Node) → slice_get (entries nodes) at ≡ Some row → is_gone (lists h.dropped) nodes row.0 ≡ true → own_rows h nodes at ≡ own_rows h nodes (at + 1)
  own-gone at row e g =
      ap (λ (es : Rows). map with_text (filter stays es)) (next-row at row e)
      ∙ ap (λ b. map with_text (cond (not b) (row ∷ filter stays (drop (at + 1) (entries nodes))) (filter stays (drop (at + 1) (entries nodes))))) g

  pub own-stays : (at : ℕ) (row : List ℕ × Node) → slice_get (entries nodes) at ≡ Some row → is_gone (lists h.dropped) nodes row.0 ≡ false → own_rows h nodes at ≡ with_text row ∷ own_rows h nodes (at + 1)
  own-stays at row e g =
      ap (λ (es : Rows). map with_text (filter stays es)) (next-row at row e)
      ∙ ap (λ b. map with_text (cond (not b) (row ∷ filter stays (drop (at + 1) (entries nodes))) (filter stays (drop (at + 1) (entries nodes))))) g

  pub own-end : (at : ℕ) → len nodes ≤ at → own_rows h nodes at ≡ []
  own-end at l = ap (λ (es : Rows). map with_text (filter stays es)) (drop-end (entries nodes) at (omega (arith, l, len-entries nodes)))

  -- ---- their order
  below-own : (x : List ℕ) (es : Rows) → T (is_below path_cmp x es) → T (is_below path_cmp x (map with_text (filter stays es)))
  below-own x [] h = tt
  below-own x (e ∷ es) h =
      let rest = below-own x es (second (is_lt (path_cmp x e.0)) (is_below path_cmp x es) h) in
      elim (stays e) as (λ b. T (is_below path_cmp x (map with_text (cond b (e ∷ filter stays es) (filter stays es))))) [
        | true ↦ both (is_lt (path_cmp x e.0)) (is_below path_cmp x (map with_text (filter stays es))) (first (is_lt (path_cmp x e.0)) (is_below path_cmp x es) h) rest
        | false ↦ rest
      ]

  sorted-own : (es : Rows) → IsInOrder es → IsInOrder (map with_text (filter stays es))
  sorted-own [] h = tt
  sorted-own (e ∷ es) h =
      let rest = sorted-own es (second (is_below path_cmp e.0 es) (is_sorted path_cmp es) h) in
      elim (stays e) as (λ b. IsInOrder (map with_text (cond b (e ∷ filter stays es) (filter stays es)))) [
        | true ↦ both (is_below path_cmp e.0 (map with_text (filter stays es))) (is_sorted path_cmp (map with_text (filter stays es))) (below-own e.0 es (first (is_below path_cmp e.0 es) (is_sorted path_cmp es) h)) rest
        | false ↦ rest
      ]

  sorted-drop : (n : ℕ) (es : Rows) → IsInOrder es → IsInOrder (drop n es)
  sorted-drop zero es h = h
  sorted-drop (suc n) [] h = tt
  sorted-drop (suc n) (e ∷ es) h = sorted-drop n es (second (is_below path_cmp e.0 es) (is_sorted path_cmp es) h)

  pub own_in_order : (at : ℕ) → IsInOrder (own_rows h nodes at)
  own_in_order at = sorted-own (drop at (entries nodes)) (sorted-drop at (entries nodes) (entries_sorted nodes))

  -- ---- what is found among them
  passing : (q : List ℕ) (t : Bool) (x : Option Node) → cond t (cond t x None) None ≡ cond t x None
  passing q true x = refl
  passing q false x = refl

  find-stays : (q : List ℕ) (es : Rows) → find path_cmp q (filter stays es) ≡ cond (is_gone (lists h.dropped) nodes q) None (find path_cmp q es)
  find-stays q [] = elim (is_gone (lists h.dropped) nodes q) as (λ b. ◌≡◌ {A = Option Node} None (cond b None None)) [ true ↦ refl | false ↦ refl ]
  find-stays q (e ∷ es) = by_case (same_path q e.0) refl (is_gone (lists h.dropped) nodes q) refl (is_gone (lists h.dropped) nodes e.0) refl (find-stays q es)
    where
      by_case : (s : Bool) → same_path q e.0 ≡ s → (b : Bool) → is_gone (lists h.dropped) nodes q ≡ b → (c : Bool) → is_gone (lists h.dropped) nodes e.0 ≡ c
          → find path_cmp q (filter stays es) ≡ cond (is_gone (lists h.dropped) nodes q) None (find path_cmp q es)
          → find path_cmp q (cond (not c) (e ∷ filter stays es) (filter stays es)) ≡ cond (is_gone (lists h.dropped) nodes q) None (cond s (Some e.1) (find path_cmp q es))
      by_case s k true f true g rest = rest ∙ ap (λ x. cond x None (find path_cmp q es)) f ∙ sym (ap (λ x. cond x None (cond s (Some e.1) (find path_cmp q es))) f)
      by_case true k false f true g rest = let bad : false ≡ true = sym f ∙ ap (is_gone (lists h.dropped) nodes) (same_path-true q e.0 k) ∙ g in cc
      by_case false k false f true g rest = rest
      by_case true k true f false g rest = let bad : true ≡ false = sym f ∙ ap (is_gone (lists h.dropped) nodes) (same_path-true q e.0 k) ∙ g in cc
      by_case true k false f false g rest = ap (λ x. cond x (Some e.1) (find path_cmp q (filter stays es))) k ∙ sym (ap (λ x. cond x None (Some e.1)) f)
      by_case false k b f false g rest = ap (λ x. cond x (Some e.1) (find path_cmp q (filter stays es))) k ∙ rest

  mapped : (b : Bool) (x : Option Node) → option_map (patched (meta_in h.metas)) (cond b None x) ≡ cond b None (option_map (patched (meta_in h.metas)) x)
  mapped true x = refl
  mapped false x = refl

  pub find-own : (q : List ℕ) → find path_cmp q (own_rows h nodes 0) ≡ own_node h nodes q
  find-own q =
      find-map (patched (meta_in h.metas)) q (filter stays (entries nodes))
      ∙ ap (option_map (patched (meta_in h.metas))) (find-stays q (entries nodes) ∙ ap (cond (is_gone (lists h.dropped) nodes q) None) (sym (get-entries nodes q)))
      ∙ mapped (is_gone (lists h.dropped) nodes q) (get nodes q)

  -- the nodes under what is held are the added rows over these
  pub over-rows : nodes_over h nodes ≡ overlay (entries h.added) (own_rows h nodes 0)
  over-rows = same (nodes_over h nodes) (overlay (entries h.added) (own_rows h nodes 0)) (λ q.
      node-over h nodes q ∙ sym (get-made (entries h.added ++ own_rows h nodes 0) q ∙ find-append q (entries h.added) (own_rows h nodes 0)
      ∙ (λ i. option_or (sym (get-entries h.added q) i) (find-own q i))))

  -- ---- how many there are
  length-own : (es : Rows) → length (map with_text (filter stays es)) ≤ length es
  length-own [] = omega arith
  length-own (e ∷ es) =
      let rest = length-own es in
      elim (stays e) as (λ b. length (map with_text (cond b (e ∷ filter stays es) (filter stays es))) ≤ length (e ∷ es)) [ true ↦ omega (arith, rest) | false ↦ omega (arith, rest) ]

  pub len-over : len (nodes_over h nodes) ≤ len h.added + len nodes
  len-over = omega (
    arith,
    ap len over-rows,
    len-made-most (entries h.added ++ own_rows h nodes 0),
    length-append (entries h.added) (own_rows h nodes 0),
    length-own (entries nodes),
    len-entries h.added,
    len-entries nodes,
  )
