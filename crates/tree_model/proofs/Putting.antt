-- Rows that are put into a map one after another: the nodes under changes.
use Rattle.std.proofs.Common.{◌≡◌, ◌∙◌, ℕ, Bool, true, false, cond, T, List, [], ◌∷◌, Option, Some, None, option_map, refl, sym, ap}
use Rattle.std.specs.Option.{option_or}
use Rattle.std.specs.FinMap.{FinMap, find, is_sorted, get, insert, empty, entries, entries_sorted, get-entries, get-empty}
use Rattle.zarr_path.specs.Paths.{path_cmp, same_path}
use Rattle.zarr_path.proofs.OrderLaws.{same_path-true}
use Rattle.zarr_tree.specs.Nodes.{Node}
use Rattle.zarr_tree.specs.Changes.{Changes, is_gone, patched, nodes_under}
use Rattle.zarr_tree.specs.Held.{Rows}
use Rattle.zarr_tree.proofs.Maps.{same, get-put}
use Rattle.zarr_tree.proofs.Apply.{node-apply}
use Rattle.tree_model.specs.Models.{tree_with}
use Rattle.tree_model.specs.inside.Putting.{put_row, put_kept}
use Rattle.zarr_tree.proofs.RowLaws as rows
use Rattle.zarr_tree.proofs.FoundRows.{not_found}

module _ (gone : List ℕ → Bool) (changed : Node → Node) where
  abbrev kept : (q : List ℕ) → Option Node → Option Node
  kept q found = cond (gone q) None (option_map changed found)

  -- a row at another path, and one at this path
  other-row : (m : FinMap path_cmp Node) (q : List ℕ) (e : List ℕ × Node) (b : Bool) → gone e.0 ≡ b → same_path q e.0 ≡ false → get (cond b m (insert m e.0 (changed e.1))) q ≡ get m q
  other-row m q e true k s = refl
  other-row m q e false k s = get-put m e.0 (changed e.1) q ∙ ap (λ b. cond b (Some (changed e.1)) (get m q)) s

  this-row : (m : FinMap path_cmp Node) (q : List ℕ) (e : List ℕ × Node) (b : Bool) → gone e.0 ≡ b → same_path q e.0 ≡ true
      → get (cond b m (insert m e.0 (changed e.1))) q ≡ option_or (cond b None (Some (changed e.1))) (get m q)
  this-row m q e true k s = refl
  this-row m q e false k s = get-put m e.0 (changed e.1) q ∙ ap (λ b. cond b (Some (changed e.1)) (get m q)) s

  nothing : (q : List ℕ) → kept q None ≡ None
  nothing q = elim (gone q) as (λ b. ◌≡◌ {A = Option Node} (cond b None None) None) [ true ↦ refl | false ↦ refl ]

  pub put-kept : (es : Rows) (m : FinMap path_cmp Node) (q : List ℕ) → T (is_sorted path_cmp es) → get (put_kept gone changed m es) q ≡ option_or (kept q (find path_cmp q es)) (get m q)
  put-kept [] m q h = ap (λ o. option_or o (get m q)) (sym (nothing q))
  put-kept (e ∷ es) m q h =
      put-kept es (put_row gone changed m e) q (rows.second (rows.is_below path_cmp e.0 es) (is_sorted path_cmp es) h)
      ∙ by_path (same_path q e.0) refl
    where
      none_left : same_path q e.0 ≡ true → find path_cmp q es ≡ None
      none_left s = ap (λ x. find path_cmp x es) (same_path-true q e.0 s) ∙ not_found e.0 es (rows.first (rows.is_below path_cmp e.0 es) (is_sorted path_cmp es) h)

      by_path : (s : Bool) → same_path q e.0 ≡ s
          → option_or (kept q (find path_cmp q es)) (get (put_row gone changed m e) q) ≡ option_or (kept q (cond s (Some e.1) (find path_cmp q es))) (get m q)
      by_path false s = ap (λ o. option_or (kept q (find path_cmp q es)) o) (other-row m q e (gone e.0) refl s)
      by_path true s =
          ap (λ o. option_or (kept q o) (get (put_row gone changed m e) q)) (none_left s)
          ∙ ap (λ o. option_or o (get (put_row gone changed m e) q)) (nothing q)
          ∙ this-row m q e (gone e.0) refl s
          ∙ ap (λ x. option_or (cond (gone x) None (Some (changed e.1))) (get m q)) (sym (same_path-true q e.0 s))

or-none : (o : Option Node) → option_or o None ≡ o
or-none None = refl
or-none (Some n) = refl

same-option : (o : Option Node) → option_map (λ (n : Node). n) o ≡ o
same-option None = refl
same-option (Some n) = refl

-- first the tree's own, and then the added nodes over them
pub under-put : (c : Changes) (nodes : FinMap path_cmp Node)
    → put_kept (λ p. false) (λ (n : Node). n) (put_kept (is_gone c.dropped nodes) (patched c.metas) empty (entries nodes)) (entries c.added) ≡ nodes_under c nodes
under-put c nodes = same _ _ (λ q.
    put-kept (λ p. false) (λ (n : Node). n) (entries c.added) _ q (entries_sorted c.added)
    ∙ (λ i. option_or ((same-option (find path_cmp q (entries c.added)) ∙ sym (get-entries c.added q)) i) (own q i))
    ∙ sym (node-apply c (tree_with nodes) q))
  where
    own : (q : List ℕ) → get (put_kept (is_gone c.dropped nodes) (patched c.metas) empty (entries nodes)) q ≡ cond (is_gone c.dropped nodes q) None (option_map (patched c.metas) (get nodes q))
    own q =
        put-kept (is_gone c.dropped nodes) (patched c.metas) (entries nodes) empty q (entries_sorted nodes)
        ∙ ap (λ o. option_or (cond (is_gone c.dropped nodes q) None (option_map (patched c.metas) (find path_cmp q (entries nodes)))) o) (get-empty path_cmp q)
        ∙ or-none _
        ∙ ap (λ o. cond (is_gone c.dropped nodes q) None (option_map (patched c.metas) o)) (sym (get-entries nodes q))
