-- Rows of a map, and what is found among them.
use Rattle.std.proofs.Common.{◌≡◌, ◌∙◌, ℕ, Bool, true, false, cond, ◌||◌, T, List, [], ◌∷◌, Some, None, refl, sym, ap}
use Rattle.std.specs.declared.cmp.Ordering.{Ordering}
use Rattle.std.specs.declared.cmp.Ordering.TheVariants.{Less, Equal, Greater}
use Rattle.std.specs.Ordering.{is_eq, is_lt}
use Rattle.std.specs.List.{list_any}
use Rattle.std.specs.FinMap as finmap
use Rattle.std.specs.FinMap.{is_sorted}
use Rattle.zarr_path.specs.Paths.{path_cmp, same_path}
use Rattle.zarr_path.proofs.OrderLaws.{same_path-true, same_path-refl}
use Rattle.zarr_tree.specs.Nodes.{Node}
use Rattle.zarr_tree.specs.Held.{Rows}
use Rattle.zarr_tree.proofs.RowLaws as rows

pub or-true : (b : Bool) → (b || true) ≡ true
or-true true = refl
or-true false = refl

-- a row that passes a test
pub record FoundRow (es : Rows) (f : List ℕ → Node → Bool) : Type 0 where
  pub path : List ℕ
  pub node : Node
  pub found : finmap.find path_cmp path es ≡ Some node
  pub holds : f path node ≡ true

pub not_found : (x : List ℕ) (es : Rows) → T (rows.is_below path_cmp x es) → finmap.find path_cmp x es ≡ None
not_found x [] h = refl
not_found x (e ∷ es) h =
    ap (λ b. cond b (Some e.1) (finmap.find path_cmp x es)) (not_eq (path_cmp x e.0) (rows.first (is_lt (path_cmp x e.0)) (rows.is_below path_cmp x es) h))
    ∙ not_found x es (rows.second (is_lt (path_cmp x e.0)) (rows.is_below path_cmp x es) h)
  where
    not_eq : (o : Ordering) → T (is_lt o) → is_eq o ≡ false
    not_eq Less h = refl
    not_eq Equal h = absurd h
    not_eq Greater h = refl

pub any-row : (es : Rows) (f : List ℕ → Node → Bool) → T (is_sorted path_cmp es) → list_any (λ (e : List ℕ × Node). f e.0 e.1) es ≡ true → FoundRow es f
any-row [] f h g = cc
any-row (e ∷ es) f h g = elim (f e.0 e.1) as (λ b. f e.0 e.1 ≡ b → (b || list_any (λ (e : List ℕ × Node). f e.0 e.1) es) ≡ true → FoundRow (e ∷ es) f) [
  | true ↦ λ k _. record { path = e.0; node = e.1; found = ap (λ b. cond b (Some e.1) (finmap.find path_cmp e.0 es)) (same_path-refl e.0); holds = k }
  | false ↦ λ k l.
      let r : FoundRow es f = any-row es f (rows.second (rows.is_below path_cmp e.0 es) (is_sorted path_cmp es) h) l in
      record { path = r.path; node = r.node; found = other r.path r.node (same_path r.path e.0) refl r.found; holds = r.holds }
] refl g
  where
    other : (q : List ℕ) (x : Node) (b : Bool) → same_path q e.0 ≡ b → finmap.find path_cmp q es ≡ Some x → cond b (Some e.1) (finmap.find path_cmp q es) ≡ Some x
    other q x false k l = l
    other q x true k l =
        let bad : None ≡ Some x = sym (not_found e.0 es (rows.first (rows.is_below path_cmp e.0 es) (is_sorted path_cmp es) h)) ∙ ap (λ y. finmap.find path_cmp y es) (sym (same_path-true q e.0 k)) ∙ l in cc

pub row-any : (es : Rows) (f : List ℕ → Node → Bool) (q : List ℕ) (x : Node) → finmap.find path_cmp q es ≡ Some x → f q x ≡ true → list_any (λ (e : List ℕ × Node). f e.0 e.1) es ≡ true
row-any [] f q x h g = cc
row-any (e ∷ es) f q x h g = elim (same_path q e.0) as (λ b. same_path q e.0 ≡ b → cond b (Some e.1) (finmap.find path_cmp q es) ≡ Some x → (f e.0 e.1 || list_any (λ (e : List ℕ × Node). f e.0 e.1) es) ≡ true) [
  | true ↦ λ k l. let is : e.1 ≡ x = cc l in ap (λ b. b || list_any (λ (e : List ℕ × Node). f e.0 e.1) es) ((λ i. f (sym (same_path-true q e.0 k) i) (is i)) ∙ g)
  | false ↦ λ k l. ap (λ b. f e.0 e.1 || b) (row-any es f q x l g) ∙ or-true (f e.0 e.1)
] refl h
