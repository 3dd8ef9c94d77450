-- Finite maps by paths: what is found in their entries.
use Rattle.std.proofs.Common.{◌≡◌, Bool, true, false, cond, ◌||◌, List, [], ◌∷◌, ◌++◌, map, ℕ, Some, None, is_some, option_map, refl, sym, ap, ◌∙◌}
use Rattle.std.specs.List.{list_any}
use Rattle.std.specs.Option.{option_or}
use Rattle.std.specs.FinMap.{FinMap, find, get, insert, keys, contains_key-keys, from_entries, retain_keys, get-insert, get-from_entries, get-retain_keys, same_map}
use Rattle.zarr_path.specs.Paths.{path_cmp, same_path}
use Rattle.zarr_path.proofs.OrderLaws.{total, exact, same_path-true}

-- a path, and the index of a chunk
abbrev pub Path : Type 0
Path = List ℕ

abbrev pub Index : Type 0
Index = List ℕ

pub any_found : {A : Type 0} (f : A → Bool) (xs : List A) → list_any f xs ≡ true → (x : A) × (f x ≡ true)
any_found f [] h = cc
any_found f (x ∷ xs) h = elim (f x) as (λ b. f x ≡ b → (b || list_any f xs) ≡ true → (y : _) × (f y ≡ true)) [ true ↦ λ e _. (x, e) | false ↦ λ _ g. any_found f xs g ] refl h

pub any_intro : (f : Path → Bool) (q : Path) (xs : List Path) → list_any (same_path q) xs ≡ true → f q ≡ true → list_any f xs ≡ true
any_intro f q [] h g = cc
any_intro f q (x ∷ xs) h g =
    elim (same_path q x) as (λ b. same_path q x ≡ b → (b || list_any (same_path q) xs) ≡ true → (f x || list_any f xs) ≡ true) [
      | true ↦ λ e _. ap (λ y. f y || list_any f xs) (sym (same_path-true q x e)) ∙ ap (λ b. b || list_any f xs) g
      | false ↦ λ _ k. ap (λ b. f x || b) (any_intro f q xs k g) ∙ or-true (f x)
    ] refl h
  where
    or-true : (b : Bool) → (b || true) ≡ true
    or-true true = refl
    or-true false = refl

module _ {X : Type 0} where
  pub any_key : (m : FinMap path_cmp X) (f : Path → Bool) (q : Path) (x : X) → get m q ≡ Some x → f q ≡ true → list_any f (keys m) ≡ true
  any_key m f q x h g = any_intro f q (keys m) (sym (contains_key-keys m q) ∙ ap is_some h) g

  pub find-append : (q : Path) (xs ys : List (Path × X)) → find path_cmp q (xs ++ ys) ≡ option_or (find path_cmp q xs) (find path_cmp q ys)
  find-append q [] ys = refl
  find-append q (x ∷ xs) ys = elim (same_path q x.0) as (λ b. cond b (Some x.1) (find path_cmp q (xs ++ ys)) ≡ option_or (cond b (Some x.1) (find path_cmp q xs)) (find path_cmp q ys)) [ true ↦ refl | false ↦ find-append q xs ys ]

  pub find-map : (f : X → X) (q : Path) (es : List (Path × X)) → find path_cmp q (map (λ (e : Path × X). (e.0, f e.1)) es) ≡ option_map f (find path_cmp q es)
  find-map f q [] = refl
  find-map f q (e ∷ es) = elim (same_path q e.0) as (λ b. cond b (Some (f e.1)) (find path_cmp q (map (λ (e : Path × X). (e.0, f e.1)) es)) ≡ option_map f (cond b (Some e.1) (find path_cmp q es))) [ true ↦ refl | false ↦ find-map f q es ]

  pub get-put : (m : FinMap path_cmp X) (k : Path) (v : X) (q : Path) → get (insert m k v) q ≡ cond (same_path q k) (Some v) (get m q)
  get-put = get-insert total

  pub get-where : (m : FinMap path_cmp X) (f : Path → Bool) (q : Path) → get (retain_keys m f) q ≡ cond (f q) (get m q) None
  get-where m f q = get-retain_keys m f q (λ x e. ap f (sym (exact q x e)))

  pub same : (m n : FinMap path_cmp X) → ((q : Path) → get m q ≡ get n q) → m ≡ n
  same = same_map total exact

  pub get-made : (es : List (Path × X)) (q : Path) → get (from_entries {R = path_cmp} es) q ≡ find path_cmp q es
  get-made = get-from_entries total
