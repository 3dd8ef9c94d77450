-- Each other text that is held is the one that its node has.
use Rattle.std.proofs.Common.{◌≡◌, inl, inr, ℕ, Bool, true, false, cond, not, ◌&&◌, T, List, [], ◌∷◌, Option, Some, None, option_map, refl, sym, ◌∙◌, ap, subst}
use Rattle.std.specs.Prelude.{find}
use Rattle.std.specs.List.{All, filter, list_all}
use Rattle.std.specs.FinMap.{FinMap, insert, from_entries, is_sorted, entries, entries_sorted}
use Rattle.std.specs.declared.cmp.Ordering.{Ordering}
use Rattle.std.specs.declared.cmp.Ordering.TheVariants.{Less, Equal, Greater}
use Rattle.std.specs.Ordering.{is_eq, is_lt}
use Rattle.std.proofs.lemmas.List.Elements.{All-nil, All-cons, All-contains}
use Rattle.ice_ids.specs.declared.Id8.{Id8}
use Rattle.ice_ids.specs.Text.{same_id8, id8_cmp}
use Rattle.zarr_path.specs.Paths.{path_cmp}
use Rattle.zarr_tree.specs.Nodes.{Node}
use Rattle.zarr_tree.specs.Changes.{has_id_within}
use Rattle.zarr_tree.specs.Held.{Held, meta_in, nodes_over}
use Rattle.zarr_tree.proofs.Apply.{id-true, id-refl}
use Rattle.zarr_changes.specs.Edits.{with_row, with_meta, without_node}
use Rattle.zarr_changes.proofs.IdLaws.{same_ids}
use Rattle.manifest_file.specs.declared.manifest.Place.{Place}
use Rattle.conflicts.proofs.Members.{In, in-contains, in-filter}
use Rattle.rebase.specs.AlongLaws.{HasOneTextEach}

abbrev Texts : Type 0
Texts = List (Id8 × List ℕ)

-- ---- rows of texts
-- each row is the one that is found for its id
abbrev OneEach : Texts → Type 0
OneEach rows = (row : Id8 × List ℕ) → In rows row → meta_in rows row.0 ≡ Some row.1

in-all : {A : Type 0} (P : A → Type 0) (xs : List A) → ((x : A) → In xs x → P x) → All P xs
in-all P [] f = All-nil P
in-all P (x ∷ xs) f = All-cons P x xs (f x (inl refl)) (in-all P xs (λ y h. f y (inr h)))

-- what is found of rows whose first one has the id, or hasn't
found-first : (e : Id8 × List ℕ) (es : Texts) (id : Id8) (b : Bool) → same_id8 e.0 id ≡ b → meta_in (e ∷ es) id ≡ cond b (Some e.1) (meta_in es id)
found-first e es id true k = ap (λ (b : Bool). option_map (λ (row : Id8 × List ℕ). row.1) (cond b (Some e) (find (λ (row : Id8 × List ℕ). same_id8 row.0 id) es))) k
found-first e es id false k = ap (λ (b : Bool). option_map (λ (row : Id8 × List ℕ). row.1) (cond b (Some e) (find (λ (row : Id8 × List ℕ). same_id8 row.0 id) es))) k

-- ---- rows in order
not-below : (id : Id8) → T (is_lt (id8_cmp id id)) → ⊥
not-below id below = by_cmp (id8_cmp id id) (sym (same_ids id id) ∙ id-refl id) below
  where
    by_cmp : (o : Ordering) → is_eq o ≡ true → T (is_lt o) → ⊥
    by_cmp Less e t = cc
    by_cmp Equal e t = t
    by_cmp Greater e t = t

T-first : (a b : Bool) → T (a && b) → T a
T-first true b p = tt
T-first false b p = p

T-second : (a b : Bool) → T (a && b) → T b
T-second true b p = p
T-second false b p = absurd p

all-in : {A : Type 0} (f : A → Bool) (xs : List A) (x : A) → T (list_all f xs) → In xs x → T (f x)
all-in f [] x t h = absurd h
all-in f (y ∷ ys) x t (inl same) = subst (λ z. T (f z)) same (T-first (f y) (list_all f ys) t)
all-in f (y ∷ ys) x t (inr h) = all-in f ys x (T-second (f y) (list_all f ys) t) h

sorted-one : (rows : Texts) → T (is_sorted id8_cmp rows) → OneEach rows
sorted-one [] s row h = absurd h
sorted-one (e ∷ es) s row (inl same) =
    found-first e es row.0 true (ap (λ (r : Id8 × List ℕ). same_id8 e.0 r.0) (sym same) ∙ id-refl e.0) ∙ ap (λ (r : Id8 × List ℕ). Some r.1) same
sorted-one (e ∷ es) s row (inr h) = by_test (same_id8 e.0 row.0) refl (sorted-one es (T-second (list_all (λ (r : Id8 × List ℕ). is_lt (id8_cmp e.0 r.0)) es) (is_sorted id8_cmp es) s) row h)
  where
    above : T (is_lt (id8_cmp e.0 row.0))
    above = all-in (λ (r : Id8 × List ℕ). is_lt (id8_cmp e.0 r.0)) es row (T-first (list_all (λ (r : Id8 × List ℕ). is_lt (id8_cmp e.0 r.0)) es) (is_sorted id8_cmp es) s) h

    by_test : (b : Bool) → same_id8 e.0 row.0 ≡ b → meta_in es row.0 ≡ Some row.1 → meta_in (e ∷ es) row.0 ≡ Some row.1
    by_test true k further = absurd (not-below e.0 (subst (λ (id : Id8). T (is_lt (id8_cmp e.0 id))) (sym (id-true e.0 row.0 k)) above))
    by_test false k further = found-first e es row.0 false k ∙ further

-- ---- rows that are taken out by their ids
left-found : (f : Id8 → Bool) (rows : Texts) (id : Id8) → f id ≡ true → meta_in (filter (λ row. f row.0) rows) id ≡ meta_in rows id
left-found f [] id here = refl
left-found f (e ∷ es) id here = by_tests (f e.0) (same_id8 e.0 id) refl refl (left-found f es id here)
  where
    by_tests : (a b : Bool) → f e.0 ≡ a → same_id8 e.0 id ≡ b → meta_in (filter (λ row. f row.0) es) id ≡ meta_in es id → meta_in (cond a (e ∷ filter (λ row. f row.0) es) (filter (λ row. f row.0) es)) id ≡ meta_in (e ∷ es) id
    by_tests true true k m further = found-first e (filter (λ row. f row.0) es) id true m ∙ sym (found-first e es id true m)
    by_tests true false k m further = found-first e (filter (λ row. f row.0) es) id false m ∙ further ∙ sym (found-first e es id false m)
    by_tests false true k m further = let no : f e.0 ≡ true = ap f (id-true e.0 id m) ∙ here in let bad = sym no ∙ k in absurd cc
    by_tests false false k m further = further ∙ sym (found-first e es id false m)

filter-one : (f : Id8 → Bool) (rows : Texts) → OneEach rows → OneEach (filter (λ row. f row.0) rows)
filter-one f rows one row h =
    let there = in-filter (λ (r : Id8 × List ℕ). f r.0) rows row h in
    left-found f rows row.0 there.1 ∙ one row there.0

-- ---- what is held
all-one : (h : Held Place) → OneEach h.metas → HasOneTextEach h
all-one h one = in-all (λ (row : Id8 × List ℕ). meta_in h.metas row.0 ≡ Some row.1) h.metas one

one-of : (h : Held Place) → HasOneTextEach h → (row : Id8 × List ℕ) → In h.metas row → meta_in h.metas row.0 ≡ Some row.1
one-of h one row i = All-contains (λ (r : Id8 × List ℕ). meta_in h.metas r.0 ≡ Some r.1) h.metas row one (in-contains h.metas row i)

-- where the texts stay, where another one is set, and where those of a node and of all beneath it are taken out
pub same-texts : (g h : Held Place) → g.metas ≡ h.metas → HasOneTextEach h → HasOneTextEach g
same-texts g h same one = subst (λ (rows : Texts). All (λ (row : Id8 × List ℕ). meta_in rows row.0 ≡ Some row.1) rows) (sym same) one

pub set-texts : (h : Held Place) (path text : List ℕ) (added there : Option Node) → HasOneTextEach h → HasOneTextEach (with_meta h path text added there)
set-texts h path text (Some m) there one = one
set-texts h path text None (Some n) one =
    let rows : FinMap id8_cmp (List ℕ) = insert (from_entries {R = id8_cmp} h.metas) n.id text in
    all-one (record h { metas = with_row h.metas n.id text }) (sorted-one (entries rows) (entries_sorted rows))
set-texts h path text None None one = one

pub drop-texts : (h : Held Place) (nodes : FinMap path_cmp Node) (path : List ℕ) → HasOneTextEach h → HasOneTextEach (without_node h nodes path)
drop-texts h nodes path one =
    all-one (without_node h nodes path) (filter-one (λ id. not (has_id_within (nodes_over h nodes) path id)) h.metas (one-of h one))
