-- Steps of the walks that the code takes.
use Rattle.std.proofs.Common.{◌≡◌, ◌∙◌, ℕ, zero, suc, ◌+◌, ◌<◌, ◌≤◌, Bool, true, false, cond, ◌||◌, List, [], ◌∷◌, ◌++◌, append_assoc, append-nil, map, drop, length, get_or, Some, is_some, option_map, Bor, Result, Ok, Err, refl, sym, ap, add-one, arith}
use Rattle.std.specs.Prelude.{find, slice_get, IfOk}
use Rattle.std.specs.FinMap.{keys, entries}
use Rattle.std.proofs.lemmas.List.{drop_all}
use Rattle.std.specs.Ordering.{is_lt}
use Rattle.std.specs.List.{list_any, filter, flat_map}
use Rattle.std.proofs.Math.Seq.{drop-cons}
use Rattle.ice_ids.specs.declared.Id8.{Id8}
use Rattle.ice_ids.specs.Text.{same_id8}
use Rattle.zarr_path.specs.Paths.{path_cmp}
use Rattle.zarr_tree.specs.declared.cases.Case.TheVariants as case
use Rattle.zarr_tree.specs.declared.cases.Conflict.{Conflict}
use Rattle.zarr_tree.specs.Nodes.{Node, is_array}
use Rattle.zarr_tree.specs.Touched.{lists}
use Rattle.zarr_tree.specs.Held.{HeldEntry, Rows, meta_in, entry_in}
use Rattle.zarr_changes.specs.Edits.{with_id}
use Rattle.zarr_changes.specs.Sets.{has_chunks}
use Rattle.zarr_changes.proofs.DropLaws.{lists-with}
use Rattle.held_log.specs.LookUp.{chunks_listed}
use Rattle.conflicts.specs.Found.{Sides, twice, of_added, of_row, rows_before, rows_from, found_in, found}
use Rattle.conflicts.specs.inside.Looking.{twice_at}
use Rattle.conflicts.proofs.Facts.{entry-found}
use Rattle.conflicts.proofs.Exactness.{made}

-- ---- sets of ids
or-assoc : (a b c : Bool) → ((a || b) || c) ≡ (a || (b || c))
or-assoc true b c = refl
or-assoc false b c = refl

-- one id more in a set, and one element less behind it
pub one-more : {A : Type 0} (f : A → Id8) (set new : List Id8) (xs : List A) (i : ℕ) (d : A) (id : Id8) (r : Bool) → i < length xs → new ≡ with_id set (f (get_or xs i d))
    → (lists set id || list_any (λ x. same_id8 (f x) id) (drop i xs)) ≡ r → (lists new id || list_any (λ x. same_id8 (f x) id) (drop (i + 1) xs)) ≡ r
one-more f set new xs i d id r lt e h =
    ap (λ ids. lists ids id || list_any (λ x. same_id8 (f x) id) (drop (i + 1) xs)) e
    ∙ ap (λ b. b || list_any (λ x. same_id8 (f x) id) (drop (i + 1) xs)) (lists-with set (f (get_or xs i d)) id)
    ∙ or-assoc (lists set id) (same_id8 (f (get_or xs i d)) id) (list_any (λ x. same_id8 (f x) id) (drop (i + 1) xs))
    ∙ ap (λ n. lists set id || (same_id8 (f (get_or xs i d)) id || list_any (λ x. same_id8 (f x) id) (drop n xs))) (add-one i)
    ∙ ap (λ ys. lists set id || list_any (λ x. same_id8 (f x) id) ys) (sym (drop-cons xs i d lt))
    ∙ h

pub meta-keys : (metas : List (Id8 × List ℕ)) (id : Id8) → lists (map (λ (row : Id8 × List ℕ). row.0) metas) id ≡ is_some (meta_in metas id)
meta-keys [] id = refl
meta-keys (m ∷ ms) id = elim (same_id8 m.0 id) as (λ b. (b || lists (map (λ (row : Id8 × List ℕ). row.0) ms) id) ≡ is_some (option_map (λ (row : Id8 × List ℕ). row.1) (cond b (Some m) (find (λ (row : Id8 × List ℕ). same_id8 row.0 id) ms)))) [
  | true ↦ refl
  | false ↦ meta-keys ms id
]

pub chunk-keys : {P : Type 0} (rows : List (HeldEntry P)) (id : Id8) → list_any (λ (key : Id8 × List ℕ). same_id8 key.0 id) (map (λ (row : HeldEntry P). (row.0, row.1)) rows) ≡ has_chunks rows id
chunk-keys [] id = refl
chunk-keys (r ∷ rs) id = ap (λ b. same_id8 r.0 id || b) (chunk-keys rs id)

-- ---- rows
pub next-row : {A : Type 0} (rows : List A) (at : ℕ) (row : A) → slice_get rows at ≡ Some row → drop at rows ≡ row ∷ drop (at + 1) rows
next-row {A} rows at row e = by_suc rows at e ∙ ap (λ n. row ∷ drop n rows) (sym (add-one at))
  where
    by_suc : (rows : List A) (at : ℕ) → slice_get rows at ≡ Some row → drop at rows ≡ row ∷ drop (suc at) rows
    by_suc [] at e = cc
    by_suc (x ∷ xs) zero e = let same : x ≡ row = cc in ap (λ (y : A). y ∷ xs) same
    by_suc (x ∷ xs) (suc at) e = by_suc xs at e

pub no-row : (rows : Rows) (at : ℕ) → length rows ≤ at → drop at rows ≡ []
no-row [] zero h = refl
no-row [] (suc at) h = refl
no-row (x ∷ xs) zero h = absurd (omega arith)
no-row (x ∷ xs) (suc at) h = no-row xs at (omega arith)

-- the paths of new nodes so far, and those of the rows that are left
module _ (f : List ℕ × Node → Bool) (rows : Rows) (at : ℕ) where
  abbrev left : ℕ → List (List ℕ)
  left n = map (λ (row : List ℕ × Node). row.0) (filter f (drop n rows))

  pub one-path : (old new r : List (List ℕ)) (row : List ℕ × Node) → slice_get rows at ≡ Some row → new ≡ old ++ cond (f row) (row.0 ∷ []) [] → old ++ left at ≡ r → new ++ left (at + 1) ≡ r
  one-path old new r row e is h =
      ap (λ (x : List (List ℕ)). x ++ left (at + 1)) is ∙ append_assoc old (cond (f row) (row.0 ∷ []) []) (left (at + 1))
      ∙ ap (λ (x : List (List ℕ)). old ++ x) (by_test (f row)) ∙ ap (λ (es : Rows). old ++ map (λ (row : List ℕ × Node). row.0) (filter f es)) (sym (next-row rows at row e)) ∙ h
    where
      by_test : (b : Bool) → cond b (row.0 ∷ []) [] ++ left (at + 1) ≡ map (λ (row : List ℕ × Node). row.0) (cond b (row ∷ filter f (drop (at + 1) rows)) (filter f (drop (at + 1) rows)))
      by_test true = refl
      by_test false = refl

  pub all-paths : (old r : List (List ℕ)) → length rows ≤ at → old ++ left at ≡ r → old ≡ r
  all-paths old r le h = sym (append-nil old) ∙ ap (λ (es : Rows). old ++ map (λ (row : List ℕ × Node). row.0) (filter f es)) (sym (no-row rows at le)) ∙ h

-- what is pushed of rows one behind another
module _ (f : List ℕ × Node → List Conflict) (rows : Rows) (at : ℕ) where
  pub one-pushed : (old new r : List Conflict) (row : List ℕ × Node) → slice_get rows at ≡ Some row → new ≡ old ++ f row → old ++ flat_map f (drop at rows) ≡ r → new ++ flat_map f (drop (at + 1) rows) ≡ r
  one-pushed old new r row e is h =
      ap (λ (x : List Conflict). x ++ flat_map f (drop (at + 1) rows)) is ∙ append_assoc old (f row) (flat_map f (drop (at + 1) rows))
      ∙ ap (λ (es : Rows). old ++ flat_map f es) (sym (next-row rows at row e)) ∙ h

  pub all-pushed : (old r : List Conflict) → length rows ≤ at → old ++ flat_map f (drop at rows) ≡ r → old ≡ r
  all-pushed old r le h = sym (append-nil old) ∙ ap (λ (es : Rows). old ++ flat_map f es) (sym (no-row rows at le)) ∙ h

  -- those that stand before a path
  module _ (p : List ℕ) where
    pub before-pushed : (old new r : List Conflict) (row : List ℕ × Node) → slice_get rows at ≡ Some row → is_lt (path_cmp row.0 p) ≡ true → new ≡ old ++ f row
        → old ++ flat_map f (rows_before p (drop at rows)) ≡ r → new ++ flat_map f (rows_before p (drop (at + 1) rows)) ≡ r
    before-pushed old new r row e lt is h =
        ap (λ (x : List Conflict). x ++ flat_map f (rows_before p (drop (at + 1) rows))) is ∙ append_assoc old (f row) (flat_map f (rows_before p (drop (at + 1) rows)))
        ∙ ap (λ b. old ++ flat_map f (cond b (row ∷ rows_before p (drop (at + 1) rows)) [])) (sym lt)
        ∙ ap (λ (es : Rows). old ++ flat_map f (rows_before p es)) (sym (next-row rows at row e)) ∙ h

    pub none-before : (old r : List Conflict) (row : List ℕ × Node) → slice_get rows at ≡ Some row → is_lt (path_cmp row.0 p) ≡ false → old ++ flat_map f (rows_before p (drop at rows)) ≡ r → old ≡ r
    none-before old r row e ge h =
        sym (append-nil old) ∙ ap (λ b. old ++ flat_map f (cond b (row ∷ rows_before p (drop (at + 1) rows)) [])) (sym ge)
        ∙ ap (λ (es : Rows). old ++ flat_map f (rows_before p es)) (sym (next-row rows at row e)) ∙ h

    pub all-before : (old r : List Conflict) → length rows ≤ at → old ++ flat_map f (rows_before p (drop at rows)) ≡ r → old ≡ r
    all-before old r le h = sym (append-nil old) ∙ ap (λ (es : Rows). old ++ flat_map f (rows_before p es)) (sym (no-row rows at le)) ∙ h

-- the rows from a path on
module _ (rows : Rows) (at : ℕ) (p : List ℕ) where
  pub from-later : (row : List ℕ × Node) (r : Rows) → slice_get rows at ≡ Some row → is_lt (path_cmp row.0 p) ≡ true → rows_from p (drop at rows) ≡ r → rows_from p (drop (at + 1) rows) ≡ r
  from-later row r e lt h =
      ap (λ b. cond b (rows_from p (drop (at + 1) rows)) (row ∷ drop (at + 1) rows)) (sym lt) ∙ ap (λ (es : Rows). rows_from p es) (sym (next-row rows at row e)) ∙ h

  pub from-here : (row : List ℕ × Node) (r : Rows) → slice_get rows at ≡ Some row → is_lt (path_cmp row.0 p) ≡ false → rows_from p (drop at rows) ≡ r → drop at rows ≡ r
  from-here row r e ge h =
      next-row rows at row e ∙ ap (λ b. cond b (rows_from p (drop (at + 1) rows)) (row ∷ drop (at + 1) rows)) (sym ge)
      ∙ ap (λ (es : Rows). rows_from p es) (sym (next-row rows at row e)) ∙ h

  pub from-none : (n : ℕ) (r : Rows) → length rows ≤ at → length rows ≤ n → rows_from p (drop at rows) ≡ r → drop n rows ≡ r
  from-none n r le past h = no-row rows n past ∙ ap (λ (es : Rows). rows_from p es) (sym (no-row rows at le)) ∙ h

-- ---- chunks of one node
pub twice-next : (s : Sides) (p : List ℕ) (id : Id8) (indices : List (List ℕ)) (at : ℕ) (i : List ℕ) (old new r : List Conflict) → slice_get indices at ≡ Some i → new ≡ old ++ twice_at s p id i
    → old ++ map (λ i. made case.ChunkDoubleUpdate p (Some i)) (filter (λ i. is_some (entry_in s.held.chunks id i)) (drop at indices)) ≡ r
    → new ++ map (λ i. made case.ChunkDoubleUpdate p (Some i)) (filter (λ i. is_some (entry_in s.held.chunks id i)) (drop (at + 1) indices)) ≡ r
twice-next s p id indices at i old new r e is h =
    ap (λ (x : List Conflict). x ++ map (λ i. made case.ChunkDoubleUpdate p (Some i)) behind) is ∙ append_assoc old (twice_at s p id i) (map (λ i. made case.ChunkDoubleUpdate p (Some i)) behind)
    ∙ ap (λ (x : List Conflict). old ++ x) (by_test (is_some (entry_in s.held.chunks id i)))
    ∙ ap (λ (xs : List (List ℕ)). old ++ map (λ i. made case.ChunkDoubleUpdate p (Some i)) (filter (λ i. is_some (entry_in s.held.chunks id i)) xs)) (sym (next-row indices at i e)) ∙ h
  where
    behind : List (List ℕ)
    behind = filter (λ i. is_some (entry_in s.held.chunks id i)) (drop (at + 1) indices)

    by_test : (b : Bool) → cond b (made case.ChunkDoubleUpdate p (Some i) ∷ []) [] ++ map (λ i. made case.ChunkDoubleUpdate p (Some i)) behind ≡ map (λ i. made case.ChunkDoubleUpdate p (Some i)) (cond b (i ∷ behind) behind)
    by_test true = refl
    by_test false = refl

-- where we have no entry of the node, none of its chunks was written by both
pub none-twice : (s : Sides) (id : Id8) (indices : List (List ℕ)) → has_chunks s.held.chunks id ≡ false → filter (λ i. is_some (entry_in s.held.chunks id i)) indices ≡ []
none-twice s id [] none = refl
none-twice s id (i ∷ is) none = by_entry (none-twice s id is none) (is_some (entry_in s.held.chunks id i)) refl
  where
    left : List (List ℕ)
    left = filter (λ i. is_some (entry_in s.held.chunks id i)) is

    by_entry : left ≡ [] → (b : Bool) → is_some (entry_in s.held.chunks id i) ≡ b → cond b (i ∷ left) left ≡ []
    by_entry rest true e = let has : has_chunks s.held.chunks id ≡ true = entry-found s.held.chunks id i e in absurd cc
    by_entry rest false e = rest

pub none-both : (s : Sides) (p : List ℕ) (n : Node) (old : List Conflict) → has_chunks s.held.chunks n.id ≡ false → old ≡ old ++ map (λ i. made case.ChunkDoubleUpdate p (Some i)) (twice s n)
none-both s p n old none = sym (append-nil old) ∙ ap (λ (xs : List (List ℕ)). old ++ map (λ i. made case.ChunkDoubleUpdate p (Some i)) xs) (sym (by_kind (is_array n.text)))
  where
    by_kind : (b : Bool) → cond b (filter (λ i. is_some (entry_in s.held.chunks n.id i)) (chunks_listed s.theirs.updated_chunks n.id)) [] ≡ []
    by_kind true = none-twice s n.id (chunks_listed s.theirs.updated_chunks n.id) none
    by_kind false = refl

-- ---- all
-- one added path, and the rows that stand before it
pub one-added : (s : Sides) (p : List ℕ) (ps : List (List ℕ)) (rows later : Rows) (old middle new r : List Conflict) → middle ≡ old ++ flat_map (of_row s) (rows_before p rows) → later ≡ rows_from p rows → new ≡ middle ++ of_added s p
    → old ++ found_in s (p ∷ ps) rows ≡ r → new ++ found_in s ps later ≡ r
one-added s p ps rows later old middle new r m l n h =
    ap (λ (x : List Conflict). x ++ found_in s ps later) n ∙ append_assoc middle (of_added s p) (found_in s ps later)
    ∙ ap (λ (es : Rows). middle ++ (of_added s p ++ found_in s ps es)) l
    ∙ ap (λ (x : List Conflict). x ++ (of_added s p ++ found_in s ps (rows_from p rows))) m
    ∙ append_assoc old (flat_map (of_row s) (rows_before p rows)) (of_added s p ++ found_in s ps (rows_from p rows)) ∙ h

-- ---- new nodes beneath a path
any-map : {A : Type 0} (f : List ℕ → Bool) (g : A → List ℕ) (xs : List A) → list_any (λ x. f (g x)) xs ≡ list_any f (map g xs)
any-map f g [] = refl
any-map f g (x ∷ xs) = ap (λ b. f (g x) || b) (any-map f g xs)

pub any-news : (f : List ℕ → Bool) (texts : List (Bor (List ℕ))) (rows : Rows) → map (λ (text : Bor (List ℕ)). text.now) texts ≡ map (λ (row : List ℕ × Node). row.0) rows
    → list_any (λ (text : Bor (List ℕ)). f text.now) texts ≡ list_any (λ (row : List ℕ × Node). f row.0) rows
any-news f texts rows e = any-map f (λ (text : Bor (List ℕ)). text.now) texts ∙ ap (list_any f) e ∙ sym (any-map f (λ (row : List ℕ × Node). row.0) rows)

pub any-same : {A : Type 0} (f g : A → Bool) (xs : List A) → ((x : A) → f x ≡ g x) → list_any f xs ≡ list_any g xs
any-same f g [] h = refl
any-same f g (x ∷ xs) h = λ i. h x i || any-same f g xs h i

-- where no added path is left, what is left are the rows from a place on
pub all-found : (s : Sides) (paths : List (List ℕ)) (i at : ℕ) (old new : List Conflict) → length paths ≤ i → paths ≡ keys s.held.added → new ≡ old ++ flat_map (of_row s) (drop at (entries s.before))
    → old ++ found_in s (drop i paths) (drop at (entries s.before)) ≡ found_in s paths (entries s.before) → new ≡ found s
unfolding found
all-found s paths i at old new le is e h =
    e ∙ ap (λ (ps : List (List ℕ)). old ++ found_in s ps (drop at (entries s.before))) (sym (drop_all i paths le)) ∙ h ∙ ap (λ (ps : List (List ℕ)). found_in s ps (entries s.before)) is

-- ---- results
pub if-ok : {A E : Type 0} (r : Result A E) (P Q : A → Type 0) → ((a : A) → P a → Q a) → IfOk r P → IfOk r Q
if-ok (Ok a) P Q f h = f a h
if-ok (Err e) P Q f h = tt
