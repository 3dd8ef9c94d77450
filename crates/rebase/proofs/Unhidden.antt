-- Which nodes a commit's snapshot keeps, and what is taken out.
use Rattle.std.proofs.Common.{◌≡◌, ◌∙◌, ℕ, Bool, true, false, cond, not, ◌&&◌, List, [], ◌∷◌, Option, Some, None, is_some, option_map, inl, inr, refl, sym, ap}
use Rattle.std.specs.Prelude.{find}
use Rattle.std.specs.List.{filter}
use Rattle.std.specs.FinMap.{FinMap, entries}
use Rattle.ice_ids.specs.declared.Id8.{Id8}
use Rattle.ice_ids.specs.Text.{same_id8}
use Rattle.zarr_path.specs.Paths.{path_cmp}
use Rattle.zarr_tree.specs.declared.edit.Frozen.{Frozen}
use Rattle.zarr_tree.specs.Nodes.{Node, frozen_change}
use Rattle.zarr_tree.specs.Trees.{Tree}
use Rattle.zarr_tree.specs.Changes.{Changes, IsNormal}
use Rattle.zarr_tree.specs.Held.{Held, HeldEntry, meta_in}
use Rattle.zarr_tree.proofs.Apply.{both, first, second, id-true, id-refl}
use Rattle.zarr_changes.specs.Edits.{without_chunks}
use Rattle.conflicts.proofs.Members.{In, any-in, in-any}
use Rattle.conflicts.proofs.Facts.{row-in, in-row}
use Rattle.rebase.specs.Along.{is_kept, first_hidden}
use Rattle.commit_path.specs.Spelled.{IsOtherText}

-- ---- kept nodes
same_parts : (o : Option Frozen) → not (is_some o) ≡ true → o ≡ None
same_parts None e = refl
same_parts (Some part) e = cc

abbrev keeps : Id8 → List ℕ → List ℕ × Node → Bool
keeps id text row = same_id8 row.1.id id && not (is_some (frozen_change row.1.text text))

pub kept-is : (u : Tree) (id : Id8) (text : List ℕ) → is_kept u.nodes id text ≡ true → IsOtherText u.nodes id text
kept-is u id text e =
    let row = any-in (keeps id text) (entries u.nodes) e in
    record {
      path = row.0.0;
      node = row.0.1;
      found = in-row u.nodes row.0 row.1;
      same = id-true row.0.1.id id (first (same_id8 row.0.1.id id) _ row.2);
      frozen = same_parts (frozen_change row.0.1.text text) (second (same_id8 row.0.1.id id) _ row.2);
    }

pub is-kept : (u : Tree) (id : Id8) (text : List ℕ) → IsOtherText u.nodes id text → is_kept u.nodes id text ≡ true
is-kept u id text k =
    in-any (keeps id text) (entries u.nodes) (k.path, k.node) (row-in u.nodes k.path k.node k.found) (both _ _ (ap (λ i. same_id8 i id) k.same ∙ id-refl id) (ap (λ o. not (is_some o)) k.frozen))

-- normal changes have other texts of kept nodes alone
pub normal-keeps : (c : Changes) (u : Tree) (id : Id8) (text : List ℕ) → IsNormal c u → c.metas id ≡ Some text → IsOtherText u.nodes id text
normal-keeps c u id text n e =
    let k = n.metas id text e in
    record { path = k.path; node = k.before; found = k.was; same = k.before_id; frozen = n.frozen id text k.path k.before e k.was k.before_id }

-- ---- the first one that isn't kept
pub none-hidden : (nodes : FinMap path_cmp Node) (rows : List (Id8 × List ℕ)) → ((row : Id8 × List ℕ) → In rows row → is_kept nodes row.0 row.1 ≡ true) → first_hidden nodes rows ≡ None
none-hidden nodes [] k = refl
none-hidden nodes (row ∷ rows) k = ap (λ b. cond b (first_hidden nodes rows) (Some row.0)) (k row (inl refl)) ∙ none-hidden nodes rows (λ r h. k r (inr h))

pub all-kept : (nodes : FinMap path_cmp Node) (rows : List (Id8 × List ℕ)) → first_hidden nodes rows ≡ None → (row : Id8 × List ℕ) → In rows row → is_kept nodes row.0 row.1 ≡ true
all-kept nodes [] e row h = absurd h
all-kept nodes (r ∷ rs) e row h = by_test (is_kept nodes r.0 r.1) refl e h (all-kept nodes rs)
  where
    by_test : (b : Bool) → is_kept nodes r.0 r.1 ≡ b → cond b (first_hidden nodes rs) (Some r.0) ≡ None → In (r ∷ rs) row
        → (first_hidden nodes rs ≡ None → (row : Id8 × List ℕ) → In rs row → is_kept nodes row.0 row.1 ≡ true) → is_kept nodes row.0 row.1 ≡ true
    by_test true k e (inl same) further = ap (λ (x : Id8 × List ℕ). is_kept nodes x.0 x.1) (sym same) ∙ k
    by_test true k e (inr h) further = further e row h
    by_test false k e h further = cc e

pub record Lost (nodes : FinMap path_cmp Node) (rows : List (Id8 × List ℕ)) (id : Id8) : Type 0 where
  pub row : Id8 × List ℕ
  pub among : In rows row
  pub same : row.0 ≡ id
  pub lost : is_kept nodes row.0 row.1 ≡ false

pub hidden-lost : (nodes : FinMap path_cmp Node) (rows : List (Id8 × List ℕ)) (id : Id8) → first_hidden nodes rows ≡ Some id → Lost nodes rows id
hidden-lost nodes [] id e = cc
hidden-lost nodes (r ∷ rs) id e = by_test (is_kept nodes r.0 r.1) refl e (hidden-lost nodes rs id)
  where
    by_test : (b : Bool) → is_kept nodes r.0 r.1 ≡ b → cond b (first_hidden nodes rs) (Some r.0) ≡ Some id → (first_hidden nodes rs ≡ Some id → Lost nodes rs id) → Lost nodes (r ∷ rs) id
    by_test true k e further = let l = further e in record { row = l.row; among = inr l.among; same = l.same; lost = l.lost }
    by_test false k e further = let same : r.0 ≡ id = cc e in record { row = r; among = inl refl; same = same; lost = k }

-- ---- the text that is found
pub record Texted (rows : List (Id8 × List ℕ)) (id : Id8) (text : List ℕ) : Type 0 where
  pub row : Id8 × List ℕ
  pub among : In rows row
  pub same : row.0 ≡ id
  pub text_is : row.1 ≡ text

pub meta-row : (rows : List (Id8 × List ℕ)) (id : Id8) (text : List ℕ) → meta_in rows id ≡ Some text → Texted rows id text
meta-row [] id text e = cc
meta-row (r ∷ rs) id text e = by_test (same_id8 r.0 id) refl e (meta-row rs id text)
  where
    by_test : (b : Bool) → same_id8 r.0 id ≡ b → option_map (λ (row : Id8 × List ℕ). row.1) (cond b (Some r) (find (λ (row : Id8 × List ℕ). same_id8 row.0 id) rs)) ≡ Some text
        → (meta_in rs id ≡ Some text → Texted rs id text) → Texted (r ∷ rs) id text
    by_test true k e further = let is : r.1 ≡ text = cc e in record { row = r; among = inl refl; same = id-true r.0 id k; text_is = is }
    by_test false k e further = let t = further e in record { row = t.row; among = inr t.among; same = t.same; text_is = t.text_is }

-- ---- nothing taken out
all-stay : {A : Type 0} (xs : List A) → filter (λ x. true) xs ≡ xs
all-stay [] = refl
all-stay (x ∷ xs) = ap (λ ys. x ∷ ys) (all-stay xs)

pub none-out : {P : Type 0} (h : Held P) → without_chunks h [] ≡ h
none-out {P} h = λ z. record h { chunks = all-stay {A = HeldEntry P} h.chunks z }
