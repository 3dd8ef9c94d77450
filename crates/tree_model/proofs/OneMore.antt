-- The changes after one more edit.
use Rattle.std.proofs.Common.{◌≡◌, ◌∙◌, ℕ, Bool, true, false, cond, not, ◌&&◌, ◌||◌, List, [], ◌∷◌, ◌++◌, map, Option, Some, None, is_some, refl, sym, ap}
use Rattle.std.specs.List.{filter}
use Rattle.std.specs.Borrow.{Bor}
use Rattle.std.specs.Option.{option_copied}
use Rattle.std.specs.FinMap.{FinMap, get, entries, retain_keys}
use Rattle.ice_ids.specs.declared.Id8.{Id8}
use Rattle.ice_ids.specs.Text.{same_id8}
use Rattle.zarr_path.specs.Paths.{path_cmp, is_within}
use Rattle.zarr_meta.specs.declared.metas.Meta.{Meta}
use Rattle.zarr_tree.specs.Nodes.{Node, same_numbers}
use Rattle.zarr_tree.specs.Edits.{Drop}
use Rattle.zarr_tree.specs.Changes.{Changes, has_id, has_id_within, with_meta, with_entry}
use Rattle.zarr_tree.specs.Touched.{lists}
use Rattle.zarr_tree.specs.Held.{Held, HeldEntry, changes_of}
use Rattle.tree_model.specs.inside.Entering.{entered, ids_within}
use Rattle.zarr_tree.proofs.Apply.{id-true}
use Rattle.tree_model.proofs.Finding.{ids_listed}
use Rattle.tree_model.proofs.Entries.{text-first, texts-left, entry-first, chunks-left, chunk-left}

abbrev pub Lists : Type 0
Lists = Held (List ℕ)

abbrev pub told : Lists → Changes
told h = changes_of (λ (b : List ℕ). Some b) h

abbrev pub Metas : Type 0
Metas = List (Id8 × Meta)

abbrev pub texts : Metas → List (Id8 × List ℕ)
texts rows = map (λ (row : Id8 × Meta). (row.0, row.1.text)) rows

module _ (h : Lists) (n : Node) where
  -- another text, for the tree's own node
  pub meta_entered : (p text : List ℕ) → told (record h { metas = (n.id, text) ∷ h.metas }) ≡ with_meta (told h) p text None (Some n)
  meta_entered p text = λ i. record (told h) { metas = λ id. text-first h.metas n.id text id i }

  -- an entry of a chunk, and none any more
  pub entry_entered : (j : List ℕ) (entry : Option (List ℕ)) → told (record h { chunks = (n.id, j, entry) ∷ h.chunks }) ≡ with_entry (told h) j (Some entry) (Some n)
  entry_entered j entry = λ i. record (told h) { chunks = λ id k. entry-first h.chunks n.id j entry id k i }

  pub entry_removed : (j : List ℕ) → told (record h { chunks = filter (λ (row : HeldEntry (List ℕ)). not (same_id8 row.0 n.id && same_numbers row.1 j)) h.chunks }) ≡ with_entry (told h) j None (Some n)
  entry_removed j = λ i. record (told h) { chunks = λ id k. chunk-left h.chunks n.id j id k i }

-- the entries that are left, where the one for a chunk goes
abbrev pub left_entries : List (HeldEntry (List ℕ)) → Id8 → (index : List ℕ) → List (HeldEntry (List ℕ))
left_entries rows id j = filter (λ (row : HeldEntry (List ℕ)). not (same_id8 row.0 id && same_numbers row.1 j)) rows

pub is_copied : (o : Option (Bor Node)) → is_some (option_copied o) ≡ is_some o
is_copied None = refl
is_copied (Some n) = refl

-- one dropped id more
lists_more : (ids : List Id8) (k id : Id8) → lists (ids ++ k ∷ []) id ≡ (lists ids id || same_id8 k id)
lists_more [] k id = elim (same_id8 k id) as (λ b. (b || false) ≡ b) [ true ↦ refl | false ↦ refl ]
lists_more (x ∷ ids) k id = elim (same_id8 x id) as (λ b. (b || lists (ids ++ k ∷ []) id) ≡ ((b || lists ids id) || same_id8 k id)) [ true ↦ refl | false ↦ lists_more ids k id ]

twice : (b : Bool) → b ≡ (b && b)
twice true = refl
twice false = refl

pub id_dropped : (dropped ids : List Id8) (k : Id8) (n : Node) (under own : Option Node) → ids ≡ dropped ++ k ∷ [] → under ≡ Some n → k ≡ n.id → has_id k own ≡ true
    → (id : Id8) → lists ids id ≡ (lists dropped id || (has_id id under && has_id id own))
id_dropped dropped ids k n under None more found same has id = cc
id_dropped dropped ids k n under (Some m) more found same has id =
    ap (λ (x : List Id8). lists x id) more ∙ lists_more dropped k id
    ∙ ap (λ b. lists dropped id || b) (twice (same_id8 k id) ∙ (λ i. same_id8 (same i) id && same_id8 (sym (id-true m.id k has) i) id) ∙ ap (λ (there : Option Node). has_id id there && same_id8 m.id id) (sym found))

-- the added nodes and the texts that are left
abbrev pub left_nodes : FinMap path_cmp Node → (path : List ℕ) → FinMap path_cmp Node
left_nodes nodes p = retain_keys nodes (λ q. not (is_within p q))

abbrev pub left_metas : Metas → List Id8 → Metas
left_metas rows ids = filter (λ (row : Id8 × Meta). not (lists ids row.0)) rows

abbrev pub left_chunks : List (HeldEntry (List ℕ)) → List Id8 → List (HeldEntry (List ℕ))
left_chunks rows ids = filter (λ (row : HeldEntry (List ℕ)). not (lists ids row.0)) rows

-- the texts that are left
pub texts_filtered : (ids : List Id8) (rows : Metas) → texts (filter (λ (row : Id8 × Meta). not (lists ids row.0)) rows) ≡ filter (λ (row : Id8 × List ℕ). not (lists ids row.0)) (texts rows)
texts_filtered ids [] = refl
texts_filtered ids (row ∷ rows) = by_test (lists ids row.0) (texts_filtered ids rows)
  where
    by_test : (b : Bool) → texts (filter (λ (row : Id8 × Meta). not (lists ids row.0)) rows) ≡ filter (λ (row : Id8 × List ℕ). not (lists ids row.0)) (texts rows)
        → texts (cond (not b) (row ∷ filter (λ (row : Id8 × Meta). not (lists ids row.0)) rows) (filter (λ (row : Id8 × Meta). not (lists ids row.0)) rows))
        ≡ cond (not b) ((row.0, row.1.text) ∷ filter (λ (row : Id8 × List ℕ). not (lists ids row.0)) (texts rows)) (filter (λ (row : Id8 × List ℕ). not (lists ids row.0)) (texts rows))
    by_test true rest = rest
    by_test false rest = ap (λ (x : List (Id8 × List ℕ)). (row.0, row.1.text) ∷ x) rest

-- the node at a path, and all beneath it, taken away
pub dropped_within : (h : Lists) (own under added : FinMap path_cmp Node) (p : List ℕ) (ids dropped : List Id8) (before after : Metas) (chunks : List (HeldEntry (List ℕ)))
    → ids ≡ ids_within p (entries under) → ((id : Id8) → lists dropped id ≡ (lists h.dropped id || (has_id id (get under p) && has_id id (get own p))))
    → added ≡ retain_keys h.added (λ q. not (is_within p q)) → h.metas ≡ texts before → after ≡ filter (λ (row : Id8 × Meta). not (lists ids row.0)) before
    → chunks ≡ filter (λ (row : HeldEntry (List ℕ)). not (lists ids row.0)) h.chunks
    → told (record { dropped = dropped; added = added; metas = texts after; chunks = chunks }) ≡ entered (told h) own under (Drop p)
dropped_within h own under added p ids dropped before after chunks within out left was kept held = λ i. record {
  dropped = λ id. out id i;
  added = left i;
  metas = λ id. metas_left id i;
  chunks = λ id j. chunks_left id j i;
}
  where
    listed : (id : Id8) → lists ids id ≡ has_id_within under p id
    listed id = ap (λ (x : List Id8). lists x id) within ∙ ids_listed under p id

    metas_left : (id : Id8) → (told (record { dropped = dropped; added = added; metas = texts after; chunks = chunks })).metas id ≡ cond (has_id_within under p id) None ((told h).metas id)
    metas_left id =
        ap (λ (x : List (Id8 × List ℕ)). (told (record h { metas = x })).metas id) (ap texts kept ∙ texts_filtered ids before ∙ ap (filter (λ (row : Id8 × List ℕ). not (lists ids row.0))) (sym was))
        ∙ texts-left h.metas ids id ∙ ap (λ b. cond b None ((told h).metas id)) (listed id)

    chunks_left : (id : Id8) (j : List ℕ) → (told (record { dropped = dropped; added = added; metas = texts after; chunks = chunks })).chunks id j ≡ cond (has_id_within under p id) None ((told h).chunks id j)
    chunks_left id j =
        ap (λ (x : List (HeldEntry (List ℕ))). (told (record h { chunks = x })).chunks id j) held
        ∙ chunks-left h.chunks ids id j ∙ ap (λ b. cond b None ((told h).chunks id j)) (listed id)
