-- Single edits of what is held, and the changes that they are.
use Rattle.std.proofs.Common.{◌≡◌, ℕ, Bool, true, false, cond, List, [], ◌∷◌, Option, Some, None, is_some, option_map, refl, sym, ap, ◌∙◌}
use Rattle.std.specs.Prelude.{find}
use Rattle.std.specs.Ordering.{eq_by_cmp}
use Rattle.std.specs.Cmp.{both_ways}
use Rattle.std.specs.FinMap as map
use Rattle.std.specs.FinMap.{FinMap, get, insert, from_entries, get-entries, get-insert, get-from_entries}
use Rattle.ice_ids.specs.declared.Id8.{Id8}
use Rattle.ice_ids.specs.Text.{same_id8, id8_cmp}
use Rattle.zarr_path.specs.Paths.{path_cmp}
use Rattle.zarr_tree.specs.declared.edit.Frozen.{Frozen}
use Rattle.zarr_tree.specs.declared.edit.EditFault.TheVariants.{FrozenField}
use Rattle.zarr_tree.specs.Nodes.{Node, frozen_change}
use Rattle.zarr_tree.specs.Edits.{at_node}
use Rattle.zarr_tree.specs.Changes as changes
use Rattle.zarr_tree.specs.Changes.{Changes, extended, nodes_under}
use Rattle.zarr_tree.specs.Held.{Held, meta_in, changes_of, nodes_over}
use Rattle.zarr_tree.proofs.Apply.{id-true, id-refl}
use Rattle.zarr_changes.specs.Edits.{with_row, with_meta, with_text_at}
use Rattle.zarr_changes.specs.Sets.{text_refusal}
use Rattle.zarr_changes.specs.Laws.{TextLaw}
use Rattle.zarr_changes.proofs.IdLaws.{id_total, same_ids}
use Rattle.zarr_changes.proofs.Over.{over-added}

some_of : {A : Type 0} (o : Option A) → is_some o ≡ true → (x : A) × (o ≡ Some x)
some_of None e = cc
some_of (Some x) e = (x, refl)

-- ---- another text, as the code enters it
module _ {P : Type 0} (h : Held P) (nodes : FinMap path_cmp Node) (p text : List ℕ) (n : Node) (found : get (nodes_over h nodes) p ≡ Some n) where
  pub text_allowed : (change : Option Frozen) → change ≡ frozen_change n.text text → change ≡ None → text_refusal (nodes_over h nodes) p text ≡ None
  text_allowed change e f = ap (λ o. at_node o (λ m. option_map FrozenField (frozen_change m.text text))) found ∙ ap (option_map FrozenField) (sym e ∙ f)

  pub text_added : (after : FinMap path_cmp Node) → is_some (get h.added p) ≡ true → after ≡ insert h.added p (record { id = n.id; text = text })
      → record h { added = after } ≡ with_text_at h nodes p text
  text_added after there e =
      let m : (x : Node) × (get h.added p ≡ Some x) = some_of (get h.added p) there in
      let same : n ≡ m.0 = cc (sym found ∙ over-added h nodes p (Some m.0) m.1) in
      ap (λ (added : FinMap path_cmp Node). record h { added = added }) (e ∙ ap (λ (x : Node). insert h.added p (record { id = x.id; text = text })) same)
      ∙ ap (λ (o : Option Node). with_meta h p text o (get (nodes_over h nodes) p)) (sym m.1)

-- ---- and as changes
found_meta : (rows : List (Id8 × List ℕ)) (id : Id8) → meta_in rows id ≡ map.find id8_cmp id rows
found_meta [] id = refl
found_meta (row ∷ rows) id =
    ap (λ b. option_map (λ (r : Id8 × List ℕ). r.1) (cond b (Some row) (find (λ (r : Id8 × List ℕ). same_id8 r.0 id) rows))) (same_ids row.0 id)
    ∙ by_test (eq_by_cmp id8_cmp id row.0) (found_meta rows id)
  where
    by_test : (b : Bool) → meta_in rows id ≡ map.find id8_cmp id rows
        → option_map (λ (r : Id8 × List ℕ). r.1) (cond b (Some row) (find (λ (r : Id8 × List ℕ). same_id8 r.0 id) rows)) ≡ cond b (Some row.1) (map.find id8_cmp id rows)
    by_test true e = refl
    by_test false e = e

pub same-turned : (a b : Id8) → same_id8 a b ≡ same_id8 b a
same-turned a b = both_ways _ _ (λ e. ap (same_id8 b) (id-true a b e) ∙ id-refl b) (λ e. ap (same_id8 a) (id-true b a e) ∙ id-refl a)

meta-row : (rows : List (Id8 × List ℕ)) (k : Id8) (text : List ℕ) (id : Id8) → meta_in (with_row rows k text) id ≡ cond (same_id8 id k) (Some text) (meta_in rows id)
meta-row rows k text id =
    found_meta (with_row rows k text) id ∙ sym (get-entries (insert (from_entries {R = id8_cmp} rows) k text) id)
    ∙ get-insert id_total (from_entries {R = id8_cmp} rows) k text id
    ∙ (λ i. cond ((sym (same_ids k id) ∙ same-turned k id) i) (Some text) ((get-from_entries id_total rows id ∙ sym (found_meta rows id)) i))

module _ {P : Type 0} (bytes_at : P → Option (List ℕ)) (h : Held P) where
  text_changes : (p text : List ℕ) (added there : Option Node) → changes_of bytes_at (with_meta h p text added there) ≡ changes.with_meta (changes_of bytes_at h) p text added there
  text_changes p text (Some n) there = refl
  text_changes p text None (Some n) = λ i. record (changes_of bytes_at h) { metas = λ id. meta-row h.metas n.id text id i }
  text_changes p text None None = refl

pub text-law : {P : Type 0} → TextLaw P
text-law bytes_at h t p text = text_changes bytes_at h p text (get h.added p) (get (nodes_over h t.nodes) p)
