-- The entries of objects that were found by their keys are a listing.
use Rattle.std.proofs.Common.{◌≡◌, ℕ, zero, suc, ◌<◌, List, [], map, get_or, refl, sym, ◌∙◌, ap, Bool, true, false, subst}
use Rattle.std.specs.Prelude.{Option, Some, None, option_map, slice_get}
use Rattle.std.specs.declared.cmp.Ordering.TheVariants.{Less}
use Rattle.std.specs.Map.{lookup}
use Rattle.std.specs.BTreeMap.{BTreeMap, get, keys, is_at, IsOrdered, IsUnchanged, Updates}
use Rattle.std.proofs.lemmas.Map.Entries.{btree_map_get_place}
use Rattle.std.proofs.lemmas.Map.Keys.{Less-from_sorted}
use Rattle.std.proofs.lemmas.Option.{slice_get-map, slice_get_within, get_or_from_slice_get}
use Rattle.object_store.specs.declared.keys.Key.{Key}
use Rattle.object_store.specs.declared.keys.Part.{Part}
use Rattle.object_store.specs.declared.events.Entry.{Entry}
use Rattle.object_store.specs.Machine.{part_of, listing_cmp}
use Rattle.object_store.specs.Orders.{key_cmp, key_total}
use Rattle.object_store.proofs.Slots.{same_key-true}
use Rattle.object_store.proofs.Ties.{same-tie, within-part, mapped}
use Rattle.object_files.specs.declared.listing.Measures.{Measures}
use Rattle.object_files.specs.Listings.{IsListed}
use Rattle.object_files.specs.inside.Finding.{IsOfPart, entry_of}

abbrev no_entries : List Entry
no_entries = []

slice_get-nil : (k : ℕ) → slice_get no_entries k ≡ None
slice_get-nil zero = refl
slice_get-nil (suc k) = refl

pub empty_part : (part : Part) (m : BTreeMap Key Measures) → IsOrdered key_cmp m → m.entries ≡ [] → IsOfPart part m
empty_part part m ordered empty = record {
  ordered = ordered;
  parts = λ q v e. let none : get key_cmp m q ≡ None = ap (lookup (is_at (key_cmp q))) empty in let bad : None ≡ Some v = sym none ∙ e in cc;
}

pub nothing_listed : (part : Part) → IsListed part []
nothing_listed part = record {
  parts = λ k e at. let bad : None ≡ Some e = sym (slice_get-nil k) ∙ at in cc;
  ascending = λ j k d e l at-j at-k. let bad : None ≡ Some d = sym (slice_get-nil j) ∙ at-j in cc;
}

pub kept : (part : Part) (m n : BTreeMap Key Measures) → IsOfPart part m → IsOrdered key_cmp n → IsUnchanged m n → IsOfPart part n
kept part m n is ordered same = record {
  ordered = ordered;
  parts = λ q v e. is.parts q v (ap (λ es. lookup (is_at (key_cmp q)) es) (sym same) ∙ e);
}

pub inserted : (part : Part) (m n : BTreeMap Key Measures) (key : Key) (v : Measures) → IsOfPart part m → IsOrdered key_cmp n → part_of key ≡ part → Updates key_cmp m n key (Some v)
    → IsOfPart part n
inserted part m n key v is ordered of updates = record { ordered = ordered; parts = λ q w e. decide q w (is_at (key_cmp key) q) refl e }
  where
    decide : (q : Key) (w : Measures) (b : Bool) → is_at (key_cmp key) q ≡ b → get key_cmp n q ≡ Some w → part_of q ≡ part
    decide q w true same e = ap part_of (sym (same_key-true key q (sym (same-tie key q) ∙ same))) ∙ of
    decide q w false other e = is.parts q w (sym (updates.2 q other) ∙ e)

module _ (part : Part) (found : BTreeMap Key Measures) (is : IsOfPart part found) where
  parts : (k : ℕ) (e : Entry) → slice_get (map entry_of found.entries) k ≡ Some e → part_of e.key ≡ part
  parts k e at =
      let row = mapped entry_of found.entries k e at in
      ap (λ (x : Entry). part_of x.key) row.2 ∙ is.parts row.0.0 row.0.1 (btree_map_get_place key_total found k row.0.0 row.0.1 is.ordered row.1)

  ups : (j k : ℕ) (d e : Entry) → j < k → slice_get (map entry_of found.entries) j ≡ Some d → slice_get (map entry_of found.entries) k ≡ Some e → listing_cmp d.key e.key ≡ Less
  ups j k d e l at-j at-k =
      let first = mapped entry_of found.entries j d at-j in
      let second = mapped entry_of found.entries k e at-k in
      let a : Key = first.0.0 in
      let b : Key = second.0.0 in
      let key-j : slice_get (keys found) j ≡ Some a = slice_get-map (λ (x : Key × Measures). x.0) found.entries j ∙ ap (λ (o : Option (Key × Measures)). option_map (λ (x : Key × Measures). x.0) o) first.1 in
      let key-k : slice_get (keys found) k ≡ Some b = slice_get-map (λ (x : Key × Measures). x.0) found.entries k ∙ ap (λ (o : Option (Key × Measures)). option_map (λ (x : Key × Measures). x.0) o) second.1 in
      let less : key_cmp (get_or (keys found) j a) (get_or (keys found) k a) ≡ Less = Less-from_sorted key_cmp (keys found) j k a is.ordered l (slice_get_within (keys found) k b key-k) in
      let less-keys : key_cmp a b ≡ Less =
      ap (λ (x : Key). key_cmp x b) (sym (get_or_from_slice_get (keys found) j a a key-j))
      ∙ (ap (λ (x : Key). key_cmp (get_or (keys found) j a) x) (sym (get_or_from_slice_get (keys found) k b a key-k)) ∙ less) in
      let part-a : part_of a ≡ part = is.parts a first.0.1 (btree_map_get_place key_total found j a first.0.1 is.ordered first.1) in
      let part-b : part_of b ≡ part = is.parts b second.0.1 (btree_map_get_place key_total found k b second.0.1 is.ordered second.1) in
      ap (λ (x : Entry). listing_cmp x.key e.key) first.2
      ∙ (ap (λ (x : Entry). listing_cmp a x.key) second.2
      ∙ within-part part a b part-a part-b less-keys)

  pub listed : IsListed part (map entry_of found.entries)
  listed = record { parts = parts; ascending = ups }

  pub listed-as : (entries : List Entry) → entries ≡ map entry_of found.entries → IsListed part entries
  listed-as entries is = subst (IsListed part) (sym is) listed
