-- The entries of a part's map are its listing.
use Rattle.std.proofs.Common.{◌≡◌, ℕ, ◌<◌, inl, inr, List, get_or, refl, sym, ◌∙◌, ap, arith}
use Rattle.std.specs.Prelude.{Option, Some, None, option_map, slice_get, Result, Ok, Err, IfOk}
use Rattle.std.specs.declared.cmp.Ordering.TheVariants.{Less}
use Rattle.std.specs.BTreeMap.{BTreeMap, get, keys, is_at, IsOrdered}
use Rattle.std.proofs.lemmas.Bool.{cases_eq}
use Rattle.std.proofs.lemmas.Map.Entries.{place_from_lookup, btree_map_get_place}
use Rattle.std.proofs.lemmas.Map.Keys.{Less-from_sorted}
use Rattle.std.proofs.lemmas.Option.{slice_get-map, slice_get_within, get_or_from_slice_get}
use Rattle.object_store.specs.declared.keys.Key.{Key}
use Rattle.object_store.specs.declared.keys.Part.{Part}
use Rattle.object_store.specs.declared.keys.Part.TheVariants.{Snapshots, Manifests, Txns, Chunks, Branches, Tags, Leases}
use Rattle.object_store.specs.declared.events.Entry.{Entry}
use Rattle.object_store.specs.declared.events.Event.{Event}
use Rattle.object_store.specs.Machine.{Stored, found, part_of, listing_cmp, IsEntry, HasEntry, IsListing}
use Rattle.object_store.specs.Orders.{place_of, key_cmp, key_total}
use Rattle.object_store.proofs.Slots.{same_key-true}
use Rattle.object_store.proofs.Ties.{same-tie, within-part, mapped}
use Rattle.mem_store.specs.Shelves.{shelf_at, place_on, place_at, IsSorted}
use Rattle.mem_store.specs.KeptEvents.{put_in, puts_in}
use Rattle.mem_store.specs.Listed.{entry_in, entries_in}

part-same : (a b : Part) → place_of a ≡ place_of b → a ≡ b
part-same Snapshots Snapshots e = refl
part-same Manifests Manifests e = refl
part-same Txns Txns e = refl
part-same Chunks Chunks e = refl
part-same Branches Branches e = refl
part-same Tags Tags e = refl
part-same Leases Leases e = refl
part-same _ _ e = absurd (omega (arith, e))

-- the map of a part in an index that tells what stands after a journal
pub record IsShelf (journal : List Event) (shelves : List (BTreeMap Key ℕ)) (part : Part) (shelf : BTreeMap Key ℕ) : Type 0 where
  pub sorted : IsSorted shelves
  pub indexed : (key : Key) → puts_in journal (place_at shelves key) ≡ found journal key
  pub here : shelf_at shelves part ≡ Some shelf
  pub ordered : IsOrdered key_cmp shelf

module _ (journal : List Event) (shelves : List (BTreeMap Key ℕ)) (part : Part) (shelf : BTreeMap Key ℕ) (is : IsShelf journal shelves part shelf) where
  -- where a key is of the part, its place is in the part's map
  placed : (key : Key) → part_of key ≡ part → place_at shelves key ≡ get key_cmp shelf key
  placed key of = ap (λ (p : Part). place_on (shelf_at shelves p) key) of ∙ ap (λ (o : Option (BTreeMap Key ℕ)). place_on o key) is.here

  part-is : (key : Key) (v : ℕ) → get key_cmp shelf key ≡ Some v → part_of key ≡ part
  part-is key v e = elim (cases_eq (place_of (part_of key)) (place_of part)) [
    | inl same ↦ part-same (part_of key) part same
    | inr other ↦
        let bad : get key_cmp shelf key ≡ None = ap (λ (o : Option (BTreeMap Key ℕ)). place_on o key) (sym is.here) ∙ is.sorted part key other in cc
  ]

  stands : (key : Key) (v : ℕ) → get key_cmp shelf key ≡ Some v → found journal key ≡ Some (put_in journal v)
  stands key v e = sym (is.indexed key) ∙ ap (puts_in journal) (placed key (part-is key v e) ∙ e)

  rights : (k : ℕ) (e : Entry) → slice_get (entries_in journal shelf.entries) k ≡ Some e → IsEntry (found journal) part e
  rights k e at =
      let row = mapped (entry_in journal) shelf.entries k e at in
      let key : Key = row.0.0 in
      let v : ℕ = row.0.1 in
      let entry : e ≡ entry_in journal (key, v) = row.2 in
      let read : get key_cmp shelf key ≡ Some v = btree_map_get_place key_total shelf k key v is.ordered row.1 in
      record {
        stored = put_in journal v;
        stands = ap (λ (x : Entry). found journal x.key) entry ∙ stands key v read;
        part_is = ap (λ (x : Entry). part_of x.key) entry ∙ part-is key v read;
        size = ap (λ (x : Entry). x.size) entry;
        created = ap (λ (x : Entry). x.created) entry;
      }

  has : (key : Key) (v : ℕ) → get key_cmp shelf key ≡ Some v → HasEntry (entries_in journal shelf.entries) key
  has key v e =
      let row = place_from_lookup (is_at (key_cmp key)) shelf.entries v e in
      record {
        place = row.0;
        entry = entry_in journal (row.1, v);
        here = slice_get-map (entry_in journal) shelf.entries row.0 ∙ ap (λ (o : Option (Key × ℕ)). option_map (entry_in journal) o) row.2;
        same = sym (same_key-true key row.1 (sym (same-tie key row.1) ∙ row.3));
      }

  wholes : (key : Key) (s : Stored) → part_of key ≡ part → found journal key ≡ Some s → HasEntry (entries_in journal shelf.entries) key
  wholes key s of e = decide (get key_cmp shelf key) refl
    where
      decide : (o : Option ℕ) → get key_cmp shelf key ≡ o → HasEntry (entries_in journal shelf.entries) key
      decide None none =
          let bad : None ≡ Some s = ap (puts_in journal) (sym (placed key of ∙ none)) ∙ (is.indexed key ∙ e) in cc
      decide (Some v) some = has key v some

  ups : (j k : ℕ) (d e : Entry) → j < k → slice_get (entries_in journal shelf.entries) j ≡ Some d → slice_get (entries_in journal shelf.entries) k ≡ Some e → listing_cmp d.key e.key ≡ Less
  ups j k d e l at-j at-k =
      let first = mapped (entry_in journal) shelf.entries j d at-j in
      let second = mapped (entry_in journal) shelf.entries k e at-k in
      let a : Key = first.0.0 in
      let b : Key = second.0.0 in
      let key-j : slice_get (keys shelf) j ≡ Some a = slice_get-map (λ (x : Key × ℕ). x.0) shelf.entries j ∙ ap (λ (o : Option (Key × ℕ)). option_map (λ (x : Key × ℕ). x.0) o) first.1 in
      let key-k : slice_get (keys shelf) k ≡ Some b = slice_get-map (λ (x : Key × ℕ). x.0) shelf.entries k ∙ ap (λ (o : Option (Key × ℕ)). option_map (λ (x : Key × ℕ). x.0) o) second.1 in
      let less : key_cmp (get_or (keys shelf) j a) (get_or (keys shelf) k a) ≡ Less = Less-from_sorted key_cmp (keys shelf) j k a is.ordered l (slice_get_within (keys shelf) k b key-k) in
      let less-keys : key_cmp a b ≡ Less =
      ap (λ (x : Key). key_cmp x b) (sym (get_or_from_slice_get (keys shelf) j a a key-j))
      ∙ (ap (λ (x : Key). key_cmp (get_or (keys shelf) j a) x) (sym (get_or_from_slice_get (keys shelf) k b a key-k)) ∙ less) in
      let part-a : part_of a ≡ part = part-is a first.0.1 (btree_map_get_place key_total shelf j a first.0.1 is.ordered first.1) in
      let part-b : part_of b ≡ part = part-is b second.0.1 (btree_map_get_place key_total shelf k b second.0.1 is.ordered second.1) in
      ap (λ (x : Entry). listing_cmp x.key e.key) first.2
      ∙ (ap (λ (x : Entry). listing_cmp a x.key) second.2
      ∙ within-part part a b part-a part-b less-keys)

  pub listing-shelf : IsListing (found journal) part (entries_in journal shelf.entries)
  listing-shelf = record { right = rights; whole = wholes; ascending = ups }

pub IfOk-then : {A E : Type 0} {P Q : A → Type 0} (r : Result A E) → IfOk r P → ((a : A) → P a → Q a) → IfOk r Q
IfOk-then (Ok a) p f = f a p
IfOk-then (Err e) p f = tt
