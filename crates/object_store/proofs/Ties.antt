-- Keys that tie in their order are the same, and keys of one part are listed in their order.
use Rattle.std.proofs.Common.{◌≡◌, ℕ, false, List, map, refl, sym, ◌∙◌, ap}
use Rattle.std.specs.Prelude.{bytes_eq, Option, Some, None, option_map, slice_get}
use Rattle.std.specs.Ordering.{is_eq, nat_cmp, ordering_then}
use Rattle.std.specs.Cmp.Lexicographic.{slice_cmp}
use Rattle.std.specs.declared.cmp.Ordering.{Ordering}
use Rattle.std.specs.declared.cmp.Ordering.TheVariants.{Less, Equal, Greater}
use Rattle.std.proofs.lemmas.Cmp.{nat_cmp_total, tied_itself}
use Rattle.std.proofs.lemmas.Map.Text.{is_eq-slice_cmp}
use Rattle.std.proofs.lemmas.Option.{slice_get-map}
use Rattle.object_store.specs.declared.keys.Key.{Key}
use Rattle.object_store.specs.declared.keys.Key.TheVariants.{Snapshot, Manifest, Txn, Chunk, Branch, Tag, Tombstone, Lease}
use Rattle.object_store.specs.declared.keys.Part.{Part}
use Rattle.object_store.specs.Machine.{same_key, part_of, listing_cmp}
use Rattle.object_store.specs.Orders.{place_of, key_cmp}

then-equal : (o : Ordering) → is_eq (ordering_then o Equal) ≡ is_eq o
then-equal Less = refl
then-equal Equal = refl
then-equal Greater = refl

then-less : (o : Ordering) → is_eq (ordering_then o Less) ≡ false
then-less Less = refl
then-less Equal = refl
then-less Greater = refl

then-greater : (o : Ordering) → is_eq (ordering_then o Greater) ≡ false
then-greater Less = refl
then-greater Equal = refl
then-greater Greater = refl

names-tie : (a b : List ℕ) → is_eq (ordering_then (slice_cmp nat_cmp a b) Equal) ≡ bytes_eq a b
names-tie a b = then-equal (slice_cmp nat_cmp a b) ∙ is_eq-slice_cmp a b

pub same-tie : (a b : Key) → is_eq (key_cmp a b) ≡ same_key a b
same-tie (Snapshot a) (Snapshot b) = names-tie a.0 b.0
same-tie (Manifest a) (Manifest b) = names-tie a.0 b.0
same-tie (Txn a) (Txn b) = names-tie a.0 b.0
same-tie (Chunk a) (Chunk b) = names-tie a.0 b.0
same-tie (Branch a) (Branch b) = names-tie a b
same-tie (Tag a) (Tag b) = names-tie a b
same-tie (Tombstone a) (Tombstone b) = names-tie a b
same-tie (Lease a) (Lease b) = names-tie a.0 b.0
same-tie (Tag a) (Tombstone b) = then-less (slice_cmp nat_cmp a b)
same-tie (Tombstone a) (Tag b) = then-greater (slice_cmp nat_cmp a b)
same-tie _ _ = refl

pub within-part : (part : Part) (a b : Key) → part_of a ≡ part → part_of b ≡ part → key_cmp a b ≡ Less → listing_cmp a b ≡ Less
within-part part a b p q less =
    sym (ap (λ (o : Ordering). ordering_then o (listing_cmp a b)) (tied_itself nat_cmp_total (place_of part)))
    ∙ (ap (λ (x : Part). ordering_then (nat_cmp (place_of x) (place_of part)) (listing_cmp a b)) (sym p)
    ∙ (ap (λ (x : Part). ordering_then (nat_cmp (place_of (part_of a)) (place_of x)) (listing_cmp a b)) (sym q)
    ∙ less))

-- an element of a list of values, and what it is the value of
pub mapped : {A B : Type 0} (f : A → B) (xs : List A) (k : ℕ) (y : B) → slice_get (map f xs) k ≡ Some y → (x : A) × (slice_get xs k ≡ Some x) × (y ≡ f x)
mapped {A} {B} f xs k y e = decide (slice_get xs k) refl
  where
    decide : (o : Option A) → slice_get xs k ≡ o → (x : A) × (slice_get xs k ≡ Some x) × (y ≡ f x)
    decide None is = let bad : None ≡ Some y = ap (λ (o : Option A). option_map f o) (sym is) ∙ (sym (slice_get-map f xs k) ∙ e) in cc
    decide (Some x) is = let same : Some (f x) ≡ Some y = ap (λ (o : Option A). option_map f o) (sym is) ∙ (sym (slice_get-map f xs k) ∙ e) in (x, is, cc)
