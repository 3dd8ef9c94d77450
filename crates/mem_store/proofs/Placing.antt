-- A shelf of the index that is set anew at one key.
use Rattle.std.proofs.Common.{◌≡◌, ◌≢◌, ℕ, ◌<◌, inl, inr, Bool, false, cond, List, length, get_or, set, sym, ◌∙◌, ap, arith, length-set}
use Rattle.std.specs.Prelude.{Option, Some, None, slice_get, Result, Ok, Err, OnOk, OnErr}
use Rattle.std.specs.BTreeMap.{BTreeMap, get, is_at, Updates, IsUnchanged}
use Rattle.std.specs.Map.{lookup}
use Rattle.std.specs.Ordering.{is_eq, nat_cmp, ordering_then}
use Rattle.std.proofs.lemmas.Bool.{cases_eq, cases_lt}
use Rattle.std.proofs.lemmas.List.{get_or-set_same, get_or-set_other}
use Rattle.std.proofs.lemmas.Option.{slice_get-get_or, slice_get_past, slice_get_within}
use Rattle.object_store.specs.declared.keys.Key.{Key}
use Rattle.object_store.specs.declared.keys.Part.{Part}
use Rattle.object_store.specs.Machine.{part_of, same_key, listing_cmp}
use Rattle.object_store.specs.Orders.{place_of, key_cmp}
use Rattle.mem_store.specs.Shelves.{shelf_at, place_on, place_at, IsSorted}
use Rattle.object_store.proofs.Ties.{same-tie}

set-here : {X : Type 0} (xs : List X) (i : ℕ) (x : X) → i < length xs → slice_get (set xs i x) i ≡ Some x
set-here {X} xs i x l =
    slice_get-get_or (set xs i x) i x (omega (arith, length-set {A = X}))
    ∙ ap (λ (y : X). Some y) (get_or-set_same xs i x x l)

set-elsewhere : {X : Type 0} (xs : List X) (i j : ℕ) (x : X) → j ≢ i → slice_get (set xs i x) j ≡ slice_get xs j
set-elsewhere {X} xs i j x ne =
    elim (cases_lt j (length xs)) [
      | inl l ↦ slice_get-get_or (set xs i x) j x (omega (arith, length-set {A = X}))
          ∙ (ap (λ (y : X). Some y) (get_or-set_other xs i j x x ne)
          ∙ sym (slice_get-get_or xs j x l))
      | inr g ↦ slice_get_past (set xs i x) j (omega (arith, length-set {A = X}, g)) ∙ sym (slice_get_past xs j (omega (arith, g)))
    ]

-- the shelf that was read at a part's place
pub shelf-read : (shelves : List (BTreeMap Key ℕ)) (part : Part) (i : ℕ) (m : BTreeMap Key ℕ) → i ≡ place_of part → i < length shelves → m ≡ get_or shelves i m → shelf_at shelves part ≡ Some (get_or shelves i m)
shelf-read shelves part i m at within read =
    ap (λ (k : ℕ). slice_get shelves k) (sym at) ∙ slice_get-get_or shelves i m within

untied : (a b : Key) → place_of (part_of b) ≢ place_of (part_of a) → is_eq (key_cmp a b) ≡ false
untied a b ne = differ (place_of (part_of a)) (place_of (part_of b)) (λ e. ne (sym e))
  where
    differ : (i j : ℕ) → i ≢ j → is_eq (ordering_then (nat_cmp i j) (listing_cmp a b)) ≡ false
    differ i j ne = grind (arith, ne)

apart : (a b : Key) → place_of (part_of b) ≢ place_of (part_of a) → same_key a b ≡ false
apart a b ne = sym (same-tie a b) ∙ untied a b ne

-- one shelf has another place at one key
pub set-place : (shelves : List (BTreeMap Key ℕ)) (i : ℕ) (key : Key) (m n : BTreeMap Key ℕ) (w : Option ℕ) → i ≡ place_of (part_of key) → shelf_at shelves (part_of key) ≡ Some m → ((q : Key) → get key_cmp n q ≡ cond (is_at (key_cmp key) q) w (get key_cmp m q)) → (q : Key) → place_at (set shelves i n) q ≡ cond (same_key key q) w (place_at shelves q)
set-place shelves i key m n w at was updates q =
    elim (cases_eq (place_of (part_of q)) i) [
      | inl e ↦ here e
      | inr ne ↦ ap (λ (o : Option (BTreeMap Key ℕ)). place_on o q) (set-elsewhere shelves i (place_of (part_of q)) n ne)
          ∙ ap (λ (b : Bool). cond b w (place_at shelves q)) (sym (apart key q (λ e. ne (e ∙ sym at))))
    ]
  where
    read : slice_get shelves i ≡ Some m
    read = ap (λ (k : ℕ). slice_get shelves k) at ∙ was

    within : i < length shelves
    within = slice_get_within shelves i m read

    here : place_of (part_of q) ≡ i → place_at (set shelves i n) q ≡ cond (same_key key q) w (place_at shelves q)
    here e =
        ap (λ (k : ℕ). place_on (slice_get (set shelves i n) k) q) e
        ∙ (ap (λ (o : Option (BTreeMap Key ℕ)). place_on o q) (set-here shelves i n within)
        ∙ (updates q
        ∙ (ap (λ (b : Bool). cond b w (get key_cmp m q)) (same-tie key q)
        ∙ ap (λ (o : Option (BTreeMap Key ℕ)). cond (same_key key q) w (place_on o q)) (sym (ap (λ (k : ℕ). slice_get shelves k) e ∙ read)))))

pub sorted-set : (shelves : List (BTreeMap Key ℕ)) (i : ℕ) (key : Key) (m n : BTreeMap Key ℕ) → IsSorted shelves → i ≡ place_of (part_of key) → shelf_at shelves (part_of key) ≡ Some m → ((q : Key) → is_at (key_cmp key) q ≡ false → get key_cmp n q ≡ get key_cmp m q) → IsSorted (set shelves i n)
sorted-set shelves i key m n sorted at was kept part q other =
    elim (cases_eq (place_of part) i) [
      | inl e ↦ here e
      | inr ne ↦ ap (λ (o : Option (BTreeMap Key ℕ)). place_on o q) (set-elsewhere shelves i (place_of part) n ne) ∙ sorted part q other
    ]
  where
    read : slice_get shelves i ≡ Some m
    read = ap (λ (k : ℕ). slice_get shelves k) at ∙ was

    within : i < length shelves
    within = slice_get_within shelves i m read

    here : place_of part ≡ i → place_on (shelf_at (set shelves i n) part) q ≡ None
    here e =
        ap (λ (k : ℕ). place_on (slice_get (set shelves i n) k) q) e
        ∙ (ap (λ (o : Option (BTreeMap Key ℕ)). place_on o q) (set-here shelves i n within)
        ∙ (kept q (untied key q (λ same. other (same ∙ (sym at ∙ sym e))))
        ∙ (ap (λ (o : Option (BTreeMap Key ℕ)). place_on o q) (sym (ap (λ (k : ℕ). slice_get shelves k) e ∙ read))
        ∙ sorted part q other)))

-- after an insertion, done or not, the other keys are as they were
pub others-kept : {A E : Type 0} (r : Result A E) (key : Key) (m n : BTreeMap Key ℕ) (place : ℕ) → OnOk r (Updates key_cmp m n key (Some place)) → OnErr r (IsUnchanged m n) → (q : Key) → is_at (key_cmp key) q ≡ false → get key_cmp n q ≡ get key_cmp m q
others-kept (Ok a) key m n place ok err q off = ok.2 q off
others-kept (Err e) key m n place ok err q off = ap (λ (es : List (Key × ℕ)). lookup (is_at (key_cmp q)) es) err
