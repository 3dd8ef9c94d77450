-- Sets as lists in an order: what one more key changes.
use Rattle.std.proofs.Common.{◌≡◌, ◌⊎◌, inl, inr, ℕ, zero, suc, Bool, true, false, List, [], ◌∷◌, refl, sym, ◌∙◌, ap, subst, arith}
use Rattle.std.specs.Prelude.{◌||◌, ◌↔◌, Contains}
use Rattle.std.specs.declared.cmp.Ordering.{Ordering}
use Rattle.std.specs.declared.cmp.Ordering.TheVariants.{Less, Equal, Greater}
use Rattle.std.specs.Ordering.{match_ordering, ordering_then, ordering_reverse, is_eq, nat_cmp}
use Rattle.std.specs.List.{list_any, AllByRecursion}
use Rattle.std.specs.Cmp.{IsTotalOrder}
use Rattle.std.proofs.lemmas.Cmp.{tied_itself, nat_cmp_total, nat_list_cmp_total}
use Rattle.std.specs.BTreeMap.{is_at}
use Rattle.std.specs.BTreeSet.{insert_key}
use Rattle.std.specs.FinMap.{IsAntisymmetric, slice_cmp-IsAntisymmetric, nat_cmp-IsAntisymmetric}
use Rattle.ice_ids.specs.declared.Id8.{Id8}
use Rattle.ice_ids.specs.declared.Id12.{Id12}
use Rattle.ice_ids.specs.Text.{id12_cmp, id8_cmp}
use Rattle.ice_ids.specs.Sets.{has_object, with_object}
use Rattle.ice_ids.proofs.SetLaws.{contains_has, has_listed}
use Rattle.intact.specs.declared.visits.FileVisit.{FileVisit}
use Rattle.intact.specs.declared.visits.PartVisit.{PartVisit}
use Rattle.intact.specs.Places.{file_cmp, part_cmp}
use Rattle.repo_check.specs.Exact.{AreDistinct}

or_cases : (a b : Bool) → (a || b) ≡ true → (a ≡ true) ⊎ (b ≡ true)
or_cases true b e = inl refl
or_cases false b e = inr e

or_left : (a b : Bool) → a ≡ true → (a || b) ≡ true
or_left a b e = rw e refl

or_right : (a b : Bool) → b ≡ true → (a || b) ≡ true
or_right true b e = refl
or_right false b e = e

is-equal : (o : Ordering) → is_eq o ≡ true → o ≡ Equal
is-equal Less e = absurd cc
is-equal Equal e = refl
is-equal Greater e = absurd cc

-- ---- any order in which ties are the same
module _ {K : Type 0} (cmp : K → K → Ordering) (exact : IsAntisymmetric cmp) (self : (k : K) → cmp k k ≡ Equal) where
  abbrev pub HasKey : List K → K → Type 0
  HasKey ks q = list_any (is_at (cmp q)) ks ≡ true

  abbrev placed : Ordering → K → K → List K → List K
  placed o k x xs = match_ordering o (k ∷ x ∷ xs) (x ∷ xs) (x ∷ insert_key cmp xs k)

  same-at : (q k : K) → q ≡ k → is_at (cmp q) k ≡ true
  same-at q k e = ap (λ (x : K). is_eq (cmp q x)) (sym e) ∙ ap is_eq (self q)

  at-same : (q k : K) → is_at (cmp q) k ≡ true → q ≡ k
  at-same q k e = exact q k (is-equal (cmp q k) e)

  pub kept-key : (ks : List K) (k q : K) → HasKey ks q → HasKey (insert_key cmp ks k) q
  kept-key [] k q h = absurd cc
  kept-key (x ∷ xs) k q h = go (kept-key xs k q) (cmp k x)
    where
      go : (HasKey xs q → HasKey (insert_key cmp xs k) q) → (o : Ordering) → HasKey (placed o k x xs) q
      go rest Less = or_right (is_at (cmp q) k) (list_any (is_at (cmp q)) (x ∷ xs)) h
      go rest Equal = h
      go rest Greater = elim (or_cases (is_at (cmp q) x) (list_any (is_at (cmp q)) xs) h) [
        | inl a ↦ or_left (is_at (cmp q) x) (list_any (is_at (cmp q)) (insert_key cmp xs k)) a
        | inr b ↦ or_right (is_at (cmp q) x) (list_any (is_at (cmp q)) (insert_key cmp xs k)) (rest b)
      ]

  pub has-key : (ks : List K) (k : K) → HasKey (insert_key cmp ks k) k
  has-key [] k = or_left (is_at (cmp k) k) false (same-at k k refl)
  has-key (x ∷ xs) k = go (has-key xs k) (cmp k x) refl
    where
      go : HasKey (insert_key cmp xs k) k → (o : Ordering) → cmp k x ≡ o → HasKey (placed o k x xs) k
      go rest Less e = or_left (is_at (cmp k) k) (list_any (is_at (cmp k)) (x ∷ xs)) (same-at k k refl)
      go rest Equal e = or_left (is_at (cmp k) x) (list_any (is_at (cmp k)) xs) (ap is_eq e)
      go rest Greater e = or_right (is_at (cmp k) x) (list_any (is_at (cmp k)) (insert_key cmp xs k)) rest

  pub only-key : (ks : List K) (k q : K) → HasKey (insert_key cmp ks k) q → HasKey ks q ⊎ (k ≡ q)
  only-key [] k q h = elim (or_cases (is_at (cmp q) k) false h) [
    | inl a ↦ inr (sym (at-same q k a))
    | inr b ↦ absurd cc
  ]
  only-key (x ∷ xs) k q h = go (only-key xs k q) (cmp k x) h
    where
      go : (HasKey (insert_key cmp xs k) q → HasKey xs q ⊎ (k ≡ q)) → (o : Ordering) → HasKey (placed o k x xs) q → HasKey (x ∷ xs) q ⊎ (k ≡ q)
      go rest Less h = elim (or_cases (is_at (cmp q) k) (list_any (is_at (cmp q)) (x ∷ xs)) h) [
        | inl a ↦ inr (sym (at-same q k a))
        | inr b ↦ inl b
      ]
      go rest Equal h = inl h
      go rest Greater h = elim (or_cases (is_at (cmp q) x) (list_any (is_at (cmp q)) (insert_key cmp xs k)) h) [
        | inl a ↦ inl (or_left (is_at (cmp q) x) (list_any (is_at (cmp q)) xs) a)
        | inr b ↦ elim (rest b) [
          | inl c ↦ inl (or_right (is_at (cmp q) x) (list_any (is_at (cmp q)) xs) c)
          | inr d ↦ inr d
        ]
      ]

-- ---- the orders
id12-total : IsTotalOrder id12_cmp
id12-total = record {
  antisymm = λ x y. nat_list_cmp_total.antisymm x.0 y.0;
  trans = λ x y z. nat_list_cmp_total.trans x.0 y.0 z.0;
  congr = λ x y z. nat_list_cmp_total.congr x.0 y.0 z.0;
}

id12-exact : IsAntisymmetric id12_cmp
id12-exact x y e = let bytes : x.0 ≡ y.0 = slice_cmp-IsAntisymmetric nat_cmp-IsAntisymmetric x.0 y.0 e in λ i. record { 0 = bytes i }

id12-self : (x : Id12) → id12_cmp x x ≡ Equal
id12-self x = tied_itself nat_list_cmp_total x.0

id8-exact : IsAntisymmetric id8_cmp
id8-exact x y e = let bytes : x.0 ≡ y.0 = slice_cmp-IsAntisymmetric nat_cmp-IsAntisymmetric x.0 y.0 e in λ i. record { 0 = bytes i }

id8-self : (x : Id8) → id8_cmp x x ≡ Equal
id8-self x = tied_itself nat_list_cmp_total x.0

nat-self : (n : ℕ) → nat_cmp n n ≡ Equal
nat-self n = tied_itself nat_cmp_total n

then-first : (o p : Ordering) → ordering_then o p ≡ Equal → o ≡ Equal
then-first Less p e = absurd cc
then-first Equal p e = refl
then-first Greater p e = absurd cc

then-second : (o p : Ordering) → ordering_then o p ≡ Equal → p ≡ Equal
then-second Less p e = absurd cc
then-second Equal p e = e
then-second Greater p e = absurd cc

then-both : (o p : Ordering) → o ≡ Equal → p ≡ Equal → ordering_then o p ≡ Equal
then-both o p a b = rw a b

pub file-exact : IsAntisymmetric file_cmp
file-exact x y e =
    let rest = then-second (id12_cmp x.manifest y.manifest) (ordering_then (id8_cmp x.node y.node) (nat_cmp x.want y.want)) e in
    let manifest : x.manifest ≡ y.manifest = id12-exact x.manifest y.manifest (then-first (id12_cmp x.manifest y.manifest) (ordering_then (id8_cmp x.node y.node) (nat_cmp x.want y.want)) e) in
    let node : x.node ≡ y.node = id8-exact x.node y.node (then-first (id8_cmp x.node y.node) (nat_cmp x.want y.want) rest) in
    let want : x.want ≡ y.want = nat_cmp-IsAntisymmetric x.want y.want (then-second (id8_cmp x.node y.node) (nat_cmp x.want y.want) rest) in
    λ i. record { manifest = manifest i; node = node i; want = want i }

pub file-self : (x : FileVisit) → file_cmp x x ≡ Equal
file-self x = then-both (id12_cmp x.manifest x.manifest) (ordering_then (id8_cmp x.node x.node) (nat_cmp x.want x.want)) (id12-self x.manifest) (then-both (id8_cmp x.node x.node) (nat_cmp x.want x.want) (id8-self x.node) (nat-self x.want))

pub part-exact : IsAntisymmetric part_cmp
part-exact x y e =
    let tail : Ordering = ordering_then (nat_cmp x.size y.size) (nat_cmp x.want y.want) in
    let rest = then-second (id12_cmp x.object y.object) (ordering_then (nat_cmp x.offset y.offset) tail) e in
    let last = then-second (nat_cmp x.offset y.offset) tail rest in
    let object : x.object ≡ y.object = id12-exact x.object y.object (then-first (id12_cmp x.object y.object) (ordering_then (nat_cmp x.offset y.offset) tail) e) in
    let offset : x.offset ≡ y.offset = nat_cmp-IsAntisymmetric x.offset y.offset (then-first (nat_cmp x.offset y.offset) tail rest) in
    let size : x.size ≡ y.size = nat_cmp-IsAntisymmetric x.size y.size (then-first (nat_cmp x.size y.size) (nat_cmp x.want y.want) last) in
    let want : x.want ≡ y.want = nat_cmp-IsAntisymmetric x.want y.want (then-second (nat_cmp x.size y.size) (nat_cmp x.want y.want) last) in
    λ i. record { object = object i; offset = offset i; size = size i; want = want i }

pub part-self : (x : PartVisit) → part_cmp x x ≡ Equal
part-self x =
    then-both (id12_cmp x.object x.object) (ordering_then (nat_cmp x.offset x.offset) (ordering_then (nat_cmp x.size x.size) (nat_cmp x.want x.want))) (id12-self x.object)
    (then-both (nat_cmp x.offset x.offset) (ordering_then (nat_cmp x.size x.size) (nat_cmp x.want x.want)) (nat-self x.offset) (then-both (nat_cmp x.size x.size) (nat_cmp x.want x.want) (nat-self x.size) (nat-self x.want)))

-- ---- ids
abbrev pub Has : List Id12 → Id12 → Type 0
Has ids id = has_object ids id ≡ true

to-has : (ids : List Id12) (q : Id12) → HasKey id12_cmp id12-exact id12-self ids q → Has ids q
to-has ids q h = sym (contains_has ids q) ∙ h

from-has : (ids : List Id12) (q : Id12) → Has ids q → HasKey id12_cmp id12-exact id12-self ids q
from-has ids q h = contains_has ids q ∙ h

pub kept-with : (ids : List Id12) (id q : Id12) → Has ids q → Has (with_object ids id) q
kept-with ids id q h = to-has (with_object ids id) q (kept-key id12_cmp id12-exact id12-self ids id q (from-has ids q h))

pub has-with : (ids : List Id12) (id : Id12) → Has (with_object ids id) id
has-with ids id = to-has (with_object ids id) id (has-key id12_cmp id12-exact id12-self ids id)

pub only-with : (ids : List Id12) (id q : Id12) → Has (with_object ids id) q → Has ids q ⊎ (id ≡ q)
only-with ids id q h = elim (only-key id12_cmp id12-exact id12-self ids id q (from-has (with_object ids id) q h)) [ inl a ↦ inl (to-has ids q a) | inr e ↦ inr e ]

pub as-elements : (ids : List Id12) (id : Id12) → (Has ids id) ↔ Contains ids id
as-elements ids id = has_listed ids id

-- ---- they ascend
abbrev pub Rises : List Id12 → Type 0
Rises [] = Unit {0}
Rises (x ∷ xs) = AllByRecursion (λ y. id12_cmp x y ≡ Less) xs × Rises xs

turned : (o p : Ordering) → o ≡ ordering_reverse p → p ≡ Greater → o ≡ Less
turned o p e g = e ∙ ap ordering_reverse g

all-with : (P : Id12 → Type 0) (ids : List Id12) (id : Id12) → AllByRecursion P ids → P id → AllByRecursion P (with_object ids id)
all-with P [] id a p = (p, tt)
all-with P (x ∷ xs) id a p = go (all-with P xs id a.1 p) (id12_cmp id x)
  where
    go : AllByRecursion P (with_object xs id) → (o : Ordering) → AllByRecursion P (match_ordering o (id ∷ x ∷ xs) (x ∷ xs) (x ∷ with_object xs id))
    go rest Less = (p, a)
    go rest Equal = a
    go rest Greater = (a.0, rest)

above-all : (id x : Id12) (xs : List Id12) → id12_cmp id x ≡ Less → AllByRecursion (λ y. id12_cmp x y ≡ Less) xs → AllByRecursion (λ y. id12_cmp id y ≡ Less) xs
above-all id x [] l a = tt
above-all id x (y ∷ ys) l a = (id12-total.trans id x y l a.0, above-all id x ys l a.1)

pub ascend-with : (ids : List Id12) (id : Id12) → Rises ids → Rises (with_object ids id)
ascend-with [] id a = (tt, tt)
ascend-with (x ∷ xs) id a = go (ascend-with xs id a.1) (id12_cmp id x) refl
  where
    go : Rises (with_object xs id) → (o : Ordering) → id12_cmp id x ≡ o → Rises (match_ordering o (id ∷ x ∷ xs) (x ∷ xs) (x ∷ with_object xs id))
    go rest Less e = ((e, above-all id x xs e a.0), a)
    go rest Equal e = a
    go rest Greater e = (all-with (λ y. id12_cmp x y ≡ Less) xs id a.0 (turned (id12_cmp x id) (id12_cmp id x) (id12-total.antisymm x id) e), rest)

-- so none of them stands twice
among : (P : Id12 → Type 0) (ids : List Id12) (id : Id12) → AllByRecursion P ids → Contains ids id → P id
among P [] id a h = absurd (omega (arith, h.1))
among P (x ∷ xs) id a (zero, l, e) = subst P e a.0
among P (x ∷ xs) id a (suc k, l, e) = among P xs id a.1 (k, omega (arith, l), e)

less-self : (x : Id12) → id12_cmp x x ≡ Less → ⊥
less-self x e = let same : ◌≡◌ {A = Ordering} Equal Less = sym (id12-self x) ∙ e in cc

pub rises-distinct : (ids : List Id12) → Rises ids → AreDistinct ids
rises-distinct [] a = tt
rises-distinct (x ∷ xs) a = (λ h. less-self x (among (λ y. id12_cmp x y ≡ Less) xs x a.0 h), rises-distinct xs a.1)
