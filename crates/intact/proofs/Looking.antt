-- Rows that are looked at one after the other.
use Rattle.std.proofs.Common.{◌≡◌, ℕ, ◌+◌, ◌≤◌, Bool, true, false, cond, not, List, [], ◌∷◌, ◌++◌, take, drop, length, Some, None, refl, sym, ◌∙◌, ap, arith}
use Rattle.std.specs.Prelude.{◌||◌, ◌&&◌, slice_get}
use Rattle.std.specs.declared.cmp.Ordering.{Ordering}
use Rattle.std.specs.declared.cmp.Ordering.TheVariants.{Less, Equal, Greater}
use Rattle.std.specs.Ordering.{is_eq}
use Rattle.std.specs.Cmp.{both_ways}
use Rattle.std.specs.List.{list_any}
use Rattle.std.specs.BTreeMap.{is_at}
use Rattle.std.specs.FinMap.{IsAntisymmetric, slice_cmp-IsAntisymmetric, nat_cmp-IsAntisymmetric}
use Rattle.std.proofs.lemmas.Cmp.{tied_itself, nat_list_cmp_total}
use Rattle.std.proofs.lemmas.List.{take_more, drop_more, drop_all, length-take-le}
use Rattle.std.proofs.lemmas.List.Folds.{list_any-append}
use Rattle.std.proofs.lemmas.Option.{slice_get_within, get_or_from_slice_get}
use Rattle.ice_ids.specs.declared.Id8.{Id8}
use Rattle.ice_ids.specs.Text.{same_id8, id8_cmp}
use Rattle.ice_ids.proofs.TextLaws.{same_id8-true, same_id8-self}
use Rattle.snapshot_file.specs.declared.nodes.NodeRow.{NodeRow}
use Rattle.intact.specs.Rows.{has_node, is_well, unwell_behind}

pub one-more : {A : Type 0} (xs : List A) (i : ℕ) (x : A) → slice_get xs i ≡ Some x → drop i xs ≡ x ∷ drop (i + 1) xs
one-more {A} xs i x at = drop_more xs i x (slice_get_within xs i x at) ∙ ap (λ (y : A). y ∷ drop (i + 1) xs) (get_or_from_slice_get xs i x x at)

pub one-taken : {A : Type 0} (xs : List A) (i : ℕ) (x : A) → slice_get xs i ≡ Some x → take (i + 1) xs ≡ take i xs ++ x ∷ []
one-taken {A} xs i x at = take_more xs i x (slice_get_within xs i x at) ∙ ap (λ (y : A). take i xs ++ y ∷ []) (get_or_from_slice_get xs i x x at)

-- ---- ids
id8-exact : IsAntisymmetric id8_cmp
id8-exact x y e = let bytes : x.0 ≡ y.0 = slice_cmp-IsAntisymmetric nat_cmp-IsAntisymmetric x.0 y.0 e in λ i. record { 0 = bytes i }

equal-is : (o : Ordering) → is_eq o ≡ true → o ≡ Equal
equal-is Less e = absurd cc
equal-is Equal e = refl
equal-is Greater e = absurd cc

same-one : (id q : Id8) → is_at (id8_cmp id) q ≡ same_id8 id q
same-one id q = both_ways _ _
    (λ e. ap (same_id8 id) (sym (id8-exact id q (equal-is (id8_cmp id q) e))) ∙ same_id8-self id)
    (λ e. ap (λ (x : Id8). is_at (id8_cmp id) x) (sym (same_id8-true id q e)) ∙ ap is_eq (tied_itself nat_list_cmp_total id.0))

-- a set has the ids of these rows
abbrev pub HasIds : List Id8 → List NodeRow → Type 0
HasIds ids rows = (q : Id8) → list_any (is_at (id8_cmp q)) ids ≡ has_node rows q

pub no-ids : HasIds [] []
no-ids q = refl

or_none : (a b : Bool) → cond a true b ≡ (b || (a || false))
or_none true true = refl
or_none true false = refl
or_none false true = refl
or_none false false = refl

pub more-ids : (old new : List Id8) (rows : List NodeRow) (row : NodeRow) → HasIds old rows → ((q : Id8) → list_any (is_at (id8_cmp q)) new ≡ cond (is_at (id8_cmp row.id) q) true (list_any (is_at (id8_cmp q)) old)) → HasIds new (rows ++ row ∷ [])
more-ids old new rows row h e q =
    e q
    ∙ (or_none (is_at (id8_cmp row.id) q) (list_any (is_at (id8_cmp q)) old)
    ∙ ((λ i. h q i || (same-one row.id q i || false)) ∙ sym (list_any-append (λ (r : NodeRow). same_id8 r.id q) rows (row ∷ []))))

-- ---- the first that isn't well
pub well-next : (rows : List NodeRow) (at : ℕ) (row : NodeRow) → slice_get rows at ≡ Some row → is_well rows (take at rows) row ≡ true → unwell_behind rows (take at rows) (drop at rows) ≡ unwell_behind rows (take (at + 1) rows) (drop (at + 1) rows)
unfolding unwell_behind
well-next rows at row is well =
    ap (unwell_behind rows (take at rows)) (one-more rows at row is)
    ∙ (ap (λ (b : Bool). cond b (unwell_behind rows (take at rows ++ row ∷ []) (drop (at + 1) rows)) (Some (length (take at rows)))) well
    ∙ ap (λ (xs : List NodeRow). unwell_behind rows xs (drop (at + 1) rows)) (sym (one-taken rows at row is)))

pub unwell-here : (rows : List NodeRow) (at : ℕ) (row : NodeRow) → slice_get rows at ≡ Some row → is_well rows (take at rows) row ≡ false → unwell_behind rows (take at rows) (drop at rows) ≡ Some at
unfolding unwell_behind
unwell-here rows at row is unwell =
    ap (unwell_behind rows (take at rows)) (one-more rows at row is)
    ∙ (ap (λ (b : Bool). cond b (unwell_behind rows (take at rows ++ row ∷ []) (drop (at + 1) rows)) (Some (length (take at rows)))) unwell
    ∙ ap (λ (n : ℕ). Some n) (length-take-le at rows (let within = slice_get_within rows at row is in omega (arith, within))))

pub well-end : (rows : List NodeRow) (at : ℕ) → length rows ≤ at → unwell_behind rows (take at rows) (drop at rows) ≡ None
unfolding unwell_behind
well-end rows at h = ap (unwell_behind rows (take at rows)) (drop_all at rows h)

-- a row's tests
pub both-hold : (known stood : Bool) → known ≡ false → stood ≡ true → (not known && stood) ≡ true
both-hold known stood a b = rw (a, b) refl

pub known-fails : (known stood : Bool) → known ≡ true → (not known && stood) ≡ false
known-fails known stood a = rw a refl

and_false : (b : Bool) → (b && false) ≡ false
and_false true = refl
and_false false = refl

pub fallen-fails : (known stood : Bool) → stood ≡ false → (not known && stood) ≡ false
fallen-fails known stood a = rw a (and_false (not known))

pub held-there : (added held : Bool) → added ≡ not held → added ≡ false → held ≡ true
held-there added true e f = refl
held-there added false e f = absurd cc

pub not-there : (added held : Bool) → added ≡ not held → added ≡ true → held ≡ false
not-there added true e f = absurd cc
not-there added false e f = refl
