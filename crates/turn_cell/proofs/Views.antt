-- Lists of views in which one changes, and what stays apart in them.
use Rattle.std.proofs.Common.{◌≡◌, ℕ, zero, suc, ◌≢◌, ◌⊎◌, Bool, true, false, List, [], ◌∷◌, ◌++◌, length, set, refl, sym, ap, ◌∙◌, inl, inr, ⊎_elim, subst, arith}
use mathlib.Core.Option.{some, some-injective, some-ne-none}
use lib.ListN.{get_elem?}
use Rattle.atomic_table.proofs.Lists.{at_set}
use Rattle.turn_cell.specs.declared.known.Sight.{Sight}
use Rattle.turn_cell.specs.Owners.{IsOwner, AreApart}
use Rattle.turn_cell.specs.Turns.{AllApart}

pub off : (b : Bool) → (b ≡ true → ⊥) → b ≡ false
off true h = absurd (h refl)
off false h = refl

module _ {V : Type 0} where
  pub set_at : (l : List V) (i : ℕ) (a b : V) → get_elem? l i ≡ some a → get_elem? (set l i b) i ≡ some b
  set_at [] i a b e = absurd (some-ne-none a (sym e))
  set_at (x ∷ xs) zero a b e = refl
  set_at (x ∷ xs) (suc i) a b e = set_at xs i a b e

  pub snoc_at : (l : List V) (a b : V) (j : ℕ) → get_elem? (l ++ a ∷ []) j ≡ some b → ((j ≢ length l) × (get_elem? l j ≡ some b)) ⊎ ((j ≡ length l) × (a ≡ b))
  snoc_at [] a b zero e = inr (refl, some-injective a b e)
  snoc_at [] a b (suc j) e = absurd (some-ne-none b (sym e))
  snoc_at (x ∷ xs) a b zero e = inl ((λ h. omega arith), e)
  snoc_at (x ∷ xs) a b (suc j) e = ⊎_elim (λ p. inl ((λ h. p.0 (omega arith)), p.1)) (λ p. inr (omega arith, p.1)) (snoc_at xs a b j e)

  pub set_swap : (l : List V) (i j : ℕ) (a b : V) → j ≢ i → set (set l i a) j b ≡ set (set l j b) i a
  set_swap [] i j a b ne = refl
  set_swap (x ∷ xs) zero zero a b ne = absurd (ne refl)
  set_swap (x ∷ xs) zero (suc j) a b ne = refl
  set_swap (x ∷ xs) (suc i) zero a b ne = refl
  set_swap (x ∷ xs) (suc i) (suc j) a b ne = ap (λ t. x ∷ t) (set_swap xs i j a b (λ e. ne (ap suc e)))

  pub one_only : (a : V) (i : ℕ) (v : V) → get_elem? (a ∷ []) i ≡ some v → i ≡ 0
  one_only a zero v e = refl
  one_only a (suc i) v e = absurd (some-ne-none v (sym e))

  pub one_is : {a : V} (i : ℕ) (v : V) → get_elem? (a ∷ []) i ≡ some v → a ≡ v
  one_is {a} zero v e = some-injective a v e
  one_is (suc i) v e = absurd (some-ne-none v (sym e))

module _ {E : Type 0} where
  abbrev Apart : Sight E → Sight E → Type 0
  Apart v w = AreApart v.known.owners w.known.owners

  -- the ranges stay apart where one view is changed, and where one is added
  pub apart_set : (views : List (Sight E)) (id : ℕ) (w : Sight E) → ((j : ℕ) (u : Sight E) → get_elem? views j ≡ some u → j ≢ id → Apart w u) → AllApart views → AllApart (set views id w)
  apart_set views id w new old i j a b at bt ne n ra rb = ⊎_elim
      (λ p. ⊎_elim (λ q. absurd (ne (p.0 ∙ sym q.0))) (λ q. new j b q.1 q.0 n (subst (λ (u : Sight E). IsOwner u.known.owners n) (sym p.1) ra) rb) (at_set views id j w b bt))
      (λ p. ⊎_elim (λ q. new i a p.1 p.0 n (subst (λ (u : Sight E). IsOwner u.known.owners n) (sym q.1) rb) ra) (λ q. old i j a b p.1 q.1 ne n ra rb) (at_set views id j w b bt))
      (at_set views id i w a at)

  pub apart_snoc : (views : List (Sight E)) (w : Sight E) → ((j : ℕ) (u : Sight E) → get_elem? views j ≡ some u → Apart w u) → AllApart views → AllApart (views ++ w ∷ [])
  apart_snoc views w new old i j a b at bt ne n ra rb = ⊎_elim
      (λ p. ⊎_elim (λ q. old i j a b p.1 q.1 ne n ra rb) (λ q. new i a p.1 n (subst (λ (u : Sight E). IsOwner u.known.owners n) (sym q.1) rb) ra) (snoc_at views w b j bt))
      (λ p. ⊎_elim (λ q. new j b q.1 n (subst (λ (u : Sight E). IsOwner u.known.owners n) (sym p.1) ra) rb) (λ q. absurd (ne (p.0 ∙ sym q.0))) (snoc_at views w b j bt))
      (snoc_at views w a i at)
