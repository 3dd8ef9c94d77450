-- Rows that ascend are above what stands before them.
use Rattle.std.proofs.Common.{◌≡◌, ℕ, zero, suc, true, List, [], ◌∷◌, Some, refl, ap, subst, ◌∙◌}
use Rattle.std.proofs.Common.{Ordering}
use Rattle.std.specs.Prelude.{slice_get}
use Rattle.std.specs.Ordering.{nat_cmp, is_lt, ordering_reverse}
use Rattle.std.specs.declared.cmp.Ordering.TheVariants.{Less, Equal, Greater}
use Rattle.std.specs.Cmp.Lexicographic.{slice_cmp}
use Rattle.std.proofs.lemmas.Cmp.{nat_list_cmp_total}
use Rattle.flat_tables.specs.Rows.{Ascends}
use Rattle.held_manifest.proofs.Checked.{some_same}

abbrev pub cmp : List ℕ → List ℕ → Ordering
cmp a b = slice_cmp nat_cmp a b

less_is : (o : Ordering) → is_lt o ≡ true → o ≡ Less
less_is Less h = refl
less_is Equal h = absurd cc
less_is Greater h = absurd cc

pub above : {A : Type 0} (key : A → List ℕ) (before : List ℕ) (rows : List A) (k : ℕ) (row : A) → Ascends key (Some before) rows → slice_get rows k ≡ Some row → cmp before (key row) ≡ Less
above key before [] k row ascend at = absurd cc
above {A = A} key before (x ∷ xs) zero row ascend at = subst (λ (z : A). cmp before (key z) ≡ Less) (some_same x row at) (less_is (cmp before (key x)) ascend.0)
above key before (x ∷ xs) (suc k) row ascend at =
    nat_list_cmp_total.trans before (key x) (key row) (less_is (cmp before (key x)) ascend.0) (above key (key x) xs k row ascend.1 at)

pub turned : (a b : List ℕ) → cmp a b ≡ Less → cmp b a ≡ Greater
turned a b is = nat_list_cmp_total.antisymm b a ∙ ap ordering_reverse is
