-- Dimensions of boxes, one after another.
use Rattle.std.proofs.Common.{◌≡◌, ◌≢◌, ◌∙◌, ◌≤◌, ◌<◌, ◌+◌, ◌-◌, ◌*◌, ◌/◌, ◌%◌, ◌^◌, ◌⊎◌, ◌++◌, ℕ, zero, suc, Bool, false, cond, List, [], ◌∷◌, length, get_or, append_assoc, append-nil, inl, inr, refl, sym, ap, ap₂, subst, arith, le-leb, eq-eqb, ne_eqb}
use Rattle.std.specs.Prelude.{Some, None, IsTrue, ◌↔◌}
use Rattle.std.specs.Int.{div_ceil}
use Rattle.std.proofs.Math.Nat.{mod-lt, div-add-mod, div-lt_iff_lt-mul, mul-le-mul_right, mul-le-mul_left, mul_assoc}
use Rattle.std.proofs.lemmas.Bool.{cases_lt, cases_eq, lt-leb, false≢true}
use Rattle.std.proofs.lemmas.Grind.{div_ceil_times}
use Rattle.region_cells.specs.Boxes.{box_cells, count_of}
use Rattle.region_cells.specs.Walks.{most_cells, count_within, firsts_of, ends_of, chunks_met, cell_at, AreGridded}
use Rattle.region_cells.proofs.BoxLaws.{length-box, box_at}
use Rattle.region_cells.proofs.PartLaws.{part_of}

-- the dimensions that are left have a product of their own
pub record IsCountSoFar (count : ℕ) (from to all_from all_to : List ℕ) : Type 0 where
  pub told : count * count_of from to ≡ count_of all_from all_to
  pub some : 1 ≤ count_of all_from all_to

-- one dimension more
pub counted : (count a b : ℕ) (before_from from before_to to all_from all_to : List ℕ) → before_from ≡ a ∷ from → before_to ≡ b ∷ to
    → IsCountSoFar count before_from before_to all_from all_to → IsCountSoFar (count * (b - a)) from to all_from all_to
counted count a b before_from from before_to to all_from all_to e f so_far = record {
  told = mul_assoc count (b - a) (count_of from to) ∙ sym (ap₂ (λ x y. count * count_of x y) e f) ∙ so_far.told;
  some = so_far.some;
}

-- what was multiplied isn't more than the whole
pub count_below : (count : ℕ) (from to all_from all_to : List ℕ) → IsCountSoFar count from to all_from all_to → count ≤ count_of all_from all_to
count_below count from to all_from all_to so_far = go (count_of from to) so_far.told so_far.some
  where
    go : (rest : ℕ) → count * rest ≡ count_of all_from all_to → 1 ≤ count_of all_from all_to → count ≤ count_of all_from all_to
    go zero e h = absurd (omega arith)
    go (suc rest) e h = omega arith

pub count_some : (count : ℕ) (from to all_from all_to : List ℕ) → IsCountSoFar count from to all_from all_to → 1 ≤ count
count_some zero from to all_from all_to so_far = absurd (omega (arith, so_far.told, so_far.some))
count_some (suc count) from to all_from all_to so_far = omega arith

pub lengths_at_end : (from to : List ℕ) → (length from ≡ 0) ⊎ (length to ≡ 0) → count_of from to ≡ 1
lengths_at_end [] to h = refl
lengths_at_end (a ∷ from) [] h = refl
lengths_at_end (a ∷ from) (b ∷ to) (inl h) = absurd (omega arith)
lengths_at_end (a ∷ from) (b ∷ to) (inr h) = absurd (omega arith)

pub count_whole : (count : ℕ) (from to all_from all_to : List ℕ) → IsCountSoFar count from to all_from all_to → (length from ≡ 0) ⊎ (length to ≡ 0) → count ≡ count_of all_from all_to
count_whole count from to all_from all_to so_far h = let one : count_of from to ≡ 1 = lengths_at_end from to h in sym (let e : count * count_of from to ≡ count = ap (λ r. count * r) one ∙ omega arith in e) ∙ so_far.told

-- a box without cells has a dimension without any
pub record IsEmptySoFar (from to all_from all_to : List ℕ) : Type 0 where
  pub down : count_of all_from all_to ≡ 0 → count_of from to ≡ 0
  pub up : count_of from to ≡ 0 → count_of all_from all_to ≡ 0

pub emptied : (a b : ℕ) (before_from from before_to to all_from all_to : List ℕ) → before_from ≡ a ∷ from → before_to ≡ b ∷ to → a < b
    → IsEmptySoFar before_from before_to all_from all_to → IsEmptySoFar from to all_from all_to
emptied a b before_from from before_to to all_from all_to e f less so_far = record {
  down = λ h. zero_part (b - a) (count_of from to) (omega arith) (sym (ap₂ count_of e f) ∙ so_far.down h);
  up = λ h. so_far.up (ap₂ count_of e f ∙ ap (λ r. (b - a) * r) h ∙ omega arith);
}
  where
    zero_part : (n m : ℕ) → 1 ≤ n → n * m ≡ 0 → m ≡ 0
    zero_part n zero h e = refl
    zero_part n (suc m) h e = absurd (omega arith)

pub empty_found : (a b : ℕ) (before_from from before_to to all_from all_to : List ℕ) → before_from ≡ a ∷ from → before_to ≡ b ∷ to → b ≤ a
    → IsEmptySoFar before_from before_to all_from all_to → count_of all_from all_to ≡ 0
empty_found a b before_from from before_to to all_from all_to e f most so_far =
    let none : b - a ≡ 0 = omega arith in so_far.up (ap₂ count_of e f ∙ ap (λ r. r * count_of from to) none ∙ omega arith)

pub not_empty : (from to all_from all_to : List ℕ) → IsEmptySoFar from to all_from all_to → (length from ≡ 0) ⊎ (length to ≡ 0) → count_of all_from all_to ≢ 0
not_empty from to all_from all_to so_far h e = let one : count_of from to ≡ 1 = lengths_at_end from to h in let none : count_of from to ≡ 0 = so_far.down e in omega arith

-- ---- too many cells, or few
pub too_many : (from to : List ℕ) → most_cells < count_of from to → None ≡ count_within from to
too_many from to h = sym (ap (λ b. cond b (Some (count_of from to)) None) (lt-leb (count_of from to) most_cells h))

pub few_enough : (count : ℕ) (from to : List ℕ) → count ≡ count_of from to → count ≤ most_cells → Some count ≡ count_within from to
few_enough count from to e h = ap (λ (n : ℕ). Some n) e ∙ sym (ap (λ b. cond b (Some (count_of from to)) None) (le-leb (count_of from to) most_cells (omega arith)))

pub long_dimension : (count a b : ℕ) (from to all_from all_to : List ℕ) → 1 ≤ count → most_cells < b - a → IsCountSoFar (count * (b - a)) from to all_from all_to → most_cells < count_of all_from all_to
long_dimension count a b from to all_from all_to some long so_far =
    let below = count_below (count * (b - a)) from to all_from all_to so_far in
    let more : 1 * (b - a) ≤ count * (b - a) = mul-le-mul_right (b - a) some in omega arith

-- ---- the chunks that a box meets along one dimension
pub met_some : (n a b : ℕ) → 1 ≤ n → a < b → a / n < div_ceil b n
met_some n a b h less =
    let up = div_ceil_times b n h in
    let before : a < div_ceil b n * n = omega (arith, up.0) in (div-lt_iff_lt-mul h).1 before

met_few : (n a b f e : ℕ) → 1 ≤ n → a < f * n + n → e * n < b + n → a < b → e - f ≤ b - a
met_few n a b f e h k l less =
    elim (cases_lt (f + 1) e) [
      | inl two ↦
          let rest : (e - f - 2) * 1 ≤ (e - f - 2) * n = mul-le-mul_left (e - f - 2) h in
          let split : e ≡ (e - f - 2) + (f + 2) = omega arith in
          let whole : e * n ≡ (e - f - 2) * n + (f + 2) * n = ap (λ q. q * n) split ∙ omega arith in
          omega arith
      | inr one ↦ omega arith
    ]

pub met_fewer : (n a b : ℕ) → 1 ≤ n → a < b → div_ceil b n - a / n ≤ b - a
met_fewer n a b h less =
    let up = div_ceil_times b n h in
    let split : n * (a / n) + a % n ≡ a = div-add-mod a n in
    let rest : a % n < n = mod-lt a h in
    met_few n a b (a / n) (div_ceil b n) h (omega arith) up.1 less

pub same_length_met : (chunks from to : List ℕ) → AreGridded chunks from to → length (firsts_of chunks from) ≡ length (ends_of chunks to)
same_length_met [] [] [] h = refl
same_length_met [] [] (b ∷ to) h = absurd h
same_length_met [] (a ∷ from) to h = absurd h
same_length_met (n ∷ chunks) [] to h = absurd h
same_length_met (n ∷ chunks) (a ∷ from) [] h = absurd h
same_length_met (n ∷ chunks) (a ∷ from) (b ∷ to) h = ap suc (same_length_met chunks from to h.2)

pub record AreFewer (chunks from to : List ℕ) : Type 0 where
  pub some : 1 ≤ count_of (firsts_of chunks from) (ends_of chunks to)
  pub few : count_of (firsts_of chunks from) (ends_of chunks to) ≤ count_of from to

pub chunks_fewer : (chunks from to : List ℕ) → AreGridded chunks from to → 1 ≤ count_of from to → AreFewer chunks from to
chunks_fewer [] [] [] h some = record { some = omega arith; few = omega arith }
chunks_fewer [] [] (b ∷ to) h some = absurd h
chunks_fewer [] (a ∷ from) to h some = absurd h
chunks_fewer (n ∷ chunks) [] to h some = absurd h
chunks_fewer (n ∷ chunks) (a ∷ from) [] h some = absurd h
chunks_fewer (n ∷ chunks) (a ∷ from) (b ∷ to) h some =
    let parts = parts_some (b - a) (count_of from to) some in
    let rest = chunks_fewer chunks from to h.2 parts.1 in
    let less : a < b = omega (arith, parts.0) in
    let one = met_some n a b h.0 less in
    let fewer = met_fewer n a b h.0 less in
    let low : 1 * count_of (firsts_of chunks from) (ends_of chunks to) ≤ (div_ceil b n - a / n) * count_of (firsts_of chunks from) (ends_of chunks to) = mul-le-mul_right (count_of (firsts_of chunks from) (ends_of chunks to)) (omega (arith, one)) in
    let high : (div_ceil b n - a / n) * count_of (firsts_of chunks from) (ends_of chunks to) ≤ (b - a) * count_of (firsts_of chunks from) (ends_of chunks to) = mul-le-mul_right (count_of (firsts_of chunks from) (ends_of chunks to)) fewer in
    let higher : (b - a) * count_of (firsts_of chunks from) (ends_of chunks to) ≤ (b - a) * count_of from to = mul-le-mul_left (b - a) rest.few in
    record { some = omega (arith, rest.some, low); few = omega (arith, high, higher) }
  where
    parts_some : (n m : ℕ) → 1 ≤ n * m → (1 ≤ n) × (1 ≤ m)
    parts_some zero m h = absurd (omega arith)
    parts_some (suc n) zero h = absurd (omega arith)
    parts_some (suc n) (suc m) h = (omega arith, omega arith)

-- the chunks that are met, where there are some
pub met_is : (chunks from to : List ℕ) → 1 ≤ count_of from to → chunks_met chunks from to ≡ box_cells (firsts_of chunks from) (ends_of chunks to)
met_is chunks from to h = ap (λ b. cond b [] (box_cells (firsts_of chunks from) (ends_of chunks to))) (ne_eqb (count_of from to) 0 (λ e. omega arith))

pub met_none : (chunks from to : List ℕ) → count_of from to ≡ 0 → chunks_met chunks from to ≡ []
met_none chunks from to h = ap (λ b. cond b [] (box_cells (firsts_of chunks from) (ends_of chunks to))) (eq-eqb (count_of from to) 0 h)

pub length-met : (chunks from to : List ℕ) → AreGridded chunks from to → 1 ≤ count_of from to → length (chunks_met chunks from to) ≡ count_of (firsts_of chunks from) (ends_of chunks to)
length-met chunks from to h some = ap length (met_is chunks from to some) ∙ length-box (firsts_of chunks from) (ends_of chunks to) (same_length_met chunks from to h)

-- ---- how many they are, one dimension after another
pub record AreMetSoFar (count : ℕ) (chunks from to all_chunks all_from all_to : List ℕ) : Type 0 where
  pub told : IsCountSoFar count (firsts_of chunks from) (ends_of chunks to) (firsts_of all_chunks all_from) (ends_of all_chunks all_to)
  pub gridded : AreGridded chunks from to

pub met_counted : (count n a b : ℕ) (before_chunks chunks before_from from before_to to all_chunks all_from all_to : List ℕ) → before_chunks ≡ n ∷ chunks → before_from ≡ a ∷ from → before_to ≡ b ∷ to
    → AreMetSoFar count before_chunks before_from before_to all_chunks all_from all_to → AreMetSoFar (count * (div_ceil b n - a / n)) chunks from to all_chunks all_from all_to
met_counted count n a b before_chunks chunks before_from from before_to to all_chunks all_from all_to e f g so_far = record {
  told = counted count (a / n) (div_ceil b n) (firsts_of before_chunks before_from) (firsts_of chunks from) (ends_of before_chunks before_to) (ends_of chunks to) (firsts_of all_chunks all_from) (ends_of all_chunks all_to)
      (ap₂ firsts_of e f) (ap₂ ends_of e g) so_far.told;
  gridded = (gridded_at n a b before_chunks chunks before_from from before_to to e f g so_far.gridded).2;
}
  where
    gridded_at : (n a b : ℕ) (before_chunks chunks before_from from before_to to : List ℕ) → before_chunks ≡ n ∷ chunks → before_from ≡ a ∷ from → before_to ≡ b ∷ to
        → AreGridded before_chunks before_from before_to → AreGridded (n ∷ chunks) (a ∷ from) (b ∷ to)
    gridded_at n a b before_chunks chunks before_from from before_to to e f g h =
        subst (λ l. AreGridded (n ∷ chunks) (a ∷ from) l) g (subst (λ l. AreGridded (n ∷ chunks) l before_to) f (subst (λ l. AreGridded l before_from before_to) e h))

pub met_start : (chunks from to all_chunks all_from all_to : List ℕ) → chunks ≡ all_chunks → from ≡ all_from → to ≡ all_to → AreGridded all_chunks all_from all_to → 1 ≤ count_of all_from all_to
    → AreMetSoFar 1 chunks from to all_chunks all_from all_to
met_start chunks from to all_chunks all_from all_to e f g gridded some = record {
  told = record { told = let same : count_of (firsts_of chunks from) (ends_of chunks to) ≡ count_of (firsts_of all_chunks all_from) (ends_of all_chunks all_to) = ap₂ count_of (ap₂ firsts_of e f) (ap₂ ends_of e g) in omega arith; some = (chunks_fewer all_chunks all_from all_to gridded some).some };
  gridded = subst (λ l. AreGridded chunks from l) (sym g) (subst (λ l. AreGridded chunks l all_to) (sym f) (subst (λ l. AreGridded l all_from all_to) (sym e) gridded));
}

pub met_below : (count : ℕ) (chunks from to all_chunks all_from all_to : List ℕ) → AreMetSoFar count chunks from to all_chunks all_from all_to → AreGridded all_chunks all_from all_to → 1 ≤ count_of all_from all_to → count_of all_from all_to ≤ most_cells → count ≤ most_cells
met_below count chunks from to all_chunks all_from all_to so_far gridded some few =
    let below = count_below count (firsts_of chunks from) (ends_of chunks to) (firsts_of all_chunks all_from) (ends_of all_chunks all_to) so_far.told in
    omega (arith, below, (chunks_fewer all_chunks all_from all_to gridded some).few)

pub met_whole : (count : ℕ) (chunks from to all_chunks all_from all_to : List ℕ) → AreMetSoFar count chunks from to all_chunks all_from all_to → AreGridded all_chunks all_from all_to → 1 ≤ count_of all_from all_to
    → ((length chunks ≡ 0) ⊎ (length from ≡ 0)) ⊎ (length to ≡ 0) → count ≡ length (chunks_met all_chunks all_from all_to)
met_whole count chunks from to all_chunks all_from all_to so_far gridded some ended =
    count_whole count (firsts_of chunks from) (ends_of chunks to) (firsts_of all_chunks all_from) (ends_of all_chunks all_to) so_far.told (inl (no_firsts chunks from to so_far.gridded ended))
    ∙ sym (length-met all_chunks all_from all_to gridded some)
  where
    no_firsts : (chunks from to : List ℕ) → AreGridded chunks from to → ((length chunks ≡ 0) ⊎ (length from ≡ 0)) ⊎ (length to ≡ 0) → length (firsts_of chunks from) ≡ 0
    no_firsts [] [] [] h e = refl
    no_firsts [] [] (b ∷ to) h e = absurd h
    no_firsts [] (a ∷ from) to h e = absurd h
    no_firsts (n ∷ chunks) [] to h e = absurd h
    no_firsts (n ∷ chunks) (a ∷ from) [] h e = absurd h
    no_firsts (n ∷ chunks) (a ∷ from) (b ∷ to) h (inl (inl e)) = absurd (omega arith)
    no_firsts (n ∷ chunks) (a ∷ from) (b ∷ to) h (inl (inr e)) = absurd (omega arith)
    no_firsts (n ∷ chunks) (a ∷ from) (b ∷ to) h (inr e) = absurd (omega arith)

pub some_cells : (b : Bool) (n : ℕ) → (IsTrue b ↔ (n ≡ 0)) → b ≡ false → 1 ≤ n
some_cells b zero h e = absurd (false≢true (sym e ∙ h.1 refl))
some_cells b (suc n) h e = omega arith

-- ---- the index of one of them, one dimension after another
pub record IsMetSoFar (numbers : List ℕ) (count rest at : ℕ) (chunks from to all_chunks all_from all_to : List ℕ) : Type 0 where
  pub told : numbers ++ cell_at (firsts_of chunks from) (ends_of chunks to) rest ≡ cell_at (firsts_of all_chunks all_from) (ends_of all_chunks all_to) at
  pub count_is : count ≡ count_of (firsts_of chunks from) (ends_of chunks to)
  pub within : rest < count
  pub gridded : AreGridded chunks from to

pub record IsMetNext (numbers : List ℕ) (count rest at n a end : ℕ) (chunks from to all_chunks all_from all_to : List ℕ) : Type 0 where
  pub wide : 1 ≤ end - a / n
  pub some : 1 ≤ count / (end - a / n)
  pub small : a / n + rest / (count / (end - a / n)) < 2 ^ 32
  pub next : IsMetSoFar (numbers ++ (a / n + rest / (count / (end - a / n))) ∷ []) (count / (end - a / n)) (rest % (count / (end - a / n))) at chunks from to all_chunks all_from all_to

factors : (k n m : ℕ) → k < n * m → (1 ≤ n) × (1 ≤ m)
factors k zero m h = absurd (omega arith)
factors k (suc n) zero h = absurd (omega arith)
factors k (suc n) (suc m) h = (omega arith, omega arith)

few_chunks : (n b : ℕ) → 1 ≤ n → b ≤ n * (2 ^ 32 - 1) → div_ceil b n < 2 ^ 32
few_chunks n b h k =
    let up = div_ceil_times b n h in
    elim (cases_lt (2 ^ 32 - 1) (div_ceil b n)) [
      | inl more ↦
          let whole : 2 ^ 32 * n ≤ div_ceil b n * n = mul-le-mul_right n (omega arith) in absurd (omega (arith, up.1))
      | inr most ↦ omega arith
    ]

met_at : (numbers : List ℕ) (count rest at n a b : ℕ) (chunks from to all_chunks all_from all_to : List ℕ) → IsMetSoFar numbers count rest at (n ∷ chunks) (a ∷ from) (b ∷ to) all_chunks all_from all_to
    → IsMetNext numbers count rest at n a (div_ceil b n) chunks from to all_chunks all_from all_to
met_at numbers count rest at n a b chunks from to all_chunks all_from all_to so_far =
    let c = count_of (firsts_of chunks from) (ends_of chunks to) in
    let some = factors rest (div_ceil b n - a / n) (count_of (firsts_of chunks from) (ends_of chunks to)) (omega (arith, so_far.within, so_far.count_is)) in
    let part : count / (div_ceil b n - a / n) ≡ count_of (firsts_of chunks from) (ends_of chunks to) = part_of count (div_ceil b n - a / n) (count_of (firsts_of chunks from) (ends_of chunks to)) some.0 so_far.count_is in
    let less : rest / count_of (firsts_of chunks from) (ends_of chunks to) < div_ceil b n - a / n = (div-lt_iff_lt-mul some.1).1 (omega (arith, so_far.within, so_far.count_is)) in
    let same : rest / (count / (div_ceil b n - a / n)) ≡ rest / count_of (firsts_of chunks from) (ends_of chunks to) = ap (λ q. rest / q) part in
    record {
      wide = some.0;
      some = omega (arith, part, some.1);
      small = omega (arith, less, same, few_chunks n b so_far.gridded.0 so_far.gridded.1);
      next = record {
        told =
            append_assoc numbers ((a / n + rest / (count / (div_ceil b n - a / n))) ∷ []) (cell_at (firsts_of chunks from) (ends_of chunks to) (rest % (count / (div_ceil b n - a / n))))
            ∙ ap (λ q. numbers ++ ((a / n + rest / q) ∷ cell_at (firsts_of chunks from) (ends_of chunks to) (rest % q))) part
            ∙ so_far.told;
        count_is = part;
        within = mod-lt rest (omega (arith, part, some.1));
        gridded = so_far.gridded.2;
      };
    }

pub met_next : (numbers : List ℕ) (count rest at n a b end : ℕ) (before_chunks chunks before_from from before_to to all_chunks all_from all_to : List ℕ) → before_chunks ≡ n ∷ chunks → before_from ≡ a ∷ from → before_to ≡ b ∷ to
    → end ≡ div_ceil b n
    → IsMetSoFar numbers count rest at before_chunks before_from before_to all_chunks all_from all_to → IsMetNext numbers count rest at n a end chunks from to all_chunks all_from all_to
met_next numbers count rest at n a b end before_chunks chunks before_from from before_to to all_chunks all_from all_to e f g h so_far =
    subst (λ q. IsMetNext numbers count rest at n a q chunks from to all_chunks all_from all_to) (sym h)
    (met_at numbers count rest at n a b chunks from to all_chunks all_from all_to
    (subst (λ l. IsMetSoFar numbers count rest at (n ∷ chunks) (a ∷ from) l all_chunks all_from all_to) g
    (subst (λ l. IsMetSoFar numbers count rest at (n ∷ chunks) l before_to all_chunks all_from all_to) f
    (subst (λ l. IsMetSoFar numbers count rest at l before_from before_to all_chunks all_from all_to) e so_far))))

pub met_some_cells : (chunks from to : List ℕ) (at : ℕ) → at < length (chunks_met chunks from to) → 1 ≤ count_of from to
met_some_cells chunks from to at h =
    elim (cases_eq (count_of from to) 0) [
      | inl e ↦ absurd (let none : length (chunks_met chunks from to) ≡ 0 = ap length (met_none chunks from to e) in omega arith)
      | inr ne ↦ elim (cases_lt (count_of from to) 1) [ inl less ↦ absurd (ne (omega arith)) | inr some ↦ some ]
    ]

pub met_begun : (count at : ℕ) (chunks from to all_chunks all_from all_to : List ℕ) → chunks ≡ all_chunks → from ≡ all_from → to ≡ all_to → AreGridded all_chunks all_from all_to
    → count ≡ length (chunks_met all_chunks all_from all_to) → at < length (chunks_met all_chunks all_from all_to) → IsMetSoFar [] count at at chunks from to all_chunks all_from all_to
met_begun count at chunks from to all_chunks all_from all_to e f g gridded count_is within =
    subst (λ l. IsMetSoFar [] count at at chunks from l all_chunks all_from all_to) (sym g)
    (subst (λ l. IsMetSoFar [] count at at chunks l all_to all_chunks all_from all_to) (sym f)
    (subst (λ l. IsMetSoFar [] count at at l all_from all_to all_chunks all_from all_to) (sym e)
    (record { told = refl; count_is = count_is ∙ length-met all_chunks all_from all_to gridded (met_some_cells all_chunks all_from all_to at within); within = omega arith; gridded = gridded })))

pub met_found : (numbers : List ℕ) (count rest at : ℕ) (chunks from to all_chunks all_from all_to : List ℕ) → IsMetSoFar numbers count rest at chunks from to all_chunks all_from all_to
    → AreGridded all_chunks all_from all_to → at < length (chunks_met all_chunks all_from all_to)
    → ((length chunks ≡ 0) ⊎ (length from ≡ 0)) ⊎ (length to ≡ 0) → numbers ≡ get_or (chunks_met all_chunks all_from all_to) at []
met_found numbers count rest at chunks from to all_chunks all_from all_to so_far gridded within ended =
    let some = met_some_cells all_chunks all_from all_to at within in
    sym (append-nil numbers) ∙ ap (λ l. numbers ++ l) (sym (nothing_left chunks from to rest so_far.gridded ended)) ∙ so_far.told
    ∙ sym (box_at (firsts_of all_chunks all_from) (ends_of all_chunks all_to) at (same_length_met all_chunks all_from all_to gridded) (omega (arith, length-met all_chunks all_from all_to gridded some)))
    ∙ ap (λ l. get_or l at []) (sym (met_is all_chunks all_from all_to some))
  where
    nothing_left : (chunks from to : List ℕ) (rest : ℕ) → AreGridded chunks from to → ((length chunks ≡ 0) ⊎ (length from ≡ 0)) ⊎ (length to ≡ 0) → cell_at (firsts_of chunks from) (ends_of chunks to) rest ≡ []
    nothing_left [] [] [] rest h e = refl
    nothing_left [] [] (b ∷ to) rest h e = absurd h
    nothing_left [] (a ∷ from) to rest h e = absurd h
    nothing_left (n ∷ chunks) [] to rest h e = absurd h
    nothing_left (n ∷ chunks) (a ∷ from) [] rest h e = absurd h
    nothing_left (n ∷ chunks) (a ∷ from) (b ∷ to) rest h (inl (inl e)) = absurd (omega arith)
    nothing_left (n ∷ chunks) (a ∷ from) (b ∷ to) rest h (inl (inr e)) = absurd (omega arith)
    nothing_left (n ∷ chunks) (a ∷ from) (b ∷ to) rest h (inr e) = absurd (omega arith)
