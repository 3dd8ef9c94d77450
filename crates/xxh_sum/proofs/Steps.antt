-- A loop's step: what is left of the bytes gives what all of them give.
use Rattle.std.proofs.Common.{◌≡◌, ℕ, suc, ◌+◌, ◌-◌, ◌*◌, ◌<◌, ◌≤◌, List, length, drop, ap, sym, refl, arith, get_or}
use Rattle.std.proofs.lemmas.List.{drop-drop, at_drop_more, at_drop_all}
use Rattle.xxh_sum.specs.declared.Lanes.{Lanes}
use Rattle.xxh_sum.specs.Sums.{striped, mixed, eights, by_eight, lane_at, ones, by_one}

pub striped_more : (n i : ℕ) (bytes : List ℕ) (lanes : Lanes) → i < n
    → striped (n - (i + 1)) (drop (32 * (i + 1)) bytes) (mixed (drop (32 * i) bytes) lanes) ≡ striped (n - i) (drop (32 * i) bytes) lanes
unfolding striped
striped_more n i bytes lanes h =
    let one : n - i ≡ suc (n - (i + 1)) = omega arith in
    let place : 32 * (i + 1) ≡ 32 * i + 32 = omega arith in
    rw (one, place) (ap (λ bs. striped (n - (i + 1)) bs (mixed (drop (32 * i) bytes) lanes)) (sym (drop-drop 32 (32 * i) bytes)))

pub eights_more : (n i : ℕ) (bytes : List ℕ) (sum : ℕ) → i < n
    → eights (n - (i + 1)) (drop (8 * (i + 1)) bytes) (by_eight (lane_at 0 (drop (8 * i) bytes)) sum) ≡ eights (n - i) (drop (8 * i) bytes) sum
unfolding eights
eights_more n i bytes sum h =
    let one : n - i ≡ suc (n - (i + 1)) = omega arith in
    let place : 8 * (i + 1) ≡ 8 * i + 8 = omega arith in
    rw (one, place) (ap (λ bs. eights (n - (i + 1)) bs (by_eight (lane_at 0 (drop (8 * i) bytes)) sum)) (sym (drop-drop 8 (8 * i) bytes)))

pub ones_more : (i : ℕ) (bytes : List ℕ) (sum : ℕ) → i < length bytes
    → ones (drop (i + 1) bytes) (by_one (get_or bytes i 0) sum) ≡ ones (drop i bytes) sum
unfolding ones
ones_more i bytes sum h = sym (at_drop_more (λ bs. ones bs sum) bytes i 0 h)

-- nothing is left
pub striped_all : (n i : ℕ) (bytes : List ℕ) (lanes : Lanes) → n ≤ i → striped (n - i) bytes lanes ≡ lanes
unfolding striped
striped_all n i bytes lanes h = let none : n - i ≡ 0 = omega arith in rw none refl

pub eights_all : (n i : ℕ) (bytes : List ℕ) (sum : ℕ) → n ≤ i → eights (n - i) bytes sum ≡ sum
unfolding eights
eights_all n i bytes sum h = let none : n - i ≡ 0 = omega arith in rw none refl

pub ones_all : (i : ℕ) (bytes : List ℕ) (sum : ℕ) → length bytes ≤ i → ones (drop i bytes) sum ≡ sum
unfolding ones
ones_all i bytes sum h = at_drop_all (λ bs. ones bs sum) bytes i h
