-- A remainder moves down by whole bytes through eight tables.
use Rattle.std.proofs.Common.{◌≡◌, ℕ, zero, suc, ◌+◌, ◌-◌, ◌*◌, ◌/◌, ◌%◌, ◌^◌, refl, sym, ap, ◌∙◌, arith, ◌<◌, ◌≤◌, List, [], ◌∷◌, ◌++◌, length, drop, slice_index_or, length-append, below_more}
use Rattle.std.specs.Prelude.{Some, slice_get, bit_xor, if◌then◌else◌, ◌==◌, Bool, true, false}
use Rattle.std.proofs.lemmas.Nat.{xor_shr, xor_mod, shl-shr, xor_block, shr_split, shr-shr, xor_comm, xor_lt}
use Rattle.std.proofs.lemmas.List.{drop_all, get_or_append_left, get_or_push}
use Rattle.std.specs.Int.Bits.{xor_assoc, xor_zero_r, xor_zero_l, xor_self}
use Rattle.std.proofs.lemmas.Option.{get_or_from_slice_get, slice_get-get_or}
use Rattle.crc_sum.specs.Crc.{moved, moved_by, remainder_behind, row_at, AreRows}

-- twice as much
twice : (h k : ℕ) → h * 2 ^ suc k ≡ (h * 2 ^ k) * 2
twice h k = let e : 2 ^ suc k ≡ 2 ^ k * 2 = omega arith in rw e (omega arith)

half : (h k z : ℕ) → bit_xor (h * 2 ^ suc k) z / 2 ≡ bit_xor (h * 2 ^ k) (z / 2)
half h k z = xor_shr (h * 2 ^ suc k) z 1 ∙ ap (λ n. bit_xor n (z / 2)) (ap (λ n. n / 2) (twice h k) ∙ shl-shr (h * 2 ^ k) 1)

low : (h k z : ℕ) → bit_xor (h * 2 ^ suc k) z % 2 ≡ z % 2
low h k z =
    let e : h * 2 ^ suc k % 2 ≡ 0 = rw (twice h k) (omega arith) in
    xor_mod (h * 2 ^ suc k) z 1 ∙ ap (λ n. bit_xor n (z % 2)) e

chosen : (b : Bool) (h r poly : ℕ) → (if b then bit_xor (bit_xor h r) poly else bit_xor h r) ≡ bit_xor h (if b then bit_xor r poly else r)
chosen true h r poly = xor_assoc h r poly
chosen false h r poly = refl

-- what is above the lowest bits comes down as it is
moved_above : (poly h z k : ℕ) → moved poly (bit_xor (h * 2 ^ suc k) z) ≡ bit_xor (h * 2 ^ k) (moved poly z)
moved_above poly h z k = rw (low h k z, half h k z) (chosen (z % 2 == 1) (h * 2 ^ k) (z / 2) poly)

moved_apart : (k poly h z : ℕ) → moved_by k poly (bit_xor (h * 2 ^ k) z) ≡ bit_xor h (moved_by k poly z)
unfolding moved_by
moved_apart zero poly h z = ap (λ n. bit_xor n z) (omega arith)
moved_apart (suc k) poly h z = ap (moved_by k poly) (moved_above poly h z k) ∙ moved_apart k poly h (moved poly z)

-- a number is what is above its low byte, and that
xor_shifted : (x : ℕ) → bit_xor (x / 256 * 2 ^ 8) (x % 256) ≡ x
xor_shifted x =
    let low : x % 256 < 2 ^ 8 = omega arith in
    let block = xor_block 8 (x / 256) 0 0 (x % 256) (omega arith) low in
    let a : x / 256 * 2 ^ 8 + 0 ≡ x / 256 * 2 ^ 8 = omega arith in
    let b : 0 * 2 ^ 8 + x % 256 ≡ x % 256 = omega arith in
    ap (λ n. bit_xor n (x % 256)) (sym a) ∙ ap (λ n. bit_xor (x / 256 * 2 ^ 8 + 0) n) (sym b) ∙ block
    ∙ ap (λ n. n * 2 ^ 8 + bit_xor 0 (x % 256)) (xor_zero_r (x / 256))
    ∙ ap (λ n. x / 256 * 2 ^ 8 + n) (xor_zero_l (x % 256)) ∙ shr_split x 8

-- ---- a sum of two moves as the sum of how each moves
abbrev differ : Bool → Bool → Bool
differ true true = false
differ true false = true
differ false c = c

cancelled : (x p y : ℕ) → bit_xor (bit_xor x p) (bit_xor y p) ≡ bit_xor x y
cancelled x p y =
    ap (bit_xor (bit_xor x p)) (xor_comm y p) ∙ xor_assoc x p (bit_xor p y) ∙ ap (bit_xor x) (sym (xor_assoc p p y) ∙ ap (λ n. bit_xor n y) (xor_self p) ∙ xor_zero_l y)

past : (x p y : ℕ) → bit_xor (bit_xor x y) p ≡ bit_xor (bit_xor x p) y
past x p y = xor_assoc x y p ∙ ap (bit_xor x) (xor_comm y p) ∙ sym (xor_assoc x p y)

each : (b c : Bool) (x y p : ℕ) → (if differ b c then bit_xor (bit_xor x y) p else bit_xor x y) ≡ bit_xor (if b then bit_xor x p else x) (if c then bit_xor y p else y)
each true true x y p = sym (cancelled x p y)
each true false x y p = past x p y
each false true x y p = xor_assoc x y p
each false false x y p = refl

bits_differ : (a b : ℕ) → a < 2 → b < 2 → (bit_xor a b == 1) ≡ differ (a == 1) (b == 1)
bits_differ zero zero p q = refl
bits_differ zero (suc zero) p q = refl
bits_differ (suc zero) zero p q = refl
bits_differ (suc zero) (suc zero) p q = refl
bits_differ (suc (suc a)) b p q = absurd (omega (arith, p))
bits_differ zero (suc (suc b)) p q = absurd (omega (arith, q))
bits_differ (suc zero) (suc (suc b)) p q = absurd (omega (arith, q))

moved-xor : (p x y : ℕ) → moved p (bit_xor x y) ≡ bit_xor (moved p x) (moved p y)
moved-xor p x y =
    rw (xor_mod x y 1, xor_shr x y 1, bits_differ (x % 2) (y % 2) (omega arith) (omega arith)) (each (x % 2 == 1) (y % 2 == 1) (x / 2) (y / 2) p)

moved_by-xor : (n p x y : ℕ) → moved_by n p (bit_xor x y) ≡ bit_xor (moved_by n p x) (moved_by n p y)
unfolding moved_by
moved_by-xor zero p x y = refl
moved_by-xor (suc n) p x y = ap (moved_by n p) (moved-xor p x y) ∙ moved_by-xor n p (moved p x) (moved p y)

moved_by-add : (m n p x : ℕ) → moved_by (m + n) p x ≡ moved_by n p (moved_by m p x)
unfolding moved_by
moved_by-add zero n p x = let e : zero + n ≡ n = omega arith in ap (λ k. moved_by k p x) e
moved_by-add (suc m) n p x = let e : suc m + n ≡ suc (m + n) = omega arith in ap (λ k. moved_by k p x) e ∙ moved_by-add m n p (moved p x)

moved_by-zero : (n p : ℕ) → moved_by n p 0 ≡ 0
unfolding moved_by
moved_by-zero zero p = refl
moved_by-zero (suc n) p = moved_by-zero n p

-- ---- bytes that come down each through the table that has its distance from the last
abbrev summed : ℕ → (sum : ℕ) → List ℕ → ℕ
summed p sum [] = sum
summed p sum (y ∷ ys) = summed p (bit_xor sum (moved_by (8 * suc (length ys)) p y)) ys

behind_summed : (p x : ℕ) (ys : List ℕ) → remainder_behind p x ys ≡ summed p (moved_by (8 * length ys) p x) ys
unfolding remainder_behind moved_by
behind_summed p x [] = refl
behind_summed p x (y ∷ ys) =
    let e : 8 * suc (length ys) ≡ 8 + 8 * length ys = omega arith in
    let down : moved_by (8 * length ys) p (moved_by 8 p (bit_xor x y)) ≡ bit_xor (moved_by (8 * suc (length ys)) p x) (moved_by (8 * suc (length ys)) p y) =
    sym (moved_by-add 8 (8 * length ys) p (bit_xor x y)) ∙ ap (λ k. moved_by k p (bit_xor x y)) (sym e) ∙ moved_by-xor (8 * suc (length ys)) p x y in
    behind_summed p (moved_by 8 p (bit_xor x y)) ys ∙ ap (λ n. summed p n ys) down

-- ---- the remainder's own bytes go with the first four
taken_in : (p r s b : ℕ) → moved_by 8 p (bit_xor (bit_xor r s) b) ≡ bit_xor (r / 256) (moved_by 8 p (bit_xor s (bit_xor (r % 256) b)))
taken_in p r s b =
    let high = r / 256 * 2 ^ 8 in
    let low = r % 256 in
    let apart : bit_xor (bit_xor (bit_xor high low) s) b ≡ bit_xor high (bit_xor s (bit_xor low b)) =
    ap (λ n. bit_xor n b) (xor_assoc high low s) ∙ xor_assoc high (bit_xor low s) b ∙ ap (bit_xor high) (ap (λ n. bit_xor n b) (xor_comm low s) ∙ xor_assoc s low b) in
    ap (λ n. moved_by 8 p (bit_xor (bit_xor n s) b)) (sym (xor_shifted r)) ∙ ap (moved_by 8 p) apart ∙ moved_apart 8 p (r / 256) (bit_xor s (bit_xor low b))

four_in : (p r a b c d : ℕ) → r < 2 ^ 32 → (rest : List ℕ)
    → remainder_behind p r (a ∷ b ∷ c ∷ d ∷ rest)
    ≡ remainder_behind p 0 (bit_xor (r % 256) a ∷ bit_xor (r / 256 % 256) b ∷ bit_xor (r / 65536 % 256) c ∷ bit_xor (r / 16777216) d ∷ rest)
unfolding remainder_behind
four_in p r a b c d small rest =
    let s1 = moved_by 8 p (bit_xor 0 (bit_xor (r % 256) a)) in
    let s2 = moved_by 8 p (bit_xor s1 (bit_xor (r / 256 % 256) b)) in
    let s3 = moved_by 8 p (bit_xor s2 (bit_xor (r / 65536 % 256) c)) in
    let e1 : moved_by 8 p (bit_xor r a) ≡ bit_xor (r / 256) s1 = ap (λ n. moved_by 8 p (bit_xor n a)) (sym (xor_zero_r r)) ∙ taken_in p r 0 a in
    let e2 : moved_by 8 p (bit_xor (bit_xor (r / 256) s1) b) ≡ bit_xor (r / 65536) s2 = taken_in p (r / 256) s1 b ∙ ap (λ n. bit_xor n s2) (shr-shr r 8 8) in
    let e3 : moved_by 8 p (bit_xor (bit_xor (r / 65536) s2) c) ≡ bit_xor (r / 16777216) s3 = taken_in p (r / 65536) s2 c ∙ ap (λ n. bit_xor n s3) (shr-shr r 16 8) in
    let whole : r / 16777216 % 256 ≡ r / 16777216 = omega (arith, small) in
    let none : r / 16777216 / 256 ≡ 0 = omega (arith, small) in
    let e4 : moved_by 8 p (bit_xor (bit_xor (r / 16777216) s3) d) ≡ moved_by 8 p (bit_xor s3 (bit_xor (r / 16777216) d)) =
    taken_in p (r / 16777216) s3 d ∙ ap (λ n. bit_xor n (moved_by 8 p (bit_xor s3 (bit_xor (r / 16777216 % 256) d)))) none ∙ xor_zero_l (moved_by 8 p (bit_xor s3 (bit_xor (r / 16777216 % 256) d)))
    ∙ ap (λ n. moved_by 8 p (bit_xor s3 (bit_xor n d))) whole in
    ap (λ n. remainder_behind p (moved_by 8 p (bit_xor (moved_by 8 p (bit_xor (moved_by 8 p (bit_xor n b)) c)) d)) rest) e1
    ∙ ap (λ n. remainder_behind p (moved_by 8 p (bit_xor (moved_by 8 p (bit_xor n c)) d)) rest) e2
    ∙ ap (λ n. remainder_behind p (moved_by 8 p (bit_xor n d)) rest) e3
    ∙ ap (λ n. remainder_behind p n rest) e4

-- eight bytes by eight tables
eight_summed : (p r : ℕ) → r < 2 ^ 32 → (a b c d e f g h : ℕ)
    → remainder_behind p r (a ∷ b ∷ c ∷ d ∷ e ∷ f ∷ g ∷ h ∷ [])
    ≡ summed p 0 (bit_xor (r % 256) a ∷ bit_xor (r / 256 % 256) b ∷ bit_xor (r / 65536 % 256) c ∷ bit_xor (r / 16777216) d ∷ e ∷ f ∷ g ∷ h ∷ [])
eight_summed p r small a b c d e f g h =
    let ys = bit_xor (r % 256) a ∷ bit_xor (r / 256 % 256) b ∷ bit_xor (r / 65536 % 256) c ∷ bit_xor (r / 16777216) d ∷ e ∷ f ∷ g ∷ h ∷ [] in
    four_in p r a b c d small (e ∷ f ∷ g ∷ h ∷ []) ∙ behind_summed p 0 ys ∙ ap (λ n. summed p n ys) (moved_by-zero 64 p)

-- the byte at a place
abbrev pub at : List ℕ → ℕ → ℕ
at bs k = slice_index_or bs k 0

eight_on : (bs : List ℕ) (p r : ℕ) → 8 ≤ length bs
    → remainder_behind p (remainder_behind p r (at bs 0 ∷ at bs 1 ∷ at bs 2 ∷ at bs 3 ∷ at bs 4 ∷ at bs 5 ∷ at bs 6 ∷ at bs 7 ∷ [])) (drop 8 bs) ≡ remainder_behind p r bs
unfolding remainder_behind
eight_on (a ∷ b ∷ c ∷ d ∷ e ∷ f ∷ g ∷ h ∷ bs) p r le = refl
eight_on _ p r le = absurd (omega (arith, le))

-- a byte more, by the table
pub byte_more : (poly r b : ℕ) → b < 256 → moved_by 8 poly (bit_xor r b) ≡ bit_xor (r / 256) (moved_by 8 poly (bit_xor r b % 256))
byte_more poly r b le =
    let x = bit_xor r b in
    let high : x / 256 ≡ r / 256 = xor_shr r b 8 ∙ ap (λ n. bit_xor (r / 256) n) (omega arith) ∙ xor_zero_r (r / 256) in
    let apart : bit_xor (x / 256 * 2 ^ 8) (x % 256) ≡ x = xor_shifted x in
    ap (moved_by 8 poly) (sym apart) ∙ moved_apart 8 poly (x / 256) (x % 256) ∙ ap (λ n. bit_xor n (moved_by 8 poly (x % 256))) high

-- ---- rows
row_of : (p t y : ℕ) → y < 256 → row_at p (256 * t + y) ≡ moved_by (8 * t + 8) p y
row_of p t y small =
    let high : (256 * t + y) / 256 ≡ t = omega (arith, small) in
    let low : (256 * t + y) % 256 ≡ y = omega (arith, small) in
    ap (λ n. moved_by (8 * n + 8) p ((256 * t + y) % 256)) high ∙ ap (moved_by (8 * t + 8) p) low

pub row_read : (p : ℕ) (rows : List ℕ) (t y : ℕ) → AreRows p rows → t < 8 → y < 256 → at rows (256 * t + y) ≡ moved_by (8 * t + 8) p y
row_read p rows t y is few small =
    get_or_from_slice_get rows (256 * t + y) (row_at p (256 * t + y)) 0 (is.rows_are (256 * t + y) (omega (arith, few, small))) ∙ row_of p t y small

pub first_row_read : (p : ℕ) (rows : List ℕ) (y : ℕ) → AreRows p rows → y < 256 → at rows y ≡ moved_by 8 p y
first_row_read p rows y is small = let e : 256 * 0 + y ≡ y = omega arith in ap (at rows) (sym e) ∙ row_read p rows 0 y is (omega arith) small

-- a row of the table before, moved down by a byte more
pub row_above : (p k : ℕ) → 256 ≤ k → moved_by 8 p (row_at p (k - 256)) ≡ row_at p k
row_above p k le =
    let high : 8 * ((k - 256) / 256) + 8 + 8 ≡ 8 * (k / 256) + 8 = omega (arith, le) in
    let low : (k - 256) % 256 ≡ k % 256 = omega (arith, le) in
    sym (moved_by-add (8 * ((k - 256) / 256) + 8) 8 p ((k - 256) % 256)) ∙ ap (λ n. moved_by n p ((k - 256) % 256)) high ∙ ap (moved_by (8 * (k / 256) + 8) p) low

pub row_below : (p k : ℕ) → k < 256 → moved_by 8 p k ≡ row_at p k
row_below p k small = let e : 256 * 0 + k ≡ k = omega arith in sym (row_of p 0 k small) ∙ ap (row_at p) e

-- a row more
pub rows_more : (p n row : ℕ) (rows new : List ℕ) → length rows ≡ n → ((k : ℕ) → k < n → slice_get rows k ≡ Some (row_at p k)) → row ≡ row_at p n
    → new ≡ rows ++ row ∷ [] → (k : ℕ) → k < n + 1 → slice_get new k ≡ Some (row_at p k)
rows_more p n row rows new size are is e =
    below_more (λ k. slice_get new k ≡ Some (row_at p k)) n
    (λ k lt.
    let within : k < length rows = omega (arith, size, lt) in
    let whole : k < length (rows ++ row ∷ []) = rw length-append (omega arith) in
    rw e (slice_get-get_or (rows ++ row ∷ []) k 0 whole ∙ ap Some (get_or_append_left rows (row ∷ []) 0 k within ∙ get_or_from_slice_get rows k (row_at p k) 0 (are k lt))))
    (let whole : n < length (rows ++ row ∷ []) = rw length-append (omega (arith, size)) in
    rw e (slice_get-get_or (rows ++ row ∷ []) n 0 whole ∙ ap Some (get_or_push rows row 0 n size ∙ is)))

-- ---- more bytes
pub remainder_behind-append : (p r : ℕ) (xs ys : List ℕ) → remainder_behind p r (xs ++ ys) ≡ remainder_behind p (remainder_behind p r xs) ys
unfolding remainder_behind
remainder_behind-append p r [] ys = refl
remainder_behind-append p r (x ∷ xs) ys = remainder_behind-append p (moved_by 8 p (bit_xor r x)) xs ys

-- eight bytes more, by eight rows
pub eight_by_rows : (p r : ℕ) (rows bytes : List ℕ) → AreRows p rows → r < 2 ^ 32 → ((k : ℕ) → at bytes k < 256) → 8 ≤ length bytes
    → (sum : ℕ)
    → sum ≡ bit_xor (bit_xor (bit_xor (bit_xor (bit_xor (bit_xor (bit_xor (at rows (1792 + bit_xor (r % 256) (at bytes 0))) (at rows (1536 + bit_xor (r / 256 % 256) (at bytes 1)))) (at rows (1280 + bit_xor (r / 65536 % 256) (at bytes 2)))) (at rows (1024 + bit_xor (r / 16777216) (at bytes 3)))) (at rows (768 + at bytes 4))) (at rows (512 + at bytes 5))) (at rows (256 + at bytes 6))) (at rows (at bytes 7))
    → remainder_behind p sum (drop 8 bytes) ≡ remainder_behind p r bytes
eight_by_rows p r rows bytes is small fits le sum e =
    let a = bit_xor (r % 256) (at bytes 0) in
    let b = bit_xor (r / 256 % 256) (at bytes 1) in
    let c = bit_xor (r / 65536 % 256) (at bytes 2) in
    let d = bit_xor (r / 16777216) (at bytes 3) in
    let byte : (x k : ℕ) → x < 256 → bit_xor x (at bytes k) < 256 = λ x k lt. xor_lt 8 x (at bytes k) lt (fits k) in
    let r7 = row_read p rows 7 a is (omega arith) (byte (r % 256) 0 (omega arith)) in
    let r6 = row_read p rows 6 b is (omega arith) (byte (r / 256 % 256) 1 (omega arith)) in
    let r5 = row_read p rows 5 c is (omega arith) (byte (r / 65536 % 256) 2 (omega arith)) in
    let r4 = row_read p rows 4 d is (omega arith) (byte (r / 16777216) 3 (omega (arith, small))) in
    let r3 = row_read p rows 3 (at bytes 4) is (omega arith) (fits 4) in
    let r2 = row_read p rows 2 (at bytes 5) is (omega arith) (fits 5) in
    let r1 = row_read p rows 1 (at bytes 6) is (omega arith) (fits 6) in
    let r0 = first_row_read p rows (at bytes 7) is (fits 7) in
    let as_rows : sum ≡ summed p 0 (a ∷ b ∷ c ∷ d ∷ at bytes 4 ∷ at bytes 5 ∷ at bytes 6 ∷ at bytes 7 ∷ []) =
    e ∙ ap (λ n. bit_xor (bit_xor (bit_xor (bit_xor (bit_xor (bit_xor (bit_xor n (at rows (1536 + b))) (at rows (1280 + c))) (at rows (1024 + d))) (at rows (768 + at bytes 4))) (at rows (512 + at bytes 5))) (at rows (256 + at bytes 6))) (at rows (at bytes 7))) r7
    ∙ ap (λ n. bit_xor (bit_xor (bit_xor (bit_xor (bit_xor (bit_xor (bit_xor (moved_by 64 p a) n) (at rows (1280 + c))) (at rows (1024 + d))) (at rows (768 + at bytes 4))) (at rows (512 + at bytes 5))) (at rows (256 + at bytes 6))) (at rows (at bytes 7))) r6
    ∙ ap (λ n. bit_xor (bit_xor (bit_xor (bit_xor (bit_xor (bit_xor (bit_xor (moved_by 64 p a) (moved_by 56 p b)) n) (at rows (1024 + d))) (at rows (768 + at bytes 4))) (at rows (512 + at bytes 5))) (at rows (256 + at bytes 6))) (at rows (at bytes 7))) r5
    ∙ ap (λ n. bit_xor (bit_xor (bit_xor (bit_xor (bit_xor (bit_xor (bit_xor (moved_by 64 p a) (moved_by 56 p b)) (moved_by 48 p c)) n) (at rows (768 + at bytes 4))) (at rows (512 + at bytes 5))) (at rows (256 + at bytes 6))) (at rows (at bytes 7))) r4
    ∙ ap (λ n. bit_xor (bit_xor (bit_xor (bit_xor (bit_xor (bit_xor (bit_xor (moved_by 64 p a) (moved_by 56 p b)) (moved_by 48 p c)) (moved_by 40 p d)) n) (at rows (512 + at bytes 5))) (at rows (256 + at bytes 6))) (at rows (at bytes 7))) r3
    ∙ ap (λ n. bit_xor (bit_xor (bit_xor (bit_xor (bit_xor (bit_xor (bit_xor (moved_by 64 p a) (moved_by 56 p b)) (moved_by 48 p c)) (moved_by 40 p d)) (moved_by 32 p (at bytes 4))) n) (at rows (256 + at bytes 6))) (at rows (at bytes 7))) r2
    ∙ ap (λ n. bit_xor (bit_xor (bit_xor (bit_xor (bit_xor (bit_xor (bit_xor (moved_by 64 p a) (moved_by 56 p b)) (moved_by 48 p c)) (moved_by 40 p d)) (moved_by 32 p (at bytes 4))) (moved_by 24 p (at bytes 5))) n) (at rows (at bytes 7))) r1
    ∙ ap (λ n. bit_xor (bit_xor (bit_xor (bit_xor (bit_xor (bit_xor (bit_xor (moved_by 64 p a) (moved_by 56 p b)) (moved_by 48 p c)) (moved_by 40 p d)) (moved_by 32 p (at bytes 4))) (moved_by 24 p (at bytes 5))) (moved_by 16 p (at bytes 6))) n) r0 in
    ap (λ n. remainder_behind p n (drop 8 bytes)) (as_rows ∙ sym (eight_summed p r small (at bytes 0) (at bytes 1) (at bytes 2) (at bytes 3) (at bytes 4) (at bytes 5) (at bytes 6) (at bytes 7))) ∙ eight_on bytes p r le

-- the next byte of those that are left
step_on : (bs : List ℕ) (k p r : ℕ) → k < length bs
    → remainder_behind p (moved_by 8 p (bit_xor r (at bs k))) (drop (suc k) bs) ≡ remainder_behind p r (drop k bs)
unfolding remainder_behind
step_on [] k p r le = absurd (omega (arith, le))
step_on (b ∷ bs) zero p r le = refl
step_on (b ∷ bs) (suc k) p r le = step_on bs k p r (omega (arith, le))

pub step_at : (bs : List ℕ) (k p r : ℕ) → k < length bs
    → remainder_behind p (moved_by 8 p (bit_xor r (at bs k))) (drop (k + 1) bs) ≡ remainder_behind p r (drop k bs)
step_at bs k p r le = let e : k + 1 ≡ suc k = omega arith in rw e (step_on bs k p r le)

-- none is left
pub done_at : (bs : List ℕ) (k p r : ℕ) → length bs ≤ k → remainder_behind p r (drop k bs) ≡ r
unfolding remainder_behind
done_at bs k p r le = ap (remainder_behind p r) (drop_all k bs le)
