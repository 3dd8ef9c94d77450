-- A number of a type is that of its own bytes.
use Rattle.std.proofs.Common.{◌≡◌, ◌∙◌, ◌≤◌, ◌<◌, ◌-◌, ◌*◌, ◌^◌, ℕ, suc, ℤ, pos, negsuc, Bool, true, false, cond, [], refl, sym, ap, subst, arith, append-nil, leb-true}
use Rattle.std.specs.Prelude.{int_le, ◌-ℤ◌, ◌&&◌}
use Rattle.std.proofs.lemmas.Bool.{and_parts, lt-leb, false≢true}
use Rattle.std.proofs.lemmas.Int.{ints}
use Rattle.byteorder.specs.Numbers.{big_number-reads_back, little_number-reads_back}
use Rattle.byteorder.specs.Endian.{big_bytes, little_bytes}
use Rattle.zarr_meta.specs.declared.kinds.IntKind.{IntKind}
use Rattle.zarr_meta.specs.declared.kinds.IntKind.TheVariants.{Int8, Int16, Int32, Int64, Uint8, Uint16, Uint32, Uint64}
use Rattle.zarr_meta.specs.Kinds.{size_of, is_in_range}
use Rattle.region_cells.specs.Numbers.{values_of, bits_in, number_of_bits, number_of, bits_of_number, bytes_of}

-- ---- bits
bytes_of_values : (kind : IntKind) → values_of kind ≡ 256 ^ size_of kind
bytes_of_values Int8 = refl
bytes_of_values Int16 = refl
bytes_of_values Int32 = refl
bytes_of_values Int64 = refl
bytes_of_values Uint8 = refl
bytes_of_values Uint16 = refl
bytes_of_values Uint32 = refl
bytes_of_values Uint64 = refl

bits_back : (kind : IntKind) (big : Bool) (number : ℤ) → bits_of_number kind number < values_of kind → bits_in kind big (bytes_of kind big number) ≡ bits_of_number kind number
bits_back kind true number h =
    let few : bits_of_number kind number < 256 ^ size_of kind = subst (λ v. bits_of_number kind number < v) (bytes_of_values kind) h in
    ap (bits_in kind true) (sym (append-nil (big_bytes (size_of kind) (bits_of_number kind number)))) ∙ big_number-reads_back (size_of kind) (bits_of_number kind number) [] few
bits_back kind false number h =
    let few : bits_of_number kind number < 256 ^ size_of kind = subst (λ v. bits_of_number kind number < v) (bytes_of_values kind) h in
    ap (bits_in kind false) (sym (append-nil (little_bytes (size_of kind) (bits_of_number kind number)))) ∙ little_number-reads_back (size_of kind) (bits_of_number kind number) [] few

-- ---- two's complement
abbrev bits_by : (values : ℕ) → ℤ → ℕ
bits_by values (pos n) = n
bits_by values (negsuc n) = values - suc n

record IsBack (half : ℕ) (number : ℤ) : Type 0 where
  few : bits_by (2 * half) number < 2 * half
  back : cond (int_le (pos (bits_by (2 * half) number)) (pos (half - 1))) (pos (bits_by (2 * half) number)) (pos (bits_by (2 * half) number) -ℤ pos (2 * half)) ≡ number

signed_back : (half : ℕ) (number : ℤ) → 1 ≤ half → int_le (negsuc (half - 1)) number && int_le number (pos (half - 1)) ≡ true → IsBack half number
signed_back half (pos n) some e =
    let high = (and_parts (int_le (negsuc (half - 1)) (pos n)) (int_le (pos n) (pos (half - 1))) e).1 in
    let most : n ≤ half - 1 = leb-true n (half - 1) high in
    record { few = omega arith; back = ap (λ b. cond b (pos n) (pos n -ℤ pos (2 * half))) high }
signed_back half (negsuc n) some e =
    let low = (and_parts (int_le (negsuc (half - 1)) (negsuc n)) (int_le (negsuc n) (pos (half - 1))) e).0 in
    let most : n ≤ half - 1 = leb-true n (half - 1) low in
    record {
      few = omega arith;
      back = ap (λ b. cond b (pos (2 * half - suc n)) (pos (2 * half - suc n) -ℤ pos (2 * half))) (lt-leb (2 * half - suc n) (half - 1) (omega arith)) ∙ omega (arith, ints);
    }

record IsOwn (values : ℕ) (number : ℤ) : Type 0 where
  few : bits_by values number < values
  back : cond (int_le (pos (bits_by values number)) (pos (values - 1))) (pos (bits_by values number)) (pos (bits_by values number) -ℤ pos values) ≡ number

unsigned_back : (values : ℕ) (number : ℤ) → 1 ≤ values → int_le (pos 0) number && int_le number (pos (values - 1)) ≡ true → IsOwn values number
unsigned_back values (pos n) some e =
    let high = (and_parts (int_le (pos 0) (pos n)) (int_le (pos n) (pos (values - 1))) e).1 in
    let most : n ≤ values - 1 = leb-true n (values - 1) high in
    record { few = omega arith; back = ap (λ b. cond b (pos n) (pos n -ℤ pos values)) high }
unsigned_back values (negsuc n) some e = absurd (false≢true e)

abbrev Backs : IntKind → ℤ → Type 0
Backs kind number = (bits_of_number kind number < values_of kind) × (number_of_bits kind (bits_of_number kind number) ≡ number)

same_bits : (kind : IntKind) (number : ℤ) → bits_of_number kind number ≡ bits_by (values_of kind) number
same_bits kind (pos n) = refl
same_bits kind (negsuc n) = refl

signed : (kind : IntKind) (half : ℕ) (number : ℤ) → values_of kind ≡ 2 * half → IsBack half number
    → ((bits : ℕ) → number_of_bits kind bits ≡ cond (int_le (pos bits) (pos (half - 1))) (pos bits) (pos bits -ℤ pos (2 * half))) → Backs kind number
signed kind half number v b is =
    let same : bits_of_number kind number ≡ bits_by (2 * half) number = same_bits kind number ∙ ap (λ w. bits_by w number) v in
    (subst (λ w. bits_of_number kind number < w) (sym v) (subst (λ x. x < 2 * half) (sym same) b.few), ap (number_of_bits kind) same ∙ is (bits_by (2 * half) number) ∙ b.back)

unsigned : (kind : IntKind) (number : ℤ) → IsOwn (values_of kind) number
    → ((bits : ℕ) → number_of_bits kind bits ≡ cond (int_le (pos bits) (pos (values_of kind - 1))) (pos bits) (pos bits -ℤ pos (values_of kind))) → Backs kind number
unsigned kind number b is =
    let same = same_bits kind number in
    (subst (λ x. x < values_of kind) (sym same) b.few, ap (number_of_bits kind) same ∙ is (bits_by (values_of kind) number) ∙ b.back)

backs : (kind : IntKind) (number : ℤ) → is_in_range kind number ≡ true → Backs kind number
backs Int8 number e = signed Int8 (2 ^ 7) number refl (signed_back (2 ^ 7) number (omega arith) e) (λ bits. refl)
backs Int16 number e = signed Int16 (2 ^ 15) number refl (signed_back (2 ^ 15) number (omega arith) e) (λ bits. refl)
backs Int32 number e = signed Int32 (2 ^ 31) number refl (signed_back (2 ^ 31) number (omega arith) e) (λ bits. refl)
backs Int64 number e = signed Int64 (2 ^ 63) number refl (signed_back (2 ^ 63) number (omega arith) e) (λ bits. refl)
backs Uint8 number e = unsigned Uint8 number (unsigned_back (2 ^ 8) number (omega arith) e) (λ bits. refl)
backs Uint16 number e = unsigned Uint16 number (unsigned_back (2 ^ 16) number (omega arith) e) (λ bits. refl)
backs Uint32 number e = unsigned Uint32 number (unsigned_back (2 ^ 32) number (omega arith) e) (λ bits. refl)
backs Uint64 number e = unsigned Uint64 number (unsigned_back (2 ^ 64) number (omega arith) e) (λ bits. refl)

pub number_back : (kind : IntKind) (big : Bool) (number : ℤ) → is_in_range kind number ≡ true → number_of kind big (bytes_of kind big number) ≡ number
number_back kind big number e = let b = backs kind number e in ap (number_of_bits kind) (bits_back kind big number b.0) ∙ b.1
