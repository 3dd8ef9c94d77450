-- What parts are where a line is read.
use Rattle.std.specs.Prelude.{◌&&◌, ◌+◌, ◌-◌, ◌*◌, ◌^◌, ◌<◌, ℤ, nat_le, nat_lt, codes}
use Rattle.std.proofs.Common.{◌≡◌, ℕ, ◌≤◌, Bool, true, false, cond, List, [], ◌∷◌, Option, None, Some, Result, Ok, Err, refl, ap, subst, arith}
use Rattle.std.specs.List.{All}
use Rattle.std.specs.Char.{is_ascii_digit}
use Rattle.std.specs.Str.Parse.{digits_value, signed_digits_value}
use Rattle.std.proofs.lemmas.Bool.{and_parts, and_from, leb-true, lt-ltb, cond_both}
use Rattle.std.proofs.lemmas.List.Elements.{All-nil, All-cons, All-head, All-tail}
use Rattle.std.specs.Option.{is_none}
use Rattle.ice_base.specs.Names.{name_fault, IsRefName}
use Rattle.ice_base.specs.Lists.{IsBytes}
use Rattle.std.specs.Str.{is_utf8}
use Rattle.zarr_path.specs.Paths.{is_path}
use Rattle.zarr_path.specs.Indices.{is_index}
use Rattle.script_values.specs.declared.kinds.ScriptKind.{ScriptKind}
use Rattle.script_values.specs.declared.kinds.ScriptKind.TheVariants as k
use Rattle.script_values.specs.Words.{Text, parts}
use Rattle.script_values.specs.Parts.{◌&◌, made, each, only_if}
use Rattle.script_values.specs.Values.{◌reads◌, is_task_name, task_name_of, path_of, text_of, ref_name_of, is_number, number_of, wide_of, numbers_of, is_digits, magnitude, is_signed, fill_of, count_of, index_part_of, index_of, hex_digit_of, byte_of, pairs, bytes_of, tries_in}

pub made_ok : {A B : Type 0} (f : A → B) (r : Result A ScriptKind) (t : B) → made f r ≡ Ok t → (x : A) × (r ≡ Ok x) × (f x ≡ t)
made_ok f (Ok x) t h = (x, refl, cc)
made_ok f (Err k) t h = absurd (cc)

pub both_ok : {A B : Type 0} (a : Result A ScriptKind) (b : Result B ScriptKind) (v : A × B) → (a & b) ≡ Ok v → (a ≡ Ok v.0) × (b ≡ Ok v.1)
both_ok {A} {B} (Ok x) (Ok y) v h = let e : (x, y) ≡ v = cc in (ap (λ (w : A × B). Ok w.0) e, ap (λ (w : A × B). Ok w.1) e)
both_ok (Ok x) (Err k) v h = absurd (cc)
both_ok (Err k) (Ok y) v h = absurd (cc)
both_ok (Err k) (Err j) v h = absurd (cc)

pub only_if_ok : (b : Bool) (kind : ScriptKind) (u : Unit {0}) → only_if b kind ≡ Ok u → b ≡ true
only_if_ok true kind u h = refl
only_if_ok false kind u h = absurd (cc)

-- each part is well where each is well that could be read
pub each_ok : {A B : Type 0} (P : B → Type 0) (f : A → Result B ScriptKind) (words : List A) (ts : List B) → ((w : A) (t : B) → f w ≡ Ok t → P t) → each f words ≡ Ok ts → All P ts
each_ok {A} {B} P f [] ts one h = let e : [] ≡ ts = cc in subst (All P) e (All-nil P)
each_ok {A} {B} P f (w ∷ ws) ts one h =
    let m = made_ok (λ (p : B × List B). p.0 ∷ p.1) (f w & each f ws) ts h in
    let b = both_ok (f w) (each f ws) m.0 m.1 in
    subst (All P) m.2 (All-cons P m.0.0 m.0.1 (one w m.0.0 b.0) (each_ok P f ws m.0.1 one b.1))

-- a value that is tested
pub tested_ok : {A : Type 0} (b : Bool) (x t : A) (kind : ScriptKind) → cond b (Ok x) (Err kind) ≡ Ok t → (b ≡ true) × (x ≡ t)
tested_ok true x t kind h = (refl, cc)
tested_ok false x t kind h = absurd (cc)

pub path_ok : (w path : Text) → path_of w ≡ Ok path → (is_path path ≡ true) × (is_utf8 path ≡ true)
unfolding path_of
path_ok w path h =
    let t = tested_ok (is_path w && is_utf8 w) w path _ h in
    subst (λ (p : Text). (is_path p ≡ true) × (is_utf8 p ≡ true)) t.1 (both_true (is_path w) (is_utf8 w) t.0)
  where
    both_true : (a b : Bool) → (a && b) ≡ true → (a ≡ true) × (b ≡ true)
    both_true true b e = (refl, e)
    both_true false b e = absurd (cc)

pub text_ok : (w text : Text) → text_of w ≡ Ok text → is_utf8 text ≡ true
text_ok w text h = let t = tested_ok (is_utf8 w) w text _ h in subst (λ (x : Text). is_utf8 x ≡ true) t.1 t.0

pub task_name_ok : (w name : Text) → task_name_of w ≡ Ok name → (is_task_name name ≡ true) × (w ≡ name)
unfolding task_name_of
task_name_ok w name h =
    let t = tested_ok (is_task_name w) w name _ h in
    (subst (λ (p : Text). is_task_name p ≡ true) t.1 t.0, t.1)

-- a name that no fault is found of
no_fault : {A : Type 0} (fault : Option A) → is_none fault ≡ true → fault ≡ None
no_fault None h = refl
no_fault (Some x) h = absurd (cc)

pub ref_name_ok : (w name : Text) → ref_name_of w ≡ Ok name → IsRefName name
unfolding ref_name_of
ref_name_ok w name h =
    let t = tested_ok (is_none (name_fault w)) w name _ h in
    subst IsRefName t.1 (no_fault (name_fault w) t.0)

pub number_ok : (least most : ℕ) (w : Text) (n : ℕ) → number_of least most w ≡ Ok n → (least ≤ n) × (n ≤ most)
unfolding number_of
number_ok least most w n h =
    let t = tested_ok (is_number least most w) (digits_value 10 w) n _ h in
    let outer = and_parts _ _ t.0 in
    let inner = and_parts _ _ outer.0 in
    (subst (λ (m : ℕ). least ≤ m) t.1 (leb-true _ _ inner.1), subst (λ (m : ℕ). m ≤ most) t.1 (leb-true _ _ outer.1))

pub count_ok : (text : Option Text) (n : ℕ) → count_of text ≡ Ok n → (1 ≤ n) × (n ≤ 9999)
unfolding count_of
count_ok None n h = let e : 1 ≡ n = cc in subst (λ (m : ℕ). (1 ≤ m) × (m ≤ 9999)) e (omega arith, omega arith)
count_ok (Some w) n h = number_ok 1 9999 w n h

-- a number of a list has 128 bits
abbrev pub IsWide : ℕ → Type 0
IsWide n = n ≤ 2 ^ 128 - 1

pub numbers_ok : (w : Text) (ns : List ℕ) → numbers_of w ≡ Ok ns → All IsWide ns
unfolding numbers_of
numbers_ok w ns h =
    cond_both (w reads codes "-") (Ok []) (each wide_of (parts 44 w)) (λ (r : Result (List ℕ) ScriptKind). r ≡ Ok ns → All IsWide ns)
    (λ _ e. let none : [] ≡ ns = cc in subst (All IsWide) none (All-nil IsWide))
    (λ _ e. each_ok IsWide wide_of (parts 44 w) ns (λ part n is. (number_ok 0 (2 ^ 128 - 1) part n is).1) e)
    h

pub fill_ok : (w : Text) (fill : ℤ) → fill_of w ≡ Ok fill → is_signed fill ≡ true
unfolding fill_of
fill_ok w fill h =
    let t = tested_ok (is_digits (magnitude w) && is_signed (signed_digits_value 10 w)) (signed_digits_value 10 w) fill _ h in
    subst (λ (z : ℤ). is_signed z ≡ true) t.1 (and_parts _ _ t.0).1

-- the numbers of an index have 32 bits
abbrev IsLow : ℕ → Type 0
IsLow n = n < 2 ^ 32

all_low : (ns : List ℕ) → All IsLow ns → is_index ns ≡ true
unfolding is_index
all_low [] low = refl
all_low (n ∷ ns) low = and_from (nat_lt n (2 ^ 32)) (is_index ns) (lt-ltb n (2 ^ 32) (All-head IsLow n ns low)) (all_low ns (All-tail IsLow n ns low))

pub index_ok : (w : Text) (index : List ℕ) → index_of w ≡ Ok index → is_index index ≡ true
unfolding index_of
index_ok w index h =
    cond_both (w reads codes "-") (Ok []) (each index_part_of (parts 44 w)) (λ (r : Result (List ℕ) ScriptKind). r ≡ Ok index → is_index index ≡ true)
    (λ _ e. let none : [] ≡ index = cc in subst (λ (ns : List ℕ). is_index ns ≡ true) none (all_low [] (All-nil IsLow)))
    (λ _ e. all_low index (each_ok IsLow index_part_of (parts 44 w) index (λ part n is. omega (arith, (number_ok 0 (2 ^ 32 - 1) part n is).1)) e))
    h

pub digit_ok : (b d : ℕ) → hex_digit_of b ≡ Ok d → d < 16
unfolding hex_digit_of
digit_ok b d h =
    cond_both (nat_le 48 b && nat_le b 57) (Ok (b - 48)) _ (λ (r : Result ℕ ScriptKind). r ≡ Ok d → d < 16)
    (λ t e. let same : b - 48 ≡ d = cc in omega (arith, leb-true b 57 (and_parts (nat_le 48 b) (nat_le b 57) t).1, same))
    (λ _. cond_both (nat_le 97 b && nat_le b 102) (Ok (b - 97 + 10)) (Err k.Hex) (λ (r : Result ℕ ScriptKind). r ≡ Ok d → d < 16)
    (λ t e. let same : b - 97 + 10 ≡ d = cc in omega (arith, leb-true b 102 (and_parts (nat_le 97 b) (nat_le b 102) t).1, same))
    (λ _ e. absurd (cc)))
    h

pub byte_ok : (w : Text) (byte : ℕ) → byte_of w ≡ Ok byte → byte < 256
unfolding byte_of
byte_ok [] byte h = absurd (cc)
byte_ok (a ∷ []) byte h = absurd (cc)
byte_ok (a ∷ b ∷ []) byte h =
    let m = made_ok (λ (d : ℕ × ℕ). d.0 * 16 + d.1) (hex_digit_of a & hex_digit_of b) byte h in
    let digits = both_ok (hex_digit_of a) (hex_digit_of b) m.0 m.1 in
    omega (arith, digit_ok a m.0.0 digits.0, digit_ok b m.0.1 digits.1, m.2)
byte_ok (a ∷ b ∷ c ∷ w) byte h = absurd (cc)

pub bytes_ok : (w : Text) (bytes : List ℕ) → bytes_of w ≡ Ok bytes → IsBytes bytes
unfolding bytes_of
bytes_ok w bytes h =
    cond_both (w reads codes "-") (Ok []) (each byte_of (pairs w)) (λ (r : Result (List ℕ) ScriptKind). r ≡ Ok bytes → IsBytes bytes)
    (λ _ e. let none : [] ≡ bytes = cc in subst IsBytes none (All-nil (λ (byte : ℕ). byte < 256)))
    (λ _ e. each_ok (λ (byte : ℕ). byte < 256) byte_of (pairs w) bytes byte_ok e)
    h

pub tries_ok : (w : Text) (tries : ℕ) → tries_in w ≡ Ok tries → tries ≤ 9
unfolding tries_in
tries_ok [] tries h = absurd (cc)
tries_ok (b ∷ []) tries h =
    let t = tested_ok (is_ascii_digit b) (b - 48) tries _ h in
    omega (arith, leb-true b 57 (and_parts (nat_le 48 b) (nat_le b 57) t.0).1, t.1)
tries_ok (b ∷ c ∷ w) tries h = absurd (cc)
